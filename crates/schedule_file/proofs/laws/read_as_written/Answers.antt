use Rattle.schedule_file.proofs.Written.{head_of-sound, head_of-written, answer_of-sound, answer_of-line, end_of-sound, end_of-line}
use Rattle.schedule_file.proofs.laws.read_as_written.Goals as goal

pub returns : goal.returns
returns c = (head_of-sound, head_of-written, answer_of-sound, answer_of-line, end_of-sound, end_of-line)
