use Rattle.counts_file.proofs.Written.{count_in-line, count_in-sound}
use Rattle.counts_file.proofs.laws.read_as_written.Goals as goal

pub returns : goal.returns
returns c = (count_in-sound, count_in-line)
