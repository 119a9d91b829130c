use Rattle.schedule_file.proofs.LineLemmas.{is_line-head, is_line-line, is_line-end}
use Rattle.schedule_file.proofs.laws.lines_are_lines.Goals as goal

pub returns : goal.returns
returns c = (is_line-head, is_line-line, is_line-end)
