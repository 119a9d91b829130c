use Rattle.counts_file.proofs.Written.{is_line-count}
use Rattle.counts_file.proofs.laws.lines_are_lines.Goals as goal

pub returns : goal.returns
returns c = is_line-count
