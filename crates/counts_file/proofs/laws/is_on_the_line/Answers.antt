use Rattle.counts_file.proofs.Rising.{count_of-none, count_of-line, from-counts}
use Rattle.counts_file.proofs.laws.is_on_the_line.Goals as goal

pub returns : goal.returns
returns c = λ counts are. (count_of-line 0 counts (from-counts counts are), λ conn none. count_of-none conn counts none)
