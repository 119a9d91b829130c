use Rattle.counts_file.proofs.Terms.{drop, ◌≡◌, count_of}
use Rattle.counts_file.proofs.counts.Counts.of.Given as goal

abbrev pub invariant-loop-line : goal.invariant-loop-line
invariant-loop-line l = count_of (drop l.line-index l.line-items) l.conn ≡ count_of l.line-items l.conn
