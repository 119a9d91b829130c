use Rattle.counts_file.proofs.Terms.{length}
use Rattle.counts_file.proofs.Refusing.{IsSoFar}
use Rattle.counts_file.proofs.reading.take_lines.Given as goal

abbrev pub invariant-lines : goal.invariant-lines
invariant-lines l = IsSoFar l.text l.counts.items l.least l.rest

abbrev pub decreases-lines : goal.decreases-lines
decreases-lines l = length l.rest
