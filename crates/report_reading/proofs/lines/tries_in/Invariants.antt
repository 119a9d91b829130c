use Rattle.report_reading.proofs.Terms.{length, ◌++◌, ◌≡◌, tries_in}
use Rattle.report_reading.proofs.lines.tries_in.Given as goal

abbrev pub invariant-braces : goal.invariant-braces
invariant-braces l = l.tries.items ++ tries_in l.rest ≡ tries_in l.bytes

abbrev pub decreases-braces : goal.decreases-braces
decreases-braces l = length l.rest
