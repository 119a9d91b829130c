use Rattle.report_reading.proofs.Terms.{length, ◌≡◌, last_survived}
use Rattle.report_reading.proofs.reading.last_survived.Given as goal

abbrev pub invariant-tries : goal.invariant-tries
invariant-tries l = last_survived l.rest ≡ last_survived l.tries

abbrev pub decreases-tries : goal.decreases-tries
decreases-tries l = length l.rest
