use Rattle.report_reading.proofs.Terms.{length, ◌≡◌, none_survived}
use Rattle.report_reading.proofs.reading.none_survived.Given as goal

abbrev pub invariant-tries : goal.invariant-tries
invariant-tries l = none_survived l.rest ≡ none_survived l.tries

abbrev pub decreases-tries : goal.decreases-tries
decreases-tries l = length l.rest
