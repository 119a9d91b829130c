use Rattle.diagnosis.proofs.Terms.{drop, ◌≡◌, cured_at}
use Rattle.diagnosis.proofs.verdict.cured_at.Given as goal

-- none that was passed survives
abbrev pub invariant-tries : goal.invariant-tries
invariant-tries l = cured_at (drop l.t-index l.tries) ≡ cured_at l.tries
