use Rattle.diagnosis.proofs.Terms.{drop, ◌++◌, ◌≡◌, try_lines}
use Rattle.diagnosis.proofs.text.add_tries.Given as goal

-- what is written, and the lines of the trials that are left, are the whole
abbrev pub invariant-tries : goal.invariant-tries
invariant-tries l = l.text.items ++ try_lines l.i (drop l.i l.tries) ≡ l.fn.text.items ++ try_lines 0 l.tries
