use Rattle.guest_space.proofs.Terms.{drop, ◌≡◌, some_has}
use Rattle.guest_space.proofs.span.some_has.Given as goal

-- the spans so far don't have the address
abbrev pub invariant-loop-span : goal.invariant-loop-span
invariant-loop-span l = some_has l.flag l.at (drop l.span-index l.spans) ≡ some_has l.flag l.at l.spans
