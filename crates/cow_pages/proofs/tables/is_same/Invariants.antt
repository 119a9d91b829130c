use Rattle.cow_pages.proofs.Terms.{get_or, true, ℕ, ◌<◌, ◌≡◌}
use Rattle.cow_pages.proofs.tables.is_same.Given as goal

abbrev pub invariant-entries : goal.invariant-entries
invariant-entries l = l.same ≡ true → (i : ℕ) → i < l.k → get_or l.part i 0 ≡ get_or l.other i 0
