-- The phases in a table of connections.
use Rattle.std.proofs.lemmas.List.{get_or-replicate, get_or_past, length-replicate}
use Rattle.links.proofs.Terms.{Bool, ap, false, if◌then◌else◌, inl, inr, refl, replicate, slice_index_or, true, ℕ, ◌≡◌, cases_lt, Unopened, phase_of}
use Rattle.links.specs.declared.connection_table.State.TheVariants as state

-- a list of one state alone, read past its end too
same_state : (n conn : ℕ) → slice_index_or (replicate n state.Unopened) conn state.Unopened ≡ state.Unopened
same_state n conn = elim (cases_lt conn n) [
  | inl less ↦ get_or-replicate n conn state.Unopened state.Unopened less
  | inr past ↦ get_or_past (replicate n state.Unopened) conn state.Unopened (rw length-replicate past)
]

-- a new table has no connection that was opened
pub new_table : (below : Bool) (n conn : ℕ) → (if below then phase_of (slice_index_or (replicate n state.Unopened) conn state.Unopened) else Unopened) ≡ Unopened
new_table true n conn = ap phase_of (same_state n conn)
new_table false n conn = refl
