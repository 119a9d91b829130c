-- The run of one host beside that of another.
use Rattle.std.specs.Prelude.{◌≡◌, ℕ, ◌≤◌, true, List}
use Rattle.follow.specs.Terms.{Item, Prefix, Heap, output, Limits, Override, Path, Served}

-- the second limits allow at least what the first do: as many instructions between two items, and with the same blocks each range of bytes; and an
-- environment is kept for as many items, and the same one is in force where none is kept
pub record AreWider (limits wider : Limits) : Type 0 where
  pub budget : limits.budget ≤ wider.budget
  pub permits : (heap : Heap) (at count : ℕ) → limits.permits heap at count ≡ true → wider.permits heap at count ≡ true
  pub keep : wider.keep ≡ limits.keep
  pub base : wider.base ≡ limits.base

-- Under a plan the second run is the first with more instructions. What the first took, was answered and sent begins what the second did.
pub record IsLonger (limits : Limits) (items : List Item) (plan : List Override) (first second : Path) : Type 0 where
  pub served : Served limits items plan first second
  pub steps : first.steps ≤ second.steps
  pub taken : first.state.machine.taken ≤ second.state.machine.taken
  pub choices : Prefix first.choices second.choices
  pub outputs : (conn : ℕ) → Prefix (output first.state conn) (output second.state conn)
