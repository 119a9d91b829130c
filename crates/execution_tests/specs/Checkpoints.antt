-- A guest and its checkpoints.
use Rattle.std.specs.Prelude.{◌≡◌, ◌≤◌, None, All}
use Rattle.ckpt_ring.specs.Slots.{Slots}
use Rattle.guest_cpu.specs.Standing.{Standing}

-- neither it nor one of its checkpoints has ended itself, and one can stand
pub record GoesOn (slots : Slots Standing) : Type 0 where
  pub lives : slots.live.ended ≡ None
  pub each_lives : All (λ one. one.state.ended ≡ None) slots.saved
  pub some : 1 ≤ slots.count
