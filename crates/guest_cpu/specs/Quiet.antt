-- Instructions of a guest that are no calls, done one after another.
use Rattle.std.specs.Prelude.{◌≡◌, ℕ, ◌+◌, ◌≤◌, Bool}
use Rattle.guest_cpu.specs.Terms.{Heap, Regs, GuestPages, Ran}
use Rattle.guest_cpu.specs.declared.guest_core.Core.{Core}

-- what a guest has beside its memory after so many instructions that left these registers
abbrev pub core_after : ℕ → Regs → Core → Core
core_after count regs core = record core { regs = regs; marks = record core.marks { since = core.marks.since + count; steps = core.marks.steps + count } }

-- some instructions were done under a rule, at most so many
pub record RanOn (rule : Heap → ℕ → ℕ → Bool) (most : ℕ) (old : Core) (old_space : GuestPages) (new : Core) (new_space : GuestPages) : Type 0 where
  pub count : ℕ
  pub few : count ≤ most
  pub ran : Ran rule old.book count old.regs old_space new.regs new_space
  pub is : new ≡ core_after count new.regs old
