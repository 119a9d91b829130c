-- What is seen of a guest that failed.
use Rattle.std.specs.Prelude.{◌≡◌, ℕ, true, false, List, Option, Some, None, Result, Ok, Err, slice_index}
use Rattle.block_book.specs.Heap.{Heap}
use Rattle.guest_image.specs.Memory.{Area}
use Rattle.item_log.specs.Log.{Log}
use Rattle.rv_isa.specs.declared.instr.Instr.{Instr}
use Rattle.rv_isa.specs.declared.instr.Instr.TheVariants.{Load, Store}
use Rattle.rv_isa.specs.Meaning.{displaced, load_size, store_size}
use Rattle.run_history.specs.declared.answer.Cause.{Cause}
use Rattle.run_history.specs.declared.regs.Regs.{Regs}
use Rattle.rv_exec.specs.Execution.{fetched}
use Rattle.rv_exec.specs.Stepping.{value_of}
use Rattle.guest_cpu.specs.Standing.{Standing}
use Rattle.telling.specs.Items.{taken_last}
use Rattle.telling.specs.Places.{IsPlace, gone_at}
use Rattle.telling.specs.declared.sighting.Access.{Access}
use Rattle.telling.specs.declared.sighting.Sighting.{Sighting}
use Rattle.telling.specs.declared.sighting.Touch.{Touch}

-- the access of an instruction, which loads and stores alone have
abbrev pub wanted_by : Regs → Instr → Option Access
wanted_by regs (Load op rd rs1 imm) = Some (record { write = false; at = displaced (value_of regs rs1) imm; count = load_size op })
wanted_by regs (Store op rs1 rs2 imm) = Some (record { write = true; at = displaced (value_of regs rs1) imm; count = store_size op })
wanted_by regs _ = None

-- that of the instruction which was fetched, if it could be
abbrev pub wanted_of : Regs → Result Instr Cause → Option Access
wanted_of regs (Ok instr) = wanted_by regs instr
wanted_of regs (Err cause) = None

-- the access of the instruction that comes next
abbrev pub wanted : Regs → List Area → Option Access
wanted regs memory = wanted_of regs (fetched regs memory)

-- what is told of an access: the access itself, and what lies where it goes
abbrev pub IsTouch : List Area → Heap → Log → Option Access → Option Touch → Type 0
IsTouch memory heap log None touch = touch ≡ None
IsTouch memory heap log (Some access) None = ⊥
IsTouch memory heap log (Some access) (Some touch) = (touch.access ≡ access) × IsPlace memory heap log access touch.place

-- What is seen of a guest that stands here with so many items taken: each field is what the guest and the log of its items have.
pub record Sees (standing : Standing) (log : Log) (point : ℕ) (seen : Sighting) : Type 0 where
  pub point_is : seen.point ≡ point
  pub steps_is : seen.steps ≡ standing.steps
  pub pc_is : seen.regs.pc ≡ standing.guest.machine.pc
  pub registers_are : seen.regs.x ≡ standing.guest.machine.registers
  pub item_is : seen.item ≡ taken_last log point
  pub touch_is : IsTouch standing.guest.machine.memory standing.guest.heap log (wanted seen.regs standing.guest.machine.memory) seen.touch
  pub pointer_is : seen.pointer ≡ gone_at standing.guest.heap log (slice_index standing.guest.machine.registers 10)
