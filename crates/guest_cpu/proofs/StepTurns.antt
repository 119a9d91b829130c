-- What a step leaves, as a turn.
use Rattle.std.proofs.Common.{Err, Ok}
use Rattle.guest_cpu.proofs.Terms.{Bool, List, None, Result, Some, ap, refl, ℕ, ◌∙◌, ◌≡◌, ◌≢◌, Heap, Instr, Ecall, Store, store_size, Area, Cause, Regs, length-little_bytes, GuestPages, flat, fetched, Leaves, StepsTo, limits_of, Core, counting, machine_of, standing, stored_by, Turned, Wrote, meeting, meeting_of}
use Rattle.guest_cpu.specs.declared.event.Met.TheVariants as met
use Rattle.guest_cpu.proofs.MeetLemmas.{meets_instr}

-- what an instruction left of the memory
leaves_wrote : (instr : Instr) (core : Core) (memory : List Area) (old new : GuestPages) → Leaves instr core.regs old (Ok tt) new → Wrote (stored_by (Some instr) (machine_of core memory)) old new
leaves_wrote (Store op rs1 rs2 imm) core memory old new h = (_, length-little_bytes (store_size op) _, h)
leaves_wrote _ core memory old new h = h

-- the guest with other registers
abbrev pub with_regs : Core → Regs → Core
with_regs core regs = record core { regs = regs }

pub stepped : (rule : Heap → ℕ → ℕ → Bool) (instr : Instr) (core counted : Core) (regs : Regs) (old new : GuestPages) (result : Result (Unit {0}) Cause)
    → fetched core.regs (flat old) ≡ Ok instr → instr ≢ Ecall → result ≡ Ok tt
    → StepsTo (limits_of 0 rule) core.book instr (machine_of core (flat old)) core.regs (flat old) result regs (flat new)
    → Leaves instr core.regs old result new → counted ≡ counting (with_regs core regs)
    → Turned (meeting rule (standing core (flat old))) None (standing counted (flat new)) old new
stepped rule instr core counted regs old new result is other ok done pages counts =
    let goes = rw ok at done in
    record {
      written = stored_by (Some instr) (machine_of core (flat old));
      turns = meets_instr rule (standing core (flat old)) instr is other ∙ ap (meeting_of (Some instr) (standing core (flat old))) goes ∙ rw counts refl;
      wrote = leaves_wrote instr core (flat old) old new (rw ok at pages);
    }

pub step_failed : (rule : Heap → ℕ → ℕ → Bool) (instr : Instr) (core : Core) (regs : Regs) (old new : GuestPages) (result : Result (Unit {0}) Cause) (cause : Cause)
    → fetched core.regs (flat old) ≡ Ok instr → instr ≢ Ecall → result ≡ Err cause
    → StepsTo (limits_of 0 rule) core.book instr (machine_of core (flat old)) core.regs (flat old) result regs (flat new)
    → Leaves instr core.regs old result new
    → Turned (meeting rule (standing core (flat old))) (Some (met.Failed cause)) (standing (with_regs core regs) (flat new)) old new
step_failed rule instr core regs old new result cause is other fails done pages =
    let failed = rw fails at done in
    record {
      written = None;
      turns = meets_instr rule (standing core (flat old)) instr is other ∙ ap (meeting_of (Some instr) (standing core (flat old))) failed.0 ∙ rw (failed.1, failed.2) refl;
      wrote = same_space instr (rw fails at pages);
    }
  where
    same_space : (i : Instr) → Leaves i core.regs old (Err cause) new → new ≡ old
    same_space (Store op rs1 rs2 imm) h = h
    same_space _ h = h
