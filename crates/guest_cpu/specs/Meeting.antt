-- What an instruction comes to before the allocator is asked: in every environment, and as recorded.
use Rattle.std.specs.Prelude.{ℕ, ◌+◌, Bool, not, nat_lt, Option, Some, None, if◌then◌else◌, ◌==◌}
use Rattle.guest_cpu.specs.Terms.{Heap, Instr, bytes_at, read, BadAccess, answered, may_send, Chooses, Effect, Emits, Ends, Fails, Goes, Machine, Wants, does, Allocate, Free, Nothing, Request, is_refused, request_of, instruction_at, touched, limits_of, Met}
use Rattle.guest_cpu.specs.declared.event.Met.TheVariants as met
use Rattle.guest_cpu.specs.Standing.{Standing, moved, stored_by, Turn, turn_to}

-- a send whose bytes may be read, unless it is answered before they are looked at
abbrev pub sends : Machine → ℕ → ℕ → ℕ → Effect
sends m conn at len =
    if nat_lt 65535 len then Goes (answered 2 m) else
    if not (may_send m conn) then Goes (answered 1 m) else
    if len == 0 then Goes (answered 0 m) else
    Emits conn (bytes_at read m.memory at len) (answered 0 m)

-- the turn of an effect of an instruction that asks nothing of the allocator
abbrev pub meeting_of : Option Instr → Standing → Effect → Option (Turn Met)
meeting_of found s (Goes m) = Some (turn_to None (moved m s.guest.heap s) (stored_by found s.guest.machine))
meeting_of found s (Emits conn bytes m) = Some (turn_to (Some (met.Emits conn bytes)) (record (moved m s.guest.heap s) { sends = s.sends + 1 }) None)
meeting_of found s (Ends code) = Some (turn_to (Some (met.Exits code)) (record s { steps = s.steps + 1; ended = Some code }) None)
meeting_of found s Wants = Some (turn_to (Some met.Asks) s None)
meeting_of found s (Fails cause) = Some (turn_to (Some (met.Failed cause)) s None)
meeting_of found s (Chooses ask) = None

-- the turn of an instruction by what it asks of the allocator: what does so isn't done
abbrev pub meeting_by : Option Instr → Request → Standing → Effect → Option (Turn Met)
meeting_by found (Allocate ask) s e = Some (turn_to (Some (met.Allocates ask)) s None)
meeting_by found (Free at) s e = Some (turn_to (Some (met.Frees at)) s None)
meeting_by found Nothing s e = meeting_of found s e

-- What an instruction comes to under a rule, which is asked first, without an item and an answer of the allocator.
unfoldable pub meeting : (Heap → ℕ → ℕ → Bool) → Standing → Option (Turn Met)
meeting rule s =
    if is_refused (limits_of 0 rule) s.guest.heap (touched s.guest.machine) then Some (turn_to (Some (met.Failed BadAccess)) s None) else
    meeting_by (instruction_at s.guest.machine) (request_of (instruction_at s.guest.machine) s.guest.machine) s (does None None s.guest.machine)
