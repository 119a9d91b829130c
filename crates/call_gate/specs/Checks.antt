-- Which bytes a call looks at, and whether they may be touched.
use Rattle.std.specs.Prelude.{ℕ, Bool, true, false, not, ◌&&◌, ◌||◌, List, Option, Some, None, Result, Ok, Err, slice_get, unwrap_or, nat_lt, if◌then◌else◌, ◌==◌}
use Rattle.block_book.specs.Heap.{Heap}
use Rattle.guest_image.specs.Memory.{Area, read, write, permitted}
use Rattle.run_history.specs.declared.answer.Cause.{Cause}
use Rattle.run_history.specs.declared.answer.Cause.TheVariants.{BadAccess}
use Rattle.call_gate.specs.declared.call.Call.{Call}
use Rattle.call_gate.specs.declared.call.Call.TheVariants.{Recv, Send}

-- so many bytes from an address on, and the permission that they need
pub record Buffer : Type 0 where
  pub flag : ℕ
  pub at : ℕ
  pub count : ℕ

-- The buffer that a call looks at: a recv's, and that of a send of at most 65,535 bytes to a connection that may be sent to.
abbrev pub buffer_of : List Bool → Call → Option Buffer
buffer_of connections (Recv at len) = Some (record { flag = write; at = at; count = len })
buffer_of connections (Send conn at len) =
    if nat_lt 65535 len || not (unwrap_or (slice_get connections conn) false) then None else
    Some (record { flag = read; at = at; count = len })
buffer_of connections _ = None

-- the buffer may be touched: by the areas, and by the rule, which isn't asked of no byte
abbrev pub is_permitted : (Heap → ℕ → ℕ → Bool) → Heap → List Area → Option Buffer → Bool
is_permitted rule heap memory None = true
is_permitted rule heap memory (Some buffer) =
    permitted buffer.flag memory buffer.at buffer.count && (buffer.count == 0 || rule heap buffer.at buffer.count)

-- a buffer that may not be touched fails
abbrev pub checked_buffer : (Heap → ℕ → ℕ → Bool) → Heap → List Area → Option Buffer → Result (Unit {0}) Cause
checked_buffer rule heap memory buffer = if is_permitted rule heap memory buffer then Ok tt else Err BadAccess

-- a call is checked by its buffer
abbrev pub checked : (Heap → ℕ → ℕ → Bool) → Heap → List Area → List Bool → Call → Result (Unit {0}) Cause
checked rule heap memory connections call = checked_buffer rule heap memory (buffer_of connections call)
