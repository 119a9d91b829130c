-- One guest call: an ECALL, with its number in x17. A call that answers goes on behind the ECALL.
use Rattle.std.specs.Prelude.{ℕ, ◌+◌, ◌-◌, Bool, true, false, not, List, [], ◌++◌, length, max, take, replicate, Option, Some, None, slice_get, slice_set, unwrap_or, nat_lt, if◌then◌else◌, ◌==◌}
use Rattle.run_history.specs.Terms.{Item, Ask, Calloc, Malloc, Realloc, Choice, bytes_asked, is_allowed, is_defined, live_with, moved_count, replaced, without_live, bytes_at, permitted, put_bytes, read, write, AssertFailed, BadAccess, BadCall, BadFree}
use Rattle.run_history.specs.Machine.{Machine, register, with_register, next_pc, Effect, Goes, Emits, Ends, Wants, Chooses, Fails}

-- the connections that may be sent to, once an item was taken: an open (kind 1) adds its own, a close (3) removes it
abbrev pub connections_after : Item → List Bool → List Bool
connections_after item connections =
    if item.kind == 1 then slice_set connections item.conn true else
    if item.kind == 3 then slice_set connections item.conn false else
    connections

-- The machine once its recv took an item: the first bytes of it, at most x11, stand at x10; x10 is its full length,
-- x11 its connection and x12 its kind.
unfoldable pub received : Item → Machine → Machine
received item m = record m {
  pc = next_pc m;
  registers = with_register 10 (length item.bytes) (with_register 11 item.conn (with_register 12 item.kind m.registers));
  memory = put_bytes m.memory (register m 10) (take (register m 11) item.bytes);
  taken = m.taken + 1;
  connections = connections_after item m.connections;
  since = 0;
}

-- what a recv does with the item that is next, if it is there
abbrev pub takes : Machine → Option Item → Effect
takes m None = Wants
takes m (Some item) = Goes (received item m)

-- call 1, recv: x10 the buffer's address, x11 its length, all of it writable
abbrev pub recv : Option Item → Machine → Effect
recv item m = if permitted write m.memory (register m 10) (register m 11) then takes m item else Fails BadAccess

-- the machine once a call answered
abbrev pub answered : ℕ → Machine → Machine
answered value m = record m { pc = next_pc m; registers = with_register 10 value m.registers; since = m.since + 1 }

-- a connection is open to the guest
abbrev pub may_send : Machine → ℕ → Bool
may_send m conn = unwrap_or (slice_get m.connections conn) false

-- Call 2, send: x10 the connection, x11 the address, x12 the length. It answers 2 for more than 65,535 bytes, 1 for a
-- connection that isn't open, and else 0; an empty send sends nothing.
abbrev pub send : Machine → Effect
send m =
    if nat_lt 65535 (register m 12) then Goes (answered 2 m) else
    if not (may_send m (register m 10)) then Goes (answered 1 m) else
    if not (permitted read m.memory (register m 11) (register m 12)) then Fails BadAccess else
    if register m 12 == 0 then Goes (answered 0 m) else
    Emits (register m 10) (bytes_at read m.memory (register m 11) (register m 12)) (answered 0 m)

-- the bytes that come to a new block from the place of the one that it replaces, as they are before: those that it gets, and those carried behind them
abbrev pub moved_bytes : Machine → Choice → Option ℕ → List ℕ
moved_bytes m choice None = []
moved_bytes m choice (Some old) = bytes_at read m.memory old (moved_count m.blocks choice (Some old))

-- how many bytes are set from a new block's first on: those that come to it, and where it is zeroed all others of it to 0
abbrev pub set_count : List (ℕ × ℕ) → Choice → ℕ
set_count live choice =
    if choice.at == 0 then 0 else
    if choice.zeroed then max (bytes_asked choice.ask) (moved_count live choice (replaced choice.ask)) else
    moved_count live choice (replaced choice.ask)

-- what they are set to
unfoldable pub set_bytes : Machine → Choice → List ℕ
set_bytes m choice =
    let zeros = if choice.zeroed then replicate (bytes_asked choice.ask - moved_count m.blocks choice (replaced choice.ask)) 0 else [] in
    if choice.at == 0 then [] else moved_bytes m choice (replaced choice.ask) ++ zeros

-- The machine once the allocator answered: x10 is the block's address, or 0. Where it isn't 0 the block is live, its first bytes are those of
-- the one that it replaces, which isn't live any more, and where it is zeroed its others are 0; else they are as they were. What the answer
-- carries beside comes too, though it goes past the block's end.
unfoldable pub allocated : Choice → Machine → Machine
allocated choice m = record m {
  pc = next_pc m;
  registers = with_register 10 choice.at m.registers;
  memory = put_bytes m.memory choice.at (set_bytes m choice);
  blocks = live_with choice m.blocks;
  allocations = m.allocations + 1;
  since = m.since + 1;
}

-- what an ask does with the answer that is next, if it is there and C allows it
abbrev pub chooses : Ask → Machine → Option Choice → Effect
chooses ask m None = Chooses ask
chooses ask m (Some choice) =
    if is_allowed m.heap_start m.heap_end m.blocks ask choice then Goes (allocated choice m) else Chooses ask

-- what a call that asks the allocator does: one to replace what is no live block is bad, before it is answered
abbrev pub allocation : Ask → Option Choice → Machine → Effect
allocation ask choice m = if is_defined m.blocks ask then chooses ask m choice else Fails BadFree

-- the machine once a block was freed: a live one at this address isn't live any more
unfoldable pub freed : ℕ → Machine → Machine
freed at m = record m { pc = next_pc m; blocks = without_live at m.blocks; since = m.since + 1 }

-- call 4, free: x10 the block's address; no register changes
abbrev pub free : Machine → Effect
free m = Goes (freed (register m 10) m)

-- The call of a number: 1 recv, 2 send, 3 malloc of x10 bytes, 4 free, 5 exit, 6 a failed assertion, 7 calloc of x10 elements of x11 bytes,
-- 8 realloc of the block at x10 to x11 bytes.
abbrev pub call : ℕ → Option Item → Option Choice → Machine → Effect
call number item choice m =
    if number == 1 then recv item m else
    if number == 2 then send m else
    if number == 3 then allocation (Malloc (register m 10)) choice m else
    if number == 4 then free m else
    if number == 5 then Ends (register m 10) else
    if number == 6 then Fails (AssertFailed (register m 10)) else
    if number == 7 then allocation (Calloc (register m 10) (register m 11)) choice m else
    if number == 8 then allocation (Realloc (register m 10) (register m 11)) choice m else
    Fails BadCall
