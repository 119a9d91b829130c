-- A recv that takes an item.
use Rattle.std.specs.Prelude.{ℕ, ◌+◌, length, take, Option}
use Rattle.guest_cpu.specs.Terms.{Item, received, Machine, register, Range, buffer}
use Rattle.guest_cpu.specs.Standing.{Standing, Live, with_range}

-- the bytes that a recv writes of an item
abbrev pub received_range : Item → Machine → Option Range
received_range item m = buffer (register m 10) (length (take (register m 11) item.bytes))

-- where a guest stands once its recv took an item
abbrev pub taken_standing : Item → Standing → Standing
taken_standing item s = record s { guest = record s.guest { machine = received item s.guest.machine }; steps = s.steps + 1 }

-- a live guest once its recv took an item
abbrev pub live_with_item : ℕ → Item → Live → Live
live_with_item base item live = record {
  standing = taken_standing item live.standing;
  written = with_range base (received_range item live.standing.guest.machine) live.written;
}
