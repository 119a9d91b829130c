-- The answers of the allocator in an environment, as functions.
use Rattle.std.specs.Prelude.{◌≡◌, ℕ, ◌+◌, ◌-◌, ◌/◌, ◌^◌, false, ◌||◌, min, Option, Some, None, unwrap_or, Result, Ok, Err, nat_lt, ◌==◌, if◌then◌else◌}
use Rattle.alloc_env.specs.Terms.{option_map_or, option_or, Ask, Choice, Site, Standing, Delayed, Live, Nothing, bytes_asked, is_calloc, kept_count, live_blocks, replaced, live_block, reserved_size, Heap, is_live_at, reach_at, recycled, standing_at, with_block, with_delayed, without_block, placement}
use Rattle.alloc_env.specs.declared.env.Env.{Env}
use Rattle.alloc_env.specs.declared.bad_free.BadFree.{BadFree}
use Rattle.alloc_env.specs.Treatment.{treatment_of}

-- an answer, and the heap after it
pub record Served : Type 0 where
  pub choice : Choice
  pub heap : Heap

-- the middle of a heap
abbrev pub middle : Heap → ℕ
middle heap = heap.start + (heap.end - heap.start) / 2

-- Where a block goes: at the lowest address at which it fits with its padding. Where the environment isolates, its extent begins
-- at the middle or above, if it fits there.
unfoldable pub spot : Env → Heap → ℕ → Option ℕ
spot env heap size =
    let treatment = treatment_of env in
    let anywhere = placement heap size treatment.side 0 in
    if treatment.isolates then option_or (placement heap size treatment.side (middle heap)) anywhere else anywhere

-- a block that was asked for at a site is placed at an address, and is to be set to 0 where the environment zeroes, or where calloc asks for it
abbrev pub served_at : Env → Heap → Site → Ask → ℕ → Served
served_at env heap site ask at = record {
  choice = record { ask = ask; at = at; zeroed = (treatment_of env).zeroes || is_calloc ask; carried = 0 };
  heap = with_block heap (live_block at (bytes_asked ask) (treatment_of env).side site);
}

-- the answer is null
abbrev pub served_null : Heap → Ask → Served
served_null heap ask = record { choice = record { ask = ask; at = 0; zeroed = false; carried = 0 }; heap = heap }

-- a block is placed in a heap where it goes anywhere, and else the answer is another one
abbrev pub served_in : Env → Heap → Site → Ask → Served → Served
served_in env heap site ask otherwise = option_map_or (served_at env heap site ask) (spot env heap (bytes_asked ask)) otherwise

-- A new block: where it goes nowhere all delayed blocks are recycled, and it is tried once more. More than 4,294,967,295 bytes go nowhere,
-- and nothing is recycled for them.
unfoldable pub served_block : Env → Heap → Site → Ask → Served
served_block env heap site ask =
    if nat_lt (bytes_asked ask) (2 ^ 32)
    then served_in env heap site ask (served_in env (recycled heap) site ask (served_null (recycled heap) ask))
    else served_null heap ask

-- a live block is freed at a site, or delayed where the environment delays
abbrev pub freed : Env → Heap → Site → ℕ → Heap
freed env heap site at = if (treatment_of env).delays then with_delayed heap at site else without_block heap at site

-- In an environment that pads, a new block of a size gets all bytes of the old one's extent from its address on, as far as its own extent reaches.
-- So many of them are behind those that both blocks have.
unfoldable pub carried_over : Env → Heap → ℕ → ℕ → ℕ
carried_over env heap old size =
    let side = (treatment_of env).side in
    let brought = min (unwrap_or (reach_at heap old) 0) (reserved_size size + side) in
    if side == 0 then 0 else brought - kept_count (live_blocks heap.blocks) size (Some old)

-- an answer of a size that stands in place of a block of a heap carries what it may, and that block is freed; unless the answer is null
abbrev pub in_place_of : Env → Heap → Site → ℕ → ℕ → Served → Served
in_place_of env heap site old size served =
    if served.choice.at == 0 then served else
    record { choice = record served.choice { carried = carried_over env heap old size }; heap = freed env served.heap site old }

-- a new block, in place of the one at an address if there is to be one; None where no live block stands there
abbrev pub served_over : Env → Heap → Site → Ask → Option ℕ → Option Served
served_over env heap site ask None = Some (served_block env heap site ask)
served_over env heap site ask (Some old) = if is_live_at heap old then Some (in_place_of env heap site old (bytes_asked ask) (served_block env heap site ask)) else None

-- the answer to an ask; None where it is to replace what is no live block. While a new block is placed the old one stands.
unfoldable pub served_ask : Env → Heap → Site → Ask → Option Served
served_ask env heap site ask = served_over env heap site ask (replaced ask)

-- free of an address at which this stands: a delayed block stays where the environment delays, and every other free is bad
abbrev pub freed_by : Env → Heap → Site → ℕ → Standing → Option Heap
freed_by env heap site at Nothing = None
freed_by env heap site at (Live size) = Some (freed env heap site at)
freed_by env heap site at (Delayed size) = if (treatment_of env).delays then Some heap else None

-- the heap after free, or None where the free is bad; free of null does nothing
unfoldable pub served_free : Env → Heap → Site → ℕ → Option Heap
served_free env heap site at = if at == 0 then Some heap else freed_by env heap site at (standing_at heap at)

-- an ask was answered so and made the new heap of the old one, or it was bad and nothing changed
abbrev pub Answers : Env → Site → Ask → Heap → Heap → Result Choice BadFree → Type 0
Answers env site ask old new (Ok choice) = served_ask env old site ask ≡ Some (record { choice = choice; heap = new })
Answers env site ask old new (Err e) = (served_ask env old site ask ≡ None) × (new ≡ old)

-- a free made the new heap of the old one, or it was bad and nothing changed
abbrev pub Frees : Env → Site → ℕ → Heap → Heap → Result (Unit {0}) BadFree → Type 0
Frees env site at old new (Ok done) = served_free env old site at ≡ Some new
Frees env site at old new (Err e) = (served_free env old site at ≡ None) × (new ≡ old)
