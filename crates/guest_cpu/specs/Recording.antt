-- What a guest does next as recorded: without a budget, an environment or a rule. The items and the answers of the allocator are
-- given from outside, and a free does what it does in the model.
use Rattle.std.specs.Prelude.{ℕ, ◌+◌, Bool, List, Option, Some, None, nat_le, length, nat_lt, ◌||◌, ◌&&◌, if◌then◌else◌, ◌==◌}
use Rattle.guest_cpu.specs.Terms.{Ask, Choice, Site, bytes_asked, is_allowed, is_defined, live_blocks, replaced, live_block, Heap, is_live_at, most_blocks, with_block, without_block, Instr, BadFree, allocated, Chooses, Effect, Emits, Ends, Fails, Goes, Wants, does, Free, Request, request_of, site_of, instruction_at, Question}
use Rattle.guest_cpu.specs.declared.event.Question.TheVariants as question
use Rattle.guest_cpu.specs.Standing.{Standing, Live, Turn, turn_to, moved, stored_by, set_range, with_range}

-- The question at an ask: the answer is wanted, unless the ask is to replace what is no live block.
abbrev pub asking : List (ℕ × ℕ) → Ask → Question
asking live ask = if is_defined live ask then question.Wants ask else question.Failed BadFree

-- a live block at an address is gone, freed at a site; any other free changes nothing
abbrev pub released : Heap → Site → ℕ → Heap
released heap site at = if is_live_at heap at then without_block heap at site else heap

-- the heap after what an instruction at a site asks of the allocator
abbrev pub heap_after : Request → Site → Heap → Heap
heap_after (Free at) site heap = released heap site at
heap_after _ site heap = heap

-- the turn of an effect of an instruction, with this heap behind it
abbrev pub recorded_of : Option Instr → Heap → Standing → Effect → Turn Question
recorded_of found heap s (Goes m) = turn_to None (moved m heap s) (stored_by found s.guest.machine)
recorded_of found heap s (Emits conn bytes m) = turn_to (Some (question.Emits conn bytes)) (record (moved m heap s) { sends = s.sends + 1 }) None
recorded_of found heap s (Ends code) = turn_to (Some (question.Exits code)) (record s { steps = s.steps + 1; ended = Some code }) None
recorded_of found heap s Wants = turn_to (Some question.Asks) s None
recorded_of found heap s (Chooses ask) = turn_to (Some (question.Wants ask)) s None
recorded_of found heap s (Fails cause) = turn_to (Some (question.Failed cause)) s None

-- what a guest does next as recorded
abbrev pub recorded_turn : Standing → Turn Question
recorded_turn s =
    recorded_of (instruction_at s.guest.machine) (heap_after (request_of (instruction_at s.guest.machine) s.guest.machine) (site_of s.guest.machine) s.guest.heap) s (does None None s.guest.machine)

-- the same up to so many instructions, which is tested first
unfoldable pub recorded : ℕ → Standing → Option (Turn Question)
recorded until s = if nat_le until s.steps then Some (turn_to (Some question.Reached) s None) else Some (recorded_turn s)

-- whether an answer to an ask can be used: C allows it, and the block has room among those that stand
abbrev pub is_usable : Standing → Ask → Choice → Bool
is_usable s wanted choice =
    is_allowed s.guest.heap.start s.guest.heap.end (live_blocks s.guest.heap.blocks) wanted choice
    && ((choice.at == 0) || nat_lt (length s.guest.heap.blocks) most_blocks)

-- the heap without the block that is replaced
abbrev pub released_over : Option ℕ → Site → Heap → Heap
released_over None site heap = heap
released_over (Some old) site heap = released heap site old

-- the heap with the block of an answer in place of the one that it replaces, unless it is null
abbrev pub heap_with : Choice → Site → Heap → Heap
heap_with choice site heap =
    if choice.at == 0 then heap else released_over (replaced choice.ask) site (with_block heap (live_block choice.at (bytes_asked choice.ask) 0 site))

-- where a guest stands once the allocator answered so
abbrev pub chosen_standing : Choice → Standing → Standing
chosen_standing choice s = moved (allocated choice s.guest.machine) (heap_with choice (site_of s.guest.machine) s.guest.heap) s

-- a live guest once the allocator answered so
abbrev pub live_with_choice : ℕ → Choice → Live → Live
live_with_choice base choice live = record {
  standing = chosen_standing choice live.standing;
  written = with_range base (set_range live.standing.guest.machine.blocks choice) live.written;
}
