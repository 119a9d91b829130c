-- What a guest does next as recorded.
use Rattle.std.specs.List.{list_any}
use Rattle.block_book.specs.declared.block.Block.{Block}
use Rattle.guest_cpu.proofs.Terms.{Bool, List, None, Option, Some, [], ap, arith, cond, eqb, false, inl, inr, leb, not, refl, sym, true, ℕ, ◌&&◌, ◌<◌, ◌||◌, ◌∙◌, ◌∷◌, ◌≡◌, ◌≤◌, cases_Bool, none-some, same_Some, MatchBool, Ask, Site, live-front, live-front_delayed, live-without, is_defined, live_blocks, without_live, without_replaced, Heap, is_live_at, without_block, Instr, Ecall, Area, BadFree, frees, allocates, allocation, free, freed, Chooses, Effect, Fails, register, does, Allocate, Free, Nothing, Request, is_refused, request_of, site_of, Range, instruction_at, touched, GuestPages, limits_of, Met, Question, Core, Standing, Turn, core_site, going_on, machine_of, standing, turn_to, IsSend, Turned, Wrote, meeting, meeting_by, meeting_of, asking, heap_after, recorded, recorded_of, recorded_turn, released, released_over}
use Rattle.guest_cpu.specs.declared.event.Question.TheVariants as question
use Rattle.guest_cpu.specs.declared.event.Met.TheVariants as met
use Rattle.guest_cpu.proofs.TurnLemmas.{asks_at}

-- a rule that every access keeps refuses nothing
abbrev pub mapped : Heap → ℕ → ℕ → Bool
mapped heap at count = true

none_refused : (heap : Heap) (range : Option Range) → is_refused (limits_of 0 mapped) heap range ≡ false
none_refused heap None = refl
none_refused heap (Some range) = refl

-- where so many instructions aren't done yet
recorded_within : (until : ℕ) (s : Standing) → s.steps < until → recorded until s ≡ Some (recorded_turn s)
unfolding recorded
recorded_within until s early = let test : leb until s.steps ≡ false = grind arith in rw test refl

pub recorded_reached : (until : ℕ) (s : Standing) → until ≤ s.steps → recorded until s ≡ Some (turn_to (Some question.Reached) s None)
unfolding recorded
recorded_reached until s late = let test : leb until s.steps ≡ true = grind arith in rw test refl

-- an ask without an answer is a question
recorded_asking : (found : Option Instr) (s : Standing) (ask : Ask) → recorded_of found s.guest.heap s (allocation ask None s.guest.machine) ≡ turn_to (Some (asking s.guest.machine.blocks ask)) s None
recorded_asking found s ask = of_defined (is_defined s.guest.machine.blocks ask)
  where
    of_defined : (defined : Bool)
        → recorded_of found s.guest.heap s (cond defined (Chooses ask) (Fails BadFree)) ≡ turn_to (Some (cond defined (question.Wants ask) (question.Failed BadFree))) s None
    of_defined true = refl
    of_defined false = refl

-- the turn of what an instruction comes to
abbrev pub as_recorded : Standing → Option Met → Turn Met → Turn Question
as_recorded s None t = turn_to None t.standing t.written
as_recorded s (Some met.Asks) t = turn_to (Some question.Asks) t.standing t.written
as_recorded s (Some (met.Emits conn bytes)) t = turn_to (Some (question.Emits conn bytes)) t.standing t.written
as_recorded s (Some (met.Allocates ask)) t = turn_to (Some (asking s.guest.machine.blocks ask)) s None
as_recorded s (Some (met.Frees at)) t = recorded_of (Some Ecall) (released s.guest.heap (site_of s.guest.machine) at) s (free s.guest.machine)
as_recorded s (Some (met.Exits code)) t = turn_to (Some (question.Exits code)) t.standing t.written
as_recorded s (Some (met.Failed cause)) t = turn_to (Some (question.Failed cause)) t.standing t.written

-- it is that one
is_recorded : (s : Standing) {first t : Turn Met} → Some first ≡ Some t → as_recorded s first.event first ≡ as_recorded s t.event t
is_recorded s {first = first} {t = t} h = ap (λ (one : Turn Met). as_recorded s one.event one) (same_Some first t h)

-- an instruction that asks nothing
recorded_unasked : (s : Standing) (found : Option Instr) (e : Effect) (t : Turn Met) → meeting_of found s e ≡ Some t → recorded_of found s.guest.heap s e ≡ as_recorded s t.event t
recorded_unasked s found (Chooses ask) t h = absurd (none-some t h)
recorded_unasked s found _ t h = is_recorded s h

by_request : (s : Standing) (t : Turn Met) (request : Request) → request_of (instruction_at s.guest.machine) s.guest.machine ≡ request
    → meeting_by (instruction_at s.guest.machine) request s (does None None s.guest.machine) ≡ Some t
    → recorded_of (instruction_at s.guest.machine) (heap_after request (site_of s.guest.machine) s.guest.heap) s (does None None s.guest.machine) ≡ as_recorded s t.event t
by_request s t (Allocate ask) is h =
    ap (recorded_of (instruction_at s.guest.machine) s.guest.heap s) (allocates s.guest.machine ask is None None) ∙ recorded_asking (instruction_at s.guest.machine) s ask ∙ is_recorded s h
by_request s t (Free at) is h =
    ap (λ (found : Option Instr). recorded_of found (released s.guest.heap (site_of s.guest.machine) at) s (does None None s.guest.machine)) (asks_at (instruction_at s.guest.machine) s.guest.machine (Free at) is (λ (e : Nothing ≡ Free at). cc))
    ∙ ap (recorded_of (Some Ecall) (released s.guest.heap (site_of s.guest.machine) at) s) (frees s.guest.machine at is None None) ∙ is_recorded s h
by_request s t Nothing is h = recorded_unasked s (instruction_at s.guest.machine) (does None None s.guest.machine) t h

recorded_meets : (s : Standing) (t : Turn Met) → meeting mapped s ≡ Some t → recorded_turn s ≡ as_recorded s t.event t
unfolding meeting
recorded_meets s t h = by_request s t (request_of (instruction_at s.guest.machine) s.guest.machine) refl (rw (none_refused s.guest.heap (touched s.guest.machine)) at h)

-- so is what it came to, or what is asked or freed then
pub turned_as : (until : ℕ) (s : Standing) {after new : Standing} {was : Option Met} {came : Option Question} {old_space met_space new_space : GuestPages} → s.steps < until
    → Turned (meeting mapped s) was after old_space met_space
    → ((written : Option Range) → Wrote written old_space met_space → Turned (Some (as_recorded s was (turn_to was after written))) came new old_space new_space) → Turned (recorded until s) came new old_space new_space
turned_as until s early turned answer =
    let answered = answer turned.written turned.wrote in
    record { written = answered.written; turns = recorded_within until s early ∙ ap (λ t. Some t) (recorded_meets s _ turned.turns) ∙ answered.turns; wrote = answered.wrote }

-- or it is a send
pub sends_as : (until : ℕ) (s : Standing) → s.steps < until → IsSend met.Emits (meeting mapped s) → IsSend question.Emits (recorded until s)
sends_as until s early send = record {
  conn = send.conn;
  bytes = send.bytes;
  turn = turn_to (Some (question.Emits send.conn send.bytes)) send.turn.standing send.turn.written;
  turns = recorded_within until s early ∙ ap (λ t. Some t) (recorded_meets s send.turn send.turns ∙ ap (λ came. as_recorded s came send.turn) send.is);
  is = refl;
}

-- a block that isn't live isn't among the live ones
not_live : (at : ℕ) (blocks : List Block) → list_any (λ (block : Block). (eqb block.at at) && not block.delayed) blocks ≡ false → without_live at (live_blocks blocks) ≡ live_blocks blocks
not_live at [] h = refl
not_live at (block ∷ blocks) h = of_delayed (not_live at blocks) block.delayed refl
  where
    of_delayed : (list_any (λ (one : Block). (eqb one.at at) && not one.delayed) blocks ≡ false → without_live at (live_blocks blocks) ≡ live_blocks blocks)
        → (b : Bool) → block.delayed ≡ b → without_live at (live_blocks (block ∷ blocks)) ≡ live_blocks (block ∷ blocks)
    of_delayed later_ones true is =
        let later : list_any (λ (one : Block). (eqb one.at at) && not one.delayed) blocks ≡ false = rest (eqb block.at at) _ (rw is at h) in
        rw (live-front_delayed block blocks is) (later_ones later)
      where
        rest : (b other : Bool) → ((b && false) || other) ≡ false → other ≡ false
        rest true other e = e
        rest false other e = e
    of_delayed later_ones false is =
        let parts = both (eqb block.at at) _ (rw is at h) in
        rw (live-front block blocks is, parts.0, later_ones parts.1) refl
      where
        both : (b other : Bool) → ((b && true) || other) ≡ false → (b ≡ false) × (other ≡ false)
        both true other e = absurd (true_false e)
          where
            true_false : true ≡ false → ⊥
            true_false e = cc
        both false other e = (refl, e)

-- the live blocks after a free by the model
pub released_live : (heap : Heap) (site : Site) (at : ℕ) → live_blocks (released heap site at).blocks ≡ without_live at (live_blocks heap.blocks)
released_live heap site at =
    elim (cases_Bool (is_live_at heap at)) [
      | inl live ↦ rw live (live-without at heap.blocks)
      | inr not_it ↦ rw not_it (sym (not_live at heap.blocks not_it))
    ]

released_ends : (heap : Heap) (site : Site) (at : ℕ) → ((released heap site at).start ≡ heap.start) × ((released heap site at).end ≡ heap.end)
released_ends heap site at =
    elim (cases_Bool (is_live_at heap at)) [
      | inl live ↦ rw live (refl, refl)
      | inr not_it ↦ rw not_it (refl, refl)
    ]

-- the same of the block that an ask replaces
pub released_over_live : (over : Option ℕ) (site : Site) (heap : Heap) → live_blocks (released_over over site heap).blocks ≡ without_replaced over (live_blocks heap.blocks)
released_over_live None site heap = refl
released_over_live (Some old) site heap = released_live heap site old

-- what a release answers tells which it was
pub released_is : (heap new : Heap) (site : Site) (at : ℕ) (live : Bool) → live ≡ is_live_at heap at → MatchBool live (new ≡ without_block heap at site) (new ≡ heap) → new ≡ released heap site at
released_is heap new site at true is h = rw (← is) h
released_is heap new site at false is h = rw (← is) h

-- a block was freed by the model
pub freed_recorded : (core new : Core) (heap : Heap) (at : ℕ) (memory : List Area) → heap ≡ released core.book (core_site core) at → new ≡ going_on (record core { book = heap }) → at ≡ register (machine_of core memory) 10
    → recorded_of (Some Ecall) (released core.book (core_site core) at) (standing core memory) (free (machine_of core memory)) ≡ turn_to None (standing new memory) None
unfolding freed
freed_recorded core new heap at memory heap_is is asked =
    let live = released_live core.book (core_site core) at in
    let ends = released_ends core.book (core_site core) at in
    rw (is, heap_is, live, ends.0, ends.1, asked) refl
