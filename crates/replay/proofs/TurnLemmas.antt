-- A turn of a guest as recorded is one more instruction of its run, or says why there is none.
use Rattle.rv_isa.specs.declared.instr.Instr.{Instr}
use Rattle.block_book.proofs.Rooms.{bare-filter}
use Rattle.run_history.specs.Machine.{Ends}
use Rattle.guest_cpu.specs.declared.event.Question.TheVariants as question
use Rattle.replay.proofs.Terms.{Bool, List, None, Option, Some, [], cond, eqb, false, leb, not, refl, subst, true, ℕ, ◌++◌, ◌+◌, ◌<◌, ◌∷◌, ◌≡◌, ◌≤◌, cond_both, leb-false, leb-true, same_Some, Send, Block, Site, Heap, is_bare, is_live_at, without_block, alone_is, next_after, Alone, Keeps, MaySend, Chooses, Effect, Emits, Fails, Goes, Wants, does, next, Allocate, Free, Nothing, Request, request_of, site_of, instruction_at, Question, heap_after, recorded, recorded_of, recorded_turn, released, Standing, Turn, turn_to, state_of}

-- one more instruction of a run, which takes no item and no answer of the allocator
pub record IsStep (old new : Standing) : Type 0 where
  pub goes : (sends : List Send) → next [] [] (state_of sends old) ≡ Some (state_of sends new)
  pub keeps : Keeps old.guest.machine new.guest.machine 1
  pub steps : new.steps ≡ old.steps + 1
  pub ended : new.ended ≡ old.ended
  pub sent : new.sends ≡ old.sends
  pub bare : is_bare old.guest.heap ≡ true → is_bare new.guest.heap ≡ true

-- what a turn says of the run of the guest, by its question
abbrev pub Means : Standing → Option Question → Standing → Type 0
Means old None new = IsStep old new
Means old (Some question.Reached) new = new ≡ old
Means old (Some question.Asks) new = (new ≡ old) × (does None None old.guest.machine ≡ Wants)
Means old (Some (question.Emits conn bytes)) new =
    ((sends : List Send) → next [] [] (state_of sends old) ≡ Some (state_of (sends ++ record { conn = conn; bytes = bytes; taken = old.guest.machine.taken } ∷ []) new))
    × Keeps old.guest.machine new.guest.machine 1 × MaySend old.guest.machine conn bytes × (new.steps ≡ old.steps + 1) × (new.ended ≡ old.ended)
    × (is_bare old.guest.heap ≡ true → is_bare new.guest.heap ≡ true) × (new.sends ≡ old.sends + 1)
Means old (Some (question.Wants ask)) new = (new ≡ old) × (does None None old.guest.machine ≡ Chooses ask)
Means old (Some (question.Exits code)) new =
    ((sends : List Send) → next [] [] (state_of sends old) ≡ Some (state_of sends new)) × (new.guest ≡ old.guest) × (new.steps ≡ old.steps + 1) × (new.ended ≡ Some code) × (new.sends ≡ old.sends)
Means old (Some (question.Failed cause)) new = (new ≡ old) × (does None None old.guest.machine ≡ Fails cause)

-- a free keeps a heap bare
released_bare : (heap : Heap) (site : Site) (place : ℕ) → is_bare heap ≡ true → is_bare (released heap site place) ≡ true
released_bare heap site place bare =
    cond_both (is_live_at heap place) (without_block heap place site) heap (λ h. is_bare h ≡ true)
    (λ _. bare-filter (λ (block : Block). not (eqb block.at place)) heap.blocks bare)
    (λ _. bare)

after_bare : (request : Request) (site : Site) (heap : Heap) → is_bare heap ≡ true → is_bare (heap_after request site heap) ≡ true
after_bare (Allocate ask) site heap bare = bare
after_bare (Free place) site heap bare = released_bare heap site place bare
after_bare Nothing site heap bare = bare

-- what a turn says, by the effect of the instruction
turn_by : (old : Standing) (found : Option Instr) (heap : Heap) (e : Effect) → old.ended ≡ None → (is_bare old.guest.heap ≡ true → is_bare heap ≡ true) → does None None old.guest.machine ≡ e
    → Means old (recorded_of found heap old e).event (recorded_of found heap old e).standing
turn_by old found heap (Goes m) lives bare acts = record {
  goes = λ sends. next_after [] [] (state_of sends old) (Goes m) lives acts;
  keeps = alone_is old.guest.machine (Goes m) acts (record { no_item = λ h. cc; no_choice = λ ask h. cc });
  steps = refl;
  ended = refl;
  sent = refl;
  bare = bare;
}
turn_by old found heap (Emits conn bytes m) lives bare acts =
    let alone : Alone old.guest.machine (Emits conn bytes m) = alone_is old.guest.machine (Emits conn bytes m) acts (record { no_item = λ h. cc; no_choice = λ ask h. cc }) in
    (λ sends. next_after [] [] (state_of sends old) (Emits conn bytes m) lives acts, alone.0, alone.1, refl, refl, bare, refl)
turn_by old found heap (Ends code) lives bare acts = (λ sends. next_after [] [] (state_of sends old) (Ends code) lives acts, refl, refl, refl, refl)
turn_by old found heap Wants lives bare acts = (refl, acts)
turn_by old found heap (Chooses ask) lives bare acts = (refl, acts)
turn_by old found heap (Fails cause) lives bare acts = (refl, acts)

-- a turn happens before a record's end, unless it is the end
abbrev pub IsWithin : ℕ → ℕ → Option Question → Type 0
IsWithin until steps (Some question.Reached) = until ≤ steps
IsWithin until steps _ = steps < until

within_by : {until steps : ℕ} (found : Option Instr) (heap : Heap) (old : Standing) (e : Effect) → steps < until → IsWithin until steps (recorded_of found heap old e).event
within_by found heap old (Goes m) low = low
within_by found heap old (Emits conn bytes m) low = low
within_by found heap old (Ends code) low = low
within_by found heap old Wants low = low
within_by found heap old (Chooses ask) low = low
within_by found heap old (Fails cause) low = low

pub turn_means : (until : ℕ) (old : Standing) {t : Turn Question} → old.ended ≡ None → recorded until old ≡ Some t → Means old t.event t.standing × IsWithin until old.steps t.event
unfolding recorded
turn_means until old {t = t} lives turns = of_test (leb until old.steps) refl turns
  where
    of_test : (late : Bool) → leb until old.steps ≡ late → cond late (Some (turn_to (Some question.Reached) old None)) (Some (recorded_turn old)) ≡ Some t → Means old t.event t.standing × IsWithin until old.steps t.event
    of_test true is h =
        subst (λ (u : Turn Question). Means old u.event u.standing × IsWithin until old.steps u.event) (same_Some (turn_to (Some question.Reached) old None) t h) (refl, leb-true until old.steps is)
    of_test false is h =
        subst (λ (u : Turn Question). Means old u.event u.standing × IsWithin until old.steps u.event) (same_Some (recorded_turn old) t h) (
          turn_by old (instruction_at old.guest.machine) (heap_after (request_of (instruction_at old.guest.machine) old.guest.machine) (site_of old.guest.machine) old.guest.heap) (does None None old.guest.machine) lives
              (after_bare (request_of (instruction_at old.guest.machine) old.guest.machine) (site_of old.guest.machine) old.guest.heap) refl,
          within_by (instruction_at old.guest.machine) (heap_after (request_of (instruction_at old.guest.machine) old.guest.machine) (site_of old.guest.machine) old.guest.heap) old (does None None old.guest.machine) (leb-false until old.steps is),
        )
