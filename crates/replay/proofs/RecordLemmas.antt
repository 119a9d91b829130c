-- A replay of a record that a run left is the beginning of that run, and the run's next instruction contradicts each way to differ.
use Rattle.run_history.specs.declared.answer.Answer.TheVariants as answer
use Rattle.replay.proofs.Terms.{List, None, Option, Some, [], ap, append-nil, arith, inl, inr, length, refl, subst, suc, sym, true, zero, ℕ, ◌++◌, ◌+◌, ◌-◌, ◌<◌, ◌∙◌, ◌≡◌, ◌≢◌, ◌≤◌, both_ways, none-some, option_and_then_some, same_Some, slice_get_past, IsSome, slice_get, Item, Entry, Coming, pieces_in, Seen, Ask, Choice, is_allowed, most_blocks, Image, Answer, Cause, repeated_add, Later, does_more, next_parts, run_from, run_more, run_one, takes, Chooses, Fails, State, Wants, start, start_machine, repeated, after, does, effect, next, run, items_in, Line, Recorded, AreGiven, AreOfLines, Differs, Ended, EndsBy, Failed, HasReplayed, IsReplay, IsUnusable, Replay, Starved, Unanswered, Untaken, Unused, bounds_of, choice_by, BringsFirst, IsNoMismatch, IsRecordOf}
use Rattle.replay.proofs.LineLemmas.{line_at, choice_is, same_answers}
use Rattle.replay.proofs.SameLemmas.{Agree, IsAnswered, allowed_asked, answered, run_front, run_same}
use Rattle.replay.proofs.ReplayLemmas.{wants_takes, wants_chooses}
use Rattle.session_history.proofs.Refused.{none_refused}

-- of so many steps there is the first
first_step : {X : Type 0} (step : X → Option X) (count : ℕ) (x y : X) → 0 < count → repeated step count x ≡ Some y → (next : X) × (step x ≡ Some next)
first_step step zero x y some ran = absurd (omega (arith, some))
first_step step (suc count) x y some ran =
    let one_more : suc count ≡ 1 + count = omega arith in
    option_and_then_some (λ z. repeated step count z) (step x) y (sym (repeated_add step x 1 count) ∙ ap (λ (n : ℕ). repeated step n x) (sym one_more) ∙ ran) (λ z here rest. (z, here))

-- no answer was used at the start
pub none_used : (image : Image) (ones others : List Choice) → Agree (start image) ones others
unfolding start start_machine
none_used image ones others i low = absurd (omega (arith, low))

-- A replay is the beginning of the run that a record tells of, and used the same answers of the allocator so far.
pub record IsBeginning (image : Image) (items : List Item) (choices : List Choice) (replay : Replay) : Type 0 where
  pub ran : run items choices (start image) replay.steps ≡ Some replay.state
  pub agree : Agree replay.state replay.choices choices

pub begins : {image : Image} {items : List Item} {choices : List Choice} {recording : Recorded} {entries : List Entry} {replay : Replay} {last : State} → IsReplay image recording entries replay → BringsFirst (bounds_of recording) items entries
    → AreOfLines recording.lines choices → run items choices (start image) recording.steps ≡ Some last → IsBeginning image items choices replay
begins {image = image} {items = items} {choices = choices} {recording = recording} {entries = entries} {replay = replay} {last = last} is brings told whole =
    let front = items_in (bounds_of recording) entries in
    let ran : run (front ++ brings.more) (replay.choices ++ []) (start image) replay.steps ≡ Some replay.state =
    run_more front brings.more replay.choices [] (start image) replay.state replay.steps is.ran.ran in
    let own : run (front ++ brings.more) replay.choices (start image) replay.steps ≡ Some replay.state =
    subst (λ (all : List Choice). run (front ++ brings.more) all (start image) replay.steps ≡ Some replay.state) (append-nil replay.choices) ran in
    let here : run items replay.choices (start image) replay.steps ≡ Some replay.state =
    subst (λ (all : List Item). run all replay.choices (start image) replay.steps ≡ Some replay.state) (sym brings.first) own in
    let low = is.steps in
    let parts : recording.steps ≡ replay.steps + (recording.steps - replay.steps) = omega (arith, low) in
    let there = run_front items choices (start image) replay.steps (recording.steps - replay.steps) (ap (λ (n : ℕ). run items choices (start image) n) (sym parts) ∙ whole) in
    let same = run_same items recording.lines replay.choices choices (start image) replay.steps replay.state there.0 is.lines told (none_used image replay.choices choices) here there.1 in
    record { ran = there.1 ∙ ap (λ (s : State). Some s) (sym same.0); agree = same.1 }

-- at the record's end it stands where that run ended
stands_alike : (items : List Item) (choices : List Choice) (first : State) {here last : State} {steps count : ℕ} → run items choices first steps ≡ Some here → run items choices first count ≡ Some last → steps ≡ count → here ≡ last
stands_alike items choices first {here = here} {last = last} ran whole same =
    same_Some here last (sym ran ∙ ap (λ (n : ℕ). run items choices first n) same ∙ whole)

-- before it, the run goes on by an instruction
pub record GoesOn (items : List Item) (choices : List Choice) (first here : State) (steps : ℕ) : Type 0 where
  pub later : State
  pub goes : after here (effect items choices here.machine) ≡ Some later
  pub lives : here.ended ≡ None
  pub ran : run items choices first (steps + 1) ≡ Some later

pub goes_on : {items : List Item} {choices : List Choice} {first here last : State} {steps count : ℕ} → run items choices first steps ≡ Some here → run items choices first count ≡ Some last → steps < count → GoesOn items choices first here steps
goes_on {items = items} {choices = choices} {first = first} {here = here} {last = last} {steps = steps} {count = count} ran whole short =
    let rest = count - steps in
    let parts : count ≡ steps + rest = omega (arith, short) in
    let some : 0 < rest = omega (arith, short) in
    let step = first_step (next items choices) rest here last some (sym (run_from items choices first here steps rest ran) ∙ ap (λ (n : ℕ). run items choices first n) (sym parts) ∙ whole) in
    let is = next_parts items choices here step.0 step.1 in
    record { later = step.0; goes = is.1; lives = is.0; ran = run_one items choices first here step.0 steps ran step.1 }

-- a run that has ended itself doesn't go on
ended_not : (ended : Option ℕ) → ended ≡ None → IsSome ended → ⊥
ended_not None is some = cc
ended_not (Some code) is some = cc

-- nor does one that fails
failed_not : (items : List Item) (choices : List Choice) (here : State) {later : State} {cause : Cause} → does None None here.machine ≡ Fails cause → after here (effect items choices here.machine) ≡ Some later → ⊥
failed_not items choices here {later = later} {cause = cause} fails goes =
    let still : effect items choices here.machine ≡ Fails cause =
    does_more here.machine None (slice_get items here.machine.taken) None (slice_get choices here.machine.allocations) (Fails cause) (Later _) (Later _) fails
    (record { no_item = (λ e. cc); no_choice = (λ size e. cc) }) in
    none-some later (ap (after here) (sym still) ∙ goes)

-- nor does one that asks for an item behind the last one
pub starved_not : (items : List Item) (choices : List Choice) (here : State) {later : State} → does None None here.machine ≡ Wants → length items ≤ here.machine.taken → after here (effect items choices here.machine) ≡ Some later → ⊥
starved_not items choices here {later = later} wants none goes =
    let still : effect items choices here.machine ≡ Wants =
    wants_takes here.machine wants (slice_get items here.machine.taken) (slice_get choices here.machine.allocations) ∙ ap (takes here.machine) (slice_get_past items here.machine.taken none) in
    none-some later (ap (after here) (sym still) ∙ goes)

-- nor does one whose ask has no answer that can be used, where there was room for a block
unusable_not : (here : State) (ask : Ask) (line : Line) (choice : Choice) → IsUnusable here.machine ask (Some line) → choice ≡ choice_by ask line → is_allowed here.machine.heap_start here.machine.heap_end here.machine.blocks ask choice ≡ true
    → (choice.at ≢ 0 → length here.machine.blocks < most_blocks) → ⊥
unusable_not here ask line choice (inl refused) is allowed room =
    both_ways (is_allowed here.machine.heap_start here.machine.heap_end here.machine.blocks ask choice)
    (ap (λ (c : Choice). is_allowed here.machine.heap_start here.machine.heap_end here.machine.blocks ask c) is ∙ refused) allowed
unusable_not here ask line choice (inr full) is allowed room =
    let low = room (λ null. full.0 (sym (ap (λ (c : Choice). c.at) is) ∙ null)) in
    let many = full.1 in
    omega (arith, low, many)

unanswered_not : (items : List Item) (choices : List Choice) (lines : List Line) (here : State) {later : State} {ask : Ask} {used : ℕ} → does None None here.machine ≡ Chooses ask → here.machine.allocations ≡ used → AreOfLines lines choices
    → IsUnusable here.machine ask (slice_get lines used) → ((choice : Choice) → slice_get choices here.machine.allocations ≡ Some choice → choice.at ≢ 0 → length here.machine.blocks < most_blocks)
    → after here (effect items choices here.machine) ≡ Some later → ⊥
unanswered_not items choices lines here {later = later} {ask = ask} {used = used} wants same told unusable room goes =
    let found = slice_get choices here.machine.allocations in
    let answer : IsAnswered ask here later found = answered ask here found (ap (after here) (sym (wants_chooses here.machine wants (slice_get items here.machine.taken) found)) ∙ goes) in
    let line = line_at lines choices here.machine.allocations told answer.found_is in
    let number : slice_get lines used ≡ Some line.0 = ap (slice_get lines) (sym same) ∙ line.1 in
    let asked = allowed_asked here.machine.heap_start here.machine.heap_end here.machine.blocks ask answer.choice answer.allowed in
    unusable_not here ask line.0 answer.choice (subst (IsUnusable here.machine ask) number unusable) (choice_is line.2 asked) answer.allowed (room answer.choice answer.found_is)

-- no more items come than these, where the link has ended
none_left : {items : List Item} (front : List Item) {more : List Item} {taken : ℕ} → items ≡ front ++ more → more ≡ [] → taken ≡ length front → length items ≤ taken
none_left {items = items} front first all count =
    omega (arith, ap length (first ∙ ap (λ (rest : List Item). front ++ rest) all ∙ append-nil front), count)

-- so it doesn't differ
differs_not : {image : Image} {items : List Item} {choices : List Choice} {state : State} {recording : Recorded} {entries : List Entry} {replay : Replay} → IsReplay image recording entries replay → IsRecordOf image items choices state recording
    → BringsFirst (bounds_of recording) items entries → Differs recording entries replay → ⊥
differs_not {image = image} {items = items} {choices = choices} {state = state} {recording = recording} {entries = entries} {replay = replay} is of_run brings differs = by_case differs
  where
    here : run items choices (start image) replay.steps ≡ Some replay.state
    here = (begins is brings of_run.lines of_run.ran.ran).ran

    on : replay.steps < recording.steps → GoesOn items choices (start image) replay.state replay.steps
    on short = goes_on here of_run.ran.ran short

    ends : replay.steps ≡ recording.steps → replay.state ≡ state
    ends same = stands_alike items choices (start image) here of_run.ran.ran same

    by_case : Differs recording entries replay → ⊥
    by_case (Ended short ended) = ended_not replay.state.ended (on short).lives ended
    by_case (Failed cause short lives fails) = failed_not items choices replay.state fails (on short).goes
    by_case (Unanswered ask short lives wants unusable) =
        unanswered_not items choices recording.lines replay.state wants is.ran.used of_run.lines unusable
        (λ choice found some. of_run.room replay.steps replay.state ask choice short here wants found some) (on short).goes
    by_case (Starved waits ended) =
        starved_not items choices replay.state waits.asks
        (none_left (items_in (bounds_of recording) entries) brings.first (brings.all ended) waits.taken) (on waits.shorter).goes
    by_case (Unused same few) =
        let used : length replay.choices ≡ length choices = sym is.ran.used ∙ ap (λ (s : State). s.machine.allocations) (ends same) ∙ of_run.ran.used in
        let all = of_run.all in
        omega (arith, used, all, few)
    by_case (Untaken same differ) = differ (ap (λ (s : State). s.machine.taken) (ends same) ∙ of_run.taken)

-- the first law
pub record_is_replayed : (image : Image) (items : List Item) (choices : List Choice) (state : State) (recording : Recorded) (began now : Seen) (step before after : ℕ)
    (replayed : HasReplayed image recording began now (answer.Mismatch step) before after)
    → IsRecordOf image items choices state recording → BringsFirst (bounds_of recording) items replayed.entries → ⊥
record_is_replayed image items choices state recording began now step before after replayed of_run brings =
    differs_not replayed.is of_run brings replayed.ends.1

-- at its end it has used the answers of the recorded run, and given its sends
pub finished_gives : {image : Image} {items : List Item} {choices : List Choice} {state : State} {recording : Recorded} {entries : List Entry} {replay : Replay} (coming : Option Coming) → IsReplay image recording entries replay
    → IsRecordOf image items choices state recording → BringsFirst (bounds_of recording) items entries → (end : Answer) → end ≡ answer.Finished → EndsBy image recording entries coming replay end
    → (replay.state ≡ state) × (replay.choices ≡ choices) × AreGiven state.sends (pieces_in entries)
finished_gives {image = image} {items = items} {choices = choices} {state = state} {recording = recording} {entries = entries} {replay = replay} coming is of_run brings end finished ends =
    let here = subst (EndsBy image recording entries coming replay) finished ends in
    let begun = begins is brings of_run.lines of_run.ran.ran in
    let same : replay.state ≡ state = stands_alike items choices (start image) begun.ran of_run.ran.ran here.0 in
    let used = is.ran.used in
    let chosen : replay.choices ≡ choices = same_answers replay.choices choices (here.1 ∙ sym of_run.all) (λ i low. begun.agree i (omega (arith, low, used))) in
    (same, chosen, subst (λ (s : State). AreGiven s.sends (pieces_in entries)) same here.3)

-- the second law
pub replay_gives_sends : (image : Image) (items : List Item) (choices : List Choice) (state : State) (recording : Recorded) (began now : Seen) (before after : ℕ)
    (replayed : HasReplayed image recording began now answer.Finished before after)
    → IsRecordOf image items choices state recording → BringsFirst (bounds_of recording) items replayed.entries → (replayed.replay.state ≡ state) × (replayed.replay.choices ≡ choices) × AreGiven state.sends (pieces_in replayed.entries)
replay_gives_sends image items choices state recording began now before after replayed of_run brings =
    finished_gives now.coming replayed.is of_run brings answer.Finished refl replayed.ends

-- the third law
pub only_faults : (image : Image) (items : List Item) (choices : List Choice) (state : State) (recording : Recorded) (began now : Seen) (end : Answer) (before after : ℕ)
    (replayed : HasReplayed image recording began now end before after)
    → IsRecordOf image items choices state recording → BringsFirst (bounds_of recording) items replayed.entries → IsNoMismatch recording replayed.entries now.coming end
only_faults image items choices state recording began now end before after replayed of_run brings = by_answer end replayed.ends
  where
    by_answer : (end : Answer) → EndsBy image recording replayed.entries now.coming replayed.replay end → IsNoMismatch recording replayed.entries now.coming end
    by_answer answer.Finished ends = tt
    by_answer answer.ReadFault ends = tt
    by_answer answer.WriteFault ends = tt
    by_answer answer.Memory ends = tt
    by_answer (answer.InputRefused kind offset) ends = ends.1
    by_answer (answer.MessageTooLong conn) ends = λ heeds. none_refused _ _ _ heeds ends.1.refused
    by_answer answer.LimitItems ends = λ heeds. none_refused _ _ _ heeds ends.1
    by_answer answer.LimitEvents ends = λ heeds. none_refused _ _ _ heeds ends.1
    by_answer (answer.Mismatch step) ends = absurd (differs_not replayed.is of_run brings ends.1)
    by_answer _ ends = absurd ends
