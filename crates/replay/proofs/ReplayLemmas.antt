-- What each instruction, each answer of the allocator and each item makes of a replay.
use Rattle.run_history.specs.Call.{received}
use Rattle.replay.proofs.Terms.{List, None, Option, Some, [], ap, append-nil, arith, length-append, refl, subst, sym, true, ℕ, ◌++◌, ◌+◌, ◌<◌, ◌∙◌, ◌∷◌, ◌≡◌, slice_get, Item, Send, Entry, Ask, Choice, is_allowed, Image, allocated_keeps, element_behind, next_after, received_keeps, run_chosen, run_join, run_more, run_one, Alone, Picks, Same, Shape, Takes, does_shape, allocated, chooses, takes, Chooses, Goes, Machine, Wants, start, start_machine, after, does, run, start_standing, taken_standing, chosen_standing, Standing, items_in, Line, Recorded, IsOfLine, IsReplay, Replay, bounds_of, replay_of, state_of}
use Rattle.replay.proofs.LineLemmas.{one_more_line}
use Rattle.replay.proofs.RunLemmas.{Ran}

-- a guest at its start is a replay of no instruction
pub replay_start : {image : Image} {recording : Recorded} {entries : List Entry} → IsReplay image recording entries (replay_of [] [] (start_standing image))
unfolding start start_machine
replay_start = record { ran = record { ran = refl; used = refl }; lines = tt; steps = omega arith }

-- one that goes on is one still
pub replay_ran : {image : Image} {recording : Recorded} {entries : List Entry} {choices : List Choice} {sends : List Send} {old new : Standing} (before after : List Send → List Send) → Ran recording.steps old new before after
    → IsReplay image recording entries (replay_of choices (before sends) old) → IsReplay image recording entries (replay_of choices (after sends) new)
replay_ran {image = image} {recording = recording} {entries = entries} {choices = choices} {sends = sends} {old = old} {new = new} before after ran is =
    let items = items_in (bounds_of recording) entries in
    let joined : run items choices (start image) (old.steps + ran.count) ≡ Some (state_of (after sends) new) =
    run_join items choices (start image) (state_of (before sends) old) (state_of (after sends) new) old.steps ran.count is.ran.ran
    (run_more [] items [] choices (state_of (before sends) old) (state_of (after sends) new) ran.count (ran.ran sends)) in
    record {
      ran = record {
        ran = subst (λ (n : ℕ). run items choices (start image) n ≡ Some (state_of (after sends) new)) (sym ran.steps) joined;
        used = ran.allocations ∙ is.ran.used;
      };
      lines = is.lines;
      steps = ran.within is.steps;
    }

-- on a journal that brings more items too
pub replay_more : {image : Image} {recording : Recorded} {entries later : List Entry} (more : List Item) {replay : Replay} → items_in (bounds_of recording) later ≡ items_in (bounds_of recording) entries ++ more
    → IsReplay image recording entries replay → IsReplay image recording later replay
replay_more {image = image} {recording = recording} {entries = entries} more {replay = replay} brings is =
    let ran : run (items_in (bounds_of recording) entries ++ more) (replay.choices ++ []) (start image) replay.steps ≡ Some replay.state =
    run_more (items_in (bounds_of recording) entries) more replay.choices [] (start image) replay.state replay.steps is.ran.ran in
    record {
      ran = record {
        ran = subst (λ (items : List Item). run items replay.choices (start image) replay.steps ≡ Some replay.state) (sym brings)
            (subst (λ (all : List Choice). run (items_in (bounds_of recording) entries ++ more) all (start image) replay.steps ≡ Some replay.state) (append-nil replay.choices) ran);
        used = is.ran.used;
      };
      lines = is.lines;
      steps = is.steps;
    }

-- a journal that brings the same items
pub replay_same : {image : Image} {recording : Recorded} {entries later : List Entry} {replay : Replay} → items_in (bounds_of recording) later ≡ items_in (bounds_of recording) entries
    → IsReplay image recording entries replay → IsReplay image recording later replay
replay_same {recording = recording} {entries = entries} same is = replay_more [] (same ∙ sym (append-nil (items_in (bounds_of recording) entries))) is

-- an instruction that wants an item takes it
pub wants_takes : (m : Machine) → does None None m ≡ Wants → (item : Option Item) (choice : Option Choice) → does item choice m ≡ takes m item
wants_takes m wants item choice = of_shape (does_shape m)
  where
    of_shape : Shape m (λ item choice. does item choice m) → does item choice m ≡ takes m item
    of_shape (Same e alone is) = absurd (subst (Alone m) (sym (is None None) ∙ wants) alone)
    of_shape (Takes may is) = is item choice
    of_shape (Picks ask good is) = let no : Chooses ask ≡ Wants = sym (is None None) ∙ wants in absurd (cc)

-- an instruction that wants an answer of the allocator does with it what its ask does
pub wants_chooses : (m : Machine) {ask : Ask} → does None None m ≡ Chooses ask → (item : Option Item) (choice : Option Choice) → does item choice m ≡ chooses ask m choice
wants_chooses m {ask = ask} wants item choice = of_shape (does_shape m)
  where
    of_shape : Shape m (λ item choice. does item choice m) → does item choice m ≡ chooses ask m choice
    of_shape (Same e alone is) = absurd (subst (Alone m) (sym (is None None) ∙ wants) alone)
    of_shape (Takes may is) = let no : Wants ≡ Chooses ask = sym (is None None) ∙ wants in absurd (cc)
    of_shape (Picks wanted good is) =
        let asks : Chooses wanted ≡ Chooses ask = sym (is None None) ∙ wants in
        let same : wanted ≡ ask = cc in
        is item choice ∙ ap (λ (a : Ask). chooses a m choice) same

-- a replay takes the item that is next
pub replay_takes : {image : Image} {recording : Recorded} {entries : List Entry} {choices : List Choice} {sends : List Send} (s : Standing) {item : Item} → s.ended ≡ None → s.steps < recording.steps → does None None s.guest.machine ≡ Wants
    → slice_get (items_in (bounds_of recording) entries) s.guest.machine.taken ≡ Some item
    → IsReplay image recording entries (replay_of choices sends s) → IsReplay image recording entries (replay_of choices sends (taken_standing item s))
replay_takes {image = image} {recording = recording} {entries = entries} {choices = choices} {sends = sends} s {item = item} lives low wants here is =
    let items = items_in (bounds_of recording) entries in
    let keeps = received_keeps item s.guest.machine in
    let acts : does (slice_get items s.guest.machine.taken) (slice_get choices s.guest.machine.allocations) s.guest.machine ≡ Goes (received item s.guest.machine) =
    wants_takes s.guest.machine wants (slice_get items s.guest.machine.taken) (slice_get choices s.guest.machine.allocations) ∙ ap (takes s.guest.machine) here in
    record {
      ran = record {
        ran = run_one items choices (start image) (state_of sends s) (state_of sends (taken_standing item s)) s.steps is.ran.ran
            (next_after items choices (state_of sends s) (Goes (received item s.guest.machine)) lives acts);
        used = keeps.allocations ∙ is.ran.used;
      };
      lines = is.lines;
      steps = omega (arith, low);
    }

-- a replay uses the answer that its record's next line tells of, where C allows it
pub replay_chooses : {image : Image} {recording : Recorded} {entries : List Entry} {choices : List Choice} {sends : List Send} (s : Standing) {ask : Ask} {line : Line} {choice : Choice} → s.ended ≡ None → s.steps < recording.steps
    → does None None s.guest.machine ≡ Chooses ask → slice_get recording.lines s.guest.machine.allocations ≡ Some line → IsOfLine line choice
    → is_allowed s.guest.machine.heap_start s.guest.machine.heap_end s.guest.machine.blocks ask choice ≡ true
    → IsReplay image recording entries (replay_of choices sends s) → IsReplay image recording entries (replay_of (choices ++ choice ∷ []) sends (chosen_standing choice s))
replay_chooses {image = image} {recording = recording} {entries = entries} {choices = choices} {sends = sends} s {ask = ask} {line = line} {choice = choice} lives low wants here told allowed is =
    let items = items_in (bounds_of recording) entries in
    let n = s.guest.machine.allocations in
    let later : Machine = allocated choice s.guest.machine in
    let keeps = allocated_keeps choice s.guest.machine in
    let acts : does (slice_get items s.guest.machine.taken) (slice_get (choices ++ choice ∷ []) n) s.guest.machine ≡ Goes later =
    wants_chooses s.guest.machine wants (slice_get items s.guest.machine.taken) (slice_get (choices ++ choice ∷ []) n)
    ∙ ap (chooses ask s.guest.machine) (element_behind choices choice n (sym is.ran.used)) ∙ rw allowed refl in
    record {
      ran = record {
        ran = run_one items (choices ++ choice ∷ []) (start image) (state_of sends s) (state_of sends (chosen_standing choice s)) s.steps
            (run_chosen items choices (choice ∷ []) (start image) (state_of sends s) s.steps is.ran.ran)
            (next_after items (choices ++ choice ∷ []) (state_of sends s) (Goes later) lives acts);
        used = keeps.allocations ∙ ap (λ (k : ℕ). k + 1) is.ran.used ∙ sym (length-append choices (choice ∷ []));
      };
      lines = one_more_line recording.lines choices is.lines (sym (ap (slice_get recording.lines) is.ran.used) ∙ here) told;
      steps = omega (arith, low);
    }
