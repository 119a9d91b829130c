-- A link in memory of which no call is to fail: what it took are the first events that it plays.
use Rattle.std.proofs.lemmas.Bool.{lt-ltb}
use Rattle.links.specs.declared.journal.Entry.TheVariants as entry
use Rattle.links.specs.declared.journal.LinkEvent.TheVariants as event
use Rattle.links.specs.declared.journal.LinkFault.{LinkFault}
use Rattle.links.specs.declared.journal.LinkFault.TheVariants as fault
use Rattle.links.proofs.Journaled.{events_in-append, pieces_in-append}
use Rattle.drill.proofs.Terms.{Bool, Err, List, Ok, Result, [], ap, append-nil, arith, drop, false, if◌then◌else◌, length, nat_lt, refl, subst, suc, sym, take, true, zero, ℕ, ◌&&◌, ◌++◌, ◌+◌, ◌<◌, ◌||◌, ◌∙◌, ◌∷◌, ◌≡◌, ◌≤◌, list_any, Entry, LinkEvent, MemoryLink, is_in_order, Comes, Enters, IsNext, Phases, Piece, Refuses, events_in, phases_after, pieces_in, PlaysNext, Script, after_next, event_or_ends, link_coming, link_journal, link_phases, link_script, next_event, taken_after, is_end, IsTame, are_in_order}

-- an event that is taken is the next one of the list
answered : (fails order : Bool) (next event : LinkEvent) (at : ℕ) → (if fails then Err fault.ReadFault else (if order then Ok next else Err (fault.Refused 4 at))) ≡ Ok event → next ≡ event
answered true order next event at is = cc
answered false true next event at is = cc
answered false false next event at is = cc

true-false : true ≡ false → ⊥
true-false is = cc

-- an event that isn't the end stands in the list, behind those that were taken
one_more : (events : List LinkEvent) (taken : ℕ) (event : LinkEvent) → is_end event ≡ false → event_or_ends (drop taken events) ≡ event
    → (taken < length events) × (take (suc taken) events ≡ take taken events ++ event ∷ []) × (drop taken events ≡ event ∷ drop (suc taken) events)
one_more [] zero event other is = absurd (true-false (ap is_end is ∙ other))
one_more [] (suc taken) event other is = absurd (true-false (ap is_end is ∙ other))
one_more (first ∷ events) zero event other is = (omega arith, ap (λ e. e ∷ []) is, ap (λ e. e ∷ events) is)
one_more (first ∷ events) (suc taken) event other is =
    let more = one_more events taken event other is in
    (omega (arith, more.0), ap (λ l. first ∷ l) more.1, more.2)

and_true : (a b : Bool) → (a && b) ≡ true → (a ≡ true) × (b ≡ true)
and_true true b is = (refl, is)
and_true false b is = cc

-- what was taken, and that what is left is in order
abbrev Plays : List LinkEvent → Phases → ℕ → List LinkEvent → Type 0
Plays events phases taken played = (taken ≤ length events) × (played ≡ take taken events) × (are_in_order phases (drop taken events) ≡ true)

plays_more : (events : List LinkEvent) (phases : Phases) (taken : ℕ) (played : List LinkEvent) (event : LinkEvent) → is_end event ≡ false → event_or_ends (drop taken events) ≡ event → Plays events phases taken played
    → Plays events (phases_after event phases) (if nat_lt taken (length events) then taken + 1 else taken) (played ++ event ∷ [])
plays_more events phases taken played event other is plays =
    let more = one_more events taken event other is in
    let one : suc taken ≡ taken + 1 = omega arith in
    let is_more : nat_lt taken (length events) ≡ true = lt-ltb taken (length events) more.0 in
    subst (λ b. Plays events (phases_after event phases) (if b then taken + 1 else taken) (played ++ event ∷ [])) (sym is_more) (
      omega (arith, more.0),
      ap (λ l. l ++ event ∷ []) plays.1 ∙ sym more.1 ∙ ap (λ n. take n events) one,
      subst (λ n. are_in_order (phases_after event phases) (drop n events) ≡ true) one (and_true (is_in_order phases event) _ (sym (ap (are_in_order phases) more.2) ∙ plays.2)).1,
    )

-- an event that was taken, by what it is
plays_taken : (events : List LinkEvent) (phases : Phases) (taken : ℕ) (journal : List Entry) (event : LinkEvent) → event_or_ends (drop taken events) ≡ event → Plays events phases taken (events_in journal)
    → Plays events (phases_after event phases) (taken_after (length events) taken (Ok event)) (events_in (journal ++ entry.Took event ∷ []))
plays_taken events phases taken journal event.Ends is plays =
    (plays.0, events_in-append journal (entry.Took event.Ends ∷ []) ∙ append-nil (events_in journal) ∙ plays.1, plays.2)
plays_taken events phases taken journal (event.Opens conn) is plays =
    subst (Plays events (phases_after (event.Opens conn) phases) _) (sym (events_in-append journal (entry.Took (event.Opens conn) ∷ []))) (plays_more events phases taken (events_in journal) (event.Opens conn) refl is plays)
plays_taken events phases taken journal (event.Piece conn bytes) is plays =
    subst (Plays events (phases_after (event.Piece conn bytes) phases) _) (sym (events_in-append journal (entry.Took (event.Piece conn bytes) ∷ []))) (plays_more events phases taken (events_in journal) (event.Piece conn bytes) refl is plays)
plays_taken events phases taken journal (event.Closes conn) is plays =
    subst (Plays events (phases_after (event.Closes conn) phases) _) (sym (events_in-append journal (entry.Took (event.Closes conn) ∷ []))) (plays_more events phases taken (events_in journal) (event.Closes conn) refl is plays)
plays_taken events phases taken journal event.Settles is plays =
    subst (Plays events (phases_after event.Settles phases) _) (sym (events_in-append journal (entry.Took event.Settles ∷ []))) (plays_more events phases taken (events_in journal) event.Settles refl is plays)

-- phases that are the same for each connection are the same
same_phases : {one other : Phases} → ((conn : ℕ) → one conn ≡ other conn) → one ≡ other
same_phases same = λ i conn. same conn i

-- what is left to play stays in order with other phases and another place that are the same
still_ordered : {one other : Phases} {script later : Script} → one ≡ other → script ≡ later → are_in_order one (drop script.taken script.events) ≡ true → are_in_order other (drop later.taken later.events) ≡ true
still_ordered {one = one} {other = other} {script = script} {later = later} phases place is =
    subst (λ (s : Script). are_in_order other (drop s.taken s.events) ≡ true) place (subst (λ (p : Phases). are_in_order p (drop script.taken script.events) ≡ true) phases is)

-- a take leaves a tame link tame
pub tame_next : (old new : MemoryLink) (result : Result LinkEvent LinkFault) → IsTame old → PlaysNext old new result → Enters (link_phases old) (link_phases new) result → IsTame new
tame_next old new (Ok event) tame plays enters =
    let is : next_event (link_script old) ≡ event = answered _ _ _ event _ plays.answer in
    let more = plays_taken (link_script old).events (link_phases old) (link_script old).taken (link_journal old) event is (tame.within, tame.played, tame.ordered) in
    record {
      none_fails = ap (λ (s : Script). s.plan.numbers) plays.script ∙ tame.none_fails;
      none_goes = ap (λ (s : Script). s.gones) plays.script ∙ tame.none_goes;
      within = subst (λ (s : Script). s.taken ≤ length s.events) (sym plays.script) more.0;
      played = ap events_in plays.journal ∙ more.1 ∙ sym (ap (λ (s : Script). take s.taken s.events) plays.script);
      ordered = still_ordered {script = after_next (link_script old) (Ok event)} (sym (same_phases enters.1)) (sym plays.script) more.2;
      none_gone =
          ap (λ l. list_any (λ (piece : Piece). piece.gone) (pieces_in l)) plays.journal
          ∙ ap (list_any (λ (piece : Piece). piece.gone)) (pieces_in-append (link_journal old) (entry.Took event ∷ []) ∙ append-nil (pieces_in (link_journal old)))
          ∙ tame.none_gone;
    }
tame_next old new (Err fault) tame plays enters = record {
  none_fails = ap (λ (s : Script). s.plan.numbers) plays.script ∙ tame.none_fails;
  none_goes = ap (λ (s : Script). s.gones) plays.script ∙ tame.none_goes;
  within = subst (λ (s : Script). s.taken ≤ length s.events) (sym plays.script) tame.within;
  played = ap events_in plays.journal ∙ tame.played ∙ sym (ap (λ (s : Script). take s.taken s.events) plays.script);
  ordered = still_ordered {script = after_next (link_script old) (Err fault)} (sym (same_phases enters)) (sym plays.script) tame.ordered;
  none_gone = ap (λ l. list_any (λ (piece : Piece). piece.gone) (pieces_in l)) plays.journal ∙ tame.none_gone;
}

or_false : (a b : Bool) → (a || b) ≡ false → (a ≡ false) × (b ≡ false)
or_false true b is = cc
or_false false b is = (refl, is)

-- where the end comes next in a list that has no end in it, all of the list was taken
pub all_taken : (events : List LinkEvent) (taken : ℕ) → list_any is_end events ≡ false → event_or_ends (drop taken events) ≡ event.Ends → take taken events ≡ events
all_taken [] zero none is = refl
all_taken [] (suc taken) none is = refl
all_taken (first ∷ events) zero none is = absurd (true-false (sym (ap is_end is) ∙ (or_false (is_end first) (list_any is_end events) none).0))
all_taken (first ∷ events) (suc taken) none is = ap (λ l. first ∷ l) (all_taken events taken (or_false (is_end first) (list_any is_end events) none).1 is)

-- where the end comes next, it is what the list has next
pub comes_last : (order : Bool) (next : LinkEvent) (at : ℕ) → IsNext (if order then Comes next else Refuses 4 at) event.Ends → next ≡ event.Ends
comes_last true next at is = let same : Comes next ≡ Comes event.Ends = is (λ e. cc) in cc
comes_last false next at is = let same : Refuses 4 at ≡ Comes event.Ends = is (λ e. cc) in cc

-- what is left in order is never refused
never_refuses : (order : Bool) (next : LinkEvent) (at kind offset : ℕ) → order ≡ true → (if order then Comes next else Refuses 4 at) ≡ Refuses kind offset → ⊥
never_refuses true next at kind offset ordered is = cc
never_refuses false next at kind offset ordered is = cc

next_in_order : (phases : Phases) (events : List LinkEvent) → are_in_order phases events ≡ true → is_in_order phases (event_or_ends events) ≡ true
next_in_order phases [] ordered = refl
next_in_order phases (event ∷ events) ordered = (and_true (is_in_order phases event) _ ordered).0

pub tame_goes_on : (link : MemoryLink) → IsTame link → (kind offset : ℕ) → link_coming link ≡ Refuses kind offset → ⊥
tame_goes_on link tame kind offset is =
    let script = link_script link in
    never_refuses (is_in_order (link_phases link) (next_event script)) (next_event script) script.taken kind offset (next_in_order (link_phases link) (drop script.taken script.events) tame.ordered) is
