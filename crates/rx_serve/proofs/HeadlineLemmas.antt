-- The headline, from what a session over a trunk leaves.
use Rattle.session_history.specs.declared.ends.SessionBreak.TheVariants as session_break
use Rattle.session_history.specs.declared.ends.SessionEnd.TheVariants as session_end
use Rattle.session_history.specs.declared.ends.Stop.TheVariants as stop
use Rattle.run_history.specs.declared.answer.Answer.TheVariants as answer
use Rattle.run_history.specs.Run.{run}
use Rattle.session_history.specs.Owing.{OwesNothing}
use Rattle.session_history.specs.Ends.{EndsBy}
use Rattle.session_history.specs.Passing.{passed_in}
use Rattle.session_history.specs.declared.ends.SessionEnd.{SessionEnd}
use Rattle.rx_serve.proofs.Terms.{IfSome, List, None, Option, Some, [], ap, append-nil, arith, drop, length, refl, subst, suc, sym, true, zero, ℕ, ◌++◌, ◌∙◌, ◌≡◌, ◌≤◌, length-take-le, take-append-drop, none-some, option_and_then_some, same_Some, Item, IsDrained, Stream, Prefix, sent_to, Entry, Coming, PortEntry, PortLimits, Choice, payload, Image, Answer, next_parts, Chooses, Effect, Emits, Ends, Fails, Goes, State, Wants, start, Run, after, effect, next, output, Stop, at_its_end, came_to, holds_at_end, is_end_answer, passed_all, received_at_end, HasPassedAll, IsAccount, Session, journal_of, AtEnd, EndsAt, HasComeTo, IsEnd, answer_of, end_answer, AreGiven, events_of, Rules, entries_of, Episode, Unnoted, noted, Keeping, HasNoted, IsOutcome, Telling, EndsAfter, GoesOverPort, given_to, GoesOver, Port, Route, Serves, Trunk, Carries, StopsTrunk, End, IsDone, IsServed, Passed, PassedCalls, PassedOver, PassedTrunk, Headline, LastExits, received_items}

ended_of : Option State → Option ℕ
ended_of None = None
ended_of (Some state) = state.ended

no_code : {a b : Option ℕ} {code : ℕ} → a ≡ b → a ≡ None → b ≡ Some code → ⊥
no_code e none some = cc

exit_code : {b : Option ℕ} {c code : ℕ} → Some c ≡ b → b ≡ Some code → c ≡ code
exit_code e some = cc

-- an exit is the last instruction of a run that has ended
last_after : (image : Image) (items : List Item) (choices : List Choice) (n : ℕ) (before state : State) (code : ℕ) → run items choices (start image) n ≡ Some before → before.ended ≡ None
    → (does : Effect) → effect items choices before.machine ≡ does → after before does ≡ Some state → state.ended ≡ Some code → LastExits image items choices (suc n) code
unfolding ended_of
last_after image items choices n before state code ran goes (Goes m) is then ended = absurd (no_code (ap ended_of then) goes ended)
last_after image items choices n before state code ran goes (Emits conn bytes m) is then ended = absurd (no_code (ap ended_of then) goes ended)
last_after image items choices n before state code ran goes (Ends c) is then ended =
    record { earlier = n; before = before; counted = omega arith; ran = ran; exits = is ∙ ap Ends (exit_code (ap ended_of then) ended) }
last_after image items choices n before state code ran goes Wants is then ended = cc
last_after image items choices n before state code ran goes (Chooses size) is then ended = cc
last_after image items choices n before state code ran goes (Fails cause) is then ended = cc

start_goes : (image : Image) → (start image).ended ≡ None
unfolding start
start_goes image = refl

last_exits : (image : Image) (items : List Item) (choices : List Choice) (steps : ℕ) (state : State) (code : ℕ) → run items choices (start image) steps ≡ Some state → state.ended ≡ Some code → LastExits image items choices steps code
unfolding ended_of
last_exits image items choices zero state code ran ended = absurd (no_code (ap ended_of ran) (start_goes image) ended)
last_exits image items choices (suc n) state code ran ended =
    option_and_then_some (next items choices) (run items choices (start image) n) state ran (λ before earlier last.
    let parts = next_parts items choices before state last in
    last_after image items choices n before state code earlier parts.0 (effect items choices before.machine) refl parts.1 ended)

-- the end that an answer is
abbrev ending_of : Answer → Option SessionEnd
ending_of answer.Finished = Some session_end.Finished
ending_of (answer.Exited code) = Some (session_end.Exited code)
ending_of (answer.GaveUp point cause) = Some (session_end.GaveUp point cause)
ending_of (answer.InputRefused kind offset) = Some (session_end.InputRefused kind offset)
ending_of (answer.MessageTooLong conn) = Some (session_end.MessageTooLong conn)
ending_of answer.LimitItems = Some session_end.LimitItems
ending_of answer.LimitEvents = Some session_end.LimitEvents
ending_of _ = None

ending_of-end : (end : SessionEnd) → ending_of (end_answer end) ≡ Some end
ending_of-end session_end.Finished = refl
ending_of-end (session_end.Exited code) = refl
ending_of-end (session_end.GaveUp point cause) = refl
ending_of-end (session_end.InputRefused kind offset) = refl
ending_of-end (session_end.MessageTooLong conn) = refl
ending_of-end session_end.LimitItems = refl
ending_of-end session_end.LimitEvents = refl

-- where an end is answered, a session came to that end
stops_with : (why : Stop) (end : SessionEnd) → answer_of why ≡ end_answer end → why ≡ stop.Ends end
stops_with (stop.Ends one) end is = ap stop.Ends (same_Some one end (sym (ending_of-end one) ∙ ap ending_of is ∙ ending_of-end end))
stops_with (stop.Breaks session_break.ReadFault) end is = absurd (none-some end (ap ending_of is ∙ ending_of-end end))
stops_with (stop.Breaks session_break.WriteFault) end is = absurd (none-some end (ap ending_of is ∙ ending_of-end end))
stops_with (stop.Breaks session_break.FileFault) end is = absurd (none-some end (ap ending_of is ∙ ending_of-end end))
stops_with (stop.Breaks session_break.Memory) end is = absurd (none-some end (ap ending_of is ∙ ending_of-end end))

-- at an end each connection still open was passed all that the run emits on it
all_at_end : {rules : Rules} {image : Image} {session : Session} {end : SessionEnd} → IsAccount rules image session → EndsAt rules session end → HasPassedAll rules session
all_at_end {rules = rules} {image = image} {session = session} account ends =
    passed_all rules image session account.passed
    (subst (λ (entries : List Entry). OwesNothing rules.bounds rules.hold (record { start = entries_of session.earlier; since = session.since ++ entries; at_end = true; taken = session.survivor.now.state.machine.taken }) session.survivor.now.state.sends)
    (sym (append-nil session.ending) ∙ ap (λ broken. session.ending ++ broken) (sym ends.unbroken)) ends.owes_nothing)

passed_at_end : (rules : Rules) (session : Session) {image : Image} (why : Stop) → IsAccount rules image session → EndsBy rules session why → AtEnd why (λ end. HasPassedAll rules session)
passed_at_end rules session (stop.Ends end) account ends = all_at_end account (at_its_end rules session end ends)
passed_at_end rules session (stop.Breaks fault) account ends = tt

-- what came to each connection, by what was passed
passed_by : (rules : Rules) (image : Image) (session : Session) (end : Answer) (bytes : ℕ → List ℕ) → ((conn : ℕ) → bytes conn ≡ sent_to conn (passed_in rules.bounds (journal_of session))) → IsAccount rules image session
    → (IsEnd end → HasPassedAll rules session) → Passed rules session end bytes
passed_by rules image session end bytes are account all = record {
  fronts = λ conn. subst (λ list. Prefix list (output session.survivor.now.state conn)) (sym (are conn)) (account.passed conn);
  all = λ is conn opened. are conn ∙ all is conn opened;
}

-- what was written to a sink
passed_trunk : (rules : Rules) (image : Image) (sink sink_later : Option (List ℕ)) (session : Session) (end : Answer) → IsAccount rules image session → (IsEnd end → HasPassedAll rules session)
    → Carries rules.bounds sink sink_later (journal_of session) → IfSome sink (λ before. PassedTrunk rules session end before sink_later)
passed_trunk rules image None later session end account all carries = tt
passed_trunk rules image (Some before) later session end account all carries = record {
  written = carries.written;
  wrote = carries.wrote;
  passed = passed_by rules image session end (λ conn. sent_to conn rules.bounds.before.had ++ payload conn carries.written) carries.payload_is account all;
}

-- and given to the connections of a port
passed_port : (limits : PortLimits) (rules : Rules) (image : Image) (calls calls_later : Option (List PortEntry)) (session : Session) (end : Answer) → IsAccount rules image session → (IsEnd end → HasPassedAll rules session)
    → GoesOverPort limits rules calls calls_later session → IfSome calls (λ before. PassedCalls rules session end before calls_later)
passed_port limits rules image None later session end account all goes = tt
passed_port limits rules image (Some before) None session end account all goes = absurd goes
passed_port limits rules image (Some before) (Some later) session end account all goes = record {
  calls = goes.calls;
  made = ap Some goes.grew;
  passed = passed_by rules image session end (λ conn. given_to conn goes.calls) goes.moved.given account all;
}

-- at Finished the source has no byte left
drained : (source source_later : Option Stream) (events : List _) → StopsTrunk source source_later events session_end.Finished → IfSome source (λ _. IsDrained source_later)
drained None later events stops = tt
drained (Some stream) later events stops = stops.1

-- and each connection of a port was closed
served_all : (limits : PortLimits) (rules : Rules) (calls calls_later : Option (List PortEntry)) (session : Session) → session.came ≡ Some session_end.Finished → GoesOverPort limits rules calls calls_later session
    → IfSome calls (λ before. IsServed limits before calls_later)
served_all limits rules None later session came goes = tt
served_all limits rules (Some before) None session came goes = absurd goes
served_all limits rules (Some before) (Some later) session came goes = record {
  calls = goes.calls;
  made = ap Some goes.grew;
  ends = subst (λ (end : Option SessionEnd). IfSome end (EndsAfter limits goes.calls)) came goes.ends;
}

-- of the answers of the allocator of a run the first ones stand in the record, and the others are the tail
pub record Recorded (session : Session) (end : End) (recording : List Choice) : Type 0 where
  pub count : length recording ≡ end.recorded
  pub all : session.survivor.now.choices ≡ recording ++ end.tail

pub recorded_in : (session : Session) (end : End) (why : Stop) (recording : List Choice) (told : List Episode) {before now : Option Unnoted} (episodes : List Episode)
    → HasNoted (noted (Some []) (Some []) before) (noted (Some recording) (Some told) now) why session.survivor.now.choices episodes end.recorded end.tail → Recorded session end recording
recorded_in session end why recording told episodes has = record {
  count = ap (λ (list : List Choice). length list) has.choices_noted ∙ length-take-le end.recorded session.survivor.now.choices has.low;
  all =
      sym (take-append-drop end.recorded session.survivor.now.choices)
      ∙ ap (λ list. list ++ drop end.recorded session.survivor.now.choices) (sym has.choices_noted)
      ∙ ap (λ list. recording ++ list) (sym has.tail_is);
}

headline_by : (rules : Rules) (keeping : Keeping) (image : Image) (route : Route) (why : Stop) (end : End) (recording : List Choice) (told : List Episode) {before now : Option Unnoted} (coming : Option Coming) (telling : Telling)
    → (IsEnd end.answer → end.answer ≡ answer_of why) → (counted : ℕ)
    (is : IsOutcome rules image keeping coming telling (record { stop = why; recorded = end.recorded; tail = end.tail; taken = end.taken; steps = end.steps }) (noted (Some []) (Some []) before) (noted (Some recording) (Some told) now) counted)
    → (IsAccount rules image telling.account → (IsEnd end.answer → HasPassedAll rules telling.account) → PassedOver route rules telling.account end.answer) → (telling.account.came ≡ Some session_end.Finished → IsDone route)
    → Headline rules image telling.account recording route end
headline_by rules keeping image route why end recording told coming telling same counted is passed done =
    let session : Session = telling.account in
    let items : List Item = received_items rules session in
    let state : State = session.survivor.now.state in
    let its = is.is.ended in
    let recorded : Recorded session end recording = recorded_in session end why recording told _ is.notes in
    let ran : Run image items (recording ++ end.tail) end.steps state =
    subst (λ n. Run image items (recording ++ end.tail) n state) is.steps_are (subst (λ list. Run image items list session.survivor.now.steps state) recorded.all its.account.ran) in
    let ends_at : (e : SessionEnd) → end.answer ≡ end_answer e → EndsAt rules session e =
    λ e answered. at_its_end rules session e (subst (EndsBy rules session) (stops_with why e (sym (same (subst IsEnd (sym answered) (is_end_answer e))) ∙ answered)) its.ends) in
    record {
      recorded = recorded.count;
      ran = ran;
      all_recorded = λ is_end. holds_at_end why (subst IsEnd (same is_end) is_end) is.notes.all_recorded;
      taken = is.taken_is;
      received = subst (λ n. n ≤ length items) is.taken_is its.account.taken;
      passed = passed its.account (λ is_end. holds_at_end why (subst IsEnd (same is_end) is_end) (passed_at_end rules session why its.account its.ends));
      finished = λ e.
          let ends : EndsAt rules session session_end.Finished = ends_at session_end.Finished e in
          let to : HasComeTo rules coming session session_end.Finished = came_to its.comes ends.came in (
            sym is.taken_is ∙ to.stands.0.taken ∙ sym (ap (λ (list : List Item). length list) (received_at_end rules.bounds session its.pieces (subst AreGiven (sym ends.unbroken) tt))),
            done ends.came,
          );
      exited = λ code e.
          let ends : EndsAt rules session (session_end.Exited code) = ends_at (session_end.Exited code) e in
          let to : HasComeTo rules coming session (session_end.Exited code) = came_to its.comes ends.came in
          last_exits image items (recording ++ end.tail) end.steps state code ran.ran to.stands;
    }

-- what was passed, and what is done at Finished, by what came and went
passed_over : (route : Route) (rules : Rules) (image : Image) (coming : Option Coming) (session : Session) (why : Stop) (end : Answer) → GoesOver route rules coming session why → IsAccount rules image session
    → (IsEnd end → HasPassedAll rules session) → PassedOver route rules session end
passed_over (Trunk source source_later sink sink_later) rules image coming session why end goes account all = passed_trunk rules image sink sink_later session end account all goes.carried
passed_over (Port limits calls calls_later) rules image coming session why end goes account all = passed_port limits rules image calls calls_later session end account all goes.1

done_over : (route : Route) (rules : Rules) (coming : Option Coming) (session : Session) (why : Stop) → GoesOver route rules coming session why → session.came ≡ Some session_end.Finished → IsDone route
done_over (Trunk source source_later sink sink_later) rules coming session why goes came =
    drained source source_later _ (subst (λ (end : Option SessionEnd). IfSome end (StopsTrunk source source_later (events_of rules.bounds (journal_of session)))) came goes.stops)
done_over (Port limits calls calls_later) rules coming session why goes came = served_all limits rules calls calls_later session came goes.1

pub headline : (rules : Rules) (keeping : Keeping) (image : Image) (route : Route) (why : Stop) (end : End) (recording : List Choice) (told : List Episode) (before now : Option Unnoted)
    → (IsEnd end.answer → end.answer ≡ answer_of why) → (counted : ℕ)
    (s : Serves route rules keeping image (record { stop = why; recorded = end.recorded; tail = end.tail; taken = end.taken; steps = end.steps }) (noted (Some []) (Some []) before) (noted (Some recording) (Some told) now) counted)
    → Headline rules image s.telling.account recording route end
headline rules keeping image route why end recording told before now same counted s =
    headline_by rules keeping image route why end recording told s.coming s.telling same counted s.is
    (passed_over route rules image s.coming s.telling.account why end.answer s.goes)
    (done_over route rules s.coming s.telling.account why s.goes)
