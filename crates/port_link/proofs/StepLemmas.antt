-- What each way to the next event does.
use Rattle.ports.specs.declared.port_calls.PortEntry.TheVariants as made
use Rattle.ports.specs.declared.port_calls.FailedCall.TheVariants as call
use Rattle.links.proofs.Growing.{tells_then}
use Rattle.links.specs.Links as links
use Rattle.links.specs.declared.journal.Entry.TheVariants as entry
use Rattle.links.specs.declared.journal.LinkEvent.TheVariants as event
use Rattle.rx_base.specs.declared.fault.IoFault.TheVariants as io
use Rattle.port_link.proofs.Terms.{Bool, Err, List, None, Ok, Option, Result, Some, [], ap, arith, false, inl, inr, length, nat_lt, not, refl, subst, sym, true, ℕ, ◌&&◌, ◌||◌, ◌++◌, ◌+◌, ◌<◌, ◌==◌, ◌∙◌, ◌∷◌, ◌≡◌, ◌≢◌, ◌≤◌, ◌⊎◌, fun_ext, and_parts, and_right, cases_lt, eq-eqb, eqb-false, eqb-true, lt-ltb, ltb-true, or_cases, or_left, or_right, length-append, length-set, IsErrOf, slice_set, IoFault, HasCause, LinkEvent, LinkFault, Memory, ReadFault, Refused, WriteFault, ComesUntold, Enters, GoesBy, Phases, Awaited, PortEntry, Ready, Accepts, Reads, Stops, IsReady, Logs, PortAccepts, PortWaits, open_fewer, open_more, open_within, is_open, open_count, without, Closing, Place, PortLimits, Stage, Closed, Dropped, Ended, Open, Unopened, is_broken, is_done, is_given, is_present, phase_of, shown, stage_in, IsCall, IsOver, Served, StopsAwaited, after_call, awaited_of, can_accept, is_closable, is_stop, served_of, takes_bytes, with_ready, without_ready, IsAt, IsClosing, IsWhole, Stands, WasReady, link_journal, phases_at, stage_at, told_at, AnswersEnd, HasOpenCause, IsTake, NextAt, Settles, TakesNext, TakesPiece, WaitsAt, WentOn, closed_place, dropped_place, ended_place, opened_place, read_fault_of, settled_place, taken, waited_place, calls_on, calls_same}
use Rattle.port_link.specs.declared.place.Closing.TheVariants as closing
use Rattle.port_link.specs.Taking.{NoneBroken, awaited_at, is_over, may_accept}
use Rattle.port_link.proofs.CallLemmas.{logs_same, went_one, went_none, agrees_one, agrees_none, whole_one, whole_none, tells_one, tells_none}
use Rattle.port_link.proofs.JournalLemmas.{no_ends, opened, took, ended, dropped, ended_more, ready_journal, same_journal, unready_journal, settled, closed, none_closable, broken_is}
use Rattle.port_link.proofs.PlaceLemmas.{Closes, closes_to, stage_set, shown_set, keeps_set, all_set, present_opened, present_closed, same_if, other_if, commute}

failed_by : {T U : Type 0} (fault : IoFault) (answer : LinkFault) → answer ≡ read_fault_of fault → IsErrOf {T = T} (Err answer) ReadFault → IsErrOf {T = U} (Err fault) io.Failed
failed_by io.Failed answer is failed = refl
failed_by io.Memory answer is failed = cc

-- a wait or an accept that failed has its cause
pub open_cause : {T U : Type 0} (before after : ℕ) (fault : IoFault) (answer : LinkFault) → answer ≡ read_fault_of fault → HasCause {T = U} before after (Err fault) → HasOpenCause {T = T} before after (Err answer)
open_cause before after fault answer is cause = record {
  later = cause.later;
  read_fault = λ failed. cause.failed (failed_by fault answer is failed);
}

-- nothing comes that is told before, and nothing is refused
untold : (event : LinkEvent) → links.IsNext ComesUntold event
untold event known = absurd (known refl)

-- the phases behind another stage of one connection
pub phase_changes : (place : Place) (conn : ℕ) (stage : Stage) → conn < length place.stages → (other : ℕ) → phase_of (stage_in (slice_set place.stages conn stage) other) ≡ links.with_phase conn (phase_of stage) (phases_at place) other
phase_changes place conn stage less other = ap phase_of (stage_set place.stages conn stage less other) ∙ commute phase_of _ stage (stage_in place.stages other)

gives_here : (stages : List Stage) (conn : ℕ) (stage : Stage) → conn < length stages → is_given stage ≡ true → is_given (stage_in (slice_set stages conn stage) conn) ≡ true
gives_here stages conn stage less there = ap is_given (stage_set stages conn stage less conn ∙ same_if conn conn stage (stage_in stages conn) refl) ∙ there

pub at_here : (stages : List Stage) (conn : ℕ) (stage : Stage) → conn < length stages → stage_in (slice_set stages conn stage) conn ≡ stage
at_here stages conn stage less = stage_set stages conn stage less conn ∙ same_if conn conn stage (stage_in stages conn) refl

pub elsewhere : (stages : List Stage) (conn other : ℕ) (stage : Stage) → conn < length stages → other ≢ conn → stage_in (slice_set stages conn stage) other ≡ stage_in stages other
elsewhere stages conn other stage less differ = stage_set stages conn stage less other ∙ other_if other conn stage (stage_in stages other) differ

pub none_done : (before : Closing) (stages : List Stage) → before ≡ closing.Nothing → IsClosing before stages → (conn : ℕ) → is_done (stage_in stages conn) ≡ false
none_done before stages is there = there.nothing is

to_nothing : (before : Closing) (stages : List Stage) → before ≡ closing.Nothing → ((conn : ℕ) → is_done (stage_in stages conn) ≡ false) → IsClosing before stages
to_nothing before stages is none = closes_to before stages (subst (λ (c : Closing). Closes c stages) (sym is) none)

-- what was over is so behind a stop
over_still : (limits : PortLimits) (accepted closed : ℕ) (more stopped : Bool) → IsOver limits accepted closed stopped → IsOver limits accepted closed (more || stopped)
over_still limits accepted closed more stopped over = (
  over.0,
  elim (or_cases (accepted == limits.conns) stopped over.1) [
    | inl last ↦ or_left (accepted == limits.conns) (more || stopped) last
    | inr stop ↦ or_right (accepted == limits.conns) (more || stopped) (or_right more stopped stop)
  ],
)

over_is : (limits : PortLimits) (place : Place) → is_over limits place ≡ true → IsOver limits place.accepted place.closed place.stopped
over_is limits place is =
    let parts = and_parts (place.closed == place.accepted) ((place.accepted == limits.conns) || place.stopped) is in
    (eqb-true place.closed place.accepted parts.0, parts.1)

-- where a client may be accepted nothing is over
may_not_over : (limits : PortLimits) (place : Place) → may_accept limits place ≡ true → IsOver limits place.accepted place.closed place.stopped → ⊥
may_not_over limits place may over =
    let parts = and_parts (not place.stopped) (nat_lt place.accepted limits.conns && nat_lt place.accepted (place.closed + limits.at_once)) may in
    let less : place.accepted < limits.conns = ltb-true place.accepted limits.conns (and_parts _ _ parts.1).0 in
    elim (or_cases (place.accepted == limits.conns) place.stopped over.1) [
      | inl last ↦ (let same = eqb-true place.accepted limits.conns last in let no : ⊥ = omega (arith, less, same) in no)
      | inr stop ↦ (let no : not true ≡ true = subst (λ (stopped : Bool). not stopped ≡ true) stop parts.0 in cc)
    ]

-- where it isn't over and no client may be accepted, a connection is open
open_by : (same last stopped less room : Bool) → (same && (last || stopped)) ≡ false → (last ≡ false → less ≡ true) → room ≡ true → (not stopped && (less && room)) ≡ false → same ≡ true → ⊥
open_by false last stopped less room over is_less is_room may is = cc
open_by true true stopped less room over is_less is_room may is = cc
open_by true false true less room over is_less is_room may is = cc
open_by true false false false room over is_less is_room may is = (let no : false ≡ true = is_less refl in cc)
open_by true false false true false over is_less is_room may is = cc
open_by true false false true true over is_less is_room may is = cc

not_over_open : (limits : PortLimits) (place : Place) → is_over limits place ≡ false → 1 ≤ limits.at_once → place.accepted ≤ limits.conns → place.closed ≤ place.accepted → may_accept limits place ≡ false → place.closed < place.accepted
not_over_open limits place over some most behind may = elim (cases_lt place.closed place.accepted) [
  | inl less ↦ less
  | inr past ↦ absurd (all_closed (omega arith))
]
  where
    all_closed : place.closed ≡ place.accepted → ⊥
    all_closed same =
        open_by (place.closed == place.accepted) (place.accepted == limits.conns) place.stopped (nat_lt place.accepted limits.conns) (nat_lt place.accepted (place.closed + limits.at_once)) over
        (λ no. let other = eqb-false place.accepted limits.conns no in lt-ltb place.accepted limits.conns (below (cases_lt place.accepted limits.conns) other))
        (lt-ltb place.accepted (place.closed + limits.at_once) (omega (arith, same, some))) may (eq-eqb place.closed place.accepted same)
      where
        below : (place.accepted < limits.conns) ⊎ (limits.conns ≤ place.accepted) → place.accepted ≢ limits.conns → place.accepted < limits.conns
        below (inl less) other = less
        below (inr past) other = absurd (other (omega (arith, past, most)))

-- a stop was awaited where it was answered
stops_awaited : (awaited : Awaited) (connections : List Bool) (ready : Ready) → IsReady awaited connections ready → StopsAwaited awaited ready
stops_awaited awaited connections Accepts is = tt
stops_awaited awaited connections (Reads conn) is = tt
stops_awaited awaited connections Stops is = is

-- behind a stop neither a client nor a stop is awaited
pub none_awaited : (limits : PortLimits) (place : Place) → place.stopped ≡ true → ((awaited_at limits place).client ≡ false) × ((awaited_at limits place).stop ≡ false)
none_awaited limits place stopped =
    (ap (λ (is : Bool). not is && (nat_lt place.accepted limits.conns && nat_lt place.accepted (place.closed + limits.at_once))) stopped, and_right limits.stops (not place.stopped) (ap not stopped))

module _ (limits : PortLimits) (old new : Option (List PortEntry)) (connections : List Bool) (place : Place) (stands : Stands old connections limits place) where
  pub present_less : (conn : ℕ) → is_present (stage_at place conn) ≡ true → conn < place.accepted
  present_less conn there = let less = open_within connections conn (stands.present conn ∙ there) in let same = stands.accepted in omega arith

  pub in_table : (conn : ℕ) → limits.conns ≤ 4096 → conn < place.accepted → conn < length place.stages
  in_table conn few less = let most = stands.most in let room = stands.room in omega arith

  -- where a connection is open the link isn't at its end
  pub not_ended : (conn : ℕ) → is_present (stage_at place conn) ≡ true → place.ends ≡ 0
  not_ended conn there =
      let fewer = open_fewer connections conn (stands.present conn ∙ there) in
      let count = stands.count in
      no_ends place.ends stands.ended (λ all. let one = all.0 in let no : ⊥ = omega arith in no)

  pub closed_less : (conn : ℕ) → is_present (stage_at place conn) ≡ true → place.closed < place.accepted
  closed_less conn there = let fewer = open_fewer connections conn (stands.present conn ∙ there) in let count = stands.count in omega arith

  pub broken_present : (conn : ℕ) → is_broken (stage_at place conn) ≡ true → is_open conn connections ≡ true
  broken_present conn broken = stands.present conn ∙ ap is_present (broken_is (stage_at place conn) broken)

  pub ready_within : (conn : ℕ) → limits.conns ≤ 4096 → is_open conn connections ≡ true → conn < 4096
  ready_within conn few here = let less = open_within connections conn here in let same = stands.accepted in let most = stands.most in omega arith

  some_open : place.closed < place.accepted → 0 < open_count connections
  some_open less = let count = stands.count in omega arith

  -- so a wait has something to wait for
  pub awaits_some : is_over limits place ≡ false → 1 ≤ limits.at_once → may_accept limits place ≡ false → 0 < open_count connections
  awaits_some over some may = some_open (not_over_open limits place over some stands.most (let count = stands.count in omega arith) may)

  same_next : (fault : LinkFault) → GoesBy (Some ComesUntold) (Err fault) → NextAt place place (Err fault)
  same_next fault goes = record { order = λ other. refl; grammar = goes; closing = tt }

  pub stays_waits : Logs old new [] → WaitsAt limits old new connections place place
  stays_waits logs = record {
    stands = record {
      agrees = agrees_none old new place place logs (λ served at. at) stands.agrees;
      room = stands.room;
      present = stands.present;
      accepted = stands.accepted;
      count = stands.count;
      behind = stands.behind;
      closing = stands.closing;
      most = stands.most;
      at_once = stands.at_once;
      ended = stands.ended;
    };
    steps = record {
      told = tells_none old new place place [] logs (λ calls is. same_journal place (served_of calls));
      went = went_none limits old new logs;
    };
    whole = whole_none old new logs;
  }

  -- a wait or an accept failed
  pub unready_waits : (made_call : PortEntry) → Logs old new (made_call ∷ []) → ((served : Served) → after_call served made_call ≡ without_ready served) → ((calls : List PortEntry) → old ≡ Some calls → IsCall limits (served_of calls) made_call)
      → WaitsAt limits old new connections place place
  unready_waits made_call logs same is = record {
    stands = record {
      agrees = agrees_one old new made_call place logs (λ calls told. subst (IsAt place) (sym (same (served_of calls))) (at_unready (served_of calls) (stands.agrees calls told)));
      room = stands.room;
      present = stands.present;
      accepted = stands.accepted;
      count = stands.count;
      behind = stands.behind;
      closing = stands.closing;
      most = stands.most;
      at_once = stands.at_once;
      ended = stands.ended;
    };
    steps = record {
      told = tells_one old new made_call place place [] logs (λ calls told. ap (link_journal place) (same (served_of calls)) ∙ unready_journal place (served_of calls));
      went = went_one limits old new made_call logs is;
    };
    whole = whole_one old new made_call logs (λ served none. ap (λ (s : Served). s.part) (same served) ∙ none);
  }
    where
      at_unready : (served : Served) → IsAt place served → IsAt place (without_ready served)
      at_unready served at = record { stages = at.stages; accepted = at.accepted; closed = at.closed; stopped = at.stopped }

  -- a wait answered
  pub ready_waits : (awaited : Awaited) (ready : Ready) → Logs old new (made.Waited awaited ready ∷ []) → ((calls : List PortEntry) → old ≡ Some calls → IsCall limits (served_of calls) (made.Waited awaited ready))
      → WaitsAt limits old new connections place (waited_place ready place)
  unfolding after_call
  ready_waits awaited ready logs is = record {
    stands = record {
      agrees = agrees_one old new (made.Waited awaited ready) (waited_place ready place) logs (λ calls told. at_ready (served_of calls) (stands.agrees calls told));
      room = stands.room;
      present = stands.present;
      accepted = stands.accepted;
      count = stands.count;
      behind = stands.behind;
      closing = stands.closing;
      most = stands.most;
      at_once = stands.at_once;
      ended = λ more. over_still limits place.accepted place.closed (is_stop ready) place.stopped (stands.ended more);
    };
    steps = record {
      told = tells_one old new (made.Waited awaited ready) place (waited_place ready place) [] logs (λ calls told. ready_journal place (served_of calls) ready);
      went = went_one limits old new (made.Waited awaited ready) logs is;
    };
    whole = whole_one old new (made.Waited awaited ready) logs (λ served none. none);
  }
    where
      at_ready : (served : Served) → IsAt place served → IsAt (waited_place ready place) (with_ready ready served)
      at_ready served at = record { stages = at.stages; accepted = at.accepted; closed = at.closed; stopped = ap (λ (stopped : Bool). is_stop ready || stopped) at.stopped }

  -- so is none where memory ran out
  pub fails_takes : (fault : LinkFault) → GoesBy (Some ComesUntold) (Err fault) → WaitsAt limits old new connections place place → TakesNext limits old new connections place place (Err fault)
  fails_takes fault goes waits = record { stands = waits.stands; steps = waits.steps; whole = waits.whole; next = same_next fault goes }

  -- where none is to be closed
  has_closed : place.closing ≡ closing.Nothing → NoneBroken place → (served : Served) → IsAt place served → (conn : ℕ) → is_closable (served.stages conn) ≡ false
  has_closed nothing none served at conn =
      none_closable (stage_at place conn) (served.stages conn) (none_done place.closing place.stages nothing stands.closing conn) (none conn) (at.stages conn)

  same_may : (served : Served) → IsAt place served → may_accept limits place ≡ can_accept limits served
  same_may served at =
      ap (λ stopped. not stopped && (nat_lt place.accepted limits.conns && nat_lt place.accepted (place.closed + limits.at_once))) (sym at.stopped)
      ∙ ap (λ accepted. not served.stopped && (nat_lt accepted limits.conns && nat_lt accepted (place.closed + limits.at_once))) (sym at.accepted)
      ∙ ap (λ closed. not served.stopped && (nat_lt served.accepted limits.conns && nat_lt served.accepted (closed + limits.at_once))) (sym at.closed)

  same_awaited : (served : Served) → IsAt place served → awaited_at limits place ≡ awaited_of limits served
  same_awaited served at =
      ap (λ (client : Bool). let made_of : Awaited = record { client = client; stop = limits.stops && not place.stopped } in made_of) (same_may served at)
      ∙ ap (λ (stopped : Bool). let made_of : Awaited = record { client = can_accept limits served; stop = limits.stops && not stopped } in made_of) (sym at.stopped)

  may_be : may_accept limits place ≡ true → (served : Served) → IsAt place served → can_accept limits served ≡ true
  may_be may served at = sym (same_may served at) ∙ may

  is_wait : place.closing ≡ closing.Nothing → NoneBroken place → (ready : Ready) → IsReady (awaited_at limits place) connections ready → (calls : List PortEntry) → old ≡ Some calls → IsCall limits (served_of calls) (made.Waited (awaited_at limits place) ready)
  is_wait nothing none ready is calls told =
      (λ conn. has_closed nothing none (served_of calls) (stands.agrees calls told) conn, same_awaited (served_of calls) (stands.agrees calls told), stops_awaited (awaited_at limits place) connections ready is)

  pub wait_waits : (ready : Ready) → PortWaits old new (awaited_at limits place) (Ok ready) → place.closing ≡ closing.Nothing → NoneBroken place → IsReady (awaited_at limits place) connections ready → WaitsAt limits old new connections place (waited_place ready place)
  wait_waits ready logs nothing none is = ready_waits (awaited_at limits place) ready logs (is_wait nothing none ready is)

  pub wait_stays : (fault : IoFault) → PortWaits old new (awaited_at limits place) (Err fault) → place.closing ≡ closing.Nothing → NoneBroken place → WaitsAt limits old new connections place place
  unfolding after_call
  wait_stays io.Failed logs nothing none = unready_waits (made.Failed call.Wait) logs (λ served. refl) (λ calls told conn. has_closed nothing none (served_of calls) (stands.agrees calls told) conn)
  wait_stays io.Memory logs nothing none = stays_waits logs

  -- a client was accepted
  pub open_takes : (now : List Bool) → Logs old new (made.Accepted (length connections) ∷ []) → now ≡ connections ++ true ∷ [] → may_accept limits place ≡ true → WasReady Accepts old → limits.conns ≤ 4096 → place.closing ≡ closing.Nothing
      → TakesNext limits old new now place (opened_place place) (Ok (event.Opens place.accepted))
  unfolding after_call
  open_takes now told is may was few nothing =
      let parts = and_parts (nat_lt place.accepted limits.conns) (nat_lt place.accepted (place.closed + limits.at_once)) (and_parts (not place.stopped) (nat_lt place.accepted limits.conns && nat_lt place.accepted (place.closed + limits.at_once)) may).1 in
      let less : place.accepted < limits.conns = ltb-true place.accepted limits.conns parts.0 in
      let fewer : place.accepted < place.closed + limits.at_once = ltb-true place.accepted (place.closed + limits.at_once) parts.1 in
      let room = stands.room in
      let inside : place.accepted < length place.stages = omega arith in
      let logs : Logs old new (made.Accepted place.accepted ∷ []) = subst (λ (n : ℕ). Logs old new (made.Accepted n ∷ [])) stands.accepted told in
      let none : place.ends ≡ 0 = no_ends place.ends stands.ended (may_not_over limits place may) in
      let fresh : stage_at place place.accepted ≡ Unopened = stands.behind place.accepted (omega arith) in
      subst (λ (c : List Bool). TakesNext limits old new c place (opened_place place) (Ok (event.Opens place.accepted))) (sym is)
      (record {
        stands = record {
          agrees = agrees_one old new (made.Accepted place.accepted) (opened_place place) logs (λ calls is_told. record {
            stages = λ other. shown_set place.stages place.accepted Open Open (served_of calls).stages inside refl (stands.agrees calls is_told).stages other;
            accepted = ap (λ (n : ℕ). n + 1) (stands.agrees calls is_told).accepted;
            closed = (stands.agrees calls is_told).closed;
            stopped = (stands.agrees calls is_told).stopped;
          });
          room = length-set place.stages place.accepted Open ∙ stands.room;
          present = present_opened connections place.stages place.accepted inside stands.accepted stands.present;
          accepted = let size : length (connections ++ true ∷ []) ≡ length connections + 1 = length-append connections (true ∷ []) in let same = stands.accepted in omega arith;
          count = let more = open_more connections in let count = stands.count in omega arith;
          behind = λ conn past. elsewhere place.stages place.accepted conn Open inside (λ same. let no : ⊥ = omega arith in no) ∙ stands.behind conn (omega arith);
          closing = to_nothing place.closing (slice_set place.stages place.accepted Open) nothing
              (all_set is_done false place.stages place.accepted Open inside refl (λ other differ. none_done place.closing place.stages nothing stands.closing other));
          most = omega arith;
          at_once = omega arith;
          ended = λ more. let no : ⊥ = omega arith in absurd no;
        };
        steps = record {
          told = tells_one old new (made.Accepted place.accepted) place (opened_place place) (entry.Took (event.Opens place.accepted) ∷ []) logs (λ calls is_told. opened place (served_of calls) none);
          went = went_one limits old new (made.Accepted place.accepted) logs (λ calls is_told. (sym (stands.agrees calls is_told).accepted, may_be may (served_of calls) (stands.agrees calls is_told), was calls is_told));
        };
        whole = whole_one old new (made.Accepted place.accepted) logs (λ served empty. refl);
        next = record {
          order = ((omega arith, ap phase_of fresh), λ other. phase_changes place place.accepted Open inside other);
          grammar = untold (event.Opens place.accepted);
          closing = tt;
        };
      })

  pub open_fails : (fault : IoFault) (answer : LinkFault) → answer ≡ read_fault_of fault → PortAccepts old new (length connections) (Err fault) → may_accept limits place ≡ true → WasReady Accepts old → TakesNext limits old new connections place place (Err answer)
  unfolding after_call
  open_fails io.Memory answer is logs may was = subst (λ (a : LinkFault). TakesNext limits old new connections place place (Err a)) (sym is) (fails_takes Memory tt (stays_waits logs))
  open_fails io.Failed answer is logs may was = subst (λ (a : LinkFault). TakesNext limits old new connections place place (Err a)) (sym is)
      (fails_takes ReadFault tt (unready_waits (made.Failed call.Accept) logs (λ served. refl) (λ calls told. (may_be may (served_of calls) (stands.agrees calls told), was calls told))))

  -- a piece was taken, or the end of them
  take_call : (conn : ℕ) (bytes : List ℕ) (made_call : PortEntry) (served : Served) → IsTake conn bytes made_call → after_call served made_call ≡ takes_bytes conn bytes served
  unfolding after_call
  take_call conn bytes (made.Took of took_bytes room) served is = ap (λ (c : ℕ). takes_bytes c took_bytes served) is.0 ∙ ap (λ (l : List ℕ). takes_bytes conn l served) is.1
  take_call conn bytes (made.Failed (call.Take of)) served is = ap (λ (c : ℕ). takes_bytes c [] served) is.0 ∙ ap (λ (l : List ℕ). takes_bytes conn l served) (sym is.1)
  take_call conn bytes (made.Failed call.Bind) served is = absurd is
  take_call conn bytes (made.Failed call.Wait) served is = absurd is
  take_call conn bytes (made.Failed call.Accept) served is = absurd is
  take_call conn bytes (made.Failed (call.Give of)) served is = absurd is
  take_call conn bytes (made.Bound number) served is = absurd is
  take_call conn bytes (made.Waited may ready) served is = absurd is
  take_call conn bytes (made.Accepted of) served is = absurd is
  take_call conn bytes (made.Gave of gave offered) served is = absurd is
  take_call conn bytes (made.Closed of) served is = absurd is

  take_is : (conn : ℕ) (bytes : List ℕ) (made_call : PortEntry) (served : Served) → IsTake conn bytes made_call → served.stages conn ≡ Open → served.ready ≡ Some (Reads conn) → IsCall limits served made_call
  take_is conn bytes (made.Took of took_bytes room) served is there was = (ap (λ (c : ℕ). served.stages c) is.0 ∙ there, is.2, was ∙ ap (λ (c : ℕ). Some (Reads c)) (sym is.0))
  take_is conn bytes (made.Failed (call.Take of)) served is there was = (ap (λ (c : ℕ). served.stages c) is.0 ∙ there, was ∙ ap (λ (c : ℕ). Some (Reads c)) (sym is.0))
  take_is conn bytes (made.Failed call.Bind) served is there was = absurd is
  take_is conn bytes (made.Failed call.Wait) served is there was = absurd is
  take_is conn bytes (made.Failed call.Accept) served is there was = absurd is
  take_is conn bytes (made.Failed (call.Give of)) served is there was = absurd is
  take_is conn bytes (made.Bound number) served is there was = absurd is
  take_is conn bytes (made.Waited may ready) served is there was = absurd is
  take_is conn bytes (made.Accepted of) served is there was = absurd is
  take_is conn bytes (made.Gave of gave offered) served is there was = absurd is
  take_is conn bytes (made.Closed of) served is there was = absurd is

  none_part : (conn : ℕ) (bytes : List ℕ) (served : Served) → (takes_bytes conn bytes served).part ≡ []
  none_part conn [] served = refl
  none_part conn (byte ∷ bytes) served = refl

  take_whole : (conn : ℕ) (bytes : List ℕ) (made_call : PortEntry) → IsTake conn bytes made_call → Logs old new (made_call ∷ []) → IsWhole old → IsWhole new
  take_whole conn bytes made_call is logs whole = whole_one old new made_call logs (λ served empty. ap (λ (s : Served). s.part) (take_call conn bytes made_call served is) ∙ none_part conn bytes served) whole

  take_went : (conn : ℕ) (bytes : List ℕ) (made_call : PortEntry) → IsTake conn bytes made_call → Logs old new (made_call ∷ []) → stage_at place conn ≡ Open → WasReady (Reads conn) old → WentOn limits old new
  take_went conn bytes made_call is logs is_open_now was =
      went_one limits old new made_call logs (λ calls told. take_is conn bytes made_call (served_of calls) is ((stands.agrees calls told).stages conn ∙ ap shown is_open_now) (was calls told))

  same_at : (conn byte : ℕ) (bytes : List ℕ) (served : Served) → IsAt place served → IsAt place (takes_bytes conn (byte ∷ bytes) served)
  same_at conn byte bytes served at = record { stages = at.stages; accepted = at.accepted; closed = at.closed; stopped = at.stopped }

  pub piece_takes : (conn : ℕ) (items : List ℕ) (made_call : PortEntry) → IsTake conn items made_call → Logs old new (made_call ∷ []) → 0 < length items → stage_at place conn ≡ Open → WasReady (Reads conn) old → limits.conns ≤ 4096
      → TakesNext limits old new connections place place (Ok (event.Piece conn items))
  piece_takes conn [] made_call is logs some is_open_now was few = absurd (omega arith)
  piece_takes conn (byte ∷ bytes) made_call is logs some is_open_now was few =
      let there : is_present (stage_at place conn) ≡ true = ap is_present is_open_now in
      let less = present_less conn there in
      let most = stands.most in
      record {
        stands = record {
          agrees = agrees_one old new made_call place logs (λ calls told. subst (IsAt place) (sym (take_call conn (byte ∷ bytes) made_call (served_of calls) is))
              (same_at conn byte bytes (served_of calls) (stands.agrees calls told)));
          room = stands.room;
          present = stands.present;
          accepted = stands.accepted;
          count = stands.count;
          behind = stands.behind;
          closing = stands.closing;
          most = stands.most;
          at_once = stands.at_once;
          ended = stands.ended;
        };
        steps = record {
          told = tells_one old new made_call place place (entry.Took (event.Piece conn (byte ∷ bytes)) ∷ []) logs (λ calls told.
              ap (link_journal place) (take_call conn (byte ∷ bytes) made_call (served_of calls) is) ∙ took place (served_of calls) conn byte bytes (not_ended conn there));
          went = take_went conn (byte ∷ bytes) made_call is logs is_open_now was;
        };
        whole = take_whole conn (byte ∷ bytes) made_call is logs;
        next = record {
          order = ((omega arith, ap phase_of is_open_now), λ other. refl);
          grammar = untold (event.Piece conn (byte ∷ bytes));
          closing = tt;
        };
      }

  pub end_takes : (conn : ℕ) (items : List ℕ) (made_call : PortEntry) → IsTake conn items made_call → Logs old new (made_call ∷ []) → items ≡ [] → stage_at place conn ≡ Open → WasReady (Reads conn) old → limits.conns ≤ 4096 → place.closing ≡ closing.Nothing
      → TakesNext limits old new connections place (ended_place conn place) (Ok (event.Closes conn))
  end_takes conn items made_call is logs empty is_open_now was few nothing =
      let there : is_present (stage_at place conn) ≡ true = ap is_present is_open_now in
      let less = present_less conn there in
      let most = stands.most in
      let inside = in_table conn few less in
      let later : Place = ended_place conn place in
      let bare : IsTake conn [] made_call = subst (λ (l : List ℕ). IsTake conn l made_call) empty is in
      let none = not_ended conn there in
      record {
        stands = record {
          agrees = agrees_one old new made_call later logs (λ calls told. subst (IsAt later) (sym (take_call conn [] made_call (served_of calls) bare)) (record {
            stages = λ other. shown_set place.stages conn Ended Ended (served_of calls).stages inside refl (stands.agrees calls told).stages other;
            accepted = (stands.agrees calls told).accepted;
            closed = (stands.agrees calls told).closed;
            stopped = (stands.agrees calls told).stopped;
          }));
          room = length-set place.stages conn Ended ∙ stands.room;
          present = λ other. stands.present other ∙ sym (keeps_set is_present place.stages conn Ended inside (sym there) other);
          accepted = stands.accepted;
          count = stands.count;
          behind = λ other past. elsewhere place.stages conn other Ended inside (λ same. let no : ⊥ = omega arith in no) ∙ stands.behind other past;
          closing = closes_to (closing.Due conn) (slice_set place.stages conn Ended)
              (at_here place.stages conn Ended inside, λ other differ. ap is_done (elsewhere place.stages conn other Ended inside differ) ∙ none_done place.closing place.stages nothing stands.closing other);
          most = stands.most;
          at_once = stands.at_once;
          ended = stands.ended;
        };
        steps = record {
          told = tells_one old new made_call place later (entry.Took (event.Closes conn) ∷ []) logs (λ calls told.
              ap (link_journal later) (take_call conn [] made_call (served_of calls) bare) ∙ ended place (served_of calls) conn none);
          went = take_went conn [] made_call bare logs is_open_now was;
        };
        whole = take_whole conn [] made_call bare logs;
        next = record {
          order = ((omega arith, ap phase_of is_open_now), λ other. phase_changes place conn Ended inside other);
          grammar = untold (event.Closes conn);
          closing = gives_here place.stages conn Ended inside refl;
        };
      }

  pub take_fails : (conn : ℕ) (fault : LinkFault) → TakesPiece conn old new (Err fault) → TakesNext limits old new connections place place (Err fault)
  take_fails conn Memory logs = fails_takes Memory tt (stays_waits logs)
  take_fails conn ReadFault logs = absurd logs
  take_fails conn WriteFault logs = absurd logs
  take_fails conn (Refused kind offset) logs = absurd logs

  -- a connection that is open at the port was closed
  closed_stands : (conn : ℕ) (stage : Stage) (after : Closing) → conn < length place.stages → is_present (stage_at place conn) ≡ true → is_present stage ≡ false → shown stage ≡ Closed → Logs old new (made.Closed conn ∷ [])
      → IsClosing after (slice_set place.stages conn stage)
      → Stands new (without conn connections) limits (record place { stages = slice_set place.stages conn stage; closed = place.closed + 1; closing = after })
  unfolding after_call
  closed_stands conn stage after inside there gone is_shown logs is_closing =
      let less = present_less conn there in
      let fewer = open_fewer connections conn (stands.present conn ∙ there) in
      let count = stands.count in
      let none = not_ended conn there in
      record {
        agrees = agrees_one old new (made.Closed conn) (record place { stages = slice_set place.stages conn stage; closed = place.closed + 1; closing = after }) logs (λ calls told. record {
          stages = λ other. shown_set place.stages conn stage Closed (served_of calls).stages inside (sym is_shown) (stands.agrees calls told).stages other;
          accepted = (stands.agrees calls told).accepted;
          closed = ap (λ (n : ℕ). n + 1) (stands.agrees calls told).closed;
          stopped = (stands.agrees calls told).stopped;
        });
        room = length-set place.stages conn stage ∙ stands.room;
        present = present_closed connections place.stages conn stage inside (stands.present conn ∙ there) gone stands.present;
        accepted = length-set connections conn false ∙ stands.accepted;
        count = omega arith;
        behind = λ other past. elsewhere place.stages conn other stage inside (λ same. let no : ⊥ = omega arith in no) ∙ stands.behind other past;
        closing = is_closing;
        most = stands.most;
        at_once = let once = stands.at_once in omega arith;
        ended = λ more. let no : ⊥ = omega arith in absurd no;
      }

  closed_whole : (conn : ℕ) → Logs old new (made.Closed conn ∷ []) → IsWhole old → IsWhole new
  unfolding after_call
  closed_whole conn logs whole = whole_one old new (made.Closed conn) logs (λ served empty. refl) whole

  -- a connection to which a give failed is closed
  pub drop_takes : (now : List Bool) (conn : ℕ) → is_broken (stage_at place conn) ≡ true → limits.conns ≤ 4096 → place.closing ≡ closing.Nothing → Logs old new (made.Closed conn ∷ []) → now ≡ without conn connections
      → TakesNext limits old new now place (dropped_place conn place) (Ok (event.Closes conn))
  unfolding after_call
  drop_takes now conn broken few nothing logs is =
      let is_now = broken_is (stage_at place conn) broken in
      let there : is_present (stage_at place conn) ≡ true = ap is_present is_now in
      let less = present_less conn there in
      let most = stands.most in
      let inside = in_table conn few less in
      let none = not_ended conn there in
      subst (λ (c : List Bool). TakesNext limits old new c place (dropped_place conn place) (Ok (event.Closes conn))) (sym is)
      (record {
        stands = closed_stands conn Dropped (closing.Made conn) inside there refl refl logs
            (closes_to (closing.Made conn) (slice_set place.stages conn Dropped)
            (at_here place.stages conn Dropped inside, λ other differ. ap is_done (elsewhere place.stages conn other Dropped inside differ) ∙ none_done place.closing place.stages nothing stands.closing other));
        steps = record {
          told = tells_one old new (made.Closed conn) place (dropped_place conn place) (entry.Took (event.Closes conn) ∷ []) logs (λ calls told.
              dropped place (served_of calls) conn ((stands.agrees calls told).stages conn ∙ ap shown is_now) none);
          went = went_one limits old new (made.Closed conn) logs (λ calls told. ap is_closable ((stands.agrees calls told).stages conn ∙ ap shown is_now));
        };
        whole = closed_whole conn logs;
        next = record {
          order = ((omega arith, ap phase_of is_now), λ other. phase_changes place conn Dropped inside other);
          grammar = untold (event.Closes conn);
          closing = gives_here place.stages conn Dropped inside refl;
        };
      })

  -- what is to be closed is closed
  due_stage : (conn : ℕ) → place.closing ≡ closing.Due conn → Closes (closing.Due conn) place.stages
  due_stage conn is = (stands.closing.due conn is, stands.closing.due_alone conn is)

  made_stage : (conn : ℕ) → place.closing ≡ closing.Made conn → Closes (closing.Made conn) place.stages
  made_stage conn is = (stands.closing.made conn is, stands.closing.made_alone conn is)

  pub due_below : (conn : ℕ) → place.closing ≡ closing.Due conn → limits.conns ≤ 4096 → conn < 4096
  due_below conn is few = let less = present_less conn (ap is_present (due_stage conn is).0) in let most = stands.most in omega arith

  pub due_present : (conn : ℕ) → place.closing ≡ closing.Due conn → is_open conn connections ≡ true
  due_present conn is = stands.present conn ∙ ap is_present (due_stage conn is).0

  pub due_settles : (now : List Bool) (conn : ℕ) → place.closing ≡ closing.Due conn → limits.conns ≤ 4096 → Logs old new (made.Closed conn ∷ []) → now ≡ without conn connections → Settles limits old new now place (closed_place conn place)
  unfolding after_call
  due_settles now conn due few logs is =
      let there = due_stage conn due in
      let less = present_less conn (ap is_present there.0) in
      let inside = in_table conn few less in
      subst (λ (c : List Bool). Settles limits old new c place (closed_place conn place)) (sym is)
      (record {
        stands = closed_stands conn Closed closing.Nothing inside (ap is_present there.0) refl refl logs
            (closes_to closing.Nothing (slice_set place.stages conn Closed) (all_set is_done false place.stages conn Closed inside refl there.1));
        steps = record {
          told = tells_one old new (made.Closed conn) place (closed_place conn place) [] logs (λ calls told. closed place (served_of calls) conn ((stands.agrees calls told).stages conn ∙ ap shown there.0));
          went = went_one limits old new (made.Closed conn) logs (λ calls told. ap is_closable ((stands.agrees calls told).stages conn ∙ ap shown there.0));
        };
        whole = closed_whole conn logs;
        phases = keeps_set phase_of place.stages conn Closed inside (sym (ap phase_of there.0));
        nothing = refl;
      })

-- without a call on the port
module _ (limits : PortLimits) (told : Option (List PortEntry)) (connections : List Bool) (place : Place) (stands : Stands told connections limits place) where
  end_takes_none : is_over limits place ≡ true → TakesNext limits told told connections place (record place { ends = place.ends + 1 }) (Ok event.Ends)
  end_takes_none over =
      record {
        stands = record {
          agrees = λ calls is. record { stages = (stands.agrees calls is).stages; accepted = (stands.agrees calls is).accepted; closed = (stands.agrees calls is).closed; stopped = (stands.agrees calls is).stopped };
          room = stands.room;
          present = stands.present;
          accepted = stands.accepted;
          count = stands.count;
          behind = stands.behind;
          closing = stands.closing;
          most = stands.most;
          at_once = stands.at_once;
          ended = λ more. over_is limits place over;
        };
        steps = record {
          told = tells_none told told place (record place { ends = place.ends + 1 }) (entry.Took event.Ends ∷ []) (logs_same told) (λ calls is. ended_more place (served_of calls));
          went = calls_same limits told;
        };
        whole = λ whole. whole;
        next = record { order = (tt, λ other. refl); grammar = untold event.Ends; closing = tt };
      }

  memory_takes : TakesNext limits told told connections place place (Err Memory)
  memory_takes = fails_takes limits told told connections place stands Memory tt (stays_waits limits told told connections place stands (logs_same told))

  -- the end, or none where memory ran out
  pub answered_takes : (later : Place) (result : Result LinkEvent LinkFault) → is_over limits place ≡ true → AnswersEnd place later result → TakesNext limits told told connections place later result
  answered_takes later (Ok answered) over answers =
      subst (λ (p : Place). TakesNext limits told told connections place p (Ok answered)) (sym answers.1)
      (subst (λ (e : LinkEvent). TakesNext limits told told connections place (record place { ends = place.ends + 1 }) (Ok e)) (sym answers.0) (end_takes_none over))
  answered_takes later (Err fault) over answers =
      subst (λ (p : Place). TakesNext limits told told connections place p (Err fault)) (sym answers.1)
      (subst (λ (f : LinkFault). TakesNext limits told told connections place place (Err f)) (sym answers.0) memory_takes)

  pub nothing_settles : place.closing ≡ closing.Nothing → Settles limits told told connections place place
  nothing_settles is =
      let waits = stays_waits limits told told connections place stands (logs_same told) in
      record { stands = stands; steps = waits.steps; whole = waits.whole; phases = λ other. refl; nothing = is }

  pub made_below : (conn : ℕ) → place.closing ≡ closing.Made conn → limits.conns ≤ 4096 → conn < 4096
  made_below conn is few = in_case (cases_lt conn place.accepted)
    where
      in_case : (conn < place.accepted) ⊎ (place.accepted ≤ conn) → conn < 4096
      in_case (inl less) = let most = stands.most in omega arith
      in_case (inr past) =
          let there = made_stage limits told told connections place stands conn is in
          let no : Unopened ≡ Dropped = sym (stands.behind conn past) ∙ there.0 in cc

  pub made_settles : (conn : ℕ) → place.closing ≡ closing.Made conn → conn < 4096 → Settles limits told told connections place (settled_place conn place)
  made_settles conn is less =
      let there = made_stage limits told told connections place stands conn is in
      let room = stands.room in
      let inside : conn < length place.stages = omega arith in
      record {
        stands = record {
          agrees = λ calls is_told. record {
            stages = λ other. (stands.agrees calls is_told).stages other ∙ sym (keeps_set shown place.stages conn Closed inside (sym (ap shown there.0)) other);
            accepted = (stands.agrees calls is_told).accepted;
            closed = (stands.agrees calls is_told).closed;
            stopped = (stands.agrees calls is_told).stopped;
          };
          room = length-set place.stages conn Closed ∙ stands.room;
          present = λ other. stands.present other ∙ sym (keeps_set is_present place.stages conn Closed inside (sym (ap is_present there.0)) other);
          accepted = stands.accepted;
          count = stands.count;
          behind = λ other past. elsewhere place.stages conn other Closed inside (λ same.
              let no : Unopened ≡ Dropped = sym (stands.behind other past) ∙ ap (λ (n : ℕ). stage_in place.stages n) same ∙ there.0 in cc) ∙ stands.behind other past;
          closing = closes_to closing.Nothing (slice_set place.stages conn Closed) (all_set is_done false place.stages conn Closed inside refl there.1);
          most = stands.most;
          at_once = stands.at_once;
          ended = stands.ended;
        };
        steps = record {
          told = tells_none told told place (settled_place conn place) [] (logs_same told) (λ calls is_told. settled place (served_of calls) conn);
          went = calls_same limits told;
        };
        whole = λ whole. whole;
        phases = keeps_set phase_of place.stages conn Closed inside (sym (ap phase_of there.0));
        nothing = refl;
      }

-- what was answered before is made, and then the next event is taken
pub settle_then : (limits : PortLimits) (old mid new : Option (List PortEntry)) (between now : List Bool) (place mid_place later : Place) (result : Result LinkEvent LinkFault) → Settles limits old mid between place mid_place
    → TakesNext limits mid new now mid_place later result → TakesNext limits old new now place later result
settle_then limits old mid new between now place mid_place later result settles takes = record {
  stands = takes.stands;
  steps = record {
    told = tells_then (told_at old place) (told_at mid mid_place) (told_at new later) [] (taken result) settles.steps.told takes.steps.told;
    went = calls_on limits old mid new settles.steps.went takes.steps.went;
  };
  whole = λ is. takes.whole (settles.whole is);
  next = record {
    order = subst (λ (phases : Phases). Enters phases (phases_at later) result) (fun_ext settles.phases) takes.next.order;
    grammar = takes.next.grammar;
    closing = takes.next.closing;
  };
}

-- a wait, and then the event that it told
pub wait_then : (limits : PortLimits) (old mid new : Option (List PortEntry)) (between now : List Bool) (place : Place) (ready : Ready) (mid_place later : Place) (result : Result LinkEvent LinkFault) → mid_place ≡ waited_place ready place
    → WaitsAt limits old mid between place mid_place → TakesNext limits mid new now mid_place later result → TakesNext limits old new now place later result
wait_then limits old mid new between now place ready mid_place later result is waits takes = record {
  stands = takes.stands;
  steps = record {
    told = tells_then (told_at old place) (told_at mid mid_place) (told_at new later) [] (taken result) waits.steps.told takes.steps.told;
    went = calls_on limits old mid new waits.steps.went takes.steps.went;
  };
  whole = λ is_whole. takes.whole (waits.whole is_whole);
  next = from_place (subst (λ (p : Place). NextAt p later result) is takes.next);
}
  where
    from_place : NextAt (waited_place ready place) later result → NextAt place later result
    from_place next = record { order = next.order; grammar = next.grammar; closing = next.closing }

-- a wait that failed
pub wait_fails : (limits : PortLimits) (old new : Option (List PortEntry)) (now : List Bool) (place later : Place) (fault : LinkFault) → GoesBy (Some ComesUntold) (Err fault) → later ≡ place → WaitsAt limits old new now place later
    → TakesNext limits old new now place later (Err fault)
wait_fails limits old new now place later fault goes is waits = record { stands = waits.stands; steps = waits.steps; whole = waits.whole; next = subst (λ (p : Place). NextAt place p (Err fault)) (sym is) same }
  where
    same : NextAt place place (Err fault)
    same = record { order = λ other. refl; grammar = goes; closing = tt }

pub goes_so : (fault : IoFault) (answer : LinkFault) → answer ≡ read_fault_of fault → GoesBy (Some ComesUntold) (Err answer)
goes_so io.Failed answer is = subst (λ (a : LinkFault). GoesBy (Some ComesUntold) (Err a)) (sym is) tt
goes_so io.Memory answer is = subst (λ (a : LinkFault). GoesBy (Some ComesUntold) (Err a)) (sym is) tt

-- a client may be accepted where one is ready
pub ready_less : (limits : PortLimits) (place : Place) → may_accept limits place ≡ true → place.accepted < limits.conns
ready_less limits place may = ltb-true place.accepted limits.conns (and_parts _ _ (and_parts _ _ may).1).0
