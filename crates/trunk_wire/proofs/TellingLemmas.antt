-- What a trunk tells grows with each call.
use Rattle.links.specs.declared.journal.LinkEvent.TheVariants as event
use Rattle.trunk_wire.proofs.Terms.{Bool, List, None, [], ap, append-nil, arith, drop, false, if◌then◌else◌, inl, inr, length, length-append, nat_le, nat_lt, refl, suc, sym, true, zero, ℕ, ◌&&◌, ◌++◌, ◌+◌, ◌-◌, ◌<◌, ◌==◌, ◌∙◌, ◌∷◌, ◌≡◌, ◌≤◌, and_parts, cases_lt, le-leb, leb-true, ltb-true, drop-append-le, CONNECTIONS, LinkEvent, Closed, IsInOrder, Open, Phase, Phases, Unopened, phases_after, with_phase, Header, IsFrameOf, from_two_bytes, front, front_accepted, front_by, header_refusal, Progress, last_bytes, put_bytes, event_reader, events, fresh, read_from, whole_event, is_empty, is_in_step, same_phase, same_phases}
use Rattle.trunk_wire.proofs.GrammarLemmas.{frame-accepted, events_steady, put_bytes-frame}
use Rattle.trunk_wire.proofs.ProgressLemmas.{put_bytes-append, put_bytes-part}

-- each connection below CONNECTIONS has the same phase
pub record Agree (phases others : Phases) : Type 0 where
  pub same : (conn : ℕ) → conn < CONNECTIONS → phases conn ≡ others conn

same_phase_to : (p q : Phase) → same_phase p q ≡ true → p ≡ q
same_phase_to Unopened Unopened is = refl
same_phase_to Open Open is = refl
same_phase_to Closed Closed is = refl
same_phase_to Unopened Open is = cc
same_phase_to Unopened Closed is = cc
same_phase_to Open Unopened is = cc
same_phase_to Open Closed is = cc
same_phase_to Closed Unopened is = cc
same_phase_to Closed Open is = cc

same_phase_self : (p : Phase) → same_phase p p ≡ true
same_phase_self Unopened = refl
same_phase_self Open = refl
same_phase_self Closed = refl

same_phases_to : (n : ℕ) (phases others : Phases) → same_phases n phases others ≡ true → (conn : ℕ) → conn < n → phases conn ≡ others conn
unfolding same_phases
same_phases_to zero phases others is conn below = absurd (omega arith)
same_phases_to (suc n) phases others is conn below =
    let both = and_parts (same_phase (phases n) (others n)) (same_phases n phases others) is in
    elim (cases_lt conn n) [
      | inl less ↦ same_phases_to n phases others both.1 conn less
      | inr past ↦ let last : conn ≡ n = omega arith in rw last (same_phase_to (phases n) (others n) both.0)
    ]

same_phases_from : (n : ℕ) (phases others : Phases) → ((conn : ℕ) → conn < n → phases conn ≡ others conn) → same_phases n phases others ≡ true
unfolding same_phases
same_phases_from zero phases others all = refl
same_phases_from (suc n) phases others all =
    rw (all n (omega arith), same_phase_self (others n)) (same_phases_from n phases others (λ conn below. all conn (omega arith)))

-- a header is looked at by the phase of its own connection, which is below CONNECTIONS or refused before
refusal_agrees : (phases others : Phases) (header : Header) → Agree phases others → header_refusal phases header ≡ header_refusal others header
refusal_agrees phases others header agree = by_test (nat_lt header.conn CONNECTIONS) refl
  where
    by_test : (below : Bool) → nat_lt header.conn CONNECTIONS ≡ below → header_refusal phases header ≡ header_refusal others header
    by_test true is = ap (λ phase. header_refusal (λ _. phase) header) (agree.same header.conn (ltb-true header.conn CONNECTIONS is))
    by_test false is = rw is refl

pub front_agrees : (phases others : Phases) (bytes : List ℕ) → Agree phases others → front phases bytes ≡ front others bytes
front_agrees phases others [] agree = refl
front_agrees phases others (_ ∷ []) agree = refl
front_agrees phases others (_ ∷ _ ∷ []) agree = refl
front_agrees phases others (_ ∷ _ ∷ _ ∷ []) agree = refl
front_agrees phases others (_ ∷ _ ∷ _ ∷ _ ∷ []) agree = refl
front_agrees phases others (kind ∷ conn_low ∷ conn_high ∷ length_low ∷ length_high ∷ payload) agree =
    ap (λ refusal. front_by refusal (front_accepted (record { kind = kind; conn = from_two_bytes conn_low conn_high; length = from_two_bytes length_low length_high }) payload))
    (refusal_agrees phases others (record { kind = kind; conn = from_two_bytes conn_low conn_high; length = from_two_bytes length_low length_high }) agree)

order_agrees : (phases others : Phases) (event : LinkEvent) → Agree phases others → IsInOrder phases event → IsInOrder others event
order_agrees phases others (event.Opens conn) agree order = (order.0, sym (agree.same conn order.0) ∙ order.1)
order_agrees phases others (event.Piece conn bytes) agree order = (order.0, sym (agree.same conn order.0) ∙ order.1)
order_agrees phases others (event.Closes conn) agree order = (order.0, sym (agree.same conn order.0) ∙ order.1)
order_agrees phases others event.Settles agree order = tt
order_agrees phases others event.Ends agree order = tt

with_agrees : (phases others : Phases) (conn : ℕ) (phase : Phase) (other : ℕ) → phases other ≡ others other → with_phase conn phase phases other ≡ with_phase conn phase others other
with_agrees phases others conn phase other same = ap (λ before. if other == conn then phase else before) same

after_agrees : (phases others : Phases) (event : LinkEvent) (conn : ℕ) → phases conn ≡ others conn → phases_after event phases conn ≡ phases_after event others conn
after_agrees phases others (event.Opens opened) conn same = with_agrees phases others opened Open conn same
after_agrees phases others (event.Piece to bytes) conn same = same
after_agrees phases others (event.Closes closed) conn same = with_agrees phases others closed Closed conn same
after_agrees phases others event.Settles conn same = same
after_agrees phases others event.Ends conn same = same

-- as many of the last bytes more as there are more bytes
pub last_bytes-append : (count now : ℕ) (bytes more : List ℕ) → count ≤ length bytes → now ≡ count + length more → last_bytes now (bytes ++ more) ≡ last_bytes count bytes ++ more
last_bytes-append count now bytes more within is =
    ap (λ n. drop n (bytes ++ more)) (omega (arith, length-append bytes more))
    ∙ drop-append-le (length bytes - count) bytes more (omega arith)

-- a link is in step with its source
pub record InStep (took : ℕ) (phases : Phases) (taken : List ℕ) : Type 0 where
  pub within : took ≤ length taken
  pub between : (read_from fresh (last_bytes took taken)).part ≡ []
  pub agree : Agree (read_from fresh (last_bytes took taken)).state phases

pub empty_list : (bytes : List ℕ) → is_empty bytes ≡ true → bytes ≡ []
empty_list [] is = refl
empty_list (byte ∷ bytes) is = cc

pub in_step_from : (took : ℕ) (phases : Phases) (taken : List ℕ) → is_in_step took phases true taken ≡ true → InStep took phases taken
in_step_from took phases taken is =
    let first = and_parts (nat_le took (length taken)) (is_empty (read_from fresh (last_bytes took taken)).part && same_phases CONNECTIONS (read_from fresh (last_bytes took taken)).state phases) is in
    let second = and_parts (is_empty (read_from fresh (last_bytes took taken)).part) (same_phases CONNECTIONS (read_from fresh (last_bytes took taken)).state phases) first.1 in record {
      within = leb-true took (length taken) first.0;
      between = empty_list (read_from fresh (last_bytes took taken)).part second.0;
      agree = record { same = same_phases_to CONNECTIONS (read_from fresh (last_bytes took taken)).state phases second.1 };
    }

pub in_step_to : (took : ℕ) (phases : Phases) (taken : List ℕ) → InStep took phases taken → is_in_step took phases true taken ≡ true
in_step_to took phases taken step =
    rw (le-leb took (length taken) step.within, step.between) (same_phases_from CONNECTIONS (read_from fresh (last_bytes took taken)).state phases step.agree.same)

-- a link that takes no more is in step with as many bytes as it has counted
stopped_to : (took : ℕ) (phases : Phases) (taken : List ℕ) → took ≤ length taken → is_in_step took phases false taken ≡ true
stopped_to took phases taken within = rw (le-leb took (length taken) within) refl

-- the same progress, with the part that it has
as_between : (progress : Progress Phases LinkEvent) → progress.part ≡ [] → progress ≡ record { whole = progress.whole; state = progress.state; part = [] }
as_between progress none = ap (λ l. record { whole = progress.whole; state = progress.state; part = l }) none

read_more : (bytes more : List ℕ) → (read_from fresh bytes).part ≡ []
    → read_from fresh (bytes ++ more) ≡ put_bytes event_reader (record { whole = (read_from fresh bytes).whole; state = (read_from fresh bytes).state; part = [] }) more
read_more bytes more between =
    put_bytes-append event_reader (record { whole = []; state = fresh; part = [] }) bytes more
    ∙ ap (λ progress. put_bytes event_reader progress more) (as_between (read_from fresh bytes) between)

-- the frame of an event in order brings that event
read_frame : (phases : Phases) (event : LinkEvent) (bytes more : List ℕ) → (read_from fresh bytes).part ≡ [] → Agree (read_from fresh bytes).state phases → IsFrameOf event more → IsInOrder phases event
    → read_from fresh (bytes ++ more) ≡ record { whole = (read_from fresh bytes).whole ++ event ∷ []; state = phases_after event (read_from fresh bytes).state; part = [] }
read_frame phases event bytes more between agree is order =
    read_more bytes more between
    ∙ put_bytes-frame (read_from fresh bytes).state event more (read_from fresh bytes).whole
    (frame-accepted (read_from fresh bytes).state event more is (order_agrees phases (read_from fresh bytes).state event (turned agree) order))
  where
    turned : {p q : Phases} → Agree p q → Agree q p
    turned {p} {q} agree = record { same = λ conn below. sym (agree.same conn below) }

-- a part of a frame, or a header that is refused, brings none
read_part : (phases : Phases) (bytes more : List ℕ) → (read_from fresh bytes).part ≡ [] → Agree (read_from fresh bytes).state phases → whole_event (front phases more) ≡ None
    → read_from fresh (bytes ++ more) ≡ record { whole = (read_from fresh bytes).whole; state = (read_from fresh bytes).state; part = more }
read_part phases bytes more between agree none =
    read_more bytes more between
    ∙ put_bytes-part event_reader events_steady (read_from fresh bytes).whole (read_from fresh bytes).state [] more
    (ap whole_event (front_agrees (read_from fresh bytes).state phases more agree) ∙ none)

-- in step, and the events by so many more
pub record StepsTo (took now : ℕ) (phases : Phases) (takes : Bool) (taken later : List ℕ) (more : List LinkEvent) : Type 0 where
  pub in_step : is_in_step now phases takes later ≡ true
  pub grown : events fresh (last_bytes now later) ≡ events fresh (last_bytes took taken) ++ more

pub step_frame : (took now : ℕ) (phases next : Phases) (event : LinkEvent) (taken bytes : List ℕ) → InStep took phases taken → now ≡ took + length bytes → IsFrameOf event bytes → IsInOrder phases event
    → ((conn : ℕ) → next conn ≡ phases_after event phases conn) → StepsTo took now next true taken (taken ++ bytes) (event ∷ [])
step_frame took now phases next event taken bytes step count is order after =
    let last = last_bytes-append took now taken bytes step.within count in
    let read = ap (read_from fresh) last ∙ read_frame phases event (last_bytes took taken) bytes step.between step.agree is order in record {
      in_step = in_step_to now next (taken ++ bytes) (record {
        within = omega (arith, count, step.within, length-append taken bytes);
        between = ap (λ progress. progress.part) read;
        agree = record {
          same = λ conn below. ap (λ progress. progress.state conn) read
              ∙ after_agrees (read_from fresh (last_bytes took taken)).state phases event conn (step.agree.same conn below) ∙ sym (after conn);
        };
      });
      grown = ap (λ progress. progress.whole) read;
    }

pub step_none : (took : ℕ) (phases next : Phases) (taken : List ℕ) → InStep took phases taken → ((conn : ℕ) → next conn ≡ phases conn) → StepsTo took took next true taken taken []
step_none took phases next taken step after = record {
  in_step = in_step_to took next taken (record {
    within = step.within;
    between = step.between;
    agree = record { same = λ conn below. step.agree.same conn below ∙ sym (after conn) };
  });
  grown = sym (append-nil (events fresh (last_bytes took taken)));
}

pub step_part : (took now : ℕ) (phases next : Phases) (taken bytes : List ℕ) → InStep took phases taken → now ≡ took + length bytes → whole_event (front phases bytes) ≡ None
    → StepsTo took now next false taken (taken ++ bytes) []
step_part took now phases next taken bytes step count none =
    let last = last_bytes-append took now taken bytes step.within count in record {
      in_step = stopped_to now next (taken ++ bytes) (omega (arith, count, step.within, length-append taken bytes));
      grown = ap (λ l. events fresh l) last
          ∙ ap (λ progress. progress.whole) (read_part phases (last_bytes took taken) bytes step.between step.agree none)
          ∙ sym (append-nil (events fresh (last_bytes took taken)));
    }
