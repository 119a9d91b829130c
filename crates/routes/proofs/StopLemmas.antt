-- What a trunk's session had taken where it came to its end.
use Rattle.links.specs.declared.journal.LinkEvent.TheVariants as event
use Rattle.session_history.specs.declared.ends.SessionEnd.TheVariants as session_end
use Rattle.trunk_wire.specs.declared.header.Header.{Header}
use Rattle.trunk_wire.specs.declared.header.TheConstants.{OPEN, BYTES, CLOSE}
use Rattle.routes.proofs.Terms.{Bool, List, None, Option, Some, [], ap, append-nil, arith, false, if◌then◌else◌, inl, inr, length, length-append, nat_lt, refl, subst, sym, take, true, ℕ, ◌++◌, ◌==◌, ◌∙◌, ◌∷◌, ◌≡◌, ◌≢◌, IfSome, IsSome, IsDrained, Stream, Took, LinkEvent, Comes, ComesUntold, IsNext, Phases, Refuses, Refusal, Countable, IsRefused, count_after, AreFramesOf, header_of, AreInOrder, Intake, IsTail, phases_behind, Bad, Front, Part, Whole, coming_of, event_at, event_of, front, front_accepted, front_by, header_refusal, fresh, told_coming, SessionEnd, Session, HasComeTo, TakesAtEnd, Rules, StopsAt, TookNoPart, TookRefused, TookWhole}
use Rattle.routes.proofs.ReadLemmas.{few_taken}

-- a frame is no end
no_end : (first second third : Bool) (conn : ℕ) (bytes : List ℕ) → (if first then event.Opens conn else if second then event.Piece conn bytes else if third then event.Closes conn else event.Settles) ≡ event.Ends → ⊥
no_end true second third conn bytes is = cc
no_end false true third conn bytes is = cc
no_end false false true conn bytes is = cc
no_end false false false conn bytes is = cc

accepted_no_end : (at : ℕ) (header : Header) (bytes : List ℕ) → coming_of at (front_accepted header bytes) ≡ Comes event.Ends → ⊥
accepted_no_end at header bytes = by_test (nat_lt (length bytes) header.length)
  where
    by_test : (short : Bool) → coming_of at (if short then Part else Whole (event_of header (take header.length bytes))) ≡ Comes event.Ends → ⊥
    by_test true is = cc
    by_test false is =
        let same : event_of header (take header.length bytes) ≡ event.Ends = cc in
        no_end (header.kind == OPEN) (header.kind == BYTES) (header.kind == CLOSE) header.conn (take header.length bytes) same

behind_no_end : (at : ℕ) (refusal : Option ℕ) (header : Header) (bytes : List ℕ) → coming_of at (front_by refusal (front_accepted header bytes)) ≡ Comes event.Ends → ⊥
behind_no_end at None header bytes is = accepted_no_end at header bytes is
behind_no_end at (Some kind) header bytes is = cc

front_no_end : (phases : Phases) (at : ℕ) (bytes : List ℕ) → coming_of at (front phases bytes) ≡ Comes event.Ends → ⊥
front_no_end phases at [] is = cc
front_no_end phases at (a ∷ []) is = cc
front_no_end phases at (a ∷ b ∷ []) is = cc
front_no_end phases at (a ∷ b ∷ c ∷ []) is = cc
front_no_end phases at (a ∷ b ∷ c ∷ d ∷ []) is = cc
front_no_end phases at (a ∷ b ∷ c ∷ d ∷ e ∷ bytes) is = behind_no_end at (header_refusal phases (header_of a b c d e)) (header_of a b c d e) bytes is

-- where the end comes no byte is left
none_left : (phases : Phases) (at : ℕ) (bytes : List ℕ) → event_at phases at bytes ≡ Comes event.Ends → bytes ≡ []
none_left phases at [] is = refl
none_left phases at (byte ∷ bytes) is = absurd (front_no_end phases at (byte ∷ bytes) is)

-- a trunk tells which event comes
coming_told : (at : ℕ) (next : Front) → coming_of at next ≢ ComesUntold
coming_told at (Whole event) same = cc
coming_told at Part same = cc
coming_told at (Bad kind) same = cc

event_told : (phases : Phases) (at : ℕ) (bytes : List ℕ) → event_at phases at bytes ≢ ComesUntold
event_told phases at [] same = cc
event_told phases at (byte ∷ bytes) same = coming_told at (front phases (byte ∷ bytes)) same

pub drained : (told : Option Stream) (took : ℕ) (phases : Phases) (takes : Bool) (refused : Option Refusal) → takes ≡ true → IfSome (told_coming told took phases takes refused) (λ next. IsNext next event.Ends) → IsDrained told
drained None took phases takes refused is ends = tt
drained (Some stream) took phases true refused is ends = none_left phases took stream.left (ends (event_told phases took stream.left))
drained (Some stream) took phases false refused is ends = let no : ⊥ = cc in absurd no

-- what is refused, by the refusal that the link has
refused_is : (behind : Phases) (end : Type 0) (at : ℕ) (tail : List ℕ) (told : Option Stream) (took : ℕ) (phases : Phases) (takes : Bool) (refused : Option Refusal) (kind offset : ℕ) → takes ≡ false
    → IsSome (told_coming told took phases takes refused) → IfSome (told_coming told took phases takes refused) (λ next. next ≡ Refuses kind offset) → IsTail behind end at takes refused tail
    → IsRefused behind end kind tail × (offset ≡ at)
refused_is behind end at tail None took phases takes refused kind offset is known next stands = let no : ⊥ = cc in absurd no
refused_is behind end at tail (Some stream) took phases true refused kind offset is known next stands = let no : ⊥ = cc in absurd no
refused_is behind end at tail (Some stream) took phases false None kind offset is known next stands = let no : ⊥ = cc in absurd no
refused_is behind end at tail (Some stream) took phases false (Some refusal) kind offset is known next stands =
    let kinds : refusal.kind ≡ kind = cc in
    let offsets : refusal.offset ≡ offset = cc in
    (subst (λ k. IsRefused behind end k tail) kinds stands.1, sym offsets ∙ stands.0)

-- What a link took since it was made: the frames of these events, and a tail behind them.
pub record HasTaken (new : Intake) (before : Stream) (list : List LinkEvent) : Type 0 where
  pub whole : List ℕ
  pub tail : List ℕ
  pub order : AreInOrder fresh list
  pub are : AreFramesOf list whole
  pub took : Took (Some before) new.told (whole ++ tail)
  pub count : new.took ≡ count_after 0 (length (whole ++ tail))
  pub phases : (conn : ℕ) → new.phases conn ≡ phases_behind list fresh conn
  pub is_tail : IsTail (phases_behind list fresh) (IsDrained new.told) (count_after 0 (length whole)) new.takes new.refused tail

-- while it takes events, no byte behind their frames
pub took_whole : (new : Intake) (before : Stream) (list : List LinkEvent) → HasTaken new before list → new.takes ≡ true → TookWhole (Some before) new.told list
took_whole new before list taken takes =
    let none : taken.tail ≡ [] = subst (λ b. IsTail (phases_behind list fresh) (IsDrained new.told) (count_after 0 (length taken.whole)) b new.refused taken.tail) takes taken.is_tail in
    record {
      whole = taken.whole;
      are = taken.are;
      took = subst (Took (Some before) new.told) (ap (λ l. taken.whole ++ l) none ∙ append-nil taken.whole) taken.took;
    }

-- frames that were taken are short enough to be counted
count_whole : (before : Stream) (told : Option Stream) (whole tail : List ℕ) → Countable told → Took (Some before) told (whole ++ tail) → count_after 0 (length whole) ≡ length whole
count_whole before None whole tail few took = absurd took
count_whole before (Some new) whole tail few took =
    omega (arith, few_taken before new (whole ++ tail) took few, length-append whole tail)

pub took_refused : (new : Intake) (before : Stream) (list : List LinkEvent) (kind offset : ℕ) → Countable new.told → HasTaken new before list → new.takes ≡ false
    → IsSome (told_coming new.told new.took new.phases new.takes new.refused) → IfSome (told_coming new.told new.took new.phases new.takes new.refused) (λ next. next ≡ Refuses kind offset)
    → TookRefused (Some before) new.told list kind offset
took_refused new before list kind offset few taken takes known next =
    let refused : IsRefused (phases_behind list fresh) (IsDrained new.told) kind taken.tail × (offset ≡ count_after 0 (length taken.whole)) =
    refused_is (phases_behind list fresh) (IsDrained new.told) (count_after 0 (length taken.whole)) taken.tail new.told new.took new.phases new.takes new.refused kind offset takes known next taken.is_tail in
    record {
      whole = taken.whole;
      tail = taken.tail;
      are = taken.are;
      took = taken.took;
      refused = refused.0;
      offset_is = refused.1 ∙ count_whole before new.told taken.whole taken.tail few taken.took;
    }

-- so it stopped, at an end that the session came to
pub stops_at : {rules : Rules} {session : Session} (new : Intake) (before : Stream) (list : List LinkEvent) (end : SessionEnd) → Countable new.told → HasTaken new before list → TakesAtEnd new.takes end
    → IsSome (told_coming new.told new.took new.phases new.takes new.refused) → HasComeTo rules (told_coming new.told new.took new.phases new.takes new.refused) session end → StopsAt (Some before) new.told list end
stops_at new before list session_end.Finished few taken takes known come =
    (took_whole new before list taken takes, drained new.told new.took new.phases new.takes new.refused takes come.stands.2)
stops_at new before list (session_end.InputRefused kind offset) few taken takes known come = took_refused new before list kind offset few taken takes known come.stands.2
stops_at new before list _ few taken takes known come = took_whole new before list taken takes

refusal_of : (told : Option Stream) (took : ℕ) (phases : Phases) (takes : Bool) (refused : Option Refusal) → takes ≡ false → IsSome (told_coming told took phases takes refused)
    → (refusal : Refusal) × IfSome (told_coming told took phases takes refused) (λ next. next ≡ Refuses refusal.kind refusal.offset)
refusal_of None took phases takes refused is known = let never : ⊥ = cc in absurd never
refusal_of (Some stream) took phases true refused is known = let never : ⊥ = cc in absurd never
refusal_of (Some stream) took phases false None is known = let never : ⊥ = cc in absurd never
refusal_of (Some stream) took phases false (Some refusal) is known = (refusal, refl)

-- where it is told what comes, no part of a frame was taken
pub took_no_part : (new : Intake) (before : Stream) (list : List LinkEvent) → Countable new.told → HasTaken new before list → IsSome (told_coming new.told new.took new.phases new.takes new.refused) → TookNoPart (Some before) new.told list
took_no_part new before list few taken known = by_takes new.takes refl
  where
    by_takes : (takes : Bool) → new.takes ≡ takes → TookNoPart (Some before) new.told list
    by_takes true is = inl (took_whole new before list taken is)
    by_takes false is =
        let refusal = refusal_of new.told new.took new.phases new.takes new.refused is known in
        inr (refusal.0.kind, refusal.0.offset, took_refused new before list refusal.0.kind refusal.0.offset few taken is known refusal.1)
