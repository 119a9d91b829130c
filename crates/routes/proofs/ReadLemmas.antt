-- What a trunk's session took, by what its link told.
use Rattle.trunk_wire.proofs.ProgressLemmas.{put_bytes-append, put_bytes-part}
use Rattle.trunk_wire.proofs.TellingLemmas.{last_bytes-append}
use Rattle.trunk_wire.proofs.GiveLemmas.{no_bytes}
use Rattle.routes.proofs.Terms.{Bool, List, None, Option, Some, [], ap, append-nil, append_assoc, arith, false, if◌then◌else◌, inl, inr, length, length-append, refl, sym, true, ℕ, ◌++◌, ◌-◌, ◌<◌, ◌^◌, ◌∙◌, ◌∷◌, ◌≡◌, ◌≢◌, fun_ext, IsDrained, Stream, Took, LinkEvent, Grew, Phases, Refuses, phases_after, Refusal, events_steady, frame-accepted, put_bytes-frame, Countable, not_whole, count_after, AreFramesOf, AreInOrder, IsTail, phases_behind, event_at, front, last_bytes, put_bytes, event_reader, events, fresh, whole_event, is_in_step, told_coming, told_events, IsBehind}

-- the frames of events in order bring these events, and their phases
read_frames : (phases : Phases) (before list : List LinkEvent) (bytes : List ℕ) → AreInOrder phases list → AreFramesOf list bytes
    → put_bytes event_reader (record { whole = before; state = phases; part = [] }) bytes ≡ record { whole = before ++ list; state = phases_behind list phases; part = [] }
read_frames phases before [] bytes order are =
    ap (λ l. put_bytes event_reader (record { whole = before; state = phases; part = [] }) l) are
    ∙ ap (λ l. record { whole = l; state = phases; part = [] }) (sym (append-nil before))
read_frames phases before (first ∷ list) bytes order (one, rest, whole, is, are) =
    ap (λ l. put_bytes event_reader (record { whole = before; state = phases; part = [] }) l) whole
    ∙ put_bytes-append event_reader (record { whole = before; state = phases; part = [] }) one rest
    ∙ ap (λ progress. put_bytes event_reader progress rest) (put_bytes-frame phases first one before (frame-accepted phases first one is order.0))
    ∙ read_frames (phases_after first phases) (before ++ first ∷ []) list rest order.1 are
    ∙ ap (λ l. record { whole = l; state = phases_behind list (phases_after first phases); part = [] }) (append_assoc before (first ∷ []) list)

-- and what is no whole frame behind them brings none
events_behind : (list : List LinkEvent) (whole tail : List ℕ) → AreInOrder fresh list → AreFramesOf list whole → whole_event (front (phases_behind list fresh) tail) ≡ None → events fresh (whole ++ tail) ≡ list
events_behind list whole tail order are none =
    ap (λ progress. progress.whole)
    (put_bytes-append event_reader (record { whole = []; state = fresh; part = [] }) whole tail
    ∙ ap (λ progress. put_bytes event_reader progress tail) (read_frames fresh [] list whole order are)
    ∙ put_bytes-part event_reader events_steady list (phases_behind list fresh) [] tail none)

-- the last bytes are those that a count from nothing counted
pub last_all : (count : ℕ) (before bytes : List ℕ) → length bytes < 2 ^ 64 - 1 → count ≡ count_after 0 (length bytes) → last_bytes count (before ++ bytes) ≡ bytes
last_all count before bytes few is = last_bytes-append 0 count before bytes (omega arith) (omega (arith, is)) ∙ ap (λ l. l ++ bytes) (no_bytes before)

-- a tail is no whole frame
pub tail_none : (phases : Phases) (drained : Type 0) (at : ℕ) (takes : Bool) (refused : Option Refusal) (tail : List ℕ) → IsTail phases drained at takes refused tail → whole_event (front phases tail) ≡ None
tail_none phases drained at true refused tail is = ap (λ l. whole_event (front phases l)) is
tail_none phases drained at false None tail is = ap whole_event is
tail_none phases drained at false (Some refusal) tail is = not_whole phases drained refusal.kind tail is.1

-- what was taken is short enough to be counted
pub few_taken : (old new : Stream) (bytes : List ℕ) → Took (Some old) (Some new) bytes → Countable (Some new) → length bytes < 2 ^ 64 - 1
few_taken old new bytes took few = omega (arith, ap length took.0, length-append old.taken bytes)

-- a tail is taken by a take that failed
pub tail_asked : (phases : Phases) (drained : Type 0) (at : ℕ) (takes : Bool) (refused : Option Refusal) (tail : List ℕ) → IsTail phases drained at takes refused tail → tail ≢ [] → takes ≡ false
tail_asked phases drained at true refused tail is some = absurd (some is)
tail_asked phases drained at false refused tail is some = refl

-- the events that are told are those whose frames were taken
pub events_told : (old : Stream) (new : Option Stream) (took : ℕ) (phases : Phases) (takes : Bool) (list went : List LinkEvent) (whole tail : List ℕ) → Countable new → Took (Some old) new (whole ++ tail)
    → took ≡ count_after 0 (length (whole ++ tail)) → AreInOrder fresh went → AreFramesOf went whole → whole_event (front (phases_behind went fresh) tail) ≡ None
    → Grew (Some []) (told_events new took phases takes) list → went ≡ list
events_told old None took phases takes list went whole tail few read count order are none grew = absurd grew
events_told old (Some new) took phases takes list went whole tail few read count order are none grew = by_test (is_in_step took phases takes new.taken) grew
  where
    by_test : (b : Bool) → Grew (Some []) (if b then Some (events fresh (last_bytes took new.taken)) else None) list → went ≡ list
    by_test false grew = absurd grew
    by_test true grew =
        sym (events_behind went whole tail order are none)
        ∙ ap (events fresh) (sym (ap (last_bytes took) read.0 ∙ last_all took old.taken (whole ++ tail) (few_taken old new (whole ++ tail) read few) count)) ∙ grew

-- what comes behind the frames that were taken
pub stands_behind : (list : List LinkEvent) (old : Stream) (new : Option Stream) (took : ℕ) (phases : Phases) (takes : Bool) (refused : Option Refusal) (whole tail : List ℕ) → Countable new → Took (Some old) new (whole ++ tail)
    → took ≡ count_after 0 (length (whole ++ tail)) → ((conn : ℕ) → phases conn ≡ phases_behind list fresh conn)
    → IsTail (phases_behind list fresh) (IsDrained new) (count_after 0 (length whole)) takes refused tail → IsBehind (phases_behind list fresh) (length whole) new tail (told_coming new took phases takes refused)
stands_behind list old None took phases takes refused whole tail few read count same is = absurd read
stands_behind list old (Some new) took phases true refused whole tail few read count same is =
    let here : took ≡ length whole = omega (arith, few_taken old new (whole ++ tail) read few, count, ap length is, length-append whole tail) in
    inl (is, ap (λ n. Some (event_at phases n new.left)) here ∙ ap (λ at. Some (event_at at (length whole) new.left)) (fun_ext same))
stands_behind list old (Some new) took phases false None whole tail few read count same is = inr (inl (is, refl))
stands_behind list old (Some new) took phases false (Some refusal) whole tail few read count same is =
    let here : refusal.offset ≡ length whole = omega (arith, few_taken old new (whole ++ tail) read few, is.0, length-append whole tail) in
    inr (inr (refusal.kind, is.1, ap (λ n. Some (Refuses refusal.kind n)) here))
