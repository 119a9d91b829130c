-- The clauses of a link, by what was taken and written.
use Rattle.links.specs.declared.journal.Entry.TheVariants as entry
use Rattle.links.specs.declared.journal.LinkEvent.TheVariants as event
use Rattle.trunk_wire.proofs.Terms.{Bool, Err, IfSome, List, None, Ok, Option, Result, Some, [], ap, append-nil, arith, false, if◌then◌else◌, inl, inr, is_ok, length, length-append, refl, subst, sym, true, ℕ, ◌++◌, ◌+◌, ◌-◌, ◌<◌, ◌^◌, ◌∙◌, ◌∷◌, ◌≡◌, ◌≤◌, IsDrained, Stream, Took, Entry, LinkEvent, LinkFault, Memory, ReadFault, Refused, WriteFault, grew_nothing, Comes, Coming, Enters, GoesBy, Grew, IsInOrder, Nexts, Phases, Piece, Refuses, Tells, events_in, phases_after, pieces_in, Refusal, IsFrameOf, Bad, Part, Whole, coming_of, event_at, front, last_bytes, events, fresh, whole_event, HasOffset, IsRefused, Reads, TakesBy, count_after, is_in_step, told_coming, told_events, trunk_told}
use Rattle.trunk_wire.proofs.GrammarLemmas.{frame-accepted, front-accepted, front-bad}
use Rattle.trunk_wire.proofs.TellingLemmas.{InStep, StepsTo, in_step_from, step_frame, step_none, step_part}

grew_by : (took now : ℕ) (phases next : Phases) (takes : Bool) (taken later : List ℕ) (more : List LinkEvent) → (InStep took phases taken → StepsTo took now next takes taken later more)
    → Grew (if is_in_step took phases true taken then Some (events fresh (last_bytes took taken)) else None)
    (if is_in_step now next takes later then Some (events fresh (last_bytes now later)) else None) more
grew_by took now phases next takes taken later more steps = by_test (is_in_step took phases true taken) refl
  where
    by_test : (b : Bool) → is_in_step took phases true taken ≡ b
        → Grew (if b then Some (events fresh (last_bytes took taken)) else None) (if is_in_step now next takes later then Some (events fresh (last_bytes now later)) else None) more
    by_test true is = let step = steps (in_step_from took phases taken is) in rw step.in_step step.grown
    by_test false is = tt

-- what was counted while it is told
counted_more : (took now : ℕ) (taken later left bytes : List ℕ) → took ≤ length taken → later ≡ taken ++ bytes → length later + length left < 2 ^ 64 - 1 → now ≡ count_after took (length bytes) → now ≡ took + length bytes
counted_more took now taken later left bytes within is few count = omega (arith, ap length is, length-append taken bytes)

abbrev pub Countable : Option Stream → Type 0
Countable source = IfSome source (λ stream. length stream.taken + length stream.left < 2 ^ 64 - 1)

-- the frame of an event was taken
told_frame : (old new : Option Stream) (took now : ℕ) (phases next : Phases) (event : LinkEvent) (bytes : List ℕ) → Countable new → Reads old new took now bytes → IsFrameOf event bytes → IsInOrder phases event
    → ((conn : ℕ) → next conn ≡ phases_after event phases conn) → Grew (told_events old took phases true) (told_events new now next true) (event ∷ [])
told_frame None new took now phases next event bytes few read is order after = tt
told_frame (Some old) None took now phases next event bytes few read is order after = absurd read.took
told_frame (Some old) (Some new) took now phases next event bytes few read is order after =
    grew_by took now phases next true old.taken new.taken (event ∷ [])
    (λ step. let P : List ℕ → Type 0 = λ l. StepsTo took now next true old.taken l (event ∷ []) in
    subst P (sym read.took.0) (step_frame took now phases next event old.taken bytes step
    (counted_more took now old.taken new.taken new.left bytes step.within read.took.0 few read.count) is order after))

-- no byte was taken, at the end
told_end : (old new : Option Stream) (took now : ℕ) (phases next : Phases) (bytes : List ℕ) → Countable new → Reads old new took now bytes → bytes ≡ [] → ((conn : ℕ) → next conn ≡ phases conn)
    → Grew (told_events old took phases true) (told_events new now next true) []
told_end None new took now phases next bytes few read is after = tt
told_end (Some old) None took now phases next bytes few read is after = absurd read.took
told_end (Some old) (Some new) took now phases next bytes few read is after =
    grew_by took now phases next true old.taken new.taken []
    (λ step. let count = counted_more took now old.taken new.taken new.left bytes step.within read.took.0 few read.count in
    let same_taken : old.taken ≡ new.taken = sym (read.took.0 ∙ ap (λ l. old.taken ++ l) is ∙ append-nil old.taken) in
    let same_count : took ≡ now = omega (arith, count, ap length is) in
    let P : List ℕ → Type 0 = λ l. StepsTo took now next true old.taken l [] in
    let Q : ℕ → Type 0 = λ n. StepsTo took n next true old.taken old.taken [] in
    subst P same_taken (subst Q same_count (step_none took phases next old.taken step after)))

-- bytes were taken that are no whole frame, and no more are taken
told_part : (old new : Option Stream) (took now : ℕ) (phases next : Phases) (bytes : List ℕ) → Countable new → Reads old new took now bytes → whole_event (front phases bytes) ≡ None
    → Grew (told_events old took phases true) (told_events new now next false) []
told_part None new took now phases next bytes few read none = tt
told_part (Some old) None took now phases next bytes few read none = absurd read.took
told_part (Some old) (Some new) took now phases next bytes few read none =
    grew_by took now phases next false old.taken new.taken []
    (λ step. let P : List ℕ → Type 0 = λ l. StepsTo took now next false old.taken l [] in
    subst P (sym read.took.0) (step_part took now phases next old.taken bytes step
    (counted_more took now old.taken new.taken new.left bytes step.within read.took.0 few read.count) none))

pub not_whole : (phases : Phases) (drained : Type 0) (kind : ℕ) (bytes : List ℕ) → IsRefused phases drained kind bytes → whole_event (front phases bytes) ≡ None
not_whole phases drained kind bytes (inl bad) = ap whole_event bad.0
not_whole phases drained kind bytes (inr cut) = ap whole_event cut.1

tells_events : (old new : Option (List LinkEvent)) (pieces : Option (List Piece)) (entries : List Entry) → Grew old new (events_in entries) → pieces_in entries ≡ [] → Tells (trunk_told old pieces) (trunk_told new pieces) entries
tells_events old new pieces entries grown none = record {
  events = grown;
  pieces = let P : List Piece → Type 0 = λ l. Grew pieces pieces l in subst P (sym none) (grew_nothing pieces);
  journal = tt;
}

-- what a trunk tells after a `next`
pub next_told : (old new : Option Stream) (took now : ℕ) (phases next : Phases) (pieces : Option (List Piece)) (result : Result LinkEvent LinkFault) → Countable new
    → TakesBy phases (Reads old new took now) (IsDrained new) result → Enters phases next result
    → Nexts (trunk_told (told_events old took phases true) pieces) (trunk_told (told_events new now next (is_ok result)) pieces) result
next_told old new took now phases next pieces (Ok (event.Opens conn)) few taken order =
    tells_events _ _ pieces (entry.Took (event.Opens conn) ∷ []) (told_frame old new took now phases next (event.Opens conn) taken.0 few taken.1 taken.2 order.0 order.1) refl
next_told old new took now phases next pieces (Ok (event.Piece conn bytes)) few taken order =
    tells_events _ _ pieces (entry.Took (event.Piece conn bytes) ∷ []) (told_frame old new took now phases next (event.Piece conn bytes) taken.0 few taken.1 taken.2 order.0 order.1) refl
next_told old new took now phases next pieces (Ok (event.Closes conn)) few taken order =
    tells_events _ _ pieces (entry.Took (event.Closes conn) ∷ []) (told_frame old new took now phases next (event.Closes conn) taken.0 few taken.1 taken.2 order.0 order.1) refl
next_told old new took now phases next pieces (Ok event.Settles) few taken order =
    tells_events _ _ pieces (entry.Took event.Settles ∷ []) (told_frame old new took now phases next event.Settles taken.0 few taken.1 taken.2 order.0 order.1) refl
next_told old new took now phases next pieces (Ok event.Ends) few taken order =
    tells_events _ _ pieces (entry.Took event.Ends ∷ []) (told_end old new took now phases next taken.0 few taken.1 taken.2.0 order.1) refl
next_told old new took now phases next pieces (Err (Refused kind offset)) few taken order =
    tells_events _ _ pieces [] (told_part old new took now phases next taken.0 few taken.1 (not_whole phases (IsDrained new) kind taken.0 taken.2)) refl
next_told old new took now phases next pieces (Err ReadFault) few taken order =
    tells_events _ _ pieces [] (told_part old new took now phases next taken.0 few taken.1 (ap whole_event taken.2)) refl
next_told old new took now phases next pieces (Err Memory) few taken order =
    tells_events _ _ pieces [] (told_part old new took now phases next taken.0 few taken.1 (ap whole_event taken.2)) refl
next_told old new took now phases next pieces (Err WriteFault) few taken order = absurd taken

coming_whole : (phases : Phases) (offset : ℕ) (bytes : List ℕ) (event : LinkEvent) → front phases bytes ≡ Whole event → event_at phases offset bytes ≡ Comes event
coming_whole phases offset [] event is = cc
coming_whole phases offset (byte ∷ bytes) event is = ap (coming_of offset) is

coming_bad : (phases : Phases) (offset kind : ℕ) (bytes : List ℕ) → front phases bytes ≡ Bad kind → event_at phases offset bytes ≡ Refuses kind offset
coming_bad phases offset kind [] is = cc
coming_bad phases offset kind (byte ∷ bytes) is = ap (coming_of offset) is

coming_cut : (phases : Phases) (offset : ℕ) (bytes : List ℕ) → 0 < length bytes → front phases bytes ≡ Part → event_at phases offset bytes ≡ Refuses 5 offset
coming_cut phases offset [] some is = absurd (omega arith)
coming_cut phases offset (byte ∷ bytes) some is = ap (coming_of offset) is

frame_comes : (old new : Option Stream) (took : ℕ) (phases : Phases) (refused : Option Refusal) (event : LinkEvent) (bytes : List ℕ) → Took old new bytes → IsFrameOf event bytes → IsInOrder phases event
    → IfSome (told_coming old took phases true refused) (λ next. next ≡ Comes event)
frame_comes None new took phases refused event bytes read is order = tt
frame_comes (Some old) None took phases refused event bytes read is order = absurd read
frame_comes (Some old) (Some new) took phases refused event bytes read is order =
    coming_whole phases took old.left event
    (ap (front phases) read.1 ∙ front-accepted phases event bytes new.left (frame-accepted phases event bytes is order))

end_comes : (old new : Option Stream) (took : ℕ) (phases : Phases) (refused : Option Refusal) (bytes : List ℕ) → Took old new bytes → bytes ≡ [] → IsDrained new → IfSome (told_coming old took phases true refused) (λ next. next ≡ Comes event.Ends)
end_comes None new took phases refused bytes read is drained = tt
end_comes (Some old) None took phases refused bytes read is drained = absurd read
end_comes (Some old) (Some new) took phases refused bytes read is drained = ap (event_at phases took) (read.1 ∙ ap (λ l. l ++ new.left) is ∙ drained)

refusal_comes : (old new : Option Stream) (took kind offset : ℕ) (phases : Phases) (refused : Option Refusal) (bytes : List ℕ) → Took old new bytes → IsRefused phases (IsDrained new) kind bytes → offset ≡ took
    → IfSome (told_coming old took phases true refused) (λ next. next ≡ Refuses kind offset)
refusal_comes None new took kind offset phases refused bytes read refusal is = tt
refusal_comes (Some old) None took kind offset phases refused bytes read refusal is = absurd read
refusal_comes (Some old) (Some new) took kind offset phases refused bytes read (inl bad) is =
    coming_bad phases took kind old.left (ap (front phases) read.1 ∙ front-bad phases bytes new.left kind bad.0) ∙ ap (Refuses kind) (sym is)
refusal_comes (Some old) (Some new) took kind offset phases refused bytes read (inr cut) is =
    let all : old.left ≡ bytes = read.1 ∙ ap (λ l. bytes ++ l) cut.3 ∙ append-nil bytes in
    ap (event_at phases took) all ∙ coming_cut phases took bytes cut.2 cut.1 ∙ rw (is, cut.0) refl

-- an event that comes is the next one
goes : (coming : Option Coming) (event : LinkEvent) → IfSome coming (λ next. next ≡ Comes event) → GoesBy coming (Ok event)
goes None event comes = tt
goes (Some next) event comes = λ known. comes

-- an answer is the grammar's
pub next_goes_by : (old new : Option Stream) (took now : ℕ) (phases next : Phases) (refused : Option Refusal) (result : Result LinkEvent LinkFault) → TakesBy phases (Reads old new took now) (IsDrained new) result → Enters phases next result
    → HasOffset took result → GoesBy (told_coming old took phases true refused) result
next_goes_by old new took now phases next refused (Ok (event.Opens conn)) taken order offset = goes (told_coming old took phases true refused) (event.Opens conn) (frame_comes old new took phases refused (event.Opens conn) taken.0 taken.1.took taken.2 order.0)
next_goes_by old new took now phases next refused (Ok (event.Piece conn bytes)) taken order offset = goes (told_coming old took phases true refused) (event.Piece conn bytes) (frame_comes old new took phases refused (event.Piece conn bytes) taken.0 taken.1.took taken.2 order.0)
next_goes_by old new took now phases next refused (Ok (event.Closes conn)) taken order offset = goes (told_coming old took phases true refused) (event.Closes conn) (frame_comes old new took phases refused (event.Closes conn) taken.0 taken.1.took taken.2 order.0)
next_goes_by old new took now phases next refused (Ok event.Settles) taken order offset = goes (told_coming old took phases true refused) event.Settles (frame_comes old new took phases refused event.Settles taken.0 taken.1.took taken.2 order.0)
next_goes_by old new took now phases next refused (Ok event.Ends) taken order offset = goes (told_coming old took phases true refused) event.Ends (end_comes old new took phases refused taken.0 taken.1.took taken.2.0 taken.2.1)
next_goes_by old new took now phases next refused (Err (Refused kind offset)) taken order at_offset = refusal_comes old new took kind offset phases refused taken.0 taken.1.took taken.2 at_offset
next_goes_by old new took now phases next refused (Err ReadFault) taken order offset = tt
next_goes_by old new took now phases next refused (Err Memory) taken order offset = tt
next_goes_by old new took now phases next refused (Err WriteFault) taken order offset = absurd taken
