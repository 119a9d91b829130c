-- What a change of one framer is seen as.
use Rattle.item_log.proofs.Terms.{Global, Err, List, None, Ok, Option, Result, Some, Vec, [], ap, get_or, inl, inr, length, refl, replicate, set, suc, sym, true, zero, ℕ, ◌<◌, ◌∙◌, ◌∷◌, ◌≡◌, cases_lt, get_or-map, get_or_past, length-map, map-set, set-get_or, is_some, unwrap_or, FrameRefusal, Memory, TooLong, Framing, Feeds, Unfinished, cut, CONNECTIONS, is_open, none_open, rest_of, AreFramers, Watched, rest_in, rests_of}
use Rattle.item_log.specs.Watching.{FeedsOne}

-- no framer at all
map-replicate : (n : ℕ) → rests_of (replicate n None) ≡ replicate n None
map-replicate zero = refl
map-replicate (suc n) = ap (λ rests. None ∷ rests) (map-replicate n)

pub rests_of-none : rests_of (replicate CONNECTIONS None) ≡ none_open
unfolding none_open
rests_of-none = map-replicate CONNECTIONS

-- a connection that is open has a framer
pub open_below : (framers : List (Option Unfinished)) (conn : ℕ) → is_open (rests_of framers) conn ≡ true → conn < length framers
open_below framers conn h =
    elim (cases_lt conn (length framers)) [
      | inl below ↦ below
      | inr past ↦ absurd (let none : rest_of (rests_of framers) conn ≡ None = get_or_past (rests_of framers) conn None (rw (length-map framers rest_in) past) in let shut : is_some {T = List ℕ} None ≡ true = ap is_some (sym none) ∙ h in cc)
    ]

pub rest_of-rests_of : (framers : List (Option Unfinished)) (conn : ℕ) (framer : Option Unfinished) → conn < length framers → framer ≡ get_or framers conn framer → rest_of (rests_of framers) conn ≡ rest_in framer
rest_of-rests_of framers conn framer below is = get_or-map rest_in framers conn framer None below ∙ ap rest_in (sym is)

abbrev made : Framing → List (Option (List ℕ)) → Watched
made framing rests = record { framing = framing; rests = rests }

-- another framer, or none, for a connection
abbrev pub watched : Framing → List (Option Unfinished) → Watched
watched framing framers = record { framing = framing; rests = rests_of framers }

pub watched-set : (framing : Framing) (framers : List (Option Unfinished)) (conn : ℕ) (framer : Option Unfinished) (rest : Option (List ℕ)) → rest_in framer ≡ rest → watched framing (set framers conn framer) ≡ record (watched framing framers) { rests = set (rests_of framers) conn rest }
watched-set framing framers conn framer rest is = ap (made framing) (map-set rest_in framers conn framer ∙ ap (λ last. set (rests_of framers) conn last) is)

pub watched-same : (framing : Framing) (framers : List (Option Unfinished)) (conn : ℕ) (framer : Unfinished) → Some framer ≡ get_or framers conn (Some framer) → watched framing (set framers conn (Some framer)) ≡ watched framing framers
watched-same framing framers conn framer is = ap (watched framing) (ap (set framers conn) is ∙ set-get_or framers conn (Some framer))

-- a piece of one connection
pub feeds_one : (framing : Framing) (framers : List (Option Unfinished)) (conn : ℕ) (piece : List ℕ) (old new : Unfinished) (result : Result (Vec (List ℕ) Global) FrameRefusal) → AreFramers framing framers → conn < length framers → Some old ≡ get_or framers conn (Some old) →
    Feeds old piece new result → FeedsOne (watched framing framers) conn piece (watched framing (set framers conn (Some new))) result
feeds_one framing framers conn piece old new (Ok messages) are below is fed =
    let here : rest_of (rests_of framers) conn ≡ Some old.rest = rest_of-rests_of framers conn (Some old) below is in
    let alike : old.framing ≡ framing = rw (sym is) at (are.alike conn (Some old) below) in
    (record { messages = messages.items; rest = new.rest }, ap (λ rest. cut framing (unwrap_or rest []) piece) here ∙ ap (λ so. cut so old.rest piece) (sym alike) ∙ fed.0, refl, watched-set framing framers conn (Some new) (Some new.rest) refl)
feeds_one framing framers conn piece old new (Err TooLong) are below is fed =
    let here : rest_of (rests_of framers) conn ≡ Some old.rest = rest_of-rests_of framers conn (Some old) below is in
    let alike : old.framing ≡ framing = rw (sym is) at (are.alike conn (Some old) below) in
    (ap (λ rest. cut framing (unwrap_or rest []) piece) here ∙ ap (λ so. cut so old.rest piece) (sym alike) ∙ fed.0, rw fed.1 (watched-same framing framers conn old is))
feeds_one framing framers conn piece old new (Err Memory) are below is fed = rw fed.1 (watched-same framing framers conn old is)
