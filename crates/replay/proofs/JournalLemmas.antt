-- One more entry behind the journal of a replay.
use Rattle.links.specs.declared.journal.Entry.TheVariants as entry
use Rattle.replay.proofs.Terms.{Bool, List, Option, Some, [], ap, append-nil, drop, false, inl, inr, refl, subst, sym, true, ℕ, ◌++◌, ◌∙◌, ◌∷◌, ◌≡◌, ◌⊎◌, unwrap_or, ◌&&◌, ◌==◌, ◌||◌, Entry, LinkEvent, tells_then, pieces_in-append, Piece, Tells, Told, last_taken, pieces_in, Image, Recorded, found_gone, piece_of, AreAsked, WasAsked}

-- a place in a journal with one more entry is the last one, or stood there before
pub last_split : (xs : List Entry) {x : Entry} (before : List Entry) {y : Entry} (after : List Entry) → xs ++ x ∷ [] ≡ before ++ y ∷ after
    → ((before ≡ xs) × (y ≡ x)) ⊎ ((more : List Entry) × (xs ≡ before ++ y ∷ more))
last_split [] [] after same = inl (refl, cc)
last_split [] (b ∷ []) {y = y} after same = let no : [] ≡ y ∷ after = ap (drop 1) same in absurd (cc)
last_split [] (b ∷ (b' ∷ before)) {y = y} after same = let no : [] ≡ b' ∷ (before ++ y ∷ after) = ap (drop 1) same in absurd (cc)
last_split (a ∷ xs) [] {y = y} after same = let here : a ≡ y = cc in inr (xs, ap (λ v. v ∷ xs) here)
last_split (a ∷ xs) (b ∷ before) {y = y} after same =
    let here : a ≡ b = cc in
    elim (last_split xs before after (ap (drop 1) same)) [
      | inl found ↦ inl (ap (λ l. b ∷ l) found.0 ∙ ap (λ v. v ∷ xs) (sym here), found.1)
      | inr found ↦ inr (found.0, ap (λ l. a ∷ l) found.1 ∙ ap (λ v. v ∷ (before ++ y ∷ found.0)) here)
    ]

-- no event was taken from an empty journal
pub asked_none : {image : Image} {recording : Recorded} → AreAsked image recording []
asked_none [] after event same = absurd (cc)
asked_none (b ∷ before) after event same = absurd (cc)

-- a piece takes none
pub asked_gave : {image : Image} {recording : Recorded} {entries : List Entry} (conn : ℕ) (bytes : List ℕ) (gone : Bool) → AreAsked image recording entries → AreAsked image recording (entries ++ entry.Gave conn bytes gone ∷ [])
asked_gave {entries = entries} conn bytes gone asked before after event same =
    elim (last_split entries before after same) [
      | inl found ↦ let no : entry.Took event ≡ entry.Gave conn bytes gone = found.1 in absurd (cc)
      | inr found ↦ asked before found.0 event found.1
    ]

-- an event that was asked for is taken
pub asked_took : {image : Image} {recording : Recorded} {entries : List Entry} (event : LinkEvent) → WasAsked image recording entries → AreAsked image recording entries → AreAsked image recording (entries ++ entry.Took event ∷ [])
asked_took {image = image} {recording = recording} {entries = entries} event was asked before after other same =
    elim (last_split entries before after same) [
      | inl found ↦ subst (WasAsked image recording) (sym found.0) was
      | inr found ↦ asked before found.0 other found.1
    ]

pub tells_still : {a b c : Told} {xs : List Entry} → Tells a b xs → Tells b c [] → Tells a c xs
tells_still {a = a} {c = c} {xs = xs} first second = subst (Tells a c) (append-nil xs) (tells_then _ _ _ _ _ first second)

pub last_taken-gave : (entries : List Entry) (conn : ℕ) (bytes : List ℕ) (gone : Bool) → last_taken (entries ++ entry.Gave conn bytes gone ∷ []) ≡ last_taken entries
last_taken-gave [] conn bytes gone = refl
last_taken-gave (entry.Gave to piece found ∷ entries) conn bytes gone = last_taken-gave entries conn bytes gone
last_taken-gave (entry.Took first ∷ entries) conn bytes gone = ap (λ (found : Option LinkEvent). Some (unwrap_or found first)) (last_taken-gave entries conn bytes gone)

-- the pieces of a journal with one more entry
pub pieces_in-took : (entries : List Entry) (event : LinkEvent) → pieces_in (entries ++ entry.Took event ∷ []) ≡ pieces_in entries
pieces_in-took entries event = pieces_in-append entries (entry.Took event ∷ []) ∙ append-nil (pieces_in entries)

pub pieces_in-gave : (entries : List Entry) (conn : ℕ) (bytes : List ℕ) (gone : Bool) → pieces_in (entries ++ entry.Gave conn bytes gone ∷ []) ≡ pieces_in entries ++ piece_of conn bytes gone ∷ []
pieces_in-gave entries conn bytes gone = pieces_in-append entries (entry.Gave conn bytes gone ∷ [])

-- which connections one more piece found gone
pub found_gone-more : (other : ℕ) (pieces : List Piece) (conn : ℕ) (bytes : List ℕ) (gone : Bool) → found_gone other (pieces ++ piece_of conn bytes gone ∷ []) ≡ (found_gone other pieces || ((conn == other) && gone))
found_gone-more other [] conn bytes gone = by ((conn == other) && gone)
  where
    by : (b : Bool) → (b || false) ≡ (false || b)
    by true = refl
    by false = refl
found_gone-more other (piece ∷ pieces) conn bytes gone =
    ap (λ (b : Bool). ((piece.conn == other) && piece.gone) || b) (found_gone-more other pieces conn bytes gone)
    ∙ by ((piece.conn == other) && piece.gone) (found_gone other pieces) ((conn == other) && gone)
  where
    by : (a b c : Bool) → (a || (b || c)) ≡ ((a || b) || c)
    by true b c = refl
    by false b c = refl
