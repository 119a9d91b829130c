-- The pieces that a replay gives, beside the sends of its run.
use Rattle.std.specs.Prelude.{◌≡◌, ℕ, List, [], ◌∷◌, ◌++◌, Bool, true, false, ◌&&◌, ◌||◌, ◌==◌}
use Rattle.replay.specs.Terms.{Prefix, Send, Entry, Piece, Tells, TellsHanded, Told, pieces_in, Seen}

-- whether one of some pieces found its connection gone
abbrev pub found_gone : ℕ → List Piece → Bool
found_gone conn [] = false
found_gone conn (piece ∷ pieces) = ((piece.conn == conn) && piece.gone) || found_gone conn pieces

abbrev pub piece_of : ℕ → List ℕ → Bool → Piece
piece_of conn bytes gone = record { conn = conn; bytes = bytes; gone = gone }

-- All sends are given, one after another: each is one whole piece; or some first bytes of it went out before its connection was
-- found gone; or it was found gone before, and nothing is given.
pub data AreGiven : List Send → List Piece → Type 0 where
  Nothing : AreGiven [] []
  Whole : (sends : List Send) (pieces : List Piece) (send : Send) → AreGiven sends pieces → found_gone send.conn pieces ≡ false
      → AreGiven (sends ++ send ∷ []) (pieces ++ piece_of send.conn send.bytes false ∷ [])
  Cut : (sends : List Send) (pieces : List Piece) (send : Send) (front : List ℕ) → AreGiven sends pieces → found_gone send.conn pieces ≡ false → Prefix front send.bytes
      → AreGiven (sends ++ send ∷ []) (pieces ++ piece_of send.conn front true ∷ [])
  Gone : (sends : List Send) (pieces : List Piece) (send : Send) → AreGiven sends pieces → found_gone send.conn pieces ≡ true → AreGiven (sends ++ send ∷ []) pieces

-- The last one of some sends may be given in part: some first bytes of it went out, or none.
pub data AreGivenInPart : List Send → List Piece → Type 0 where
  All : (sends : List Send) (pieces : List Piece) → AreGiven sends pieces → AreGivenInPart sends pieces
  Unbegun : (sends : List Send) (pieces : List Piece) (send : Send) → AreGiven sends pieces → AreGivenInPart (sends ++ send ∷ []) pieces
  Begun : (sends : List Send) (pieces : List Piece) (send : Send) (front : List ℕ) → AreGiven sends pieces → found_gone send.conn pieces ≡ false → Prefix front send.bytes
      → AreGivenInPart (sends ++ send ∷ []) (pieces ++ piece_of send.conn front false ∷ [])

-- What was sent last was handed to a link in one call, of which this holds. All sends before it were given by then.
pub record IsLastSend (began was : Told) (Gave : ℕ → List ℕ → Type 0) (sends : List Send) : Type 0 where
  pub before : List Send
  pub last : Send
  pub are : sends ≡ before ++ last ∷ []
  pub entries : List Entry
  pub tells : Tells began was entries
  pub given : AreGiven before (pieces_in entries)
  pub gave : Gave last.conn last.bytes

-- Giving broke off at what was sent last: a link had gone on to where it gave still and all other sends were given, and behind that
-- came the one call for this send.
pub record BreaksOff {K : Type 0} (seen : K → Seen) (Went : K → K → Type 0) (Gave : K → K → ℕ → List ℕ → Type 0) (began now : K) (sends : List Send) : Type 0 where
  pub mid : K
  pub went : Went began mid
  pub gives_still : (seen mid).gives ≡ true
  pub last : IsLastSend (seen began).told (seen mid).told (Gave mid now) sends

-- what each link says of a call: where it tells its pieces, this is the one that it was handed last
abbrev pub WasHanded : {K : Type 0} → (K → Seen) → K → K → ℕ → List ℕ → Type 0
WasHanded seen before after conn bytes = TellsHanded (seen after).told (seen after).handed conn bytes
