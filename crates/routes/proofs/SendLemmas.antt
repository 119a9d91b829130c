-- The pieces of a trunk are the sends of its run.
use Rattle.replay.specs.Giving as giving
use Rattle.routes.proofs.Terms.{Bool, List, None, Option, Some, [], ap, false, refl, subst, sym, true, true≢false, ℕ, ◌++◌, ◌==◌, ◌∙◌, ◌∷◌, ◌≡◌, map-append, Appends, AllByRecursion, ◌&&◌, ◌||◌, Send, Piece, IsSent, framed_sent, frames, AreGiven, found_gone, piece_of, WritesWhole, WritesSends, sent_pieces}

front_sent : (xs ys : List Piece) → AllByRecursion IsSent (xs ++ ys) → AllByRecursion IsSent xs × AllByRecursion IsSent ys
front_sent [] ys all = (tt, all)
front_sent (x ∷ xs) ys all = let rest = front_sent xs ys all.1 in ((all.0, rest.0), rest.1)

-- no piece of a trunk found its connection gone
none_gone : (conn : ℕ) (pieces : List Piece) → AllByRecursion IsSent pieces → found_gone conn pieces ≡ false
none_gone conn [] all = refl
none_gone conn (piece ∷ pieces) all =
    ap (λ (gone : Bool). ((piece.conn == conn) && gone) || found_gone conn pieces) all.0.whole
    ∙ ap (λ (rest : Bool). ((piece.conn == conn) && false) || rest) (none_gone conn pieces all.1) ∙ off (piece.conn == conn)
  where
    off : (b : Bool) → ((b && false) || false) ≡ false
    off true = refl
    off false = refl

-- so pieces that give all sends are these sends
pub given_all : (sends : List Send) (pieces : List Piece) → AreGiven sends pieces → AllByRecursion IsSent pieces → pieces ≡ sent_pieces sends
given_all sends pieces giving.Nothing all = refl
given_all sends pieces (giving.Whole earlier before send given here) all =
    ap (λ l. l ++ piece_of send.conn send.bytes false ∷ []) (given_all earlier before given (front_sent before (piece_of send.conn send.bytes false ∷ []) all).0)
    ∙ sym (map-append (λ (s : Send). piece_of s.conn s.bytes false) earlier (send ∷ []))
given_all sends pieces (giving.Cut earlier before send front given here first) all =
    absurd (true≢false (front_sent before (piece_of send.conn front true ∷ []) all).1.0.whole)
given_all sends pieces (giving.Gone earlier before send given gone) all = absurd (true≢false (sym gone ∙ none_gone send.conn pieces all))

-- and their frames were written
pub sends_written : (sink later : Option (List ℕ)) (sends : List Send) (pieces : List Piece) → AreGiven sends pieces → WritesWhole sink later pieces → WritesSends sink later sends
sends_written None later sends pieces given whole = tt
sends_written (Some before) later sends pieces given whole =
    subst (λ l. Appends (Some before) later (frames l)) (given_all sends pieces given (framed_sent pieces whole.framed)) whole.wrote
