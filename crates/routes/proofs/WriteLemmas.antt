-- What a trunk's session wrote, by what its link told.
use Rattle.routes.proofs.Terms.{All, Bool, List, None, Option, Some, [], ap, append-nil, arith, false, if◌then◌else◌, length, length-append, refl, subst, sym, true, ℕ, ◌++◌, ◌-◌, ◌<◌, ◌^◌, ◌∙◌, ◌∷◌, ◌≡◌, Appends, IfSome, Prefix, Grew, Handed, Piece, framed_sent, pieces-cut, pieces-frames, count_after, frames, piece_frame, IsCut, IsFramed, last_bytes, pieces, is_whole, told_pieces, WroteTrunk, WroteWhole}
use Rattle.routes.proofs.ReadLemmas.{last_all}

abbrev pub Short : Option (List ℕ) → Type 0
Short sink = IfSome sink (λ bytes. length bytes < 2 ^ 64 - 1)

-- a first part of one more frame, perhaps none of it
record CutFrame (tail : List ℕ) : Type 0 where
  piece : Piece
  framed : IsFramed piece
  first : Prefix tail (piece_frame piece.conn piece.bytes)

abbrev one_byte : Piece
one_byte = record { conn = 0; bytes = 0 ∷ []; gone = false }

one_framed : IsFramed one_byte
one_framed = record { below = omega arith; some = omega arith; few = omega arith; whole = refl }

cut_frame : (gives : Bool) (handed : Option Handed) (tail : List ℕ) → IsCut gives handed tail → CutFrame tail
cut_frame true handed tail is = subst CutFrame (sym is) (record { piece = one_byte; framed = one_framed; first = (piece_frame 0 (0 ∷ []), refl) })
cut_frame false handed tail (piece, framed, first, same) = record { piece = piece; framed = framed; first = first }

-- the pieces that are told are those of the bytes that were written
pub pieces_told : (old : List ℕ) (new : Option (List ℕ)) (wrote : ℕ) (gives : Bool) (list : List Piece) (bytes : List ℕ) → Short new → Appends (Some old) new bytes → wrote ≡ count_after 0 (length bytes)
    → Grew (Some []) (told_pieces new wrote gives) list → pieces bytes ≡ list
pieces_told old None wrote gives list bytes few gained count grew = absurd gained
pieces_told old (Some new) wrote gives list bytes few gained count grew = by_test (is_whole wrote gives new) grew
  where
    small : length bytes < 2 ^ 64 - 1
    small = omega (arith, few, ap length gained, length-append old bytes)

    by_test : (b : Bool) → Grew (Some []) (if b then Some (pieces (last_bytes wrote new)) else None) list → pieces bytes ≡ list
    by_test false grew = absurd grew
    by_test true grew = ap pieces (sym (ap (last_bytes wrote) gained ∙ last_all wrote old bytes small count)) ∙ grew

abbrev wrote_with : (old : List ℕ) (new : Option (List ℕ)) (wrote : ℕ) (gives : Bool) (list went : List Piece) (tail : List ℕ) → Short new → Appends (Some old) new (frames went ++ tail)
    → wrote ≡ count_after 0 (length (frames went ++ tail)) → All IsFramed went → CutFrame tail → Grew (Some []) (told_pieces new wrote gives) list → WroteTrunk (Some old) new list
wrote_with old new wrote gives list went tail few gained count framed end grew =
    let below = end.framed.below in
    let some = end.framed.some in
    let small = end.framed.few in record {
      whole = went;
      framed = framed;
      cut = end.piece;
      cut_framed = end.framed;
      tail = tail;
      first = end.first;
      wrote = gained;
      pieces_are = sym (pieces_told old new wrote gives list (frames went ++ tail) few gained count grew)
          ∙ pieces-cut went end.piece.conn end.piece.bytes tail (framed_sent went framed) (omega (arith, below)) (omega (arith, small)) some end.first;
    }

pub wrote_trunk : (old : List ℕ) (new : Option (List ℕ)) (wrote : ℕ) (gives : Bool) (handed : Option Handed) (list went : List Piece) (tail : List ℕ) → Short new → Appends (Some old) new (frames went ++ tail)
    → wrote ≡ count_after 0 (length (frames went ++ tail)) → All IsFramed went → IsCut gives handed tail → Grew (Some []) (told_pieces new wrote gives) list → WroteTrunk (Some old) new list
wrote_trunk old new wrote gives handed list went tail few gained count framed cut grew = wrote_with old new wrote gives list went tail few gained count framed (cut_frame gives handed tail cut) grew

-- once it gives no more, the frame behind them is that of the piece that it was handed last
pub wrote_headed : (old : List ℕ) (new : Option (List ℕ)) (wrote : ℕ) (handed : Option Handed) (list went : List Piece) (tail : List ℕ) → Short new → Appends (Some old) new (frames went ++ tail)
    → wrote ≡ count_after 0 (length (frames went ++ tail)) → All IsFramed went → IsCut false handed tail → Grew (Some []) (told_pieces new wrote false) list
    → (trunk : WroteTrunk (Some old) new list) × (handed ≡ Some (record { conn = trunk.cut.conn; length = length trunk.cut.bytes }))
wrote_headed old new wrote handed list went tail few gained count framed cut grew =
    (wrote_with old new wrote false list went tail few gained count framed (record { piece = cut.0; framed = cut.1; first = cut.2 }) grew, cut.3)

-- while the link gives, they are whole frames
pub wrote_frames : (old : List ℕ) (new : Option (List ℕ)) (wrote : ℕ) (gives : Bool) (handed : Option Handed) (list went : List Piece) (tail : List ℕ) → Short new → Appends (Some old) new (frames went ++ tail)
    → wrote ≡ count_after 0 (length (frames went ++ tail)) → All IsFramed went → IsCut gives handed tail → gives ≡ true → Grew (Some []) (told_pieces new wrote gives) list → WroteWhole (Some old) new list
wrote_frames old new wrote gives handed list went tail few gained count framed cut still grew =
    let none : tail ≡ [] = subst (λ b. IsCut b handed tail) still cut in
    let bytes : frames went ++ tail ≡ frames went = ap (λ l. frames went ++ l) none ∙ append-nil (frames went) in
    let same : went ≡ list =
    sym (pieces-frames went (framed_sent went framed)) ∙ ap pieces (sym bytes) ∙ pieces_told old new wrote gives list (frames went ++ tail) few gained count grew in
    subst (WroteWhole (Some old) new) same (record { framed = framed; wrote = subst (Appends (Some old) new) bytes gained })
