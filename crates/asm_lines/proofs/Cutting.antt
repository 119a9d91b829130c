-- Parts that are cut out of some bytes.
use Rattle.std.proofs.lemmas.List.{at_drop_more, take_more, take_all, append-nil}
use Rattle.asm_lines.proofs.Terms.{Bool, List, None, Option, Some, [], ap, arith, cond, drop, eq-eqb, false, get_or, length, option_map, refl, suc, sym, take, true, ℕ, ◌++◌, ◌+◌, ◌-◌, ◌<◌, ◌==◌, ◌∙◌, ◌∷◌, ◌≡◌, ◌≤◌, before_blanks, cut, is_blank, onto, strip_blanks, lines_from, lines_of, pieces}

-- a cut of what stands behind some bytes, as a cut of both
abbrev pub behind_front : List ℕ → Option (List ℕ × List ℕ) → Option (List ℕ × List ℕ)
behind_front front parts = option_map (λ parts. (front ++ parts.0, parts.1)) parts

-- blanks at the end
pub strip_blanks-blank : (bytes : List ℕ) (byte : ℕ) → is_blank byte ≡ true → strip_blanks (bytes ++ byte ∷ []) ≡ strip_blanks bytes
strip_blanks-blank [] byte h = rw h refl
strip_blanks-blank (first ∷ bytes) byte h = ap (before_blanks first) (strip_blanks-blank bytes byte h)

kept : (first : ℕ) (bytes : List ℕ) (byte : ℕ) → before_blanks first (bytes ++ byte ∷ []) ≡ first ∷ (bytes ++ byte ∷ [])
kept first [] byte = refl
kept first (next ∷ bytes) byte = refl

pub strip_blanks-other : (bytes : List ℕ) (byte : ℕ) → is_blank byte ≡ false → strip_blanks (bytes ++ byte ∷ []) ≡ bytes ++ byte ∷ []
strip_blanks-other [] byte h = rw h refl
strip_blanks-other (first ∷ bytes) byte h = ap (before_blanks first) (strip_blanks-other bytes byte h) ∙ kept first bytes byte

-- the last byte and those in front of it
last_byte : (bytes : List ℕ) → 1 ≤ length bytes → bytes ≡ take (length bytes - 1) bytes ++ get_or bytes (length bytes - 1) 0 ∷ []
last_byte bytes h =
    let n : ℕ = length bytes - 1 in
    let more : take (n + 1) bytes ≡ take n bytes ++ get_or bytes n 0 ∷ [] = take_more bytes n 0 (omega arith) in
    let whole : take (n + 1) bytes ≡ bytes = take_all (n + 1) bytes (omega arith) in
    sym whole ∙ more

pub strip_blanks-last_blank : (bytes : List ℕ) → 1 ≤ length bytes → is_blank (get_or bytes (length bytes - 1) 0) ≡ true → strip_blanks (take (length bytes - 1) bytes) ≡ strip_blanks bytes
strip_blanks-last_blank bytes some h =
    sym (ap strip_blanks (last_byte bytes some) ∙ strip_blanks-blank (take (length bytes - 1) bytes) (get_or bytes (length bytes - 1) 0) h)

pub strip_blanks-last_other : (bytes : List ℕ) → 1 ≤ length bytes → is_blank (get_or bytes (length bytes - 1) 0) ≡ false → strip_blanks bytes ≡ bytes
strip_blanks-last_other bytes some h =
    ap strip_blanks (last_byte bytes some) ∙ strip_blanks-other (take (length bytes - 1) bytes) (get_or bytes (length bytes - 1) 0) h ∙ sym (last_byte bytes some)

-- a cut at the place of the first such byte
pub cut_here : (mark : ℕ) (bytes : List ℕ) (i : ℕ) → i < length bytes → get_or bytes i 0 ≡ mark → behind_front (take i bytes) (cut mark (drop i bytes)) ≡ cut mark bytes → cut mark bytes ≡ Some (take i bytes, drop (i + 1) bytes)
cut_here mark bytes i below same h =
    let here : cut mark (drop i bytes) ≡ Some ([], drop (i + 1) bytes) = at_drop_more (cut mark) bytes i 0 below ∙ rw (eq-eqb _ _ same) refl in
    sym h ∙ rw here (rw append-nil refl)

-- ---- lines and operands

-- a byte in front of the parts of a cut
abbrev pub in_front : ℕ → Option (List ℕ × List ℕ) → Option (List ℕ × List ℕ)
in_front byte parts = option_map (λ parts. (byte ∷ parts.0, parts.1)) parts

-- the lines of some bytes, by where they are cut
abbrev pub lines_by : List ℕ → Option (List ℕ × List ℕ) → List (List ℕ)
lines_by [] None = []
lines_by (byte ∷ bytes) None = (byte ∷ bytes) ∷ []
lines_by bytes (Some parts) = parts.0 ∷ lines_from parts.1

onto-lines_by : (byte : ℕ) (bytes : List ℕ) (parts : Option (List ℕ × List ℕ)) → onto byte (lines_by bytes parts) ≡ lines_by (byte ∷ bytes) (in_front byte parts)
onto-lines_by byte [] None = refl
onto-lines_by byte (next ∷ bytes) None = refl
onto-lines_by byte [] (Some parts) = refl
onto-lines_by byte (next ∷ bytes) (Some parts) = refl

lines_step : (b : Bool) (byte : ℕ) (bytes : List ℕ) (parts : Option (List ℕ × List ℕ)) → lines_from bytes ≡ lines_by bytes parts → cond b ([] ∷ lines_from bytes) (onto byte (lines_from bytes)) ≡ lines_by (byte ∷ bytes) (cond b (Some ([], bytes)) (in_front byte parts))
lines_step true byte bytes parts h = refl
lines_step false byte bytes parts h = ap (onto byte) h ∙ onto-lines_by byte bytes parts

pub lines_from-cut : (bytes : List ℕ) → lines_from bytes ≡ lines_by bytes (cut 10 bytes)
lines_from-cut [] = refl
lines_from-cut (byte ∷ bytes) = lines_step (byte == 10) byte bytes (cut 10 bytes) (lines_from-cut bytes)

pub lines_of-cut : (bytes front behind : List ℕ) → cut 10 bytes ≡ Some (front, behind) → lines_of bytes ≡ front ∷ lines_from behind
lines_of-cut [] front behind h = absurd (cc)
lines_of-cut (byte ∷ bytes) front behind h = lines_from-cut (byte ∷ bytes) ∙ ap (lines_by (byte ∷ bytes)) h

pub lines_of-uncut : (bytes : List ℕ) → cut 10 bytes ≡ None → lines_of bytes ≡ bytes ∷ []
lines_of-uncut [] h = refl
lines_of-uncut (byte ∷ bytes) h = lines_from-cut (byte ∷ bytes) ∙ ap (lines_by (byte ∷ bytes)) h

-- the operands of some bytes, by where they are cut
abbrev pub pieces_by : List ℕ → Option (List ℕ × List ℕ) → List (List ℕ)
pieces_by bytes None = bytes ∷ []
pieces_by bytes (Some parts) = parts.0 ∷ pieces parts.1

onto-pieces_by : (byte : ℕ) (bytes : List ℕ) (parts : Option (List ℕ × List ℕ)) → onto byte (pieces_by bytes parts) ≡ pieces_by (byte ∷ bytes) (in_front byte parts)
onto-pieces_by byte bytes None = refl
onto-pieces_by byte bytes (Some parts) = refl

pieces_step : (b : Bool) (byte : ℕ) (bytes : List ℕ) (parts : Option (List ℕ × List ℕ)) → pieces bytes ≡ pieces_by bytes parts → cond b ([] ∷ pieces bytes) (onto byte (pieces bytes)) ≡ pieces_by (byte ∷ bytes) (cond b (Some ([], bytes)) (in_front byte parts))
pieces_step true byte bytes parts h = refl
pieces_step false byte bytes parts h = ap (onto byte) h ∙ onto-pieces_by byte bytes parts

pieces-by_cut : (bytes : List ℕ) → pieces bytes ≡ pieces_by bytes (cut 44 bytes)
pieces-by_cut [] = refl
pieces-by_cut (byte ∷ bytes) = pieces_step (byte == 44) byte bytes (cut 44 bytes) (pieces-by_cut bytes)

pub pieces-cut : (bytes front behind : List ℕ) → cut 44 bytes ≡ Some (front, behind) → pieces bytes ≡ front ∷ pieces behind
pieces-cut bytes front behind h = pieces-by_cut bytes ∙ ap (pieces_by bytes) h

pub pieces-uncut : (bytes : List ℕ) → cut 44 bytes ≡ None → pieces bytes ≡ bytes ∷ []
pieces-uncut bytes h = pieces-by_cut bytes ∙ ap (pieces_by bytes) h

-- the bytes of a cut
abbrev pub FitsIn : ℕ → Option (List ℕ × List ℕ) → Type 0
FitsIn size None = Unit {0}
FitsIn size (Some parts) = length parts.0 + length parts.1 + 1 ≡ size

fits_in_front : (byte size : ℕ) (parts : Option (List ℕ × List ℕ)) → FitsIn size parts → FitsIn (suc size) (in_front byte parts)
fits_in_front byte size None h = tt
fits_in_front byte size (Some parts) h = omega (arith, h)

fits_step : (b : Bool) (byte : ℕ) (bytes : List ℕ) (parts : Option (List ℕ × List ℕ)) → FitsIn (length bytes) parts → FitsIn (suc (length bytes)) (cond b (Some ([], bytes)) (in_front byte parts))
fits_step true byte bytes parts h = omega arith
fits_step false byte bytes parts h = fits_in_front byte (length bytes) parts h

cut_fits : (mark : ℕ) (bytes : List ℕ) → FitsIn (length bytes) (cut mark bytes)
cut_fits mark [] = tt
cut_fits mark (byte ∷ bytes) = fits_step (byte == mark) byte bytes (cut mark bytes) (cut_fits mark bytes)

pub cut_length : (mark : ℕ) (bytes front behind : List ℕ) → cut mark bytes ≡ Some (front, behind) → length front + length behind + 1 ≡ length bytes
cut_length mark bytes front behind h = rw h at (cut_fits mark bytes)
