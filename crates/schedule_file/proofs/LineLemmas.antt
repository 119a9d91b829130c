-- Each line that is written is a line.
use Rattle.msg_frame.specs.declared.framing.Framing.TheVariants as framing
use Rattle.schedule_file.proofs.Terms.{Bool, List, None, Option, Some, [], append_assoc, arith, cond, false, refl, suc, true, zero, ℕ, ◌%◌, ◌++◌, ◌/◌, ◌<◌, ◌^◌, ◌∷◌, ◌≡◌, nat_tests, decimal, ◌==◌, Ask, Calloc, Malloc, Realloc, Framing, is_line-decimal, is_line, Line, arguments, carried_part, eight_digits, end_line, frame_name, head_line, hex_digit, hex_digits, letter, line_text, mark, spaced}

hex_other : (n : ℕ) → (hex_digit n == 10) ≡ false
hex_other n = grind (arith, nat_tests)

is_line-hex : (count n : ℕ) (rest : List ℕ) → is_line rest ≡ true → is_line (hex_digits count n ++ rest) ≡ true
is_line-hex zero n rest h = h
is_line-hex (suc count) n rest h =
    rw (append_assoc (hex_digits count (n / 16)) (hex_digit (n % 16) ∷ []) rest)
    (is_line-hex count (n / 16) (hex_digit (n % 16) ∷ rest) (rw (hex_other (n % 16)) h))

frame_end : (frame : Framing) → is_line (frame_name frame ++ 10 ∷ []) ≡ true
frame_end framing.Line = refl
frame_end framing.Length = refl
frame_end framing.Whole = refl

pub is_line-head : (version window : ℕ) (frame : Framing) → version < 2 ^ 64 → window < 2 ^ 64 → is_line (head_line version window frame) ≡ true
unfolding head_line
is_line-head version window frame few small =
    let behind : List ℕ = decimal window ++ 32 ∷ 102 ∷ 114 ∷ 97 ∷ 109 ∷ 101 ∷ 32 ∷ (frame_name frame ++ 10 ∷ []) in
    is_line-decimal version (32 ∷ 119 ∷ 105 ∷ 110 ∷ 100 ∷ 111 ∷ 119 ∷ 32 ∷ behind) few
    (is_line-decimal window (32 ∷ 102 ∷ 114 ∷ 97 ∷ 109 ∷ 101 ∷ 32 ∷ (frame_name frame ++ 10 ∷ [])) small (frame_end frame))

carried_end : (carried : ℕ) → is_line (carried_part carried ++ 10 ∷ []) ≡ true
carried_end carried = by (carried == 0)
  where
    by : (none : Bool) → is_line (cond none [] (spaced carried) ++ 10 ∷ []) ≡ true
    by true = refl
    by false = is_line-hex 8 carried (10 ∷ []) refl

arguments_end : (ask : Option Ask) (carried : ℕ) → is_line (arguments ask carried ++ 10 ∷ []) ≡ true
arguments_end None carried = refl
arguments_end (Some (Malloc size)) carried = is_line-hex 8 size (10 ∷ []) refl
arguments_end (Some (Calloc count size)) carried = is_line-hex 8 count (32 ∷ (eight_digits size ++ 10 ∷ [])) (is_line-hex 8 size (10 ∷ []) refl)
arguments_end (Some (Realloc old size)) carried =
    let behind : List ℕ = carried_part carried ++ 10 ∷ [] in
    is_line-hex 8 old (32 ∷ (eight_digits size ++ behind)) (is_line-hex 8 size behind (carried_end carried))

letter_other : (ask : Option Ask) → (letter ask == 10) ≡ false
letter_other None = refl
letter_other (Some (Malloc size)) = refl
letter_other (Some (Calloc count size)) = refl
letter_other (Some (Realloc old size)) = refl

mark_other : (zeroed : Bool) → (mark zeroed == 10) ≡ false
mark_other true = refl
mark_other false = refl

pub is_line-line : (line : Line) → is_line (line_text line) ≡ true
unfolding line_text
is_line-line line =
    let behind : List ℕ = arguments line.ask line.carried ++ 10 ∷ [] in
    let marked : is_line (mark line.zeroed ∷ behind) ≡ true = rw (mark_other line.zeroed) (arguments_end line.ask line.carried) in
    let digits : is_line (eight_digits line.at ++ 32 ∷ mark line.zeroed ∷ behind) ≡ true = is_line-hex 8 line.at (32 ∷ mark line.zeroed ∷ behind) marked in
    rw (letter_other line.ask) digits

pub is_line-end : (steps taken : ℕ) → steps < 2 ^ 64 → taken < 2 ^ 64 → is_line (end_line steps taken) ≡ true
unfolding end_line
is_line-end steps taken small few = is_line-decimal steps (32 ∷ (decimal taken ++ 10 ∷ [])) small (is_line-decimal taken (10 ∷ []) few refl)
