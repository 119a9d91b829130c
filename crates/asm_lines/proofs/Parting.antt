-- Operands, by where commas stand.
use Rattle.asm_lines.proofs.Terms.{Err, List, None, Ok, Option, Some, [], ap, arith, false, length, map, refl, sym, true, ℕ, ◌∙◌, ◌∷◌, ◌≡◌, ◌≢◌, is_some, BadOperand, Statement, cut, trimmed, lone_statement, one, operands_of, pieces, three, two}
use Rattle.asm_lines.proofs.Cutting.{pieces-cut, pieces-uncut}

abbrev parts_of : List ℕ → List (List ℕ)
parts_of bytes = map trimmed (pieces bytes)

uncut_parts : (bytes : List ℕ) → cut 44 bytes ≡ None → parts_of bytes ≡ trimmed bytes ∷ []
uncut_parts bytes h = ap (map trimmed) (pieces-uncut bytes h)

cut_parts : (bytes front behind : List ℕ) → cut 44 bytes ≡ Some (front, behind) → parts_of bytes ≡ trimmed front ∷ parts_of behind
cut_parts bytes front behind h = ap (map trimmed) (pieces-cut bytes front behind h)

filled : (bytes front behind : List ℕ) → cut 44 bytes ≡ Some (front, behind) → operands_of bytes ≡ parts_of bytes
unfolding operands_of
filled [] front behind h = absurd (cc)
filled (byte ∷ bytes) front behind h = refl

some_parts : (parts : Option (List ℕ × List ℕ)) → is_some parts ≡ true → (front : List ℕ) × ((behind : List ℕ) × (parts ≡ Some (front, behind)))
some_parts None h = absurd (cc)
some_parts (Some (front, behind)) h = (front, (behind, refl))

no_parts : (parts : Option (List ℕ × List ℕ)) → is_some parts ≡ false → parts ≡ None
no_parts None h = refl
no_parts (Some parts) h = absurd (cc)

-- there is always a part
by_parts : (bytes : List ℕ) (parts : Option (List ℕ × List ℕ)) → cut 44 bytes ≡ parts → (first : List ℕ) × ((others : List (List ℕ)) × (parts_of bytes ≡ first ∷ others))
by_parts bytes None h = (trimmed bytes, ([], uncut_parts bytes h))
by_parts bytes (Some (front, behind)) h = (trimmed front, (parts_of behind, cut_parts bytes front behind h))

first_part : (bytes : List ℕ) → (first : List ℕ) × ((others : List (List ℕ)) × (parts_of bytes ≡ first ∷ others))
first_part bytes = by_parts bytes (cut 44 bytes) refl

-- with a comma there are two parts at least
two_parts : (bytes : List ℕ) → is_some (cut 44 bytes) ≡ true → (first : List ℕ) × ((second : List ℕ) × ((others : List (List ℕ)) × (parts_of bytes ≡ first ∷ second ∷ others)))
two_parts bytes h =
    let parts = some_parts (cut 44 bytes) h in
    let next = first_part parts.1.0 in
    (trimmed parts.0, (next.0, (next.1.0, cut_parts bytes parts.0 parts.1.0 parts.1.1 ∙ ap (λ others. trimmed parts.0 ∷ others) next.1.1)))

-- ---- one operand

pub one_empty : (bytes : List ℕ) → length bytes ≡ 0 → one (operands_of bytes) ≡ Err BadOperand
unfolding one operands_of
one_empty [] h = refl
one_empty (byte ∷ bytes) h = absurd (omega arith)

one_filled : (bytes : List ℕ) (others : List (List ℕ)) (first second : List ℕ) → parts_of bytes ≡ first ∷ second ∷ others → one (operands_of bytes) ≡ Err BadOperand
unfolding one operands_of
one_filled [] others first second h = refl
one_filled (byte ∷ bytes) others first second h = ap one h

pub one_comma : (bytes : List ℕ) → is_some (cut 44 bytes) ≡ true → one (operands_of bytes) ≡ Err BadOperand
one_comma bytes h = let parts = two_parts bytes h in one_filled bytes parts.1.1.0 parts.0 parts.1.0 parts.1.1.1

pub one_part : (bytes : List ℕ) → is_some (cut 44 bytes) ≡ false → length bytes ≢ 0 → one (operands_of bytes) ≡ Ok (trimmed bytes)
unfolding one operands_of
one_part [] h some = absurd (some refl)
one_part (byte ∷ bytes) h some = ap one (uncut_parts (byte ∷ bytes) (no_parts (cut 44 (byte ∷ bytes)) h))

-- ---- two operands

pub two_uncut : (bytes : List ℕ) → cut 44 bytes ≡ None → two (operands_of bytes) ≡ Err BadOperand
unfolding two operands_of
two_uncut [] h = refl
two_uncut (byte ∷ bytes) h = ap two (uncut_parts (byte ∷ bytes) h)

two_of : (bytes front behind : List ℕ) (parts : List (List ℕ)) → cut 44 bytes ≡ Some (front, behind) → parts_of behind ≡ parts → two (operands_of bytes) ≡ two (trimmed front ∷ parts)
two_of bytes front behind parts h e = ap two (filled bytes front behind h ∙ cut_parts bytes front behind h ∙ ap (λ others. trimmed front ∷ others) e)

pub two_comma : (bytes front behind : List ℕ) → cut 44 bytes ≡ Some (front, behind) → is_some (cut 44 behind) ≡ true → two (operands_of bytes) ≡ Err BadOperand
unfolding two
two_comma bytes front behind h more = let parts = two_parts behind more in two_of bytes front behind (parts.0 ∷ parts.1.0 ∷ parts.1.1.0) h parts.1.1.1

pub two_parts_of : (bytes front behind : List ℕ) → cut 44 bytes ≡ Some (front, behind) → is_some (cut 44 behind) ≡ false → two (operands_of bytes) ≡ Ok (trimmed front, trimmed behind)
unfolding two
two_parts_of bytes front behind h more = two_of bytes front behind (trimmed behind ∷ []) h (uncut_parts behind (no_parts (cut 44 behind) more))

-- ---- three operands

pub three_uncut : (bytes : List ℕ) → cut 44 bytes ≡ None → three (operands_of bytes) ≡ Err BadOperand
unfolding three operands_of
three_uncut [] h = refl
three_uncut (byte ∷ bytes) h = ap three (uncut_parts (byte ∷ bytes) h)

three_of : (bytes front behind : List ℕ) (parts : List (List ℕ)) → cut 44 bytes ≡ Some (front, behind) → parts_of behind ≡ parts → three (operands_of bytes) ≡ three (trimmed front ∷ parts)
three_of bytes front behind parts h e = ap three (filled bytes front behind h ∙ cut_parts bytes front behind h ∙ ap (λ others. trimmed front ∷ others) e)

pub three_cut : (bytes front behind : List ℕ) → cut 44 bytes ≡ Some (front, behind) → cut 44 behind ≡ None → three (operands_of bytes) ≡ Err BadOperand
unfolding three
three_cut bytes front behind h none = three_of bytes front behind (trimmed behind ∷ []) h (uncut_parts behind none)

three_more : (bytes front behind second third : List ℕ) (parts : List (List ℕ)) → cut 44 bytes ≡ Some (front, behind) → cut 44 behind ≡ Some (second, third) → parts_of third ≡ parts → three (operands_of bytes) ≡ three (trimmed front ∷ trimmed second ∷ parts)
three_more bytes front behind second third parts h k e = three_of bytes front behind (trimmed second ∷ parts) h (cut_parts behind second third k ∙ ap (λ others. trimmed second ∷ others) e)

pub three_comma : (bytes front behind second third : List ℕ) → cut 44 bytes ≡ Some (front, behind) → cut 44 behind ≡ Some (second, third) → is_some (cut 44 third) ≡ true → three (operands_of bytes) ≡ Err BadOperand
unfolding three
three_comma bytes front behind second third h k more = let parts = two_parts third more in three_more bytes front behind second third (parts.0 ∷ parts.1.0 ∷ parts.1.1.0) h k parts.1.1.1

pub three_parts_of : (bytes front behind second third : List ℕ) → cut 44 bytes ≡ Some (front, behind) → cut 44 behind ≡ Some (second, third) → is_some (cut 44 third) ≡ false → three (operands_of bytes) ≡ Ok (trimmed front, trimmed second, trimmed third)
unfolding three
three_parts_of bytes front behind second third h k more = three_more bytes front behind second third (trimmed third ∷ []) h k (uncut_parts third (no_parts (cut 44 third) more))

-- ---- no operands

pub lone_empty : (lone : Statement) (bytes : List ℕ) → length bytes ≡ 0 → Ok lone ≡ lone_statement lone (operands_of bytes)
unfolding lone_statement operands_of
lone_empty lone [] h = refl
lone_empty lone (byte ∷ bytes) h = absurd (omega arith)

lone_other : (lone : Statement) (first : List ℕ) (others parts : List (List ℕ)) → parts ≡ first ∷ others → Err BadOperand ≡ lone_statement lone parts
unfolding lone_statement
lone_other lone first others parts h = sym (ap (lone_statement lone) h)

pub lone_filled : (lone : Statement) (bytes : List ℕ) → length bytes ≢ 0 → Err BadOperand ≡ lone_statement lone (operands_of bytes)
unfolding operands_of
lone_filled lone [] h = absurd (h refl)
lone_filled lone (byte ∷ bytes) h = let part = first_part (byte ∷ bytes) in lone_other lone part.0 part.1.0 (parts_of (byte ∷ bytes)) part.1.1
