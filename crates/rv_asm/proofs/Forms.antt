-- The form of a line's statement is in the table.
use Rattle.rv_asm.proofs.Terms.{Bool, List, None, Option, Some, [], cond, false, option_map, refl, subst, true, ℕ, ◌∷◌, ◌≡◌, list_all, Form, Line, Words, behind_word, cut, first_word, is_allowed, is_name, skip_blanks, code_of, line_cut, line_from, line_of, line_of_code, words_of, words_of_form, form_of}
use Rattle.rv_asm.proofs.Encodable.{IsForm, form_is}

-- the statement of a line, if there are both, has a known form
abbrev pub KnownWords : Option Words → Type 0
KnownWords None = Unit {0}
KnownWords (Some words) = IsForm words.form

abbrev pub KnownLine : Option Line → Type 0
KnownLine None = Unit {0}
KnownLine (Some line) = KnownWords line.words

by_form : (operands name : List ℕ) (found : Option Form) → form_of name ≡ found → KnownWords (words_of_form operands found)
by_form operands name None h = tt
by_form operands name (Some form) h = form_is name form h

known_words : (code : List ℕ) → KnownWords (words_of code)
unfolding words_of
known_words code = by_form (skip_blanks (behind_word code)) (first_word code) (form_of (first_word code)) refl

by_words : (label : Option (List ℕ)) (found : Option Words) → KnownWords found → KnownLine (option_map (λ (words : Words). record { label = label; words = Some words }) found)
by_words label None h = tt
by_words label (Some words) h = h

known_from : (label : Option (List ℕ)) (code : List ℕ) → KnownLine (line_from label code)
known_from label [] = tt
known_from label (byte ∷ bytes) = by_words label (words_of (byte ∷ bytes)) (known_words (byte ∷ bytes))

by_name : (b : Bool) (code : List ℕ) (parts : List ℕ × List ℕ) → KnownLine (cond b (line_from (Some parts.0) (skip_blanks parts.1)) (line_from None code))
by_name true code parts = known_from (Some parts.0) (skip_blanks parts.1)
by_name false code parts = known_from None code

by_cut : (code : List ℕ) (parts : Option (List ℕ × List ℕ)) → KnownLine (line_cut code parts)
by_cut code None = known_from None code
by_cut code (Some parts) = by_name (is_name parts.0) code parts

known_code : (code : List ℕ) → KnownLine (line_of_code code)
unfolding line_of_code
known_code code = by_cut code (cut 58 code)

by_bytes : (b : Bool) (code : List ℕ) → KnownLine (cond b (line_of_code code) None)
by_bytes true code = known_code code
by_bytes false code = tt

known_line : (bytes : List ℕ) → KnownLine (line_of bytes)
unfolding line_of
known_line bytes = by_bytes (list_all is_allowed bytes) (code_of bytes)

pub line_form : (bytes : List ℕ) (line : Line) (words : Words) → line_of bytes ≡ Some line → line.words ≡ Some words → IsForm words.form
line_form bytes line words h w = subst KnownWords w (subst KnownLine h (known_line bytes))
