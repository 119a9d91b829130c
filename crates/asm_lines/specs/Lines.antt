-- The lines of a text, and what stands on one: an optional label with its colon, an optional statement, an optional
-- comment.
use Rattle.std.specs.Prelude.{ℕ, Bool, false, not, ◌&&◌, List, [], ◌∷◌, Option, Some, None, option_map, if◌then◌else◌, ◌==◌}
use Rattle.std.specs.List.{list_all}
use Rattle.asm_lines.specs.declared.line.Line.{Line}
use Rattle.asm_lines.specs.declared.line.Words.{Words}
use Rattle.asm_lines.specs.declared.form.Form.{Form}
use Rattle.asm_lines.specs.Bytes.{is_allowed, is_name, skip_blanks, trimmed, first_word, behind_word, cut, onto}
use Rattle.asm_lines.specs.Mnemonics.{form_of}

-- the lines of a text; each ends with a line feed, which may be missing at the end of the text
abbrev pub lines_from : List ℕ → List (List ℕ)
lines_from [] = []
lines_from (byte ∷ bytes) = if byte == 10 then [] ∷ lines_from bytes else onto byte (lines_from bytes)

-- an empty text has one line
abbrev pub lines_of : List ℕ → List (List ℕ)
lines_of [] = [] ∷ []
lines_of (byte ∷ bytes) = lines_from (byte ∷ bytes)

-- a line without its comment, which `#` begins where no quote is open
abbrev pub uncommented : Bool → List ℕ → List ℕ
uncommented quoted [] = []
uncommented quoted (byte ∷ bytes) =
    if (byte == 35) && not quoted then [] else
    byte ∷ uncommented (if byte == 34 then not quoted else quoted) bytes

-- the code of a line
unfoldable pub code_of : List ℕ → List ℕ
code_of bytes = trimmed (uncommented false bytes)

-- a statement: a mnemonic that is known, and behind it the operands
abbrev pub words_of_form : List ℕ → Option Form → Option Words
words_of_form operands None = None
words_of_form operands (Some form) = Some (record { form = form; operands = operands })

unfoldable pub words_of : List ℕ → Option Words
words_of code = words_of_form (skip_blanks (behind_word code)) (form_of (first_word code))

-- a label alone, a statement alone, or both
abbrev pub line_from : Option (List ℕ) → List ℕ → Option Line
line_from label [] = Some (record { label = label; words = None })
line_from label (byte ∷ bytes) = option_map (λ (words : Words). record { label = label; words = Some words }) (words_of (byte ∷ bytes))

-- the label is the name before the first colon, if that is a name
abbrev pub line_cut : List ℕ → Option (List ℕ × List ℕ) → Option Line
line_cut code None = line_from None code
line_cut code (Some parts) = if is_name parts.0 then line_from (Some parts.0) (skip_blanks parts.1) else line_from None code

unfoldable pub line_of_code : List ℕ → Option Line
line_of_code code = line_cut code (cut 58 code)

-- what stands on a line; none where it has a byte that isn't allowed, or no statement that is known
unfoldable pub line_of : List ℕ → Option Line
line_of bytes = if list_all is_allowed bytes then line_of_code (code_of bytes) else None
