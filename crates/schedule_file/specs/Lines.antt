-- The text of a record, one spelling for each. Every line ends with a line feed.
use Rattle.std.specs.Prelude.{ℕ, suc, zero, ◌+◌, ◌/◌, ◌%◌, Bool, List, [], ◌∷◌, ◌++◌, Option, None, Some, flat_map, codes, nat_lt, ◌==◌, if◌then◌else◌}
use Rattle.msg_frame.specs.declared.framing.Framing.TheVariants as framing
use Rattle.schedule_file.specs.Terms.{decimal, Ask, Calloc, Malloc, Realloc, Choice, Framing, Line}

-- the lower-case hexadecimal digit of a number below 16
abbrev pub hex_digit : ℕ → ℕ
hex_digit n = if nat_lt n 10 then n + 48 else n + 87

-- so many hexadecimal digits of a number, the highest first
abbrev pub hex_digits : ℕ → ℕ → List ℕ
hex_digits zero n = []
hex_digits (suc count) n = hex_digits count (n / 16) ++ hex_digit (n % 16) ∷ []

abbrev pub eight_digits : ℕ → List ℕ
eight_digits n = hex_digits 8 n

abbrev pub frame_name : Framing → List ℕ
frame_name framing.Line = codes "line"
frame_name framing.Length = codes "length"
frame_name framing.Whole = codes "whole"

-- the first line: `rx record V window W frame F`, W in MiB. A decimal number has no leading zeros
unfoldable pub head_line : ℕ → ℕ → Framing → List ℕ
head_line version window frame =
    codes "rx record " ++ (decimal version ++ (codes " window " ++ (decimal window ++ (codes " frame " ++ (frame_name frame ++ 10 ∷ [])))))

-- the letter of the function that was called, and m where that isn't known: m, c or r
abbrev pub letter : Option Ask → ℕ
letter None = 109
letter (Some (Malloc size)) = 109
letter (Some (Calloc count size)) = 99
letter (Some (Realloc old size)) = 114

-- a number behind a space
abbrev pub spaced : ℕ → List ℕ
spaced n = 32 ∷ eight_digits n

-- how many bytes were carried, unless none were
abbrev pub carried_part : ℕ → List ℕ
carried_part carried = if carried == 0 then [] else spaced carried

-- the arguments of the call, in their order; and behind those of realloc how many bytes were carried
abbrev pub arguments : Option Ask → ℕ → List ℕ
arguments None carried = []
arguments (Some (Malloc size)) carried = spaced size
arguments (Some (Calloc count size)) carried = spaced count ++ spaced size
arguments (Some (Realloc old size)) carried = spaced old ++ spaced size ++ carried_part carried

-- z where the block was zeroed, else -
abbrev pub mark : Bool → ℕ
mark zeroed = if zeroed then 122 else 45

-- a letter, an address and a mark
abbrev pub front : ℕ → ℕ → Bool → List ℕ
front letter address zeroed = letter ∷ (spaced address ++ 32 ∷ mark zeroed ∷ [])

-- the line of an answer of the allocator: `m AAAAAAAA M SSSSSSSS`, `c AAAAAAAA M NNNNNNNN SSSSSSSS`, `r AAAAAAAA M OOOOOOOO SSSSSSSS` or
-- `r AAAAAAAA M OOOOOOOO SSSSSSSS CCCCCCCC`, and `m AAAAAAAA M` in version 1, whatever was asked
unfoldable pub line_text : Line → List ℕ
line_text line = front (letter line.ask) line.at line.zeroed ++ (arguments line.ask line.carried ++ 10 ∷ [])

-- the last line: `end STEPS TAKEN`
unfoldable pub end_line : ℕ → ℕ → List ℕ
end_line steps taken = codes "end " ++ (decimal steps ++ (codes " " ++ (decimal taken ++ 10 ∷ [])))

-- one line for each answer
abbrev pub lines_text : List Line → List ℕ
lines_text lines = flat_map line_text lines

-- the whole text
abbrev pub record_text : ℕ → ℕ → Framing → List Line → ℕ → ℕ → List ℕ
record_text version window frame lines steps taken = head_line version window frame ++ (lines_text lines ++ end_line steps taken)

-- ---- the lines of answers as they are written: with what was asked

abbrev pub line_of : Choice → Line
line_of choice = record { ask = Some choice.ask; at = choice.at; zeroed = choice.zeroed; carried = choice.carried }

abbrev pub choice_line : Choice → List ℕ
choice_line choice = line_text (line_of choice)

abbrev pub choice_lines : List Choice → List ℕ
choice_lines choices = flat_map choice_line choices
