-- What a text is refused for: a kind and a line. The first line that is wrong whatever the labels' places are is
-- answered, with the first of the kinds 1, 5, 2 and 3 that holds there. Where there is none, it is the first line that
-- uses a label which isn't defined (4) or can't be reached (3).
use Rattle.std.specs.Prelude.{ℕ, ◌+◌, ◌%◌, Bool, false, not, ◌&&◌, ◌||◌, List, [], ◌∷◌, length, Option, Some, None, option_map, Result, Ok, Err, ℤ, pos, neg_ℤ, ◌-ℤ◌, unsigned_abs, int_lt, nat_lt, if◌then◌else◌, ◌==◌}
use Rattle.rv_asm.specs.Terms.{list_any, option_or, Flaw, Section, Line, Words, Statement, gives_bytes, is_text, stands_in, size_of, statement_of}
use Rattle.rv_asm.specs.declared.asm_refusal.Fault.{Fault}
use Rattle.asm_lines.specs.declared.flaw.Flaw.TheVariants as flaw
use Rattle.asm_lines.specs.declared.form.Section.TheVariants as section
use Rattle.asm_lines.specs.declared.statement.Statement.TheVariants as statement
use Rattle.rv_asm.specs.Layout.{Place, places, read_lines, line_number, label_on, has_label, statement_on, section_at, bytes_in, address_at, address_of}
use Rattle.rv_asm.specs.declared.layout.TheConstants.{MOST_BYTES}

-- what is wrong, and on which line, counted from 1
abbrev pub fault : ℕ → Flaw → Fault
fault line flaw = record { flaw = flaw; line = line }

-- the first line with a flaw
abbrev pub first_fault : (Place → Option Flaw) → List Place → Option Fault
first_fault flaw [] = None
first_fault flaw (place ∷ rest) = option_or (option_map (fault (line_number place)) (flaw place)) (first_fault flaw rest)

-- ---- a line, whatever the labels' places are

-- a statement stands in the wrong section
abbrev pub is_misplaced : Section → Option Words → Bool
is_misplaced in_force None = false
is_misplaced in_force (Some words) = not (stands_in in_force words.form)

-- a statement gives text a byte, whatever its operands are
abbrev pub gives_text : Section → Option Words → Bool
gives_text in_force None = false
gives_text in_force (Some words) = is_text in_force && gives_bytes words.form

-- text has no bytes before a statement, nor by it
abbrev pub has_no_text : Section → ℕ → Option Words → Bool
has_no_text in_force text_size words = (text_size == 0) && not (gives_text in_force words)

-- text and data have more than MOST_BYTES bytes together, of which so many stand before a statement
abbrev pub is_too_large : ℕ → Statement → Bool
is_too_large size statement = nat_lt MOST_BYTES (size + size_of statement)

abbrev pub size_flaw : ℕ → Statement → Option Flaw
size_flaw size statement = if is_too_large size statement then Some flaw.Range else None

abbrev pub read_flaw : ℕ → Result Statement Flaw → Option Flaw
read_flaw size (Ok statement) = size_flaw size statement
read_flaw size (Err flaw) = Some flaw

abbrev pub words_flaw : ℕ → Option Words → Option Flaw
words_flaw size None = None
words_flaw size (Some words) = read_flaw size (statement_of words.form words.operands)

-- what is wrong with a line in this section, behind so many bytes of text and so many of both sections; `repeated`: its
-- label is defined on an earlier line; `last`: no line stands behind it, so that it answers for a text without bytes too
abbrev pub parts_flaw : Section → ℕ → ℕ → Bool → Bool → Option Line → Option Flaw
parts_flaw in_force text_size size repeated last None = Some flaw.UnknownWord
parts_flaw in_force text_size size repeated last (Some line) =
    if is_misplaced in_force line.words || last && has_no_text in_force text_size line.words then Some flaw.UnknownWord else
    if repeated then Some flaw.DoubleLabel else
    words_flaw size line.words

-- a label is defined on one of some lines
abbrev pub is_defined_on : List (Option Line) → Option (List ℕ) → Bool
is_defined_on lines None = false
is_defined_on lines (Some name) = list_any (has_label name) lines

-- how many bytes some lines have
abbrev pub size_behind : List (Option Line) → ℕ
size_behind lines = bytes_in section.Text lines + bytes_in section.Data lines

-- what is wrong with a line of a text of so many lines
abbrev pub line_flaw : ℕ → Place → Option Flaw
line_flaw count place =
    parts_flaw (section_at place) (bytes_in section.Text place.before) (size_behind place.before)
    (is_defined_on place.before (label_on place.line)) (line_number place == count) place.line

-- ---- labels

-- how far it is from one address to another
abbrev pub distance : ℕ → ℕ → ℤ
distance from to = pos to -ℤ pos from

-- a branch or a jump reaches even distances, from this far backwards to just below this far forwards
abbrev pub reaches : ℕ → ℤ → Bool
reaches most far = not (int_lt far (neg_ℤ (pos most))) && int_lt far (pos most) && (unsigned_abs far % 2 == 0)

-- a label that a branch or a jump goes to, and one whose address is used
abbrev pub target_flaw : ℕ → ℕ → Option ℕ → Option Flaw
target_flaw most from None = Some flaw.Label
target_flaw most from (Some to) = if reaches most (distance from to) then None else Some flaw.Range

abbrev pub address_flaw : Option ℕ → Option Flaw
address_flaw None = Some flaw.Label
address_flaw (Some address) = None

-- what is wrong with the label of a statement at this address, where labels have these addresses
abbrev pub label_flaw : (List ℕ → Option ℕ) → ℕ → Statement → Option Flaw
label_flaw labels at (statement.Branch op rs1 rs2 name) = target_flaw 4096 at (labels name)
label_flaw labels at (statement.Jump rd name) = target_flaw 1048576 at (labels name)
label_flaw labels at (statement.LoadAddress rd name) = address_flaw (labels name)
label_flaw labels at (statement.Address name) = address_flaw (labels name)
label_flaw labels at _ = None

abbrev pub link_flaw : (List ℕ → Option ℕ) → ℕ → Option Statement → Option Flaw
link_flaw labels at None = None
link_flaw labels at (Some statement) = label_flaw labels at statement

abbrev pub place_flaw : List (Option Line) → Place → Option Flaw
place_flaw lines place = link_flaw (address_of lines) (address_at lines place) (statement_on place.line)

-- ---- the refusal of a text

abbrev pub lines_refusal : List (Option Line) → Option Fault
lines_refusal lines = option_or (first_fault (line_flaw (length lines)) (places lines)) (first_fault (place_flaw lines) (places lines))

unfoldable pub refusal_of : List ℕ → Option Fault
refusal_of text = lines_refusal (read_lines text)
