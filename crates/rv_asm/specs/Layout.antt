-- Where the lines of a text stand, and the addresses of its labels. Text begins at TEXT_START, and data at the first page at
-- or above the end of text.
use Rattle.std.specs.Prelude.{ℕ, ◌+◌, ◌-◌, ◌*◌, ◌/◌, Bool, false, List, [], ◌∷◌, ◌++◌, length, map, Option, Some, None, option_map, bytes_eq, if◌then◌else◌}
use Rattle.asm_lines.specs.declared.form.Section.TheVariants as section
use Rattle.asm_lines.specs.declared.statement.Statement.TheVariants as statement
use Rattle.rv_asm.specs.Terms.{find, sum_by, result_ok, PAGE, Section, Line, Words, Statement, line_of, lines_of, is_data, is_text, size_of, statement_of}
use Rattle.rv_asm.specs.declared.layout.TheConstants.{TEXT_START}

-- what stands on each line of a text; none where a line isn't of the form of a line
unfoldable pub read_lines : List ℕ → List (Option Line)
read_lines text = map line_of (lines_of text)

-- a line, and the lines before it
pub record Place : Type 0 where
  pub before : List (Option Line)
  pub line : Option Line

abbrev pub place : List (Option Line) → Option Line → Place
place before line = record { before = before; line = line }

-- each of some lines, which stand behind others
abbrev pub places_behind : List (Option Line) → List (Option Line) → List Place
places_behind before [] = []
places_behind before (line ∷ lines) = place before line ∷ places_behind (before ++ line ∷ []) lines

-- the lines of a text, each at its place
abbrev pub places : List (Option Line) → List Place
places lines = places_behind [] lines

-- the number of a line, counted from 1
abbrev pub line_number : Place → ℕ
line_number place = length place.before + 1

-- the label that stands on a line
abbrev pub label_on : Option Line → Option (List ℕ)
label_on None = None
label_on (Some line) = line.label

abbrev pub is_name_of : List ℕ → Option (List ℕ) → Bool
is_name_of name None = false
is_name_of name (Some label) = bytes_eq name label

abbrev pub has_label : List ℕ → Option Line → Bool
has_label name line = is_name_of name (label_on line)

-- the statement that stands on a line, if its operands are those that it asks for
abbrev pub statement_in : Option Words → Option Statement
statement_in None = None
statement_in (Some words) = result_ok (statement_of words.form words.operands)

abbrev pub statement_on : Option Line → Option Statement
statement_on None = None
statement_on (Some line) = statement_in line.words

-- ---- sections

-- `.text` and `.data` name the section that is in force behind them
abbrev pub named_by : Section → Statement → Section
named_by in_force (statement.Into section) = section
named_by in_force _ = in_force

abbrev pub in_force_behind : Section → Option Statement → Section
in_force_behind in_force None = in_force
in_force_behind in_force (Some statement) = named_by in_force statement

-- the section in force behind some lines: the last that they name, and where they name none, the one before them
abbrev pub last_named : Section → List (Option Line) → Section
last_named in_force [] = in_force
last_named in_force (line ∷ lines) = last_named (in_force_behind in_force (statement_on line)) lines

-- the section of a line: the last that the lines before it name, and text where they name none
abbrev pub section_at : Place → Section
section_at place = last_named section.Text place.before

abbrev pub is_in : Section → Section → Bool
is_in section.Text in_force = is_text in_force
is_in section.Data in_force = is_data in_force

abbrev pub stands_at : Section → Place → Bool
stands_at section place = is_in section (section_at place)

-- how many bytes a line has, how many of them in a section, and how many some lines have there
abbrev pub size_on : Option Statement → ℕ
size_on None = 0
size_on (Some statement) = size_of statement

abbrev pub size_at : Section → Place → ℕ
size_at section place = if stands_at section place then size_on (statement_on place.line) else 0

abbrev pub bytes_in : Section → List (Option Line) → ℕ
bytes_in section lines = sum_by (size_at section) (places lines)

-- ---- addresses

abbrev pub text_start : ℕ
text_start = TEXT_START

abbrev pub data_start : ℕ → ℕ
data_start text_size = (text_start + text_size + (PAGE - 1)) / PAGE * PAGE

-- the address behind so many bytes of a section, where text has this size
abbrev pub address_in : ℕ → Section → ℕ → ℕ
address_in text_size section.Text offset = text_start + offset
address_in text_size section.Data offset = data_start text_size + offset

-- the address of a line of a text: behind the bytes that the lines before it have in its section
abbrev pub address_at : List (Option Line) → Place → ℕ
address_at lines place = address_in (bytes_in section.Text lines) (section_at place) (bytes_in (section_at place) place.before)

-- the address of a label, if it is defined: that of the line on which it stands
abbrev pub address_of : List (Option Line) → List ℕ → Option ℕ
address_of lines name = option_map (address_at lines) (find (λ place. has_label name place.line) (places lines))
