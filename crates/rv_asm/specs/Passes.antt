-- What the passes of the code hold: behind some lines, the section in force, how many bytes each section has, and the
-- labels and statements at their places. Nothing here is promised to callers of the crate.
use Rattle.std.specs.Prelude.{ℕ, ◌+◌, Bool, true, false, List, [], ◌∷◌, ◌++◌, flat_map, Option, Some, None, option_map, is_some, Result, Ok, Err}
use Rattle.rv_asm.specs.Terms.{filter, option_or, Flaw, Section, Line, Words, Statement, line_of, lines_of, size_of, statement_of, Placed, Spot}
use Rattle.rv_asm.specs.declared.asm_refusal.Fault.{Fault}
use Rattle.asm_lines.specs.declared.form.Section.TheVariants as section
use Rattle.rv_asm.specs.declared.layout.Layout.{Layout}
use Rattle.asm_lines.specs.declared.statement.Statement.TheVariants as statement
use Rattle.rv_asm.specs.Places.{definition_of, spot_of}
use Rattle.rv_asm.specs.Layout.{label_on, is_in, address_in}
use Rattle.rv_asm.specs.Refusals.{fault, parts_flaw, label_flaw}
use Rattle.rv_asm.specs.Assembling.{Cell, cells_at}

-- before the first line: the text section is in force
abbrev pub no_lines : Layout
no_lines = record { lines = 0; section = section.Text; text_size = 0; data_size = 0; labels = []; statements = [] }

-- the bytes that a section has
abbrev pub size_of_section : Section → Layout → ℕ
size_of_section section.Text layout = layout.text_size
size_of_section section.Data layout = layout.data_size

-- the place of what comes next
abbrev pub next_spot : Layout → Spot
next_spot layout = record { section = layout.section; offset = size_of_section layout.section layout }

-- a label stands at the place of what comes behind it
abbrev pub with_label : Option (List ℕ) → Layout → Layout
with_label None layout = layout
with_label (Some name) layout = record layout { labels = layout.labels ++ definition_of name (next_spot layout) ∷ [] }

-- so many bytes more in a section
abbrev pub with_bytes : Section → ℕ → Layout → Layout
with_bytes section.Text size layout = record layout { text_size = layout.text_size + size }
with_bytes section.Data size layout = record layout { data_size = layout.data_size + size }

-- a statement at its place
abbrev pub placed_at : Layout → Statement → Placed
placed_at layout statement = record { line = layout.lines; spot = next_spot layout; statement = statement }

abbrev pub with_placed : Statement → Layout → Layout
with_placed statement layout =
    with_bytes layout.section (size_of statement) (record layout { statements = layout.statements ++ placed_at layout statement ∷ [] })

-- `.text` and `.data` name the section that is in force behind them
abbrev pub with_statement : Statement → Layout → Layout
with_statement (statement.Into section) layout = record layout { section = section }
with_statement other layout = with_placed other layout

abbrev pub with_read : Result Statement Flaw → Layout → Layout
with_read (Ok statement) layout = with_statement statement layout
with_read (Err flaw) layout = layout

abbrev pub with_words : Option Words → Layout → Layout
with_words None layout = layout
with_words (Some words) layout = with_read (statement_of words.form words.operands) layout

-- one line more
abbrev pub with_line : Option Line → Layout → Layout
with_line None layout = layout
with_line (Some line) layout = with_words line.words (with_label line.label layout)

abbrev pub counted : Layout → Layout
counted layout = record layout { lines = layout.lines + 1 }

unfoldable pub after_line : Layout → List ℕ → Layout
after_line layout bytes = with_line (line_of bytes) (counted layout)

-- behind some lines more
abbrev pub after_lines : Layout → List (List ℕ) → Layout
after_lines layout [] = layout
after_lines layout (line ∷ lines) = after_lines (after_line layout line) lines

-- the address of a place
abbrev pub spot_address : Layout → Spot → ℕ
spot_address layout spot = address_in layout.text_size spot.section spot.offset

-- the address of a label, if it is defined
abbrev pub label_address : Layout → List ℕ → Option ℕ
label_address layout name = option_map (spot_address layout) (spot_of layout.labels name)

-- ---- what is wrong

-- the label is defined already
abbrev pub is_repeated : Layout → Option (List ℕ) → Bool
is_repeated layout None = false
is_repeated layout (Some name) = is_some (spot_of layout.labels name)

-- how many bytes both sections have
abbrev pub size_of_both : Layout → ℕ
size_of_both layout = layout.text_size + layout.data_size

-- what is wrong with a line behind others, whatever the labels' places are
abbrev pub found_flaw : Layout → Bool → Option Line → Option Flaw
found_flaw layout last line = parts_flaw layout.section layout.text_size (size_of_both layout) (is_repeated layout (label_on line)) last line

unfoldable pub added_flaw : Layout → Bool → List ℕ → Option Flaw
added_flaw layout last bytes = found_flaw layout last (line_of bytes)

abbrev pub is_end : List (List ℕ) → Bool
is_end [] = true
is_end (line ∷ lines) = false

-- the first of some lines, behind others, that is wrong so
abbrev pub lines_fault : Layout → List (List ℕ) → Option Fault
lines_fault layout [] = None
lines_fault layout (line ∷ lines) =
    option_or (option_map (fault (layout.lines + 1)) (added_flaw layout (is_end lines) line)) (lines_fault (after_line layout line) lines)

-- the first statement whose label is wrong
abbrev pub labels_fault : Layout → List Placed → Option Fault
labels_fault layout [] = None
labels_fault layout (placed ∷ rest) =
    option_or (option_map (fault placed.line) (label_flaw (label_address layout) (spot_address layout placed.spot) placed.statement)) (labels_fault layout rest)

unfoldable pub layout_of : List ℕ → Layout
layout_of text = after_lines no_lines (lines_of text)

-- ---- what is put into the sections

abbrev pub placed_cells : Layout → Placed → List Cell
placed_cells layout placed = cells_at (label_address layout) (spot_address layout placed.spot) placed.statement

abbrev pub is_placed_in : Section → Placed → Bool
is_placed_in section placed = is_in section placed.spot.section

abbrev pub section_cells : Section → Layout → List Placed → List Cell
section_cells section layout placed = flat_map (placed_cells layout) (filter (is_placed_in section) placed)
