-- The rows of the table of commands and options, as plain texts and numbers.
use Rattle.std.specs.Prelude.{List, map, option_map}
use Rattle.std.specs.Borrow.{Bor}
use Rattle.command_line.specs.Texts.{Text}
use Rattle.command_line.specs.declared.options.CommandOf.{CommandOf}
use Rattle.command_line.specs.declared.options.RowOf.{RowOf}
use Rattle.command_line.specs.declared.options.TakesOf.{TakesOf}
use Rattle.command_line.specs.declared.options.TakesOf.TheVariants.{Name, OneOf, Number}
use Rattle.command_line.specs.declared.run_words.TheConstants as table
use Rattle.command_line.specs.declared.serve_words.TheConstants as serve_table
use Rattle.command_line.specs.declared.diagnose_words.TheConstants as diagnose_table
use Rattle.command_line.specs.declared.drill_words.TheConstants as drill_table

-- What an option takes, a row of the table, and a command with its rows. What they say to a person is no part of them.
abbrev pub Takes : Type 0
Takes = TakesOf (List Text)

abbrev pub Row : Type 0
Row = RowOf Text (List Text) (Unit {0})

abbrev pub CommandForm : Type 0
CommandForm = CommandOf Text (List Text) (List Row) (Unit {0})

-- ---- the same with the code's references read

abbrev pub takes_by : {B : Type 0} → (B → List Text) → TakesOf B → Takes
takes_by texts Name = Name
takes_by texts (OneOf x) = OneOf (texts x)
takes_by texts (Number least most) = Number least most

abbrev pub row_by : {A B C : Type 0} → (A → Text) → (B → List Text) → RowOf A B C → Row
row_by text texts row = record { name = text row.name; takes = takes_by texts row.takes; default = option_map text row.default; says = tt }

abbrev pub Texts : Type 0
Texts = Bor (List (Bor Text))

abbrev pub texts_read : Texts → List Text
texts_read texts = map (λ text. text.now) texts.now

abbrev pub takes_read : TakesOf Texts → Takes
takes_read takes = takes_by texts_read takes

abbrev pub TextRow : Type 0
TextRow = RowOf (Bor Text) Texts (Bor Text)

abbrev pub row_read : TextRow → Row
row_read row = row_by (λ text. text.now) texts_read row

abbrev pub rows_read : List TextRow → List Row
rows_read rows = map row_read rows

abbrev pub form_read : CommandOf (Bor Text) Texts (Bor (List TextRow)) (Bor Text) → CommandForm
form_read command = record { which = command.which; name = command.name.now; positionals = texts_read command.positionals; options = rows_read command.options.now; says = tt }

-- ---- the table's own rows

abbrev pub StaticText : Type 0
StaticText = record { now : Text }

abbrev pub StaticTexts : Type 0
StaticTexts = record { now : List StaticText }

abbrev pub StaticRow : Type 0
StaticRow = RowOf StaticText StaticTexts StaticText

abbrev pub static_texts : StaticTexts → List Text
static_texts texts = map (λ text. text.now) texts.now

abbrev pub static_row : StaticRow → Row
static_row row = row_by (λ text. text.now) static_texts row

abbrev pub static_form : CommandOf StaticText StaticTexts (record { now : List StaticRow }) StaticText → CommandForm
static_form command = record { which = command.which; name = command.name.now; positionals = static_texts command.positionals; options = map static_row command.options.now; says = tt }

unfoldable pub record_row : Row
record_row = static_row table.RECORD

unfoldable pub report_row : Row
report_row = static_row table.REPORT

unfoldable pub form_row : Row
form_row = static_row table.FORM

unfoldable pub frame_row : Row
frame_row = static_row table.FRAME

unfoldable pub env_row : Row
env_row = static_row table.ENV

unfoldable pub guard_row : Row
guard_row = static_row table.GUARD

unfoldable pub tell_row : Row
tell_row = static_row table.TELL

unfoldable pub durable_row : Row
durable_row = static_row table.DURABLE

unfoldable pub record_full_row : Row
record_full_row = static_row table.RECORD_FULL

unfoldable pub diagnose_guard_row : Row
diagnose_guard_row = static_row diagnose_table.DIAGNOSE_GUARD

unfoldable pub diagnosis_row : Row
diagnosis_row = static_row diagnose_table.DIAGNOSIS

unfoldable pub port_row : Row
port_row = static_row serve_table.PORT

unfoldable pub conns_row : Row
conns_row = static_row serve_table.CONNS

unfoldable pub stopped_by_row : Row
stopped_by_row = static_row serve_table.STOPPED_BY

unfoldable pub seed_row : Row
seed_row = static_row drill_table.SEED

unfoldable pub count_row : Row
count_row = static_row drill_table.COUNT
