-- What clap reads of the words of a command.
use Rattle.std.specs.Prelude.{◌≡◌, ℕ, ◌+◌, true, List, [], ◌∷◌, Some, fold, map}
use Rattle.clap.specs.Words.{first_value, found_of}
use Rattle.clap.specs.Simple.{App, new_rule, with_rule}
use Rattle.command_line.specs.Terms.{option_map_or, ArgMatches, new_app, Rule}
use Rattle.command_line.specs.Texts.{Text}
use Rattle.command_line.specs.Table.{CommandForm, Row, static_row, record_row, report_row, env_row, form_row, frame_row}
use Rattle.command_line.specs.declared.run_words.TheConstants as table
use Rattle.command_line.specs.Parts.{Parts}
use Rattle.command_line.specs.Options.{value_of}
use Rattle.command_line.specs.Commands.{positional}

abbrev pub defaults_of : Row → List Text
defaults_of row = option_map_or (λ text. text ∷ []) row.default []

-- clap's argument of an option: its name is its id too
abbrev pub option_rule : Row → Rule
option_rule row = record (new_rule row.name) { long = Some row.name; defaults = defaults_of row }

-- clap's command with no argument yet: it takes no word as its own name, and has no help
abbrev pub bare_app : Text → App
bare_app name = record (new_app name) { top = record ((new_app name).top) { no_binary_name = true; disable_help_flag = true } }

-- clap's command: the positionals, and then the options
abbrev pub app_of_form : CommandForm → App
app_of_form command = fold with_rule (fold with_rule (bare_app command.name) (map new_rule command.positionals)) (map option_rule command.options)

-- a fact of each row
abbrev pub EachRow : (Row → Type 0) → List Row → Type 0
EachRow P [] = Unit {0}
EachRow P (row ∷ rest) = P row × EachRow P rest

-- a fact of each name and its place, counted from this one
abbrev pub EachName : (ℕ → Text → Type 0) → ℕ → List Text → Type 0
EachName P place [] = Unit {0}
EachName P place (name ∷ rest) = P place name × EachName P (place + 1) rest

-- clap has read the words with these parts: each positional, and of each option the value that is given or its default
pub record HasRead (command : CommandForm) (parts : Parts) (m : ArgMatches) : Type 0 where
  pub names : EachName (λ place name. first_value (found_of m) name ≡ Some (positional place parts)) 0 command.positionals
  pub options : EachRow (λ row. first_value (found_of m) row.name ≡ Some (value_of row parts.options)) command.options

-- the options that the command of each session has
abbrev pub session_rows : List Row
session_rows =
    record_row
    ∷ report_row
    ∷ form_row
    ∷ frame_row
    ∷ static_row table.WINDOW
    ∷ static_row table.RING
    ∷ static_row table.EVERY
    ∷ static_row table.FRAMES
    ∷ static_row table.BUDGET
    ∷ static_row table.KEEP
    ∷ env_row
    ∷ []

-- clap has read the program's name and these options
pub record HasReadSession (parts : Parts) (m : ArgMatches) : Type 0 where
  pub program : first_value (found_of m) table.PROGRAM.now ≡ Some (positional 0 parts)
  pub options : EachRow (λ row. first_value (found_of m) row.name ≡ Some (value_of row parts.options)) session_rows
