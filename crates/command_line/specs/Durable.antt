-- Whether words ask that the report is written through to the disk.
use Rattle.std.specs.Prelude.{List, [], ◌∷◌, Bool, false}
use Rattle.command_line.specs.Terms.{bytes_eq}
use Rattle.command_line.specs.Texts.{Text}
use Rattle.command_line.specs.Parts.{parts}
use Rattle.command_line.specs.Options.{value_of}
use Rattle.command_line.specs.Table.{durable_row}
use Rattle.command_line.specs.declared.run_words.TheConstants as table

-- what the words of a command say of `--durable`: the value that is given, or the default of its row, is `on`
abbrev pub asked_durable : List Text → Bool
asked_durable [] = false
asked_durable (word ∷ behind) = bytes_eq (value_of durable_row (parts behind).options) table.ON.now
