-- Whether words ask that a session goes on whose record can't be written any more.
use Rattle.std.specs.Prelude.{List, [], ◌∷◌, Bool, false}
use Rattle.command_line.specs.Terms.{bytes_eq}
use Rattle.command_line.specs.Texts.{Text}
use Rattle.command_line.specs.Parts.{parts}
use Rattle.command_line.specs.Options.{value_of}
use Rattle.command_line.specs.Table.{record_full_row}
use Rattle.command_line.specs.declared.run_words.TheConstants as table

-- what the words of a command say of `--record-full`: the value that is given, or the default of its row, is `stop`
abbrev pub asked_record_stop : List Text → Bool
asked_record_stop [] = false
asked_record_stop (word ∷ behind) = bytes_eq (value_of record_full_row (parts behind).options) table.STOP.now
