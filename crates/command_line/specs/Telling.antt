-- Whether words ask that a person is told of each recovery.
use Rattle.std.specs.Prelude.{List, [], ◌∷◌, if◌then◌else◌}
use Rattle.command_line.specs.Terms.{bytes_eq}
use Rattle.command_line.specs.Texts.{Text}
use Rattle.command_line.specs.Parts.{parts}
use Rattle.command_line.specs.Options.{value_of}
use Rattle.command_line.specs.Table.{tell_row}
use Rattle.command_line.specs.declared.run_words.TheConstants as table
use Rattle.command_line.specs.declared.tell_words.Tell.{Tell}
use Rattle.command_line.specs.declared.tell_words.Tell.TheVariants.{Auto, On, Off}

-- what a value of `--tell` says
abbrev pub tell_of : Text → Tell
tell_of text = if bytes_eq text table.ON.now then On else (if bytes_eq text table.OFF.now then Off else Auto)

-- what the words of a command say of it: the value that is given, or the default of its row
abbrev pub asked_tell : List Text → Tell
asked_tell [] = Auto
asked_tell (word ∷ behind) = tell_of (value_of tell_row (parts behind).options)
