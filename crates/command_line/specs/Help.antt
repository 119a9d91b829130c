-- What words ask of the program itself.
use Rattle.std.specs.Prelude.{◌≡◌, List, [], ◌∷◌, Option, Some, None, if◌then◌else◌, option_map}
use Rattle.command_line.specs.Terms.{bytes_eq}
use Rattle.command_line.specs.Texts.{Text}
use Rattle.command_line.specs.declared.options.CommandName.{CommandName}
use Rattle.command_line.specs.declared.help_words.Help.{Help}
use Rattle.command_line.specs.declared.help_words.Help.TheVariants as help
use Rattle.command_line.specs.declared.help_words.TheConstants as word
use Rattle.command_line.specs.Commands.{command_of, name_of}

-- one word: `help`, `--help` and `-h` ask how all commands are written, `--version` which version it is
abbrev pub help_by : Text → Option Help
help_by text =
    if bytes_eq text word.HELP.now then Some help.All
    else (if bytes_eq text word.LONG_HELP.now then Some help.All
    else (if bytes_eq text word.SHORT_HELP.now then Some help.All else (if bytes_eq text word.VERSION.now then Some help.Version else None)))

-- how the command of this name is written, if there is one
abbrev pub help_named : Text → Option Help
help_named text = option_map (λ (name : CommandName). help.Of name) (name_of text)

-- two words: `help COMMAND` and `COMMAND --help` ask how that command is written
abbrev pub help_by_two : Text → Text → Option Help
help_by_two first second =
    if bytes_eq first word.HELP.now then help_named second else (if bytes_eq second word.LONG_HELP.now then help_named first else None)

-- what the words behind the program's own name ask of the program itself: no others do
abbrev pub help_of : List Text → Option Help
help_of [] = None
help_of (text ∷ []) = help_by text
help_of (first ∷ second ∷ []) = help_by_two first second
help_of (first ∷ second ∷ third ∷ rest) = None

-- words that ask for something of the program itself are those of no command
abbrev pub HelpIsNoCommand : Type 0
HelpIsNoCommand = (words : List Text) (asked : Help) → help_of words ≡ Some asked → command_of words ≡ None
