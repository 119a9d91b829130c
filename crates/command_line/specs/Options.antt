-- The options of a command: which are taken, and the value that one has.
use Rattle.std.specs.Prelude.{ℕ, ◌&&◌, ◌||◌, Bool, true, false, not, List, [], ◌∷◌, Option, is_some, nat_le, find, option_map, unwrap_or}
use Rattle.command_line.specs.Terms.{list_all, list_any, option_map_or, bytes_eq}
use Rattle.command_line.specs.Texts.{Text, is_name, number_of}
use Rattle.command_line.specs.declared.texts.TheConstants.{DASH}
use Rattle.command_line.specs.declared.options.TakesOf.TheVariants.{Name, OneOf, Number}
use Rattle.command_line.specs.Table.{Row, Takes}

-- the options of the words: names with their dashes, and values
abbrev pub Options : Type 0
Options = List (Text × Text)

abbrev pub is_between : ℕ → ℕ → ℕ → Bool
is_between least most n = nat_le least n && nat_le n most

-- the value is a name, one of the texts, or a number of the range
abbrev pub takes_of : Takes → Text → Bool
takes_of Name value = is_name value
takes_of (OneOf texts) value = list_any (λ text. bytes_eq text value) texts
takes_of (Number least most) value = option_map_or (is_between least most) (number_of value) false

-- the word is the row's name behind two dashes
abbrev pub is_for : Row → Text → Bool
is_for row word = bytes_eq word (DASH ∷ DASH ∷ row.name)

-- an option stands there under this very word
abbrev pub has_option : Text → Options → Bool
has_option word options = list_any (λ option. bytes_eq option.0 word) options

-- a row has the name and takes the value
abbrev pub is_taken : List Row → Text → Text → Bool
is_taken rows word value = list_any (λ row. is_for row word && takes_of row.takes value) rows

-- each option has a value that may stand as a name, is of a row that takes the value, and comes once
abbrev pub are_options : List Row → Options → Bool
are_options rows [] = true
are_options rows (option ∷ rest) =
    is_name option.1 && (is_taken rows option.0 option.1 && (not (has_option option.0 rest) && are_options rows rest))

-- the value that the options give for a row
abbrev pub given : Row → Options → Option Text
given row options = option_map (λ option. option.1) (find (λ option. is_for row option.0) options)

-- each row without a default is given a value
abbrev pub has_required : List Row → Options → Bool
has_required rows options = list_all (λ row. is_some row.default || is_some (given row options)) rows

abbrev pub default_of : Row → Text
default_of row = unwrap_or row.default []

-- the value of a row: the one that is given, or its default
abbrev pub value_of : Row → Options → Text
value_of row options = unwrap_or (given row options) (default_of row)

-- the same as a number
abbrev pub number_at : Row → Options → ℕ
number_at row options = unwrap_or (number_of (value_of row options)) 0
