-- The words behind a command, taken apart.
use Rattle.std.specs.Prelude.{◌≡◌, ℕ, ◌==◌, ◌&&◌, ◌<◌, Bool, List, [], ◌∷◌, Option, Some, None, String, if◌then◌else◌, length, map, string_bytes}
use Rattle.command_line.specs.Terms.{Global, list_all}
use Rattle.command_line.specs.Texts.{Text, is_dashed, is_name}
use Rattle.command_line.specs.declared.parts.Part.{Part}
use Rattle.command_line.specs.declared.parts.Part.TheVariants.{Positional, Option as OptionPart}

-- the positionals in their order, and the options with their values
pub record Parts : Type 0 where
  pub positionals : List Text
  pub options : List (Text × Text)

abbrev pub nothing : Parts
nothing = record { positionals = []; options = [] }

abbrev pub with_positional : Text → Parts → Parts
with_positional word parts = record parts { positionals = word ∷ parts.positionals }

abbrev pub with_option : Text → Text → Parts → Parts
with_option name value parts = record parts { options = (name, value) ∷ parts.options }

-- A word that begins with a dash is an option's name, and the word behind it is its value, whatever it is; a missing one is empty.
-- Each other word is a positional. `Some name`: the name was read, and its value comes.
unfoldable pub parts_behind : Option Text → List Text → Parts
parts_behind None [] = nothing
parts_behind (Some name) [] = with_option name [] nothing
parts_behind None (word ∷ rest) = if is_dashed word then parts_behind (Some word) rest else with_positional word (parts_behind None rest)
parts_behind (Some name) (value ∷ rest) = with_option name value (parts_behind None rest)

-- the words taken apart
abbrev pub parts : List Text → Parts
parts words = parts_behind None words

-- the bytes of words
abbrev pub texts_of : List (String Global) → List Text
texts_of words = map string_bytes words

abbrev pub parts_of : List (String Global) → Parts
parts_of words = parts (texts_of words)

-- the parts with one more at their front
abbrev pub with_part : Part → Parts → Parts
with_part (Positional word) parts = with_positional word.now parts
with_part (OptionPart name value) parts = with_option name.now value.now parts

-- the words begin with this part, and the rest stands behind it
pub record StartsWith (words : List (String Global)) (part : Part) (rest : List (String Global)) : Type 0 where
  pub parts : parts_of words ≡ with_part part (parts_of rest)
  pub shorter : length rest < length words

-- so many positionals, each of them a name
abbrev pub are_positionals : ℕ → List Text → Bool
are_positionals count words = length words == count && list_all is_name words
