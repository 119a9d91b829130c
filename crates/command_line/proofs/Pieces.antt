-- The words as pieces: names, and options with their values; and what clap's rules have to say of them.
use Rattle.clap.specs.Walk.{Row, Text}
use Rattle.clap.specs.declared.builder.action.ArgAction.TheVariants.{Set}
use Rattle.clap.specs.declared.builder.value_parser.ValueParser.TheVariants.{String}
use Rattle.clap.specs.declared.builder.value_parser.Reading.TheVariants.{AsWritten}
use Rattle.command_line.proofs.Terms.{Bool, List, None, Option, Some, [], false, min, true, ℕ, ◌+◌, ◌∷◌, ◌≡◌, list_any, bytes_eq, CommandLine, long_of_rest, usize_max, Rule, arg_by_id, arg_by_index, arg_by_long, has_row, is_dashed, defaults_of}
use Rattle.command_line.specs.Table.{Row as TableRow}

-- a name under the id of its positional, or an option's name without dashes and its value
pub data Piece : Type 0 where
  name : Text → Text → Piece
  option : Text → Text → Piece

abbrev pub id_of : Piece → Text
id_of (name id word) = id
id_of (option id value) = id

abbrev pub text_of : Piece → Text
text_of (name id word) = word
text_of (option id value) = value

abbrev pub words_of : List Piece → List Text
words_of [] = []
words_of (name id word ∷ ps) = word ∷ words_of ps
words_of (option id value ∷ ps) = (45 ∷ 45 ∷ id) ∷ value ∷ words_of ps

abbrev pub names_in : List Piece → List Text
names_in [] = []
names_in (name id word ∷ ps) = word ∷ names_in ps
names_in (option id value ∷ ps) = names_in ps

abbrev pub options_in : List Piece → List (Text × Text)
options_in [] = []
options_in (name id word ∷ ps) = options_in ps
options_in (option id value ∷ ps) = (45 ∷ 45 ∷ id, value) ∷ options_in ps

-- clap's rule of an argument that takes one text
abbrev pub plain_rule : Text → Option Text → Option ℕ → List Text → Rule
plain_rule id long index defaults = record {
  id = id;
  long = long;
  aliases = [];
  short = None;
  short_aliases = [];
  index = index;
  action = Some Set;
  range = Some (record { start_inclusive = 1; end_inclusive = 1 });
  value_names = 0;
  defaults = defaults;
  missing = [];
  trailing_var_arg = false;
  parser = Some String;
  ignore_case = false;
  required = false;
  is_simple = true;
  is_free = true;
}

-- the row that clap keeps of a piece
abbrev pub made : Piece → Row
made p = record { id = id_of p; values = text_of p ∷ []; count = None; source = Some CommandLine; reading = AsWritten }

-- clap's rules know the id
pub record IsKnown (c : List Rule) (id : Text) : Type 0 where
  pub long : Option Text
  pub index : Option ℕ
  pub defaults : List Text
  pub by_id : arg_by_id c id ≡ Some (plain_rule id long index defaults)

-- the id is that of the positional at this place
pub record IsPlace (c : List Rule) (place : ℕ) (id : Text) : Type 0 where
  pub by_index : arg_by_index c place ≡ Some (plain_rule id None (Some place) [])
  pub by_id : arg_by_id c id ≡ Some (plain_rule id None (Some place) [])

-- the id is that of an option
pub record IsOption (c : List Rule) (id : Text) : Type 0 where
  pub defaults : List Text
  pub by_long : arg_by_long c id ≡ Some (plain_rule id (Some id) None defaults)
  pub by_id : arg_by_id c id ≡ Some (plain_rule id (Some id) None defaults)
  pub some : bytes_eq id [] ≡ false
  pub long : long_of_rest id ≡ Some (id, None)

-- the pieces are those that the rules know, the names from this place on
abbrev pub Fit : List Rule → ℕ → List Piece → Type 0
Fit c place [] = Unit {0}
Fit c place (name id word ∷ ps) = IsPlace c place id × (is_dashed word ≡ false) × Fit c (min (place + 1) usize_max) ps
Fit c place (option id value ∷ ps) = IsOption c id × (is_dashed value ≡ false) × Fit c place ps

-- no row has the id of one of these
abbrev pub NoneIn : List Row → List Piece → Type 0
NoneIn rows [] = Unit {0}
NoneIn rows (p ∷ ps) = (has_row (id_of p) rows ≡ false) × NoneIn rows ps

-- no two of these have one id
abbrev pub Apart : List Piece → Type 0
Apart [] = Unit {0}
Apart (p ∷ ps) = NoneIn (made p ∷ []) ps × Apart ps

-- ---- what the table has to say of clap's rules

-- the text is none of these
abbrev pub is_among : Text → List Text → Bool
is_among text texts = list_any (λ t. bytes_eq text t) texts

abbrev pub is_row : Text → List TableRow → Bool
is_row text rows = list_any (λ r. bytes_eq r.name text) rows

-- the positionals have their places from this one on, and no two of them, and no row, have one name
abbrev pub Places : List Rule → List TableRow → ℕ → List Text → Type 0
Places c rows place [] = Unit {0}
Places c rows place (n ∷ ns) = IsPlace c place n × (is_among n ns ≡ false) × (is_row n rows ≡ false) × Places c rows (min (place + 1) usize_max) ns

-- the row is one of clap's options, and its name is that of no positional
abbrev pub Optional : List Rule → List Text → TableRow → Type 0
Optional c ns r = IsOption c r.name × (is_among r.name ns ≡ false)
    × (arg_by_id c r.name ≡ Some (plain_rule r.name (Some r.name) None (defaults_of r)))

-- the names of the pieces stand under the ids of these positionals
abbrev pub Listed : List Text → List Piece → Type 0
Listed ns [] = Unit {0}
Listed [] (name id word ∷ ps) = ⊥
Listed (n ∷ ns) (name id word ∷ ps) = (id ≡ n) × Listed ns ps
Listed [] (option id value ∷ ps) = Listed [] ps
Listed (n ∷ ns) (option id value ∷ ps) = Listed (n ∷ ns) ps
