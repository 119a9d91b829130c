-- clap takes the words that our own check takes, and reads their values.
use Rattle.std.proofs.Math.Nat.{le_refl}
use Rattle.clap.specs.Walk.{Row, Text}
use Rattle.clap.proofs.WalkLemmas.{first_value-rows}
use Rattle.clap.specs.Simple.{App, is_simple, matches_of}
use Rattle.clap.specs.Takes.{takes}
use Rattle.clap.proofs.TakesLemmas.{leaf_takes}
use Rattle.command_line.proofs.Terms.{List, None, Some, [], ap, ap₂, eqb-true, false, fold, is_some, length, map, refl, subst, sym, true, unwrap_or, ℕ, ◌+◌, ◌<◌, ◌||◌, ◌∙◌, ◌∷◌, ◌≡◌, and_from, and_parts, slice_get-get_or, unwrap_or-slice_get, list_all, slice_get, ArgMatches, first_value, found_of, argument_words, built, label_of, names_of, built_takes, default_passes, is_valid, level_passes, finished, first_of, nothing_held, rows_after, rows_of, walk, with_default, are_positionals, parts, CommandForm, are_options, given, has_option, has_required, value_of, fits, positional, EachName, EachRow, HasRead}
use Rattle.command_line.specs.Table.{Row as TableRow}
use Rattle.command_line.proofs.Cutting.{Cut, IsTaken, cut, no_such_option}
use Rattle.command_line.proofs.Finding.{NameAt, Shows, name_at_the_end, name_shown, option_at_the_end, option_shown}
use Rattle.command_line.proofs.Pieces.{NoneIn, Optional, Piece, Places, is_row, made}
use Rattle.command_line.proofs.Walking.{Ends, between, over_pieces}

-- a positional stands at this place, and no option has its name
abbrev pub Stands : List TableRow → List Text → ℕ → Text → Type 0
Stands rows names place name = NameAt name names place × (is_row name rows ≡ false) × (place < length names)

-- what clap's command a of a form is, and b, which it is once it is built; found by computing
pub record IsReadable (f : CommandForm) (a b : App) : Type 0 where
  pub built_is : built a ≡ b
  pub simple : is_simple a ≡ true
  pub no_subs : b.subs ≡ []
  pub all_words : a.top.no_binary_name ≡ true
  pub places : Places b.top.rules f.options 1 f.positionals
  pub options : EachRow (Optional b.top.rules f.positionals) f.options
  pub names : EachName (Stands f.options f.positionals) 0 f.positionals
  pub defaults : list_all default_passes b.top.rules ≡ true
  pub valid : (rows : List Row) → is_valid b.top rows false ≡ true

get_within : (xs : List Text) (k : ℕ) → k < length xs → slice_get xs k ≡ Some (unwrap_or (slice_get xs k) [])
get_within xs k lt = slice_get-get_or xs k [] lt ∙ sym (ap Some (unwrap_or-slice_get xs k []))

each_other : (P Q : TableRow → Type 0) → ((row : TableRow) → P row → Q row) → (rows : List TableRow) → EachRow P rows → EachRow Q rows
each_other P Q f [] each = tt
each_other P Q f (row ∷ rows) each = (f row each.0, each_other P Q f rows each.1)

each_named : (P Q : ℕ → Text → Type 0) → ((place : ℕ) (name : Text) → P place name → Q place name) → (place : ℕ) (names : List Text) → EachName P place names → EachName Q place names
each_named P Q f place [] each = tt
each_named P Q f place (name ∷ names) each = (f place name each.0, each_named P Q f (place + 1) names each.1)

none_in_nothing : (ps : List Piece) → NoneIn [] ps
none_in_nothing [] = tt
none_in_nothing (p ∷ ps) = (refl, none_in_nothing ps)

module _ (f : CommandForm) (a b : App) (words : List Text) (readable : IsReadable f a b) (taken : fits f (parts words) ≡ true) where
  checked : IsTaken f.options f.positionals (parts words)
  checked =
      let names = and_parts (are_positionals (length f.positionals) (parts words).positionals) _ taken in
      (names.0, (and_parts (are_options f.options (parts words).options) _ names.1).0)

  complete : has_required f.options (parts words).options ≡ true
  complete =
      let names = and_parts (are_positionals (length f.positionals) (parts words).positionals) _ taken in
      (and_parts (are_options f.options (parts words).options) _ names.1).1

  pub whole : Cut b.top.rules f.options 1 f.positionals words
  whole = cut (length words) b.top.rules f.options 1 f.positionals words (le_refl (length words)) readable.places readable.options checked

  ends : Ends b.top (between [] None 1) words (map made whole.pieces)
  ends =
      subst (λ ws. Ends b.top (between [] None 1) ws (map made whole.pieces)) whole.words_are
      (over_pieces b.top whole.pieces [] None 1 whole.fit tt (none_in_nothing whole.pieces) whole.apart)

  all_words : argument_words a words ≡ words
  all_words = rw readable.all_words refl

  level : level_passes b.top [] nothing_held words false ≡ true
  level = and_from _ _ ends.passes (and_from _ _ ends.settles (and_from _ _ readable.defaults (readable.valid (finished b.top.rules (walk b.top.rules [] nothing_held words).held))))

  pub clap_takes : takes a words ≡ true
  clap_takes =
      and_from _ _ readable.simple
      (ap₂ (λ x ws. built_takes x nothing_held ws) readable.built_is all_words ∙ leaf_takes b nothing_held words readable.no_subs level)

  pub rows_are : matches_of a words ≡ fold with_default (map made whole.pieces) b.top.rules
  rows_are =
      ap₂ (λ (x : App) ws. rows_after x.top.rules (names_of x) ws) readable.built_is all_words
      ∙ ap (λ subs. rows_after b.top.rules (map label_of subs) words) readable.no_subs
      ∙ ap (λ rows. fold with_default rows b.top.rules) ends.leaves

  -- ---- what the rows say of each option and of each positional

  options_from : (rows : List TableRow) → EachRow (Optional b.top.rules f.positionals) rows → has_required rows (parts words).options ≡ true
      → EachRow (λ row. first_of row.name (matches_of a words) ≡ Some (value_of row (parts words).options)) rows
  options_from [] each all = tt
  options_from (row ∷ rows) each all =
      let now = and_parts (is_some row.default || is_some (given row (parts words).options)) _ all in
      let there : Shows row.name (given row (parts words).options) (map made whole.pieces) =
      subst (λ os. Shows row.name (given row os) (map made whole.pieces)) whole.options
      (option_shown row f.positionals whole.pieces whole.listed each.0.1) in (
        ap (first_of row.name) rows_are ∙ option_at_the_end row (given row (parts words).options) _ b.top.rules there each.0.2 now.0,
        options_from rows each.1 now.1,
      )

  options_read : EachRow (λ row. first_of row.name (matches_of a words) ≡ Some (value_of row (parts words).options)) f.options
  options_read = options_from f.options readable.options complete

  name_read : (k : ℕ) (n : Text) → NameAt n f.positionals k → is_row n f.options ≡ false → k < length f.positionals
      → first_of n (matches_of a words) ≡ Some (positional k (parts words))
  name_read k n at apart within =
      let names = and_parts (are_positionals (length f.positionals) (parts words).positionals) _ taken in
      let count : length (parts words).positionals ≡ length f.positionals = eqb-true _ _ (and_parts _ _ names.0).0 in
      let there = get_within (parts words).positionals k (rw count within) in
      ap (first_of n) rows_are
      ∙ name_at_the_end n (positional k (parts words)) _ b.top.rules
      (name_shown n k f.positionals whole.pieces (positional k (parts words)) whole.listed at
      (ap (has_option (45 ∷ 45 ∷ n)) whole.options ∙ no_such_option n f.options (parts words).options apart checked.1)
      (ap (λ xs. slice_get xs k) whole.names ∙ there))

  -- ---- the same of clap's matches

  module _ (m : ArgMatches) (rows : rows_of (found_of m) ≡ matches_of a words) where
    options_value : EachRow (λ row. first_value (found_of m) row.name ≡ Some (value_of row (parts words).options)) f.options
    options_value =
        each_other (λ row. first_of row.name (matches_of a words) ≡ Some (value_of row (parts words).options))
        (λ row. first_value (found_of m) row.name ≡ Some (value_of row (parts words).options))
        (λ row read. first_value-rows (found_of m) row.name ∙ ap (first_of row.name) rows ∙ read) f.options options_read

    name_value : (k : ℕ) (n : Text) → NameAt n f.positionals k → is_row n f.options ≡ false → k < length f.positionals
        → first_value (found_of m) n ≡ Some (positional k (parts words))
    name_value k n at apart within = first_value-rows (found_of m) n ∙ ap (first_of n) rows ∙ name_read k n at apart within

    pub has_read : HasRead f (parts words) m
    has_read = record {
      names =
          each_named (Stands f.options f.positionals) (λ place name. first_value (found_of m) name ≡ Some (positional place (parts words)))
          (λ place name stands. name_value place name stands.0 stands.1 stands.2) 0 f.positionals readable.names;
      options = options_value;
    }
