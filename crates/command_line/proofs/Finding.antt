-- What clap's rows say behind a walk over pieces: the value of each, or its default.
use Rattle.clap.specs.Walk.{Row, Text}
use Rattle.command_line.proofs.Terms.{Bool, List, None, Option, Some, [], ap, cond, false, fold, inl, inr, is_some, map, refl, suc, sym, true, true≢false, unwrap_or, zero, ℕ, ◌++◌, ◌||◌, ◌∙◌, ◌∷◌, ◌≡◌, ◌⊎◌, or_parts, find, option_map, slice_get, bytes_eq, DefaultValue, Rule, arg_by_id, first_of, has_row, more_values, reading_by, with_default, given, has_option, is_for, defaults_of}
use Rattle.command_line.specs.Table.{Row as TableRow}
use Rattle.command_line.proofs.Cutting.{swapped_text}
use Rattle.command_line.proofs.Pieces.{Listed, Piece, is_among, made, name, names_in, option, options_in, plain_rule}
use Rattle.command_line.proofs.Walking.{at_missing, same_text}

-- the row of an id
abbrev pub row_at : Text → List Row → Option Row
row_at id rows = find (λ r. bytes_eq r.id id) rows

-- the rows have this one value under the id, or none
abbrev pub Shows : Text → Option Text → List Row → Type 0
Shows id None rows = row_at id rows ≡ None
Shows id (Some value) rows = (r : Row) × (row_at id rows ≡ Some r) × (r.values ≡ value ∷ [])

shows_past : (id : Text) (r : Row) (rows : List Row) (o : Option Text) → bytes_eq r.id id ≡ false → Shows id o rows → Shows id o (r ∷ rows)
shows_past id r rows None miss s = rw miss s
shows_past id r rows (Some value) miss s = (s.0, rw miss s.1, s.2)

-- ---- the rows of pieces

here : (row : TableRow) (id value : Text) (ps : List Piece) → Shows row.name (given row (options_in ps)) (map made ps)
    → Shows row.name (given row (options_in (option id value ∷ ps))) (map made (option id value ∷ ps))
here row id value ps rest =
    elim (bytes_eq id row.name) as (λ b. bytes_eq id row.name ≡ b
    → Shows row.name (option_map (λ (o : Text × Text). o.1) (cond b (Some (45 ∷ 45 ∷ id, value)) (find (λ (o : Text × Text). is_for row o.0) (options_in ps)))) (map made (option id value ∷ ps))) [
      | true ↦ λ e. (made (option id value), rw e refl, refl)
      | false ↦ λ e. shows_past row.name (made (option id value)) (map made ps) (given row (options_in ps)) e rest
    ] refl

pub option_shown : (row : TableRow) (ns : List Text) (ps : List Piece) → Listed ns ps → is_among row.name ns ≡ false → Shows row.name (given row (options_in ps)) (map made ps)
option_shown row ns [] listed other = refl
option_shown row [] (name id word ∷ ps) listed other = absurd listed
option_shown row (n ∷ ns) (name id word ∷ ps) listed other =
    let apart = or_parts (bytes_eq row.name n) _ other in
    let miss : bytes_eq id row.name ≡ false = swapped_text id row.name ∙ ap (bytes_eq row.name) listed.0 ∙ apart.0 in
    shows_past row.name (made (name id word)) (map made ps) (given row (options_in ps)) miss (option_shown row ns ps listed.1 apart.1)
option_shown row [] (option id value ∷ ps) listed other = here row id value ps (option_shown row [] ps listed other)
option_shown row (n ∷ ns) (option id value ∷ ps) listed other = here row id value ps (option_shown row (n ∷ ns) ps listed other)

-- the name stands at this place among the names, and nowhere before
abbrev pub NameAt : Text → List Text → ℕ → Type 0
NameAt n [] k = ⊥
NameAt n (m ∷ ns) zero = m ≡ n
NameAt n (m ∷ ns) (suc k) = (bytes_eq m n ≡ false) × NameAt n ns k

pub name_shown : (n : Text) (k : ℕ) (ns : List Text) (ps : List Piece) (word : Text) → Listed ns ps → NameAt n ns k → has_option (45 ∷ 45 ∷ n) (options_in ps) ≡ false
    → slice_get (names_in ps) k ≡ Some word → Shows n (Some word) (map made ps)
name_shown n k ns [] word listed at other is = absurd (let no_such : None ≡ Some word = is in cc)
name_shown n k [] (name id w ∷ ps) word listed at other is = absurd listed
name_shown n zero (m ∷ ns) (name id w ∷ ps) word listed at other is =
    let same : bytes_eq id n ≡ true = ap (λ t. bytes_eq t n) (listed.0 ∙ at) ∙ same_text n in
    let text : w ≡ word = cc in
    (made (name id w), rw same refl, ap (λ (t : Text). t ∷ []) text)
name_shown n (suc k) (m ∷ ns) (name id w ∷ ps) word listed at other is =
    let miss : bytes_eq id n ≡ false = ap (λ t. bytes_eq t n) listed.0 ∙ at.0 in
    shows_past n (made (name id w)) (map made ps) (Some word) miss (name_shown n k ns ps word listed.1 at.1 other is)
name_shown n k [] (option id value ∷ ps) word listed at other is = absurd at
name_shown n k (m ∷ ns) (option id value ∷ ps) word listed at other is =
    let apart = or_parts (bytes_eq id n) _ other in
    shows_past n (made (option id value)) (map made ps) (Some word) apart.0 (name_shown n k (m ∷ ns) ps word listed at apart.1 is)

-- ---- defaults

at_end : (id : Text) (rows : List Row) (last r : Row) → row_at id rows ≡ Some r → row_at id (rows ++ last ∷ []) ≡ Some r
at_end id [] last r is = absurd (let no_such : None ≡ Some r = is in cc)
at_end id (x ∷ xs) last r is = go (bytes_eq x.id id) (λ e. at_end id xs last r e) is
  where
    go : (b : Bool) → (row_at id xs ≡ Some r → row_at id (xs ++ last ∷ []) ≡ Some r) → cond b (Some x) (row_at id xs) ≡ Some r
        → cond b (Some x) (row_at id (xs ++ last ∷ [])) ≡ Some r
    go true more e = e
    go false more e = more e

missed_end : (id : Text) (rows : List Row) (last : Row) → row_at id rows ≡ None → row_at id (rows ++ last ∷ []) ≡ row_at id (last ∷ [])
missed_end id [] last is = refl
missed_end id (x ∷ xs) last is = go (bytes_eq x.id id) (λ e. missed_end id xs last e) is
  where
    go : (b : Bool) → (row_at id xs ≡ None → row_at id (xs ++ last ∷ []) ≡ row_at id (last ∷ [])) → cond b (Some x) (row_at id xs) ≡ None
        → cond b (Some x) (row_at id (xs ++ last ∷ [])) ≡ row_at id (last ∷ [])
    go true more e = absurd (let no_such : Some x ≡ None = e in cc)
    go false more e = more e

no_row : (id : Text) (rows : List Row) → row_at id rows ≡ None → has_row id rows ≡ false
no_row id [] is = refl
no_row id (x ∷ xs) is = go (bytes_eq x.id id) (λ e. no_row id xs e) is
  where
    go : (b : Bool) → (row_at id xs ≡ None → has_row id xs ≡ false) → cond b (Some x) (row_at id xs) ≡ None → (b || has_row id xs) ≡ false
    go true more e = absurd (let no_such : Some x ≡ None = e in cc)
    go false more e = more e

abbrev default_row : Rule → Text → List Text → Row
default_row a v vs = record { id = a.id; values = v ∷ vs; count = None; source = Some DefaultValue; reading = reading_by a }

-- an argument leaves the rows as they are, or adds one of its own at the end
abbrev Adds : Rule → List Row → List Row → Type 0
Adds a rows new = ((new ≡ rows) × ((has_row a.id rows ≡ true) ⊎ (a.defaults ≡ [])))
    ⊎ ((v : Text) × (vs : List Text) × (a.defaults ≡ v ∷ vs) × (new ≡ rows ++ default_row a v vs ∷ []))

adds : (a : Rule) (rows : List Row) → Adds a rows (with_default rows a)
adds a rows =
    elim (has_row a.id rows) as (λ b. has_row a.id rows ≡ b → Adds a rows (cond b rows (Rattle.clap.specs.Walk.default_rows a.id (reading_by a) a.defaults rows))) [
      | true ↦ λ e. inl (refl, inl e)
      | false ↦ λ e. elim a.defaults as (λ ds. a.defaults ≡ ds → Adds a rows (Rattle.clap.specs.Walk.default_rows a.id (reading_by a) ds rows)) [
        | [] ↦ λ none. inl (refl, inr none)
        | v ∷ vs ↦ λ some. inr (v, vs, some, at_missing a.id (more_values DefaultValue (v ∷ vs)) (default_row a v vs ∷ []) rows e)
      ] refl
    ] refl

keeps : (a : Rule) (id : Text) (rows : List Row) (r : Row) → row_at id rows ≡ Some r → row_at id (with_default rows a) ≡ Some r
keeps a id rows r is =
    elim (adds a rows) [
      | inl same ↦ ap (row_at id) same.0 ∙ is
      | inr more ↦ ap (row_at id) more.3 ∙ at_end id rows (default_row a more.0 more.1) r is
    ]

still_none : (a : Rule) (id : Text) (rows : List Row) → row_at id rows ≡ None → bytes_eq a.id id ≡ false → row_at id (with_default rows a) ≡ None
still_none a id rows none miss =
    elim (adds a rows) [
      | inl same ↦ ap (row_at id) same.0 ∙ none
      | inr more ↦ ap (row_at id) more.3 ∙ missed_end id rows (default_row a more.0 more.1) none ∙ rw miss refl
    ]

-- what is shown stays to the end
pub kept_to_the_end : (id : Text) (rows : List Row) (c : List Rule) (r : Row) → row_at id rows ≡ Some r → row_at id (fold with_default rows c) ≡ Some r
kept_to_the_end id rows [] r is = is
kept_to_the_end id rows (a ∷ c) r is = kept_to_the_end id (with_default rows a) c r (keeps a id rows r is)

-- an id that has no row gets that of its argument's default
pub default_at_the_end : (id : Text) (rows : List Row) (c : List Rule) (long : Option Text) (index : Option ℕ) (d : Text) → row_at id rows ≡ None
    → arg_by_id c id ≡ Some (plain_rule id long index (d ∷ [])) → Shows id (Some d) (fold with_default rows c)
default_at_the_end id rows [] long index d none is = absurd (let no_such : None ≡ Some (plain_rule id long index (d ∷ [])) = is in cc)
default_at_the_end id rows (a ∷ c) long index d none is =
    elim (bytes_eq a.id id) as (λ b. bytes_eq a.id id ≡ b → cond b (Some a) (arg_by_id c id) ≡ Some (plain_rule id long index (d ∷ [])) → Shows id (Some d) (fold with_default (with_default rows a) c)) [
      | true ↦ λ e here.
          let it : a ≡ plain_rule id long index (d ∷ []) = cc in
          let added : with_default rows a ≡ rows ++ default_row (plain_rule id long index (d ∷ [])) d [] ∷ [] =
          ap (with_default rows) it ∙ rw (no_row id rows none) (at_missing id (more_values DefaultValue (d ∷ [])) (default_row (plain_rule id long index (d ∷ [])) d [] ∷ []) rows (no_row id rows none)) in
          let found : row_at id (with_default rows a) ≡ Some (default_row (plain_rule id long index (d ∷ [])) d []) =
          ap (row_at id) added ∙ missed_end id rows (default_row (plain_rule id long index (d ∷ [])) d []) none ∙ rw (same_text id) refl in
          (default_row (plain_rule id long index (d ∷ [])) d [], kept_to_the_end id (with_default rows a) c _ found, refl)
      | false ↦ λ e there. default_at_the_end id (with_default rows a) c long index d (still_none a id rows none e) there
    ] refl is

first_shown : (id value : Text) (rows : List Row) → Shows id (Some value) rows → first_of id rows ≡ Some value
first_shown id value rows s = rw (s.1, s.2) refl

to_the_end : (id value : Text) (rows : List Row) (c : List Rule) → Shows id (Some value) rows → Shows id (Some value) (fold with_default rows c)
to_the_end id value rows c s = (s.0, kept_to_the_end id rows c s.0 s.1, s.2)

-- the value of an option behind the walk
pub option_at_the_end : (row : TableRow) (o : Option Text) (rows : List Row) (c : List Rule) → Shows row.name o rows
    → arg_by_id c row.name ≡ Some (plain_rule row.name (Some row.name) None (defaults_of row)) → (is_some row.default || is_some o) ≡ true
    → first_of row.name (fold with_default rows c) ≡ Some (unwrap_or o (unwrap_or row.default []))
option_at_the_end row (Some value) rows c s known some = first_shown row.name value _ (to_the_end row.name value rows c s)
option_at_the_end row None rows c s known some =
    elim row.default as (λ d. row.default ≡ d → (is_some d || false) ≡ true → first_of row.name (fold with_default rows c) ≡ Some (unwrap_or d [])) [
      | None ↦ λ is none. absurd (true≢false (sym none))
      | Some d ↦ λ is none. first_shown row.name d _ (default_at_the_end row.name rows c (Some row.name) None d s (rw is at known))
    ] refl some

pub name_at_the_end : (n word : Text) (rows : List Row) (c : List Rule) → Shows n (Some word) rows → first_of n (fold with_default rows c) ≡ Some word
name_at_the_end n word rows c s = first_shown n word _ (to_the_end n word rows c s)
