-- clap's walk over words that are pieces.
use Rattle.clap.specs.Walk.{Row, Text, option as awaited}
use Rattle.command_line.proofs.Terms.{Bool, List, None, Option, Some, [], ap, append-nil, append_assoc, cond, false, fold, map, min, nat_eq, refl, sym, true, ℕ, ◌++◌, ◌+◌, ◌||◌, ◌∙◌, ◌∷◌, ◌≡◌, and_from, and_right, bytes_eq-Decides, bytes_eq, CommandLine, short_of, usize_max, Shape, settle_passes, turn_passes, walk_passes, Held, Rule, Walk, at_row, has_row, idle, more_values, settled_rows, walked, is_dashed}
use Rattle.command_line.proofs.Pieces.{Apart, Fit, IsKnown, IsOption, IsPlace, NoneIn, Piece, id_of, made, name, option, text_of, words_of}

pub same_text : (t : Text) → bytes_eq t t ≡ true
same_text t = (bytes_eq-Decides t t).1 refl

-- ---- rows

pub at_missing : (id : Text) (change : Row → List Row) (missing rows : List Row) → has_row id rows ≡ false → at_row id change missing rows ≡ rows ++ missing
at_missing id change missing [] none = refl
at_missing id change missing (r ∷ rs) none = go (bytes_eq r.id id) (λ e. at_missing id change missing rs e) none
  where
    go : (b : Bool) → (has_row id rs ≡ false → at_row id change missing rs ≡ rs ++ missing) → (b || has_row id rs) ≡ false
        → cond b (change r ++ rs) (r ∷ at_row id change missing rs) ≡ r ∷ (rs ++ missing)
    go true more e = cc
    go false more e = ap (λ xs. r ∷ xs) (more e)

has_row-append : (id : Text) (rows : List Row) (r : Row) → has_row id rows ≡ false → has_row id (r ∷ []) ≡ false → has_row id (rows ++ r ∷ []) ≡ false
has_row-append id [] r none other = other
has_row-append id (x ∷ xs) r none other = go (bytes_eq x.id id) (λ e. has_row-append id xs r e other) none
  where
    go : (b : Bool) → (has_row id xs ≡ false → has_row id (xs ++ r ∷ []) ≡ false) → (b || has_row id xs) ≡ false → (b || has_row id (xs ++ r ∷ [])) ≡ false
    go true more e = e
    go false more e = more e

none_in-append : (rows : List Row) (r : Row) (ps : List Piece) → NoneIn rows ps → NoneIn (r ∷ []) ps → NoneIn (rows ++ r ∷ []) ps
none_in-append rows r [] a b = tt
none_in-append rows r (p ∷ ps) a b = (has_row-append (id_of p) rows r a.0 b.0, none_in-append rows r ps a.1 b.1)

-- ---- what is held between two pieces

abbrev pub pending : Option Piece → Option (Text × List Text)
pending None = None
pending (Some p) = Some (id_of p, text_of p ∷ [])

abbrev pub between : List Row → Option Piece → ℕ → Walk
between rows last place =
    record { held = record { rows = rows; pending = pending last; skip = 0 }; waiting = idle; position = place; is_trailing = false; stopped = None }

abbrev awaiting : List Row → Text → ℕ → Walk
awaiting rows id place =
    record { held = record { rows = rows; pending = Some (id, []); skip = 0 }; waiting = awaited id; position = place; is_trailing = false; stopped = None }

abbrev pub rows_with : List Row → Option Piece → List Row
rows_with rows None = rows
rows_with rows (Some p) = rows ++ made p ∷ []

abbrev pub IsPending : List Rule → List Row → Option Piece → Type 0
IsPending c rows None = Unit {0}
IsPending c rows (Some p) = IsKnown c (id_of p) × (has_row (id_of p) rows ≡ false)

settle_rows : (c : List Rule) (rows : List Row) (last : Option Piece) → IsPending c rows last → settled_rows c (pending last) rows ≡ rows_with rows last
settle_rows c rows None known = refl
settle_rows c rows (Some p) known =
    rw (known.0.by_id, at_missing (id_of p) (λ _. []) [] rows known.1, append-nil rows)
    (at_missing (id_of p) (more_values CommandLine (text_of p ∷ [])) (made p ∷ []) rows known.1)

settle_ok : (c : List Rule) (again : Bool) (rows : List Row) (last : Option Piece) → IsPending c rows last
    → settle_passes c again (record { rows = rows; pending = pending last; skip = 0 }) ≡ true
settle_ok c again rows None known = refl
settle_ok c again rows (Some p) known = rw (known.0.by_id, known.1) refl

-- a word with no dash at its front is no bundle of short options
short_none : (x : ℕ) (xs : Text) → nat_eq x 45 ≡ false → short_of (x ∷ xs) ≡ None
short_none x xs plain = rw plain refl

-- ---- steps

module _ (s : Shape) where
  abbrev step : Walk → Text → Walk
  step = walked s.rules []

  abbrev passes : Walk → Text → Bool
  passes = turn_passes s []

  -- what holds of a step from one place in the walk to the next
  pub record Steps (w : Walk) (word : Text) (next : Walk) : Type 0 where
    pub comes : walked s.rules [] w word ≡ next
    pub passes : turn_passes s [] w word ≡ true

  name_step : (rows : List Row) (last : Option Piece) (place : ℕ) (id word : Text) → IsPlace s.rules place id → is_dashed word ≡ false → IsPending s.rules rows last
      → Steps (between rows last place) word (between (settled_rows s.rules (pending last) rows) (Some (name id word)) (min (place + 1) usize_max))
  unfolding walked
  name_step rows None place id [] at plain known = record {
    comes = rw at.by_index refl;
    passes = rw at.by_index refl;
  }
  name_step rows None place id (x ∷ xs) at plain known = record {
    comes = rw (plain, short_none x xs plain, at.by_index) refl;
    passes = rw (plain, short_none x xs plain, at.by_index) refl;
  }
  name_step rows (Some p) place id [] at plain known = record {
    comes = rw (at.by_index, and_right (bytes_eq (id_of p) id) false refl) refl;
    passes = rw (at.by_index, and_right (bytes_eq (id_of p) id) false refl) (settle_ok s.rules s.args_override_self rows (Some p) known);
  }
  name_step rows (Some p) place id (x ∷ xs) at plain known = record {
    comes = rw (plain, short_none x xs plain, at.by_index, and_right (bytes_eq (id_of p) id) false refl) refl;
    passes = rw (plain, short_none x xs plain, at.by_index, and_right (bytes_eq (id_of p) id) false refl) (settle_ok s.rules s.args_override_self rows (Some p) known);
  }

  option_step : (rows : List Row) (last : Option Piece) (place : ℕ) (id : Text) → IsOption s.rules id → IsPending s.rules rows last
      → Steps (between rows last place) (45 ∷ 45 ∷ id) (awaiting (settled_rows s.rules (pending last) rows) id place)
  unfolding walked
  option_step rows last place id at known = record {
    comes = rw (at.some, at.long, at.by_long) refl;
    passes = rw (at.some, at.long, at.by_long) (and_from _ true (settle_ok s.rules s.args_override_self rows last known) refl);
  }

  value_step : (rows : List Row) (place : ℕ) (id word : Text) → IsOption s.rules id → is_dashed word ≡ false
      → Steps (awaiting rows id place) word (between rows (Some (option id word)) place)
  unfolding walked
  value_step rows place id [] at plain = record {
    comes = rw (at.by_id, same_text id) refl;
    passes = refl;
  }
  value_step rows place id (x ∷ xs) at plain = record {
    comes = rw (plain, short_none x xs plain, at.by_id, same_text id) refl;
    passes = rw (plain, short_none x xs plain) refl;
  }

  -- ---- the whole walk

  abbrev pub walked_over : Walk → List Text → Held
  walked_over w words = (fold (walked s.rules []) w words).held

  -- the walk passes, and leaves these rows once what is pending is used
  pub record Ends (w : Walk) (words : List Text) (rows : List Row) : Type 0 where
    pub passes : walk_passes s [] w words ≡ true
    pub settles : settle_passes s.rules s.args_override_self (walked_over w words) ≡ true
    pub leaves : settled_rows s.rules (walked_over w words).pending (walked_over w words).rows ≡ rows

  one_more : (w next : Walk) (word : Text) (words : List Text) (rows : List Row) → Steps w word next → Ends next words rows → Ends w (word ∷ words) rows
  unfolding walk_passes
  one_more w next word words rows step rest = record {
    passes = and_from _ _ step.passes (ap (λ v. walk_passes s [] v words) step.comes ∙ rest.passes);
    settles = ap (λ v. settle_passes s.rules s.args_override_self (walked_over v words)) step.comes ∙ rest.settles;
    leaves = ap (λ v. settled_rows s.rules (walked_over v words).pending (walked_over v words).rows) step.comes ∙ rest.leaves;
  }

  pub over_pieces : (ps : List Piece) (rows : List Row) (last : Option Piece) (place : ℕ) → Fit s.rules place ps → IsPending s.rules rows last
      → NoneIn (rows_with rows last) ps → Apart ps → Ends (between rows last place) (words_of ps) (rows_with rows last ++ map made ps)
  unfolding walk_passes
  over_pieces [] rows last place fit known none apart = record {
    passes = refl;
    settles = settle_ok s.rules s.args_override_self rows last known;
    leaves = settle_rows s.rules rows last known ∙ sym (append-nil (rows_with rows last));
  }
  over_pieces (name id word ∷ ps) rows last place fit known none apart =
      let p = name id word in
      let settled = settle_rows s.rules rows last known in
      let next = between (rows_with rows last) (Some p) (min (place + 1) usize_max) in
      let step : Steps (between rows last place) word next =
      rw settled at (name_step rows last place id word fit.0 fit.1 known) in
      one_more _ next word (words_of ps) _ step
      (rw (sym (append_assoc (rows_with rows last) (made p ∷ []) (map made ps)))
      (over_pieces ps (rows_with rows last) (Some p) (min (place + 1) usize_max) fit.2
      (record { long = None; index = Some place; defaults = []; by_id = fit.0.by_id }, none.0)
      (none_in-append (rows_with rows last) (made p) ps none.1 apart.0) apart.1))
  over_pieces (option id value ∷ ps) rows last place fit known none apart =
      let p = option id value in
      let settled = settle_rows s.rules rows last known in
      let there = awaiting (rows_with rows last) id place in
      let step : Steps (between rows last place) (45 ∷ 45 ∷ id) there = rw settled at (option_step rows last place id fit.0 known) in
      one_more _ there (45 ∷ 45 ∷ id) _ _ step
      (one_more there (between (rows_with rows last) (Some p) place) value (words_of ps) _ (value_step (rows_with rows last) place id value fit.0 fit.1)
      (rw (sym (append_assoc (rows_with rows last) (made p ∷ []) (map made ps)))
      (over_pieces ps (rows_with rows last) (Some p) place fit.2
      (record { long = Some id; index = None; defaults = fit.0.defaults; by_id = fit.0.by_id }, none.0)
      (none_in-append (rows_with rows last) (made p) ps none.1 apart.0) apart.1)))
