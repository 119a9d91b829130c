-- Words that our own check takes are pieces that clap's rules know.
use Rattle.clap.specs.Walk.{Text}
use Rattle.command_line.proofs.Terms.{Bool, List, [], ap, ap₂, arith, eq-eqb, eqb-true, false, length, min, nat_eq, not, refl, subst, suc, sym, true, true≢false, zero, ℕ, ◌&&◌, ◌+◌, ◌||◌, ◌∙◌, ◌∷◌, ◌≡◌, ◌≤◌, and_parts, not-true, or_from, or_parts, Decides-like, same_from_decides, bytes_eq-Decides, list_any, bytes_eq, usize_max, Rule, is_dashed, is_name, Parts, are_positionals, parts, Options, are_options, has_option, is_for, is_taken, takes_of, EachRow}
use Rattle.command_line.specs.Table.{Row as TableRow}
use Rattle.command_line.proofs.Taking.{no_words, option_with, option_without, plain_word}
use Rattle.command_line.proofs.Pieces.{Apart, Fit, Listed, NoneIn, Optional, Piece, Places, id_of, is_among, is_row, made, name, names_in, option, options_in, words_of}

-- ---- texts

pub equal_text : (a b : Text) → bytes_eq a b ≡ true → a ≡ b
equal_text a b e = (bytes_eq-Decides a b).0 e

pub swapped_text : (a b : Text) → bytes_eq a b ≡ bytes_eq b a
swapped_text a b = same_from_decides (bytes_eq a b) (bytes_eq b a) (bytes_eq-Decides a b) (Decides-like (bytes_eq b a) (λ e. sym e) (λ e. sym e) (bytes_eq-Decides b a))

-- ---- rows of the table

pub row_found : (P : TableRow → Type 0) (f : TableRow → Bool) (rows : List TableRow) → EachRow P rows → list_any f rows ≡ true → (r : TableRow) × (f r ≡ true) × P r
row_found P f [] each e = absurd (true≢false (sym e))
row_found P f (r ∷ rs) each e =
    elim (f r) as (λ b. f r ≡ b → (b || list_any f rs) ≡ true → (x : TableRow) × (f x ≡ true) × P x) [
      | true ↦ λ here more. (r, here, each.0)
      | false ↦ λ here more. row_found P f rs each.1 more
    ] refl e

pub each_of_none : (n : Text) (rows : List TableRow) → is_row n rows ≡ false → EachRow (λ r. bytes_eq r.name n ≡ false) rows
each_of_none n [] e = tt
each_of_none n (r ∷ rs) e = let parts = or_parts (bytes_eq r.name n) _ e in (parts.0, each_of_none n rs parts.1)

fewer_names : (c : List Rule) (n : Text) (ns : List Text) (rows : List TableRow) → EachRow (Optional c (n ∷ ns)) rows → EachRow (Optional c ns) rows
fewer_names c n ns [] each = tt
fewer_names c n ns (r ∷ rs) each = ((each.0.0, (or_parts (bytes_eq r.name n) _ each.0.1).1, each.0.2), fewer_names c n ns rs each.1)

-- no option that is taken has the name of none of the rows
pub no_such_option : (n : Text) (rows : List TableRow) (os : Options) → is_row n rows ≡ false → are_options rows os ≡ true → has_option (45 ∷ 45 ∷ n) os ≡ false
no_such_option n rows [] none taken = refl
no_such_option n rows (o ∷ os) none taken =
    let named = and_parts (is_name o.1) _ taken in
    let mine = and_parts (is_taken rows o.0 o.1) _ named.1 in
    let rest = and_parts (not (has_option o.0 os)) _ mine.1 in
    let found = row_found (λ r. bytes_eq r.name n ≡ false) (λ row. is_for row o.0 && takes_of row.takes o.1) rows (each_of_none n rows none) mine.0 in
    let word : o.0 ≡ 45 ∷ 45 ∷ found.0.name = equal_text o.0 _ (and_parts (is_for found.0 o.0) _ found.1).0 in
    let miss : bytes_eq o.0 (45 ∷ 45 ∷ n) ≡ false = rw word found.2 in
    rw (miss, no_such_option n rows os none rest.1) refl

-- ---- one id and many pieces

none_later : (p : Piece) (ns : List Text) (ps : List Piece) → Listed ns ps → is_among (id_of p) ns ≡ false → has_option (45 ∷ 45 ∷ id_of p) (options_in ps) ≡ false
    → NoneIn (made p ∷ []) ps
none_later p ns [] listed among has = tt
none_later p [] (name id word ∷ ps) listed among has = absurd listed
none_later p (n ∷ ns) (name id word ∷ ps) listed among has =
    let miss = or_parts (bytes_eq (id_of p) n) _ among in
    (or_from _ false (ap (bytes_eq (id_of p)) listed.0 ∙ miss.0) refl, none_later p ns ps listed.1 miss.1 has)
none_later p [] (option id value ∷ ps) listed among has =
    let miss = or_parts (bytes_eq id (id_of p)) _ has in
    (or_from _ false (swapped_text (id_of p) id ∙ miss.0) refl, none_later p [] ps listed among miss.1)
none_later p (n ∷ ns) (option id value ∷ ps) listed among has =
    let miss = or_parts (bytes_eq id (id_of p)) _ has in
    (or_from _ false (swapped_text (id_of p) id ∙ miss.0) refl, none_later p (n ∷ ns) ps listed among miss.1)

-- ---- the words cut into pieces

pub record Cut (c : List Rule) (rows : List TableRow) (place : ℕ) (ns : List Text) (words : List Text) : Type 0 where
  pub pieces : List Piece
  pub words_are : words_of pieces ≡ words
  pub names : names_in pieces ≡ (parts words).positionals
  pub options : options_in pieces ≡ (parts words).options
  pub fit : Fit c place pieces
  pub listed : Listed ns pieces
  pub apart : Apart pieces

abbrev pub IsTaken : List TableRow → List Text → Parts → Type 0
IsTaken rows ns p = (are_positionals (length ns) p.positionals ≡ true) × (are_options rows p.options ≡ true)

dashless : (value : Text) → is_name value ≡ true → is_dashed value ≡ false
dashless [] e = refl
dashless (x ∷ xs) e = not-true _ e

none_left : (n : ℕ) → nat_eq (suc n) 0 ≡ true → ⊥
none_left n e = let same = eqb-true (suc n) 0 e in omega arith

one_less : (m n : ℕ) → nat_eq (suc m) (suc n) ≡ true → nat_eq m n ≡ true
one_less m n e = let same = eqb-true (suc m) (suc n) e in eq-eqb m n (omega arith)

with_name : (c : List Rule) (rows : List TableRow) (place : ℕ) (ns : List Text) (w : Text) (ws : List Text) → is_dashed w ≡ false → Places c rows place ns
    → IsTaken rows ns (parts (w ∷ ws))
    → ((n : Text) (more : List Text) → ns ≡ n ∷ more → IsTaken rows more (parts ws) → Cut c rows (min (place + 1) usize_max) more ws) → Cut c rows place ns (w ∷ ws)
with_name c rows place [] w ws plain places taken cut =
    let t = subst (λ p. IsTaken rows [] p) (plain_word w ws plain) taken in
    absurd (none_left (length (parts ws).positionals) (and_parts (nat_eq (length (w ∷ (parts ws).positionals)) 0) _ t.0).0)
with_name c rows place (n ∷ ns) w ws plain places taken cut =
    let shape = plain_word w ws plain in
    let t = subst (λ p. IsTaken rows (n ∷ ns) p) shape taken in
    let count = and_parts (nat_eq (length (w ∷ (parts ws).positionals)) (length (n ∷ ns))) _ t.0 in
    let fewer = one_less (length (parts ws).positionals) (length ns) count.0 in
    let all = and_parts (is_name w) _ count.1 in
    let rest = cut n ns refl ((λ i. fewer i && all.1 i), t.1) in
    let ids = none_later (name n w) ns rest.pieces rest.listed places.1
    (ap (has_option (45 ∷ 45 ∷ n)) rest.options ∙ no_such_option n rows (parts ws).options places.2 t.1) in
    record {
      pieces = name n w ∷ rest.pieces;
      words_are = ap (λ (xs : List Text). w ∷ xs) rest.words_are;
      names = ap (λ (xs : List Text). w ∷ xs) rest.names ∙ sym (ap (λ (p : Parts). p.positionals) shape);
      options = rest.options ∙ sym (ap (λ (p : Parts). p.options) shape);
      fit = (places.0, plain, rest.fit);
      listed = (refl, rest.listed);
      apart = (ids, rest.apart);
    }

still_listed : (ns : List Text) (id value : Text) (ps : List Piece) → Listed ns ps → Listed ns (option id value ∷ ps)
still_listed [] id value ps listed = listed
still_listed (n ∷ ns) id value ps listed = listed

with_value : (c : List Rule) (rows : List TableRow) (place : ℕ) (ns : List Text) (w v : Text) (ws : List Text) → is_dashed w ≡ true → EachRow (Optional c ns) rows
    → IsTaken rows ns (parts (w ∷ v ∷ ws)) → (IsTaken rows ns (parts ws) → Cut c rows place ns ws) → Cut c rows place ns (w ∷ v ∷ ws)
with_value c rows place ns w v ws dashed each taken cut =
    let shape = option_with w v ws dashed in
    let t = subst (λ p. IsTaken rows ns p) shape taken in
    let named = and_parts (is_name v) _ t.1 in
    let mine = and_parts (is_taken rows w v) _ named.1 in
    let rest = and_parts (not (has_option w (parts ws).options)) _ mine.1 in
    let found = row_found (Optional c ns) (λ row. is_for row w && takes_of row.takes v) rows each mine.0 in
    let id : Text = found.0.name in
    let word : w ≡ 45 ∷ 45 ∷ id = equal_text w _ (and_parts (is_for found.0 w) _ found.1).0 in
    let next = cut (t.0, rest.1) in
    let ids = none_later (option id v) ns next.pieces next.listed found.2.1
    (ap₂ has_option (sym word) next.options ∙ not-true _ rest.0) in
    record {
      pieces = option id v ∷ next.pieces;
      words_are = ap₂ (λ (x : Text) (xs : List Text). x ∷ v ∷ xs) (sym word) next.words_are;
      names = next.names ∙ sym (ap (λ (p : Parts). p.positionals) shape);
      options = ap₂ (λ (x : Text) (xs : Options). (x, v) ∷ xs) (sym word) next.options ∙ sym (ap (λ (p : Parts). p.options) shape);
      fit = (found.2.0, dashless v named.0, next.fit);
      listed = still_listed ns id v next.pieces next.listed;
      apart = (ids, next.apart);
    }

alone_or_more : (n : ℕ) (c : List Rule) (rows : List TableRow) (place : ℕ) (ns : List Text) (w : Text) (ws : List Text) → is_dashed w ≡ true → EachRow (Optional c ns) rows
    → IsTaken rows ns (parts (w ∷ ws)) → ((rest : List Text) → length rest ≤ n → IsTaken rows ns (parts rest) → Cut c rows place ns rest) → length ws ≤ n
    → Cut c rows place ns (w ∷ ws)
alone_or_more n c rows place ns w [] dashed each taken cut few =
    let t = subst (λ p. IsTaken rows ns p) (option_without w dashed) taken in
    absurd (true≢false (sym (and_parts false (is_taken rows w [] && (not (has_option w (parts []).options) && are_options rows (parts []).options)) t.1).0))
alone_or_more n c rows place ns w (v ∷ ws) dashed each taken cut few = with_value c rows place ns w v ws dashed each taken (cut ws (omega arith))

-- the words that our own check takes are such pieces; n is at least their number
pub cut : (n : ℕ) (c : List Rule) (rows : List TableRow) (place : ℕ) (ns : List Text) (words : List Text) → length words ≤ n → Places c rows place ns
    → EachRow (Optional c ns) rows → IsTaken rows ns (parts words) → Cut c rows place ns words
cut n c rows place ns [] few places each taken =
    record {
      pieces = [];
      words_are = refl;
      names = sym (ap (λ (p : Parts). p.positionals) no_words);
      options = sym (ap (λ (p : Parts). p.options) no_words);
      fit = tt;
      listed = tt;
      apart = tt;
    }
cut zero c rows place ns (w ∷ ws) few places each taken = absurd (omega arith)
cut (suc n) c rows place ns (w ∷ ws) few places each taken =
    elim (is_dashed w) as (λ b. is_dashed w ≡ b → Cut c rows place ns (w ∷ ws)) [
      | false ↦ λ plain. with_name c rows place ns w ws plain places taken
          (λ m more is less. cut n c rows (min (place + 1) usize_max) more ws (omega arith) (subst (λ xs. Places c rows place xs) is places).3
          (fewer_names c m more rows (subst (λ xs. EachRow (Optional c xs) rows) is each)) less)
      | true ↦ λ dashed. alone_or_more n c rows place ns w ws dashed each taken (λ rest few_left less. cut n c rows place ns rest few_left places each less) (omega arith)
    ] refl
