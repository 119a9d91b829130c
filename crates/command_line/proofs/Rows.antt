-- Rows of a table of which no two have one name: what clap's rules say of them. No row of the table is named here: what a table
-- has to be is a test of it, which computes.
use Rattle.std.proofs.lemmas.List.Folds.{find-append}
use Rattle.clap.specs.Walk.{Text}
use Rattle.command_line.proofs.Terms.{Bool, List, None, Option, Some, [], ap, arith, false, is_some, map, not, refl, suc, sym, take, true, true≢false, ℕ, ◌&&◌, ◌++◌, ◌+◌, ◌==◌, ◌∙◌, ◌∷◌, ◌≡◌, and_parts, not-true, or_parts, before_first, find, list_all, list_any, option_or, bytes_eq, has_byte, long_of_rest, Rule, has_long, Row, EachRow, defaults_of}
use Rattle.command_line.proofs.Walking.{same_text}
use Rattle.command_line.proofs.Cutting.{each_of_none, swapped_text}
use Rattle.command_line.proofs.Pieces.{Optional, is_among, is_row, plain_rule}

-- no two rows have one name
abbrev pub apart : List Row → Bool
apart [] = true
apart (row ∷ rows) = not (is_row row.name rows) && apart rows

pub each_both : (P Q R : Row → Type 0) → ((row : Row) → P row → Q row → R row) → (rows : List Row) → EachRow P rows → EachRow Q rows → EachRow R rows
each_both P Q R f [] p q = tt
each_both P Q R f (row ∷ rows) p q = (f row p.0 q.0, each_both P Q R f rows p.1 q.1)

each_tested : (test : Row → Bool) (rows : List Row) → list_all test rows ≡ true → EachRow (λ row. test row ≡ true) rows
each_tested test [] e = tt
each_tested test (row ∷ rows) e = let tests = and_parts (test row) _ e in (tests.0, each_tested test rows tests.1)

-- ---- clap's rules of rows

-- clap's rule of an option
abbrev pub option_of : Row → Rule
option_of row = plain_rule row.name (Some row.name) None (defaults_of row)

abbrev pub has_id : Text → Rule → Bool
has_id id a = bytes_eq a.id id

abbrev pub is_long : Text → Rule → Bool
is_long id a = not (is_some a.index) && has_long a id

-- a test by a name finds the rule of the row of this name
each_found : (T : Text → Rule → Bool) → ((row : Row) → T row.name (option_of row) ≡ true) → ((row other : Row) → bytes_eq row.name other.name ≡ false → T other.name (option_of row) ≡ false)
    → (rows : List Row) → apart rows ≡ true → EachRow (λ row. find (T row.name) (map option_of rows) ≡ Some (option_of row)) rows
each_found T hits misses [] e = tt
each_found T hits misses (row ∷ rows) e =
    let tests = and_parts (not (is_row row.name rows)) _ e in
    let others = each_of_none row.name rows (not-true _ tests.0) in (
      rw (hits row) refl,
      each_both (λ r. bytes_eq r.name row.name ≡ false) (λ r. find (T r.name) (map option_of rows) ≡ Some (option_of r)) (λ r. find (T r.name) (map option_of (row ∷ rows)) ≡ Some (option_of r))
          (λ r miss found. rw (misses row r (swapped_text row.name r.name ∙ miss)) found) rows others (each_found T hits misses rows tests.1),
    )

id_misses : (row other : Row) → bytes_eq row.name other.name ≡ false → has_id other.name (option_of row) ≡ false
id_misses row other miss = miss

long_hits : (row : Row) → is_long row.name (option_of row) ≡ true
long_hits row = rw (same_text row.name) refl

long_misses : (row other : Row) → bytes_eq row.name other.name ≡ false → is_long other.name (option_of row) ≡ false
long_misses row other miss = rw miss refl

none_of : {X : Type 0} (o : Option X) → not (is_some o) ≡ true → o ≡ None
none_of None e = refl
none_of (Some x) e = absurd (true≢false (sym e))

-- what isn't found in front is found behind
behind : (p : Rule → Bool) (xs ys : List Rule) (r : Rule) → not (is_some (find p xs)) ≡ true → find p ys ≡ Some r → find p (xs ++ ys) ≡ Some r
behind p xs ys r none found = find-append p xs ys ∙ ap (λ (o : Option Rule). option_or o (find p ys)) (none_of _ none) ∙ found

-- ---- names without an equals sign

take_one_more : (n x : ℕ) (xs : List ℕ) → take (1 + n) (x ∷ xs) ≡ x ∷ take n xs
take_one_more n x xs = let next : 1 + n ≡ suc n = omega arith in ap (λ k. take k (x ∷ xs)) next

before_all : (p : ℕ → Bool) (xs : List ℕ) → list_any p xs ≡ false → before_first p xs ≡ xs
before_all p [] e = refl
before_all p (x ∷ xs) e = let parts = or_parts (p x) _ e in rw parts.0 (take_one_more _ x xs ∙ ap (λ (ys : List ℕ). x ∷ ys) (before_all p xs parts.1))

long_name : (name : Text) → bytes_eq name [] ≡ false → has_byte 61 name ≡ false → long_of_rest name ≡ Some (name, None)
long_name [] some e = absurd (true≢false some)
long_name (x ∷ xs) some e = rw (before_all (λ y. y == 61) (x ∷ xs) e, e) refl

-- ---- the options of a table

-- a row's name isn't empty, has no equals sign, and is that of no positional and of no rule in front
abbrev pub stands_behind : List Rule → List Text → Row → Bool
stands_behind front names row =
    (not (is_some (find (has_id row.name) front)) && not (is_some (find (is_long row.name) front)))
    && ((not (bytes_eq row.name []) && not (has_byte 61 row.name)) && not (is_among row.name names))

known : (front tail : List Rule) (names : List Text) (row : Row) → find (has_id row.name) tail ≡ Some (option_of row) → find (is_long row.name) tail ≡ Some (option_of row)
    → stands_behind front names row ≡ true → Optional (front ++ tail) names row
known front tail names row id long e =
    let tests = and_parts _ _ e in
    let fronts = and_parts _ _ tests.0 in
    let texts = and_parts _ _ tests.1 in
    let word = and_parts _ _ texts.0 in
    let by_id = behind (has_id row.name) front tail (option_of row) fronts.0 id in (
      record {
        defaults = defaults_of row;
        by_long = behind (is_long row.name) front tail (option_of row) fronts.1 long;
        by_id = by_id;
        some = not-true _ word.0;
        long = long_name row.name (not-true _ word.0) (not-true _ word.1);
      },
      not-true _ texts.1,
      by_id,
    )

-- the rules of rows behind others are those of clap's options
pub each_optional : (front : List Rule) (names : List Text) (rows : List Row) → apart rows ≡ true → list_all (stands_behind front names) rows ≡ true
    → EachRow (Optional (front ++ map option_of rows) names) rows
each_optional front names rows distinct fit =
    let tail = map option_of rows in
    let ids = each_found has_id (λ row. same_text row.name) id_misses rows distinct in
    let longs = each_found is_long long_hits long_misses rows distinct in
    let found = each_both (λ r. find (has_id r.name) tail ≡ Some (option_of r)) (λ r. find (is_long r.name) tail ≡ Some (option_of r))
    (λ r. (find (has_id r.name) tail ≡ Some (option_of r)) × (find (is_long r.name) tail ≡ Some (option_of r))) (λ r id long. (id, long)) rows ids longs in
    each_both (λ r. (find (has_id r.name) tail ≡ Some (option_of r)) × (find (is_long r.name) tail ≡ Some (option_of r))) (λ r. stands_behind front names r ≡ true)
    (Optional (front ++ tail) names) (λ r both_found test. known front tail names r both_found.0 both_found.1 test) rows found (each_tested (stands_behind front names) rows fit)
