-- A line is read as the connection and the count that it was written of, and as no others.
use Rattle.text_lines.proofs.Digits.{two-decimals}
use Rattle.text_lines.proofs.Written.{by_same, not_in_range, written_complete, written_sound}
use Rattle.counts_file.proofs.Terms.{Bool, List, None, Some, [], ap, arith, cond, false, refl, sym, true, ℕ, ◌&&◌, ◌++◌, ◌<◌, ◌^◌, ◌∙◌, ◌∷◌, ◌≡◌, ◌≤◌, nat_tests, decimal, bytes_eq, nat_le, nat_lt, CONNECTIONS, is_line-decimal, is_line, clipped, first_number, second_number, IsCount, count_line, written_count, count_in, count_told, is_count}

-- ---- written

pub is_line-count : (line : ℕ × ℕ) → IsCount line → is_line (written_count line) ≡ true
unfolding count_line
is_line-count line is =
    let few : line.0 < CONNECTIONS = is.0 in
    let small : line.1 < 2 ^ 63 = is.1 in
    is_line-decimal line.0 (32 ∷ (decimal line.1 ++ 10 ∷ [])) (omega arith) (is_line-decimal line.1 (10 ∷ []) (omega arith) refl)

pair_same : (a b c d : ℕ) → a ≡ c → b ≡ d → ◌≡◌ {A = ℕ × ℕ} (a, b) (c, d)
pair_same a b c d h k = rw (h, k) refl

pub count_told-line : (line : ℕ × ℕ) → IsCount line → count_told (written_count line) ≡ line
unfolding count_line
count_told-line (conn, count) is =
    let few : conn < CONNECTIONS = is.0 in
    let small : count < 2 ^ 63 = is.1 in
    let bytes : List ℕ = decimal conn ++ 32 ∷ (decimal count ++ 10 ∷ []) in
    let told = two-decimals conn count 32 10 [] (omega arith) (omega arith) refl refl in
    pair_same (first_number bytes) (second_number bytes) conn count told.0 told.1

-- ---- in range

abbrev pub in_range : ℕ → ℕ → ℕ → Bool
in_range least conn count = (nat_le least conn && nat_lt conn CONNECTIONS) && nat_lt count (2 ^ 63)

range_test : (least conn count : ℕ) → least ≤ conn → conn < CONNECTIONS → count < 2 ^ 63 → in_range least conn count ≡ true
range_test least conn count h k l = grind (arith, nat_tests)

range_facts : (least conn count : ℕ) → in_range least conn count ≡ true → (least ≤ conn) × ((conn < CONNECTIONS) × (count < 2 ^ 63))
range_facts least conn count h = (grind (arith, nat_tests), (grind (arith, nat_tests), grind (arith, nat_tests)))

-- numbers in their ranges are told whole
told_test : (least conn count : ℕ) → in_range least (clipped conn) (clipped count) ≡ in_range least conn count
told_test least conn count = grind (arith, nat_tests)

told_whole : (least conn count : ℕ) → in_range least (clipped conn) (clipped count) ≡ true → (clipped conn ≡ conn) × (clipped count ≡ count)
told_whole least conn count h =
    let few : clipped conn < CONNECTIONS = grind (arith, nat_tests) in
    let small : clipped count < 2 ^ 63 = grind (arith, nat_tests) in
    (omega arith, omega arith)

-- ---- read

pub count_in-sound : (least : ℕ) (text : List ℕ) (line : ℕ × ℕ) → count_in least text ≡ Some line → (least ≤ line.0) × IsCount line × (written_count line ≡ text)
unfolding count_in
count_in-sound least text line h =
    let parts = written_sound (is_count least) written_count (count_told text) text line h in
    let facts = range_facts least line.0 line.1 parts.0 in
    (facts.0, facts.1, parts.1)

pub count_in-line : (least : ℕ) (line : ℕ × ℕ) → least ≤ line.0 → IsCount line → count_in least (written_count line) ≡ Some line
unfolding count_in
count_in-line least line h is = written_complete (is_count least) written_count (count_told (written_count line)) line (range_test least line.0 line.1 h is.0 is.1) (count_told-line line is)

-- ---- what the code tells

pub no_count : (least : ℕ) (line : List ℕ) (conn count : ℕ) → conn ≡ clipped (first_number line) → count ≡ clipped (second_number line) → in_range least conn count ≡ false → None ≡ count_in least line
unfolding count_in
no_count least line conn count conn_is count_is h =
    not_in_range (is_count least) written_count (count_told line) line
    (sym (told_test least (first_number line) (second_number line)) ∙ ap (λ n. in_range least n (clipped (second_number line))) (sym conn_is) ∙ ap (λ n. in_range least conn n) (sym count_is) ∙ h)

pub count_by : (least : ℕ) (line : List ℕ) (conn count : ℕ) (same : Bool) → conn ≡ clipped (first_number line) → count ≡ clipped (second_number line) → in_range least conn count ≡ true → bytes_eq (count_line conn count) line ≡ same → count_in least line ≡ cond same (Some (conn, count)) None
unfolding count_in
count_by least line conn count same conn_is count_is ok h =
    let first : ℕ = first_number line in
    let second : ℕ = second_number line in
    let told : in_range least (clipped first) (clipped second) ≡ true
    = ap (λ n. in_range least n (clipped second)) (sym conn_is) ∙ ap (λ n. in_range least conn n) (sym count_is) ∙ ok in
    let both = told_whole least first second told in
    by_same (is_count least) written_count (count_told line) (conn, count) line same
    (pair_same first second conn count (sym (conn_is ∙ both.0)) (sym (count_is ∙ both.1)))
    ok h

pub conn_small : (least conn count : ℕ) → in_range least conn count ≡ true → conn < CONNECTIONS
conn_small least conn count h = (range_facts least conn count h).1.0

pub count_small : (least conn count : ℕ) → in_range least conn count ≡ true → count < 2 ^ 63
count_small least conn count h = (range_facts least conn count h).1.1
