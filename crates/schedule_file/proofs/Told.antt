-- What the code tells of a first line and of a last line.
use Rattle.schedule_file.proofs.Terms.{Bool, List, None, Some, ap, arith, cond, drop, false, refl, sym, true, ℕ, ◌&&◌, ◌-◌, ◌<◌, ◌^◌, ◌∙◌, ◌≡◌, ◌≤◌, nat_tests, bytes_eq, nat_le, nat_lt, MAX_ITEMS, Framing, by_same, not_in_range, behind_digits, clipped, first_number, number_from, second_number, Line, MAX_WINDOW, VERSION, end_line, head_line, line_text, answer_of, end_of, end_told, frame_told, head_of, head_told, is_answer, is_end, is_head, line_told, window_part, written_end, written_head}
use Rattle.schedule_file.proofs.Written.{head_with, head_same, end_with, end_same}

-- ---- the first line

abbrev in_ranges : ℕ → ℕ → Bool
in_ranges version window = (nat_le 1 version && nat_le version VERSION) && (nat_le 1 window && nat_le window MAX_WINDOW)

-- numbers in their ranges are told whole
head_whole : (version window : ℕ) → in_ranges (clipped version) (clipped window) ≡ true → (clipped version ≡ version) × (clipped window ≡ window)
head_whole version window h =
    let few : clipped version ≤ VERSION = grind (arith, nat_tests) in
    let small : clipped window ≤ MAX_WINDOW = grind (arith, nat_tests) in
    (omega arith, omega arith)

range_test : (n most : ℕ) → most < 2 ^ 64 - 1 → (nat_le 1 (clipped n) && nat_le (clipped n) most) ≡ (nat_le 1 n && nat_le n most)
range_test n most h = grind (arith, nat_tests)

head_test : (version window : ℕ) → in_ranges (clipped version) (clipped window) ≡ in_ranges version window
head_test version window = rw (range_test version VERSION (omega arith), range_test window MAX_WINDOW (omega arith)) refl

pub no_head : (line rest : List ℕ) (version window : ℕ) → version ≡ clipped (number_from 0 (drop 10 line)) → rest ≡ behind_digits (drop 10 line) → window ≡ clipped (number_from 0 (drop 8 rest)) →
    ((nat_le 1 version && nat_le version VERSION) && (nat_le 1 window && nat_le window MAX_WINDOW)) ≡ false → None ≡ head_of line
unfolding head_of
no_head line rest version window version_is rest_is window_is h =
    let first : ℕ = number_from 0 (drop 10 line) in
    let second : ℕ = number_from 0 (window_part line) in
    let window_told : window ≡ clipped second = window_is ∙ ap (λ bytes. clipped (number_from 0 (drop 8 bytes))) rest_is in
    not_in_range is_head written_head (head_told line) line
    (sym (head_test first second) ∙ ap (λ n. in_ranges n (clipped second)) (sym version_is) ∙ ap (λ n. in_ranges version n) (sym window_told) ∙ h)

pub head_by : (line rest behind : List ℕ) (version window : ℕ) (frame : Framing) (same : Bool) → version ≡ clipped (number_from 0 (drop 10 line)) → rest ≡ behind_digits (drop 10 line) → window ≡ clipped (number_from 0 (drop 8 rest)) →
    behind ≡ behind_digits (drop 8 rest) → frame ≡ frame_told behind → ((nat_le 1 version && nat_le version VERSION) && (nat_le 1 window && nat_le window MAX_WINDOW)) ≡ true → bytes_eq (head_line version window frame) line ≡ same →
    head_of line ≡ cond same (Some (head_with version window frame)) None
unfolding head_of
head_by line rest behind version window frame same version_is rest_is window_is behind_is frame_is ok h =
    let first : ℕ = number_from 0 (drop 10 line) in
    let second : ℕ = number_from 0 (window_part line) in
    let window_told : window ≡ clipped second = window_is ∙ ap (λ bytes. clipped (number_from 0 (drop 8 bytes))) rest_is in
    let frame_found : frame ≡ frame_told (behind_digits (window_part line)) = frame_is ∙ ap frame_told (behind_is ∙ ap (λ bytes. behind_digits (drop 8 bytes)) rest_is) in
    let in_range : in_ranges (clipped first) (clipped second) ≡ true
    = ap (λ n. in_ranges n (clipped second)) (sym version_is) ∙ ap (λ n. in_ranges version n) (sym window_told) ∙ ok in
    let both = head_whole first second in_range in
    by_same is_head written_head (head_told line) (head_with version window frame) line same
    (head_same version window frame first second (frame_told (behind_digits (window_part line))) (sym (version_is ∙ both.0)) (sym (window_told ∙ both.1)) (sym frame_found))
    ok h

-- ---- an answer of the allocator

pub no_answer : (version : ℕ) (line : List ℕ) (answer : Line) → answer ≡ line_told version line → is_answer version answer ≡ false → None ≡ answer_of version line
unfolding answer_of
no_answer version line answer is h = not_in_range (is_answer version) line_text (line_told version line) line (ap (is_answer version) (sym is) ∙ h)

pub answer_by : (version : ℕ) (line : List ℕ) (answer : Line) (same : Bool) → answer ≡ line_told version line → is_answer version answer ≡ true → bytes_eq (line_text answer) line ≡ same → answer_of version line ≡ cond same (Some answer) None
unfolding answer_of
answer_by version line answer same is ok h = by_same (is_answer version) line_text (line_told version line) answer line same (sym is) ok h

-- ---- the last line

end_test : (steps taken : ℕ) → (nat_lt (clipped steps) (2 ^ 63) && nat_le (clipped taken) MAX_ITEMS) ≡ (nat_lt steps (2 ^ 63) && nat_le taken MAX_ITEMS)
end_test steps taken = grind (arith, nat_tests)

steps_whole : (steps taken : ℕ) → (nat_lt (clipped steps) (2 ^ 63) && nat_le (clipped taken) MAX_ITEMS) ≡ true → (clipped steps ≡ steps) × (clipped taken ≡ taken)
steps_whole steps taken h =
    let few : clipped steps < 2 ^ 63 = grind (arith, nat_tests) in
    let small : clipped taken ≤ MAX_ITEMS = grind (arith, nat_tests) in
    (omega arith, omega arith)

pub no_end : (line : List ℕ) (steps taken : ℕ) → steps ≡ clipped (first_number (drop 4 line)) → taken ≡ clipped (second_number (drop 4 line)) → (nat_lt steps (2 ^ 63) && nat_le taken MAX_ITEMS) ≡ false → None ≡ end_of line
unfolding end_of
no_end line steps taken steps_is taken_is h =
    let whole : ℕ = first_number (drop 4 line) in
    let items : ℕ = second_number (drop 4 line) in
    not_in_range is_end written_end (end_told line) line
    (sym (end_test whole items) ∙ ap (λ n. nat_lt n (2 ^ 63) && nat_le (clipped items) MAX_ITEMS) (sym steps_is) ∙ ap (λ n. nat_lt steps (2 ^ 63) && nat_le n MAX_ITEMS) (sym taken_is) ∙ h)

pub end_by : (line : List ℕ) (steps taken : ℕ) (same : Bool) → steps ≡ clipped (first_number (drop 4 line)) → taken ≡ clipped (second_number (drop 4 line)) → (nat_lt steps (2 ^ 63) && nat_le taken MAX_ITEMS) ≡ true → bytes_eq (end_line steps taken) line ≡ same → end_of line ≡ cond same (Some (end_with steps taken)) None
unfolding end_of
end_by line steps taken same steps_is taken_is ok h =
    let whole : ℕ = first_number (drop 4 line) in
    let items : ℕ = second_number (drop 4 line) in
    let in_range : (nat_lt (clipped whole) (2 ^ 63) && nat_le (clipped items) MAX_ITEMS) ≡ true
    = ap (λ n. nat_lt n (2 ^ 63) && nat_le (clipped items) MAX_ITEMS) (sym steps_is) ∙ ap (λ n. nat_lt steps (2 ^ 63) && nat_le n MAX_ITEMS) (sym taken_is) ∙ ok in
    let both = steps_whole whole items in_range in
    by_same is_end written_end (end_told line) (end_with steps taken) line same
    (end_same (end_with steps taken) whole items (sym (steps_is ∙ both.0)) (sym (taken_is ∙ both.1)))
    ok h
