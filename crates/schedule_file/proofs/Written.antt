-- A line is read as the value that it was written of, and as no other.
use Rattle.std.proofs.lemmas.Bool.{and_parts}
use Rattle.msg_frame.specs.declared.framing.Framing.TheVariants as framing
use Rattle.text_lines.proofs.Digits.{number-decimal, behind-decimal, two-decimals}
use Rattle.schedule_file.proofs.Terms.{Bool, List, None, Option, Some, [], ap, arith, cases_eq, cond, drop, false, inl, inr, length, not, refl, sym, take, true, ℕ, ◌&&◌, ◌++◌, ◌<◌, ◌^◌, ◌∙◌, ◌∷◌, ◌≡◌, ◌≤◌, nat_tests, decimal, nat_le, nat_lt, slice_index, ◌==◌, MAX_ITEMS, Ask, Calloc, Malloc, Realloc, Framing, by_option, written_complete, written_sound, behind_digits, first_number, number_from, second_number, Finish, Head, Line, MAX_WINDOW, VERSION, arguments, carried_part, eight_digits, end_line, frame_name, head_line, letter, line_text, mark, spaced, IsAnswer, IsAsk, IsAskOf, WasCalloc, WasReplacing, answer_of, ask_told, asked_told, end_of, end_told, frame_told, head_of, head_told, hex_at, hex_from, is_answer, is_ask, is_ask_of, is_carrying, is_end, is_head, is_marked, line_told, was_calloc, was_replacing, written_end, written_head}
use Rattle.schedule_file.proofs.Digits.{hex-front}

-- ---- the first line

by_frame : (frame : Framing) → frame_told (32 ∷ 102 ∷ 114 ∷ 97 ∷ 109 ∷ 101 ∷ 32 ∷ (frame_name frame ++ 10 ∷ [])) ≡ frame
by_frame framing.Line = refl
by_frame framing.Length = refl
by_frame framing.Whole = refl

abbrev pub head_with : ℕ → ℕ → Framing → Head
head_with version window frame = record { version = version; window = window; frame = frame }

pub head_same : (version window : ℕ) (frame : Framing) (a b : ℕ) (f : Framing) → a ≡ version → b ≡ window → f ≡ frame → head_with a b f ≡ head_with version window frame
head_same version window frame a b f h i k = rw (h, i, k) refl

pub head_told-line : (version window : ℕ) (frame : Framing) → version < 2 ^ 64 → window < 2 ^ 64 → head_told (head_line version window frame) ≡ head_with version window frame
unfolding head_line
head_told-line version window frame few small =
    let named : List ℕ = 102 ∷ 114 ∷ 97 ∷ 109 ∷ 101 ∷ 32 ∷ (frame_name frame ++ 10 ∷ []) in
    let behind : List ℕ = 119 ∷ 105 ∷ 110 ∷ 100 ∷ 111 ∷ 119 ∷ 32 ∷ (decimal window ++ 32 ∷ named) in
    let rest : List ℕ = behind_digits (decimal version ++ 32 ∷ behind) in
    let rest_is : rest ≡ 32 ∷ behind = behind-decimal version 32 behind few refl in
    head_same version window frame (number_from 0 (decimal version ++ 32 ∷ behind)) (number_from 0 (drop 8 rest)) (frame_told (behind_digits (drop 8 rest)))
    (number-decimal version 32 behind few refl)
    (ap (λ bytes. number_from 0 (drop 8 bytes)) rest_is ∙ number-decimal window 32 named small refl)
    (ap (λ bytes. frame_told (behind_digits (drop 8 bytes))) rest_is ∙ ap frame_told (behind-decimal window 32 named small refl) ∙ by_frame frame)

head_test : (version window : ℕ) → 1 ≤ version → version ≤ VERSION → 1 ≤ window → window ≤ MAX_WINDOW → ((nat_le 1 version && nat_le version VERSION) && (nat_le 1 window && nat_le window MAX_WINDOW)) ≡ true
head_test version window h i k l = grind (arith, nat_tests)

-- the numbers of a first line are in their ranges
pub record IsHead (head : Head) : Type 0 where
  pub some_version : 1 ≤ head.version
  pub version : head.version ≤ VERSION
  pub some_window : 1 ≤ head.window
  pub window : head.window ≤ MAX_WINDOW

pub is_head-from : (head : Head) → IsHead head → is_head head ≡ true
is_head-from head h = head_test head.version head.window h.some_version h.version h.some_window h.window

range_facts : (n most : ℕ) → (nat_le 1 n && nat_le n most) ≡ true → (1 ≤ n) × (n ≤ most)
range_facts n most h = (grind (arith, nat_tests), grind (arith, nat_tests))

pub is_head-facts : (head : Head) → is_head head ≡ true → IsHead head
is_head-facts head h =
    let both = and_parts (nat_le 1 head.version && nat_le head.version VERSION) (nat_le 1 head.window && nat_le head.window MAX_WINDOW) h in
    let first = range_facts head.version VERSION both.0 in
    let second = range_facts head.window MAX_WINDOW both.1 in
    record { some_version = first.0; version = first.1; some_window = second.0; window = second.1 }

pub head_of-line : (head : Head) → is_head head ≡ true → head.version < 2 ^ 64 → head.window < 2 ^ 64 → head_of (head_line head.version head.window head.frame) ≡ Some head
unfolding head_of
head_of-line head ok few small =
    written_complete is_head written_head (head_told (head_line head.version head.window head.frame)) head ok (head_told-line head.version head.window head.frame few small)

pub head_of-written : (head : Head) → is_head head ≡ true → head_of (head_line head.version head.window head.frame) ≡ Some head
head_of-written head ok = let range = is_head-facts head ok in head_of-line head ok (omega (arith, range.version)) (omega (arith, range.window))

pub head_of-sound : (line : List ℕ) (head : Head) → head_of line ≡ Some head → (is_head head ≡ true) × (head_line head.version head.window head.frame ≡ line)
unfolding head_of
head_of-sound line head h = written_sound is_head written_head (head_told line) line head h

-- ---- an answer of the allocator

abbrev pub line_with : Option Ask → ℕ → Bool → ℕ → Line
line_with ask address zeroed carried = record { ask = ask; at = address; zeroed = zeroed; carried = carried }

line_same : (line : Line) (ask : Option Ask) (address : ℕ) (zeroed : Bool) (carried : ℕ) → ask ≡ line.ask → address ≡ line.at → zeroed ≡ line.zeroed → carried ≡ line.carried → line_with ask address zeroed carried ≡ line
line_same line ask address zeroed carried h i k l = rw (h, i, k, l) refl

by_mark : (zeroed : Bool) → (mark zeroed == 122) ≡ zeroed
by_mark true = refl
by_mark false = refl

malloc_same : (n size : ℕ) → n ≡ size → Malloc n ≡ Malloc size
malloc_same n size h = ap Malloc h

calloc_same : (n m count size : ℕ) → n ≡ count → m ≡ size → Calloc n m ≡ Calloc count size
calloc_same n m count size h k = rw (h, k) refl

realloc_same : (n m old size : ℕ) → n ≡ old → m ≡ size → Realloc n m ≡ Realloc old size
realloc_same n m old size h k = rw (h, k) refl

-- what was asked, as it stands in a line
told_ask : (ask : Ask) (address : ℕ) (zeroed : Bool) (carried : ℕ) → IsAsk ask → ask_told (line_text (line_with (Some ask) address zeroed carried)) ≡ ask
unfolding line_text
told_ask (Malloc size) address zeroed carried h = malloc_same _ size (hex-front size (10 ∷ []) h)
told_ask (Calloc count size) address zeroed carried h = calloc_same _ _ count size (hex-front count (32 ∷ (eight_digits size ++ 10 ∷ [])) h.0) (hex-front size (10 ∷ []) h.1)
told_ask (Realloc old size) address zeroed carried h =
    let behind : List ℕ = carried_part carried ++ 10 ∷ [] in
    realloc_same _ _ old size (hex-front old (32 ∷ (eight_digits size ++ behind)) h.0) (hex-front size behind h.1)

told_asked : (version : ℕ) (ask : Option Ask) (address : ℕ) (zeroed : Bool) (carried : ℕ) → IsAskOf version ask → asked_told version (line_text (line_with ask address zeroed carried)) ≡ ask
told_asked version None address zeroed carried h = rw h refl
told_asked version (Some ask) address zeroed carried h = rw h.0 (ap (λ (told : Ask). Some told) (told_ask ask address zeroed carried h.1))

told_address : (ask : Option Ask) (address : ℕ) (zeroed : Bool) (carried : ℕ) → address < 2 ^ 32 → hex_at 2 (line_text (line_with ask address zeroed carried)) ≡ address
unfolding line_text
told_address ask address zeroed carried h = hex-front address (32 ∷ mark zeroed ∷ (arguments ask carried ++ 10 ∷ [])) h

told_mark : (ask : Option Ask) (address : ℕ) (zeroed : Bool) (carried : ℕ) → (slice_index (line_text (line_with ask address zeroed carried)) 11 == 122) ≡ zeroed
unfolding line_text
told_mark ask address zeroed carried = by_mark zeroed

-- what stands behind the second argument, or nothing
abbrev hex_front : List ℕ → ℕ
hex_front bytes = cond (nat_lt (length bytes) 8) 0 (hex_from 0 (take 8 bytes))

told_behind : (carried : ℕ) (none : Bool) → (carried == 0) ≡ none → carried < 2 ^ 32 → hex_front (drop 1 (cond none [] (spaced carried) ++ 10 ∷ [])) ≡ carried
told_behind carried true e small = let none : carried ≡ 0 = grind (arith, nat_tests) in sym none
told_behind carried false e small = hex-front carried (10 ∷ []) small

none_carried : (carried : ℕ) → (0 < carried → ⊥) → 0 ≡ carried
none_carried carried h = elim (cases_eq carried 0) [ inl none ↦ sym none | inr some ↦ absurd (h (omega (arith, some))) ]

none_replaced : false ≡ true → ⊥
none_replaced h = cc

told_carried : (ask : Option Ask) (address : ℕ) (zeroed : Bool) (carried : ℕ) → carried < 2 ^ 32 → (0 < carried → WasReplacing ask) → hex_at 31 (line_text (line_with ask address zeroed carried)) ≡ carried
unfolding line_text
told_carried None address zeroed carried small h = none_carried carried h
told_carried (Some (Malloc size)) address zeroed carried small h = none_carried carried (λ some. none_replaced (h some))
told_carried (Some (Calloc count size)) address zeroed carried small h = none_carried carried (λ some. none_replaced (h some))
told_carried (Some (Realloc old size)) address zeroed carried small h = told_behind carried (carried == 0) refl small

line_told-line : (version : ℕ) (line : Line) → IsAnswer version line → line_told version (line_text line) ≡ line
line_told-line version line is =
    line_same line (asked_told version (line_text line)) (hex_at 2 (line_text line)) (slice_index (line_text line) 11 == 122) (hex_at 31 (line_text line))
    (told_asked version line.ask line.at line.zeroed line.carried is.asked) (told_address line.ask line.at line.zeroed line.carried is.address) (told_mark line.ask line.at line.zeroed line.carried)
    (told_carried line.ask line.at line.zeroed line.carried is.carried (λ some. (is.carries some).1))

-- the tests of a line are its facts

small_test : (n : ℕ) → n < 2 ^ 32 → nat_lt n (2 ^ 32) ≡ true
small_test n h = grind (arith, nat_tests)

small_fact : (n : ℕ) → nat_lt n (2 ^ 32) ≡ true → n < 2 ^ 32
small_fact n h = grind (arith, nat_tests)

same_fact : (n m : ℕ) → (n == m) ≡ true → n ≡ m
same_fact n m h = grind (arith, nat_tests)

ask_test : (ask : Ask) → IsAsk ask → is_ask ask ≡ true
ask_test (Malloc size) h = small_test size h
ask_test (Calloc count size) h = rw (small_test count h.0) (small_test size h.1)
ask_test (Realloc old size) h = rw (small_test old h.0) (small_test size h.1)

ask_fact : (ask : Ask) → is_ask ask ≡ true → IsAsk ask
ask_fact (Malloc size) h = small_fact size h
ask_fact (Calloc count size) h = let both = and_parts (nat_lt count (2 ^ 32)) (nat_lt size (2 ^ 32)) h in (small_fact count both.0, small_fact size both.1)
ask_fact (Realloc old size) h = let both = and_parts (nat_lt old (2 ^ 32)) (nat_lt size (2 ^ 32)) h in (small_fact old both.0, small_fact size both.1)

asked_test : (version : ℕ) (ask : Option Ask) → IsAskOf version ask → is_ask_of version ask ≡ true
asked_test version None h = rw h refl
asked_test version (Some ask) h = rw h.0 (ask_test ask h.1)

asked_fact : (version : ℕ) (ask : Option Ask) → is_ask_of version ask ≡ true → IsAskOf version ask
asked_fact version None h = same_fact version 1 h
asked_fact version (Some ask) h = let both = and_parts (version == 2) (is_ask ask) h in (same_fact version 2 both.0, ask_fact ask both.1)

mark_test : (calloc : Bool) (address : ℕ) (zeroed : Bool) → (address ≡ 0 → zeroed ≡ false) → (calloc ≡ true → 0 < address → zeroed ≡ true) → is_marked calloc address zeroed ≡ true
mark_test calloc address true h k = grind (arith, nat_tests)
mark_test true address false h k = grind (arith, nat_tests)
mark_test false address false h k = grind (arith, nat_tests)

mark_facts : (calloc : Bool) (address : ℕ) (zeroed : Bool) → is_marked calloc address zeroed ≡ true → (address ≡ 0 → zeroed ≡ false) × (calloc ≡ true → 0 < address → zeroed ≡ true)
mark_facts calloc address true h = (λ null. grind (arith, nat_tests), λ asked some. refl)
mark_facts true address false h = (λ null. refl, λ asked some. grind (arith, nat_tests))
mark_facts false address false h = (λ null. refl, λ asked some. absurd (cc))

calloc_test : (ask : Option Ask) → was_calloc ask ≡ true → WasCalloc ask
calloc_test None h = absurd (cc)
calloc_test (Some ask) h = h

calloc_fact : (ask : Option Ask) → WasCalloc ask → was_calloc ask ≡ true
calloc_fact None h = absurd h
calloc_fact (Some ask) h = h

carry_test : (replacing : Bool) (address carried : ℕ) → carried < 2 ^ 32 → (0 < carried → (0 < address) × (replacing ≡ true)) → is_carrying replacing address carried ≡ true
carry_test replacing address carried small h = by (carried == 0) refl
  where
    by : (none : Bool) → (carried == 0) ≡ none → cond none true (nat_lt carried (2 ^ 32) && (not (address == 0) && replacing)) ≡ true
    by true e = refl
    by false e =
        let some : 0 < carried = grind (arith, nat_tests) in
        let both = h some in
        let above : 0 < address = both.0 in
        let named : (address == 0) ≡ false = grind (arith, nat_tests) in
        rw (small_test carried small, named) both.1

carry_facts : (replacing : Bool) (address carried : ℕ) → is_carrying replacing address carried ≡ true → (carried < 2 ^ 32) × (0 < carried → (0 < address) × (replacing ≡ true))
carry_facts replacing address carried h = by (carried == 0) refl h
  where
    by : (none : Bool) → (carried == 0) ≡ none → cond none true (nat_lt carried (2 ^ 32) && (not (address == 0) && replacing)) ≡ true → (carried < 2 ^ 32) × (0 < carried → (0 < address) × (replacing ≡ true))
    by true e k = let none : carried ≡ 0 = same_fact carried 0 e in (omega (arith, none), λ some. absurd (omega (arith, none, some)))
    by false e k =
        let parts = and_parts (nat_lt carried (2 ^ 32)) (not (address == 0) && replacing) k in
        let both = and_parts (not (address == 0)) replacing parts.1 in
        let named : not (address == 0) ≡ true = both.0 in
        (small_fact carried parts.0, λ some. (grind (arith, nat_tests), both.1))

replacing_test : (ask : Option Ask) → was_replacing ask ≡ true → WasReplacing ask
replacing_test None h = absurd (cc)
replacing_test (Some ask) h = h

replacing_fact : (ask : Option Ask) → WasReplacing ask → was_replacing ask ≡ true
replacing_fact None h = absurd h
replacing_fact (Some ask) h = h

pub is_answer-from : (version : ℕ) (line : Line) → IsAnswer version line → is_answer version line ≡ true
is_answer-from version line h =
    rw (asked_test version line.ask h.asked, small_test line.at h.address, mark_test (was_calloc line.ask) line.at line.zeroed h.null (λ asked some. h.zeros (calloc_test line.ask asked) some))
    (carry_test (was_replacing line.ask) line.at line.carried h.carried (λ some. ((h.carries some).0, replacing_fact line.ask (h.carries some).1)))

pub is_answer-facts : (version : ℕ) (line : Line) → is_answer version line ≡ true → IsAnswer version line
is_answer-facts version line h =
    let marked : Bool = is_marked (was_calloc line.ask) line.at line.zeroed in
    let carrying : Bool = is_carrying (was_replacing line.ask) line.at line.carried in
    let both = and_parts (is_ask_of version line.ask) (nat_lt line.at (2 ^ 32) && (marked && carrying)) h in
    let rest = and_parts (nat_lt line.at (2 ^ 32)) (marked && carrying) both.1 in
    let last = and_parts marked carrying rest.1 in
    let marks = mark_facts (was_calloc line.ask) line.at line.zeroed last.0 in
    let carries = carry_facts (was_replacing line.ask) line.at line.carried last.1 in
    record {
      asked = asked_fact version line.ask both.0;
      address = small_fact line.at rest.0;
      null = marks.0;
      zeros = λ asked some. marks.1 (calloc_fact line.ask asked) some;
      carried = carries.0;
      carries = λ some. let found = carries.1 some in (found.0, replacing_test line.ask found.1);
    }

pub answer_of-line : (version : ℕ) (line : Line) → IsAnswer version line → answer_of version (line_text line) ≡ Some line
unfolding answer_of
answer_of-line version line h =
    written_complete (is_answer version) line_text (line_told version (line_text line)) line (is_answer-from version line h) (line_told-line version line h)

pub answer_of-sound : (version : ℕ) (line : List ℕ) (answer : Line) → answer_of version line ≡ Some answer → IsAnswer version answer × (line_text answer ≡ line)
unfolding answer_of
answer_of-sound version line answer h =
    let parts = written_sound (is_answer version) line_text (line_told version line) line answer h in
    (is_answer-facts version answer parts.0, parts.1)

-- ---- the last line

abbrev pub end_with : ℕ → ℕ → Finish
end_with steps taken = record { steps = steps; taken = taken }

pub end_same : (finish : Finish) (steps taken : ℕ) → steps ≡ finish.steps → taken ≡ finish.taken → end_with steps taken ≡ finish
end_same finish steps taken h k = rw (h, k) refl

pub end_told-line : (finish : Finish) → finish.steps < 2 ^ 64 → finish.taken < 2 ^ 64 → end_told (end_line finish.steps finish.taken) ≡ finish
unfolding end_line
end_told-line finish small few =
    let bytes : List ℕ = decimal finish.steps ++ 32 ∷ (decimal finish.taken ++ 10 ∷ []) in
    let told = two-decimals finish.steps finish.taken 32 10 [] small few refl refl in
    end_same finish (first_number bytes) (second_number bytes) told.0 told.1

end_small : (steps taken : ℕ) → (nat_lt steps (2 ^ 63) && nat_le taken MAX_ITEMS) ≡ true → (steps < 2 ^ 63) × (taken ≤ MAX_ITEMS)
end_small steps taken h = (grind (arith, nat_tests), grind (arith, nat_tests))

end_test : (steps taken : ℕ) → steps < 2 ^ 63 → taken ≤ MAX_ITEMS → (nat_lt steps (2 ^ 63) && nat_le taken MAX_ITEMS) ≡ true
end_test steps taken h k = grind (arith, nat_tests)

pub is_end-from : (finish : Finish) → finish.steps < 2 ^ 63 → finish.taken ≤ MAX_ITEMS → is_end finish ≡ true
is_end-from finish h k = end_test finish.steps finish.taken h k

pub is_end-facts : (finish : Finish) → is_end finish ≡ true → (finish.steps < 2 ^ 63) × (finish.taken ≤ MAX_ITEMS)
is_end-facts finish h = end_small finish.steps finish.taken h

pub end_of-line : (finish : Finish) → is_end finish ≡ true → end_of (end_line finish.steps finish.taken) ≡ Some finish
unfolding end_of
end_of-line finish ok =
    let facts = is_end-facts finish ok in
    written_complete is_end written_end (end_told (end_line finish.steps finish.taken)) finish ok (end_told-line finish (omega (arith, facts.0)) (omega (arith, facts.1)))

pub end_of-sound : (line : List ℕ) (finish : Finish) → end_of line ≡ Some finish → (is_end finish ≡ true) × (end_line finish.steps finish.taken ≡ line)
unfolding end_of
end_of-sound line finish h = written_sound is_end written_end (end_told line) line finish h

letter_not_end : (ask : Option Ask) → letter ask ≡ 101 → ⊥
letter_not_end None h = absurd (omega (arith, h))
letter_not_end (Some (Malloc size)) h = absurd (omega (arith, h))
letter_not_end (Some (Calloc count size)) h = absurd (omega (arith, h))
letter_not_end (Some (Realloc old size)) h = absurd (omega (arith, h))

not_end : (line : Line) (steps taken : ℕ) → line_text line ≡ end_line steps taken → ⊥
unfolding line_text end_line
not_end line steps taken h = letter_not_end line.ask (ap (λ (bytes : List ℕ). slice_index bytes 0) h)

-- the line of an answer isn't a last line
pub answer_of-end : (version steps taken : ℕ) → answer_of version (end_line steps taken) ≡ None
answer_of-end version steps taken =
    by_option (answer_of version (end_line steps taken)) (λ line h. not_end line steps taken (answer_of-sound version (end_line steps taken) line h).1)
