-- What the code finds, over plain values.
use Rattle.report_reading.proofs.Terms.{Bool, Err, List, None, Ok, Option, Some, [], ap, arith, cond, false, length, length-append, option_map, refl, suc, sym, true, ℕ, ◌&&◌, ◌++◌, ◌+◌, ◌-◌, ◌<◌, ◌^◌, ◌∙◌, ◌∷◌, ◌≡◌, ◌≤◌, nat_tests, bytes_eq, is_some, nat_le, nat_lt, not, slice_get, Episode, Try, failure_text, try_text, first-behind, behind_line, first_line, is_empty, is_line, Form, Reading, ReadReport, ReportEnd, Refused, ReadsReport, Cut, is_torn, finished, head_of, next_of, outcome, read_from, read_lines, read_on, least_behind, Takes, so_far, end_of, end_told, episode_of, episode_told, failure_of, failure_told, if_written, try_of, try_told, written_end, written_episode}
use Rattle.report_reading.proofs.Completing.{reading_read}
use Rattle.report_reading.proofs.Cuttings.{cut-line, cut-torn, first-line}
use Rattle.report_reading.proofs.Sounding.{read_reading}

-- ---- what a line is read as

by_same : {Value : Type 0} (write : Value → List ℕ) (told value : Value) (line : List ℕ) (same : Bool) → value ≡ told → bytes_eq (write value) line ≡ same → cond same (Some value) None ≡ if_written write told line
by_same write told value line same is h = rw (sym is) (rw h refl)

pub failure_by : (number : ℕ) (line text : List ℕ) (e : Episode) (same : Bool) → e ≡ failure_told line → text ≡ failure_text number e → bytes_eq text line ≡ same → cond same (Some e) None ≡ failure_of number line
unfolding failure_of
failure_by number line text e same is text_is h = by_same (failure_text number) (failure_told line) e line same is (ap (λ (bytes : List ℕ). bytes_eq bytes line) (sym text_is) ∙ h)

few_test : (number : ℕ) → number < 2 ^ 64 → nat_lt number (2 ^ 64) ≡ true
few_test number h = grind (arith, nat_tests)

most_test : (count : ℕ) → count ≤ 2 ^ 64 → nat_le count (2 ^ 64) ≡ true
most_test count h = grind (arith, nat_tests)

pub try_by : (number : ℕ) (line text : List ℕ) (t : Try) (same : Bool) → number < 2 ^ 64 → t ≡ try_told line → text ≡ try_text number t → bytes_eq text line ≡ same → cond same (Some t) None ≡ try_of number line
unfolding try_of
try_by number line text t same few is text_is h =
    rw (few_test number few) (by_same (try_text number) (try_told line) t line same is (ap (λ (bytes : List ℕ). bytes_eq bytes line) (sym text_is) ∙ h))

pub episode_by : (number : ℕ) (line text : List ℕ) (e : Episode) (same : Bool) → length e.tries ≤ 2 ^ 64 → e ≡ episode_told line → text ≡ written_episode number e → bytes_eq text line ≡ same → cond same (Some e) None ≡ episode_of number line
unfolding episode_of
episode_by number line text e same few is text_is h =
    let most : nat_le (length (episode_told line).tries) (2 ^ 64) ≡ true = ap (λ (e : Episode). nat_le (length e.tries) (2 ^ 64)) (sym is) ∙ most_test (length e.tries) few in
    rw most (by_same (written_episode number) (episode_told line) e line same is (ap (λ (bytes : List ℕ). bytes_eq bytes line) (sym text_is) ∙ h))

pub end_by : (form : Form) (line text : List ℕ) (finish : ReportEnd) (same : Bool) → finish ≡ end_told form line → text ≡ written_end form finish → bytes_eq text line ≡ same → cond same (Some finish) None ≡ end_of form line
unfolding end_of
end_by form line text finish same is text_is h = by_same (written_end form) (end_told form line) finish line same is (ap (λ (bytes : List ℕ). bytes_eq bytes line) (sym text_is) ∙ h)

-- ---- the last of some episodes

last_at : (x y : Episode) (xs : List Episode) → slice_get (x ∷ y ∷ xs) (length (x ∷ y ∷ xs) - 1) ≡ slice_get (y ∷ xs) (length (y ∷ xs) - 1)
last_at x y xs = let same : length (x ∷ y ∷ xs) - 1 ≡ suc (length (y ∷ xs) - 1) = omega arith in ap (λ (n : ℕ). slice_get (x ∷ y ∷ xs) n) same

pub least_last : (least : ℕ) (xs : List Episode) (e : Episode) → Some e ≡ slice_get xs (length xs - 1) → least_behind least xs ≡ suc e.point
least_last least [] e h = absurd (cc)
least_last least (x ∷ []) e h = let same : e ≡ x = cc in ap (λ (e : Episode). suc e.point) (sym same)
least_last least (x ∷ y ∷ xs) e h = least_last (suc x.point) (y ∷ xs) e (h ∙ last_at x y xs)

pub above_last : (xs : List Episode) (e : Episode) (point : ℕ) → Some e ≡ slice_get xs (length xs - 1) → nat_lt e.point point ≡ nat_le (least_behind 0 xs) point
above_last xs e point h = let least : least_behind 0 xs ≡ suc e.point = least_last 0 xs e h in rw least (grind (arith, nat_tests))

-- ---- lines in front

-- a text as a line in front and the rest
pub record IsFront (text line rest : List ℕ) : Type 0 where
  pub is : is_line line ≡ true
  pub whole : line ++ rest ≡ text

pub front_by : (text line rest : List ℕ) → is_torn text ≡ false → line ≡ first_line text → rest ≡ behind_line text → IsFront text line rest
front_by text line rest some line_is rest_is = record {
  is = ap (λ (line : List ℕ). is_line line) line_is ∙ first-line text some;
  whole = ap (λ (line : List ℕ). line ++ rest) line_is ∙ ap (λ (rest : List ℕ). first_line text ++ rest) rest_is ∙ first-behind text;
}

line_some : (line : List ℕ) → is_line line ≡ true → 1 ≤ length line
line_some [] h = absurd (cc)
line_some (byte ∷ line) h = omega arith

pub shorter : (text line rest : List ℕ) → IsFront text line rest → 1 + length rest ≤ length text
shorter text line rest front =
    let some : 1 ≤ length line = line_some line front.is in
    let both : length line + length rest ≡ length text = sym (length-append line rest) ∙ ap (λ (text : List ℕ). length text) front.whole in
    omega arith

pub outcome-front : (text line rest : List ℕ) → IsFront text line rest → outcome text ≡ read_on 1 (head_of line) rest
outcome-front text line rest front = ap (λ (text : List ℕ). outcome text) (sym front.whole) ∙ ap (λ (c : Cut). read_lines c.lines c.torn) (cut-line line rest front.is)

pub on-front : (number : ℕ) (value : ReadReport) (text line rest : List ℕ) → IsFront text line rest → read_on number (Some value) text ≡ read_on (number + 1) (next_of value line) rest
on-front number value text line rest front =
    ap (λ (text : List ℕ). read_on number (Some value) text) (sym front.whole) ∙ ap (λ (c : Cut). read_from number (Some value) c.lines c.torn) (cut-line line rest front.is)

-- ---- answers

pub refuses : (text : List ℕ) (line : ℕ) → outcome text ≡ Err line → ReadsReport text (Err (Refused line))
refuses text line h = (h, λ value is. let read : outcome text ≡ Ok value = reading_read text value is in cc)

pub refuses_torn : (text : List ℕ) → is_torn text ≡ true → ReadsReport text (Err (Refused 1))
refuses_torn text h = refuses text 1 (ap (λ (c : Cut). read_lines c.lines c.torn) (cut-torn text h))

pub refuses_head : (text line rest : List ℕ) (found : Option Reading) → IsFront text line rest → option_map so_far found ≡ head_of line → found ≡ None → ReadsReport text (Err (Refused 1))
refuses_head text line rest found front is none =
    let no : head_of line ≡ None = sym is ∙ ap (λ (found : Option Reading). option_map so_far found) none in
    refuses text 1 (outcome-front text line rest front ∙ ap (λ (state : Option ReadReport). read_on 1 state rest) no)

pub begins : (text line rest : List ℕ) (found : Option Reading) (reading : Reading) → IsFront text line rest → option_map so_far found ≡ head_of line → found ≡ Some reading → outcome text ≡ read_on 1 (Some (so_far reading)) rest
begins text line rest found reading front is some =
    let begun : head_of line ≡ Some (so_far reading) = sym is ∙ ap (λ (found : Option Reading). option_map so_far found) some in
    outcome-front text line rest front ∙ ap (λ (state : Option ReadReport). read_on 1 state rest) begun

pub took_none : (told : Option ReadReport) (new : Reading) (b : Bool) → Takes told new (Ok b) → b ≡ false → told ≡ None
took_none told new true h is = absurd (cc)
took_none told new false h is = h

pub took_some : (told : Option ReadReport) (new : Reading) (b : Bool) → Takes told new (Ok b) → b ≡ true → told ≡ Some (so_far new)
took_some told new true h is = h
took_some told new false h is = absurd (cc)

pub goes_on : (text rest line behind : List ℕ) (number : ℕ) (reading next : Reading) → outcome text ≡ read_on number (Some (so_far reading)) rest → IsFront rest line behind → next_of (so_far reading) line ≡ Some (so_far next) →
    outcome text ≡ read_on (number + 1) (Some (so_far next)) behind
goes_on text rest line behind number reading next read front h =
    read ∙ on-front number (so_far reading) rest line behind front ∙ ap (λ (state : Option ReadReport). read_on (number + 1) state behind) h

pub refuses_line : (text rest line behind : List ℕ) (number : ℕ) (reading : Reading) → outcome text ≡ read_on number (Some (so_far reading)) rest → IsFront rest line behind → next_of (so_far reading) line ≡ None → ReadsReport text (Err (Refused (number + 1)))
refuses_line text rest line behind number reading read front h =
    refuses text (number + 1) (read ∙ on-front number (so_far reading) rest line behind front ∙ ap (λ (state : Option ReadReport). read_on (number + 1) state behind) h)

at_end : (text rest : List ℕ) (number : ℕ) (reading : Reading) → outcome text ≡ read_on number (Some (so_far reading)) rest → is_torn rest ≡ true → outcome text ≡ finished number (so_far reading) rest
at_end text rest number reading read torn = read ∙ ap (λ (c : Cut). read_from number (Some (so_far reading)) c.lines c.torn) (cut-torn rest torn)

pub refuses_behind : (text rest : List ℕ) (number : ℕ) (reading : Reading) → outcome text ≡ read_on number (Some (so_far reading)) rest → is_torn rest ≡ true → (is_some reading.end && not (is_empty rest)) ≡ true → ReadsReport text (Err (Refused (number + 1)))
refuses_behind text rest number reading read torn h = refuses text (number + 1) (at_end text rest number reading read torn ∙ rw h refl)

pub reads : (text rest : List ℕ) (number : ℕ) (reading : Reading) → outcome text ≡ read_on number (Some (so_far reading)) rest → is_torn rest ≡ true → (is_some reading.end && not (is_empty rest)) ≡ false → ReadsReport text (Ok (so_far reading))
reads text rest number reading read torn h = read_reading text (so_far reading) (at_end text rest number reading read torn ∙ rw h refl)
