-- At which line a text is refused, part by part of the text.
use Rattle.schedule_file.proofs.Terms.{Bool, IfSome, List, None, Option, Some, [], ap, append_assoc, arith, false, length, refl, sym, true, ℕ, ◌++◌, ◌+◌, ◌∙◌, ◌∷◌, ◌≡◌, ◌≤◌, All-head, All-tail, All, if◌then◌else◌, is_some, ◌==◌, Framing, is_line-torn, lines_is, lines_of-line, lines_of-torn, torn_lines, by_option, IsTorn, behind_line, first_line, is_line, lines_of, Finish, Head, Line, MAX_WINDOW, VERSION, Unfinished, end_line, head_line, line_text, lines_text, IsAnswer, judged_from, judged_lines, judged_under, refused_behind, refused_last, refused_line, unfinished_last, unfinished_line, answer_of, end_of, head_of, is_head, IsFinish, IsTornBehind, IsUnfinished, IsUnfinishedReading, finish_text, text_before}
use Rattle.schedule_file.proofs.LineLemmas.{is_line-head, is_line-line, is_line-end}
use Rattle.schedule_file.proofs.Written.{head_of-written, head_of-sound, is_head-from, answer_of-line, answer_of-sound, is_end-from, is_end-facts, end_of-line, end_of-sound, answer_of-end}

empty_head : (version window : ℕ) (frame : Framing) → head_line version window frame ≡ [] → ⊥
unfolding head_line
empty_head version window frame h = cc

empty_end : (steps taken : ℕ) → end_line steps taken ≡ [] → ⊥
unfolding end_line
empty_end steps taken h = cc

-- ---- the first line

pub refused-no_head : (judge : ℕ → List (List ℕ) → Option ℕ) (text : List ℕ) → head_of (first_line text) ≡ None → judged_lines judge (lines_of text) ≡ Some 1
refused-no_head judge [] h = refl
refused-no_head judge (byte ∷ bytes) h = ap (judged_lines judge) (lines_is (byte ∷ bytes)) ∙ rw h refl

pub refused-head : (judge : ℕ → List (List ℕ) → Option ℕ) (text : List ℕ) (head : Head) → head_of (first_line text) ≡ Some head → judged_lines judge (lines_of text) ≡ judged_from judge head.version 2 (lines_of (behind_line text))
refused-head judge [] head h = absurd (empty_head head.version head.window head.frame (head_of-sound [] head h).1)
refused-head judge (byte ∷ bytes) head h = ap (judged_lines judge) (lines_is (byte ∷ bytes)) ∙ rw h refl

-- ---- lines of answers

pub refused-answers : (judge : ℕ → List (List ℕ) → Option ℕ) (version number : ℕ) (lines : List Line) (rest : List ℕ) → All (IsAnswer version) lines → judged_from judge version number (lines_of (lines_text lines ++ rest)) ≡ judged_from judge version (number + length lines) (lines_of rest)
refused-answers judge version number [] rest are = let same : number ≡ number + 0 = omega arith in ap (λ n. judged_from judge version n (lines_of rest)) same
refused-answers judge version number (line ∷ lines) rest are =
    let behind : List ℕ = lines_text lines ++ rest in
    let cut : lines_of ((line_text line ++ lines_text lines) ++ rest) ≡ line_text line ∷ lines_of behind
    = ap lines_of (append_assoc (line_text line) (lines_text lines) rest) ∙ lines_of-line (line_text line) behind (is_line-line line) in
    let first : answer_of version (line_text line) ≡ Some line = answer_of-line version line (All-head (IsAnswer version) line lines are) in
    let step : judged_from judge version number (line_text line ∷ lines_of behind) ≡ judged_from judge version (number + 1) (lines_of behind) = rw first refl in
    let more : number + 1 + length lines ≡ number + length (line ∷ lines) = omega arith in
    ap (judged_from judge version number) cut ∙ step ∙ refused-answers judge version (number + 1) lines rest (All-tail (IsAnswer version) line lines are) ∙ ap (λ n. judged_from judge version n (lines_of rest)) more

-- behind the lines of answers
pub refused-behind : (judge : ℕ → List (List ℕ) → Option ℕ) (version number : ℕ) (text : List ℕ) → answer_of version (first_line text) ≡ None → judged_from judge version number (lines_of text) ≡ judge number (lines_of text)
refused-behind judge version number [] h = refl
refused-behind judge version number (byte ∷ bytes) h = ap (judged_from judge version number) (lines_is (byte ∷ bytes)) ∙ rw h refl ∙ ap (judge number) (sym (lines_is (byte ∷ bytes)))

-- ---- the last line

-- a whole line that is no last line is refused
pub unfinished-no_end : (number : ℕ) (text : List ℕ) → end_of (first_line text) ≡ None → is_line (first_line text) ≡ true → unfinished_last number (lines_of text) ≡ Some number
unfinished-no_end number [] h k = absurd (cc)
unfinished-no_end number (byte ∷ bytes) h k = ap (unfinished_last number) (lines_is (byte ∷ bytes)) ∙ rw (h, k) refl

pub unfinished-end : (number : ℕ) (text : List ℕ) (finish : Finish) → end_of (first_line text) ≡ Some finish → unfinished_last number (lines_of text) ≡ refused_behind (number + 1) (lines_of (behind_line text))
unfinished-end number [] finish h = absurd (empty_end finish.steps finish.taken (end_of-sound [] finish h).1)
unfinished-end number (byte ∷ bytes) finish h = ap (unfinished_last number) (lines_is (byte ∷ bytes)) ∙ rw h refl

pub refused_behind-some : (number : ℕ) (rest : List ℕ) → (length rest == 0) ≡ false → refused_behind number (lines_of rest) ≡ Some number
refused_behind-some number [] h = absurd (cc)
refused_behind-some number (byte ∷ bytes) h = ap (refused_behind number) (lines_is (byte ∷ bytes))

-- ---- what stands behind the lines of answers in a text that has a reading

answer_of-torn : (version : ℕ) (torn : List ℕ) → IsTorn torn → answer_of version torn ≡ None
answer_of-torn version torn is =
    by_option (answer_of version torn) (λ line h. let whole : is_line torn ≡ true = ap is_line (sym (answer_of-sound version torn line h).1) ∙ is_line-line line in let other : is_line torn ≡ false = is_line-torn torn is in cc)

end_torn : (torn : List ℕ) (finish : Finish) → IsTorn torn → end_of torn ≡ Some finish → ⊥
end_torn torn finish is h =
    let parts = end_of-sound torn finish h in
    let facts = is_end-facts finish parts.0 in
    let whole : is_line torn ≡ true = ap is_line (sym parts.1) ∙ is_line-end finish.steps finish.taken (omega (arith, facts.0)) (omega (arith, facts.1)) in
    let other : is_line torn ≡ false = is_line-torn torn is in
    cc

end_of-torn : (torn : List ℕ) → IsTorn torn → end_of torn ≡ None
end_of-torn torn is = by_option (end_of torn) (λ finish h. end_torn torn finish is h)

-- the line behind those of answers, if there is one
abbrev pub last_lines : Option Finish → List ℕ → List (List ℕ)
last_lines None torn = torn_lines torn
last_lines (Some finish) torn = end_line finish.steps finish.taken ∷ []

pub lines_of-last : (finish : Option Finish) (torn : List ℕ) → IfSome finish IsFinish → IsTornBehind finish torn → lines_of (finish_text finish ++ torn) ≡ last_lines finish torn
lines_of-last None torn range is = lines_of-torn torn is
lines_of-last (Some finish) torn range is =
    ap (λ bytes. lines_of (end_line finish.steps finish.taken ++ bytes)) is
    ∙ lines_of-line (end_line finish.steps finish.taken) [] (is_line-end finish.steps finish.taken (omega (arith, range.0)) (omega (arith, range.1)))

-- it is no line of an answer, and it is read as the last line where that is there
pub record IsRead (version : ℕ) (line : List ℕ) (finish : Option Finish) : Type 0 where
  pub no_answer : answer_of version line ≡ None
  pub as_end : end_of line ≡ finish

pub read_end : (version : ℕ) (finish : Finish) → IsFinish finish → IsRead version (end_line finish.steps finish.taken) (Some finish)
read_end version finish range = record { no_answer = answer_of-end version finish.steps finish.taken; as_end = end_of-line finish (is_end-from finish range.0 range.1) }

pub read_torn : (version : ℕ) (torn : List ℕ) → IsTorn torn → IsRead version torn None
read_torn version torn is = record { no_answer = answer_of-torn version torn is; as_end = end_of-torn torn is }

unrefused_lines : (version number : ℕ) (finish : Option Finish) (torn : List ℕ) → IfSome finish IsFinish → IsTornBehind finish torn → judged_from unfinished_last version number (last_lines finish torn) ≡ None
unrefused_lines version number None [] range is = refl
unrefused_lines version number None (byte ∷ bytes) range is =
    let read = read_torn version (byte ∷ bytes) is in
    let none : answer_of version (byte ∷ bytes) ≡ None = read.no_answer in
    let no_end : end_of (byte ∷ bytes) ≡ None = read.as_end in
    let torn : is_line (byte ∷ bytes) ≡ false = is_line-torn (byte ∷ bytes) is in
    rw (none, no_end, torn) refl
unrefused_lines version number (Some finish) torn range is =
    let read = read_end version finish range in
    let none : answer_of version (end_line finish.steps finish.taken) ≡ None = read.no_answer in
    let ended : end_of (end_line finish.steps finish.taken) ≡ Some finish = read.as_end in
    rw (none, ended) refl

-- as a record's it is refused where the last line is missing
abbrev pub missing : Option Finish → ℕ → Option ℕ
missing None number = Some number
missing (Some finish) number = None

missing_lines : (version number : ℕ) (finish : Option Finish) (torn : List ℕ) → IfSome finish IsFinish → IsTornBehind finish torn → judged_from refused_last version number (last_lines finish torn) ≡ missing finish number
missing_lines version number None [] range is = refl
missing_lines version number None (byte ∷ bytes) range is =
    let read = read_torn version (byte ∷ bytes) is in
    let none : answer_of version (byte ∷ bytes) ≡ None = read.no_answer in
    let no_end : end_of (byte ∷ bytes) ≡ None = read.as_end in
    rw (none, no_end) refl
missing_lines version number (Some finish) torn range is =
    let read = read_end version finish range in
    let none : answer_of version (end_line finish.steps finish.taken) ≡ None = read.no_answer in
    let ended : end_of (end_line finish.steps finish.taken) ≡ Some finish = read.as_end in
    rw (none, ended) refl

-- ---- a text that has a reading

abbrev head_from : Unfinished → Head
head_from value = record { version = value.version; window = value.window; frame = value.frame }

pub read_head : (value : Unfinished) → IsUnfinished value → head_of (head_line value.version value.window value.frame) ≡ Some (head_from value)
read_head value is =
    let ok : is_head (head_from value) ≡ true
    = is_head-from (head_from value) (record { some_version = is.some_version; version = is.version; some_window = is.some_window; window = is.window }) in
    head_of-written (head_from value) ok

pub cut_head : (value : Unfinished) (rest : List ℕ) → IsUnfinished value → lines_of (head_line value.version value.window value.frame ++ rest) ≡ head_line value.version value.window value.frame ∷ lines_of rest
cut_head value rest is =
    let version : value.version ≤ VERSION = is.version in
    let window : value.window ≤ MAX_WINDOW = is.window in
    lines_of-line (head_line value.version value.window value.frame) rest (is_line-head value.version value.window value.frame (omega arith) (omega arith))

-- what is judged of such a text is judged behind its lines of answers
judged_reading : (judge : ℕ → List (List ℕ) → Option ℕ) (value : Unfinished) (torn : List ℕ) → IsUnfinished value → IsTornBehind value.finish torn →
    judged_lines judge (lines_of (text_before value torn)) ≡ judged_from judge value.version (2 + length value.lines) (last_lines value.finish torn)
judged_reading judge value torn is is_torn =
    let behind : List ℕ = finish_text value.finish ++ torn in
    let rest : List ℕ = lines_text value.lines ++ behind in
    let first : head_of (head_line value.version value.window value.frame) ≡ Some (head_from value) = read_head value is in
    let step : judged_lines judge (head_line value.version value.window value.frame ∷ lines_of rest) ≡ judged_from judge value.version 2 (lines_of rest) = rw first refl in
    ap (judged_lines judge) (cut_head value rest is) ∙ step ∙ refused-answers judge value.version 2 value.lines behind is.lines
    ∙ ap (judged_from judge value.version (2 + length value.lines)) (lines_of-last value.finish torn is.finish is_torn)

pub unfinished-unrefused : (text : List ℕ) (value : Unfinished) → IsUnfinishedReading text value → unfinished_line text ≡ None
unfinished-unrefused text value reading =
    ap (λ bytes. judged_lines unfinished_last (lines_of bytes)) (sym reading.text_is)
    ∙ judged_reading unfinished_last value reading.torn reading.is reading.is_torn
    ∙ unrefused_lines value.version (2 + length value.lines) value.finish reading.torn reading.is.finish reading.is_torn

-- as a record's the text is refused where the last line is missing, and nowhere else
pub reading-missing : (text : List ℕ) (value : Unfinished) → IsUnfinishedReading text value → refused_line text ≡ missing value.finish (2 + length value.lines)
reading-missing text value reading =
    ap (λ bytes. judged_lines refused_last (lines_of bytes)) (sym reading.text_is)
    ∙ judged_reading refused_last value reading.torn reading.is reading.is_torn
    ∙ missing_lines value.version (2 + length value.lines) value.finish reading.torn reading.is.finish reading.is_torn

-- ---- what is refused without a last line is refused with one

last_too : (number line : ℕ) (lines : List (List ℕ)) → unfinished_last number lines ≡ Some line → refused_last number lines ≡ Some line
last_too number line [] h = absurd (cc)
last_too number line (first ∷ lines) h = by (is_some (end_of first)) (is_line first) h
  where
    by : (ended whole : Bool) → (if ended then refused_behind (number + 1) lines else if whole then Some number else None) ≡ Some line → (if ended then refused_behind (number + 1) lines else Some number) ≡ Some line
    by true whole h = h
    by false true h = h
    by false false h = absurd (cc)

from_too : (version number line : ℕ) (lines : List (List ℕ)) → judged_from unfinished_last version number lines ≡ Some line → judged_from refused_last version number lines ≡ Some line
from_too version number line [] h = last_too number line [] h
from_too version number line (first ∷ lines) h = by (is_some (answer_of version first)) (from_too version (number + 1) line lines) (last_too number line (first ∷ lines)) h
  where
    by : (answer : Bool) → (judged_from unfinished_last version (number + 1) lines ≡ Some line → judged_from refused_last version (number + 1) lines ≡ Some line)
        → (unfinished_last number (first ∷ lines) ≡ Some line → refused_last number (first ∷ lines) ≡ Some line)
        → (if answer then judged_from unfinished_last version (number + 1) lines else unfinished_last number (first ∷ lines)) ≡ Some line
        → (if answer then judged_from refused_last version (number + 1) lines else refused_last number (first ∷ lines)) ≡ Some line
    by true rest last h = rest h
    by false rest last h = last h

under_too : (line : ℕ) (head : Option Head) (lines : List (List ℕ)) → judged_under unfinished_last head lines ≡ Some line → judged_under refused_last head lines ≡ Some line
under_too line None lines h = h
under_too line (Some head) lines h = from_too head.version 2 line lines h

lines_too : (line : ℕ) (lines : List (List ℕ)) → judged_lines unfinished_last lines ≡ Some line → judged_lines refused_last lines ≡ Some line
lines_too line [] h = h
lines_too line (first ∷ lines) h = under_too line (head_of first) lines h

pub refused_too : (text : List ℕ) (line : ℕ) → unfinished_line text ≡ Some line → refused_line text ≡ Some line
refused_too text line h = lines_too line (lines_of text) h

-- ---- a text that is refused has no reading

pub no_unfinished_reading : (text : List ℕ) (line : ℕ) → unfinished_line text ≡ Some line → (value : Unfinished) → IsUnfinishedReading text value → ⊥
no_unfinished_reading text line h value reading =
    let none : unfinished_line text ≡ None = unfinished-unrefused text value reading in
    cc
