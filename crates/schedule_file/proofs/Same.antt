-- A text has one reading at most, and one where no line is refused.
use Rattle.std.specs.List.{concat}
use Rattle.std.proofs.lemmas.Option.{same_Some}
use Rattle.schedule_file.proofs.Terms.{Bool, IfSome, List, None, Option, Some, [], ap, append_assoc, arith, cond, false, inl, inr, length, refl, subst, sym, true, ℕ, ◌++◌, ◌+◌, ◌<◌, ◌^◌, ◌∙◌, ◌∷◌, ◌≡◌, ◌≤◌, append-nil, flat_map-append, All-cons, All-head, All-nil, All-tail, All, is_some, map, ◌≢◌, MAX_ITEMS, Choice, Framing, AreLines, are_lines, is_line-torn, joined, lines_of-line, IsTorn, is_line, lines_of, Finish, Head, Line, Recorded, MAX_WINDOW, VERSION, Unfinished, choice_line, choice_lines, end_line, head_line, line_of, line_text, lines_text, IsAnswer, IsChoice, IsReading, IsRecord, record_of, text_of, judged_from, judged_lines, judged_under, refused_behind, refused_line, unfinished_last, unfinished_line, unfinished_with, answer_of, end_of, head_of, IsFinish, IsTornBehind, IsUnfinished, IsUnfinishedReading, finish_text, text_before, unfinished_of}
use Rattle.schedule_file.proofs.LineLemmas.{is_line-line}
use Rattle.schedule_file.proofs.Written.{head_of-sound, is_head-facts, answer_of-line, answer_of-sound, is_end-facts, end_of-sound}
use Rattle.schedule_file.proofs.Refusing.{IsRead, cut_head, last_lines, lines_of-last, missing, read_end, read_head, read_torn, reading-missing, refused_too}
use Rattle.schedule_file.proofs.Finished.{recorded_with, reads_finished, unfinished_reading}

-- ---- a reader of lines

abbrev lines_by : Option Line → List Line → List Line
lines_by (Some line) rest = line ∷ rest
lines_by None rest = []

abbrev finish_by : Option Line → Option Finish → Option Finish → Option Finish
finish_by (Some line) last rest = rest
finish_by None last rest = last

-- the answers whose lines stand in front, and what the line behind them is read as
abbrev lines_read : ℕ → List (List ℕ) → List Line
lines_read version [] = []
lines_read version (line ∷ lines) = lines_by (answer_of version line) (lines_read version lines)

abbrev finish_read : ℕ → List (List ℕ) → Option Finish
finish_read version [] = None
finish_read version (line ∷ lines) = finish_by (answer_of version line) (end_of line) (finish_read version lines)

abbrev read_by : Option Head → List (List ℕ) → Option Unfinished
read_by (Some head) lines = Some (unfinished_with head (lines_read head.version lines) (finish_read head.version lines))
read_by None lines = None

abbrev read_of : List (List ℕ) → Option Unfinished
read_of [] = None
read_of (line ∷ lines) = read_by (head_of line) lines

-- what is read of some lines
record AreRead (version : ℕ) (text : List (List ℕ)) (lines : List Line) (finish : Option Finish) : Type 0 where
  as_lines : lines_read version text ≡ lines
  as_finish : finish_read version text ≡ finish

read_alone : (version : ℕ) (line : List ℕ) (finish : Option Finish) → IsRead version line finish → AreRead version (line ∷ []) [] finish
read_alone version line finish is =
    let none : answer_of version line ≡ None = is.no_answer in
    record { as_lines = rw none refl; as_finish = rw none is.as_end }

read_last : (version : ℕ) (finish : Option Finish) (torn : List ℕ) → IfSome finish IsFinish → IsTornBehind finish torn → AreRead version (last_lines finish torn) [] finish
read_last version None [] range is = record { as_lines = refl; as_finish = refl }
read_last version None (byte ∷ bytes) range is = read_alone version (byte ∷ bytes) None (read_torn version (byte ∷ bytes) is)
read_last version (Some finish) torn range is = read_alone version (end_line finish.steps finish.taken) (Some finish) (read_end version finish range)

read_more : (version : ℕ) (line : Line) (text : List (List ℕ)) (lines : List Line) (finish : Option Finish) → IsAnswer version line → AreRead version text lines finish → AreRead version (line_text line ∷ text) (line ∷ lines) finish
read_more version line text lines finish is are =
    let first : answer_of version (line_text line) ≡ Some line = answer_of-line version line is in
    record { as_lines = rw first (ap (λ rest. line ∷ rest) are.as_lines); as_finish = rw first are.as_finish }

read_lines : (version : ℕ) (lines : List Line) (finish : Option Finish) (text : List ℕ) → All (IsAnswer version) lines → AreRead version (lines_of text) [] finish → AreRead version (lines_of (lines_text lines ++ text)) lines finish
read_lines version [] finish text are h = h
read_lines version (line ∷ lines) finish text are h =
    let behind : List ℕ = lines_text lines ++ text in
    let cut : lines_of ((line_text line ++ lines_text lines) ++ text) ≡ line_text line ∷ lines_of behind
    = ap lines_of (append_assoc (line_text line) (lines_text lines) text) ∙ lines_of-line (line_text line) behind (is_line-line line) in
    let more : AreRead version (lines_of behind) lines finish = read_lines version lines finish text (All-tail (IsAnswer version) line lines are) h in
    subst (λ (cut : List (List ℕ)). AreRead version cut (line ∷ lines) finish) (sym cut) (read_more version line (lines_of behind) lines finish (All-head (IsAnswer version) line lines are) more)

read_same : (head : Head) (a lines : List Line) (b finish : Option Finish) → a ≡ lines → b ≡ finish → Some (unfinished_with head a b) ≡ Some (unfinished_with head lines finish)
read_same head a lines b finish h k = rw (h, k) refl

read_of-reading : (text : List ℕ) (value : Unfinished) → IsUnfinishedReading text value → read_of (lines_of text) ≡ Some value
read_of-reading text value reading =
    let head : Head = record { version = value.version; window = value.window; frame = value.frame } in
    let torn : List ℕ = reading.torn in
    let behind : List ℕ = finish_text value.finish ++ torn in
    let rest : List ℕ = lines_text value.lines ++ behind in
    let line : List ℕ = head_line value.version value.window value.frame in
    let last : AreRead value.version (lines_of behind) [] value.finish
    = subst (λ (cut : List (List ℕ)). AreRead value.version cut [] value.finish) (sym (lines_of-last value.finish torn reading.is.finish reading.is_torn)) (read_last value.version value.finish torn reading.is.finish reading.is_torn) in
    let are = read_lines value.version value.lines value.finish behind reading.is.lines last in
    let first : head_of line ≡ Some head = read_head value reading.is in
    let step : read_of (line ∷ lines_of rest) ≡ Some (unfinished_with head (lines_read value.version (lines_of rest)) (finish_read value.version (lines_of rest))) = rw first refl in
    ap (λ bytes. read_of (lines_of bytes)) (sym reading.text_is) ∙ ap read_of (cut_head value rest reading.is) ∙ step
    ∙ read_same head (lines_read value.version (lines_of rest)) value.lines (finish_read value.version (lines_of rest)) value.finish are.as_lines are.as_finish

pub one_unfinished : (text : List ℕ) (a b : Unfinished) → IsUnfinishedReading text a → IsUnfinishedReading text b → a ≡ b
one_unfinished text a b is_a is_b = same_Some _ _ (sym (read_of-reading text a is_a) ∙ read_of-reading text b is_b)

-- a record by its reading
abbrev recorded_by : Recorded → Option Finish → Unfinished → Recorded
recorded_by other (Some finish) read = record { version = read.version; window = read.window; frame = read.frame; lines = read.lines; steps = finish.steps; taken = finish.taken }
recorded_by other None read = other

pub one_reading : (a b : Recorded) → IsRecord a → IsRecord b → text_of a ≡ text_of b → a ≡ b
one_reading a b is_a is_b same =
    ap (λ (read : Unfinished). recorded_by a read.finish read)
    (one_unfinished (text_of b) (unfinished_of a) (unfinished_of b) (unfinished_reading (text_of b) a (is_a, same)) (unfinished_reading (text_of b) b (is_b, refl)))

-- ---- a text none of whose lines is refused

-- what unrefused lines behind the first one say
record Says (version : ℕ) (text : List ℕ) : Type 0 where
  lines : List Line
  finish : Option Finish
  torn : List ℕ
  are : All (IsAnswer version) lines
  range : IfSome finish IsFinish
  is_torn : IsTornBehind finish torn
  text_is : lines_text lines ++ (finish_text finish ++ torn) ≡ text

says_torn : (version : ℕ) (torn : List ℕ) → IsTorn torn → Says version torn
says_torn version torn is = record { lines = []; finish = None; torn = torn; are = All-nil (IsAnswer version); range = tt; is_torn = is; text_is = refl }

nothing_behind : (number : ℕ) (lines : List (List ℕ)) → refused_behind number lines ≡ None → concat lines ≡ []
nothing_behind number [] h = refl
nothing_behind number (line ∷ lines) h = absurd (cc)

says_end : (version number : ℕ) (line : List ℕ) (lines : List (List ℕ)) (finish : Finish) → end_of line ≡ Some finish → refused_behind (number + 1) lines ≡ None → Says version (line ++ concat lines)
says_end version number line lines finish e h =
    let parts = end_of-sound line finish e in
    record {
      lines = [];
      finish = Some finish;
      torn = [];
      are = All-nil (IsAnswer version);
      range = is_end-facts finish parts.0;
      is_torn = refl;
      text_is = ap (λ front. front ++ []) parts.1 ∙ ap (λ rest. line ++ rest) (sym (nothing_behind (number + 1) lines h));
    }

-- a line that isn't the last one is torn where it isn't refused, and nothing stands behind it
says_rest : (version number : ℕ) (line : List ℕ) (lines : List (List ℕ)) (whole : Bool) → is_line line ≡ whole → cond whole (Some number) None ≡ None → AreLines (line ∷ lines) → Says version (line ++ concat lines)
says_rest version number line lines true e h are = absurd (cc)
says_rest version number line lines false e h (inl whole) = let both : is_line line ≡ true = whole.0 in absurd (cc)
says_rest version number line lines false e h (inr torn) =
    subst (λ (text : List ℕ). Says version text) (sym (append-nil line) ∙ ap (λ rest. line ++ concat rest) (sym torn.1)) (says_torn version line torn.0)

says_last : (version number : ℕ) (line : List ℕ) (lines : List (List ℕ)) (finish : Option Finish) → end_of line ≡ finish → cond (is_some finish) (refused_behind (number + 1) lines) (cond (is_line line) (Some number) None) ≡ None → AreLines (line ∷ lines) → Says version (line ++ concat lines)
says_last version number line lines (Some finish) e h are = says_end version number line lines finish e h
says_last version number line lines None e h are = says_rest version number line lines (is_line line) refl h are

says_answer : (version : ℕ) (line text : List ℕ) (answer : Line) → answer_of version line ≡ Some answer → Says version text → Says version (line ++ text)
says_answer version line text answer e says =
    let parts = answer_of-sound version line answer e in
    record {
      lines = answer ∷ says.lines;
      finish = says.finish;
      torn = says.torn;
      are = All-cons (IsAnswer version) answer says.lines parts.0 says.are;
      range = says.range;
      is_torn = says.is_torn;
      text_is = append_assoc (line_text answer) (lines_text says.lines) (finish_text says.finish ++ says.torn) ∙ ap (λ rest. line_text answer ++ rest) says.text_is ∙ ap (λ front. front ++ text) parts.1;
    }

-- behind the line of an answer the other lines are lines
behind_answer : (version : ℕ) (line : List ℕ) (lines : List (List ℕ)) (answer : Line) → answer_of version line ≡ Some answer → AreLines (line ∷ lines) → AreLines lines
behind_answer version line lines answer e (inl whole) = whole.1
behind_answer version line lines answer e (inr torn) =
    let is : is_line line ≡ true = ap is_line (sym (answer_of-sound version line answer e).1) ∙ is_line-line answer in
    let other : is_line line ≡ false = is_line-torn line torn.0 in
    absurd (cc)

says_line : (version number : ℕ) (line : List ℕ) (lines : List (List ℕ)) (answer : Option Line) → answer_of version line ≡ answer →
    cond (is_some answer) (judged_from unfinished_last version (number + 1) lines) (unfinished_last number (line ∷ lines)) ≡ None → AreLines (line ∷ lines) →
    (judged_from unfinished_last version (number + 1) lines ≡ None → AreLines lines → Says version (concat lines)) → Says version (line ++ concat lines)
says_line version number line lines None e h are more = says_last version number line lines (end_of line) refl h are
says_line version number line lines (Some answer) e h are more = says_answer version line (concat lines) answer e (more h (behind_answer version line lines answer e are))

says : (version number : ℕ) (lines : List (List ℕ)) → judged_from unfinished_last version number lines ≡ None → AreLines lines → Says version (concat lines)
says version number [] h are = says_torn version [] (All-nil (λ (byte : ℕ). byte ≢ 10))
says version number (line ∷ lines) h are = says_line version number line lines (answer_of version line) refl h are (says version (number + 1) lines)

whole_head : (line : List ℕ) (lines : List (List ℕ)) (head : Head) → head_of line ≡ Some head → AreLines (line ∷ lines) → AreLines lines
whole_head line lines head e (inl whole) = whole.1
whole_head line lines head e (inr torn) = subst (λ (rest : List (List ℕ)). AreLines rest) (sym torn.1) tt

read_first : (line : List ℕ) (lines : List (List ℕ)) (head : Option Head) → head_of line ≡ head → judged_under unfinished_last head lines ≡ None → AreLines (line ∷ lines) → (value : Unfinished) × IsUnfinishedReading (line ++ concat lines) value
read_first line lines None e h are = absurd (cc)
read_first line lines (Some head) e h are =
    let parts = head_of-sound line head e in
    let rest = says head.version 2 lines h (whole_head line lines head e are) in
    let range = is_head-facts head parts.0 in
    let value : Unfinished = unfinished_with head rest.lines rest.finish in
    let is : IsUnfinished value = record { some_version = range.some_version; version = range.version; some_window = range.some_window; window = range.window; lines = rest.are; finish = rest.range } in
    let text_is : text_before value rest.torn ≡ line ++ concat lines = ap (λ behind. head_line head.version head.window head.frame ++ behind) rest.text_is ∙ ap (λ front. front ++ concat lines) parts.1 in
    (value, record { is = is; torn = rest.torn; is_torn = rest.is_torn; text_is = text_is })

read_all : (lines : List (List ℕ)) → judged_lines unfinished_last lines ≡ None → AreLines lines → (value : Unfinished) × IsUnfinishedReading (concat lines) value
read_all [] h are = absurd (cc)
read_all (line ∷ lines) h are = read_first line lines (head_of line) refl h are

pub unfinished-unless : (text : List ℕ) → unfinished_line text ≡ None → (value : Unfinished) × IsUnfinishedReading text value
unfinished-unless text h =
    let found = read_all (lines_of text) h (are_lines text) in
    (found.0, subst (λ (bytes : List ℕ). IsUnfinishedReading bytes found.0) (joined text) found.1)

-- a text that is refused nowhere as a record's isn't refused without a last line either
fewer : (text : List ℕ) (found : Option ℕ) → unfinished_line text ≡ found → refused_line text ≡ None → found ≡ None
fewer text None e h = refl
fewer text (Some line) e h = let too : refused_line text ≡ Some line = refused_too text line e in absurd (cc)

by_finish : (text : List ℕ) (read : Unfinished) (finish : Option Finish) → read.finish ≡ finish → IsUnfinishedReading text read → refused_line text ≡ None → (value : Recorded) × IsReading text value
by_finish text read None e reading h =
    let short : refused_line text ≡ Some (2 + length read.lines) = reading-missing text read reading ∙ ap (λ (o : Option Finish). missing o (2 + length read.lines)) e in
    absurd (cc)
by_finish text read (Some finish) e reading h = (recorded_with read finish, reads_finished text read finish reading e)

pub unrefused : (text : List ℕ) → refused_line text ≡ None → (value : Recorded) × IsReading text value
unrefused text h =
    let found = unfinished-unless text (fewer text (unfinished_line text) refl h) in
    by_finish text found.0 found.0.finish refl found.1 h

-- ---- a text in pieces

lines-choices : (choices : List Choice) → lines_text (map line_of choices) ≡ choice_lines choices
lines-choices [] = refl
lines-choices (choice ∷ choices) = ap (λ rest. choice_line choice ++ rest) (lines-choices choices)

pub text-written : (window : ℕ) (frame : Framing) (choices : List Choice) (steps taken : ℕ) → text_of (record_of window frame choices steps taken) ≡ head_line VERSION window frame ++ (choice_lines choices ++ end_line steps taken)
text-written window frame choices steps taken = ap (λ lines. head_line VERSION window frame ++ (lines ++ end_line steps taken)) (lines-choices choices)

pub in_pieces : (window : ℕ) (frame : Framing) (choices more : List Choice) (steps taken : ℕ) → text_of (record_of window frame (choices ++ more) steps taken) ≡ head_line VERSION window frame ++ choice_lines choices ++ choice_lines more ++ end_line steps taken
in_pieces window frame choices more steps taken =
    let head : List ℕ = head_line VERSION window frame in
    let front : List ℕ = choice_lines choices in
    let back : List ℕ = choice_lines more in
    let last : List ℕ = end_line steps taken in
    text-written window frame (choices ++ more) steps taken
    ∙ ap (λ lines. head ++ (lines ++ last)) (flat_map-append choice_line choices more)
    ∙ sym (append_assoc head (front ++ back) last)
    ∙ ap (λ lines. lines ++ last) (sym (append_assoc head front back))

are_answers : (choices : List Choice) → All IsChoice choices → All (IsAnswer VERSION) (map line_of choices)
are_answers [] are = All-nil (IsAnswer VERSION)
are_answers (choice ∷ choices) are =
    All-cons (IsAnswer VERSION) (line_of choice) (map line_of choices) (All-head IsChoice choice choices are) (are_answers choices (All-tail IsChoice choice choices are))

pub written_is_read : (window : ℕ) (frame : Framing) (choices : List Choice) (steps taken : ℕ) → 1 ≤ window → window ≤ MAX_WINDOW → All IsChoice choices → steps < 2 ^ 63 → taken ≤ MAX_ITEMS → IsReading (head_line VERSION window frame ++ (choice_lines choices ++ end_line steps taken)) (record_of window frame choices steps taken)
written_is_read window frame choices steps taken some most are small few =
    let is : IsRecord (record_of window frame choices steps taken)
    = record { some_version = omega arith; version = omega arith; some_window = some; window = most; lines = are_answers choices are; steps = small; taken = few } in
    (is, text-written window frame choices steps taken)
