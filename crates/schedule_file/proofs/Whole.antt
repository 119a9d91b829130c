-- What the parts of a text say of the whole.
use Rattle.schedule_file.proofs.Terms.{Err, IfSome, List, None, Ok, Option, Some, [], ap, append_assoc, arith, false, length, length-append, refl, subst, sym, true, ℕ, ◌++◌, ◌+◌, ◌<◌, ◌∙◌, ◌∷◌, ◌≡◌, append-nil, flat_map-append, All-push, ◌==◌, first-behind, no_bytes, torn-first, behind_line, first_line, is_line, lines_of, Finish, Head, Line, Refused, ReadsUnfinished, end_line, head_line, line_text, lines_text, IsAnswer, judged_from, refused_behind, unfinished_last, unfinished_line, AreAllLines, IsBehind, unfinished_with, answer_of, end_of, head_of, IsFinish, IsTornBehind, finish_text}
use Rattle.schedule_file.proofs.Written.{head_of-sound, is_head-facts, answer_of-sound, end_of-sound, is_end-facts}
use Rattle.schedule_file.proofs.Refusing.{refused-no_head, refused-head, refused-answers, refused-behind, unfinished-no_end, unfinished-end, refused_behind-some, no_unfinished_reading}

refuses : (text : List ℕ) (line : ℕ) → unfinished_line text ≡ Some line → ReadsUnfinished text (Err (Refused line))
refuses text line h = (h, no_unfinished_reading text line h)

pub refuses_head : (text line : List ℕ) → line ≡ first_line text → None ≡ head_of line → ReadsUnfinished text (Err (Refused 1))
refuses_head text line line_is none = refuses text 1 (refused-no_head unfinished_last text (ap head_of (sym line_is) ∙ sym none))

-- what was found of a text: its first line, the lines of answers, and what stands behind them
pub record IsFound (text : List ℕ) (head : Head) (lines : List Line) (behind : List ℕ) : Type 0 where
  pub is_head : head_of (first_line text) ≡ Some head
  pub are : AreAllLines head.version (behind_line text) lines behind

pub found : (text line rest : List ℕ) (head : Head) (lines : List Line) (behind : List ℕ) → line ≡ first_line text → rest ≡ behind_line text → Some head ≡ head_of line → AreAllLines head.version rest lines behind → IsFound text head lines behind
found text line rest head lines behind line_is rest_is is_head are = record {
  is_head = ap head_of (sym line_is) ∙ sym is_head;
  are = subst (λ (bytes : List ℕ). AreAllLines head.version bytes lines behind) rest_is are;
}

-- what is refused behind the lines of answers is refused from the number of the next line on
refused_next : (text : List ℕ) (head : Head) (lines : List Line) (behind : List ℕ) → IsFound text head lines behind → unfinished_line text ≡ unfinished_last (length lines + 2) (lines_of behind)
refused_next text head lines behind is =
    let number : 2 + length lines ≡ length lines + 2 = omega arith in
    refused-head unfinished_last text head is.is_head
    ∙ ap (λ bytes. judged_from unfinished_last head.version 2 (lines_of bytes)) (sym is.are.behind.whole)
    ∙ refused-answers unfinished_last head.version 2 lines behind is.are.behind.are_answers
    ∙ ap (λ n. judged_from unfinished_last head.version n (lines_of behind)) number
    ∙ refused-behind unfinished_last head.version (length lines + 2) behind is.are.no_more

pub refuses_line : (text : List ℕ) (head : Head) (lines : List Line) (behind last : List ℕ) → IsFound text head lines behind → last ≡ first_line behind → None ≡ end_of last → is_line last ≡ true → ReadsUnfinished text (Err (Refused (length lines + 2)))
refuses_line text head lines behind last is last_is none whole =
    refuses text (length lines + 2)
    (refused_next text head lines behind is
    ∙ unfinished-no_end (length lines + 2) behind (ap end_of (sym last_is) ∙ sym none) (ap is_line (sym last_is) ∙ whole))

pub refuses_more : (text : List ℕ) (head : Head) (lines : List Line) (behind last after : List ℕ) (finish : Finish) → IsFound text head lines behind → last ≡ first_line behind → Some finish ≡ end_of last → after ≡ behind_line behind → (length after == 0) ≡ false → ReadsUnfinished text (Err (Refused (length lines + 2 + 1)))
refuses_more text head lines behind last after finish is last_is is_end after_is some =
    refuses text (length lines + 2 + 1)
    (refused_next text head lines behind is
    ∙ unfinished-end (length lines + 2) behind finish (ap end_of (sym last_is) ∙ sym is_end)
    ∙ ap (λ bytes. refused_behind (length lines + 2 + 1) (lines_of bytes)) (sym after_is)
    ∙ refused_behind-some (length lines + 2 + 1) after some)

-- a reading by what was found and what stands behind it
reads : (text : List ℕ) (head : Head) (lines : List Line) (behind torn : List ℕ) (finish : Option Finish) → IsFound text head lines behind → IfSome finish IsFinish → IsTornBehind finish torn → finish_text finish ++ torn ≡ behind → ReadsUnfinished text (Ok (unfinished_with head lines finish))
reads text head lines behind torn finish is range is_torn behind_is =
    let first = head_of-sound (first_line text) head is.is_head in
    let heads = is_head-facts head first.0 in
    record {
      is = record { some_version = heads.some_version; version = heads.version; some_window = heads.some_window; window = heads.window; lines = is.are.behind.are_answers; finish = range };
      torn = torn;
      is_torn = is_torn;
      text_is = ap (λ bytes. head_line head.version head.window head.frame ++ (lines_text lines ++ bytes)) behind_is
          ∙ ap (λ bytes. bytes ++ (lines_text lines ++ behind)) first.1
          ∙ ap (λ bytes. first_line text ++ bytes) is.are.behind.whole
          ∙ first-behind text;
    }

pub reads_torn : (text : List ℕ) (head : Head) (lines : List Line) (behind last : List ℕ) → IsFound text head lines behind → last ≡ first_line behind → is_line last ≡ false → ReadsUnfinished text (Ok (unfinished_with head lines None))
reads_torn text head lines behind last is last_is torn = reads text head lines behind behind None is tt (torn-first behind (ap is_line (sym last_is) ∙ torn)) refl

pub reads_finish : (text : List ℕ) (head : Head) (lines : List Line) (behind last after : List ℕ) (finish : Finish) → IsFound text head lines behind → last ≡ first_line behind → Some finish ≡ end_of last → after ≡ behind_line behind → (length after == 0) ≡ true → ReadsUnfinished text (Ok (unfinished_with head lines (Some finish)))
reads_finish text head lines behind last after finish is last_is is_end after_is none =
    let ended = end_of-sound last finish (sym is_end) in
    let whole : end_line finish.steps finish.taken ++ [] ≡ behind
    = ap (λ bytes. bytes ++ []) (ended.1 ∙ last_is) ∙ ap (λ bytes. first_line behind ++ bytes) (sym (no_bytes after none) ∙ after_is) ∙ first-behind behind in
    reads text head lines behind [] (Some finish) is (is_end-facts finish ended.0) refl whole

-- ---- a loop over the lines of answers

lines_push : (lines : List Line) (line : Line) → lines_text (lines ++ line ∷ []) ≡ lines_text lines ++ line_text line
lines_push lines line = flat_map-append line_text lines (line ∷ []) ∙ ap (λ bytes. lines_text lines ++ bytes) (append-nil (line_text line))

pub takes_answer : (version : ℕ) (text rest line behind : List ℕ) (lines : List Line) (answer : Line) → IsBehind version text lines rest → line ≡ first_line rest → behind ≡ behind_line rest → Some answer ≡ answer_of version line → IsBehind version text (lines ++ answer ∷ []) behind
takes_answer version text rest line behind lines answer are line_is behind_is is_answer =
    let parts = answer_of-sound version line answer (sym is_answer) in
    record {
      whole = ap (λ front. front ++ behind) (lines_push lines answer)
          ∙ append_assoc (lines_text lines) (line_text answer) behind
          ∙ ap (λ bytes. lines_text lines ++ bytes) (ap (λ front. front ++ behind) (parts.1 ∙ line_is) ∙ ap (λ bytes. first_line rest ++ bytes) behind_is ∙ first-behind rest)
          ∙ are.whole;
      are_answers = All-push (IsAnswer version) lines answer are.are_answers parts.0;
    }

line_some : (line : Line) → 0 < length (line_text line)
unfolding line_text
line_some line = omega arith

-- the line of an answer isn't empty, so less is left behind it
pub takes_some : (version : ℕ) (rest line behind : List ℕ) (answer : Line) → line ≡ first_line rest → behind ≡ behind_line rest → Some answer ≡ answer_of version line → length behind < length rest
takes_some version rest line behind answer line_is behind_is is_answer =
    let parts = answer_of-sound version line answer (sym is_answer) in
    let both : length line + length behind ≡ length rest
    = sym (length-append line behind) ∙ ap (λ bytes. length (bytes ++ behind)) line_is ∙ ap (λ bytes. length (first_line rest ++ bytes)) behind_is ∙ ap length (first-behind rest) in
    let some : 0 < length (line_text answer) = line_some answer in
    let same : length (line_text answer) ≡ length line = ap length parts.1 in
    omega arith
