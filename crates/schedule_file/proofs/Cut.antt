-- A record's text that is cut off behind its first line is read.
use Rattle.schedule_file.proofs.Terms.{IfSome, List, None, Option, Some, [], ap, append_assoc, arith, inl, inr, length, refl, sym, ℕ, ◌++◌, ◌<◌, ◌∙◌, ◌∷◌, ◌≡◌, ◌≤◌, append-nil, All-cons, All-head, All-nil, All-tail, All, ◌⊎◌, HasLine, line-cut, IsTorn, Finish, Line, Recorded, MAX_WINDOW, VERSION, Unfinished, end_line, head_line, line_text, lines_text, IsAnswer, IsRecord, text_of, IsCutOf, IsFinish, IsTornBehind, IsUnfinished, IsUnfinishedReading, finish_of, finish_text, text_before}
use Rattle.schedule_file.proofs.LineLemmas.{is_line-head, is_line-line, is_line-end}

-- what is read of lines of answers and the last line, of which these bytes stand in front of the cut, and those behind it
record IsCut (version : ℕ) (lines : List Line) (finish : Finish) (front rest : List ℕ) : Type 0 where
  found : List Line
  more : List Line
  all : found ++ more ≡ lines
  last : Option Finish
  torn : List ℕ
  are : All (IsAnswer version) found
  range : IfSome last IsFinish
  is_torn : IsTornBehind last torn
  front_is : lines_text found ++ (finish_text last ++ torn) ≡ front
  ended : IfSome last (λ (one : Finish). (one ≡ finish) × (rest ≡ []))

is_cut-torn : (version : ℕ) (lines : List Line) (finish : Finish) (front rest : List ℕ) → IsTorn front → IsCut version lines finish front rest
is_cut-torn version lines finish front rest torn =
    record { found = []; more = lines; all = refl; last = None; torn = front; are = All-nil (IsAnswer version); range = tt; is_torn = torn; front_is = refl; ended = tt }

none_behind : (tail rest : List ℕ) → tail ++ rest ≡ [] → (tail ≡ []) × (rest ≡ [])
none_behind [] rest e = (refl, e)
none_behind (byte ∷ tail) rest e = absurd (cc)

is_cut-end : (version : ℕ) (finish : Finish) (front rest : List ℕ) → IsFinish finish → HasLine (end_line finish.steps finish.taken) front rest [] → IsCut version [] finish front rest
is_cut-end version finish front rest range has =
    let none = none_behind has.tail rest has.rest_is in
    record {
      found = [];
      more = [];
      all = refl;
      last = Some finish;
      torn = [];
      are = All-nil (IsAnswer version);
      range = range;
      is_torn = refl;
      front_is = ap (λ bytes. end_line finish.steps finish.taken ++ bytes) (sym none.0) ∙ has.front_is;
      ended = (refl, none.1);
    }

is_cut-more : (version : ℕ) (line : Line) (lines : List Line) (finish : Finish) (front tail rest : List ℕ) → IsAnswer version line → line_text line ++ tail ≡ front → IsCut version lines finish tail rest → IsCut version (line ∷ lines) finish front rest
is_cut-more version line lines finish front tail rest is e cut = record {
  found = line ∷ cut.found;
  more = cut.more;
  all = ap (λ (others : List Line). line ∷ others) cut.all;
  last = cut.last;
  torn = cut.torn;
  are = All-cons (IsAnswer version) line cut.found is cut.are;
  range = cut.range;
  is_torn = cut.is_torn;
  front_is = append_assoc (line_text line) (lines_text cut.found) (finish_text cut.last ++ cut.torn) ∙ ap (λ bytes. line_text line ++ bytes) cut.front_is ∙ e;
  ended = cut.ended;
}

is_cut : (version : ℕ) (lines : List Line) (finish : Finish) (front rest : List ℕ) → All (IsAnswer version) lines → IsFinish finish → front ++ rest ≡ lines_text lines ++ end_line finish.steps finish.taken → IsCut version lines finish front rest
is_cut version [] finish front rest are range e =
    let last : List ℕ = end_line finish.steps finish.taken in
    by (line-cut last front rest [] (is_line-end finish.steps finish.taken (omega (arith, range.0)) (omega (arith, range.1))) (e ∙ sym (append-nil last)))
  where
    by : (IsTorn front × (length front < length (end_line finish.steps finish.taken))) ⊎ HasLine (end_line finish.steps finish.taken) front rest [] → IsCut version [] finish front rest
    by (inl torn) = is_cut-torn version [] finish front rest torn.0
    by (inr has) = is_cut-end version finish front rest range has
is_cut version (line ∷ lines) finish front rest are range e =
    by (line-cut (line_text line) front rest (lines_text lines ++ end_line finish.steps finish.taken) (is_line-line line) (e ∙ append_assoc (line_text line) (lines_text lines) (end_line finish.steps finish.taken)))
    (λ tail same. is_cut version lines finish tail rest (All-tail (IsAnswer version) line lines are) range same)
  where
    by : (IsTorn front × (length front < length (line_text line))) ⊎ HasLine (line_text line) front rest (lines_text lines ++ end_line finish.steps finish.taken)
        → ((tail : List ℕ) → tail ++ rest ≡ lines_text lines ++ end_line finish.steps finish.taken → IsCut version lines finish tail rest) → IsCut version (line ∷ lines) finish front rest
    by (inl torn) more = is_cut-torn version (line ∷ lines) finish front rest torn.0
    by (inr has) more = is_cut-more version line lines finish front has.tail rest (All-head (IsAnswer version) line lines are) has.front_is (more has.tail has.rest_is)

abbrev unfinished_by : Recorded → List Line → Option Finish → Unfinished
unfinished_by value lines finish = record { version = value.version; window = value.window; frame = value.frame; lines = lines; finish = finish }

cut_behind : (value : Recorded) (front tail rest : List ℕ) → IsRecord value → head_line value.version value.window value.frame ++ tail ≡ front → IsCut value.version value.lines (finish_of value) tail rest →
    (read : Unfinished) × (IsUnfinishedReading front read × IsCutOf value rest read)
cut_behind value front tail rest is e cut =
    let read : Unfinished = unfinished_by value cut.found cut.last in
    let ranges : IsUnfinished read = record { some_version = is.some_version; version = is.version; some_window = is.some_window; window = is.window; lines = cut.are; finish = cut.range } in
    let text_is : text_before read cut.torn ≡ front = ap (λ bytes. head_line value.version value.window value.frame ++ bytes) cut.front_is ∙ e in
    let reading : IsUnfinishedReading front read = record { is = ranges; torn = cut.torn; is_torn = cut.is_torn; text_is = text_is } in
    (read, (reading, record { version = refl; window = refl; frame = refl; more = cut.more; lines = cut.all; ended = cut.ended }))

pub cut_read : (value : Recorded) (front rest : List ℕ) → IsRecord value → front ++ rest ≡ text_of value → length (head_line value.version value.window value.frame) ≤ length front →
    (read : Unfinished) × (IsUnfinishedReading front read × IsCutOf value rest read)
cut_read value front rest is e most =
    let version : value.version ≤ VERSION = is.version in
    let window : value.window ≤ MAX_WINDOW = is.window in
    by (line-cut (head_line value.version value.window value.frame) front rest (lines_text value.lines ++ end_line value.steps value.taken) (is_line-head value.version value.window value.frame (omega arith) (omega arith)) e)
  where
    by : (IsTorn front × (length front < length (head_line value.version value.window value.frame))) ⊎ HasLine (head_line value.version value.window value.frame) front rest (lines_text value.lines ++ end_line value.steps value.taken)
        → (read : Unfinished) × (IsUnfinishedReading front read × IsCutOf value rest read)
    by (inl torn) = let few : length front < length (head_line value.version value.window value.frame) = torn.1 in absurd (omega arith)
    by (inr has) = cut_behind value front has.tail rest is has.front_is (is_cut value.version value.lines (finish_of value) has.tail rest is.lines (is.steps, is.taken) has.rest_is)
