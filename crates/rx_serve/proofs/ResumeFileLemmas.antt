-- The four files that `resume` loads, and what they are read as.
use Rattle.run_history.specs.declared.answer.Answer.TheVariants as answer
use Rattle.schedule_file.specs.Telling.{answer_of}
use Rattle.report_reading.specs.Cutting as report_cut
use Rattle.report_reading.specs.Refusals as report
use Rattle.rx_serve.proofs.Terms.{Bool, List, None, Ok, Option, Some, [], ap, arith, false, length, refl, subst, true, ℕ, ◌+◌, ◌-◌, ◌∷◌, ◌≡◌, ◌≤◌, Err, if◌then◌else◌, is_some, ◌==◌, FileCall, Loaded, Calls, Contents, Answer, Unfinished, is_line, judged_from, judged_lines, judged_under, lines_of, refused_behind, unfinished_last, unfinished_line, end_of, head_of, ReadReport, calls_then, front_behind, front_first, CallsFront, ResumeValue, counts_limit, program_limit, record_limit, report_limit, HasFile, LoadsFile, CallsAnswer, FourTexts, HasHandingCause, IsHanded, LargeCounts, LargeRecord, LargeReport, LoadsFour, ReadsAdopted, loading_four}
use Rattle.rx_serve.proofs.CallingLemmas.{load_front}
use Rattle.rx_serve.proofs.RecordLemmas.{LeavesFew, behind_few, head_long, lines_leave}

-- ---- what was loaded

module _ (told : Option Contents) (value : ResumeValue) where
  -- the program was, and the record wasn't
  pub four_no_record : {program : List ℕ} (end : Answer) → HasFile told value.program program_limit program → LoadsFile told value.recorded record_limit (Err end) → LoadsFour told value (Err end)
  four_no_record {program = program} answer.TooLarge file large = LargeRecord program file large
  four_no_record answer.FileFault file cause = tt
  four_no_record answer.Memory file cause = tt
  four_no_record _ file cause = absurd cause

  -- nor the report
  pub four_no_report : {program recorded : List ℕ} (end : Answer) → HasFile told value.program program_limit program → HasFile told value.recorded record_limit recorded
      → LoadsFile told value.reported report_limit (Err end) → LoadsFour told value (Err end)
  four_no_report {program = program} {recorded = recorded} answer.TooLarge file record_file large = LargeReport program recorded file record_file large
  four_no_report answer.FileFault file record_file cause = tt
  four_no_report answer.Memory file record_file cause = tt
  four_no_report _ file record_file cause = absurd cause

  -- nor the counts behind all three
  pub four_no_counts : {program recorded reported : List ℕ} (end : Answer) → HasFile told value.program program_limit program → HasFile told value.recorded record_limit recorded
      → HasFile told value.reported report_limit reported → LoadsFile told value.counts counts_limit (Err end) → LoadsFour told value (Err end)
  four_no_counts {program = program} {recorded = recorded} {reported = reported} answer.TooLarge file record_file report_file large = LargeCounts program recorded reported file record_file report_file large
  four_no_counts answer.FileFault file record_file report_file cause = tt
  four_no_counts answer.Memory file record_file report_file cause = tt
  four_no_counts _ file record_file report_file cause = absurd cause

-- ---- by which calls

module _ (value : ResumeValue) where
  pub four_called_none : (old new : Option (List FileCall)) (end : Answer) → CallsAnswer value.program old new end → CallsFront old new (loading_four value)
  four_called_none old new end made =
      front_first (Loaded value.program ∷ []) (Loaded value.recorded ∷ Loaded value.reported ∷ Loaded value.counts ∷ []) (load_front value.program old new end made)

  pub four_called_one : (old mid new : Option (List FileCall)) (end : Answer) → Calls old mid (Loaded value.program ∷ []) → CallsAnswer value.recorded mid new end → CallsFront old new (loading_four value)
  four_called_one old mid new end one made =
      front_behind old mid new (Loaded value.program ∷ []) (Loaded value.recorded ∷ Loaded value.reported ∷ Loaded value.counts ∷ []) one
      (front_first (Loaded value.recorded ∷ []) (Loaded value.reported ∷ Loaded value.counts ∷ []) (load_front value.recorded mid new end made))

  pub four_called_two : (old mid later new : Option (List FileCall)) (end : Answer) → Calls old mid (Loaded value.program ∷ []) → Calls mid later (Loaded value.recorded ∷ []) → CallsAnswer value.reported later new end
      → CallsFront old new (loading_four value)
  four_called_two old mid later new end one two made =
      front_behind old later new (Loaded value.program ∷ Loaded value.recorded ∷ []) (Loaded value.reported ∷ Loaded value.counts ∷ [])
      (calls_then old mid later (Loaded value.program ∷ []) (Loaded value.recorded ∷ []) one two)
      (front_first (Loaded value.reported ∷ []) (Loaded value.counts ∷ []) (load_front value.reported later new end made))

  three_called : (old mid later last : Option (List FileCall)) → Calls old mid (Loaded value.program ∷ []) → Calls mid later (Loaded value.recorded ∷ []) → Calls later last (Loaded value.reported ∷ [])
      → Calls old last (Loaded value.program ∷ Loaded value.recorded ∷ Loaded value.reported ∷ [])
  three_called old mid later last one two three =
      calls_then old later last (Loaded value.program ∷ Loaded value.recorded ∷ []) (Loaded value.reported ∷ [])
      (calls_then old mid later (Loaded value.program ∷ []) (Loaded value.recorded ∷ []) one two) three

  pub four_called_three : (old mid later last new : Option (List FileCall)) (end : Answer) → Calls old mid (Loaded value.program ∷ []) → Calls mid later (Loaded value.recorded ∷ [])
      → Calls later last (Loaded value.reported ∷ []) → CallsAnswer value.counts last new end → CallsFront old new (loading_four value)
  four_called_three old mid later last new end one two three made =
      front_behind old last new (Loaded value.program ∷ Loaded value.recorded ∷ Loaded value.reported ∷ []) (Loaded value.counts ∷ []) (three_called old mid later last one two three)
      (load_front value.counts last new end made)

-- ---- what was read

-- the record was read, and the report wasn't
pub no_adopted : (texts : FourTexts) (value : Unfinished) (bytes : List ℕ) (end : Answer) → bytes ≡ texts.reported → IsHanded texts.recorded value → ReadsAdopted bytes (Err end) → HasHandingCause texts end
no_adopted texts value bytes (answer.ReportRefused line) same handed cause = ((value, handed), subst (λ (text : List ℕ). ReadsAdopted text (Err (answer.ReportRefused line))) same cause)
no_adopted texts value bytes answer.Memory same handed cause = tt
no_adopted texts value bytes _ same handed cause = absurd cause

-- ---- a line at which a record is refused is one of its lines

last_few : (number line : ℕ) (lines : List (List ℕ)) → unfinished_last number lines ≡ Some line → line ≤ number + length lines
last_few number line [] is = let none : None ≡ Some line = is in absurd (cc)
last_few number line (first ∷ lines) is = by (is_some (end_of first)) (is_line first) is
  where
    by : (end whole : Bool) → (if end then refused_behind (number + 1) lines else if whole then Some number else None) ≡ Some line → line ≤ number + length (first ∷ lines)
    by true whole is = let few = behind_few (number + 1) line lines is in omega (arith, few)
    by false true is = let same : number ≡ line = cc in omega (arith, same)
    by false false is = let none : None ≡ Some line = is in absurd (cc)

unfinished_from_few : (version number line : ℕ) (lines : List (List ℕ)) → judged_from unfinished_last version number lines ≡ Some line → line ≤ number + length lines
unfinished_from_few version number line [] is = last_few number line [] is
unfinished_from_few version number line (first ∷ lines) is = by (is_some (answer_of version first)) (unfinished_from_few version (number + 1) line lines) (last_few number line (first ∷ lines)) is
  where
    by : (answers : Bool) → (judged_from unfinished_last version (number + 1) lines ≡ Some line → line ≤ number + 1 + length lines)
        → (unfinished_last number (first ∷ lines) ≡ Some line → line ≤ number + length (first ∷ lines))
        → (if answers then judged_from unfinished_last version (number + 1) lines else unfinished_last number (first ∷ lines)) ≡ Some line → line ≤ number + length (first ∷ lines)
    by true rest last is = let few = rest is in omega (arith, few)
    by false rest last is = last is

unfinished_few : (line : ℕ) (lines : List (List ℕ)) (most : ℕ) → LeavesFew lines most → judged_lines unfinished_last lines ≡ Some line → line ≤ 1 + (most - 9)
unfinished_few line [] most leaves is = let same : 1 ≡ line = cc in omega (arith, same)
unfinished_few line (first ∷ lines) most leaves is =
    elim (head_of first) as (λ head. head_of first ≡ head → judged_under unfinished_last head lines ≡ Some line → line ≤ 1 + (most - 9)) [
      | None ↦ λ at none. let same : 1 ≡ line = cc in omega (arith, same)
      | Some head ↦ λ at some. let few = unfinished_from_few head.version 2 line lines some in let long = head_long first (ap is_some at) in omega (arith, few, long, leaves)
    ] refl is

pub unfinished_line_few : (text : List ℕ) (line : ℕ) → unfinished_line text ≡ Some line → line ≤ 1 + (length text - 9)
unfinished_line_few text line is = unfinished_few line (lines_of text) (length text) (lines_leave text) is

-- ---- so is one at which a report is refused

cut_few : (text : List ℕ) → length (report_cut.cut text).lines ≤ length text
cut_few [] = omega arith
cut_few (byte ∷ bytes) = by (byte == 10) (report_cut.cut bytes).lines (report_cut.cut bytes).torn (cut_few bytes)
  where
    onto_same : (lines : List (List ℕ)) (torn : List ℕ) → length (report_cut.onto byte lines torn).lines ≤ length lines
    onto_same [] torn = omega arith
    onto_same (line ∷ lines) torn = omega arith

    by : (ends : Bool) (lines : List (List ℕ)) (torn : List ℕ) → length lines ≤ length bytes
        → length (if ends then report_cut.cut_into ((byte ∷ []) ∷ lines) torn else report_cut.onto byte lines torn).lines ≤ length (byte ∷ bytes)
    by true lines torn few = omega (arith, few)
    by false lines torn few = let same = onto_same lines torn in omega (arith, few, same)

finished_few : (number line : ℕ) (value : ReadReport) (torn : List ℕ) → report.finished number value torn ≡ Err line → line ≤ number + 1
finished_few number line value torn is = by _ is
  where
    by : (behind : Bool) → (if behind then Err (number + 1) else Ok value) ≡ Err line → line ≤ number + 1
    by true is = let same : number + 1 ≡ line = cc in omega (arith, same)
    by false is = let none : ⊥ = cc in absurd none

read_from_few : (number line : ℕ) (state : Option ReadReport) (lines : List (List ℕ)) (torn : List ℕ) → report.read_from number state lines torn ≡ Err line → line ≤ number + length lines + 1
read_from_few number line None lines torn is = let same : number ≡ line = cc in omega (arith, same)
read_from_few number line (Some value) [] torn is = let few = finished_few number line value torn is in omega (arith, few)
read_from_few number line (Some value) (first ∷ lines) torn is = let few = read_from_few (number + 1) line (report.next_of value first) lines torn is in omega (arith, few)

read_lines_few : (line : ℕ) (lines : List (List ℕ)) (torn : List ℕ) → report.read_lines lines torn ≡ Err line → line ≤ length lines + 1
read_lines_few line [] torn is = let same : 1 ≡ line = cc in omega (arith, same)
read_lines_few line (first ∷ lines) torn is = let few = read_from_few 1 line (report.head_of first) lines torn is in omega (arith, few)

pub report_line_few : (text : List ℕ) (line : ℕ) → report.outcome text ≡ Err line → line ≤ 1 + length text
report_line_few text line is =
    omega (arith, read_lines_few line (report_cut.cut text).lines (report_cut.cut text).torn is, cut_few text)
