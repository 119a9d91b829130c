-- The three files that `standby` loads, and what they are read as.
use Rattle.run_history.specs.declared.answer.Answer.TheVariants as answer
use Rattle.schedule_file.specs.declared.recorded.Line.{Line}
use Rattle.rx_serve.proofs.Terms.{Global, List, Option, [], ap, arith, length, length-append, subst, ℕ, ◌++◌, ◌+◌, ◌∷◌, ◌≡◌, ◌≤◌, Err, Result, Vec, FileCall, Loaded, Calls, Contents, Answer, Recorded, end_line, head_line, line_text, lines_text, IsReading, calls_then, front_behind, front_first, CallsFront, StandbyValue, counts_limit, program_limit, record_limit, HasFile, LoadsFile, CallsAnswer, LoadsTexts, OfCounts, OfProgram, OfRecord, loading}
use Rattle.rx_serve.proofs.CallingLemmas.{load_front}
use Rattle.rx_serve.proofs.RecordLemmas.{head_line_long}

-- ---- what was loaded

-- files that tell the same have the same file
pub same_loads : {told mid : Option Contents} (name : List ℕ) (limit : ℕ) (result : Result (Vec ℕ Global) Answer) → mid ≡ told → LoadsFile mid name limit result → LoadsFile told name limit result
same_loads name limit result same loads = subst (λ (t : Option Contents). LoadsFile t name limit result) same loads

module _ (told : Option Contents) (value : StandbyValue) where
  -- the program wasn't
  pub no_program : (end : Answer) → LoadsFile told value.program program_limit (Err end) → LoadsTexts told value (Err end)
  no_program answer.TooLarge large = OfProgram large
  no_program answer.FileFault cause = tt
  no_program answer.Memory cause = tt
  no_program _ cause = absurd cause

  -- nor the record behind it
  pub no_record : {program : List ℕ} (end : Answer) → HasFile told value.program program_limit program → LoadsFile told value.recorded record_limit (Err end) → LoadsTexts told value (Err end)
  no_record {program = program} answer.TooLarge file large = OfRecord program file large
  no_record answer.FileFault file cause = tt
  no_record answer.Memory file cause = tt
  no_record _ file cause = absurd cause

  -- nor the counts behind both
  pub no_counts : {program recorded : List ℕ} (end : Answer) → HasFile told value.program program_limit program → HasFile told value.recorded record_limit recorded → LoadsFile told value.counts counts_limit (Err end)
      → LoadsTexts told value (Err end)
  no_counts {program = program} {recorded = recorded} answer.TooLarge file record_file large = OfCounts program recorded file record_file large
  no_counts answer.FileFault file record_file cause = tt
  no_counts answer.Memory file record_file cause = tt
  no_counts _ file record_file cause = absurd cause

-- ---- by which calls

module _ (value : StandbyValue) where
  pub called_none : (old new : Option (List FileCall)) (end : Answer) → CallsAnswer value.program old new end → CallsFront old new (loading value)
  called_none old new end made = front_first (Loaded value.program ∷ []) (Loaded value.recorded ∷ Loaded value.counts ∷ []) (load_front value.program old new end made)

  pub called_one : (old mid new : Option (List FileCall)) (end : Answer) → Calls old mid (Loaded value.program ∷ []) → CallsAnswer value.recorded mid new end → CallsFront old new (loading value)
  called_one old mid new end one made =
      front_behind old mid new (Loaded value.program ∷ []) (Loaded value.recorded ∷ Loaded value.counts ∷ []) one
      (front_first (Loaded value.recorded ∷ []) (Loaded value.counts ∷ []) (load_front value.recorded mid new end made))

  called_both : (old mid new : Option (List FileCall)) → Calls old mid (Loaded value.program ∷ []) → Calls mid new (Loaded value.recorded ∷ []) → Calls old new (Loaded value.program ∷ Loaded value.recorded ∷ [])
  called_both old mid new one two = calls_then old mid new (Loaded value.program ∷ []) (Loaded value.recorded ∷ []) one two

  pub called_two : (old mid later new : Option (List FileCall)) (end : Answer) → Calls old mid (Loaded value.program ∷ []) → Calls mid later (Loaded value.recorded ∷ []) → CallsAnswer value.counts later new end
      → CallsFront old new (loading value)
  called_two old mid later new end one two made =
      front_behind old later new (Loaded value.program ∷ Loaded value.recorded ∷ []) (Loaded value.counts ∷ []) (called_both old mid later one two) (load_front value.counts later new end made)

-- ---- what was read

line_some : (line : Line) → 1 ≤ length (line_text line)
unfolding line_text
line_some line = omega arith

lines_few : (lines : List Line) → length lines ≤ length (lines_text lines)
lines_few [] = omega arith
lines_few (line ∷ lines) = omega (arith, line_some line, lines_few lines, length-append (line_text line) (lines_text lines))

-- a record has no more answers of the allocator than its text has bytes behind the first line
pub answers_few : (text : List ℕ) (recorded : Recorded) → IsReading text recorded → length recorded.lines + 10 ≤ length text
answers_few text recorded reading =
    let head : List ℕ = head_line recorded.version recorded.window recorded.frame in
    let end : List ℕ = end_line recorded.steps recorded.taken in
    let lines : List ℕ = lines_text recorded.lines in
    omega (arith, lines_few recorded.lines, head_line_long recorded.version recorded.window recorded.frame, ap length reading.1, length-append head (lines ++ end), length-append lines end)
