-- A replay that gives nothing is converted to the text of its run.
use Rattle.schedule_file.specs.declared.recorded.Line.{Line}
use Rattle.replay.specs.Giving as giving
use Rattle.run_history.specs.declared.answer.Answer.TheVariants as answer
use Rattle.routes.proofs.Terms.{All, List, None, Option, Some, [], ap, arith, inr, length, map, refl, subst, sym, ℕ, ◌++◌, ◌∙◌, ◌∷◌, ◌≡◌, All-head, All-tail, Err, IsErrOf, Ok, Result, Rose, Stream, Entry, pieces_in, Choice, Image, Answer, Recorded, VERSION, choice_line, choice_lines, end_line, head_line, line_of, lines_text, IsAnswer, IsAskOf, Difference, AreOfLines, HasAsk, IsOfLine, ConvertsToItself, ComparesTrunk, ReplaysTrunk, TakesReplay, ComparesConverted, Concludes, converted}

-- what was taken is less to say where memory ran out
takes_memory : (source later : Option Stream) (entries : List Entry) → TakesReplay source later entries answer.Memory
takes_memory None later entries = tt
takes_memory (Some stream) later entries = tt

-- memory ran out for a text
at_memory : {image : Image} {recording : Recorded} {source later : Option Stream} {counted : ℕ} → ReplaysTrunk image recording source later None None answer.Finished counted → ReplaysTrunk image recording source later None None answer.Memory counted
at_memory {source = source} {later = later} is = record {
  entries = is.entries;
  replay = is.replay;
  coming = is.coming;
  asked = is.asked;
  is = is.is;
  ends = giving.All is.replay.state.sends (pieces_in is.entries) is.ends.3;
  whole = tt;
  all_counted = is.all_counted;
  took = is.took;
  takes = takes_memory source later is.entries;
  wrote = is.wrote;
  writes = tt;
  breaks = inr tt;
}

-- what a conversion leaves, by what its replay leaves
pub converts_by : (image : Image) (recording : Recorded) (source later : Option Stream) (counted : ℕ) (came : Answer) (found : Option Difference) (choices : List Choice) (result : Result (List ℕ) Answer) → (is : ComparesTrunk image recording source later None None came found counted)
    → choices ≡ is.replays.replay.choices → (came ≡ answer.WriteFault → ⊥) → Concludes recording came choices result → ComparesConverted image recording source later result found counted
converts_by image recording source later counted answer.Finished found choices (Ok text) is all no_fault concludes = record { converts = record { replayed = is.replays; text_is = concludes ∙ ap (converted recording) all }; differs = is.differs }
converts_by image recording source later counted answer.Finished found choices (Err end) is all no_fault concludes =
    subst (λ (e : Answer). ComparesConverted image recording source later (Err e) found counted) (sym concludes) (record { converts = at_memory is.replays; differs = is.differs })
converts_by image recording source later counted answer.WriteFault found choices result is all no_fault concludes = absurd (no_fault refl)
converts_by image recording source later counted _ found choices result is all no_fault concludes =
    subst (λ (r : Result (List ℕ) Answer). ComparesConverted image recording source later r found counted) (sym concludes) (record { converts = is.replays; differs = is.differs })

-- no fault of a sink is answered that never fails
pub no_write_fault : {now : ℕ} → now ≡ 0 → (Rose 0 now → ⊥)
no_write_fault none rose = absurd (omega (arith, none, rose))

-- a fault of reading is the replay's
pub read_fault_is : (recording : Recorded) (came : Answer) (choices : List Choice) (result : Result (List ℕ) Answer) → Concludes recording came choices result → IsErrOf result answer.ReadFault → came ≡ answer.ReadFault
read_fault_is recording answer.Finished choices (Ok text) concludes is = absurd (let no : ⊥ = cc in no)
read_fault_is recording answer.Finished choices (Err end) concludes is =
    let same : end ≡ answer.ReadFault = cc in
    let no : answer.Memory ≡ answer.ReadFault = sym concludes ∙ same in
    absurd (cc)
read_fault_is recording _ choices result concludes is = cc

-- lines that say what was asked are those of their answers
own_line : (line : Line) (choice : Choice) → IsAskOf VERSION line.ask → IsOfLine line choice → line_of choice ≡ line
own_line line choice known is = λ i. record { ask = of_ask line.ask known is.asked i; at = is.address i; zeroed = is.mark i; carried = is.carried i }
  where
    of_ask : (ask : Option _) → IsAskOf VERSION ask → HasAsk ask choice → Some choice.ask ≡ ask
    of_ask None none has = absurd (let no : ⊥ = omega (arith, none) in no)
    of_ask (Some ask) known has = ap (λ a. Some a) has

own_lines : (lines : List Line) (choices : List Choice) → All (IsAnswer VERSION) lines → AreOfLines lines choices → length choices ≡ length lines → map line_of choices ≡ lines
own_lines [] [] answers are many = refl
own_lines (line ∷ lines) [] answers are many = absurd (omega (arith, many))
own_lines [] (choice ∷ choices) answers are many = absurd are
own_lines (line ∷ lines) (choice ∷ choices) answers are many =
    let here : line_of choice ≡ line = own_line line choice (All-head (IsAnswer VERSION) line lines answers).asked are.0 in
    let rest : map line_of choices ≡ lines = own_lines lines choices (All-tail (IsAnswer VERSION) line lines answers) are.1 (omega (arith, many)) in
    λ i. here i ∷ rest i

-- so a record of version 2 is converted to its own text
pub converts_to_itself : ConvertsToItself
converts_to_itself image recording source later text counted converts lawful version =
    let answers : All (IsAnswer VERSION) recording.lines = subst (λ (n : ℕ). All (IsAnswer n) recording.lines) version lawful.lines in
    let lines = own_lines recording.lines converts.replayed.replay.choices answers converts.replayed.whole.1 converts.replayed.whole.2 in
    converts.text_is
    ∙ ap (λ (all : List Line). head_line VERSION recording.window recording.frame ++ (lines_text all ++ end_line recording.steps recording.taken)) lines
    ∙ ap (λ (n : ℕ). head_line n recording.window recording.frame ++ (lines_text recording.lines ++ end_line recording.steps recording.taken)) (sym version)

-- the lines of answers, one by one
pub lines_are : (choices : List Choice) → choice_lines choices ≡ lines_text (map line_of choices)
lines_are [] = refl
lines_are (choice ∷ choices) = ap (λ rest. choice_line choice ++ rest) (lines_are choices)
