use Rattle.file_notes.proofs.Terms.{arith, length, ◌<◌, take_more}
use Rattle.file_notes.proofs.AskLemmas.{more_asks, more_lines}
use Rattle.file_notes.proofs.adding.choice_bytes.Goals as goal

pub choices-preserved : goal.choices-preserved
choices-preserved c =
    let less : c.choices.choice-index < length c.args.list.now = grind arith in
    let more = take_more c.args.list.now c.choices.choice-index _ less in
    record { lines = more_lines _ _ _ more _ _ c.choices.invariant.lines c.in_ok-add_choice.ensures.added; asks = more_asks _ _ _ more c.choices.invariant.asks c.know_numbers.ensures }
