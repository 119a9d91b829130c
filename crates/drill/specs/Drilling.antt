-- What a drill is: a session of guest keys and the events of a generator, told by one telling, and a summary of it.
use Rattle.std.specs.Prelude.{◌≡◌, ◌≢◌, ◌⊎◌, ℕ, List, [], length, false, Option, None, Some}
use Rattle.run_history.specs.declared.answer.Answer.TheVariants as answer
use Rattle.session_history.specs.declared.ends.SessionEnd.TheVariants as session_end
use Rattle.session_history.specs.declared.ends.Stop.TheVariants as stop
use Rattle.session_history.specs.Heeding.{items_in}
use Rattle.rv_asm.specs.Assembling.{AnswersFault, IsAssembled}
use Rattle.rv_asm.specs.Refusals.{refusal_of}
use Rattle.example_guests.specs.Guests.{keys_text}
use Rattle.drill.specs.Terms.{Appends, list_any, Prefix, LinkEvent, Coming, Piece, events_in, pieces_in, Choice, Image, Answer, SessionEnd, HasPassedAll, journal_of, end_answer, Episode, Noted, noted, IsOutcome, Outcome, Telling, all_steps, episodes_of, story_of}
use Rattle.drill.specs.declared.summary.Summary.{Summary}
use Rattle.drill.specs.Generator.{drill_events}
use Rattle.drill.specs.Settings.{keeping, rules, settings}
use Rattle.drill.specs.Summary.{end_status, passed_bytes, summary_text}

-- what the notes of a session tell before it, and behind it
abbrev pub nothing_noted : Noted
nothing_noted = noted (Some []) (Some []) None

abbrev pub was_noted : List Choice → List Episode → Noted
was_noted choices episodes = noted (Some choices) (Some episodes) None

-- A session of an image was served to an end over a link that plays these events, and this sums it up.
-- One telling has all of it: the session's account, the recoveries with all that was tried, and the end that it came to.
pub record SumsUp (events : List LinkEvent) (image : Image) (counted : ℕ) (summary : Summary) : Type 0 where
  pub telling : Telling
  pub end : SessionEnd
  pub coming : Option Coming
  pub outcome : Outcome
  pub stops : outcome.stop ≡ stop.Ends end
  pub choices : List Choice
  pub episodes : List Episode
  pub is : IsOutcome rules image keeping coming telling outcome nothing_noted (was_noted choices episodes) counted
  -- the events that it took are the first of these, and at Finished all of them
  pub plays : Prefix (events_in (journal_of telling.account)) events
  pub plays_all : end ≡ session_end.Finished → events_in (journal_of telling.account) ≡ events
  -- no event was refused as out of order
  pub never_refused : (kind offset : ℕ) → end ≢ session_end.InputRefused kind offset
  -- at Finished every item that was received was taken
  pub takes_all : end ≡ session_end.Finished → telling.account.survivor.now.state.machine.taken ≡ length (items_in rules.bounds (journal_of telling.account))
  -- so many instructions were done: those of the survivors, and those of all trials
  pub all_counted : counted ≡ all_steps rules image (story_of telling) telling.walk
  -- connections still open were passed all that the run emits on them, and none was found gone
  pub passed_all : HasPassedAll rules telling.account
  pub none_gone : list_any (λ (piece : Piece). piece.gone) (pieces_in (journal_of telling.account)) ≡ false
  -- the numbers are those of the telling
  pub items_are : summary.items ≡ telling.account.survivor.now.state.machine.taken
  pub episodes_are : summary.episodes ≡ length (episodes_of (story_of telling) telling.walk)
  pub bytes_are : summary.bytes ≡ passed_bytes (journal_of telling.account)
  pub status_is : Some summary.status ≡ end_status (end_answer end)

-- A session of the image of guest keys, over the events of a drill, came to an end, and this sums it up.
pub record HasDrilled (seed count counted : ℕ) (summary : Summary) : Type 0 where
  pub image : Image
  pub program : IsAssembled keys_text settings.window image
  pub sums_up : SumsUp (drill_events seed count) image counted summary

-- so it was, and the first bytes of its five lines were written, perhaps none
pub record WritesFront (seed count counted : ℕ) (old new : Option (List ℕ)) : Type 0 where
  pub summary : Summary
  pub drilled : HasDrilled seed count counted summary
  pub front : List ℕ
  pub first : Prefix front (summary_text seed count summary)
  pub wrote : Appends old new front

-- and its five lines were written
pub record WritesLines (seed count counted : ℕ) (old new : Option (List ℕ)) : Type 0 where
  pub summary : Summary
  pub drilled : HasDrilled seed count counted summary
  pub wrote : Appends old new (summary_text seed count summary)

-- What a drill leaves. At Finished its session came to an end, whatever end that was, and its five lines stand on the output.
-- At AsmRefused the text of the guest has this refusal, and nothing was written or run.
-- At WriteFault the session came to an end, and some first bytes of the lines were written.
-- So it may be where memory ran out; or nothing was written, as where the session itself was broken off.
abbrev pub DrillEnds : ℕ → ℕ → ℕ → Option (List ℕ) → Option (List ℕ) → Answer → Type 0
DrillEnds seed count counted old new answer.Finished = WritesLines seed count counted old new
DrillEnds seed count counted old new (answer.AsmRefused kind line) = AnswersFault (refusal_of keys_text) kind line × (new ≡ old) × (counted ≡ 0)
DrillEnds seed count counted old new answer.WriteFault = WritesFront seed count counted old new
DrillEnds seed count counted old new answer.Memory = (new ≡ old) ⊎ WritesFront seed count counted old new
DrillEnds seed count counted old new _ = ⊥
