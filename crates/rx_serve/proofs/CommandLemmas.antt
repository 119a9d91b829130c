-- The record that a `run` left is replayed by a `replay` and converted by a `convert` over the same input.
use Rattle.std.proofs.Common.{Result}
use Rattle.command_line.specs.Ranges.{AreInRange}
use Rattle.guest_image.proofs.Same.{same_image}
use Rattle.run_history.specs.declared.answer.Answer.TheVariants as answer
use Rattle.schedule_file.proofs.Same.{written_is_read}
use Rattle.schedule_file.specs.Laws.{OneReading}
use Rattle.replay.specs.Laws.{HasSession}
use Rattle.routes.specs.Laws.{IsWithin, IsAsRecorded, IsConverted, ConvertsToItself, SameBytesAreReplayed, SessionIsConverted}
use Rattle.rx_serve.proofs.Terms.{List, None, Ok, Option, Some, [], ap, append-nil, arith, inl, inr, length, map, refl, subst, sym, take, ℕ, ◌++◌, ◌<◌, ◌∙◌, ◌≡◌, ◌≤◌, take-append-drop, none-some, same_Some, All, Err, IsSomeAnd, Stream, Contents, Image, IsImage, refusal, Answer, journal_of, IsEnd, items_in, NoneFailed, noted, Recorded, line_of, IsChoice, IsRecord, record_of, text_of, AreAsks, unnoted_of, keeping_for, bounds_of, ConvertsTrunk, ReplaysTrunk, WritesSends, ConvertValue, ReplayValue, RunValue, End, program_limit, Outside, Writes, options_of, rule_of, rules_of_run, window_of, trunk_of, replayed, HasServed, HasBeenReplayed, HasRecord, HasRecording, HasReplayCause, window_in, LeavesText, HasSameOutside, IsReplayedBy, RecordsAreConverted, RecordsAreReplayed, SecondVersionStays}
use Rattle.rx_serve.proofs.ConvertLemmas.{as_replay}
use Rattle.rx_serve.proofs.ChoiceRanges.{choices_fine}
use Rattle.rx_serve.proofs.NotingLemmas.{few_counts}
use Rattle.rx_serve.proofs.SettingsLemmas.{window_few, options_in_range}

window_some : (value : RunValue) → AreInRange value → 1 ≤ value.window
window_some value (window, others) = window.0

-- what a record is answered for by a replay of it
as_replayed : (again : Contents) (replaying : ReplayValue) (end : Answer) → IsAsRecorded end → IsReplayedBy again replaying end
as_replayed again replaying answer.Finished is = tt
as_replayed again replaying answer.ReadFault is = tt
as_replayed again replaying answer.WriteFault is = tt
as_replayed again replaying answer.Memory is = tt
as_replayed again replaying _ is = absurd is

not_large : (found : Option (List ℕ)) (file : List ℕ) → found ≡ Some file → length file ≤ program_limit → IsSomeAnd found (λ bytes. program_limit < length bytes) → ⊥
not_large None file there small large = absurd (none-some file there)
not_large (Some bytes) file there small large = omega (arith, small, large, ap length (same_Some bytes file there))

module _ (value : RunValue) (replaying : ReplayValue) (files files_later again : Contents) (input input_again : Stream) (old new : Outside) (end : End)
    (served : HasServed value (trunk_of (record old { input = Some input }) new) (record old { files = Some files; input = Some input }) (record new { files = Some files_later }) end) (ranges : AreInRange value) (ends : IsEnd end.answer)
    (outside : HasSameOutside value replaying files files_later again input input_again) where
  -- the record that the run left
  abbrev left : Recorded
  left = record_of value.window value.frame served.noted.choices end.steps end.taken

  all_choices : served.noted.choices ≡ served.noted.serves.telling.account.survivor.now.choices
  all_choices =
      let notes = served.noted.serves.is.notes in
      let now = served.noted.serves.telling.account.survivor.now.choices in
      notes.choices_noted ∙ sym (append-nil (take end.recorded now)) ∙ ap (λ l. take end.recorded now ++ l) (sym (sym notes.tail_is ∙ served.headline.all_recorded ends)) ∙ take-append-drop end.recorded now

  is_record : IsRecord left
  is_record =
      let serves = served.noted.serves in
      let few = few_counts (options_of value) (options_in_range value ranges (options_of value) refl) (rule_of value.guard) served.noted in
      let fine =
      choices_fine served.image (items_in (rules_of_run value).bounds (journal_of serves.telling.account)) serves.telling.account.survivor.now.choices serves.telling.account.survivor.now.steps serves.telling.account.survivor.now.state
      (subst AreAsks all_choices served.noted.asks) serves.is.is.ended.account.ran in
      (written_is_read value.window value.frame served.noted.choices end.steps end.taken (window_some value ranges) (window_few value ranges) (subst (All IsChoice) (sym all_choices) fine) few.1 few.0).0

  has_session : HasSession (rules_of_run value) served.noted.serves.telling.account left
  has_session = record { frame = refl; lines = inl (ap (λ list. map line_of list) all_choices); steps = sym served.noted.serves.is.steps_are; taken = sym served.noted.serves.is.taken_is }

  text_there : again replaying.recording ≡ Some (text_of left)
  text_there = outside.recording ∙ (served.texts ends).record_has

  program_there : again replaying.program ≡ Some served.program.file
  program_there = outside.program ∙ served.program.has

  same_text : (text : List ℕ) → again replaying.recording ≡ Some text → text ≡ text_of left
  same_text text there = same_Some text (text_of left) (sym there ∙ text_there)

  same_program : (program : List ℕ) → again replaying.program ≡ Some program → program ≡ served.program.file
  same_program program there = same_Some program served.program.file (sym there ∙ program_there)

  -- a record that was loaded is that one
  same_record : OneReading → (recorded : Recorded) → HasRecord (Some again) replaying.recording recorded → recorded ≡ left
  same_record one recorded found = one recorded left found.is.0 is_record (found.is.1 ∙ same_text found.text found.file.has)

  -- so a replay begins
  pub begins_so : OneReading → (answered : Answer) → HasReplayCause (Some again) replaying answered → IsReplayedBy again replaying answered
  begins_so one answer.TooLarge (inl program) = absurd (not_large (again replaying.program) served.program.file program_there served.program.small program)
  begins_so one answer.TooLarge (inr recording) = recording.behind
  begins_so one (answer.RecordRefused line) cause =
      let none = cause.behind in
      absurd (none.none left (is_record, sym (same_text none.text none.file.has)))
  begins_so one (answer.ElfRefused kind) cause =
      let refused = cause.behind in
      let window : window_in refused.recorded ≡ window_of value = ap window_in (same_record one refused.recorded refused.recording) in
      let program : cause.program ≡ served.program.file = same_program cause.program cause.file.has in
      absurd (none-some kind (sym served.program.is.accepted ∙ ap (λ (n : ℕ). refusal served.program.file n) (sym window) ∙ ap (λ (l : List ℕ). refusal l (window_in refused.recorded)) (sym program) ∙ refused.refused))
  begins_so one answer.FileFault cause = tt
  begins_so one answer.Memory cause = tt
  begins_so one _ cause = absurd cause

  -- what was loaded is that program and that record
  same_loaded : OneReading → (image : Image) (recorded : Recorded) → HasRecording (Some again) replaying image recorded → (recorded ≡ left) × (image ≡ served.image)
  same_loaded one image recorded has =
      let recorded_is = same_record one recorded has.recording in
      let program_is = same_program has.program has.file.has in
      let there : IsImage served.program.file (window_of value) image =
      subst (λ (n : ℕ). IsImage served.program.file n image) (ap window_in recorded_is) (subst (λ (l : List ℕ). IsImage l (window_in recorded) image) program_is has.is) in
      (recorded_is, same_image image served.image (there.entry ∙ sym served.program.is.entry) (there.in_window ∙ sym served.program.is.in_window) (there.segments ∙ sym served.program.is.segments))

  within : IsWithin (rules_of_run value).bounds (bounds_of left)
  within = record { items = omega arith; events = omega arith }

  -- and is that of the session
  pub replays_so : OneReading → SameBytesAreReplayed → (old_again new_again : Outside) (answered : Answer) → HasBeenReplayed replaying (record old_again { files = Some again; input = Some input_again }) new_again answered
      → IsReplayedBy again replaying answered × (answered ≡ answer.Finished → WritesSends old_again.output new_again.output served.noted.serves.telling.account.survivor.now.state.sends)
  replays_so one law old_again new_again answered has =
      let same = same_loaded one has.image has.recorded has.loaded in
      let replays : ReplaysTrunk served.image left (Some input_again) new_again.input old_again.output new_again.output answered has.counted =
      subst (λ (x : Recorded). ReplaysTrunk served.image x (Some input_again) new_again.input old_again.output new_again.output answered has.counted) same.0
      (subst (λ (i : Image). ReplaysTrunk i has.recorded (Some input_again) new_again.input old_again.output new_again.output answered has.counted) same.1 has.replays) in
      let both =
      law (rules_of_run value) (keeping_for (options_of value)) served.image input input_again new.input new_again.input old.output new.output old_again.output new_again.output (record { stop = served.why; recorded = end.recorded; tail = end.tail; taken = end.taken; steps = end.steps }) answered
      (noted (Some []) (Some []) (Some NoneFailed)) (noted (Some served.noted.choices) (Some served.noted.episodes) (Some (unnoted_of served.noted.left))) served.noted.counted has.counted left served.noted.serves replays has_session within outside.bytes in
      (as_replayed again replaying answered both.0, both.1)

  -- a conversion of it has its text
  pub converts_so : OneReading → SessionIsConverted → (image : Image) (recorded : Recorded) (later : Option Stream) (text : Result (List ℕ) Answer) (counted : ℕ) → HasRecording (Some again) replaying image recorded
      → ConvertsTrunk image recorded (Some input_again) later text counted → IsConverted text × ((bytes : List ℕ) → text ≡ Ok bytes → bytes ≡ text_of left)
  converts_so one law image recorded later text counted has converts =
      let same = same_loaded one image recorded has in
      let own : ConvertsTrunk served.image left (Some input_again) later text counted =
      subst (λ (x : Recorded). ConvertsTrunk served.image x (Some input_again) later text counted) same.0
      (subst (λ (i : Image). ConvertsTrunk i recorded (Some input_again) later text counted) same.1 converts) in
      let both =
      law (rules_of_run value) (keeping_for (options_of value)) served.image input input_again new.input later old.output new.output (record { stop = served.why; recorded = end.recorded; tail = end.tail; taken = end.taken; steps = end.steps }) text
      (noted (Some []) (Some []) (Some NoneFailed)) (noted (Some served.noted.choices) (Some served.noted.episodes) (Some (unnoted_of served.noted.left))) served.noted.counted counted left served.noted.serves own has_session within outside.bytes in
      (both.0, λ bytes is. both.1 bytes is ∙ ap (λ choices. text_of (record_of value.window value.frame choices end.steps end.taken)) (sym all_choices))

  -- which the record's file has
  pub file_has : files_later value.recording ≡ Some (text_of left)
  file_has = (served.texts ends).record_has

pub records_are_replayed : OneReading → SameBytesAreReplayed → RecordsAreReplayed
records_are_replayed one law value replaying files files_later files_again input input_again old new again again_later end end_again served replayed ranges ends outside =
    elim replayed.replays [
      | inl not_begun ↦ (
        begins_so value replaying files files_later files_again input input_again old new end served ranges ends outside one end_again.answer not_begun.cause,
        λ finished. absurd (subst (HasReplayCause (Some files_again) replaying) finished not_begun.cause),
      )
      | inr has ↦ replays_so value replaying files files_later files_again input input_again old new end served ranges ends outside one law again again_later end_again.answer has
    ]

-- ---- convert

written_so : (again : Contents) (replaying : ReplayValue) (old new : Option Contents) (out bytes : List ℕ) (end : Answer) → Writes old new out bytes end → IsReplayedBy again replaying end
written_so again replaying old new out bytes answer.Finished writes = tt
written_so again replaying old new out bytes answer.FileFault writes = tt
written_so again replaying old new out bytes answer.Memory writes = tt
written_so again replaying old new out bytes _ writes = absurd writes

broken_so : (again : Contents) (replaying : ReplayValue) (why : Answer) → IsConverted (Err why) → IsReplayedBy again replaying why
broken_so again replaying answer.ReadFault is = tt
broken_so again replaying answer.Memory is = tt
broken_so again replaying _ is = absurd is

-- at Finished a run has a text, which was written
finished_text : (value : ConvertValue) (files files_later : Contents) (old new : Outside) (end : Answer) (image : Image) (recorded : Recorded) (source later : Option Stream) (counted : ℕ) (text : Result (List ℕ) Answer)
    → ConvertsTrunk image recorded source later text counted → LeavesText value (record old { files = Some files }) (record new { files = Some files_later }) text end → end ≡ answer.Finished
    → (bytes : List ℕ) × (text ≡ Ok bytes) × (files_later value.out ≡ Some bytes)
finished_text value files files_later old new end image recorded source later counted (Ok bytes) converts leaves is =
    (bytes, refl, (subst (Writes (Some files) (Some files_later) value.out bytes) is leaves).here)
finished_text value files files_later old new end image recorded source later counted (Err why) converts leaves is =
    absurd ((as_replay image recorded source later counted why converts).0 (sym leaves.0 ∙ is))

pub second_version_stays : OneReading → ConvertsToItself → SecondVersionStays
second_version_stays one law value files files_later old new end recorded ends has second is =
    elim ends.converts [
      | inl begun ↦ absurd (subst (HasReplayCause (Some files) (replayed value)) is begun.cause)
      | inr done ↦
          let (bytes, text_is, out_is) = finished_text value files files_later old new end.answer done.image done.recorded old.input new.input done.counted done.text done.converts done.leaves is in
          let mine = done.loaded.recording in
          let text_same : mine.text ≡ has.text = same_Some mine.text has.text (sym mine.file.has ∙ has.file.has) in
          let same : done.recorded ≡ recorded = one done.recorded recorded mine.is.0 has.is.0 (mine.is.1 ∙ text_same ∙ sym has.is.1) in
          let converts : ConvertsTrunk done.image done.recorded old.input new.input (Ok bytes) done.counted = subst (λ (r : Result (List ℕ) Answer). ConvertsTrunk done.image done.recorded old.input new.input r done.counted) text_is done.converts in
          let own : bytes ≡ text_of done.recorded = law done.image done.recorded old.input new.input bytes done.counted converts mine.is.0 (ap (λ (r : Recorded). r.version) same ∙ second) in
          out_is ∙ ap Some (own ∙ mine.is.1) ∙ sym mine.file.has
    ]

by_text : (again : Contents) (converting : ConvertValue) (old new : Outside) (end : Answer) (text : Result (List ℕ) Answer) → IsConverted text → LeavesText converting old new text end → IsReplayedBy again (replayed converting) end
by_text again converting old new end (Ok bytes) is leaves = written_so again (replayed converting) old.files new.files converting.out bytes end leaves
by_text again converting old new end (Err why) is leaves = subst (IsReplayedBy again (replayed converting)) (sym leaves.0) (broken_so again (replayed converting) why is)

pub records_are_converted : OneReading → SessionIsConverted → RecordsAreConverted
records_are_converted one law value converting files files_later files_again files_converted input input_again old new again again_later end end_again served converted ranges ends outside =
    elim converted.converts [
      | inl not_begun ↦ (
        begins_so value (replayed converting) files files_later files_again input input_again old new end served ranges ends outside one end_again.answer not_begun.cause,
        λ finished. absurd (subst (HasReplayCause (Some files_again) (replayed converting)) finished not_begun.cause),
      )
      | inr has ↦
          let both = converts_so value (replayed converting) files files_later files_again input input_again old new end served ranges ends outside one law has.image has.recorded again_later.input has.text has.counted has.loaded has.converts in (
            by_text files_again converting (record again { files = Some files_again; input = Some input_again }) (record again_later { files = Some files_converted }) end_again.answer has.text both.0 has.leaves,
            λ finished.
                let (bytes, text_is, out_is) = finished_text converting files_again files_converted (record again { input = Some input_again }) again_later end_again.answer has.image has.recorded (Some input_again) again_later.input has.counted has.text has.converts has.leaves finished in
                out_is ∙ ap Some (both.1 bytes text_is) ∙ sym (file_has value (replayed converting) files files_later files_again input input_again old new end served ranges ends outside),
          )
    ]
