-- A session's record is replayed over the bytes that the session had.
use Rattle.run_history.specs.declared.answer.Answer.TheVariants as answer
use Rattle.session_history.specs.Heeding as unheeded
use Rattle.routes.proofs.Terms.{List, None, Option, Some, [], ap, append-nil, append_assoc, inl, inr, refl, subst, sym, ℕ, ◌++◌, ◌∙◌, ◌∷◌, ◌≡◌, ◌⊎◌, Err, Ok, Result, IsDrained, Stream, Took, Prefix, Entry, LinkEvent, Coming, Phases, events_in, front-bad, IsRefused, AreFramesOf, AreInOrder, phases_behind, Bad, Part, Whole, front, fresh, Image, Answer, prefix_trans, State, heeded_front, IsAccount, Session, journal_of, events_of, Rules, Noted, Keeping, Recorded, Outcome, HasSession, AreAsked, EndsBy, IsAsking, IsReplay, Replay, bounds_of, TookRefused, TookWhole, Serves, Trunk, IsAsRecorded, IsConverted, IsWithin, SameBytesAreReplayed, SessionIsConverted, IsRecordedRun, ReplaysTrunk, TakesReplay, WritesReplay, WritesSends, ConvertsTrunk, converted}
use Rattle.routes.proofs.FrameFronts.{two_readings, whole_reading, next_frame}
use Rattle.routes.proofs.SameRun.{brought_not, refused_not, mismatch_not, same_end}

-- what a source had, where bytes were taken from it
pub left_is : (old : Stream) (later : Option Stream) (bytes : List ℕ) → Took (Some old) later bytes → (rest : List ℕ) × (old.left ≡ bytes ++ rest) × (IsDrained later → rest ≡ [])
left_is old None bytes took = absurd took
left_is old (Some new) bytes took = (new.left, took.1, λ drained. drained)

left_all : (old : Stream) (later : Option Stream) (bytes : List ℕ) → Took (Some old) later bytes → IsDrained later → old.left ≡ bytes
left_all old later bytes took drained =
    let rest = left_is old later bytes took in
    rest.1 ∙ ap (λ l. bytes ++ l) (rest.2 drained) ∙ append-nil bytes

-- where a whole frame comes, nothing is refused
pub whole_not : (phases : Phases) (drained : Type 0) (kind : ℕ) (tail rest : List ℕ) (next : LinkEvent) → IsRefused phases drained kind tail → (drained → rest ≡ []) → front phases (tail ++ rest) ≡ Whole next → ⊥
whole_not phases drained kind tail rest next (inl bad) none whole =
    let still : Bad kind ≡ Whole next = sym (front-bad phases tail rest kind bad.0) ∙ whole in
    cc
whole_not phases drained kind tail rest next (inr cut) none whole =
    let still : Part ≡ Whole next = sym cut.1 ∙ ap (front phases) (sym (append-nil tail) ∙ ap (λ l. tail ++ l) (sym (none cut.3))) ∙ whole in
    cc

-- Of the bytes that a session had: its events, their frames, and what stands behind them.
module _ (rules : Rules) (image : Image) (session : Session) (recording : Recorded) (entries : List Entry) (replay : Replay) (coming : Option Coming) (account : IsAccount rules image session)
    (has : HasSession rules session recording) (within : IsWithin rules.bounds (bounds_of recording)) (asked : AreAsked image recording entries) (is : IsReplay image recording entries replay) (again : Stream) (again_later : Option Stream) (bytes more : List ℕ)
    (order : AreInOrder fresh (events_of rules.bounds (journal_of session))) (other_order : AreInOrder fresh (events_in entries)) (are : AreFramesOf (events_of rules.bounds (journal_of session)) bytes) (left : again.left ≡ bytes ++ more)
    (near : Prefix (events_of rules.bounds (journal_of session)) (events_in entries) ⊎ Prefix (events_in entries) (events_of rules.bounds (journal_of session))) where
  -- where the source is drained, the replay has the session's events
  all_read : TookWhole (Some again) again_later (events_in entries) → IsDrained again_later → Prefix (events_of rules.bounds (journal_of session)) (events_in entries)
  all_read took drained =
      whole_reading fresh (events_of rules.bounds (journal_of session)) (events_in entries) bytes more took.whole order other_order are took.are (sym left ∙ left_all again again_later took.whole took.took drained)

  -- a replay that asks for an event isn't refused its frame
  taken_not : (kind offset : ℕ) → IsAsking image recording entries replay → TookRefused (Some again) again_later (events_in entries) kind offset → ⊥
  taken_not kind offset asks took =
      let first = heeded_front rules.bounds [] (events_of rules.bounds (journal_of session)) in
      elim near [
        | inl short ↦ brought_not rules image session recording entries account has asked (inl short) entries (record { replay = replay; asks = asks }) (prefix_trans _ _ _ first short)
        | inr longer ↦ by_rest longer.0 longer.1
      ]
    where
      by_rest : (rest : List LinkEvent) → events_in entries ++ rest ≡ events_of rules.bounds (journal_of session) → ⊥
      by_rest [] same =
          brought_not rules image session recording entries account has asked near entries (record { replay = replay; asks = asks })
          (prefix_trans _ _ _ (heeded_front rules.bounds [] (events_of rules.bounds (journal_of session))) ([], append-nil (events_of rules.bounds (journal_of session)) ∙ sym same ∙ append-nil (events_in entries)))
      by_rest (next ∷ rest) same =
          let behind = left_is again again_later (took.whole ++ took.tail) took.took in
          let parts : bytes ++ more ≡ took.whole ++ (took.tail ++ behind.0) = sym left ∙ behind.1 ∙ append_assoc took.whole took.tail behind.0 in
          let whole = next_frame fresh (events_of rules.bounds (journal_of session)) (events_in entries) rest next bytes more took.whole (took.tail ++ behind.0) order other_order are took.are (sym same) parts in
          whole_not (phases_behind (events_in entries) fresh) (IsDrained again_later) kind took.tail behind.0 next took.refused behind.2 whole

  pub answers_so : (end : Answer) → EndsBy image recording entries coming replay end → TakesReplay (Some again) again_later entries end → IsAsRecorded end
  answers_so answer.Finished ends takes = tt
  answers_so answer.ReadFault ends takes = tt
  answers_so answer.WriteFault ends takes = tt
  answers_so answer.Memory ends takes = tt
  answers_so (answer.InputRefused kind offset) ends takes = taken_not kind offset ends.0 takes
  answers_so (answer.MessageTooLong conn) ends takes = refused_not rules image session recording entries account has asked near within unheeded.TooLong ends.1.refused
  answers_so answer.LimitItems ends takes = refused_not rules image session recording entries account has asked near within unheeded.LimitItems ends.1
  answers_so answer.LimitEvents ends takes = refused_not rules image session recording entries account has asked near within unheeded.LimitEvents ends.1
  answers_so (answer.Mismatch step) ends takes =
      mismatch_not rules image session recording entries account has asked near replay coming step is ends (λ ended. all_read takes.0 (takes.1 ended))
  answers_so _ ends takes = absurd ends

-- Of a session that served a trunk, and a replay of its record over the bytes that it had.
module _ {rules : Rules} {keeping : Keeping} {image : Image} {input again : Stream} {input_later again_later : Option Stream} {output output_later written written_later : Option (List ℕ)} {outcome : Outcome} {answered : Answer}
    {noted_before noted_now : Noted} {counted counted_again : ℕ} {recording : Recorded} (served : Serves (Trunk (Some input) input_later output output_later) rules keeping image outcome noted_before noted_now counted)
    (replayed : ReplaysTrunk image recording (Some again) again_later written written_later answered counted_again) (same : again.left ≡ input.left) where
  -- what stands behind the session's frames
  ours : (rest : List ℕ) × (input.left ≡ (served.goes.took.whole ++ served.goes.took.tail) ++ rest) × (IsDrained input_later → rest ≡ [])
  ours = left_is input input_later (served.goes.took.whole ++ served.goes.took.tail) served.goes.took.took

  theirs : (rest : List ℕ) × (again.left ≡ (replayed.took.whole ++ replayed.took.tail) ++ rest) × (IsDrained again_later → rest ≡ [])
  theirs = left_is again again_later (replayed.took.whole ++ replayed.took.tail) replayed.took.took

  left : again.left ≡ served.goes.took.whole ++ (served.goes.took.tail ++ ours.0)
  left = same ∙ ours.1 ∙ append_assoc served.goes.took.whole served.goes.took.tail ours.0

  -- the events of one are the first of the other's
  near : Prefix (events_of rules.bounds (journal_of served.telling.account)) (events_in replayed.entries) ⊎ Prefix (events_in replayed.entries) (events_of rules.bounds (journal_of served.telling.account))
  near =
      two_readings fresh (events_of rules.bounds (journal_of served.telling.account)) (events_in replayed.entries) served.goes.took.whole (served.goes.took.tail ++ ours.0) replayed.took.whole (replayed.took.tail ++ theirs.0)
      served.goes.took.order replayed.took.order served.goes.took.are replayed.took.are (sym left ∙ theirs.1 ∙ append_assoc replayed.took.whole replayed.took.tail theirs.0)

  pub as_recorded : HasSession rules served.telling.account recording → IsWithin rules.bounds (bounds_of recording) → IsAsRecorded answered
  as_recorded has within =
      answers_so rules image served.telling.account recording replayed.entries replayed.replay replayed.coming served.is.is.ended.account has within replayed.asked replayed.is again again_later served.goes.took.whole
      (served.goes.took.tail ++ ours.0) served.goes.took.order replayed.took.order served.goes.took.are left near answered replayed.ends replayed.takes

  pub same_run : HasSession rules served.telling.account recording → answered ≡ answer.Finished
      → (replayed.replay.state ≡ served.telling.account.survivor.now.state) × (replayed.replay.choices ≡ served.telling.account.survivor.now.choices)
  same_run has finished =
      same_end rules image served.telling.account recording replayed.entries served.is.is.ended.account has replayed.asked near replayed.replay
      (subst (IsRecordedRun image recording replayed.entries replayed.replay) finished replayed.whole)

pub same_bytes : SameBytesAreReplayed
same_bytes rules keeping image input again input_later again_later output output_later written written_later outcome answered noted_before noted_now counted counted_again recording served replayed has within same = (
  as_recorded served replayed same has within,
  λ finished.
      subst (λ (s : State). WritesSends written written_later s.sends) (same_run served replayed same has finished).0 (subst (WritesReplay written written_later replayed.replay.state.sends) finished replayed.writes),
)

-- a conversion of it
converts_so : (end : Answer) → IsAsRecorded end → (end ≡ answer.Finished → ⊥) → (end ≡ answer.WriteFault → ⊥) → IsConverted (Err end)
converts_so answer.Finished is unfinished no_fault = unfinished refl
converts_so answer.ReadFault is unfinished no_fault = tt
converts_so answer.WriteFault is unfinished no_fault = no_fault refl
converts_so answer.Memory is unfinished no_fault = tt
converts_so _ is unfinished no_fault = absurd is

-- an answer of a conversion that is none of these two is a replay's
ends_so : (image : Image) (recording : Recorded) (source later : Option Stream) (counted : ℕ) (end : Answer) → ConvertsTrunk image recording source later (Err end) counted
    → (end ≡ answer.Finished → ⊥) × (end ≡ answer.WriteFault → ⊥) × ReplaysTrunk image recording source later None None end counted
ends_so image recording source later counted answer.Finished converts = absurd converts
ends_so image recording source later counted answer.WriteFault converts = absurd converts
ends_so image recording source later counted _ converts = ((λ is. cc), (λ is. cc), converts)

pub session_converted : SessionIsConverted
session_converted rules keeping image input again input_later again_later output output_later outcome result noted_before noted_now counted counted_again recording served converts has within same = by_result result converts
  where
    by_result : (result : Result (List ℕ) Answer) → ConvertsTrunk image recording (Some again) again_later result counted_again
        → IsConverted result × ((text : List ℕ) → result ≡ Ok text → text ≡ converted recording served.telling.account.survivor.now.choices)
    by_result (Ok text) converts = (
      tt,
      λ other is.
          let here : text ≡ other = cc in
          sym here ∙ converts.text_is ∙ ap (converted recording) (same_run served converts.replayed same has refl).1,
    )
    by_result (Err end) converts =
        let ends = ends_so image recording (Some again) again_later counted_again end converts in
        (converts_so end (as_recorded served ends.2 same has within) ends.0 ends.1, λ text is. absurd (let never : ⊥ = cc in never))
