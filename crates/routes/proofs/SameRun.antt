-- A session's run, and a replay of its record over the first of its events.
use Rattle.links.specs.declared.journal.Entry.TheVariants as entry
use Rattle.run_history.specs.declared.answer.Answer.TheVariants as answer
use Rattle.run_history.proofs.Runs.{run_more}
use Rattle.replay.specs.Replaying.{WasAsked}
use Rattle.replay.proofs.LineLemmas.{same_answers}
use Rattle.replay.proofs.SameLemmas.{Agree, run_same}
use Rattle.replay.proofs.RecordLemmas.{begins, goes_on, none_used, starved_not}
use Rattle.replay.proofs.RoomLemmas.{session_leaves_record}
use Rattle.replay.proofs.SessionLemmas.{session_is_replayed}
use Rattle.routes.proofs.Terms.{List, None, Option, Some, [], ap, append-nil, append_assoc, arith, inl, inr, length, refl, subst, sym, true, true≢false, ℕ, ◌++◌, ◌∙◌, ◌∷◌, ◌≡◌, ◌≤◌, ◌⊎◌, none-some, Item, Prefix, Entry, LinkEvent, events_in-append, Coming, HasEnded, Unopened, events_in, Seen, no_faults, Choice, items_of, Image, prefix_trans, State, start, run, heeded_front, IsAccount, Session, journal_of, IsLastRefused, Unheeded, events_of, heeded, items_in, Rules, Recorded, items_grow, two_fronts, BringsFirst, HadOneStream, HasSession, IsRecordOf, AreAsked, EndsBy, HasReplayed, IsReplay, Replay, bounds_of, IsWithin, IsRecordedRun}
use Rattle.routes.proofs.HeededFronts.{both_ways, two_of_one, same_next, event_counts, heeded_next, wider}

-- a run is one on more items too
on_more : (items others : List Item) (choices : List Choice) (first last : State) (steps : ℕ) → Prefix items others → run items choices first steps ≡ Some last → run others choices first steps ≡ Some last
on_more items others choices first last steps front ran =
    let more : run (items ++ front.0) (choices ++ []) first steps ≡ Some last = run_more items front.0 choices [] first last steps ran in
    subst (λ (cs : List Choice). run others cs first steps ≡ Some last) (append-nil choices) (subst (λ (is : List Item). run is (choices ++ []) first steps ≡ Some last) front.1 more)

-- what a link shows that tells of nothing but of what comes
abbrev untold : Option Coming → Seen
untold coming = record {
  told = record { events = None; pieces = None; journal = None };
  phases = λ conn. Unopened;
  coming = coming;
  handed = None;
  gives_to = λ conn. true;
  takes = true;
  gives = true;
  counts = no_faults;
}

module _ (rules : Rules) (image : Image) (session : Session) (recording : Recorded) (entries : List Entry) (account : IsAccount rules image session)
    (has : HasSession rules session recording) (asked : AreAsked image recording entries) (near : Prefix (events_of rules.bounds (journal_of session)) (events_in entries) ⊎ Prefix (events_in entries) (events_of rules.bounds (journal_of session))) where
  of_run : IsRecordOf image (items_in rules.bounds (journal_of session)) session.survivor.now.choices session.survivor.now.state recording
  of_run = session_leaves_record rules image session recording account has

  -- where a replay asked for an event, there is more in the session than was taken
  pub brought_not : (before : List Entry) → WasAsked image recording before → Prefix (heeded rules.bounds (events_of rules.bounds (journal_of session))) (events_in before) → ⊥
  brought_not before was front =
      let these = items_in (bounds_of recording) before in
      let own : BringsFirst (bounds_of recording) these before = record { more = []; first = sym (append-nil these); all = λ ended. refl } in
      let items : Prefix (items_in rules.bounds (journal_of session)) (items_of recording.frame (events_in before)) =
      subst (λ framing. Prefix (items_of framing (heeded rules.bounds (events_of rules.bounds (journal_of session)))) (items_of recording.frame (events_in before))) has.frame (items_grow recording.frame _ front) in
      let all : Prefix (items_in rules.bounds (journal_of session)) these =
      subst (λ (events : List LinkEvent). Prefix (items_in rules.bounds (journal_of session)) (items_of recording.frame events)) (sym was.asks.heeds) items in
      let choices = session.survivor.now.choices in
      let there = on_more (items_in rules.bounds (journal_of session)) these choices (start image) session.survivor.now.state recording.steps all of_run.ran.ran in
      let here = (begins was.asks.is own of_run.lines there).ran in
      let on = goes_on here there was.asks.waits.shorter in
      let none : length these ≤ was.replay.state.machine.taken = omega (arith, was.asks.waits.taken) in
      starved_not these choices was.replay.state was.asks.waits.asks none on.goes

  -- so the session heeded what comes next there
  next_heeded : (before : List Entry) (next : LinkEvent) (rest all : List LinkEvent) → WasAsked image recording before → Prefix (heeded rules.bounds (events_of rules.bounds (journal_of session))) all
      → all ≡ events_in before ++ next ∷ rest → (more : List LinkEvent) × (heeded rules.bounds (events_of rules.bounds (journal_of session)) ≡ events_in before ++ next ∷ more)
  next_heeded before next rest all was front same =
      elim (two_fronts (events_in before) (next ∷ rest) (heeded rules.bounds (events_of rules.bounds (journal_of session))) front.0 (sym same ∙ sym front.1)) [
        | inl short ↦ absurd (brought_not before was short)
        | inr found ↦
            let whole : events_in before ++ found.0 ∷ (found.1 ++ front.0) ≡ events_in before ++ next ∷ rest =
            sym (append_assoc (events_in before) (found.0 ∷ found.1) front.0) ∙ ap (λ l. l ++ front.0) (sym found.2) ∙ front.1 ∙ same in
            (found.1, found.2 ∙ ap (λ e. events_in before ++ e ∷ found.1) (same_next (events_in before) (found.1 ++ front.0) rest found.0 next whole))
      ]

  -- no event that the replay took is refused
  pub refused_not : IsWithin rules.bounds (bounds_of recording) → (cause : Unheeded) → IsLastRefused (bounds_of recording) entries cause → ⊥
  refused_not within cause last =
      let was = asked last.before [] last.event last.last in
      let events : events_in entries ≡ events_in last.before ++ last.event ∷ [] =
      ap events_in last.last ∙ events_in-append last.before (entry.Took last.event ∷ []) ∙ ap (λ (es : List LinkEvent). events_in last.before ++ es) (event_counts last.event last.no_end) in
      let first = heeded_front rules.bounds [] (events_of rules.bounds (journal_of session)) in
      let found : (more : List LinkEvent) × (heeded rules.bounds (events_of rules.bounds (journal_of session)) ≡ events_in last.before ++ last.event ∷ more) =
      elim near [
        | inl front ↦ next_heeded last.before last.event [] (events_in entries) was (prefix_trans _ _ _ first front) events
        | inr front ↦
            next_heeded last.before last.event front.0 (events_of rules.bounds (journal_of session)) was first
            (sym front.1 ∙ ap (λ (es : List LinkEvent). es ++ front.0) events ∙ append_assoc (events_in last.before) (last.event ∷ []) front.0)
      ] in
      let fine = heeded_next rules.bounds [] (events_of rules.bounds (journal_of session)) (events_in last.before) last.event found.0 found.1 in
      none-some cause (sym (wider rules.bounds (bounds_of recording) (events_in last.before) last.event has.frame within fine) ∙ last.refused)

  -- a replay that is answered Mismatch, whose link ended only where the session's events were taken
  pub mismatch_not : (replay : Replay) (coming : Option Coming) (step : ℕ) → IsReplay image recording entries replay → EndsBy image recording entries coming replay (answer.Mismatch step)
      → (HasEnded entries → Prefix (events_of rules.bounds (journal_of session)) (events_in entries)) → ⊥
  mismatch_not replay coming step is ends all =
      let stream = of near in
      let over_a_link : HasReplayed image recording (untold coming) (untold coming) (answer.Mismatch step) 0 replay.steps =
      record { entries = entries; replay = replay; tells = record { events = tt; pieces = tt; journal = tt }; asked = asked; is = is; ends = ends; failed = λ no. absurd (true≢false no); counted = omega arith } in
      (session_is_replayed rules image session stream.0 recording (untold coming) (untold coming) (answer.Mismatch step) 0 replay.steps over_a_link account has stream.1).0
    where
      of : Prefix (events_of rules.bounds (journal_of session)) (events_in entries) ⊎ Prefix (events_in entries) (events_of rules.bounds (journal_of session)) → (events : List LinkEvent) × HadOneStream rules.bounds events (journal_of session) entries
      of (inl front) = (events_in entries, record { session_took = front; replay_took = ([], append-nil (events_in entries)); all = λ ended. refl })
      of (inr front) = (
        events_of rules.bounds (journal_of session),
        record { session_took = ([], append-nil (events_of rules.bounds (journal_of session))); replay_took = front; all = λ ended. both_ways (events_of rules.bounds (journal_of session)) (events_in entries) (all ended) front },
      )

  -- the items of both are the first ones of one list
  items_near : Prefix (items_in (bounds_of recording) entries) (items_in rules.bounds (journal_of session)) ⊎ Prefix (items_in rules.bounds (journal_of session)) (items_in (bounds_of recording) entries)
  items_near =
      let here = heeded_front (bounds_of recording) [] (events_in entries) in
      let there = heeded_front rules.bounds [] (events_of rules.bounds (journal_of session)) in
      let heeds : Prefix (heeded (bounds_of recording) (events_in entries)) (heeded rules.bounds (events_of rules.bounds (journal_of session)))
      ⊎ Prefix (heeded rules.bounds (events_of rules.bounds (journal_of session))) (heeded (bounds_of recording) (events_in entries)) =
      elim near [
        | inl front ↦ two_of_one _ _ (events_in entries) here (prefix_trans _ (events_of rules.bounds (journal_of session)) (events_in entries) there front)
        | inr front ↦ two_of_one _ _ (events_of rules.bounds (journal_of session)) (prefix_trans _ (events_in entries) (events_of rules.bounds (journal_of session)) here front) there
      ] in
      elim heeds [
        | inl front ↦ inl (subst (λ framing. Prefix (items_in (bounds_of recording) entries) (items_of framing (heeded rules.bounds (events_of rules.bounds (journal_of session))))) has.frame (items_grow recording.frame _ front))
        | inr front ↦ inr (subst (λ framing. Prefix (items_of framing (heeded rules.bounds (events_of rules.bounds (journal_of session)))) (items_in (bounds_of recording) entries)) has.frame (items_grow recording.frame _ front))
      ]

  -- at Finished the replay stands where the session's run does, and used the same answers of the allocator
  pub same_end : (replay : Replay) → IsRecordedRun image recording entries replay answer.Finished → (replay.state ≡ session.survivor.now.state) × (replay.choices ≡ session.survivor.now.choices)
  same_end replay whole =
      let theirs = items_in (bounds_of recording) entries in
      let ours = items_in rules.bounds (journal_of session) in
      let now = session.survivor.now in
      elim items_near [
        | inl front ↦
            let own = on_more theirs ours replay.choices (start image) replay.state recording.steps front whole.0.ran in
            alike (run_same ours recording.lines replay.choices now.choices (start image) recording.steps replay.state now.state whole.1 of_run.lines (none_used image replay.choices now.choices) own of_run.ran.ran)
        | inr front ↦
            let other = on_more ours theirs now.choices (start image) now.state recording.steps front of_run.ran.ran in
            alike (run_same theirs recording.lines replay.choices now.choices (start image) recording.steps replay.state now.state whole.1 of_run.lines (none_used image replay.choices now.choices) whole.0.ran other)
      ]
    where
      alike : (replay.state ≡ session.survivor.now.state) × Agree replay.state replay.choices session.survivor.now.choices → (replay.state ≡ session.survivor.now.state) × (replay.choices ≡ session.survivor.now.choices)
      alike same =
          let used = whole.0.used in
          (same.0, same_answers replay.choices session.survivor.now.choices (whole.2 ∙ sym of_run.all) (λ i low. same.1 i (omega (arith, low, used))))
