-- What `resume` leaves, from what its parts leave.
use Rattle.std.proofs.lemmas.List.Kept.{AllPairs-cons}
use Rattle.session_notes.specs.Survival.{survives}
use Rattle.report_reading.specs.Reports.{RiseFrom, WasAdopted, ends, last_survived}
use Rattle.run_report.specs.Report as report
use Rattle.schedule_file.specs.Lines as recording
use Rattle.schedule_file.specs.declared.recorded.Unfinished.{Unfinished as Read}
use Rattle.session_following.specs.declared.unfollowed.Unfollowed.TheVariants as unfollowed
use Rattle.run_history.specs.declared.answer.Answer.TheVariants as answer
use Rattle.routes.specs.OverTrunk.{trunk_counts}
use Rattle.rx_serve.proofs.Terms.{Bool, List, None, Ok, Option, Some, [], ap, append-nil, arith, drop, false, inl, inr, length, refl, rules, subst, suc, sym, take, true, ℕ, ◌*◌, ◌++◌, ◌+◌, ◌<◌, ◌^◌, ◌∙◌, ◌∷◌, ◌≡◌, ◌≤◌, length-take-le, take-append-drop, All-cons, All, AllPairs, Err, IsSome, Result, if◌then◌else◌, slice_index_or, ◌==◌, MAX_ITEMS, few_in_all, Rose, Stream, FileCall, Calls, Contents, LinkEvent, Choice, Heap, Image, Answer, Path, Stop, Session, journal_of, HasAnswerCause, IsEnd, answer_of, Rules, Episode, Try, NoneFailed, Shown, noted, rules_behind, Handed, adopted_try, few_items, Keeping, Form, VERSION, calls_then, whole_texts, whole_texts_behind, AreAsks, AddsAlone, Left, Nothing, unnoted_of, Names, Stands, StandsBehind, HasBoth, nothing_kept, Options, begun_rules, AreInRange, keeping_for, rules_of, Outcome, rules_by, IsBegun, SessionState, Unfollowed, MayBeHanded, UnnotedBy, stop_as, ResumesBy, ResumesTrunk, StopsFollowing, answer_as, Route, RunValue, End, Faults, HasFaults, Outside, faults, outside, status_of, options_of, rule_of, rules_of_run, trunk_of, ClosesFiles, EndsFiles, HaveTexts, ServesNotedBehind, StandsFrom, names_of, report_form, CallsEnding, CallsServedBehind, AreHandedOver, FourTexts, HasResumed, StartsTakenOver, StopsNoted, before_taken, ResumesNoted, ServesOnNoted, resumed_answer}
use Rattle.rx_serve.proofs.FewSteps.{few_steps}
use Rattle.rx_serve.proofs.GuardLemmas.{keeps_to_blocks}
use Rattle.rx_serve.proofs.HeadlineLemmas.{headline}
use Rattle.rx_serve.proofs.NotingLemmas.{closes_same, file_stop, note_is_no_end, whole_at}

-- ---- what was handed over

-- points that rise from a number on are no less than it
above : (least : ℕ) (episodes : List Episode) → RiseFrom least episodes → (lower : ℕ) → lower ≤ least → All (λ (e : Episode). lower ≤ e.point) episodes
above least [] rise lower low = search rules
above least (e ∷ episodes) rise lower low =
    All-cons (λ (one : Episode). lower ≤ one.point) e episodes (let first = rise.0 in omega (arith, first, low)) (let first = rise.0 in above (suc e.point) episodes rise.1 lower (omega (arith, first, low)))

pub points_rise : (least : ℕ) (episodes : List Episode) → RiseFrom least episodes → AllPairs (λ (first second : Episode). first.point < second.point) episodes
points_rise least [] rise = λ i j d lower within. absurd (let none : j < 0 = within in omega (arith, none))
points_rise least (e ∷ episodes) rise =
    AllPairs-cons (λ (first second : Episode). first.point < second.point) e episodes (above (suc e.point) episodes rise.1 (suc e.point) (omega arith)) (points_rise (suc e.point) episodes rise.1)

-- of trials of which the last one survived one was adopted
some_adopted : (tries : List Try) → last_survived tries ≡ true → IsSome (adopted_try tries)
some_adopted [] is = absurd (cc)
some_adopted (t ∷ tries) is = elim (survives t.tried) as (λ b. (if b then ends tries else last_survived tries) ≡ true → IsSome (if b then Some t else adopted_try tries)) [
  | true ↦ λ h. refl
  | false ↦ λ h. some_adopted tries h
] is

-- so it may be handed over
pub may_be_handed : {texts : FourTexts} {image : Image} {read : Read} (handed : Handed) → AreHandedOver texts image read handed.episodes handed.counts → MayBeHanded handed
may_be_handed handed are =
    let episodes : List Episode = are.adopted.report.adopted in
    let all : All WasAdopted episodes = are.adopted.is.is.adopted in
    let some : All (λ (e : Episode). IsSome (adopted_try e.tries)) episodes = λ k d within. some_adopted (slice_index_or episodes k d).tries (all k d within) in
    record {
      counts = are.counted.0;
      rise = subst (λ (list : List Episode). AllPairs (λ (first second : Episode). first.point < second.point) list) are.adopted.adopted (points_rise 0 episodes are.adopted.is.is.rise);
      adopted = subst (λ (list : List Episode). All (λ (e : Episode). IsSome (adopted_try e.tries)) list) are.adopted.adopted some;
    }

-- ---- what stands in the two files

pub stands_from : (before : List Episode) (value : RunValue) (names : Names) (wanted : Form) (first : ℕ) (behind told now : Option Contents) (choices : List Choice) (episodes : List Episode) (left : Left)
    → names ≡ names_of value → wanted ≡ report_form value.form → first ≡ length before → behind ≡ told → Stands names wanted (if first == 0 then behind else None) now choices episodes left
    → StandsBehind names wanted first behind now choices episodes left → StandsFrom before (names_of value) (report_form value.form) told now choices episodes left
stands_from [] value names wanted first behind told now choices episodes left names_are form_is first_is same stands later =
    subst (λ b. Stands (names_of value) (report_form value.form) b now choices episodes left) same
    (subst (λ n. Stands (names_of value) (report_form value.form) (if n == 0 then behind else None) now choices episodes left) first_is
    (subst (λ f. Stands (names_of value) f (if first == 0 then behind else None) now choices episodes left) form_is
    (subst (λ n. Stands n wanted (if first == 0 then behind else None) now choices episodes left) names_are stands)))
stands_from (e ∷ before) value names wanted first behind told now choices episodes left names_are form_is first_is same stands later =
    subst (λ b. StandsBehind (names_of value) (report_form value.form) (length (e ∷ before)) b now choices episodes left) same
    (subst (λ n. StandsBehind (names_of value) (report_form value.form) n behind now choices episodes left) first_is
    (subst (λ f. StandsBehind (names_of value) f first behind now choices episodes left) form_is
    (subst (λ n. StandsBehind n wanted first behind now choices episodes left) names_are later)))

-- both have their whole texts once they were ended, the report with the episodes of before
module _ (value : RunValue) (choices : List Choice) (episodes : List Episode) (ended : Answer) (taken steps : ℕ) where
  whole_behind : (before : List Episode) (old started served now : Contents) → StartsTakenOver value before (Some old) (Some started) (Ok tt)
      → StandsFrom before (names_of value) (report_form value.form) (Some started) (Some served) choices episodes Nothing → EndsFiles value ended taken steps (Some served) (Some now) (Ok tt)
      → HaveTexts value choices (before ++ episodes) ended taken steps (Some old) (Some now)
  whole_behind [] old started served now starts stands ends =
      whole_texts (names_of value) value.window value.frame (report_form value.form) old started served now choices episodes (status_of ended) taken steps
      (subst (λ text. HasBoth nothing_kept (names_of value) (recording.head_line VERSION value.window value.frame) text old started) (append-nil (report.head_text (report_form value.form))) starts) stands ends
  whole_behind (e ∷ before) old started served now starts stands ends =
      whole_texts_behind (names_of value) value.window value.frame (report_form value.form) old started served now choices (e ∷ before) episodes (status_of ended) taken steps starts stands ends

  from_none : (before : List Episode) (names : Names) (wanted : Form) (now : Option Contents) (left : Left) (started : Contents) → StandsFrom before names wanted (Some started) None choices episodes left → ⊥
  from_none [] names wanted now left started stands = stands
  from_none (e ∷ before) names wanted now left started stands = stands

  texts_behind : (before : List Episode) (old started served now : Option Contents) → StartsTakenOver value before old started (Ok tt)
      → StandsFrom before (names_of value) (report_form value.form) started served choices episodes Nothing → EndsFiles value ended taken steps served now (Ok tt)
      → HaveTexts value choices (before ++ episodes) ended taken steps old now
  texts_behind before None started served now starts stands ends = tt
  texts_behind before (Some old) None served now starts stands ends = absurd starts
  texts_behind before (Some old) (Some started) None now starts stands ends = absurd (from_none before (names_of value) (report_form value.form) None Nothing started stands)
  texts_behind before (Some old) (Some started) (Some served) None starts stands ends = absurd ends
  texts_behind before (Some old) (Some started) (Some served) (Some now) starts stands ends = whole_behind before old started served now starts stands ends

closes_behind : (value : RunValue) (choices : List Choice) (before episodes : List Episode) (left : Left) (taken steps : ℕ) (old started served now : Option Contents) (ended end : Answer)
    → StartsTakenOver value before old started (Ok tt) → StandsFrom before (names_of value) (report_form value.form) started served choices episodes left → (IsEnd ended → left ≡ Nothing)
    → ClosesFiles value taken steps served now ended end → IsEnd end → HaveTexts value choices (before ++ episodes) end taken steps old now
closes_behind value choices before episodes left taken steps old started served now ended end starts stands whole (inl (is_end, (same, ends))) is =
    subst (λ a. HaveTexts value choices (before ++ episodes) a taken steps old now) (sym same)
    (texts_behind value choices episodes ended taken steps before old started served now starts
    (subst (λ l. StandsFrom before (names_of value) (report_form value.form) started served choices episodes l) (whole is_end) stands) ends)
closes_behind value choices before episodes left taken steps old started served now ended end starts stands whole (inr (inl (is_end, (why, (note, ends))))) is = absurd (note_is_no_end why end note is)
closes_behind value choices before episodes left taken steps old started served now ended end starts stands whole (inr (inr (none, (same, kept)))) is = absurd (none (subst IsEnd same is))

-- ---- the notes

-- a session took over with notes that were new, was released, and its notes stand in its files
pub serves_on : {rules : Rules} {keeping : Keeping} {image : Image} (value : RunValue) (handed : Handed) (old new : Outside) {outcome : Outcome} {counted : ℕ} {tables_before tables : Option (List (List Try))}
    → (names : Names) (wanted : Form) (first : ℕ) (behind : Option Contents) (choices_before choices : List Choice) (episodes_before episodes : List Episode) (left_before left : Left)
    → choices_before ≡ [] → episodes_before ≡ [] → left_before ≡ Nothing → new.counter ≡ old.counter + counted
    → ResumesTrunk rules handed keeping image old.input new.input old.output new.output outcome (noted (Some choices_before) (Some episodes_before) (Some (unnoted_of left_before))) (noted (Some choices) (Some episodes) (Some (unnoted_of left))) counted tables_before tables
    → names ≡ names_of value → wanted ≡ report_form value.form → first ≡ length handed.episodes → behind ≡ old.files
    → Stands names wanted (if first == 0 then behind else None) new.files choices episodes left → StandsBehind names wanted first behind new.files choices episodes left → AreAsks choices
    → ServesOnNoted rules keeping image value handed old new outcome
serves_on {rules = rules} {keeping = keeping} {image = image} value handed old new {outcome = outcome} {counted = counted} {tables_before = tables_before} {tables = tables} names wanted first behind choices_before choices episodes_before episodes left_before left none none_told none_left count resumes names_are form_is first_is same stands later asks =
    let Resumes : List Choice → List Episode → Left → Type 0 =
    λ list told part. ResumesTrunk rules handed keeping image old.input new.input old.output new.output outcome (noted (Some list) (Some told) (Some (unnoted_of part))) (noted (Some choices) (Some episodes) (Some (unnoted_of left))) counted tables_before tables in
    let all : Resumes [] [] Nothing =
    subst (λ part. Resumes [] [] part) none_left (subst (λ told. Resumes [] told left_before) none_told (subst (λ list. Resumes list episodes_before left_before) none resumes)) in
    let watched = all.watches in
    record {
      events = all.events;
      released = all.released;
      followed = all.followed;
      noted = record {
        choices = choices;
        episodes = episodes;
        left = left;
        counted = counted;
        counts = count;
        serves = watched.serves;
        stands = stands_from handed.episodes value names wanted first behind old.files new.files choices episodes left names_are form_is first_is same stands later;
        asks = asks;
      };
    }

-- What calls of the notes have failed says what is left behind the first answers of the allocator, which were noted.
failed_behind : (choices all own : List Choice) (recorded : ℕ) (left_before left : Left) (why : Unfollowed) → choices ≡ take recorded all → recorded ≤ length all → own ≡ drop recorded all → left_before ≡ Nothing
    → UnnotedBy (Some (unnoted_of left_before)) (Some (unnoted_of left)) own (Err (stop_as why)) → UnnotedBy (Some NoneFailed) (Some (unnoted_of left)) (drop (length choices) all) (Err (stop_as why))
failed_behind choices all own recorded left_before left why first_ones low own_is none_left unnoted =
    let count : length choices ≡ recorded = ap length first_ones ∙ length-take-le recorded all low in
    subst (λ n. UnnotedBy (Some NoneFailed) (Some (unnoted_of left)) (drop n all) (Err (stop_as why))) (sym count)
    (subst (λ list. UnnotedBy (Some NoneFailed) (Some (unnoted_of left)) list (Err (stop_as why))) own_is
    (subst (λ part. UnnotedBy (Some (unnoted_of part)) (Some (unnoted_of left)) own (Err (stop_as why))) none_left unnoted))

module _ {R : Type 0} where
  -- or it wasn't released
  pub stops_noted : {rules : Rules} {image : Image} (value : RunValue) (handed : Handed) (old new : Outside) {counted : ℕ} {session : SessionState R} {why : Unfollowed}
      → (names : Names) (wanted : Form) (first : ℕ) (behind : Option Contents) (choices_before choices : List Choice) (episodes_before episodes : List Episode) (left_before left : Left)
      → choices_before ≡ [] → episodes_before ≡ [] → left_before ≡ Nothing → new.counter ≡ old.counter + counted
      → StopsFollowing rules handed image old.input new.input old.output new.output (noted (Some choices_before) (Some episodes_before) (Some (unnoted_of left_before))) (noted (Some choices) (Some episodes) (Some (unnoted_of left))) counted session why
      → UnnotedBy (Some (unnoted_of left_before)) (Some (unnoted_of left)) session.choices (Err (stop_as why))
      → names ≡ names_of value → wanted ≡ report_form value.form → first ≡ length handed.episodes → behind ≡ old.files
      → Stands names wanted (if first == 0 then behind else None) new.files choices episodes left → StandsBehind names wanted first behind new.files choices episodes left → AreAsks choices
      → StopsNoted rules image value handed old new why
  stops_noted {rules = rules} {image = image} value handed old new {counted = counted} {session = session} {why = why} names wanted first behind choices_before choices episodes_before episodes left_before left none none_told none_left count stopped unnoted names_are form_is first_is same stands later asks =
      let its = stopped.is in
      let first_ones : choices ≡ take session.recorded its.now.choices = its.noted ∙ ap (λ list. list ++ take session.recorded its.now.choices) none in
      let no_episode : episodes ≡ [] = its.episodes ∙ ap (λ (list : List Episode). list ++ []) none_told in
      record {
        choices = choices;
        left = left;
        counted = counted;
        counts = count;
        follows = record {
          events = its.events;
          last = its.last;
          coming = stopped.seen.coming;
          now = its.now;
          ran = its.ran;
          not_before = its.not_before;
          asked = its.asked;
          cause = its.cause;
          noted = (drop session.recorded its.now.choices, ap (λ list. list ++ drop session.recorded its.now.choices) first_ones ∙ take-append-drop session.recorded its.now.choices);
          counted_all = its.counted_all;
          took = stopped.took;
          takes = stopped.takes;
          wrote = stopped.wrote;
        };
        stands =
            subst (λ list. StandsFrom handed.episodes (names_of value) (report_form value.form) old.files new.files choices list left) no_episode
            (stands_from handed.episodes value names wanted first behind old.files new.files choices episodes left names_are form_is first_is same stands later);
        failed = failed_behind choices its.now.choices session.choices session.recorded left_before left why first_ones its.low its.choices none_left unnoted;
        asks = asks;
      }

-- both, by the answer
pub resumes_noted : (R : Type 0) (rules : Rules) (value : RunValue) (handed : Handed) (old new : Outside) (counted faults_before faults_now : ℕ) (tables_before tables : Option (List (List Try))) (began session : SessionState R)
    → (names : Names) (wanted : Form) (first : ℕ) (behind : Option Contents) (choices_before choices : List Choice) (episodes_before episodes : List Episode) (left_before left : Left) (result : Result Answer Unfollowed)
    → choices_before ≡ [] → episodes_before ≡ [] → left_before ≡ Nothing → new.counter ≡ old.counter + counted
    → ResumesBy rules handed old.input new.input old.output new.output (record { told = noted (Some choices_before) (Some episodes_before) (Some (unnoted_of left_before)); faults = faults_before }) (record { told = noted (Some choices) (Some episodes) (Some (unnoted_of left)); faults = faults_now }) counted tables_before tables began session result
    → names ≡ names_of value → wanted ≡ report_form value.form → first ≡ length handed.episodes → behind ≡ old.files
    → Stands names wanted (if first == 0 then behind else None) new.files choices episodes left → StandsBehind names wanted first behind new.files choices episodes left → AreAsks choices
    → ResumesNoted rules value handed old new began session result
resumes_noted R rules value handed old new counted faults_before faults_now tables_before tables began session names wanted first behind choices_before choices episodes_before episodes left_before left (Ok answered) none none_told none_left count has names_are form_is first_is same stands later asks = (
  has.why,
  (
    has.is,
    λ image begun. serves_on value handed old new names wanted first behind choices_before choices episodes_before episodes left_before left none none_told none_left count (has.served image begun) names_are form_is first_is same stands later asks,
  ),
)
resumes_noted R rules value handed old new counted faults_before faults_now tables_before tables began session names wanted first behind choices_before choices episodes_before episodes left_before left (Err why) none none_told none_left count has names_are form_is first_is same stands later asks =
    λ image begun. stops_noted value handed old new names wanted first behind choices_before choices episodes_before episodes left_before left none none_told none_left count (has.stopped image begun) has.unnoted names_are form_is first_is same stands later asks

-- what the files tell by another name
pub resumes_at : (R : Type 0) (rules : Rules) (value : RunValue) (handed : Handed) (old : Outside) (began session : SessionState R) (result : Result Answer Unfollowed) {files files_now : Option Contents} {calls calls_now : Option (List FileCall)} (input : Option Stream) (output : Option (List ℕ)) (counter : ℕ)
    → files ≡ files_now → calls ≡ calls_now → ResumesNoted rules value handed old (outside files calls input output counter) began session result → ResumesNoted rules value handed old (outside files_now calls_now input output counter) began session result
resumes_at R rules value handed old began session result {files_now = files_now} {calls = calls} input output counter same same_calls has =
    subst (λ c. ResumesNoted rules value handed old (outside files_now c input output counter) began session result) same_calls
    (subst (λ f. ResumesNoted rules value handed old (outside f calls input output counter) began session result) same has)

-- ---- faults

pub notes_later : (R : Type 0) (rules : Rules) (handed : Handed) (source source_later : Option Stream) (sink sink_later : Option (List ℕ)) (shown now : Shown) (counted : ℕ) (tables_before tables : Option (List (List Try))) (began session : SessionState R) (result : Result Answer Unfollowed)
    → ResumesBy rules handed source source_later sink sink_later shown now counted tables_before tables began session result → shown.faults ≤ now.faults
notes_later R rules handed source source_later sink sink_later shown now counted tables_before tables began session (Ok answered) has = has.notes.cause.later
notes_later R rules handed source source_later sink sink_later shown now counted tables_before tables began session (Err why) has = has.notes.cause.later

notes_fault : (R : Type 0) (rules : Rules) (handed : Handed) (source source_later : Option Stream) (sink sink_later : Option (List ℕ)) (shown now : Shown) (counted : ℕ) (tables_before tables : Option (List (List Try))) (began session : SessionState R) (result : Result Answer Unfollowed)
    → ResumesBy rules handed source source_later sink sink_later shown now counted tables_before tables began session result → resumed_answer result ≡ answer.FileFault → Rose shown.faults now.faults
notes_fault R rules handed source source_later sink sink_later shown now counted tables_before tables began session (Ok answered) has is = has.notes.cause.file_fault (file_stop has.why (sym has.is ∙ is))
notes_fault R rules handed source source_later sink sink_later shown now counted tables_before tables began session (Err (unfollowed.Mismatch step)) has is = absurd (let other : answer.Mismatch step ≡ answer.FileFault = is in cc)
notes_fault R rules handed source source_later sink sink_later shown now counted tables_before tables began session (Err (unfollowed.Short conn)) has is = absurd (let other : answer.Short conn ≡ answer.FileFault = is in cc)
notes_fault R rules handed source source_later sink sink_later shown now counted tables_before tables began session (Err (unfollowed.Stops why)) has is = has.notes.cause.file_fault (file_stop why is)

-- a fault of reading or writing is one of the trunk
same_read : (result : Result Answer Unfollowed) → resumed_answer result ≡ answer.ReadFault → answer_as result ≡ answer.ReadFault
same_read (Ok answered) is = is
same_read (Err (unfollowed.Mismatch step)) is = absurd (let other : answer.Mismatch step ≡ answer.ReadFault = is in cc)
same_read (Err (unfollowed.Short conn)) is = absurd (let other : answer.Short conn ≡ answer.ReadFault = is in cc)
same_read (Err (unfollowed.Stops why)) is = is

same_write : (result : Result Answer Unfollowed) → resumed_answer result ≡ answer.WriteFault → answer_as result ≡ answer.WriteFault
same_write (Ok answered) is = is
same_write (Err (unfollowed.Mismatch step)) is = absurd (let other : answer.Mismatch step ≡ answer.WriteFault = is in cc)
same_write (Err (unfollowed.Short conn)) is = absurd (let other : answer.Short conn ≡ answer.WriteFault = is in cc)
same_write (Err (unfollowed.Stops why)) is = is

pub resumed_faults : (R : Type 0) (rules : Rules) (handed : Handed) (source source_later : Option Stream) (sink sink_later : Option (List ℕ)) (shown now : Shown) (counted : ℕ) (tables_before tables : Option (List (List Try))) (began session : SessionState R) (result : Result Answer Unfollowed) {files files_later input input_later output output_later : ℕ}
    → ResumesBy rules handed source source_later sink sink_later shown now counted tables_before tables began session result → HasAnswerCause (trunk_counts input output) (trunk_counts input_later output_later) (answer_as result)
    → shown.faults ≡ files → now.faults ≡ files_later → HasFaults (faults files input output) (faults files_later input_later output_later) (resumed_answer result)
resumed_faults R rules handed source source_later sink sink_later shown now counted tables_before tables began session result {files = files} has cause same same_later = record {
  file_fault = λ is. subst (λ n. Rose files n) same_later (subst (λ n. Rose n now.faults) same (notes_fault R rules handed source source_later sink sink_later shown now counted tables_before tables began session result has is));
  read_fault = λ is. cause.read_fault (same_read result is);
  write_fault = λ is. cause.write_fault (same_write result is);
}

pub faults_as : {old new : Faults} {one other : Answer} → one ≡ other → HasFaults old new other → HasFaults old new one
faults_as {old = old} {new = new} same has = subst (HasFaults old new) (sym same) has

-- ---- the ends

-- a session served behind these calls
pub served_behind : (before : List FileCall) (value : RunValue) (old started served new : Option (List FileCall)) (ended end : Answer) → Calls old started before → AddsAlone (names_of value) started served → CallsEnding value served new ended end
    → CallsServedBehind before value old new ended end
served_behind before value old started served new ended end one adds closing = record {
  added = adds.added;
  each = adds.each;
  last = closing.last;
  is = closing.is;
  made = calls_then old started new before (adds.added ++ closing.last) one (calls_then started served new adds.added closing.last adds.made closing.made);
}

module _ {R : Type 0} where
  -- a session that wasn't released, whatever calls are told beside it, under the rule of its command's guard
  pub has_stopped : (permits : R → Heap → ℕ → ℕ → Bool) (value : RunValue) (handed : Handed) (old new : Outside) (started : Option Contents) (calls : Option (List FileCall)) {image : Image} {rule : R} {session : SessionState R} {why : Unfollowed}
      → permits rule ≡ rule_of value.guard → IsBegun image (options_of value) rule session → StopsNoted (rules_by permits session) image value handed (record old { files = started; calls = calls }) new why
      → StopsNoted (rules_of_run value) image value handed (record old { files = started }) new why
  has_stopped permits value handed old new started calls {image = image} {why = why} own begun stops =
      let allowed = begun_rules permits begun ∙ (λ i. rules_of (options_of value) (own i)) in
      let all = subst (λ (rules : Rules). StopsNoted rules image value handed (record old { files = started; calls = calls }) new why) allowed stops in
      record { choices = all.choices; left = all.left; counted = all.counted; counts = all.counts; follows = all.follows; stands = all.stands; failed = all.failed; asks = all.asks }

-- what was noted, whatever calls are told beside it
noted_of : {before : List Episode} {rules : Rules} {keeping : Keeping} {image : Image} (value : RunValue) (route : Route) (old new : Outside) (started served : Option Contents) (calls calls_later : Option (List FileCall)) (outcome : Outcome)
    → ServesNotedBehind before rules keeping image value route (record old { files = started; calls = calls }) (record new { files = served; calls = calls_later }) outcome
    → ServesNotedBehind before rules keeping image value route (record old { files = started }) (record new { files = served }) outcome
noted_of value route old new started served calls calls_later outcome s = record {
  choices = s.choices;
  episodes = s.episodes;
  left = s.left;
  counted = s.counted;
  counts = s.counts;
  serves = s.serves;
  stands = s.stands;
  asks = s.asks;
}

-- how many items were taken, and how many instructions done, fit into a record
few_behind : (options : Options) → AreInRange options → (permits : Heap → ℕ → ℕ → Bool) (handed : Handed) (events : List LinkEvent) (released : Path) {before : List Episode} {image : Image} {value : RunValue} {route : Route} {old new : Outside} {outcome : Outcome}
    → ServesNotedBehind before (rules_behind (rules_of options permits) handed events released) (keeping_for options) image value route old new outcome → (outcome.taken ≤ MAX_ITEMS) × (outcome.steps < 2 ^ 63)
few_behind options ranges permits handed events released {image = image} served =
    let s = served.serves in
    let session : Session = s.telling.account in
    let account = s.is.is.ended.account in
    let few : session.survivor.now.state.machine.taken ≤ MAX_ITEMS =
    omega (arith, account.taken, few_items (rules_behind (rules_of options permits) handed events released).bounds (journal_of session), ranges.few_items) in
    let budget = ranges.few_budget in
    let product : session.survivor.now.state.machine.taken * (options.budget + 1) < 2 ^ 57 = few_in_all session.survivor.now.state.machine.taken options.budget few (omega (arith, budget)) in
    let done = few_steps (rules_of options permits).limits _ session.survivor.plan image session.survivor.now account.served in
    (subst (λ n. n ≤ MAX_ITEMS) s.is.taken_is few, subst (λ n. n < 2 ^ 63) s.is.steps_are (omega (arith, product, done, budget)))

module _ {R : Type 0} where
  pub resumed_fits : (permits : R → Heap → ℕ → ℕ → Bool) {value : RunValue} {handed : Handed} {old new : Outside} {image : Image} (options : Options) {rule : R} {session : SessionState R} {outcome : Outcome}
      → AreInRange options → IsBegun image options rule session → ServesOnNoted (rules_by permits session) (keeping_for session.options) image value handed old new outcome
      → (outcome.taken ≤ MAX_ITEMS) × (outcome.steps < 2 ^ 63)
  resumed_fits permits {value = value} {handed = handed} {old = old} {new = new} {image = image} options {rule = rule} {session = session} {outcome = outcome} ranges begun on =
      let own : ServesOnNoted (rules_of options (permits rule)) (keeping_for options) image value handed old new outcome =
      subst (λ (rules : Rules). ServesOnNoted rules (keeping_for options) image value handed old new outcome) (begun_rules permits begun)
      (subst (λ (o : Options). ServesOnNoted (rules_by permits session) (keeping_for o) image value handed old new outcome) begun.options_are on) in
      few_behind options ranges (permits rule) handed own.events own.released own.noted

  -- a session that took over under the rule of its command's guard, and was released, as an end
  pub has_resumed : (permits : R → Heap → ℕ → ℕ → Bool) (value : RunValue) (handed : Handed) (old new : Outside) (started served : Option Contents) (calls calls_later : Option (List FileCall)) {image : Image} {rule : R} {session : SessionState R}
      (end : End) (why : Stop) {answered : Answer} {recorded : ℕ} {tail : List Choice} {taken steps taken_told steps_told : ℕ} → permits rule ≡ rule_of value.guard → IsBegun image (options_of value) rule session
      → StartsTakenOver value handed.episodes old.files started (Ok tt)
      → ServesOnNoted (rules_by permits session) (keeping_for session.options) image value handed (record old { files = started; calls = calls }) (record new { files = served; calls = calls_later }) (record { stop = why; recorded = recorded; tail = tail; taken = taken; steps = steps })
      → taken_told ≡ taken → steps_told ≡ steps → ClosesFiles value taken_told steps_told served new.files (answer_of why) answered → CallsServedBehind (before_taken value) value old.calls new.calls (answer_of why) answered
      → end.answer ≡ answered → end.recorded ≡ recorded → end.tail ≡ tail → end.taken ≡ taken → end.steps ≡ steps → HasResumed value image handed old new end
  has_resumed permits value handed old new started served calls calls_later {image = image} {rule = rule} {session = session} end why {answered = answered} {recorded = recorded} {tail = tail} {taken = taken} {steps = steps} {taken_told = taken_told} {steps_told = steps_told} own begun starts on same_taken same_steps closes called answer_is recorded_is tail_is taken_is steps_is =
      let On : Rules → Keeping → Outcome → Type 0 = λ rules keeping outcome. ServesOnNoted rules keeping image value handed (record old { files = started; calls = calls }) (record new { files = served; calls = calls_later }) outcome in
      let allowed : rules_by permits session ≡ rules_of_run value = begun_rules permits begun ∙ (λ i. rules_of (options_of value) (own i)) in
      let outcome : Outcome = record { stop = why; recorded = recorded; tail = tail; taken = taken; steps = steps } in
      let same : outcome ≡ record { stop = why; recorded = end.recorded; tail = end.tail; taken = end.taken; steps = end.steps } =
      λ i. record { stop = why; recorded = (sym recorded_is) i; tail = (sym tail_is) i; taken = (sym taken_is) i; steps = (sym steps_is) i } in
      let all =
      subst (On (rules_of_run value) (keeping_for (options_of value))) same
      (subst (λ rules. On rules (keeping_for (options_of value)) outcome) allowed (subst (λ o. On (rules_by permits session) (keeping_for o) outcome) begun.options_are on)) in
      let behind : Rules = rules_behind (rules_of_run value) handed all.events all.released in
      let noted = noted_of value (trunk_of old new) old new started served calls calls_later (record { stop = why; recorded = end.recorded; tail = end.tail; taken = end.taken; steps = end.steps }) all.noted in
      let closed : ClosesFiles value end.taken end.steps served new.files (answer_of why) end.answer =
      subst (λ a. ClosesFiles value end.taken end.steps served new.files (answer_of why) a) (sym answer_is)
      (subst (λ t. ClosesFiles value t end.steps served new.files (answer_of why) answered) (same_taken ∙ sym taken_is) (subst (λ n. ClosesFiles value taken_told n served new.files (answer_of why) answered) (same_steps ∙ sym steps_is) closes)) in
      record {
        events = all.events;
        released = all.released;
        followed = all.followed;
        served = record {
          image = image;
          program = refl;
          files_started = started;
          files_served = served;
          why = why;
          starts = starts;
          noted = noted;
          closes = closed;
          called = subst (CallsServedBehind (before_taken value) value old.calls new.calls (answer_of why)) (sym answer_is) called;
          texts = closes_behind value noted.choices handed.episodes noted.episodes noted.left end.taken end.steps old.files started served new.files (answer_of why) end.answer starts noted.stands (whole_at why noted.left end.tail noted.serves.is.notes.missing noted.serves.is.notes.handed) closed;
          headline = headline behind (keeping_for (options_of value)) image (trunk_of old new) why end noted.choices noted.episodes _ _ (closes_same value end.taken end.steps served new.files (answer_of why) end.answer closed) noted.counted noted.serves;
          guarded = keeps_to_blocks value.guard behind (keeping_for (options_of value)) image why end noted.choices noted.episodes refl noted.serves.is;
        };
      }
