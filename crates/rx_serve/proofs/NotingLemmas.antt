-- What stands in a session's files at its end, and that the counts of it fit into a record.
use Rattle.rx_base.specs.declared.fault.IoFault.TheVariants as fault
use Rattle.run_history.specs.declared.answer.Answer.TheVariants as answer
use Rattle.rx_serve.proofs.Terms.{Bool, List, None, Ok, Option, Some, [], arith, inl, inr, refl, subst, sym, ℕ, ◌*◌, ◌+◌, ◌<◌, ◌^◌, ◌∙◌, ◌≡◌, ◌≤◌, IoFault, MAX_ITEMS, few_in_all, Stream, FileCall, Contents, Choice, Heap, Image, Answer, Stop, is_end_answer, Session, journal_of, IsEnd, answer_of, Rules, Episode, Try, NoneFailed, Shown, noted, few_items, Keeping, Form, whole_texts, AreAsks, InRecord, InReport, Left, Nothing, unnoted_of, Names, Stands, Options, AreInRange, keeping_for, rules_of, IsHandedLast, IsNoteStop, Outcome, SessionState, HasServedOver, Route, Trunk, Watches, RunValue, Outside, outside, status_of, ClosesFiles, EndsFiles, HaveTexts, IsFilesAnswer, ServesNoted, StartsFiles, WatchesNoted, names_of, report_form}
use Rattle.rx_serve.proofs.FewSteps.{few_steps}
use Rattle.session_history.specs.declared.ends.SessionBreak.TheVariants as session_break
use Rattle.session_history.specs.declared.ends.Stop.TheVariants as stop

-- ---- the texts

texts : (value : RunValue) (choices : List Choice) (episodes : List Episode) (ended : Answer) (taken steps : ℕ) (before started noted now : Option Contents)
    → StartsFiles value before started (Ok tt) → Stands (names_of value) (report_form value.form) started noted choices episodes Nothing → EndsFiles value ended taken steps noted now (Ok tt)
    → HaveTexts value choices episodes ended taken steps before now
texts value choices episodes ended taken steps None started noted now starts stands ends = tt
texts value choices episodes ended taken steps (Some before) None noted now starts stands ends = absurd starts
texts value choices episodes ended taken steps (Some before) (Some started) None now starts stands ends = absurd stands
texts value choices episodes ended taken steps (Some before) (Some started) (Some noted) None starts stands ends = absurd ends
texts value choices episodes ended taken steps (Some before) (Some started) (Some noted) (Some now) starts stands ends = whole_texts (names_of value) value.window value.frame (report_form value.form) before started noted now choices episodes (status_of ended) taken steps starts stands ends

-- ---- the ends

-- a fault of the notes is no end
pub note_is_no_end : (why : IoFault) (end : Answer) → IsFilesAnswer why end → IsEnd end → ⊥
note_is_no_end fault.Failed end note is = subst IsEnd note is
note_is_no_end fault.Memory end note is = subst IsEnd note is

-- at an end no call of the notes has failed, so nothing is left
nothing_left : (left : Left) → Some (unnoted_of left) ≡ Some NoneFailed → left ≡ Nothing
nothing_left Nothing is = refl
nothing_left (InRecord choices count) is = absurd (let never : ⊥ = cc in never)
nothing_left (InReport e count) is = absurd (let never : ⊥ = cc in never)

note_stop_no_end : (why : Stop) → IsNoteStop why → IsEnd (answer_of why) → ⊥
note_stop_no_end (stop.Ends end) note is = note
note_stop_no_end (stop.Breaks session_break.ReadFault) note is = is
note_stop_no_end (stop.Breaks session_break.WriteFault) note is = is
note_stop_no_end (stop.Breaks session_break.FileFault) note is = is
note_stop_no_end (stop.Breaks session_break.Memory) note is = is

-- a session that was answered with a fault of the files was broken off by one
pub file_stop : (why : Stop) → answer_of why ≡ answer.FileFault → why ≡ stop.Breaks session_break.FileFault
file_stop (stop.Ends end) is = absurd (subst IsEnd is (is_end_answer end))
file_stop (stop.Breaks session_break.ReadFault) is = absurd (let never : answer.ReadFault ≡ answer.FileFault = is in cc)
file_stop (stop.Breaks session_break.WriteFault) is = absurd (let never : answer.WriteFault ≡ answer.FileFault = is in cc)
file_stop (stop.Breaks session_break.FileFault) is = refl
file_stop (stop.Breaks session_break.Memory) is = absurd (let never : answer.Memory ≡ answer.FileFault = is in cc)

pub whole_at : (why : Stop) (left : Left) (tail : List Choice) (missing : List Episode) → IsHandedLast (Some NoneFailed) (Some (unnoted_of left)) why tail missing → IsEnd (answer_of why) → left ≡ Nothing
whole_at why left tail missing (inl none) is = nothing_left left none.0
whole_at why left tail missing (inr failed) is = absurd (note_stop_no_end why failed.0 is)

-- at an end it is the session's own
pub closes_same : (value : RunValue) (taken steps : ℕ) (files files_later : Option Contents) (ended end : Answer) → ClosesFiles value taken steps files files_later ended end → IsEnd end → end ≡ ended
closes_same value taken steps files files_later ended end (inl (is_end, (same, ends))) is = same
closes_same value taken steps files files_later ended end (inr (inl (is_end, (why, (note, ends))))) is = absurd (note_is_no_end why end note is)
closes_same value taken steps files files_later ended end (inr (inr (none, (same, left)))) is = same

-- no fault of the two files is one of the input or of the output
pub not_read : (why : IoFault) → IsFilesAnswer why answer.ReadFault → ⊥
not_read fault.Failed note = cc
not_read fault.Memory note = cc

pub not_write : (why : IoFault) → IsFilesAnswer why answer.WriteFault → ⊥
not_write fault.Failed note = cc
not_write fault.Memory note = cc

-- what is no fault of the files was answered before they were ended
pub closes_other : (value : RunValue) (taken steps : ℕ) (files files_later : Option Contents) (ended end : Answer) {other : Answer} → ((why : IoFault) → IsFilesAnswer why other → ⊥) → ClosesFiles value taken steps files files_later ended end → end ≡ other → ended ≡ other
closes_other value taken steps files files_later ended end not (inl (is_end, (same, ends))) is = sym same ∙ is
closes_other value taken steps files files_later ended end not (inr (inl (is_end, (why, (note, ends))))) is = absurd (not why (subst (IsFilesAnswer why) is note))
closes_other value taken steps files files_later ended end not (inr (inr (none, (same, kept)))) is = sym same ∙ is

-- and both files have their whole texts
pub closes_whole : (value : RunValue) (choices : List Choice) (episodes : List Episode) (left : Left) (taken steps : ℕ) (before started noted now : Option Contents) (ended end : Answer)
    → StartsFiles value before started (Ok tt) → Stands (names_of value) (report_form value.form) started noted choices episodes left → (IsEnd ended → left ≡ Nothing)
    → ClosesFiles value taken steps noted now ended end → IsEnd end → HaveTexts value choices episodes end taken steps before now
closes_whole value choices episodes left taken steps before started noted now ended end starts stands whole (inl (is_end, (same, ends))) is =
    subst (λ a. HaveTexts value choices episodes a taken steps before now) (sym same)
    (texts value choices episodes ended taken steps before started noted now starts
    (subst (λ l. Stands (names_of value) (report_form value.form) started noted choices episodes l) (whole is_end) stands) ends)
closes_whole value choices episodes left taken steps before started noted now ended end starts stands whole (inr (inl (is_end, (why, (note, ends))))) is = absurd (note_is_no_end why end note is)
closes_whole value choices episodes left taken steps before started noted now ended end starts stands whole (inr (inr (none, (same, kept)))) is = absurd (none (subst IsEnd same is))

-- ---- the notes

-- a session served with notes that were new, and that stand in its files
pub watches_noted : {rules : Rules} {keeping : Keeping} {image : Image} (value : RunValue) (route : Route) (old new : Outside) {outcome : Outcome} {counted : ℕ} {tables_before tables : Option (List (List Try))}
    → (names : Names) (wanted : Form) (told : Option Contents) (choices_before choices : List Choice) (episodes_before episodes : List Episode) (left_before left : Left)
    → choices_before ≡ [] → episodes_before ≡ [] → left_before ≡ Nothing → new.counter ≡ old.counter + counted
    → Watches route rules keeping image outcome (noted (Some choices_before) (Some episodes_before) (Some (unnoted_of left_before))) (noted (Some choices) (Some episodes) (Some (unnoted_of left))) counted tables_before tables
    → names ≡ names_of value → wanted ≡ report_form value.form → told ≡ old.files → Stands names wanted told new.files choices episodes left → AreAsks choices
    → WatchesNoted rules keeping image value route old new outcome tables_before tables
watches_noted {rules = rules} {keeping = keeping} {image = image} value route old new {outcome = outcome} {counted = counted} {tables_before = tables_before} {tables = tables} names wanted told choices_before choices episodes_before episodes left_before left none none_told none_left count serves names_are form_is told_is stands asks =
    let all : Watches route rules keeping image outcome (noted (Some []) (Some []) (Some NoneFailed)) (noted (Some choices) (Some episodes) (Some (unnoted_of left))) counted tables_before tables =
    subst (λ part. Watches route rules keeping image outcome (noted (Some []) (Some []) (Some (unnoted_of part))) (noted (Some choices) (Some episodes) (Some (unnoted_of left))) counted tables_before tables) none_left
    (subst (λ list. Watches route rules keeping image outcome (noted (Some []) (Some list) (Some (unnoted_of left_before))) (noted (Some choices) (Some episodes) (Some (unnoted_of left))) counted tables_before tables) none_told
    (subst (λ list. Watches route rules keeping image outcome (noted (Some list) (Some episodes_before) (Some (unnoted_of left_before))) (noted (Some choices) (Some episodes) (Some (unnoted_of left))) counted tables_before tables) none serves)) in
    record {
      noted = record {
        choices = choices;
        episodes = episodes;
        left = left;
        counted = counted;
        counts = count;
        serves = all.serves;
        stands =
            subst (λ before. Stands (names_of value) (report_form value.form) before new.files choices episodes left) told_is
            (subst (λ f. Stands (names_of value) f told new.files choices episodes left) form_is (subst (λ n. Stands n wanted told new.files choices episodes left) names_are stands));
        asks = asks;
      };
      watched = all.watched;
    }

-- the same, with the episodes that were noted
pub watches_kept : {rules : Rules} {keeping : Keeping} {image : Image} (value : RunValue) (route : Route) (old new : Outside) {outcome : Outcome} {counted : ℕ} {tables_before tables : Option (List (List Try))}
    → (names : Names) (wanted : Form) (told : Option Contents) (choices_before choices : List Choice) (episodes_before episodes : List Episode) (left_before left : Left)
    → choices_before ≡ [] → episodes_before ≡ [] → left_before ≡ Nothing → new.counter ≡ old.counter + counted
    → Watches route rules keeping image outcome (noted (Some choices_before) (Some episodes_before) (Some (unnoted_of left_before))) (noted (Some choices) (Some episodes) (Some (unnoted_of left))) counted tables_before tables
    → names ≡ names_of value → wanted ≡ report_form value.form → told ≡ old.files → Stands names wanted told new.files choices episodes left → AreAsks choices
    → (w : WatchesNoted rules keeping image value route old new outcome tables_before tables) × (w.noted.episodes ≡ episodes)
unfolding watches_noted
watches_kept value route old new names wanted told choices_before choices episodes_before episodes left_before left none none_told none_left count serves names_are form_is told_is stands asks =
    (watches_noted value route old new names wanted told choices_before choices episodes_before episodes left_before left none none_told none_left count serves names_are form_is told_is stands asks, refl)

-- the same, of what the files tell by another name
pub watched_at : {rules : Rules} {keeping : Keeping} {image : Image} {value : RunValue} {route : Route} {old : Outside} {outcome : Outcome} {tables_before tables : Option (List (List Try))} {files files_now : Option Contents} {calls calls_now : Option (List FileCall)}
    {input : Option Stream} {output : Option (List ℕ)} {counter : ℕ} → files ≡ files_now → calls ≡ calls_now
    → WatchesNoted rules keeping image value route old (outside files calls input output counter) outcome tables_before tables → WatchesNoted rules keeping image value route old (outside files_now calls_now input output counter) outcome tables_before tables
watched_at {rules = rules} {keeping = keeping} {image = image} {value = value} {route = route} {old = old} {outcome = outcome} {tables_before = tables_before} {tables = tables} {files_now = files_now} {calls = calls} {input = input} {output = output} {counter = counter} same same_calls noted =
    subst (λ c. WatchesNoted rules keeping image value route old (outside files_now c input output counter) outcome tables_before tables) same_calls
    (subst (λ f. WatchesNoted rules keeping image value route old (outside f calls input output counter) outcome tables_before tables) same noted)

pub kept_at : {rules : Rules} {keeping : Keeping} {image : Image} {value : RunValue} {route : Route} {old : Outside} {outcome : Outcome} {tables_before tables : Option (List (List Try))} {files files_now : Option Contents} {calls calls_now : Option (List FileCall)}
    {input : Option Stream} {output : Option (List ℕ)} {counter : ℕ} {episodes : List Episode} → files ≡ files_now → calls ≡ calls_now
    → (w : WatchesNoted rules keeping image value route old (outside files calls input output counter) outcome tables_before tables) × (w.noted.episodes ≡ episodes)
    → (w : WatchesNoted rules keeping image value route old (outside files_now calls_now input output counter) outcome tables_before tables) × (w.noted.episodes ≡ episodes)
kept_at {rules = rules} {keeping = keeping} {image = image} {value = value} {route = route} {old = old} {outcome = outcome} {tables_before = tables_before} {tables = tables} {files_now = files_now} {calls = calls} {input = input} {output = output} {counter = counter} {episodes = episodes} same same_calls noted =
    subst (λ c. (w : WatchesNoted rules keeping image value route old (outside files_now c input output counter) outcome tables_before tables) × (w.noted.episodes ≡ episodes)) same_calls
    (subst (λ f. (w : WatchesNoted rules keeping image value route old (outside f calls input output counter) outcome tables_before tables) × (w.noted.episodes ≡ episodes)) same noted)

-- ---- the counts

-- an account of a session within its bounds: few items were taken, and few instructions done
pub few_counts : (options : Options) → AreInRange options → (permits : Heap → ℕ → ℕ → Bool) {image : Image} {value : RunValue} {route : Route} {old new : Outside} {outcome : Outcome}
    → ServesNoted (rules_of options permits) (keeping_for options) image value route old new outcome → (outcome.taken ≤ MAX_ITEMS) × (outcome.steps < 2 ^ 63)
few_counts options ranges permits {image = image} noted =
    let s = noted.serves in
    let session : Session = s.telling.account in
    let account = s.is.is.ended.account in
    let few : session.survivor.now.state.machine.taken ≤ MAX_ITEMS =
    omega (arith, account.taken, few_items (rules_of options permits).bounds (journal_of session), ranges.few_items) in
    let budget = ranges.few_budget in
    let product : session.survivor.now.state.machine.taken * (options.budget + 1) < 2 ^ 57 = few_in_all session.survivor.now.state.machine.taken options.budget few (omega (arith, budget)) in
    let done = few_steps (rules_of options permits).limits _ session.survivor.plan image session.survivor.now account.served in
    (subst (λ n. n ≤ MAX_ITEMS) s.is.taken_is few, subst (λ n. n < 2 ^ 63) s.is.steps_are (omega (arith, product, done, budget)))

-- ---- notes that were lent

module _ {R : Type 0} where
  -- what a session left, of what the notes show by other names
  pub served_at : {rules : Rules} {source source_later : Option Stream} {sink sink_later : Option (List ℕ)} {shown shown_now other other_now : Shown} {counted : ℕ} {tables_before tables : Option (List (List Try))} {old new : SessionState R} {answered : Answer}
      → shown ≡ other → shown_now ≡ other_now → HasServedOver (Trunk source source_later sink sink_later) rules shown shown_now counted tables_before tables old new answered
      → HasServedOver (Trunk source source_later sink sink_later) rules other other_now counted tables_before tables old new answered
  served_at {rules = rules} {source = source} {source_later = source_later} {sink = sink} {sink_later = sink_later} {shown_now = shown_now} {other = other} {counted = counted} {tables_before = tables_before} {tables = tables} {old = old} {new = new} {answered = answered} same same_now served =
      subst (λ (s : Shown). HasServedOver (Trunk source source_later sink sink_later) rules other s counted tables_before tables old new answered) same_now
      (subst (λ (s : Shown). HasServedOver (Trunk source source_later sink sink_later) rules s shown_now counted tables_before tables old new answered) same served)
