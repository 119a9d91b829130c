-- What `diagnose` leaves, from what its parts leave.
use Rattle.std.specs.Prelude.{true, false}
use Rattle.file_notes.proofs.BesideLemmas.{beside_here, beside_of, beside_other, beside_told, stands_beside, writes_beside}
use Rattle.rx_serve.proofs.Terms.{Bool, List, None, Ok, Option, Some, [], ap, append-nil, arith, inl, inr, length, refl, subst, suc, sym, take, ℕ, ◌++◌, ◌∙◌, ◌∷◌, ◌≡◌, ◌≤◌, same_Some, Err, MatchOption, if◌then◌else◌, option_map, ◌≢◌, ◌⊎◌, IoFault, HasCause, Stream, FileCall, Calls, Contents, Choice, Heap, Image, Answer, Stop, holds_at_end, IsEnd, answer_of, Rules, Episode, Try, NoteList, list_episodes, NoneFailed, noted, Keeping, TellsMore, diagnosis_text, head_text, rest_text, calls_then, front_behind, IsThird, StandsBeside, AddsAlone, CallsFront, starts_of, Left, unnoted_of, Stands, all_kept, keeping_for, AreAllTables, Outcome, story_of, rules_by, IsBegun, SessionState, Route, Trunk, Watches, BeginWith, NotedTablesAreTold, DiagnoseValue, RunValue, End, HasFaults, Outside, faults, outside, HasImage, status_of, options_of, rule_of, rules_of_run, window_of, ClosesFiles, IsFilesAnswer, ServesNoted, StartsFiles, WatchesNoted, names_of, report_form, CallsEnding, CallsServed, before_session, CallsClosing, CallsDiagnosed, ClosesDiagnosis, HasDiagnosed, HasDiagnosis, HasText, IsKept, StartsDiagnosis, before_diagnosed}
use Rattle.rx_serve.proofs.NotingLemmas.{closes_same}
use Rattle.rx_base.specs.declared.fault.IoFault.TheVariants as fault
use Rattle.run_history.specs.declared.answer.Answer.TheVariants as answer
use Rattle.rx_serve.proofs.RunLemmas.{rose_within, run_ends}

module _ (value : DiagnoseValue) (third : IsThird (names_of value.session) value.diagnosis) where
  -- what a session noted, as if no diagnosis were there
  pub watched_beside : {rules : Rules} {keeping : Keeping} {image : Image} {route : Route} (old new : Outside) {outcome : Outcome} {tables_before tables : Option (List (List Try))} (started headed served : Option Contents)
      → StartsDiagnosis value started headed (Ok tt)
      → (w : WatchesNoted rules keeping image value.session route (record old { files = headed }) (record new { files = served }) outcome tables_before tables)
      → (v : WatchesNoted rules keeping image value.session route (record old { files = started }) (record new { files = beside_told value.diagnosis started served }) outcome tables_before tables) × (v.noted.episodes ≡ w.noted.episodes)
  watched_beside old new started headed served writes w = let s = w.noted in (
    record {
      noted = record {
        choices = s.choices;
        episodes = s.episodes;
        left = s.left;
        counted = s.counted;
        counts = s.counts;
        serves = s.serves;
        stands = stands_beside (names_of value.session) value.diagnosis third (report_form value.session.form) head_text s.choices s.episodes s.left started headed served writes s.stands;
        asks = s.asks;
      };
      watched = w.watched;
    },
    refl,
  )

  -- and what it left behind that
  pub closes_beside : (taken steps : ℕ) (before files files_later : Option Contents) (ended end : Answer) → ClosesFiles value.session taken steps files files_later ended end
      → ClosesFiles value.session taken steps (beside_told value.diagnosis before files) (beside_told value.diagnosis before files_later) ended end
  closes_beside taken steps before files files_later ended end (inl (is, (same, ends))) = inl (is, (same, writes_beside (names_of value.session) value.diagnosis third all_kept _ _ before files files_later (Ok tt) ends))
  closes_beside taken steps before files files_later ended end (inr (inl (is, (why, (note, ends))))) = inr (inl (is, (why, (note, writes_beside (names_of value.session) value.diagnosis third all_kept _ _ before files files_later (Err why) ends))))
  closes_beside taken steps before files files_later ended end (inr (inr (none, (same, kept)))) = inr (inr (none, (same, ap (beside_told value.diagnosis before) kept)))

  no_record : value.diagnosis ≢ value.session.recording
  no_record same = third.no_record (sym same)

  no_report : value.diagnosis ≢ value.session.report
  no_report same = third.no_report (sym same)

  -- the last lines of the session's files leave the diagnosis as it is
  record IsLeft (files : Contents) (later : Option Contents) : Type 0 where
    now : Contents
    is : later ≡ Some now
    same : now value.diagnosis ≡ files value.diagnosis

  closes_left : (taken steps : ℕ) (files : Contents) (later : Option Contents) (ended end : Answer) → ClosesFiles value.session taken steps (Some files) later ended end → IsLeft files later
  closes_left taken steps files None ended end (inl (is, (same, ends))) = absurd ends
  closes_left taken steps files None ended end (inr (inl (is, (why, (note, ends))))) = absurd ends
  closes_left taken steps files None ended end (inr (inr (none, (same, kept)))) = absurd (let no : None ≡ Some files = kept in cc)
  closes_left taken steps files (Some now) ended end (inl (is, (same, ends))) = record { now = now; is = refl; same = ends.others value.diagnosis no_record no_report }
  closes_left taken steps files (Some now) ended end (inr (inl (is, (why, (note, ends))))) = record { now = now; is = refl; same = ends.others value.diagnosis no_record no_report }
  closes_left taken steps files (Some now) ended end (inr (inr (none, (same, kept)))) = record { now = now; is = refl; same = ap (λ (f : Contents). f value.diagnosis) (same_Some now files kept) }

  -- what is added behind the first line
  closes_text : (episodes : List Episode) (tables : List (List Try)) (files : Contents) (later : Option Contents) (ended end : Answer) → files value.diagnosis ≡ Some head_text
      → ClosesDiagnosis value episodes tables (Some files) later ended end → (now : Contents) × (later ≡ Some now) × ((text : List ℕ) × ((now value.diagnosis ≡ Some text) × HasText episodes tables ended end text))
  closes_text episodes tables files None ended end headed (inl (is, (same, adds))) = absurd adds
  closes_text episodes tables files None ended end headed (inr (inl (is, (why, (note, adds))))) = absurd adds
  closes_text episodes tables files None ended end headed (inr (inr (none, (same, kept)))) = absurd (let no : None ≡ Some files = kept in cc)
  closes_text episodes tables files (Some now) ended end headed (inl (is, (same, adds))) = (
    now,
    refl,
    (
      diagnosis_text episodes tables (status_of ended),
      (adds.here ∙ ap (λ (o : Option (List ℕ)). Some (all_kept o ++ rest_text episodes tables (status_of ended))) headed, inl (is, (same, refl))),
    ),
  )
  closes_text episodes tables files (Some now) ended end headed (inr (inl (is, (why, (note, adds))))) =
      elim adds.here [
        | inl same ↦ (now, refl, (head_text, (same ∙ headed, inr (inl (is, (why, (note, (0, sym (append-nil head_text)))))))))
        | inr (count, some) ↦ (
          now,
          refl,
          (
            head_text ++ take count (rest_text episodes tables (status_of ended)),
            (some ∙ ap (λ (o : Option (List ℕ)). Some (all_kept o ++ take count (rest_text episodes tables (status_of ended)))) headed, inr (inl (is, (why, (note, (count, refl)))))),
          ),
        )
      ]
  closes_text episodes tables files (Some now) ended end headed (inr (inr (none, (same, kept)))) =
      (now, refl, (head_text, (ap (λ (f : Contents). f value.diagnosis) (same_Some now files kept) ∙ headed, inr (inr (none, (same, refl))))))

  -- what the end of the diagnosis leaves of the other files
  closes_others : (episodes : List Episode) (tables : List (List Try)) (files now : Contents) (ended end : Answer) → ClosesDiagnosis value episodes tables (Some files) (Some now) ended end
      → (other : List ℕ) → other ≢ value.diagnosis → now other ≡ files other
  closes_others episodes tables files now ended end (inl (is, (same, adds))) other differs = adds.others other differs
  closes_others episodes tables files now ended end (inr (inl (is, (why, (note, adds))))) other differs = adds.others other differs
  closes_others episodes tables files now ended end (inr (inr (none, (same, kept)))) other differs = ap (λ (f : Contents). f other) (same_Some now files kept)

  -- behind the session and its last lines the diagnosis has its first line still
  record IsHeaded (later : Option Contents) : Type 0 where
    files : Contents
    is : later ≡ Some files
    headed : files value.diagnosis ≡ Some head_text

  still_headed : (taken steps : ℕ) (choices : List Choice) (episodes : List Episode) (left : Left) (started headed served : Contents) (later : Option Contents) (stopped ended : Answer) → StartsDiagnosis value (Some started) (Some headed) (Ok tt)
      → Stands (names_of value.session) (report_form value.session.form) (Some headed) (Some served) choices episodes left → ClosesFiles value.session taken steps (Some served) later stopped ended → IsHeaded later
  still_headed taken steps choices episodes left started headed served later stopped ended writes stands closes =
      let kept = closes_left taken steps served later stopped ended closes in
      record { files = kept.now; is = kept.is; headed = kept.same ∙ stands.others value.diagnosis no_record no_report ∙ writes.here }

  -- so the diagnosis has its text at the end
  pub has_diagnosis : (taken steps : ℕ) (choices : List Choice) (episodes : List Episode) (left : Left) (tables : List (List Try)) (before started headed served noted now : Option Contents) (stopped ended end : Answer)
      → StartsFiles value.session before started (Ok tt) → StartsDiagnosis value started headed (Ok tt) → Stands (names_of value.session) (report_form value.session.form) headed served choices episodes left
      → ClosesFiles value.session taken steps served noted stopped ended → ClosesDiagnosis value episodes tables noted now ended end → HasDiagnosis value episodes tables ended end before now
  has_diagnosis taken steps choices episodes left tables None started headed served noted now stopped ended end starts writes stands closes closing = tt
  has_diagnosis taken steps choices episodes left tables (Some before) None headed served noted now stopped ended end starts writes stands closes closing = absurd starts
  has_diagnosis taken steps choices episodes left tables (Some before) (Some started) None served noted now stopped ended end starts writes stands closes closing = absurd writes
  has_diagnosis taken steps choices episodes left tables (Some before) (Some started) (Some headed) None noted now stopped ended end starts writes stands closes closing = absurd stands
  has_diagnosis taken steps choices episodes left tables (Some before) (Some started) (Some headed) (Some served) noted now stopped ended end starts writes stands closes closing =
      let still = still_headed taken steps choices episodes left started headed served noted stopped ended writes stands closes in
      let all = closes_text episodes tables still.files now ended end still.headed (subst (λ (files : Option Contents). ClosesDiagnosis value episodes tables files now ended end) still.is closing) in
      subst (HasDiagnosis value episodes tables ended end (Some before)) (sym all.1) all.2

  -- and the other files are those of the session
  pub files_beside : (taken steps : ℕ) (choices : List Choice) (episodes : List Episode) (left : Left) (tables : List (List Try)) (before started headed served noted now : Option Contents) (stopped ended end : Answer)
      → StartsFiles value.session before started (Ok tt) → StartsDiagnosis value started headed (Ok tt) → Stands (names_of value.session) (report_form value.session.form) headed served choices episodes left
      → ClosesFiles value.session taken steps served noted stopped ended → ClosesDiagnosis value episodes tables noted now ended end → StandsBeside value.diagnosis before (beside_told value.diagnosis started noted) now
  files_beside taken steps choices episodes left tables None started headed served noted now stopped ended end starts writes stands closes closing = tt
  files_beside taken steps choices episodes left tables (Some before) None headed served noted now stopped ended end starts writes stands closes closing = absurd starts
  files_beside taken steps choices episodes left tables (Some before) (Some started) None served noted now stopped ended end starts writes stands closes closing = absurd writes
  files_beside taken steps choices episodes left tables (Some before) (Some started) (Some headed) None noted now stopped ended end starts writes stands closes closing = absurd stands
  files_beside taken steps choices episodes left tables (Some before) (Some started) (Some headed) (Some served) noted now stopped ended end starts writes stands closes closing =
      let still = still_headed taken steps choices episodes left started headed served noted stopped ended writes stands closes in
      let own = subst (λ (files : Option Contents). ClosesDiagnosis value episodes tables files now ended end) still.is closing in
      let all = closes_text episodes tables still.files now ended end still.headed own in
      let last = subst (λ (files : Option Contents). ClosesDiagnosis value episodes tables (Some still.files) files ended end) all.1 own in
      let stands_now : StandsBeside value.diagnosis (Some before) (Some (beside_of value.diagnosis started still.files)) (Some all.0) = record {
        here = beside_here value.diagnosis started still.files ∙ starts.others value.diagnosis no_record no_report;
        others = λ other differs. beside_other value.diagnosis started still.files other differs ∙ sym (closes_others episodes tables still.files all.0 ended end last other differs);
      } in
      subst (λ (files : Option Contents). StandsBeside value.diagnosis (Some before) (beside_told value.diagnosis (Some started) files) now) (sym still.is)
      (subst (λ (files : Option Contents). StandsBeside value.diagnosis (Some before) (Some (beside_of value.diagnosis started still.files)) files) (sym all.1) stands_now)

-- ---- the answer and the calls

pub answered_so : (value : DiagnoseValue) (episodes : List Episode) (tables : List (List Try)) (files files_later : Option Contents) (ended end : Answer) → ClosesDiagnosis value episodes tables files files_later ended end
    → (end ≡ ended) ⊎ (IsEnd ended × ((why : IoFault) × IsFilesAnswer why end))
answered_so value episodes tables files files_later ended end (inl (is, (same, adds))) = inl same
answered_so value episodes tables files files_later ended end (inr (inl (is, (why, (note, adds))))) = inr (is, (why, note))
answered_so value episodes tables files files_later ended end (inr (inr (none, (same, kept)))) = inl same

-- what is no fault of the files was answered before
pub diagnosis_other : (value : DiagnoseValue) (episodes : List Episode) (tables : List (List Try)) (files files_later : Option Contents) (ended end : Answer) {other : Answer} → ((why : IoFault) → IsFilesAnswer why other → ⊥)
    → ClosesDiagnosis value episodes tables files files_later ended end → end ≡ other → ended ≡ other
diagnosis_other value episodes tables files files_later ended end not (inl (is_end, (same, adds))) is = sym same ∙ is
diagnosis_other value episodes tables files files_later ended end not (inr (inl (is_end, (why, (note, adds))))) is = absurd (not why (subst (IsFilesAnswer why) is note))
diagnosis_other value episodes tables files files_later ended end not (inr (inr (none, (same, kept)))) is = sym same ∙ is

-- what calls are told behind the old ones, if those are told
calls_alone : (old : Option (List FileCall)) (more : List FileCall) → Calls old (option_map (λ told. told ++ more) old) more
calls_alone None more = tt
calls_alone (Some old) more = refl

-- where the diagnosis couldn't be started, only a count of the files' faults has to have risen
pub start_faults : (files started headed input output : ℕ) (why : IoFault) (between answered : Answer) → IsFilesAnswer why between → answered ≡ between → files ≤ started → HasCause {T = Unit {0}} started headed (Err why)
    → HasFaults (faults files input output) (faults headed input output) answered
start_faults files started headed input output fault.Failed between answered note same less cause = record {
  file_fault = λ is. rose_within less (omega arith) (cause.failed refl);
  read_fault = λ is. absurd (let other : answer.FileFault ≡ answer.ReadFault = sym note ∙ sym same ∙ is in cc);
  write_fault = λ is. absurd (let other : answer.FileFault ≡ answer.WriteFault = sym note ∙ sym same ∙ is in cc);
}
start_faults files started headed input output fault.Memory between answered note same less cause = record {
  file_fault = λ is. absurd (let other : answer.Memory ≡ answer.FileFault = sym note ∙ sym same ∙ is in cc);
  read_fault = λ is. absurd (let other : answer.Memory ≡ answer.ReadFault = sym note ∙ sym same ∙ is in cc);
  write_fault = λ is. absurd (let other : answer.Memory ≡ answer.WriteFault = sym note ∙ sym same ∙ is in cc);
}

module _ (value : DiagnoseValue) where
  -- the diagnosis wasn't started, or not whole
  pub diagnosis_part : (old started now : Option (List FileCall)) → Calls old started (before_session value.session) → CallsFront started now (starts_of value.diagnosis) → CallsFront old now (before_diagnosed value)
  diagnosis_part old started now one two = front_behind old started now (before_session value.session) (starts_of value.diagnosis) one two

  pub diagnosed_calls : (old started headed served noted now : Option (List FileCall)) (stopped ended end : Answer) → Calls old started (before_session value.session) → Calls started headed (starts_of value.diagnosis)
      → AddsAlone (names_of value.session) headed served → CallsEnding value.session served noted stopped ended → CallsClosing value noted now ended end → CallsDiagnosed value old now stopped ended end
  diagnosed_calls old started headed served noted now stopped ended end one two adds ends closes = record {
    added = adds.added;
    each = adds.each;
    last = ends.last;
    is = ends.is;
    rest = closes.rest;
    closing = closes.is;
    made =
        calls_then old headed now (before_diagnosed value) (adds.added ++ (ends.last ++ closes.rest)) (calls_then old started headed (before_session value.session) (starts_of value.diagnosis) one two)
        (calls_then headed served now adds.added (ends.last ++ closes.rest) adds.made (calls_then served noted now ends.last closes.rest ends.made closes.made));
  }

  -- the calls of a `run` alone
  abbrev pub run_calls : {headed served noted : Option (List FileCall)} {stopped ended : Answer} → Option (List FileCall) → AddsAlone (names_of value.session) headed served → CallsEnding value.session served noted stopped ended → Option (List FileCall)
  run_calls old adds ends = option_map (λ calls. calls ++ (before_session value.session ++ (adds.added ++ ends.last))) old

  pub run_alone : {headed served noted : Option (List FileCall)} {stopped ended : Answer} (old : Option (List FileCall)) (adds : AddsAlone (names_of value.session) headed served) (ends : CallsEnding value.session served noted stopped ended)
      → CallsServed value.session old (run_calls old adds ends) stopped ended
  run_alone old adds ends = record {
    added = adds.added;
    each = adds.each;
    last = ends.last;
    is = ends.is;
    made = calls_alone old (before_session value.session ++ (adds.added ++ ends.last));
  }

-- ---- the tables

-- at an end there is one of each episode that was noted
pub begin_with : NotedTablesAreTold → {rules : Rules} {keeping : Keeping} {image : Image} {value : RunValue} (input input_now : Option Stream) (output output_now : Option (List ℕ)) {old new : Outside} {outcome : Outcome} (tables : List (List Try))
    (s : ServesNoted rules keeping image value (Trunk input input_now output output_now) old new outcome) → TellsMore (Some []) (Some tables) (AreAllTables rules (story_of s.serves.telling) s.serves.telling.walk outcome.stop)
    → IsEnd (answer_of outcome.stop) → BeginWith s.episodes tables
begin_with law {rules = rules} {keeping = keeping} {image = image} input input_now output output_now {outcome = outcome} tables s told is =
    let before = noted (Some []) (Some []) (Some NoneFailed) in
    let now = noted (Some s.choices) (Some s.episodes) (Some (unnoted_of s.left)) in
    let watched : Watches (Trunk input input_now output output_now) rules keeping image outcome before now s.counted (Some []) (Some tables) =
    record { serves = s.serves; watched = told } in
    holds_at_end outcome.stop is (law rules keeping image input input_now output output_now outcome before now s.counted s.episodes tables watched refl refl)

begin_length : (episodes : List Episode) (tables : List (List Try)) → BeginWith episodes tables → length episodes ≡ length tables
begin_length [] [] begin = refl
begin_length [] (tries ∷ tables) begin = absurd begin
begin_length (episode ∷ episodes) [] begin = absurd begin
begin_length (episode ∷ episodes) (tries ∷ tables) begin = ap suc (begin_length episodes tables begin.1)

-- so of each episode that was kept
pub kept_length : (kept : Option NoteList) (episodes : List Episode) (tables : List (List Try)) → IsKept kept episodes → BeginWith episodes tables → MatchOption kept (Unit {0}) (λ list. length (list_episodes list) ≡ length tables)
kept_length None episodes tables is begin = tt
kept_length (Some list) episodes tables is begin = ap length is ∙ begin_length episodes tables begin

-- each session that was kept kept some episodes
pub some_kept : (kept : Option NoteList) → (episodes : List Episode) × IsKept kept episodes
some_kept None = ([], tt)
some_kept (Some list) = (list_episodes list, refl)

-- the episodes that a list tells are kept in it, unless the copy was given up
pub kept_is : (copied : Bool) (kept : Option NoteList) (list : NoteList) (episodes noted_episodes : List Episode) → kept ≡ (if copied then Some list else None) → (copied ≡ true → Some (list_episodes list) ≡ Some episodes)
    → noted_episodes ≡ episodes → IsKept kept noted_episodes
kept_is true kept list episodes noted_episodes is copy same = subst (λ k. IsKept k noted_episodes) (sym is) (same_Some (list_episodes list) episodes (copy refl) ∙ sym same)
kept_is false kept list episodes noted_episodes is copy same = subst (λ k. IsKept k noted_episodes) (sym is) tt

-- where a session came to an end, there is a table of each of them
pub watched_length : NotedTablesAreTold → {rules : Rules} {keeping : Keeping} {image : Image} {value : RunValue} {input input_now : Option Stream} {output output_now : Option (List ℕ)} {old new : Outside} {outcome : Outcome} {tables_before tables tables_told : List (List Try)} (kept : Option NoteList)
    → tables_before ≡ [] → tables_told ≡ tables
    → (w : WatchesNoted rules keeping image value (Trunk input input_now output output_now) old new outcome (Some tables_before) (Some tables)) × IsKept kept w.noted.episodes → IsEnd (answer_of outcome.stop)
    → MatchOption kept (Unit {0}) (λ list. length (list_episodes list) ≡ length tables_told)
watched_length law {rules = rules} {input = input} {input_now = input_now} {output = output} {output_now = output_now} {outcome = outcome} {tables = tables} kept none tables_are w is =
    let s = w.0.noted in
    let told = subst (λ before. TellsMore (Some before) (Some tables) (AreAllTables rules (story_of s.serves.telling) s.serves.telling.walk outcome.stop)) none w.0.watched in
    subst (λ (all : List (List Try)). MatchOption kept (Unit {0}) (λ list. length (list_episodes list) ≡ length all)) (sym tables_are)
    (kept_length kept s.episodes tables w.1 (begin_with law input input_now output output_now tables s told is))

-- ---- the whole

module _ {R : Type 0} where
  -- what a session left that served under the rule of its command's guard, as an end
  pub diagnosed : NotedTablesAreTold → (permits : R → Heap → ℕ → ℕ → Bool) (value : DiagnoseValue) → IsThird (names_of value.session) value.diagnosis
      → (files started headed served noted_then now : Option Contents) (calls calls_started calls_headed calls_served calls_noted calls_now : Option (List FileCall)) (input input_now : Option Stream) (output output_now : Option (List ℕ)) (steps steps_now own : ℕ)
      {image : Image} {rule : R} {session : SessionState R} (end : End) (why : Stop) {stopped ended answer : Answer} {recorded : ℕ} {tail : List Choice} {taken counted taken_told counted_told : ℕ} {tables_before tables tables_told : List (List Try)} (kept : Option NoteList)
      → own ≤ steps_now → permits rule ≡ rule_of value.session.guard → HasImage files value.session.program (window_of value.session) image → IsBegun image (options_of value.session) rule session
      → StartsFiles value.session files started (Ok tt) → StartsDiagnosis value started headed (Ok tt) → tables_before ≡ [] → tables_told ≡ tables
      → (w : WatchesNoted (rules_by permits session) (keeping_for session.options) image value.session (Trunk input input_now output output_now) (outside headed calls_headed input output steps) (outside served calls_served input_now output_now own) (record { stop = why; recorded = recorded; tail = tail; taken = taken; steps = counted }) (Some tables_before) (Some tables))
      × IsKept kept w.noted.episodes
      → taken_told ≡ taken → counted_told ≡ counted → stopped ≡ answer_of why → ClosesFiles value.session taken_told counted_told served noted_then stopped ended
      → ((episodes : List Episode) → IsKept kept episodes → ClosesDiagnosis value episodes tables_told noted_then now ended answer)
      → Calls calls calls_started (before_session value.session) → Calls calls_started calls_headed (starts_of value.diagnosis) → AddsAlone (names_of value.session) calls_headed calls_served
      → CallsEnding value.session calls_served calls_noted stopped ended → CallsClosing value calls_noted calls_now ended answer
      → end.answer ≡ answer → end.recorded ≡ recorded → end.tail ≡ tail → end.taken ≡ taken → end.steps ≡ counted
      → HasDiagnosed value (outside files calls input output steps) (outside now calls_now input_now output_now steps_now) end
  diagnosed law permits value third files started headed served noted_then now calls calls_started calls_headed calls_served calls_noted calls_now input input_now output output_now steps steps_now own {image = image} {rule = rule} {session = session} end why {stopped = stopped} {ended = ended} {answer = answer} {recorded = recorded} {tail = tail} {taken = taken} {counted = counted} {taken_told = taken_told} {counted_told = counted_told} {tables_before = tables_before} {tables = tables} {tables_told = tables_told}
      kept less own_rule program begun starts writes none_before tables_are w same_taken same_counted stopped_is closes closing one two adds ends closing_calls answered recorded_is tail_is taken_is steps_is =
      let Noted : List (List Try) → Type 0 = λ before. (w : WatchesNoted (rules_by permits session) (keeping_for session.options) image value.session (Trunk input input_now output output_now) (outside headed calls_headed input output steps) (outside served calls_served input_now output_now own) (record { stop = why; recorded = recorded; tail = tail; taken = taken; steps = counted }) (Some before) (Some tables)) × IsKept kept w.noted.episodes in
      let (w_now, is_kept) = subst Noted none_before w in
      let s = w_now.noted in
      let moved = watched_beside value third (outside headed calls_headed input output steps) (outside served calls_served input_now output_now own) started headed served writes w_now in
      let closes_now : ClosesFiles value.session taken_told counted_told served noted_then (answer_of why) ended = subst (λ a. ClosesFiles value.session taken_told counted_told served noted_then a ended) stopped_is closes in
      let ends_now : CallsEnding value.session calls_served calls_noted (answer_of why) ended = subst (λ a. CallsEnding value.session calls_served calls_noted a ended) stopped_is ends in
      let files_now = beside_told value.diagnosis started noted_then in
      let calls_alone_now = run_calls value calls adds ends_now in
      let beside : Outside = outside files_now calls_alone_now input_now output_now own in
      let ran =
      run_ends permits value.session (Trunk input input_now output output_now) (outside files calls input output steps) beside started (beside_told value.diagnosis started served) calls_headed calls_served (options_of value.session) (record end { answer = ended }) why
      own_rule refl program begun starts moved.0 same_taken same_counted (closes_beside value third taken_told counted_told started served noted_then (answer_of why) ended closes_now) (run_alone value calls adds ends_now) refl recorded_is tail_is taken_is steps_is in
      let has = ran.0 in
      let told = ran.1.0 in
      let same_episodes : has.noted.episodes ≡ s.episodes = ran.1.1.0 ∙ moved.1 in
      let closing_now : ClosesDiagnosis value s.episodes tables noted_then now ended end.answer =
      subst (λ a. ClosesDiagnosis value s.episodes tables noted_then now ended a) (sym answered) (subst (λ ts. ClosesDiagnosis value s.episodes ts noted_then now ended answer) tables_are (closing s.episodes is_kept)) in
      record {
        beside = beside;
        ended = ended;
        served = has;
        stands = files_beside value third taken_told counted_told s.choices s.episodes s.left tables files started headed served noted_then now (answer_of why) ended end.answer starts writes s.stands closes_now closing_now;
        same = refl;
        counted = less;
        tables = tables;
        are = subst (AreAllTables (rules_of_run value.session) (story_of has.noted.serves.telling) has.noted.serves.telling.walk has.why) (sym (same_Some tables told.0 told.1)) told.2;
        begin = λ is. begin_with law input input_now output output_now tables has.noted told (subst IsEnd (closes_same value.session end.taken end.steps has.files_served files_now (answer_of has.why) ended has.closes is) is);
        answered = answered_so value s.episodes tables noted_then now ended end.answer closing_now;
        diagnosis =
            subst (λ es. HasDiagnosis value es tables ended end.answer files now) (sym same_episodes)
            (has_diagnosis value third taken_told counted_told s.choices s.episodes s.left tables files started headed served noted_then now (answer_of why) ended end.answer starts writes s.stands closes_now closing_now);
        called =
            diagnosed_calls value calls calls_started calls_headed calls_served calls_noted calls_now (answer_of has.why) ended end.answer one two adds
            (subst (λ (w : Stop). CallsEnding value.session calls_served calls_noted (answer_of w) ended) (sym ran.1.1.1) ends_now) (subst (CallsClosing value calls_noted calls_now ended) (sym answered) closing_calls);
      }
