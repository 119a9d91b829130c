-- What `run` leaves, from what its parts leave.
use Rattle.run_history.specs.declared.answer.Answer.TheVariants as answer
use Rattle.rx_base.specs.declared.fault.IoFault.TheVariants as fault
use Rattle.rx_serve.proofs.Terms.{Bool, List, None, Ok, Option, arith, inl, inr, refl, subst, sym, ℕ, ◌+◌, ◌<◌, ◌^◌, ◌∙◌, ◌≡◌, ◌≤◌, Err, IoFault, MAX_ITEMS, Rose, FileCall, Contents, Choice, Heap, Image, Answer, Stop, answer_of, Rules, Try, Keeping, TellsMore, CallsFront, Options, begun_rules, AreInRange, keeping_for, rules_of, AreAllTables, Outcome, story_of, IsReadyToServe, rules_by, IsBegun, SessionState, Route, RunValue, End, IsUntouched, Outside, HasImage, HasLoadCause, options_of, rule_of, rules_of_run, window_of, HasNoSession, ClosesFiles, IsFilesAnswer, ServesNoted, StartsFiles, WatchesNoted, CallsServed, before_session, HasBegun, StartsPartly, HasNotBegun, HasServed}
use Rattle.rx_serve.proofs.GuardLemmas.{keeps_to_blocks}
use Rattle.rx_serve.proofs.HeadlineLemmas.{headline}
use Rattle.rx_serve.proofs.NotingLemmas.{closes_same, closes_whole, few_counts, whole_at}

-- what a session that served noted, and its watch told, whatever calls are told beside it
abbrev watched_of : {rules : Rules} {keeping : Keeping} {image : Image} (value : RunValue) (route : Route) (old new : Outside) (started served : Option Contents) (calls calls_later : Option (List FileCall)) (outcome : Outcome) {tables_before tables : Option (List (List Try))}
    → WatchesNoted rules keeping image value route (record old { files = started; calls = calls }) (record new { files = served; calls = calls_later }) outcome tables_before tables
    → WatchesNoted rules keeping image value route (record old { files = started }) (record new { files = served }) outcome tables_before tables
watched_of value route old new started served calls calls_later outcome w = let s = w.noted in record {
  noted = record {
    choices = s.choices;
    episodes = s.episodes;
    left = s.left;
    counted = s.counted;
    counts = s.counts;
    serves = s.serves;
    stands = s.stands;
    asks = s.asks;
  };
  watched = w.watched;
}

-- a session at which nobody looked
pub unwatched : {rules : Rules} {keeping : Keeping} {image : Image} {value : RunValue} {route : Route} {old new : Outside} {outcome : Outcome} → ServesNoted rules keeping image value route old new outcome
    → WatchesNoted rules keeping image value route old new outcome None None
unwatched s = record { noted = s; watched = refl }

-- nobody counts
pub no_more : (steps : ℕ) → steps + 0 ≡ 0 + steps
no_more steps = omega arith

-- the image of a program file, in the window that the command asks for
image_of : {told : Option Contents} {image : Image} (value : RunValue) (options : Options) → options ≡ options_of value → HasImage told value.program options.window image → HasImage told value.program (window_of value) image
image_of {told = told} {image = image} value options is program = subst (λ (o : Options). HasImage told value.program o.window image) is program

-- a fault of the two files is a cause that no session began
note_cause : (value : RunValue) (told : Option Contents) (why : IoFault) (end : Answer) → IsFilesAnswer why end → HasLoadCause told value.program (window_of value) end
note_cause value told fault.Failed end note = subst (HasLoadCause told value.program (window_of value)) (sym note) tt
note_cause value told fault.Memory end note = subst (HasLoadCause told value.program (window_of value)) (sym note) tt

-- a count that rose within a call rose in all of it
pub rose_within : {start from to end : ℕ} → start ≤ from → to ≤ end → Rose from to → Rose start end
rose_within before behind (inl risen) = inl (omega (arith, before, behind, risen))
rose_within before behind (inr last) = inr (omega (arith, behind, last))

-- a count of 0 hasn't risen
pub not_risen : Rose 0 0 → ⊥
not_risen (inl risen) = omega arith
not_risen (inr last) = omega arith

-- the program has no image, so no session began
pub not_loaded : (value : RunValue) (told later : Option Contents) (options : Options) (end : Answer) → options ≡ options_of value → HasLoadCause told value.program options.window end → later ≡ told
    → HasLoadCause told value.program (window_of value) end × StartsPartly value told later end
not_loaded value told later options end is cause same = (subst (λ (o : Options). HasLoadCause told value.program o.window end) is cause, inl same)

-- the two files couldn't be started, so no session began
pub not_started : (value : RunValue) (told loaded later : Option Contents) (options : Options) {image : Image} (why : IoFault) (end : Answer) → options ≡ options_of value → HasImage told value.program options.window image
    → loaded ≡ told → StartsFiles value loaded later (Err why) → IsFilesAnswer why end → HasLoadCause told value.program (window_of value) end × StartsPartly value told later end
not_started value told loaded later options {image = image} why end is program same starts note = (
  note_cause value told why end note,
  inr (record {
    image = image;
    program = image_of value options is program;
    starts = inl (why, (note, subst (λ files. StartsFiles value files later (Err why)) same starts));
  }),
)

-- they could, and there was no memory for a session
pub no_memory : (value : RunValue) (told loaded later : Option Contents) (options : Options) {image : Image} → options ≡ options_of value → HasImage told value.program options.window image → loaded ≡ told
    → StartsFiles value loaded later (Ok tt) → HasLoadCause told value.program (window_of value) answer.Memory × StartsPartly value told later answer.Memory
no_memory value told loaded later options {image = image} is program same starts = (
  tt,
  inr (record {
    image = image;
    program = image_of value options is program;
    starts = inr (refl, subst (λ files. StartsFiles value files later (Ok tt)) same starts);
  }),
)

-- where none began, that is what `run` leaves
pub not_begun : (value : RunValue) (old new : Outside) (answered : Answer) (end : End) → HasLoadCause old.files value.program (window_of value) answered × StartsPartly value old.files new.files answered
    → end.answer ≡ answered → HasNoSession end → IsUntouched old new → CallsFront old.calls new.calls (before_session value) → HasNotBegun value old new end
not_begun value old new answered end why is nothing untouched called = record {
  cause = subst (HasLoadCause old.files value.program (window_of value)) (sym is) why.0;
  starts = subst (StartsPartly value old.files new.files) (sym is) why.1;
  called = called;
  untouched = untouched;
  nothing = nothing;
}

-- the tables that a watch told of a session, as an end says of it
abbrev pub TablesTold : (value : RunValue) {route : Route} {old new : Outside} {end : End} → HasServed value route old new end → Option (List (List Try)) → Option (List (List Try)) → Type 0
TablesTold value served tables_before tables = TellsMore tables_before tables (AreAllTables (rules_of_run value) (story_of served.noted.serves.telling) served.noted.serves.telling.walk served.why)

module _ {R : Type 0} where
  pub has_begun : (value : RunValue) (told loaded later : Option Contents) (options : Options) {image : Image} {rule : R} {session : SessionState R} → options ≡ options_of value → HasImage told value.program options.window image → loaded ≡ told
      → StartsFiles value loaded later (Ok tt) → IsBegun image options rule session → HasBegun value rule told later session
  has_begun value told loaded later options {image = image} {rule = rule} {session = session} is program same starts begun = record {
    image = image;
    program = image_of value options is program;
    starts = subst (λ files. StartsFiles value files later (Ok tt)) same starts;
    begun = subst (λ (o : Options). IsBegun image o rule session) is begun;
  }

  -- a session that was begun was so with its own options and its own rule
  pub begun_own : (image : Image) (options : Options) (rule : R) (session : SessionState R) → IsBegun image options rule session → IsBegun image session.options session.cpu.rule session
  begun_own image options rule session begun =
      subst (λ r. IsBegun image session.options r session) (sym begun.cpu.rule_is) (subst (λ (o : Options). IsBegun image o rule session) (sym begun.options_are) begun)

  pub ready : (image : Image) (options : Options) (rule : R) (session : SessionState R) → IsBegun image options rule session → IsReadyToServe session
  ready image options rule session begun = record { image = image; begun = begun_own image options rule session begun }

  -- a session that served under the rule of its command's guard, as an end
  pub run_ends : (permits : R → Heap → ℕ → ℕ → Bool) (value : RunValue) (route : Route) (old new : Outside) (started served : Option Contents) (calls calls_later : Option (List FileCall)) {image : Image} (options : Options) {rule : R} {session : SessionState R}
      (end : End) (why : Stop) {answer : Answer} {recorded : ℕ} {tail : List Choice} {taken steps taken_told steps_told : ℕ} {tables_before tables : Option (List (List Try))} → permits rule ≡ rule_of value.guard → options ≡ options_of value → HasImage old.files value.program options.window image → IsBegun image options rule session
      → StartsFiles value old.files started (Ok tt)
      → (noted_now : WatchesNoted (rules_by permits session) (keeping_for session.options) image value route (record old { files = started; calls = calls }) (record new { files = served; calls = calls_later }) (record { stop = why; recorded = recorded; tail = tail; taken = taken; steps = steps }) tables_before tables)
      → taken_told ≡ taken → steps_told ≡ steps → ClosesFiles value taken_told steps_told served new.files (answer_of why) answer → CallsServed value old.calls new.calls (answer_of why) answer
      → end.answer ≡ answer → end.recorded ≡ recorded → end.tail ≡ tail → end.taken ≡ taken → end.steps ≡ steps → (served : HasServed value route old new end) × (TablesTold value served tables_before tables × ((served.noted.episodes ≡ noted_now.noted.episodes) × (served.why ≡ why)))
  run_ends permits value route old new started served calls calls_later {image = image} options {rule = rule} {session = session} end why {answer = answer} {recorded = recorded} {tail = tail} {taken = taken} {steps = steps} {taken_told = taken_told} {steps_told = steps_told} {tables_before = tables_before} {tables = tables} own is program begun starts serves same_taken same_steps closes called answered recorded_is tail_is taken_is steps_is =
      let settings : session.options ≡ options_of value = begun.options_are ∙ is in
      let Noted : Rules → Keeping → Outcome → Type 0 = λ rules keeping outcome. (w : WatchesNoted rules keeping image value route (record old { files = started }) (record new { files = served }) outcome tables_before tables) × (w.noted.episodes ≡ serves.noted.episodes) in
      let allowed : rules_by permits session ≡ rules_of_run value = begun_rules permits begun ∙ (λ i. rules_of (is i) (own i)) in
      let outcome : Outcome = record { stop = why; recorded = recorded; tail = tail; taken = taken; steps = steps } in
      let same : outcome ≡ record { stop = why; recorded = end.recorded; tail = end.tail; taken = end.taken; steps = end.steps } =
      λ i. record { stop = why; recorded = (sym recorded_is) i; tail = (sym tail_is) i; taken = (sym taken_is) i; steps = (sym steps_is) i } in
      let both =
      subst (Noted (rules_of_run value) (keeping_for (options_of value))) same
      (subst (λ rules. Noted rules (keeping_for (options_of value)) outcome) allowed
      (subst (λ o. Noted (rules_by permits session) (keeping_for o) outcome) settings (watched_of value route old new started served calls calls_later outcome serves, refl))) in
      let watched = both.0 in
      let closed : ClosesFiles value end.taken end.steps served new.files (answer_of why) end.answer =
      subst (λ a. ClosesFiles value end.taken end.steps served new.files (answer_of why) a) (sym answered)
      (subst (λ t. ClosesFiles value t end.steps served new.files (answer_of why) answer) (same_taken ∙ sym taken_is) (subst (λ n. ClosesFiles value taken_told n served new.files (answer_of why) answer) (same_steps ∙ sym steps_is) closes)) in
      let noted = watched.noted in (
        record {
          image = image;
          program = image_of value options is program;
          files_started = started;
          files_served = served;
          why = why;
          starts = starts;
          noted = noted;
          closes = closed;
          called = subst (CallsServed value old.calls new.calls (answer_of why)) (sym answered) called;
          texts = closes_whole value noted.choices noted.episodes noted.left end.taken end.steps old.files started served new.files (answer_of why) end.answer starts noted.stands (whole_at why noted.left end.tail noted.serves.is.notes.missing noted.serves.is.notes.handed) closed;
          headline = headline (rules_of_run value) (keeping_for (options_of value)) image route why end noted.choices noted.episodes _ _ (closes_same value end.taken end.steps served new.files (answer_of why) end.answer closed) noted.counted noted.serves;
          guarded = keeps_to_blocks value.guard (rules_of_run value) (keeping_for (options_of value)) image why end noted.choices noted.episodes refl noted.serves.is;
        },
        (watched.watched, (both.1, refl)),
      )

  -- how many items were taken, and how many instructions done, fit into a record
  pub counts_fit : (permits : R → Heap → ℕ → ℕ → Bool) {value : RunValue} {route : Route} {old new : Outside} {image : Image} (options : Options) {rule : R} {session : SessionState R} {outcome : Outcome}
      → AreInRange options → IsBegun image options rule session
      → ServesNoted (rules_by permits session) (keeping_for session.options) image value route old new outcome
      → (outcome.taken ≤ MAX_ITEMS) × (outcome.steps < 2 ^ 63)
  counts_fit permits {value = value} {route = route} {old = old} {new = new} {image = image} options {rule = rule} {session = session} {outcome = outcome} ranges begun serves =
      few_counts session.options (subst AreInRange (sym begun.options_are) ranges) (permits session.cpu.rule)
      (subst (λ (rules : Rules). ServesNoted rules (keeping_for session.options) image value route old new outcome) (begun_rules permits (begun_own image options rule session begun)) serves)
