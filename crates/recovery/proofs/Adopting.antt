-- A trial that was made, and one that is adopted.
use Rattle.reply_ledger.specs.Trials as ledgers
use Rattle.session_notes.specs.declared.episode.Tried.TheVariants as tried
use Rattle.recovery.proofs.Terms.{List, None, Option, Some, [], ap, arith, drop, false, length, refl, subst, sym, take, true, ℕ, ◌++◌, ◌+◌, ◌-◌, ◌∙◌, ◌∷◌, ◌≡◌, ◌≤◌, MatchBool-at_true, and_parts, take-append-le, none-some, same_Some, IsSome, IsSomeAnd, is_some, option_map, slice_get, Send, sent_to, Choice, Env, Checkpoint, Log, shown_passed, shows-adopted, agree-append, Ledger, connection_of, Shows, adopted, agree, trial_sends, sent_to-append, Path, Served, CpuState, standing_of, Standing, served_grows, received, KeepsReplies, Tried, Try, survives, steps_later, Trial, chance_at, plan_of_trial, Adopted, FailedAt, Failure, items_of, pieces_of, taken_in, HasTried, IsAdopted, KeepsLedger, KeepsSaved, StandsOn, adopted_of, steps_of, HasBegun, IsMade}
use Rattle.recovery.proofs.Stands.{saved_at, some_of}
use Rattle.recovery.proofs.Joining.{Beside, now_is, now_covers}
use Rattle.recovery.proofs.Starting.{from_at, failed_still, same_front}
use Rattle.trials.proofs.Recovered.{survives_so}

-- what is adopted has survived
pub adopted_survives : (index : ℕ) (env : Env) (result : Tried) {adopted : Adopted} → adopted_of index env result ≡ Some adopted → survives result ≡ true
adopted_survives index env tried.Asks is = refl
adopted_survives index env (tried.Exits code) is = refl
adopted_survives index env _ {adopted = adopted} is = absurd (none-some adopted is)

-- and of what hasn't nothing is adopted
pub none_adopted : (index : ℕ) (env : Env) (result : Tried) → adopted_of index env result ≡ None → survives result ≡ false
none_adopted index env tried.Asks is = absurd (none-some (record { index = index; env = env; code = None }) (sym is))
none_adopted index env (tried.Exits code) is = absurd (none-some (record { index = index; env = env; code = Some code }) (sym is))
none_adopted index env _ is = refl

-- it tells of the trial
record Tells (index : ℕ) (env : Env) (result : Tried) (adopted : Adopted) : Type 0 where
  index_is : adopted.index ≡ index
  env_is : adopted.env ≡ env
  still : adopted_of adopted.index adopted.env result ≡ Some adopted

tells_of : {index : ℕ} {env : Env} (result : Tried) {adopted : Adopted} → adopted_of index env result ≡ Some adopted → Tells index env result adopted
tells_of {index = index} {env = env} tried.Asks {adopted = adopted} is =
    let same = same_Some (record { index = index; env = env; code = None }) adopted is in
    record { index_is = sym (ap (λ (a : Adopted). a.index) same); env_is = sym (ap (λ (a : Adopted). a.env) same); still = ap (λ (a : Adopted). adopted_of a.index a.env tried.Asks) (sym same) ∙ is }
tells_of {index = index} {env = env} (tried.Exits code) {adopted = adopted} is =
    let same = same_Some (record { index = index; env = env; code = Some code }) adopted is in
    record { index_is = sym (ap (λ (a : Adopted). a.index) same); env_is = sym (ap (λ (a : Adopted). a.env) same); still = ap (λ (a : Adopted). adopted_of a.index a.env (tried.Exits code)) (sym same) ∙ is }
tells_of _ {adopted = adopted} is = absurd (none-some adopted is)

rest_agrees : (early rest passed : List ℕ) → agree (early ++ rest) passed ≡ true → agree rest (drop (length early) passed) ≡ true
rest_agrees early rest passed h = (and_parts (agree early passed) _ (sym (agree-append early rest passed) ∙ h)).1

-- the ledger beside a trial agrees where the trial does
pub now_agrees : {high : ℕ} {ledger : Ledger} {sends now pieces : List Send} → Beside high ledger sends now pieces → ((conn : ℕ) → agree (sent_to conn now) (sent_to conn pieces) ≡ true) → ledgers.Agrees ledger
now_agrees {high = high} {ledger = ledger} {sends = sends} {now = now} {pieces = pieces} b agrees conn =
    ap (agree (sent_to conn (trial_sends ledger))) (shown_passed ledger sends pieces b.shows conn)
    ∙ rest_agrees (sent_to conn (take ledger.first sends)) (sent_to conn (trial_sends ledger)) (sent_to conn pieces)
    (ap (λ (l : List ℕ). agree l (sent_to conn pieces)) (sym (sent_to-append conn (take ledger.first sends) (trial_sends ledger)) ∙ ap (sent_to conn) (now_is high ledger sends now pieces b)) ∙ agrees conn)

-- nothing is sent behind a front of what is nothing
none_behind : (xs : List ℕ) {ys : List ℕ} → xs ++ ys ≡ [] → ys ≡ []
none_behind [] h = h
none_behind (x ∷ xs) h = absurd (let no : ⊥ = cc in no)

module _ {R : Type 0} where
  -- a trial as data
  abbrev pub trial_of : {failure : Failure} {point : ℕ} {checkpoint : Path} {env : Env} {cpu : CpuState R} {choices : List Choice} {ledger : Ledger} {result : Tried} → HasTried failure point checkpoint env cpu choices ledger result → Trial
  trial_of {checkpoint = checkpoint} {env = env} {result = result} h = record { chance = record { checkpoint = checkpoint; env = env }; path = h.path; result = result }

module _ {R : Type 0} {failure : Failure} {point : ℕ} {checkpoint : Path} {old : CpuState R} {log : Log} {before_ledger : Ledger} (index : ℕ) (failed : FailedAt point failure old log before_ledger) (found : slice_get failure.ring index ≡ Some checkpoint) where
  -- the instructions of a trial from the restored state
  counted_by : (env : Env) {live : Standing} (path : Path) (before : ℕ) {after : ℕ} → IsSomeAnd (slice_get old.slots.saved index) (λ one. after + one.state.steps ≡ before + live.steps) → live ≡ standing_of path
      → Served failure.rules.limits (items_of failure) (plan_of_trial failure.rules.limits.keep failure.plan checkpoint.state.machine.taken env point) checkpoint path → after ≡ before + (path.steps - checkpoint.steps)
  counted_by env path before counted stands from =
      let there = saved_at old.slots.saved failure.ring index failed.has.saved found in
      let one = some_of (slice_get old.slots.saved index) counted in
      let begins : one.0.state.steps ≡ checkpoint.steps = ap (λ (s : Checkpoint Standing). s.state.steps) (same_Some one.0 there.0 (sym one.1 ∙ there.1)) ∙ ap (λ (s : Standing). s.steps) there.2 in
      let later = steps_later failure.rules.limits (items_of failure) (plan_of_trial failure.rules.limits.keep failure.plan checkpoint.state.machine.taken env point) checkpoint path from in
      omega (arith, begins, ap (λ (s : Standing). s.steps) stands, one.2, later)

  -- it was made and noted
  pub is_made : {env : Env} {cpu : CpuState R} {choices : List Choice} {ledger : Ledger} {result : Tried} {before after : ℕ} {noted tries : List Try} (taken : ℕ) → KeepsSaved old cpu → IsSomeAnd (slice_get cpu.slots.saved index) (λ one. taken ≡ taken_in one.state)
      → IsSomeAnd (slice_get old.slots.saved index) (λ one. after + one.state.steps ≡ before + cpu.slots.live.steps) → tries ≡ noted ++ record { checkpoint = taken; env = env; tried = result } ∷ []
      → (h : HasTried failure point checkpoint env cpu choices ledger result) → IsMade failure point (record { checkpoint = checkpoint; env = env }) (trial_of h) noted tries before after
  is_made {env = env} {cpu = cpu} {result = result} {before = before} {noted = noted} taken keeps at counted pushed h =
      let there = saved_at old.slots.saved failure.ring index failed.has.saved found in
      let one = some_of (slice_get cpu.slots.saved index) at in
      let number = one.2 ∙ (ap (λ (s : Checkpoint Standing). taken_in s.state) (same_Some one.0 there.0 (sym one.1 ∙ (ap (λ (all : List (Checkpoint Standing)). slice_get all index) keeps.saved ∙ there.1))) ∙ ap taken_in there.2) in
      record {
        chance_is = refl;
        right = h.trial;
        tries_are = pushed ∙ ap (λ n. noted ++ record { checkpoint = n; env = env; tried = result } ∷ []) number;
        counted = counted_by env h.path before counted h.stands h.trial.from;
      }

  -- it was begun, and had come here
  pub begun_one : {env : Env} {live : Standing} (path : Path) {before after : ℕ} → IsSomeAnd (slice_get old.slots.saved index) (λ one. after + one.state.steps ≡ before + live.steps)
      → Served failure.rules.limits (items_of failure) (plan_of_trial failure.rules.limits.keep failure.plan checkpoint.state.machine.taken env point) checkpoint path → live ≡ standing_of path → HasBegun failure point (record { checkpoint = checkpoint; env = env } ∷ []) before after
  begun_one {env = env} path {before = before} counted from stands = record {
    unfinished = record { trials = []; last = Some (record { chance = record { checkpoint = checkpoint; env = env }; path = path }) };
    begins = record { others = []; first = refl; from = from };
    counted = let none : steps_of [] ≡ 0 = refl in omega (arith, none, counted_by env path before counted stands from);
  }

  module _ {env : Env} {cpu : CpuState R} {choices : List Choice} {ledger : Ledger} {result : Tried} (saved : KeepsSaved old cpu) (same : KeepsLedger before_ledger ledger) (is : survives result ≡ true) (h : HasTried failure point checkpoint env cpu choices ledger result) where
    -- the ledger beside a trial that survived
    pub beside_tried : Beside (received failure.rules.bounds failure.entries) ledger failure.failed.state.sends h.path.state.sends (pieces_of failure)
    beside_tried =
        let now = failed_still saved same failed in
        let f = from_at now index found in
        let grows = served_grows failure.rules.limits (items_of failure) (plan_of_trial failure.rules.limits.keep failure.plan checkpoint.state.machine.taken env point) checkpoint h.path h.trial.from in
        record {
          shows = now.has.replies.shows;
          whole = now.has.covers;
          ordered = now.has.ordered;
          front = ap (take ledger.first) grows.sends
              ∙ (take-append-le ledger.first checkpoint.state.sends grows.more f.kept.sends ∙ same_front ledger.first checkpoint.state.sends failure.failed.state.sends f.grows.more f.kept.sends f.grows.sends);
          sent = MatchBool-at_true (ledger.trial ≡ Some (drop ledger.first h.path.state.sends)) (ledger.trial ≡ None) is h.sent;
        }

    -- what the ledger asks before it adopts the trial
    pub adopt_asks : IsSome ledger.trial × ledgers.Agrees ledger × ledgers.Covers ledger
    adopt_asks =
        let good = survives_so failure.rules.limits (items_of failure) (plan_of_trial failure.rules.limits.keep failure.plan checkpoint.state.machine.taken env point) checkpoint _ _ h.path result is h.trial.comes in (
          ap is_some beside_tried.sent,
          now_agrees beside_tried good.0.agrees,
          now_covers (received failure.rules.bounds failure.entries) ledger failure.failed.state.sends h.path.state.sends (pieces_of failure) beside_tried good.1,
        )

    -- the ledger of an adopted trial has its sends
    adopt_replies : KeepsReplies failure.rules.bounds failure.entries None h.path.state.sends (adopted ledger)
    adopt_replies =
        let k = (failed_still saved same failed).has.replies in
        let whole = now_is (received failure.rules.bounds failure.entries) ledger failure.failed.state.sends h.path.state.sends (pieces_of failure) beside_tried in
        let shut : (conn : ℕ) → connection_of ledger.connections conn ≡ None → sent_to conn (trial_sends ledger) ≡ [] = λ conn none.
        none_behind (sent_to conn (take ledger.first failure.failed.state.sends))
        (sym (sent_to-append conn (take ledger.first failure.failed.state.sends) (trial_sends ledger)) ∙ (ap (sent_to conn) whole ∙ h.goes.opened conn (sym (k.opened conn) ∙ ap is_some none))) in
        record {
          shows = subst (λ (all : List Send). Shows (adopted ledger) all (pieces_of failure)) whole (shows-adopted ledger failure.failed.state.sends (pieces_of failure) shut k.shows);
          opened = k.opened;
          may = k.may;
          gone = k.gone;
          given_up = λ conn may. subst (λ (all : List Send). length (sent_to conn all) ≤ length (sent_to conn (pieces_of failure))) (sym beside_tried.front) (k.given_up conn may);
          sendable = h.goes.sendable;
        }

  -- the trial that is adopted
  pub is_adopted : {env : Env} {cpu : CpuState R} {choices : List Choice} {ledger after : Ledger} {result : Tried} {adopted : Adopted} → KeepsSaved old cpu → KeepsLedger before_ledger ledger → adopted_of index env result ≡ Some adopted → StandsOn cpu index
      → after ≡ ledgers.adopted ledger → (h : HasTried failure point checkpoint env cpu choices ledger result) → IsAdopted failure (trial_of h) adopted cpu choices after
  is_adopted {env = env} {cpu = cpu} {result = result} saved same is on left h =
      let t = tells_of result is in
      record {
        chance_is = (λ i. chance_at failure.ring (t.index_is i) (t.env_is i)) ∙ ap (λ (o : Option Path). option_map (λ (one : Path). record { checkpoint = one; env = env }) o) found;
        adopted_is = t.still;
        stands_on = subst (StandsOn cpu) (sym t.index_is) on;
        stands = h.stands;
        wrote = h.wrote;
        chose = h.chose;
        goes = h.goes;
        replies = subst (λ (l : Ledger). KeepsReplies failure.rules.bounds failure.entries None h.path.state.sends l) (sym left) (adopt_replies saved same (adopted_survives index env result is) h);
      }
