-- The guest of a trial runs to its next event: what that makes of the trial.
use Rattle.rx_base.proofs.Budgets.{few_in_all}
use Rattle.guest_cpu.specs.declared.event.Event.TheVariants as event
use Rattle.guest_cpu.specs.Running.{RunsBy}
use Rattle.guest_cpu.proofs.ServingLemmas.{turns_serve}
use Rattle.guest_cpu.proofs.OneMore.{one_more}
use Rattle.guest_cpu.proofs.TurnEvents.{Means, turn_means}
use Rattle.guest_cpu.proofs.TurnWrites.{WritesAs, turn_writes}
use Rattle.guest_cpu.proofs.QuietRuns.{goes_one, goes_on, ComesWriting, comes_writing}
use Rattle.recovery.proofs.Terms.{AllocError, Bool, List, None, Option, Some, [], ap, arith, drop, false, length, refl, subst, sym, take, true, ℕ, ◌*◌, ◌++◌, ◌+◌, ◌-◌, ◌<◌, ◌^◌, ◌∙◌, ◌∷◌, ◌≡◌, ◌≤◌, Ok, Result, replicate, slice_get, unwrap_or, Item, MAX_ITEMS, Send, sent_to, Choice, Heap, Env, Log, Ledger, agree, served_next_more, may_send, Machine, State, Limits, Override, Path, env_at, planned_next, served_next, Range, limits_of, Event, runs_write, writes_on, writes_then, CpuState, live_of, with_live, GoesOn, IsSilent, Adds, standing_of, Live, Standing, Turn, live_after, turn, with_range, RunsWriting, Writes, writes, served_on, env_within, everywhere, IsUnharmed, CanGoOn, Failure, IsUnder, items_of, pieces_of, IsTrying, KeepsBase, KeepsSaved}
use Rattle.recovery.proofs.Few.{few_items}
use Rattle.recovery.proofs.Starting.{failed_still}
use Rattle.recovery.proofs.Staying.{turns_by}

-- the plan of a trial on its way has its environment
pub force_is : (base : Env) (keep : ℕ) (env : Env) (point taken : ℕ) → 1 ≤ keep → taken ≤ point → env_at base (everywhere keep env point) taken ≡ env
force_is base keep env point taken some early = env_within base [] 0 (point + keep) env taken (omega arith) (omega (arith, some, early))

room : (steps at taken since budget : ℕ) → at ≡ steps → steps ≤ taken * (budget + 1) + since → since ≤ budget → taken ≤ MAX_ITEMS → budget ≤ 2 ^ 36 → at + budget < 2 ^ 64 - 1
room steps at taken since budget same bounded last few budgeted =
    omega (arith, same, bounded, last, budgeted, few_in_all taken budget few (omega (arith, budgeted)))

-- the second state sent as much, and took as many items
pub unharmed_still : (pieces : List Send) (point : ℕ) (s t : State) → t.sends ≡ s.sends → t.machine.taken ≡ s.machine.taken → IsUnharmed pieces point s → IsUnharmed pieces point t
unharmed_still pieces point s t sends taken u = record {
  agrees = λ conn. subst (λ (all : List Send). agree (sent_to conn all) (sent_to conn pieces) ≡ true) (sym sends) (u.agrees conn);
  feasible =
      subst (λ (all : List Send). (item : ℕ) → item < t.machine.taken → (conn : ℕ) → Rattle.rx_base.specs.Prefix.Prefix (sent_to conn (Rattle.session_history.specs.Passing.until item pieces)) (sent_to conn (Rattle.session_history.specs.Passing.until item all))) (sym sends)
      (λ item low conn. u.feasible item (omega (arith, low, taken)) conn);
  early = omega (arith, u.early, taken);
}

-- who may be sent to is told by the machine's connections
pub may_send_by : (m n : Machine) (conn : ℕ) → n.connections ≡ m.connections → may_send n conn ≡ true → may_send m conn ≡ true
may_send_by m n conn same may = ap (λ connections. unwrap_or (slice_get connections conn) false) (sym same) ∙ may

-- a run that sent nothing more, and took no item
pub can_still : (rules : Rattle.session_history.specs.Lawful.Rules) (items : List Item) (plan : List Override) (entries : List Rattle.links.specs.declared.journal.Entry.Entry) (first now : Path) → first.state.ended ≡ None
    → GoesOn rules.limits items plan first now → now.state.sends ≡ first.state.sends → CanGoOn rules entries first → CanGoOn rules entries now
can_still rules items plan entries first now lives goes sends c = record {
  bounded = λ alive. goes.bounded alive (c.bounded lives);
  within = λ conn may. c.within conn (may_send_by first.state.machine now.state.machine conn goes.connections may);
  opened = λ conn shut. ap (sent_to conn) sends ∙ c.opened conn shut;
  timed = subst (λ (all : List Send). Rattle.session_history.specs.Passing.AreBetween 0 now.state.machine.taken all) (sym sends)
      (subst (λ n. Rattle.session_history.specs.Passing.AreBetween 0 n first.state.sends) (sym goes.taken) c.timed);
  sendable = subst (λ (all : List Send). Rattle.session_history.specs.Keeping.AreSendable all) (sym sends) c.sendable;
}

module _ {R : Type 0} where
  -- how the guest of a trial runs
  abbrev pub Ran : ℕ → (Heap → ℕ → ℕ → Bool) → Env → CpuState R → CpuState R → Result Event AllocError → Type 0
  Ran budget permits env old new result = RunsBy event.Emits (turn (limits_of budget permits) env) old.base (live_of old) result (live_of new)

  -- nothing is saved by a run
  pub live_base : (old new : CpuState R) → new ≡ with_live (live_of new) old → KeepsBase old new
  live_base old new kept = record {
    saved = record {
      rule = ap (λ (c : CpuState R). c.rule) kept;
      base = ap (λ (c : CpuState R). c.base) kept;
      saved = ap (λ (c : CpuState R). c.slots.saved) kept;
      count = ap (λ (c : CpuState R). c.slots.count) kept;
      pages = ap (λ (c : CpuState R). c.slots.pages) kept;
      frames = ap (λ (c : CpuState R). c.slots.frames) kept;
    };
    newer = ap (λ (c : CpuState R). c.slots.newer) kept;
  }

  pub saved_on : {old mid new : CpuState R} → KeepsSaved old mid → KeepsSaved mid new → KeepsSaved old new
  saved_on one other = record {
    rule = other.rule ∙ one.rule;
    base = other.base ∙ one.base;
    saved = other.saved ∙ one.saved;
    count = other.count ∙ one.count;
    pages = other.pages ∙ one.pages;
    frames = other.frames ∙ one.frames;
  }

  pub base_on : {old mid new : CpuState R} → KeepsBase old mid → KeepsBase mid new → KeepsBase old new
  base_on one other = record { saved = saved_on one.saved other.saved; newer = other.newer ∙ one.newer }

  -- what a trial wrote, and wrote then
  pub wrote_on : (failure : Failure) (checkpoint first now : Path) {old new : CpuState R} → KeepsSaved old new → Writes failure.rules.limits (items_of failure) old.base checkpoint (replicate old.slots.pages false) first old.written
      → Writes failure.rules.limits (items_of failure) old.base first old.written now new.written → Writes failure.rules.limits (items_of failure) new.base checkpoint (replicate new.slots.pages false) now new.written
  wrote_on failure checkpoint first now {old = old} {new = new} saved one other =
      subst (λ (at : ℕ × ℕ). Writes failure.rules.limits (items_of failure) at.0 checkpoint (replicate at.1 false) now new.written) (λ i. (sym saved.base i, sym saved.pages i))
      (writes_on failure.rules.limits (items_of failure) old.base checkpoint (replicate old.slots.pages false) first old.written now new.written one other)

-- a run that sends, by its last instruction
pub record SendsOn (limits : Limits) (items : List Item) (plan : List Override) (base : ℕ) (first : Path) (flags : List Bool) (conn : ℕ) (bytes : List ℕ) (new : Live) : Type 0 where
  pub before : Path
  pub quiet : GoesOn limits items plan first before
  pub silent : IsSilent first before
  pub now : Path
  pub next : planned_next limits items plan before ≡ Some now
  pub goes : GoesOn limits items plan first now
  pub stands : standing_of now ≡ new.standing
  pub wrote : Writes limits items base first flags now new.written
  pub choices : now.choices ≡ first.choices
  pub sends : now.state.sends ≡ first.state.sends ++ record { conn = conn; bytes = bytes; taken = first.state.machine.taken } ∷ []
  pub may : may_send first.state.machine conn ≡ true
  pub some : 0 < length bytes
  pub few : length bytes ≤ 65535
  pub lives : now.state.ended ≡ None
  pub later : first.steps < now.steps

sends_last : (limits : Limits) (items : List Item) (plan : List Override) (env : Env) (base : ℕ) (first : Path) (flags : List Bool) (conn : ℕ) (bytes : List ℕ) (before new : Live) (t : Turn Event) → env_at limits.base plan first.state.machine.taken ≡ env
    → ComesWriting limits items plan base first flags before → turn limits env before.standing ≡ Some t → t.event ≡ Some (event.Emits conn bytes) → new ≡ live_after base before t → SendsOn limits items plan base first flags conn bytes new
sends_last limits items plan env base first flags conn bytes before new t in_force came turns is left =
    let comes = came.comes in
    let here : turn limits env (standing_of comes.now) ≡ Some t = ap (turn limits env) comes.stands ∙ turns in
    let follows = turns_serve limits env comes.now t comes.lives here in
    let adds : Adds limits env comes.now (Some (event.Emits conn bytes)) follows.next = subst (λ (e : Option Event). Adds limits env comes.now e follows.next) is follows.adds in
    let means : Means limits env (standing_of comes.now) (Some (event.Emits conn bytes)) t.standing =
    subst (λ (e : Option Event). Means limits env (standing_of comes.now) e t.standing) is (turn_means limits env (standing_of comes.now) t here) in
    let range : t.written ≡ writes limits items env comes.now = subst (λ (e : Option Event). WritesAs e t.written (writes limits items env comes.now)) is (turn_writes limits items env comes.now t here) in
    let served : served_next limits items env comes.now ≡ Some follows.next = served_next_more limits [] items env comes.now follows.next adds.0 in
    let force : env_at limits.base plan comes.now.state.machine.taken ≡ env = ap (env_at limits.base plan) comes.goes.taken ∙ in_force in
    record {
      before = comes.now;
      quiet = comes.goes;
      silent = comes.silent;
      now = follows.next;
      next = ap (λ (e : Env). served_next limits items e comes.now) force ∙ served;
      goes = goes_on limits items plan first comes.now follows.next comes.goes (goes_one limits items plan env comes.now follows.next force adds.0) comes.lives;
      stands = follows.stands ∙ sym (ap (λ (l : Live). l.standing) left);
      wrote = writes_then limits items base env first flags comes.now before.written follows.next new.written came.wrote served
          (ap (λ (l : Live). l.written) left ∙ ap (λ (r : Option Range). with_range base r before.written) range);
      choices = adds.1 ∙ comes.silent.choices;
      sends = adds.2
          ∙ ap (λ (sends : List Send). sends ++ record { conn = conn; bytes = bytes; taken = comes.now.state.machine.taken } ∷ []) comes.silent.sends
          ∙ ap (λ (n : ℕ). first.state.sends ++ record { conn = conn; bytes = bytes; taken = n } ∷ []) comes.goes.taken;
      may = ap (λ (connections : List Bool). unwrap_or (slice_get connections conn) false) (sym comes.goes.connections) ∙ means.0.allowed;
      some = means.0.some;
      few = means.0.few;
      lives = ap (λ (s : Standing). s.ended) follows.stands ∙ means.1 ∙ comes.lives;
      later = omega (arith, comes.goes.later, (one_more limits env comes.now follows.next adds.0).steps);
    }

module _ {R : Type 0} {failure : Failure} {point : ℕ} {checkpoint : Path} {env : Env} {old : CpuState R} {choices : List Choice} {log : Log} {ledger : Ledger} (t : IsTrying failure point checkpoint env old choices log ledger) where
  -- a trial has room for a budget more
  pub trying_room : old.slots.live.steps + failure.rules.limits.budget < 2 ^ 64 - 1
  trying_room =
      let bounded = t.goes.bounded t.lives in
      let f = t.failed.has in
      room t.path.steps old.slots.live.steps t.path.state.machine.taken t.path.state.machine.since failure.rules.limits.budget (ap (λ (s : Standing). s.steps) t.stands) bounded.steps bounded.since
      (omega (arith, t.unharmed.early, t.failed.point_is, f.taken, few_items failure.rules.bounds failure.entries, f.few_items)) t.failed.few_steps

  -- a trial that went on, and sent nothing
  unfoldable pub goes_silently : {new : CpuState R} {after : List Choice} (now : Path) → KeepsSaved old new → GoesOn failure.rules.limits (items_of failure) (everywhere failure.rules.limits.keep env point) t.path now → now.state.ended ≡ None → now.state.sends ≡ t.path.state.sends
      → now.choices ≡ checkpoint.choices ++ after → standing_of now ≡ new.slots.live → Writes failure.rules.limits (items_of failure) old.base t.path old.written now new.written → IsTrying failure point checkpoint env new after log ledger
  goes_silently now saved goes lives sends chose stands wrote = record {
    failed = failed_still saved refl t.failed;
    from = t.from;
    path = now;
    served = served_on failure.rules.limits (items_of failure) (everywhere failure.rules.limits.keep env point) checkpoint t.path now t.served goes.served;
    unharmed = unharmed_still (pieces_of failure) point t.path.state now.state sends goes.taken t.unharmed;
    lives = lives;
    stands = sym stands;
    wrote = wrote_on failure checkpoint t.path now saved t.wrote wrote;
    chose = chose;
    goes = can_still failure.rules (items_of failure) (everywhere failure.rules.limits.keep env point) failure.entries t.path now t.lives goes sends t.goes;
    items = subst (λ n. log.first ≤ n) (sym goes.taken) t.items;
    many = subst (λ (all : List Send). ledger.first ≤ length all) (sym sends) t.many;
    front = ap (take ledger.first) sends ∙ t.front;
    sent = t.sent ∙ ap (λ (all : List Send). Some (drop ledger.first all)) (sym sends);
    agrees = t.agrees;
  }

  module _ (new : CpuState R) {budget : ℕ} (permits : Heap → ℕ → ℕ → Bool) (under : IsUnder failure budget permits) where
    ran_under : (result : Result Event AllocError) → Ran budget permits env old new result → RunsBy event.Emits (turn failure.rules.limits env) old.base (live_of old) result (live_of new)
    ran_under result ran =
        subst (λ (limits : Limits). RunsBy event.Emits (turn limits env) old.base (live_of old) result (live_of new)) (sym under)
        (subst (λ (next : Standing → Option (Turn Event)). RunsBy event.Emits next old.base (live_of old) result (live_of new)) (turns_by (record (limits_of budget permits) { keep = failure.rules.limits.keep; base = failure.rules.limits.base }) env) ran)

    -- its run goes on so, and writes the pages that the guest marks
    pub ran_on : (result : Result Event AllocError) → Ran budget permits env old new result → RunsWriting failure.rules.limits (items_of failure) (everywhere failure.rules.limits.keep env point) old.base t.path old.written result (live_of new)
    ran_on result ran =
        runs_write failure.rules.limits (items_of failure) (everywhere failure.rules.limits.keep env point) env old.base t.path (live_of old) (live_of new) result t.lives (force_is failure.rules.limits.base failure.rules.limits.keep env point t.path.state.machine.taken t.failed.some_keep t.unharmed.early) t.stands (ran_under result ran)

    pub ran_sends : (conn : ℕ) (bytes : List ℕ) → Ran budget permits env old new (Ok (event.Emits conn bytes))
        → SendsOn failure.rules.limits (items_of failure) (everywhere failure.rules.limits.keep env point) old.base t.path old.written conn bytes (live_of new)
    ran_sends conn bytes ran =
        let runs = ran_under (Ok (event.Emits conn bytes)) ran in
        let force = force_is failure.rules.limits.base failure.rules.limits.keep env point t.path.state.machine.taken t.failed.some_keep t.unharmed.early in
        let came = comes_writing failure.rules.limits (items_of failure) (everywhere failure.rules.limits.keep env point) env old.base t.path (live_of old) runs.before runs.count t.lives force t.stands runs.quiet in
        sends_last failure.rules.limits (items_of failure) (everywhere failure.rules.limits.keep env point) env old.base t.path old.written conn bytes runs.before (live_of new) runs.last force came runs.turns runs.is_event runs.left
