-- What a walk leaves: none of its trials survived, or the last one is adopted.
use Rattle.session_notes.specs.declared.episode.Tried.TheVariants as tried
use Rattle.trials.proofs.Walked.{walk_adopts}
use Rattle.recovery.proofs.Terms.{List, None, Option, Some, [], ap, arith, drop, length, length-append, length-drop, refl, subst, suc, sym, take, zero, ℕ, ◌++◌, ◌+◌, ◌-◌, ◌∙◌, ◌∷◌, ◌≡◌, ◌≤◌, take-append_seam, take-append-le, none-some, same_Some, option_map, slice_get, Item, Send, Choice, Env, Log, Ledger, discarded, Image, IsUsed, served_follows, start, start_machine, AsksFor, Limits, Override, Path, Served, origin, CpuState, Tried, Try, asks_under_all, chained_at, AreChained, Chance, IsRight, Trial, WalksOver, chance_at, survivor_in, table, ComesTo, Adopted, FailedAt, Failure, items_of, pieces_of, HasWalked, IsAdopted, KeepsLedger, LeavesBy, adopted_of, steps_of, IsOfOneRun, AreBehind}
use Rattle.recovery.proofs.Starting.{replies_still}
use Rattle.recovery.proofs.WalkLemmas.{steps_of-more}

-- the chance at an index is one at its checkpoint
chance_from : (ring : List Path) (index : ℕ) {env : Env} {chance : Chance} → chance_at ring index env ≡ Some chance → (slice_get ring index ≡ Some chance.checkpoint) × (env ≡ chance.env)
chance_from ring index {env = env} {chance = chance} is = by (slice_get ring index) is
  where
    by : (o : Option Path) → option_map (λ (checkpoint : Path). record { checkpoint = checkpoint; env = env }) o ≡ Some chance → (o ≡ Some chance.checkpoint) × (env ≡ chance.env)
    by None is = absurd (none-some chance is)
    by (Some checkpoint) is =
        let same = same_Some (record { checkpoint = checkpoint; env = env }) chance is in
        (ap (λ (one : Chance). Some one.checkpoint) same, ap (λ (one : Chance). one.env) same)

module _ {R : Type 0} where
  -- the trial that was adopted, and what its walk says of it
  pub record HasSurvived (failure : Failure) (point : ℕ) (trials : List Trial) (adopted : Adopted) (cpu : CpuState R) (choices : List Choice) (ledger : Ledger) : Type 0 where
    pub trial : Trial
    pub survivor : survivor_in trials ≡ Some trial
    pub adopts : IsAdopted failure trial adopted cpu choices ledger
    pub from : slice_get failure.ring adopted.index ≡ Some trial.chance.checkpoint
    pub env_is : adopted.env ≡ trial.chance.env
    pub right : IsRight failure.rules.limits (items_of failure) failure.plan (pieces_of failure) point trial
    pub least : trial.path.steps - trial.chance.checkpoint.steps ≤ steps_of trials

  pub has_survived : {failure : Failure} {point : ℕ} {cpu : CpuState R} {choices : List Choice} {old new : Ledger} {before now : ℕ} {tries : List Try} {adopted : Option Adopted} {one : Adopted} (w : HasWalked failure point cpu choices old new before now tries adopted)
      → adopted ≡ Some one → HasSurvived failure point w.trials one cpu choices new
  has_survived {failure = failure} {point = point} {cpu = cpu} {choices = choices} {old = old} {new = new} {one = one} w is =
      let leaves = subst (λ (a : Option Adopted). LeavesBy failure w.trials cpu choices old new a) is w.leaves in
      let it = walk_adopts failure.rules.limits (items_of failure) failure.plan (pieces_of failure) point failure.ring w.trials leaves.0 w.walks leaves.1 in
      let chance = chance_from failure.ring one.index leaves.2.chance_is in
      record {
        trial = leaves.0;
        survivor = leaves.1;
        adopts = leaves.2;
        from = chance.0;
        env_is = chance.1;
        right = it.right;
        least = omega (arith, ap steps_of it.last ∙ steps_of-more it.failing leaves.0);
      }

  -- or none survived
  pub none_survived : {failure : Failure} {point : ℕ} {cpu : CpuState R} {choices : List Choice} {old new : Ledger} {before now : ℕ} {tries : List Try} {adopted : Option Adopted} (w : HasWalked failure point cpu choices old new before now tries adopted)
      → adopted ≡ None → (survivor_in w.trials ≡ None) × (new ≡ discarded old)
  none_survived {failure = failure} {cpu = cpu} {choices = choices} {old = old} {new = new} w is = subst (λ (a : Option Adopted). LeavesBy failure w.trials cpu choices old new a) is w.leaves

module _ {R : Type 0} where
  -- a ledger of which a trial alone changed has the sends of the survivor that failed
  pub of_failed : {failure : Failure} {point : ℕ} {cpu : CpuState R} {log : Log} {old new : Ledger} → FailedAt point failure cpu log old → KeepsLedger old new → IsOfOneRun failure point new
  of_failed {failure = failure} {old = old} {new = new} failed same = record {
    trial = None;
    found = tt;
    replies = replies_still new same failed.has.replies;
  }

  -- behind a walk it is of one run, by what was adopted
  of_left : {failure : Failure} {point : ℕ} {began : CpuState R} {log : Log} (trials : List Trial) (cpu : CpuState R) (choices : List Choice) {old new : Ledger} (adopted : Option Adopted) → FailedAt point failure began log old
      → WalksOver failure.rules.limits (items_of failure) failure.plan (pieces_of failure) point (table failure.ring) trials → LeavesBy failure trials cpu choices old new adopted → IsOfOneRun failure point new
  of_left trials cpu choices None failed walks leaves = of_failed failed (ap discarded leaves.1)
  of_left trials cpu choices (Some adopted) failed walks leaves = record {
    trial = Some leaves.0;
    found = record { trials = trials; walks = walks; found = leaves.1 };
    replies = leaves.2.replies;
  }

  pub of_walked : {failure : Failure} {point : ℕ} {began cpu : CpuState R} {log : Log} {choices : List Choice} {old new : Ledger} {before now : ℕ} {tries : List Try} {adopted : Option Adopted} → FailedAt point failure began log old
      → HasWalked failure point cpu choices old new before now tries adopted → IsOfOneRun failure point new
  of_walked {cpu = cpu} {choices = choices} {adopted = adopted} failed w = of_left w.trials cpu choices adopted failed w.walks w.leaves

-- by what is adopted of a trial it asks for the next item, or has ended itself
pub adopted_asks : {limits : Limits} (items : List Item) (plan : List Override) (checkpoint : Path) (pieces : List Send) {point : ℕ} {path : Path} (index : ℕ) (env : Env) (result : Tried) {adopted : Adopted} → adopted_of index env result ≡ Some adopted
    → ComesTo limits items plan checkpoint pieces point path result → (adopted.code ≡ path.state.ended) × (path.state.ended ≡ None → AsksFor limits [] path point)
adopted_asks {limits = limits} items plan checkpoint pieces {point = point} {path = path} index env tried.Asks {adopted = adopted} is comes =
    (sym (ap (λ (a : Adopted). a.code) (same_Some (record { index = index; env = env; code = None }) adopted is)) ∙ sym comes.1.lives, λ lives. asks_under_all limits plan [] path point comes.1)
adopted_asks items plan checkpoint pieces index env (tried.Exits code) {adopted = adopted} is comes =
    (sym (ap (λ (a : Adopted). a.code) (same_Some (record { index = index; env = env; code = Some code }) adopted is)) ∙ sym comes.1, λ lives. absurd (none-some code (sym lives ∙ comes.1)))
adopted_asks items plan checkpoint pieces index env _ {adopted = adopted} is comes = absurd (none-some adopted is)

-- the start used no answer of the allocator
pub start_used : (image : Image) → IsUsed (origin image)
unfolding start start_machine
start_used image = refl

-- The answers of the allocator of a run that goes on from a checkpoint, behind the first ones, which were used before it: those of a later run up to
-- there, and its own.
pub record OwnAnswers (recorded : ℕ) (later path : Path) (own : List Choice) : Type 0 where
  pub few : recorded + length own ≤ path.state.machine.allocations
  pub first : path.state.machine.allocations ≤ recorded + length (drop recorded later.choices) + length own
  pub low : recorded ≤ length path.choices
  pub front : take recorded path.choices ≡ take recorded later.choices
  pub joins : take (path.state.machine.allocations - length own - recorded) (drop recorded later.choices) ++ own ≡ drop recorded path.choices

-- a checkpoint of a ring has used so many
pub behind_at : (count : ℕ) (ring : List Path) (index : ℕ) (checkpoint : Path) → AreBehind count ring → slice_get ring index ≡ Some checkpoint → count ≤ length checkpoint.choices
behind_at count [] index checkpoint behind found = absurd (cc)
behind_at count (newest ∷ older) zero checkpoint behind found = subst (λ (path : Path). count ≤ length path.choices) (same_Some newest checkpoint found) behind.0
behind_at count (newest ∷ older) (suc index) checkpoint behind found = behind_at count older index checkpoint behind.1 found

-- of some first elements, and others, those behind the first ones
joined_behind : {X : Type 0} (count : ℕ) (first others own : List X) → count ≤ length first → take (length first - count) (drop count (first ++ others)) ++ own ≡ drop count (first ++ own)
joined_behind zero first others own few =
    let all : length first - 0 ≡ length first = omega arith in
    ap (λ n. take n (first ++ others) ++ own) all ∙ ap (λ xs. xs ++ own) (take-append_seam first others)
joined_behind (suc count) [] others own few = absurd (omega (arith, few))
joined_behind (suc count) (x ∷ first) others own few =
    let less : length (x ∷ first) - suc count ≡ length first - count = omega arith in
    ap (λ n. take n (drop count (first ++ others)) ++ own) less ∙ joined_behind count first others own (omega (arith, few))

pub own_answers : {recorded : ℕ} {limits : Limits} {items : List Item} (plan : List Override) {other : List Override} (image : Image) {later path : Path} (ring : List Path) (index : ℕ) {checkpoint : Path} {own : List Choice} → AreBehind recorded ring
    → AreChained limits items plan image later ring → slice_get ring index ≡ Some checkpoint → Served limits items other checkpoint path → path.choices ≡ checkpoint.choices ++ own → OwnAnswers recorded later path own
own_answers {recorded = recorded} {limits = limits} {items = items} plan {other = other} image {later = later} {path = path} ring index {checkpoint = checkpoint} {own = own} behind chain found served chose =
    let there = chained_at limits items plan image later ring index checkpoint chain found in
    let at_checkpoint = served_follows limits items plan (origin image) checkpoint there.1.more (start_used image) there.1.ran in
    let to_later = served_follows limits items plan checkpoint later there.0.more at_checkpoint.used there.0.ran in
    let to_path = served_follows limits items other checkpoint path served.more at_checkpoint.used served.ran in
    let used : path.state.machine.allocations ≡ length path.choices = to_path.used in
    let count : length path.choices ≡ length checkpoint.choices + length own = ap length chose ∙ length-append checkpoint.choices own in
    let low : recorded ≤ length checkpoint.choices = behind_at recorded ring index checkpoint behind found in
    let front : path.state.machine.allocations - length own - recorded ≡ length checkpoint.choices - recorded = omega (arith, used, count, low) in
    record {
      few = omega (arith, used, count, low);
      first = omega (arith, used, count, ap length to_later.chose ∙ length-append checkpoint.choices to_later.others, length-drop recorded later.choices, low);
      low = omega (arith, count, low);
      front = (ap (take recorded) chose ∙ take-append-le recorded checkpoint.choices own low) ∙ sym (ap (take recorded) to_later.chose ∙ take-append-le recorded checkpoint.choices to_later.others low);
      joins =
          ap (λ n. take n (drop recorded later.choices) ++ own) front ∙ (ap (λ (cs : List Choice). take (length checkpoint.choices - recorded) (drop recorded cs) ++ own) to_later.chose
          ∙ (joined_behind recorded checkpoint.choices to_later.others own low ∙ sym (ap (drop recorded) chose)));
    }
