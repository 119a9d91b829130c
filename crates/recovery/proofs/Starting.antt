-- Where a trial begins.
use Rattle.reply_ledger.specs.Trials as ledgers
use Rattle.trials.proofs.Agreeing.{checkpoint_unharmed}
use Rattle.recovery.proofs.Terms.{Bool, List, None, Option, Some, [], ap, append-nil, arith, drop, false, length, length-append, length-drop, refl, subst, suc, sym, take, zero, ℕ, ◌++◌, ◌+◌, ◌-◌, ◌<◌, ◌∙◌, ◌∷◌, ◌≡◌, ◌≤◌, take-append_seam, drop-append-le, take-append-le, none-some, same_Some, IsSomeAnd, map, replicate, slice_get, Send, Entry, Env, count_true, Checkpoint, Slots, restored, Log, Ledger, begun, discarded, Image, base, Limits, Path, writes_none, CpuState, standing_of, Standing, Writes, served_grows, Grows, served_same, Bounds, KeepsReplies, Rules, chained_at, AreCheckpoints, IsCheckpoint, everywhere, IsUnharmed, AreKept, FailedAt, Failure, IsKept, items_of, pieces_of, IsTrying, KeepsLedger, KeepsSaved}
use Rattle.recovery.proofs.Chains.{brings_none, kept_with}
use Rattle.recovery.proofs.Stands.{checkpoint_there, none_set, saved_at, some_of}

-- what holds of each checkpoint holds of the one at an index
pub kept_at : (rules : Rules) (entries : List Entry) (log : Log) (ledger : Ledger) (ring : List Path) (index : ℕ) (checkpoint : Path) → AreKept rules entries log ledger ring → slice_get ring index ≡ Some checkpoint → IsKept rules entries log ledger checkpoint
kept_at rules entries log ledger [] index checkpoint are found = absurd (none-some checkpoint found)
kept_at rules entries log ledger (newest ∷ older) zero checkpoint are found = subst (IsKept rules entries log ledger) (same_Some newest checkpoint found) are.0
kept_at rules entries log ledger (newest ∷ older) (suc index) checkpoint are found = kept_at rules entries log ledger older index checkpoint are.1 found

pub checkpoint_at : (limits : Limits) (image : Image) (ring : List Path) (index : ℕ) (checkpoint : Path) → AreCheckpoints limits image ring → slice_get ring index ≡ Some checkpoint → IsCheckpoint limits image checkpoint
checkpoint_at limits image [] index checkpoint are found = absurd (none-some checkpoint found)
checkpoint_at limits image (newest ∷ older) zero checkpoint are found = subst (IsCheckpoint limits image) (same_Some newest checkpoint found) are.0
checkpoint_at limits image (newest ∷ older) (suc index) checkpoint are found = checkpoint_at limits image older index checkpoint are.1 found

-- a trial in a ledger changes nothing of what it keeps
keeps_trial : {bounds : Bounds} {entries : List Entry} {sends : List Send} {ledger : Ledger} (trial : Option (List Send)) → KeepsReplies bounds entries None sends ledger → KeepsReplies bounds entries None sends (record ledger { trial = trial })
keeps_trial trial h = record {
  shows = record { counted = h.shows.counted; kept = h.shows.kept; opened = h.shows.opened; earlier = h.shows.earlier; passed = h.shows.passed };
  opened = h.opened;
  may = h.may;
  gone = h.gone;
  given_up = h.given_up;
  sendable = h.sendable;
}

pub replies_still : {bounds : Bounds} {entries : List Entry} {sends : List Send} {old : Ledger} (new : Ledger) → KeepsLedger old new → KeepsReplies bounds entries None sends old → KeepsReplies bounds entries None sends new
replies_still {bounds = bounds} {entries = entries} {sends = sends} new same h = keeps_trial new.trial (subst (KeepsReplies bounds entries None sends) (sym same) (keeps_trial None h))

-- a session that failed has failed so, whatever its guest and a trial do
pub failed_still : {R : Type 0} {point : ℕ} {failure : Failure} {old new : CpuState R} {log : Log} {before after : Ledger} → KeepsSaved old new → KeepsLedger before after → FailedAt point failure old log before → FailedAt point failure new log after
failed_still {failure = failure} {log = log} {before = before} {after = after} saved same h = record {
  has = record {
    items = h.has.items;
    few_items = h.has.few_items;
    replies = replies_still after same h.has.replies;
    taken = h.has.taken;
    ordered = h.has.ordered;
    covers = h.has.covers;
    feasible = h.has.feasible;
    chained = h.has.chained;
    checkpoints = h.has.checkpoints;
    kept = kept_with failure.rules failure.entries failure.entries [] log log before after failure.ring (brings_none failure.rules failure.entries) refl (ap (λ (l : Ledger). l.first) same) h.has.kept;
    saved = ap (map (λ (one : Checkpoint Standing). one.state)) saved.saved ∙ h.has.saved;
  };
  point_is = h.point_is;
  few_steps = h.few_steps;
  some_keep = h.some_keep;
}

-- the sends of a run from a checkpoint on begin with those of the run that failed, as far as a ledger has given them up
pub same_front : (first : ℕ) (checkpoint failed : List Send) (more : List Send) → first ≤ length checkpoint → failed ≡ checkpoint ++ more → take first checkpoint ≡ take first failed
same_front first checkpoint failed more le split = sym (ap (take first) split ∙ take-append-le first checkpoint more le)

-- the sends of a trial that begins are those of its checkpoint
sent_begun : (first : ℕ) (checkpoint more kept : List Send) → first ≤ length checkpoint → kept ≡ drop first (checkpoint ++ more) → take (length checkpoint - first) kept ≡ drop first checkpoint
sent_begun first checkpoint more kept le is =
    ap (take (length checkpoint - first)) (is ∙ drop-append-le first checkpoint more le)
    ∙ (ap (λ n. take n (drop first checkpoint ++ more)) (sym (length-drop first checkpoint)) ∙ take-append_seam (drop first checkpoint) more)

-- the checkpoint at an index, and the run that failed
pub record From (point : ℕ) (failure : Failure) (log : Log) (ledger : Ledger) (checkpoint : Path) : Type 0 where
  pub kept : IsKept failure.rules failure.entries log ledger checkpoint
  pub is_checkpoint : IsCheckpoint failure.rules.limits failure.image checkpoint
  pub grows : Grows checkpoint.state failure.failed.state
  pub unharmed : IsUnharmed (pieces_of failure) point checkpoint.state

module _ {R : Type 0} {point : ℕ} {failure : Failure} {old : CpuState R} {log : Log} {ledger : Ledger} {checkpoint : Path} (h : FailedAt point failure old log ledger) (index : ℕ) (found : slice_get failure.ring index ≡ Some checkpoint) where
  pub from_at : From point failure log ledger checkpoint
  from_at =
      let kept = kept_at failure.rules failure.entries log ledger failure.ring index checkpoint h.has.kept found in
      let served = (chained_at failure.rules.limits (items_of failure) failure.plan failure.image failure.failed failure.ring index checkpoint h.has.chained found).0 in
      record {
        kept = kept;
        is_checkpoint = checkpoint_at failure.rules.limits failure.image failure.ring index checkpoint h.has.checkpoints found;
        grows = served_grows failure.rules.limits (items_of failure) failure.plan checkpoint failure.failed served;
        unharmed =
            subst (λ n. IsUnharmed (pieces_of failure) n checkpoint.state) h.point_is
            (checkpoint_unharmed failure.rules.limits (items_of failure) failure.plan checkpoint failure.failed (pieces_of failure) kept.goes.timed served h.has.covers h.has.feasible);
      }

  -- a trial stands at its checkpoint, since which it wrote nothing
  pub begins : {new : CpuState R} {after : Ledger} (env : Env) → KeepsSaved old new → new.slots.live ≡ standing_of checkpoint → new.written ≡ replicate new.slots.pages false → after ≡ begun (discarded ledger) (length checkpoint.state.sends) → ledgers.Agrees after
      → IsTrying failure point checkpoint env new [] log after
  begins {new = new} {after = after} env saved stands none is agrees =
      let f = from_at in
      let first : after.first ≡ ledger.first = ap (λ (l : Ledger). l.first) is in
      record {
        failed = failed_still saved (ap discarded is) h;
        from = f.is_checkpoint;
        path = checkpoint;
        served = served_same failure.rules.limits (items_of failure) (everywhere failure.rules.limits.keep env point) checkpoint;
        unharmed = f.unharmed;
        lives = f.kept.lives;
        stands = stands;
        wrote = subst (λ (flags : List Bool). Writes failure.rules.limits (items_of failure) new.base checkpoint (replicate new.slots.pages false) checkpoint flags) (sym none)
            (writes_none failure.rules.limits (items_of failure) new.base checkpoint (replicate new.slots.pages false));
        chose = sym (append-nil checkpoint.choices);
        goes = f.kept.goes;
        items = f.kept.items;
        many = subst (λ n. n ≤ length checkpoint.state.sends) (sym first) f.kept.sends;
        front = subst (λ n. take n checkpoint.state.sends ≡ take n failure.failed.state.sends) (sym first) (same_front ledger.first checkpoint.state.sends failure.failed.state.sends f.grows.more f.kept.sends f.grows.sends);
        sent = ap (λ (l : Ledger). l.trial) is
            ∙ (ap (λ (all : List Send). Some all) (sent_begun ledger.first checkpoint.state.sends f.grows.more ledger.kept f.kept.sends (h.has.replies.shows.kept ∙ ap (drop ledger.first) f.grows.sends))
            ∙ ap (λ n. Some (drop n checkpoint.state.sends)) (sym first));
        agrees = agrees;
      }

  -- behind a restore the guest stands at the checkpoint
  pub restored_at : (new : CpuState R) → IsSomeAnd (slice_get old.slots.saved index) (λ one. new.slots ≡ restored index one old.slots) → new.slots.live ≡ standing_of checkpoint
  restored_at new is =
      let one = some_of (slice_get old.slots.saved index) is in
      let there = saved_at old.slots.saved failure.ring index h.has.saved found in
      ap (λ (slots : Slots Standing). slots.live) one.2 ∙ (ap (λ (s : Checkpoint Standing). s.state) (same_Some one.0 there.0 (sym one.1 ∙ there.1)) ∙ there.2)

module _ {R : Type 0} (old new : CpuState R) (index : ℕ) (is : IsSomeAnd (slice_get old.slots.saved index) (λ one. new.slots ≡ restored index one old.slots)) where
  -- no page counts as written since
  pub restored_none : count_true new.written ≡ new.slots.written → length new.written ≡ new.slots.pages → new.written ≡ replicate new.slots.pages false
  restored_none counted long = none_set new.written new.slots.pages (counted ∙ ap (λ (slots : Slots Standing). slots.written) (some_of (slice_get old.slots.saved index) is).2) long

  -- and all else is as it was
  pub restored_keeps : new.rule ≡ old.rule → new.base ≡ old.base → KeepsSaved old new
  restored_keeps rule base =
      let same = (some_of (slice_get old.slots.saved index) is).2 in
      record {
        rule = rule;
        base = base;
        saved = ap (λ (slots : Slots Standing). slots.saved) same;
        count = ap (λ (slots : Slots Standing). slots.count) same;
        pages = ap (λ (slots : Slots Standing). slots.pages) same;
        frames = ap (λ (slots : Slots Standing). slots.frames) same;
      }

  -- its number of sends is one from which a trial may begin
  pub restored_sends : {point : ℕ} {failure : Failure} {log : Log} {ledger : Ledger} → FailedAt point failure old log ledger → index < length old.slots.saved → (ledger.first ≤ new.slots.live.sends) × (new.slots.live.sends ≤ ledger.first + length ledger.kept)
  restored_sends {failure = failure} {ledger = ledger} h less =
      let at = checkpoint_there old.slots.saved failure.ring h.has.saved less in
      let f = from_at h index at.1 in
      let sends : new.slots.live.sends ≡ length at.0.state.sends = ap (λ (s : Standing). s.sends) (restored_at h index at.1 new is) in
      let more : length failure.failed.state.sends ≡ length at.0.state.sends + length f.grows.more = ap length f.grows.sends ∙ length-append at.0.state.sends f.grows.more in
      let kept : length ledger.kept ≡ length failure.failed.state.sends - ledger.first = ap length h.has.replies.shows.kept ∙ length-drop ledger.first failure.failed.state.sends in
      (omega (arith, sends, f.kept.sends), omega (arith, sends, h.has.replies.shows.counted, kept, more))
