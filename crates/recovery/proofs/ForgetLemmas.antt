-- The oldest checkpoint of a ring, and what a session gives up that lies before it.
use Rattle.item_log.specs.Log.{received}
use Rattle.item_log.specs.Log as logs
use Rattle.reply_ledger.specs.Trimming as ledgers
use Rattle.run_history.proofs.Repeats.{repeated_keeps}
use Rattle.recovery.proofs.Terms.{IfSome, List, None, Option, Some, [], ap, arith, length, length-append, length-drop, max, min, subst, suc, sym, ◌+◌, ◌-◌, ◌<◌, ◌∙◌, ◌∷◌, ◌≡◌, ◌≤◌, none-some, same_Some, map, slice_get, Item, Entry, Env, Checkpoint, oldest_of, Log, ShowsStill, Ledger, settled, Image, served_follows, serves_to, Limits, Override, Path, Served, env_at, listed, origin, planned_next, served_next, Marks, CpuState, standing_of, Standing, marks_of, next_grows, items_in, KeepsItems, KeepsReplies, Rules, chained_at, AreChained, AreKept, taken_in, AreBehind, KeepsRing}
use Rattle.recovery.specs.Forgetting.{CanForget, Forgets}
use Rattle.recovery.proofs.Stands.{found_at, ring_length, saved_at}
use Rattle.recovery.proofs.TrimLemmas.{keeps_without}
use Rattle.recovery.proofs.Survived.{start_used}

-- a run has come no further than another
pub record IsBefore (first second : Path) : Type 0 where
  pub taken : first.state.machine.taken ≤ second.state.machine.taken
  pub choices : length first.choices ≤ length second.choices
  pub sends : length first.state.sends ≤ length second.state.sends

before_same : (path : Path) → IsBefore path path
before_same path = record { taken = omega arith; choices = omega arith; sends = omega arith }

before_on : (first second third : Path) → IsBefore first second → IsBefore second third → IsBefore first third
before_on first second third one other = record {
  taken = omega (arith, one.taken, other.taken);
  choices = omega (arith, one.choices, other.choices);
  sends = omega (arith, one.sends, other.sends);
}

before_next : (limits : Limits) (items : List Item) (env : Env) (first second : Path) → served_next limits items env first ≡ Some second → IsBefore first second
before_next limits items env first second goes =
    let grows = next_grows limits items env first second goes in
    let parts = serves_to limits items env first second goes in
    let sent : length second.state.sends ≡ length first.state.sends + length grows.more = ap length grows.sends ∙ length-append first.state.sends grows.more in
    record { taken = grows.taken; choices = omega (arith, ap length parts.choices ∙ length-append first.choices (listed parts.given.chosen)); sends = omega (arith, sent) }

-- a run has come no further than one that goes on from it
before_served : (limits : Limits) (items : List Item) (plan : List Override) (first second : Path) → Served limits items plan first second → IsBefore first second
before_served limits items plan first second served =
    repeated_keeps (planned_next limits items plan) IsBefore before_same before_on (λ a b goes. before_next limits items (env_at limits.base plan a.state.machine.taken) a b goes) served.more first second served.ran

-- nor than each of some others
abbrev pub AreAfter : Path → List Path → Type 0
AreAfter oldest [] = Unit {0}
AreAfter oldest (newest ∷ older) = IsBefore oldest newest × AreAfter oldest older

-- The oldest checkpoint of a ring has come no further than the newer ones, and than the run that goes on from the newest.
pub after_oldest : (limits : Limits) (items : List Item) (plan : List Override) (image : Image) (later : Path) (ring : List Path) (oldest : Path) → AreChained limits items plan image later ring → slice_get ring (length ring - 1) ≡ Some oldest
    → IsBefore oldest later × AreAfter oldest ring
after_oldest limits items plan image later [] oldest chain last = absurd (none-some oldest last)
after_oldest limits items plan image later (only ∷ []) oldest chain last =
    let same : only ≡ oldest = same_Some only oldest (ap (slice_get (only ∷ [])) (let none : 0 ≡ length (only ∷ []) - 1 = omega arith in none) ∙ last) in
    subst (λ (p : Path). IsBefore oldest later × AreAfter oldest (p ∷ [])) (sym same) (subst (λ (p : Path). IsBefore p later) same (before_served limits items plan only later chain.0), (before_same oldest, tt))
after_oldest limits items plan image later (newest ∷ (next ∷ older)) oldest chain last =
    let place : suc (length (next ∷ older) - 1) ≡ length (newest ∷ (next ∷ older)) - 1 = omega arith in
    let rest = after_oldest limits items plan image newest (next ∷ older) oldest chain.1 (ap (slice_get (newest ∷ (next ∷ older))) place ∙ last) in
    (before_on oldest newest later rest.0 (before_served limits items plan newest later chain.0), (rest.0, rest.1))

behind_after : (oldest : Path) (ring : List Path) → AreAfter oldest ring → AreBehind (length oldest.choices) ring
behind_after oldest [] are = tt
behind_after oldest (newest ∷ older) are = (are.0.choices, behind_after oldest older are.1)

-- The oldest checkpoint used all of its answers of the allocator.
pub oldest_used : (limits : Limits) (items : List Item) (plan : List Override) (image : Image) (later : Path) (ring : List Path) (oldest : Path) → AreChained limits items plan image later ring → slice_get ring (length ring - 1) ≡ Some oldest
    → oldest.state.machine.allocations ≡ length oldest.choices
oldest_used limits items plan image later ring oldest chain last =
    let from_start = (chained_at limits items plan image later ring (length ring - 1) oldest chain last).1 in
    (served_follows limits items plan (origin image) oldest from_start.more (start_used image) from_start.ran).used

-- The oldest checkpoint is where the oldest run of the ring stands.
pub record HasOldest (ring : List Path) (saved : List (Checkpoint Standing)) : Type 0 where
  pub oldest : Path
  pub last : oldest_of ring ≡ Some oldest
  pub checkpoint : Checkpoint Standing
  pub first : oldest_of saved ≡ Some checkpoint
  pub stands : checkpoint.state ≡ standing_of oldest

pub has_oldest : (saved : List (Checkpoint Standing)) (ring : List Path) → 0 < length ring → map (λ (one : Checkpoint Standing). one.state) saved ≡ map standing_of ring → HasOldest ring saved
has_oldest saved ring some same =
    let last = found_at ring (length ring - 1) (omega (arith, some)) in
    let there = saved_at saved ring (length ring - 1) same last.1 in
    record { oldest = last.0; last = last.1; checkpoint = there.0; first = ap (λ n. slice_get saved (n - 1)) (ring_length saved ring same) ∙ there.1; stands = there.2 }

-- Each checkpoint of the ring is kept still, where log and ledger gave up what lies before the oldest one at most.
kept_still : (rules : Rules) (entries : List Entry) (oldest : Path) (log log' : Log) (ledger ledger' : Ledger) (ring : List Path) → log'.first ≤ max log.first oldest.state.machine.taken → ledger'.first ≤ max ledger.first (length oldest.state.sends)
    → AreAfter oldest ring → AreKept rules entries log ledger ring → AreKept rules entries log' ledger' ring
kept_still rules entries oldest log log' ledger ledger' [] few less after are = tt
kept_still rules entries oldest log log' ledger ledger' (newest ∷ older) few less after are = (
  record {
    lives = are.0.lives;
    goes = are.0.goes;
    items = omega (arith, few, are.0.items, after.0.taken);
    sends = omega (arith, less, are.0.sends, after.0.sends);
  },
  kept_still rules entries oldest log log' ledger ledger' older few less after.1 are.1,
)

module _ {R : Type 0} {rules : Rules} {image : Image} {entries : List Entry} {plan : List Override} {now : Path} {ring : List Path} {cpu : CpuState R} {log : Log} {ledger : Ledger} (k : KeepsRing rules image entries plan now ring cpu log ledger) where
  pub oldest_kept : HasOldest ring cpu.slots.saved
  oldest_kept = has_oldest cpu.slots.saved ring k.some k.saved

  -- What lies before the oldest checkpoint was received and sent, so that a session between two events can give it up.
  pub can_forget : KeepsReplies rules.bounds entries None now.state.sends ledger → ledger.trial ≡ None → now.state.machine.taken ≤ received log → CanForget cpu log ledger
  can_forget replies none taken =
      let h = oldest_kept in
      let before = (after_oldest rules.limits (items_in rules.bounds entries) plan image now ring h.oldest k.chained h.last).0 in
      let all : length ledger.kept ≡ length now.state.sends - ledger.first = ap length replies.shows.kept ∙ length-drop ledger.first now.state.sends in
      let items : h.checkpoint.state.guest.machine.taken ≤ received log = omega (arith, ap taken_in h.stands, before.taken, taken) in
      let sends : h.checkpoint.state.sends ≤ ledger.first + length ledger.kept = omega (arith, ap (λ (s : Standing). s.sends) h.stands, before.sends, all, replies.shows.counted) in
      record {
        some = omega (arith, ring_length cpu.slots.saved ring k.saved, k.some);
        trial = none;
        items = subst (λ (o : Option (Checkpoint Standing)). IfSome o (λ oldest. oldest.state.guest.machine.taken ≤ received log)) (sym h.first) items;
        sends = subst (λ (o : Option (Checkpoint Standing)). IfSome o (λ oldest. oldest.state.sends ≤ ledger.first + length ledger.kept)) (sym h.first) sends;
      }

  -- The answers of the allocator before the oldest checkpoint: as many were used at each checkpoint, and the run has them.
  pub behind_marks : (marks : Marks) → IfSome (oldest_of cpu.slots.saved) (λ one. marks ≡ marks_of one.state) → AreBehind marks.choices ring × (marks.choices ≤ length now.choices)
  behind_marks marks is =
      let h = oldest_kept in
      let after = after_oldest rules.limits (items_in rules.bounds entries) plan image now ring h.oldest k.chained h.last in
      let here : marks ≡ marks_of h.checkpoint.state = subst (λ (o : Option (Checkpoint Standing)). IfSome o (λ one. marks ≡ marks_of one.state)) h.first is in
      let used : marks.choices ≡ length h.oldest.choices =
      ap (λ (m : Marks). m.choices) here ∙ (ap (λ (s : Standing). s.guest.machine.allocations) h.stands ∙ oldest_used rules.limits (items_in rules.bounds entries) plan image now ring h.oldest k.chained h.last) in
      (subst (λ n. AreBehind n ring) (sym used) (behind_after h.oldest ring after.1), omega (arith, used, after.0.choices))

  -- What is left is enough for each trial, and right beside the journal.
  pub forgets : {log' : Log} {ledger' : Ledger} (marks : Marks) → IfSome (oldest_of cpu.slots.saved) (λ one. marks ≡ marks_of one.state) → log' ≡ logs.trimmed log marks.taken → ShowsStill log log' → ledger' ≡ ledgers.trimmed ledger marks.sends
      → KeepsItems rules.bounds entries log → KeepsReplies rules.bounds entries None now.state.sends ledger → Forgets rules image entries plan now ring cpu log' ledger'
  forgets {log' = log'} {ledger' = ledger'} marks is cut still less items replies =
      let h = oldest_kept in
      let after = after_oldest rules.limits (items_in rules.bounds entries) plan image now ring h.oldest k.chained h.last in
      let here : marks ≡ marks_of h.checkpoint.state = subst (λ (o : Option (Checkpoint Standing)). IfSome o (λ one. marks ≡ marks_of one.state)) h.first is in
      let taken : marks.taken ≡ h.oldest.state.machine.taken = ap (λ (m : Marks). m.taken) here ∙ ap taken_in h.stands in
      let sent : marks.sends ≡ length h.oldest.state.sends = ap (λ (m : Marks). m.sends) here ∙ ap (λ (s : Standing). s.sends) h.stands in
      let first : log'.first ≡ max log.first marks.taken = ap (λ (l : Log). l.first) cut in
      record {
        ring = record {
          some = k.some;
          chained = k.chained;
          are = k.are;
          kept = kept_still rules entries h.oldest log log' ledger ledger' ring (omega (arith, first, taken)) (omega (arith, ap (λ (l : Ledger). l.first) less, sent)) after.1 k.kept;
          saved = k.saved;
          newest = k.newest;
          window = k.window;
          wrote = k.wrote;
        };
        items = record {
          all_heeded = items.all_heeded;
          shows = still _ _ items.shows;
          most = ap (λ (l : Log). l.max_items) cut ∙ items.most;
        };
        replies =
            subst (KeepsReplies rules.bounds entries None now.state.sends) (sym less)
            (keeps_without rules.bounds entries now.state.sends ledger (min (marks.sends - ledger.first) (settled ledger)) (omega arith) replies);
      }
