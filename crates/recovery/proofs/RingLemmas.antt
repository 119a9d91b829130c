-- A session's checkpoints as runs, one lemma for each event of a session.
use Rattle.circular_buffer.proofs.Places.{slice_get-drop}
use Rattle.run_history.specs.Machine as M
use Rattle.recovery.proofs.Terms.{Bool, IfSome, List, None, Option, Some, [], ap, arith, drop, false, inl, inr, length, length-drop, refl, subst, suc, sym, take, zero, ℕ, ◌++◌, ◌+◌, ◌<◌, ◌^◌, ◌∙◌, ◌∷◌, ◌≡◌, ◌≤◌, both_ways, drop-map, length-take, take-map, take_all, slice_get_within, map, replicate, slice_get, Item, MAX_ITEMS, Entry, Choice, Env, saved_in_ring, Checkpoint, Slots, Log, Ledger, Image, base, no_connections_may, may_send, start, Limits, Override, Path, Served, origin, runs_start, writes_more, writes_none, writes_on, CpuState, with_live, standing_of, Live, Standing, Writes, served_same, items_in, KeepsItems, KeepsReplies, Rules, Carries, asks_under_all, chained_adopt, AreChained, AreCheckpoints, plan_of_trial, AreKept, HasFailed, HasSaved, Held, IsKept, KeepsSaved, StandsOn, Brings, CanSave, HasNoCheckpoint, IsAtStart, KeepsRing, Adopts}
use Rattle.recovery.proofs.Stands.{saved_states}
use Rattle.recovery.proofs.Chains.{brings_none, chained_on, chained_with, chained_take, are_take, kept_take, kept_drop, kept_with}

-- since the newest of some checkpoints the run wrote these pages
abbrev pub WroteSince : Limits → List Item → ℕ → ℕ → List Path → Path → List Bool → Type 0
WroteSince limits items base pages ring now flags = IfSome (slice_get ring 0) (λ newest. Writes limits items base newest (replicate pages false) now flags)

-- none, where it is the newest itself
wrote_none : (limits : Limits) (items : List Item) (base pages count : ℕ) (now : Path) (ring : List Path) (flags : List Bool) → flags ≡ replicate pages false → WroteSince limits items base pages (take count (now ∷ ring)) now flags
wrote_none limits items base pages zero now ring flags clear = tt
wrote_none limits items base pages (suc count) now ring flags clear = subst (λ (after : List Bool). Writes limits items base now (replicate pages false) now after) (sym clear) (writes_none limits items base now (replicate pages false))

-- and those that it writes as it goes on
wrote_on : (limits : Limits) (items : List Item) (base pages : ℕ) (ring : List Path) (now : Path) (flags : List Bool) (next : Path) (later : List Bool) → Writes limits items base now flags next later
    → WroteSince limits items base pages ring now flags → WroteSince limits items base pages ring next later
wrote_on limits items base pages [] now flags next later wrote since = tt
wrote_on limits items base pages (newest ∷ older) now flags next later wrote since = writes_on limits items base newest (replicate pages false) now flags next later since wrote

-- with more items too
wrote_more : (limits : Limits) (items more : List Item) (base pages : ℕ) (ring : List Path) (now : Path) (flags : List Bool) → WroteSince limits items base pages ring now flags → WroteSince limits (items ++ more) base pages ring now flags
wrote_more limits items more base pages [] now flags since = tt
wrote_more limits items more base pages (newest ∷ older) now flags since = writes_more limits items more base newest (replicate pages false) now flags since

-- the start of a program can go on, and log and ledger have all that comes after it
start_kept : (rules : Rules) (image : Image) (log : Log) (ledger : Ledger) → log.first ≡ 0 → ledger.first ≡ 0 → IsKept rules [] log ledger (origin image)
unfolding M.start M.start_machine
start_kept rules image log ledger whole all =
    let first = runs_start image rules.limits.budget in
    record {
      lives = first.lives;
      goes = record { bounded = λ lives. first.bounded; within = λ conn may. absurd (both_ways (may_send (origin image).state.machine conn) (no_connections_may conn) may); opened = λ conn none. refl; timed = tt; sendable = tt };
      items = omega (arith, whole);
      sends = omega (arith, all);
    }

module _ {R : Type 0} {rules : Rules} {image : Image} {log : Log} {ledger : Ledger} (old : CpuState R) {new : CpuState R} where
  -- what a save leaves
  ring_saved : (entries : List Entry) (plan : List Override) (now : Path) (ring : List Path) → AreChained rules.limits (items_in rules.bounds entries) plan image now (now ∷ ring) → AreCheckpoints rules.limits image (now ∷ ring)
      → AreKept rules entries log ledger (now ∷ ring) → HasSaved old ring → old.slots.live ≡ standing_of now → new.slots ≡ saved_in_ring old.slots → 0 < length new.slots.saved → new.base ≡ base image
      → new.written ≡ replicate new.slots.pages false → KeepsRing rules image entries plan now (take (length new.slots.saved) (now ∷ ring)) new log ledger
  ring_saved entries plan now ring chained are kept saved live saves some window clear =
      let count : ℕ = length new.slots.saved in
      record {
        some = omega (arith, some, length-take count (now ∷ ring));
        chained = chained_take rules.limits (items_in rules.bounds entries) plan image now (now ∷ ring) count chained;
        are = are_take rules.limits image (now ∷ ring) count are;
        kept = kept_take rules entries log ledger (now ∷ ring) count kept;
        saved = saved_states old.slots saves ∙ ((λ i. take count (live i ∷ saved i)) ∙ take-map standing_of count (now ∷ ring));
        newest = ap (λ (slots : Slots Standing). slots.newer) saves;
        window = window;
        wrote = wrote_none rules.limits (items_in rules.bounds entries) new.base new.slots.pages count now ring new.written clear;
      }

  -- The start is saved as the first checkpoint.
  pub ring_begins : HasNoCheckpoint old → IsAtStart image old log ledger → new.slots ≡ saved_in_ring old.slots → 0 < length new.slots.saved → new.base ≡ old.base → new.written ≡ replicate new.slots.pages false
      → KeepsRing rules image [] [] (origin image) (origin image ∷ []) new log ledger
  ring_begins none start saves some window clear =
      let same = served_same rules.limits (items_in rules.bounds []) [] (origin image) in
      subst (λ (ring : List Path). KeepsRing rules image [] [] (origin image) ring new log ledger) (take_all (length new.slots.saved) (origin image ∷ []) (omega (arith, some)))
      (ring_saved [] [] (origin image) [] (same, same) (inl refl, tt) (start_kept rules image log ledger start.items start.sends, tt) (ap (map (λ (one : Checkpoint Standing). one.state)) none.saved) start.live saves some (window ∙ start.window) clear)

  -- A run at its request, which isn't the start, is saved as the newest checkpoint.
  pub ring_saves : {entries : List Entry} {plan : List Override} {now : Path} {ring : List Path} {taken : ℕ} → CanSave rules image entries plan now ring old log ledger taken → 0 < taken → new.slots ≡ saved_in_ring old.slots → 0 < length new.slots.saved
      → new.base ≡ old.base → new.written ≡ replicate new.slots.pages false → KeepsRing rules image entries plan now (take (length new.slots.saved) (now ∷ ring)) new log ledger
  ring_saves {entries = entries} {plan = plan} {now = now} {ring = ring} can later saves some window clear =
      let k = can.ring in
      let number = can.asks.taken in
      ring_saved entries plan now ring (served_same rules.limits (items_in rules.bounds entries) plan now, k.chained)
      (inr (omega (arith, later, number), asks_under_all rules.limits plan [] now now.state.machine.taken (record { lives = can.asks.lives; taken = refl; asks = can.asks.asks })), k.are)
      (record { lives = can.asks.lives; goes = can.goes; items = omega (arith, can.items, number); sends = can.sends }, k.kept) k.saved can.live saves some (window ∙ k.window) clear

module _ {R : Type 0} {rules : Rules} {image : Image} {entries : List Entry} {plan : List Override} {now : Path} {ring : List Path} {cpu : CpuState R} {log : Log} {ledger : Ledger} (k : KeepsRing rules image entries plan now ring cpu log ledger) where
  -- The survivor's run goes on, and writes pages: of the guest the live state changes alone.
  pub ring_on : (live : Live) {next : Path} {new : CpuState R} → Served rules.limits (items_in rules.bounds entries) plan now next → Writes rules.limits (items_in rules.bounds entries) cpu.base now cpu.written next live.written → new ≡ with_live live cpu
      → KeepsRing rules image entries plan next ring new log ledger
  ring_on live {next = next} served wrote same =
      subst (λ (new : CpuState R). KeepsRing rules image entries plan next ring new log ledger) (sym same)
      (record {
        some = k.some;
        chained = chained_on rules.limits (items_in rules.bounds entries) plan image now next ring served k.chained;
        are = k.are;
        kept = k.kept;
        saved = k.saved;
        newest = k.newest;
        window = k.window;
        wrote = wrote_on rules.limits (items_in rules.bounds entries) cpu.base cpu.slots.pages ring now cpu.written next live.written wrote k.wrote;
      })

  -- More entries come, with items or none; log and ledger give up nothing.
  pub ring_more : {after : List Entry} {more : List Item} {log' : Log} {ledger' : Ledger} → Brings rules entries after more → log'.first ≡ log.first → ledger'.first ≡ ledger.first → KeepsRing rules image after plan now ring cpu log' ledger'
  ring_more {after = after} {more = more} {log' = log'} {ledger' = ledger'} brings same still = record {
    some = k.some;
    chained = subst (λ (items : List Item). AreChained rules.limits items plan image now ring) (sym brings.items) (chained_with rules.limits (items_in rules.bounds entries) more plan image now ring k.chained);
    are = k.are;
    kept = kept_with rules entries after more log log' ledger ledger' ring brings same still k.kept;
    saved = k.saved;
    newest = k.newest;
    window = k.window;
    wrote =
        subst (λ (items : List Item). WroteSince rules.limits items cpu.base cpu.slots.pages ring now cpu.written) (sym brings.items)
        (wrote_more rules.limits (items_in rules.bounds entries) more cpu.base cpu.slots.pages ring now cpu.written k.wrote);
  }

  -- no more entries, and another log or another ledger that have given up as much
  pub ring_beside : {log' : Log} {ledger' : Ledger} → log'.first ≡ log.first → ledger'.first ≡ ledger.first → KeepsRing rules image entries plan now ring cpu log' ledger'
  ring_beside same still = ring_more (brings_none rules entries) same still

  -- The survivor failed: with what its session has beside the ring, this is all that is known of a session that failed.
  pub ring_fails : rules.bounds.max_items ≤ MAX_ITEMS → KeepsItems rules.bounds entries log → KeepsReplies rules.bounds entries None now.state.sends ledger → Carries rules image entries plan now → HasFailed rules image entries plan now ring cpu log ledger
  ring_fails few items replies carries = record {
    items = items;
    few_items = few;
    replies = replies;
    taken = carries.taken;
    ordered = carries.ordered;
    covers = carries.covers;
    feasible = carries.feasible;
    chained = k.chained;
    checkpoints = k.are;
    kept = k.kept;
    saved = k.saved;
  }

  -- A trial from a checkpoint of the ring is adopted, and the newer ones are dropped: the ring is that of the adopted run.
  pub ring_adopts : {tried new : Held R} {own : List Choice} {checkpoint path : Path} (env : Env) (point index : ℕ) → slice_get ring index ≡ Some checkpoint
      → Served rules.limits (items_in rules.bounds entries) (plan_of_trial rules.limits.keep plan checkpoint.state.machine.taken env point) checkpoint path → KeepsSaved cpu tried.cpu → StandsOn tried.cpu index → Adopts index own tried new
      → Writes rules.limits (items_in rules.bounds entries) tried.cpu.base checkpoint (replicate tried.cpu.slots.pages false) path tried.cpu.written
      → KeepsRing rules image entries (plan_of_trial rules.limits.keep plan checkpoint.state.machine.taken env point) path (drop index ring) new.cpu log ledger
  ring_adopts {tried = tried} {new = new} {checkpoint = checkpoint} {path = path} env point index found served keeps stands adopts wrote =
      let items : List Item = items_in rules.bounds entries in
      let chain = chained_adopt rules.limits items plan image env point now path ring index checkpoint k.chained k.are found served in
      let state : Checkpoint Standing → Standing = λ (one : Checkpoint Standing). one.state in
      let pages : new.cpu.slots.pages ≡ tried.cpu.slots.pages = ap (λ (slots : Slots Standing). slots.pages) adopts.slots in
      let newest : slice_get (drop index ring) 0 ≡ Some checkpoint = slice_get-drop index ring 0 index (let none : index ≡ index + 0 = omega arith in none) ∙ found in
      record {
        some = omega (arith, length-drop index ring, slice_get_within ring index checkpoint found);
        chained = chain.0;
        are = chain.1;
        kept = kept_drop rules entries log ledger ring index k.kept;
        saved = ap (λ (slots : Slots Standing). map state slots.saved) adopts.slots
            ∙ (ap (λ (all : List (Checkpoint Standing)). map state (drop index all)) keeps.saved ∙ (sym (drop-map state index cpu.slots.saved) ∙ (ap (drop index) k.saved ∙ drop-map standing_of index ring)));
        newest = omega (arith, ap (λ (slots : Slots Standing). slots.newer) adopts.slots, stands);
        window = adopts.window ∙ (keeps.base ∙ k.window);
        wrote =
            subst (λ (newest : Option Path). IfSome newest (λ one. Writes rules.limits items new.cpu.base one (replicate new.cpu.slots.pages false) path new.cpu.written)) (sym newest)
            (subst (λ (at : ℕ × ℕ × List Bool). Writes rules.limits items at.0 checkpoint (replicate at.1 false) path at.2) (λ i. (sym adopts.window i, sym pages i, sym adopts.flags i)) wrote);
      }
