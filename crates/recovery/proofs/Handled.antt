-- Which checkpoints stand: one lemma for each event.
use Rattle.recovery.proofs.Terms.{IfSome, List, None, Option, Some, [], ap, append_assoc, arith, cond, drop, false, length, refl, subst, sym, take, true, ℕ, ◌++◌, ◌+◌, ◌-◌, ◌<◌, ◌∙◌, ◌∷◌, ◌≡◌, ◌≤◌, le-leb, lt-leb, drop-map, nil_from_length, same_Some, map-map, IsSomeAnd, map, replicate, slice_get, unwrap_or, Item, Entry, count_true, saved_in_ring, Checkpoint, Slots, Log, Ledger, Image, base, AsksFor, Override, Path, Served, origin, writes_more, CpuState, standing_of, Standing, Writes, served_on, served_same, served_with, Before, items_in, Chapter, Rules, Survivor, entries_of, starting_path, chained_at, start_taken, Recovery, Trial, survivor_in, taken_in, KeepsRing, AreRinged, AreWritten, HasFollowedRequests, HasHandled, HasRing, HasWritten, IsRinged, Keeping, Stand, handle, handled, is_far, keeping_by, stand_of, stands_of, starting_stands, with_another, NoneFollowed}
use Rattle.recovery.proofs.Stands.{saved_states, saved_stands}

-- whether another one is due, by how many items were taken at the newest
pub far_when : (every taken number : ℕ) (saved : List (Checkpoint Standing)) → IsSomeAnd (slice_get saved 0) (λ one. number ≡ taken_in one.state) → every ≤ taken - number → is_far every taken (slice_get (stands_of saved) 0) ≡ true
far_when every taken number [] is enough = refl
far_when every taken number (newest ∷ older) is enough = le-leb every (taken - taken_in newest.state) (omega (arith, is, enough))

pub near_when : (every taken number : ℕ) (saved : List (Checkpoint Standing)) → IsSomeAnd (slice_get saved 0) (λ one. number ≡ taken_in one.state) → taken - number < every → is_far every taken (slice_get (stands_of saved) 0) ≡ false
near_when every taken number [] is few = absurd is
near_when every taken number (newest ∷ older) is few = lt-leb every (taken - taken_in newest.state) (omega (arith, is, few))

-- where none is due nothing changes
pub near_handles : (keeping : Keeping) (taken written : ℕ) (stands : List Stand) → is_far keeping.every taken (slice_get stands 0) ≡ false → stands ≡ handle keeping taken written stands
near_handles keeping taken written stands near = ap (λ b. cond b (with_another keeping taken written stands) stands) (sym near)

-- and where one is due the live state is saved
pub far_handles : (slots : Slots Standing) {new : Slots Standing} (every : ℕ) → is_far every (taken_in slots.live) (slice_get (stands_of slots.saved) 0) ≡ true → new ≡ saved_in_ring slots
    → stands_of new.saved ≡ handle (keeping_by every slots) (taken_in slots.live) slots.written (stands_of slots.saved)
far_handles slots every far saves = saved_stands slots every saves ∙ ap (λ b. cond b (with_another (keeping_by every slots) (taken_in slots.live) slots.written (stands_of slots.saved)) (stands_of slots.saved)) (sym far)

-- behind it none is due
newest_near : (every : ℕ) (live : Standing) (states : List Standing) (saved : List (Checkpoint Standing)) → map (λ (one : Checkpoint Standing). one.state) saved ≡ take (length saved) (live ∷ states) → 0 < length saved → 0 < every
    → is_far every (taken_in live) (slice_get (stands_of saved) 0) ≡ false
newest_near every live states [] is some often = absurd (omega (arith, some))
newest_near every live states (newest ∷ older) is some often =
    let same : newest.state ≡ live = same_Some newest.state live (ap (λ (all : List Standing). slice_get all 0) is) in lt-leb every (taken_in live - taken_in newest.state) (omega (arith, ap taken_in same, often))

pub near_saved : (slots : Slots Standing) {new : Slots Standing} (every : ℕ) → new ≡ saved_in_ring slots → 0 < length new.saved → 0 < every → is_far every (taken_in slots.live) (slice_get (stands_of new.saved) 0) ≡ false
near_saved slots {new = new} every saves some often = newest_near every slots.live (map (λ (one : Checkpoint Standing). one.state) slots.saved) new.saved (saved_states slots saves) some often

-- what holds of the one that is there
if_some : (o : Option Stand) (P Q : Stand → Type 0) → ((one : Stand) → P one → Q one) → IfSome o P → IfSome o Q
if_some None P Q so holds = tt
if_some (Some one) P Q so holds = so one holds

-- As many pages were written by the run of a survivor that goes on, beside a journal that brings more items.
module _ (rules : Rules) (image : Image) (entries later : List Entry) (more : List Item) (first second : Survivor) (plan : second.plan ≡ first.plan) (served : Served rules.limits (items_in rules.bounds later) second.plan first.now second.now)
    (grown : items_in rules.bounds later ≡ items_in rules.bounds entries ++ more) where
  written_on : {pages from to count : ℕ} → HasWritten rules image entries first pages from to count → HasWritten rules image later second pages from to count
  written_on {pages = pages} w =
      let with_more : (a b : Path) → Served rules.limits (items_in rules.bounds entries) first.plan a b → Served rules.limits (items_in rules.bounds later) second.plan a b =
      λ a b ran.
      subst (λ (items : List Item). Served rules.limits items second.plan a b) (sym grown)
      (subst (λ (plan : List Override). Served rules.limits (items_in rules.bounds entries ++ more) plan a b) (sym plan) (served_with rules.limits (items_in rules.bounds entries) more first.plan a b ran)) in
      record {
        checkpoint = w.checkpoint;
        is_checkpoint = w.is_checkpoint;
        taken_is = w.taken_is;
        request = w.request;
        asks = w.asks;
        begins = with_more (origin image) w.checkpoint w.begins;
        goes = with_more w.checkpoint w.request w.goes;
        later = served_on rules.limits (items_in rules.bounds later) second.plan w.request first.now second.now (with_more w.request first.now w.later) served;
        flags = w.flags;
        wrote =
            subst (λ (items : List Item). Writes rules.limits items (base image) w.checkpoint (replicate pages false) w.request w.flags) (sym grown)
            (writes_more rules.limits (items_in rules.bounds entries) more (base image) w.checkpoint (replicate pages false) w.request w.flags w.wrote);
        count_is = w.count_is;
      }

  all_written_on : (keeping : Keeping) (from : ℕ) (written : List ℕ) (stands : List Stand) → AreWritten rules image entries first keeping from written stands → AreWritten rules image later second keeping from written stands
  all_written_on keeping from [] stands are = tt
  all_written_on keeping from (written ∷ earlier) stands are = (
    if_some (slice_get (handled keeping from earlier stands) 0) (λ newest. HasWritten rules image entries first keeping.pages newest.state (from + length earlier) written)
        (λ newest. HasWritten rules image later second keeping.pages newest.state (from + length earlier) written) (λ newest one. written_on one) are.0,
    all_written_on keeping from earlier stands are.1,
  )

module _ {rules : Rules} {image : Image} {keeping : Keeping} {chapters : List Chapter} {entries : List Entry} {recoveries : List Recovery} {survivor : Survivor} {requests : ℕ} {stands : List Stand}
    (h : HasHandled rules image keeping chapters entries recoveries survivor requests stands) where
  -- One more request of the last survivor, with as many items taken as requests were handled before: these pages were written since the newest checkpoint.
  handled_more : (written : ℕ) {next : List Stand} → IfSome (slice_get stands 0) (λ newest. HasWritten rules image entries survivor keeping.pages newest.state requests written) → next ≡ handle keeping requests written stands
      → HasHandled rules image keeping chapters entries recoveries survivor (requests + 1) next
  handled_more written wrote is = record {
    followed = h.followed;
    before = h.before;
    earlier = h.earlier;
    begun = h.begun;
    rings = h.rings;
    written = written ∷ h.written;
    many = let many = h.many in omega (arith, many);
    pages = (
      subst (λ (list : List Stand). IfSome (slice_get list 0) (λ newest. HasWritten rules image entries survivor keeping.pages newest.state (survivor.begun.state.machine.taken + length h.written) written)) h.stands_are
          (subst (λ n. IfSome (slice_get stands 0) (λ newest. HasWritten rules image entries survivor keeping.pages newest.state n written)) (sym h.many) wrote),
      h.pages,
    );
    stands_are = is ∙ (ap (handle keeping requests written) h.stands_are ∙ ap (λ n. handle keeping n written (handled keeping survivor.begun.state.machine.taken h.written h.begun)) (sym h.many));
  }

  -- The last survivor goes on, and the journal brings more items.
  pub handled_on : (later : List Entry) (more : List Item) (second : Survivor) → second.begun ≡ survivor.begun → second.plan ≡ survivor.plan → Served rules.limits (items_in rules.bounds later) second.plan survivor.now second.now
      → items_in rules.bounds later ≡ items_in rules.bounds entries ++ more → HasHandled rules image keeping chapters later recoveries second requests stands
  handled_on later more second same plan served grown = record {
    followed = h.followed;
    before = h.before;
    earlier = h.earlier;
    begun = h.begun;
    rings = h.rings;
    written = h.written;
    many = ap (λ (p : Path). p.state.machine.taken + length h.written) same ∙ h.many;
    pages =
        subst (λ (p : Path). AreWritten rules image later second keeping p.state.machine.taken h.written h.begun) (sym same)
        (all_written_on rules image entries later more survivor second plan served grown keeping survivor.begun.state.machine.taken h.written h.begun h.pages);
    stands_are = h.stands_are ∙ ap (λ (p : Path). handled keeping p.state.machine.taken h.written h.begun) (sym same);
  }

-- where a session begins stands what the requests before it left
pub handled_first : (rules : Rules) (image : Image) (keeping : Keeping) (followed : List ℕ) (entries : List Entry) (survivor : Survivor) (stands : List Stand) → HasFollowedRequests rules image keeping followed → stands ≡ starting_stands keeping followed
    → HasHandled rules image keeping [] entries [] survivor survivor.begun.state.machine.taken stands
handled_first rules image keeping followed entries survivor stands before is =
    record { followed = followed; before = before; earlier = []; begun = starting_stands keeping followed; rings = refl; written = []; many = omega arith; pages = tt; stands_are = is }

-- with nothing before a session there are none
pub none_followed : NoneFollowed
none_followed rules image keeping nothing =
    let none : (starting_path rules image).state.machine.taken ≡ 0 = ap (λ (before : Before). (unwrap_or before.stood (origin image)).state.machine.taken) nothing ∙ start_taken image (origin image) refl in
    (record { many = sym none; pages = tt }, λ followed before. nil_from_length followed (before.many ∙ none))

-- one recovery more
rings_more : (rules : Rules) (image : Image) (before entries : List Entry) (keeping : Keeping) (from : List Stand) (chapters : List Chapter) (chapter : Chapter) (recoveries : List Recovery) (earlier : List (List ℕ)) (begun next : List Stand) (recovery : Recovery) (written : List ℕ)
    → entries ≡ before ++ (entries_of chapters ++ chapter.entries) → AreRinged rules image before keeping from chapters recoveries earlier begun → IsRinged rules image entries keeping recovery written begun next
    → AreRinged rules image before keeping from (chapters ++ chapter ∷ []) (recoveries ++ recovery ∷ []) (earlier ++ written ∷ []) next
rings_more rules image before entries keeping from [] chapter [] [] begun next recovery written all are is = (
  next,
  subst (λ (list : List Entry). IsRinged rules image list keeping recovery written from next) all (subst (λ (list : List Stand). IsRinged rules image entries keeping recovery written list next) are is),
  refl,
)
rings_more rules image before entries keeping from (first ∷ chapters) chapter (second ∷ recoveries) (one ∷ earlier) begun next recovery written all are is =
    let joined : before ++ ((first.entries ++ entries_of chapters) ++ chapter.entries) ≡ (before ++ first.entries) ++ (entries_of chapters ++ chapter.entries) =
    ap (λ list. before ++ list) (append_assoc first.entries (entries_of chapters) chapter.entries) ∙ sym (append_assoc before first.entries (entries_of chapters ++ chapter.entries)) in
    (are.0, are.1, rings_more rules image (before ++ first.entries) entries keeping are.0 chapters chapter recoveries earlier begun next recovery written (all ∙ joined) are.2 is)
rings_more rules image before entries keeping from _ chapter _ _ begun next recovery written all are is = absurd are

-- A trial is adopted: the chapter of the survivor that failed is behind the others, and its entries are the last ones of all that the journal had.
pub handled_adopts : {rules : Rules} {image : Image} {keeping : Keeping} {chapters : List Chapter} (chapter : Chapter) {entries after : List Entry} {recoveries : List Recovery} (recovery : Recovery) {later : Survivor} {stands next : List Stand} {trial : Trial} (index : ℕ)
    → entries ≡ entries_of chapters ++ chapter.entries → HasHandled rules image keeping chapters entries recoveries recovery.survivor recovery.survivor.now.state.machine.taken stands
    → HasRing stands recovery.ring → survivor_in recovery.trials ≡ Some trial → slice_get recovery.ring index ≡ Some trial.chance.checkpoint → next ≡ drop index stands
    → HasHandled rules image keeping (chapters ++ chapter ∷ []) after (recoveries ++ recovery ∷ []) later later.begun.state.machine.taken next
handled_adopts {rules = rules} {image = image} {keeping = keeping} {chapters = chapters} chapter {entries = entries} {recoveries = recoveries} recovery {next = next} {trial = trial} index all h ring found place cut = record {
  followed = h.followed;
  before = h.before;
  earlier = h.earlier ++ h.written ∷ [];
  begun = next;
  rings = rings_more rules image [] entries keeping (starting_stands keeping h.followed) chapters chapter recoveries h.earlier h.begun next recovery h.written all h.rings
      (record {
        many = h.many;
        pages = h.pages;
        ring = subst (λ (list : List Stand). HasRing list recovery.ring) h.stands_are ring;
        trial = trial;
        adopted = found;
        index = index;
        checkpoint_is = place;
        next_is = cut ∙ ap (drop index) h.stands_are;
      });
  written = [];
  many = omega arith;
  pages = tt;
  stands_are = refl;
}

-- checkpoints of runs are those runs' ring
pub has_ring : (saved : List (Checkpoint Standing)) (ring : List Path) → map (λ (one : Checkpoint Standing). one.state) saved ≡ map standing_of ring → HasRing (stands_of saved) ring
has_ring saved ring same =
    map-map (λ (one : Stand). one.state) stand_of saved
    ∙ (sym (map-map taken_in (λ (one : Checkpoint Standing). one.state) saved) ∙ (ap (map taken_in) same ∙ map-map taken_in standing_of ring))

-- those stand on that aren't newer than one of them
pub stands_up_to : (index : ℕ) (old : List (Checkpoint Standing)) {new : List (Checkpoint Standing)} → new ≡ drop index old → stands_of new ≡ drop index (stands_of old)
stands_up_to index old cut = ap stands_of cut ∙ sym (drop-map stand_of index old)

module _ {R : Type 0} {rules : Rules} {image : Image} {entries : List Entry} (survivor : Survivor) {cpu : CpuState R} {log : Log} {ledger : Ledger} {requests : ℕ} where
  -- where the survivor stands at its request, the flags of its guest say how many pages were written since the newest checkpoint
  written_now : (ring : List Path) (count : ℕ) → KeepsRing rules image entries survivor.plan survivor.now ring cpu log ledger → AsksFor rules.limits [] survivor.now requests → count ≡ count_true cpu.written
      → IfSome (slice_get (stands_of cpu.slots.saved) 0) (λ newest. HasWritten rules image entries survivor cpu.slots.pages newest.state requests count)
  written_now [] count k asks is = let some = k.some in absurd (omega (arith, some))
  written_now (newest ∷ older) count k asks is = by (stands_of cpu.slots.saved) (has_ring cpu.slots.saved (newest ∷ older) k.saved)
    where
      wrote : HasWritten rules image entries survivor cpu.slots.pages newest.state.machine.taken requests count
      wrote = record {
        checkpoint = newest;
        is_checkpoint = k.are.0;
        taken_is = refl;
        request = survivor.now;
        asks = asks;
        begins = (chained_at rules.limits (items_in rules.bounds entries) survivor.plan image survivor.now (newest ∷ older) 0 newest k.chained refl).1;
        goes = k.chained.0;
        later = served_same rules.limits (items_in rules.bounds entries) survivor.plan survivor.now;
        flags = cpu.written;
        wrote = subst (λ n. Writes rules.limits (items_in rules.bounds entries) n newest (replicate cpu.slots.pages false) survivor.now cpu.written) k.window k.wrote;
        count_is = is;
      }

      by : (stands : List Stand) → HasRing stands (newest ∷ older) → IfSome (slice_get stands 0) (λ one. HasWritten rules image entries survivor cpu.slots.pages one.state requests count)
      by [] same = tt
      by (one ∷ rest) same =
          subst (λ n. HasWritten rules image entries survivor cpu.slots.pages n requests count) (sym (same_Some one.state newest.state.machine.taken (ap (λ (taken : List ℕ). slice_get taken 0) same))) wrote

module _ {R : Type 0} {rules : Rules} {image : Image} {entries : List Entry} {survivor : Survivor} {cpu : CpuState R} {log : Log} {ledger : Ledger} {requests : ℕ} where
  -- One more request of the last survivor, where its guest stands at it: another checkpoint is saved.
  pub handled_save : {keeping : Keeping} {chapters : List Chapter} {recoveries : List Recovery} {next : List Stand} {ring : List Path} → keeping.pages ≡ cpu.slots.pages → count_true cpu.written ≡ cpu.slots.written
      → KeepsRing rules image entries survivor.plan survivor.now ring cpu log ledger → AsksFor rules.limits [] survivor.now requests → next ≡ handle keeping requests cpu.slots.written (stands_of cpu.slots.saved)
      → HasHandled rules image keeping chapters entries recoveries survivor requests (stands_of cpu.slots.saved) → HasHandled rules image keeping chapters entries recoveries survivor (requests + 1) next
  handled_save {ring = ring} pages counted k asks is h =
      handled_more h cpu.slots.written
      (subst (λ n. IfSome (slice_get (stands_of cpu.slots.saved) 0) (λ newest. HasWritten rules image entries survivor n newest.state requests cpu.slots.written)) (sym pages) (written_now survivor ring cpu.slots.written k asks (sym counted))) is

  -- where none is due, the request is handled as it stands
  pub handled_near : {keeping : Keeping} {chapters : List Chapter} {recoveries : List Recovery} {ring : List Path} → keeping.pages ≡ cpu.slots.pages → KeepsRing rules image entries survivor.plan survivor.now ring cpu log ledger
      → AsksFor rules.limits [] survivor.now requests → is_far keeping.every requests (slice_get (stands_of cpu.slots.saved) 0) ≡ false → HasHandled rules image keeping chapters entries recoveries survivor requests (stands_of cpu.slots.saved)
      → HasHandled rules image keeping chapters entries recoveries survivor (requests + 1) (stands_of cpu.slots.saved)
  handled_near {keeping = keeping} {ring = ring} pages k asks near h =
      handled_more h (count_true cpu.written)
      (subst (λ n. IfSome (slice_get (stands_of cpu.slots.saved) 0) (λ newest. HasWritten rules image entries survivor n newest.state requests (count_true cpu.written))) (sym pages) (written_now survivor ring (count_true cpu.written) k asks refl))
      (near_handles keeping requests (count_true cpu.written) (stands_of cpu.slots.saved) near)
