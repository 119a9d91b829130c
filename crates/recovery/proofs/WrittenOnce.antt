-- What a survivor's run fixes: the pages that it wrote before its requests, and the checkpoints that stand behind them.
use Rattle.guest_cpu.proofs.WritingOnce.{writes_once}
use Rattle.trials.proofs.Going.{Before}
use Rattle.recovery.proofs.Terms.{Bool, IfSome, List, [], ap, arith, cond, false, inl, inr, length, refl, subst, sym, take, true, ℕ, ◌*◌, ◌+◌, ◌<◌, ◌∙◌, ◌∷◌, ◌≡◌, ◌≤◌, cond_both, replicate, slice_get, Item, Entry, count_true, has_room, page_numbers, with_whole_oldest, Image, base, AsksFor, Limits, Override, Path, Served, origin, Writes, Later, served_on, items_in, Rules, Survivor, asks_under_all, Behind, Compared, Equal, compare, start_taken, asks_on, IsCheckpoint, AreWritten, HasWritten, Keeping, Stand, handle, handled, is_far, with_another, OneNumber}
use Rattle.recovery.proofs.Stands.{room_some, whole_some}

-- a run that goes on from its request for an item doesn't ask for that item again
asks_no_more : (limits : Limits) (items : List Item) (plan : List Override) (one other : Path) (item : ℕ) → AsksFor limits [] one item → other.state.machine.taken ≡ item → Later limits items plan one other → ⊥
asks_no_more limits items plan one other item asks taken later =
    let past = asks_on limits items plan one other item (asks_under_all limits [] plan one item asks) later in omega (arith, past, taken)

-- So the request for an item is one place of a run.
one_request : (limits : Limits) (items : List Item) (plan : List Override) (start one other : Path) (item : ℕ) → AsksFor limits [] one item → AsksFor limits [] other item → Served limits items plan start one → Served limits items plan start other → one ≡ other
one_request limits items plan start one other item asks asking ran running = of_compared (compare limits items plan start one other ran running)
  where
    of_compared : Compared limits items plan one other → one ≡ other
    of_compared (Equal same) = same
    of_compared (Before later) = absurd (asks_no_more limits items plan one other item asks asking.taken later)
    of_compared (Behind later) = absurd (asks_no_more limits items plan other one item asking asks.taken later)

-- so is a checkpoint with so many items taken: with none it is the start
one_checkpoint : (limits : Limits) (items : List Item) (plan : List Override) (image : Image) (one other : Path) (item : ℕ) → IsCheckpoint limits image one → IsCheckpoint limits image other
    → one.state.machine.taken ≡ item → other.state.machine.taken ≡ item → Served limits items plan (origin image) one → Served limits items plan (origin image) other → one ≡ other
one_checkpoint limits items plan image one other item (inl is) (inl was) taken same ran running = is ∙ sym was
one_checkpoint limits items plan image one other item (inl is) (inr asking) taken same ran running =
    let none = start_taken image one is in absurd (omega (arith, none, taken, same, asking.0))
one_checkpoint limits items plan image one other item (inr asks) (inl was) taken same ran running =
    let none = start_taken image other was in absurd (omega (arith, none, taken, same, asks.0))
one_checkpoint limits items plan image one other item (inr asks) (inr asking) taken same ran running =
    one_request limits items plan (origin image) one other item (subst (AsksFor limits [] one) taken asks.1) (subst (AsksFor limits [] other) same asking.1) ran running

pub one_number : OneNumber
one_number rules image entries survivor pages from to one other w v =
    let items : List Item = items_in rules.bounds entries in
    let checkpoint : w.checkpoint ≡ v.checkpoint =
    one_checkpoint rules.limits items survivor.plan image w.checkpoint v.checkpoint from w.is_checkpoint v.is_checkpoint w.taken_is v.taken_is w.begins v.begins in
    let request : w.request ≡ v.request =
    one_request rules.limits items survivor.plan (origin image) w.request v.request to w.asks v.asks
    (served_on rules.limits items survivor.plan (origin image) w.checkpoint w.request w.begins w.goes) (served_on rules.limits items survivor.plan (origin image) v.checkpoint v.request v.begins v.goes) in
    let wrote : Writes rules.limits items (base image) w.checkpoint (replicate pages false) w.request v.flags =
    subst (λ (p : Path). Writes rules.limits items (base image) p (replicate pages false) w.request v.flags) (sym checkpoint)
    (subst (λ (p : Path). Writes rules.limits items (base image) v.checkpoint (replicate pages false) p v.flags) (sym request) v.wrote) in
    w.count_is ∙ ap count_true (writes_once rules.limits items (base image) w.checkpoint (replicate pages false) w.request w.flags v.flags w.wrote wrote) ∙ sym v.count_is

-- the new one stands alone with all pages as its number, or none does
alone_alike : (keeping : Keeping) (taken one other : ℕ) → handle keeping taken one [] ≡ handle keeping taken other []
alone_alike keeping taken one other = by (has_room keeping.ring keeping.pages keeping.frames (one ∷ []))
  where
    by : (b : Bool) → with_whole_oldest keeping.pages (take (cond b 1 0) (record { state = taken; pages = one } ∷ [])) ≡ with_whole_oldest keeping.pages (take (cond b 1 0) (record { state = taken; pages = other } ∷ []))
    by true = refl
    by false = refl

-- and where one may stand alone, one does behind each request
handled_some : (keeping : Keeping) (from : ℕ) (written : List ℕ) (stands : List Stand) → 0 < length stands → 1 ≤ keeping.ring → 2 * keeping.pages ≤ keeping.frames → 0 < length (handled keeping from written stands)
handled_some keeping from [] stands some may two = some
handled_some keeping from (written ∷ earlier) stands some may two =
    let before : List Stand = handled keeping from earlier stands in
    cond_both (is_far keeping.every (from + length earlier) (slice_get before 0)) (with_another keeping (from + length earlier) written before) before (λ list. 0 < length list)
    (λ _. whole_some keeping.pages (record { state = from + length earlier; pages = written }) before (room_some keeping.ring keeping.pages keeping.frames written (page_numbers before) may two))
    (λ _. handled_some keeping from earlier stands some may two)

module _ (rules : Rules) (image : Image) (entries : List Entry) (survivor : Survivor) (keeping : Keeping) where
  -- before a request so many pages were written since the newest one that stands
  abbrev CountsBefore : ℕ → List Stand → ℕ → Type 0
  CountsBefore to stands written = IfSome (slice_get stands 0) (λ newest. HasWritten rules image entries survivor keeping.pages newest.state to written)

  -- where one stands there is one such number
  one_before : (to one other : ℕ) (stands : List Stand) → 0 < length stands → CountsBefore to stands one → CountsBefore to stands other → one ≡ other
  one_before to one other [] some w v = absurd (omega (arith, some))
  one_before to one other (newest ∷ older) some w v = one_number rules image entries survivor keeping.pages newest.state to one other w v

  -- and where none stands the number doesn't matter: the new one stands alone, or none does
  handle_once : (to one other : ℕ) (stands : List Stand) → CountsBefore to stands one → CountsBefore to stands other → handle keeping to one stands ≡ handle keeping to other stands
  handle_once to one other [] w v = alone_alike keeping to one other
  handle_once to one other (newest ∷ older) w v = ap (λ n. handle keeping to n (newest ∷ older)) (one_before to one other (newest ∷ older) (omega arith) w v)

  -- the same of the requests before
  pub one_ring : (from : ℕ) (one other : List ℕ) (stands : List Stand) → AreWritten rules image entries survivor keeping from one stands → AreWritten rules image entries survivor keeping from other stands
      → length one ≡ length other → handled keeping from one stands ≡ handled keeping from other stands
  one_ring from [] [] stands w v same = refl
  one_ring from (one ∷ earlier) (other ∷ before) stands w v same =
      let many : length earlier ≡ length before = omega (arith, same) in
      let ring = one_ring from earlier before stands w.1 v.1 many in
      let counts : CountsBefore (from + length before) (handled keeping from before stands) one = subst (λ (at : ℕ × List Stand). CountsBefore (from + at.0) at.1 one) (λ i. (many i, ring i)) w.0 in
      (λ i. handle keeping (from + many i) one (ring i)) ∙ handle_once (from + length before) one other (handled keeping from before stands) counts v.0
  one_ring from _ _ stands w v same = absurd (omega (arith, same))

  pub same_numbers : (from : ℕ) (one other : List ℕ) (stands : List Stand) → 0 < length stands → 1 ≤ keeping.ring → 2 * keeping.pages ≤ keeping.frames → AreWritten rules image entries survivor keeping from one stands
      → AreWritten rules image entries survivor keeping from other stands → length one ≡ length other → one ≡ other
  same_numbers from [] [] stands some may two w v same = refl
  same_numbers from (one ∷ earlier) (other ∷ before) stands some may two w v same =
      let rest : earlier ≡ before = same_numbers from earlier before stands some may two w.1 v.1 (omega (arith, same)) in
      let counts : CountsBefore (from + length before) (handled keeping from before stands) one =
      subst (λ (list : List ℕ). CountsBefore (from + length list) (handled keeping from list stands) one) rest w.0 in
      λ i. (one_before (from + length before) one other (handled keeping from before stands) (handled_some keeping from before stands some may two) counts v.0) i ∷ rest i
  same_numbers from _ _ stands some may two w v same = absurd (omega (arith, same))
