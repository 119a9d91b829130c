-- The checkpoints of a session that has just begun, with all before it that another one's journal brought, under a plan that says the same up to there.
use Rattle.session_history.proofs.Passing.{in_order_wider}
use Rattle.trials.specs.Chains.{AreChained}
use Rattle.trials.proofs.Chained.{chained_from}
use Rattle.session_following.proofs.Terms.{List, [], ap, false, length, subst, sym, ℕ, ◌∙◌, ◌∷◌, ◌≡◌, ◌≤◌, IfSome, replicate, slice_get, Item, Send, Entry, Log, Ledger, Image, Override, Path, Served, origin, CpuState, Writes, served_on, served_same, Before, events_of, items_in, received, Rules, opens, AreBetween, AreInOrder, Covers, IsFeasible, passed_in, Carries, held_is_in_time, held_is_in_order, held, KeepsRing, AreKept, CanGoOn, rules_after}
use Rattle.session_following.proofs.Based.{SaysAs, only_had, same_heeded, same_items}

-- a run to there is one under the other plan
pub says_now : (rules : Rules) (image : Image) (items : List Item) (plan other : List Override) (now : Path) → SaysAs rules image items plan other now → Served rules.limits items plan (origin image) now → Served rules.limits items other (origin image) now
says_now rules image items plan other now says served = says.same (origin image) now (served_same rules.limits items plan (origin image)) served (served_same rules.limits items plan now)

-- so checkpoints are chained under it
pub chained_as : (rules : Rules) (image : Image) (items : List Item) (plan other : List Override) (now later : Path) (ring : List Path) → SaysAs rules image items plan other now → Served rules.limits items plan later now
    → AreChained rules.limits items plan image later ring → AreChained rules.limits items other image later ring
chained_as rules image items plan other now later [] says on chain = says.same (origin image) later (served_same rules.limits items plan (origin image)) chain on
chained_as rules image items plan other now later (newest ∷ older) says on chain = (
  says.same newest later (chained_from rules.limits items plan image newest older chain.1) chain.0 on,
  chained_as rules image items plan other now newest older says (served_on rules.limits items plan newest later now chain.0 on) chain.1,
)

module _ (rules : Rules) (entries : List Entry) (what : Before) (same : what.events ≡ events_of rules.bounds entries) where
  -- a run can go on still
  can_go_after : (path : Path) → CanGoOn rules entries path → CanGoOn (rules_after rules what) [] path
  can_go_after path goes =
      let to = same_heeded rules entries what same in
      record {
        bounded = goes.bounded;
        within = λ conn may. ap (opens conn) to ∙ goes.within conn may;
        opened = λ conn none. goes.opened conn (sym (ap (opens conn) to) ∙ none);
        timed = goes.timed;
        sendable = goes.sendable;
      }

-- and log and ledger have kept what comes after each checkpoint
kept_after : (rules : Rules) (entries : List Entry) (what : Before) (same : what.events ≡ events_of rules.bounds entries) (log : Log) (ledger : Ledger) (ring : List Path) → AreKept rules entries log ledger ring → AreKept (rules_after rules what) [] log ledger ring
kept_after rules entries what same log ledger [] are = tt
kept_after rules entries what same log ledger (newest ∷ older) are = (
  record { lives = are.0.lives; goes = can_go_after rules entries what same newest are.0.goes; items = are.0.items; sends = are.0.sends },
  kept_after rules entries what same log ledger older are.1,
)

module _ {R : Type 0} where
  pub ring_after : (rules : Rules) (image : Image) (entries : List Entry) (what : Before) (plan other : List Override) (now : Path) (ring : List Path) (cpu : CpuState R) (log : Log) (ledger : Ledger) → what.events ≡ events_of rules.bounds entries
      → SaysAs rules image (items_in rules.bounds entries) plan other now → KeepsRing rules image entries plan now ring cpu log ledger → KeepsRing (rules_after rules what) image [] other now ring cpu log ledger
  ring_after rules image entries what plan other now ring cpu log ledger same says k =
      let items : List Item = items_in rules.bounds entries in
      let to : items ≡ items_in (rules_after rules what).bounds [] = sym (same_items rules entries what same) in
      record {
        some = k.some;
        chained =
            subst (λ (its : List Item). AreChained rules.limits its other image now ring) to
            (chained_as rules image items plan other now now ring says (served_same rules.limits items plan now) k.chained);
        are = k.are;
        kept = kept_after rules entries what same log ledger ring k.kept;
        saved = k.saved;
        newest = k.newest;
        window = k.window;
        wrote = subst (λ (its : List Item). IfSome (slice_get ring 0) (λ (newest : Path). Writes rules.limits its cpu.base newest (replicate cpu.slots.pages false) now cpu.written)) to k.wrote;
      }

-- The run that stands there emits what clients have, in time, under the other plan too.
pub carries_after : (rules : Rules) (image : Image) (entries : List Entry) (what : Before) (plan other : List Override) (now : Path) (counts : List (ℕ × ℕ)) → what.events ≡ events_of rules.bounds entries → what.had ≡ held counts now.state.sends
    → SaysAs rules image (items_in rules.bounds entries) plan other now → Served rules.limits (items_in rules.bounds entries) plan (origin image) now → now.state.machine.taken ≤ received rules.bounds entries → AreBetween 0 now.state.machine.taken now.state.sends
    → Carries (rules_after rules what) image [] other now
carries_after rules image entries what plan other now counts same had says served few timed =
    let items : List Item = items_in rules.bounds entries in
    let to : items ≡ items_in (rules_after rules what).bounds [] = sym (same_items rules entries what same) in
    let passed : held counts now.state.sends ≡ passed_in (rules_after rules what).bounds [] = sym (only_had rules what ∙ had) in
    let in_time = held_is_in_time counts now.state in
    record {
      served = subst (λ (its : List Item). Served rules.limits its other (origin image) now) to (says_now rules image items plan other now says served);
      taken = subst (λ (its : List Item). now.state.machine.taken ≤ length its) to few;
      covers = subst (λ (sends : List Send). Covers sends now.state) passed in_time.0;
      feasible = subst (λ (sends : List Send). IsFeasible sends now.state) passed in_time.1;
      ordered =
          subst (λ (its : List Item). AreInOrder (length its) (passed_in (rules_after rules what).bounds [])) to
          (subst (AreInOrder (length items)) passed (in_order_wider now.state.machine.taken (length items) (held counts now.state.sends) few (held_is_in_order rules.limits items plan image now counts served)));
      timed = timed;
    }
