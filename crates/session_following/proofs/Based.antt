-- A session that has just begun, with all before it that another one's journal brought: it has the same items, and knows the same of its connections.
use Rattle.item_log.specs.Log as logs
use Rattle.session_following.proofs.Terms.{List, None, [], ap, append-nil, false, length, not, subst, sym, take, ℕ, ◌∙◌, ◌≡◌, ◌≤◌, true≢false, ◌&&◌, Item, Send, sent_to, Entry, LinkEvent, Phases, Log, Ledger, Shows, Image, Override, Path, Served, origin, heeded-alike, items_in-alike, Before, events_of, heeded, items_in, KeepsItems, KeepsPhases, KeepsReplies, phase_after, Rules, closes, is_gone, is_open, opens, passed_in, rules_after}

module _ (rules : Rules) (entries : List Entry) (what : Before) (same : what.events ≡ events_of rules.bounds entries) where
  pub same_events : events_of (rules_after rules what).bounds [] ≡ events_of rules.bounds entries
  same_events = append-nil what.events ∙ same

  pub same_heeded : heeded (rules_after rules what).bounds (events_of (rules_after rules what).bounds []) ≡ heeded rules.bounds (events_of rules.bounds entries)
  same_heeded = heeded-alike rules.bounds what entries [] (append-nil what.events ∙ same)

  pub same_items : items_in (rules_after rules what).bounds [] ≡ items_in rules.bounds entries
  same_items = items_in-alike rules.bounds what entries [] (append-nil what.events ∙ same)

  pub same_open : ((conn : ℕ) → is_gone conn entries ≡ false) → (conn : ℕ) → is_open (rules_after rules what).bounds [] conn ≡ is_open rules.bounds entries conn
  same_open none conn =
      let to = heeded-alike rules.bounds what entries [] (append-nil what.events ∙ same) in
      λ i. opens conn (to i) && not (closes conn (to i)) && not (sym (none conn) i)

-- nothing was passed yet but what was before
pub only_had : (rules : Rules) (what : Before) → passed_in (rules_after rules what).bounds [] ≡ what.had
only_had rules what = append-nil what.had

pub items_after : (rules : Rules) (entries : List Entry) (what : Before) {log : Log} → what.events ≡ events_of rules.bounds entries → KeepsItems rules.bounds entries log → KeepsItems (rules_after rules what).bounds [] log
items_after rules entries what {log = log} same keeps = record {
  all_heeded = same_heeded rules entries what same ∙ (keeps.all_heeded ∙ sym (same_events rules entries what same));
  shows = subst (λ (events : List LinkEvent). logs.Shows rules.bounds.framing events log) (sym (same_events rules entries what same)) keeps.shows;
  most = keeps.most;
}

pub phases_after_all : (rules : Rules) (entries : List Entry) (what : Before) {phases : Phases} → what.events ≡ events_of rules.bounds entries → KeepsPhases rules.bounds entries phases → KeepsPhases (rules_after rules what).bounds [] phases
phases_after_all rules entries what same knows conn = knows conn ∙ ap (phase_after conn) (sym (same_events rules entries what same))

-- a ledger beside the journal of a session to which no connection was gone is one beside an empty journal, with what was passed before it
pub replies_after : (rules : Rules) (entries : List Entry) (what : Before) {sends : List Send} {ledger : Ledger} → what.events ≡ events_of rules.bounds entries → what.had ≡ passed_in rules.bounds entries → ((conn : ℕ) → is_gone conn entries ≡ false)
    → KeepsReplies rules.bounds entries None sends ledger → KeepsReplies (rules_after rules what).bounds [] None sends ledger
replies_after rules entries what {sends = sends} {ledger = ledger} same had none keeps =
    let passed : passed_in (rules_after rules what).bounds [] ≡ passed_in rules.bounds entries = only_had rules what ∙ had in
    record {
      shows = subst (Shows ledger sends) (sym passed) keeps.shows;
      opened = λ conn. keeps.opened conn ∙ ap (opens conn) (sym (same_heeded rules entries what same));
      may = λ conn. keeps.may conn ∙ sym (same_open rules entries what same none conn);
      gone = λ conn is. absurd (true≢false (sym is));
      given_up = λ conn may.
          subst (λ (pieces : List Send). length (sent_to conn (take ledger.first sends)) ≤ length (sent_to conn pieces)) (sym passed)
          (keeps.given_up conn (sym (same_open rules entries what same none conn) ∙ may));
      sendable = keeps.sendable;
    }

-- Under two plans a run to where one stands is the same, from the start on.
pub record SaysAs (rules : Rules) (image : Image) (items : List Item) (plan other : List Override) (now : Path) : Type 0 where
  pub same : (x y : Path) → Served rules.limits items plan (origin image) x → Served rules.limits items plan x y → Served rules.limits items plan y now → Served rules.limits items other x y

pub says_itself : (rules : Rules) (image : Image) (items : List Item) (plan : List Override) (now : Path) → SaysAs rules image items plan plan now
says_itself rules image items plan now = record { same = λ x y first then last. then }
