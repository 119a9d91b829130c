-- What stays of a story behind pieces that were given.
use Rattle.links.specs.declared.journal.Entry.TheVariants as entry
use Rattle.session_state.proofs.Terms.{Bool, List, [], ap, append-nil, append_assoc, false, refl, subst, sym, ℕ, ◌++◌, ◌∙◌, ◌∷◌, ◌≡◌, Send, Entry, LinkEvent, Log, events_in-given, AreGiven, then_entries, Bounds, events_of, heeded, KeepsItems, Rules, entries_of, then_entry, closes, is_gone, is_open, IsDueBy, Moment, journal, latest, place_at, closes-gave, due_by, due_not_gone, is_closing-gave, is_open-same, journal-then, latest-gave, not_gone, passed_then, IsCloseDone, IsLatestDone, Story, entries, then_story}

-- what the latest event makes owed behind a piece, it made owed before it
due_before : (bounds : Bounds) (at : Moment) (conn : ℕ) (bytes : List ℕ) (gone : Bool) (to taken : ℕ) → IsDueBy bounds (place_at (then_entry at (entry.Gave conn bytes gone))) to taken (latest (then_entry at (entry.Gave conn bytes gone)).since)
    → IsDueBy bounds (place_at at) to taken (latest at.since)
due_before bounds at conn bytes gone to taken due =
    let e : Entry = entry.Gave conn bytes gone in
    let same : journal (then_entry at e) ≡ journal at ++ e ∷ [] = journal-then at e in
    let here : is_gone to (journal at ++ e ∷ []) ≡ false = sym (ap (is_gone to) same) ∙ (due_not_gone bounds (then_entry at e) to taken (latest (then_entry at e).since) due) in
    subst (IsDueBy bounds (place_at at) to taken) (latest-gave at.since conn bytes gone)
    (due_by bounds (then_entry at e) at to taken (latest (then_entry at e).since) refl (sym (ap (λ (es : List Entry). is_open bounds es to) same ∙ is_open-same bounds (journal at) conn bytes gone to here))
    (sym (ap (λ (es : List Entry). closes to (heeded bounds (events_of bounds es))) same ∙ closes-gave bounds (journal at) conn bytes gone to)) (not_gone (journal at) conn bytes gone to here) due)

-- behind one piece
done_piece : (rules : Rules) {all : List Send} (at : Moment) (conn : ℕ) (bytes : List ℕ) (gone : Bool) → IsLatestDone rules at all → IsLatestDone rules (then_entry at (entry.Gave conn bytes gone)) all
done_piece rules {all = all} at conn bytes gone done send stands due =
    passed_then rules.bounds at conn bytes gone all send stands (done send stands (due_before rules.bounds at conn bytes gone send.conn send.taken due))

closed_piece : (rules : Rules) {all : List Send} (at : Moment) (conn : ℕ) (bytes : List ℕ) (gone : Bool) → IsCloseDone rules at all → IsCloseDone rules (then_entry at (entry.Gave conn bytes gone)) all
closed_piece rules {all = all} at conn bytes gone done send stands closing due =
    passed_then rules.bounds at conn bytes gone all send stands
    (done send stands (sym (is_closing-gave rules.bounds at conn bytes gone send.conn) ∙ closing) (due_before rules.bounds at conn bytes gone send.conn send.taken due))

-- a moment with the entries of two lists, one behind the other
two_steps : (P : Moment → Type 0) (at : Moment) (e : Entry) (more : List Entry) → P (then_entries (then_entry at e) more) → P (then_entries at (e ∷ more))
two_steps P at e more h = subst (λ (since : List Entry). P (record at { since = since })) (append_assoc at.since (e ∷ []) more) h

-- what the latest event makes owed was passed, and stays so
pub done_given : (rules : Rules) {all : List Send} (at : Moment) (more : List Entry) → AreGiven more → IsLatestDone rules at all → IsLatestDone rules (then_entries at more) all
done_given rules {all = all} at [] given done = subst (λ (since : List Entry). IsLatestDone rules (record at { since = since }) all) (sym (append-nil at.since)) done
done_given rules {all = all} at (entry.Gave conn bytes gone ∷ more) given done =
    two_steps (λ (m : Moment). IsLatestDone rules m all) at (entry.Gave conn bytes gone) more (done_given rules (then_entry at (entry.Gave conn bytes gone)) more given (done_piece rules at conn bytes gone done))
done_given rules at (entry.Took event ∷ more) given done = absurd given

pub closed_given : (rules : Rules) {all : List Send} (at : Moment) (more : List Entry) → AreGiven more → IsCloseDone rules at all → IsCloseDone rules (then_entries at more) all
closed_given rules {all = all} at [] given done = subst (λ (since : List Entry). IsCloseDone rules (record at { since = since }) all) (sym (append-nil at.since)) done
closed_given rules {all = all} at (entry.Gave conn bytes gone ∷ more) given done =
    two_steps (λ (m : Moment). IsCloseDone rules m all) at (entry.Gave conn bytes gone) more (closed_given rules (then_entry at (entry.Gave conn bytes gone)) more given (closed_piece rules at conn bytes gone done))
closed_given rules at (entry.Took event ∷ more) given done = absurd given

-- the latest event stays
pub latest-given : (since more : List Entry) → AreGiven more → latest (since ++ more) ≡ latest since
latest-given since [] given = ap latest (append-nil since)
latest-given since (entry.Gave conn bytes gone ∷ more) given =
    ap latest (sym (append_assoc since (entry.Gave conn bytes gone ∷ []) more)) ∙ (latest-given (since ++ entry.Gave conn bytes gone ∷ []) more given ∙ latest-gave since conn bytes gone)
latest-given since (entry.Took event ∷ more) given = absurd given

-- items and phases are told by the events
pub items_by : {bounds : Bounds} {before after : List Entry} {log : Log} → events_of bounds after ≡ events_of bounds before → KeepsItems bounds before log → KeepsItems bounds after log
items_by {bounds = bounds} {log = log} same keeps = record {
  all_heeded = ap (heeded bounds) same ∙ (keeps.all_heeded ∙ sym same);
  shows = subst (λ events. Rattle.item_log.specs.Log.Shows bounds.framing events log) (sym same) keeps.shows;
  most = keeps.most;
}

-- the events of a story with pieces behind it
pub events_of-story : (bounds : Bounds) (story : Story) (more : List Entry) → AreGiven more → events_of bounds (entries (then_story story more)) ≡ events_of bounds (entries story)
events_of-story bounds story more given =
    ap (events_of bounds) (sym (append_assoc (entries_of story.earlier) story.since more)) ∙ ap (λ (es : List LinkEvent). bounds.before.events ++ es) (events_in-given (entries story) more given)
