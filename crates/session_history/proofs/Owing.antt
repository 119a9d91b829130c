-- What is owed, seen by a survivor that has taken more items; and where the latest event stands.
use Rattle.links.specs.declared.journal.Entry.TheVariants as entry
use Rattle.links.specs.declared.journal.LinkEvent.TheVariants as event
use Rattle.session_history.proofs.Terms.{List, None, Option, Some, [], ap, append-nil, append_assoc, arith, inl, inr, refl, subst, sym, ℕ, ◌++◌, ◌∷◌, ◌≡◌, ◌≤◌, none-some, same_Some, option_map, unwrap_or, Item, Send, Entry, LinkEvent, Bounds, IsOwed, Latest, Place, behind, latest, moment_at, AreDue, IsDue, Rules, Survivor, then_place}
use Rattle.session_history.proofs.Paths.{served_same}
use Rattle.session_history.proofs.Due.{behind_all, EachDue, each_due}

-- what is owed stays owed where more items were taken
pub owed_later : (bounds : Bounds) (hold : ℕ) (place : Place) (low high : ℕ) (send : Send) → low ≤ high → IsOwed bounds hold (moment_at place low) send → IsOwed bounds hold (moment_at place high) send
owed_later bounds hold place low high send less (inl (opened, inl enough)) = inl (opened, inl (omega (arith, enough, less)))
owed_later bounds hold place low high send less (inl (opened, inr ended)) = inl (opened, inr ended)
owed_later bounds hold place low high send less (inr due) = inr due

-- where the latest event stands
pub record StandsLast (entries : List Entry) (last : Latest) : Type 0 where
  pub after : List Entry
  pub split : entries ≡ last.before ++ entry.Took last.event ∷ after

last_behind : (first : Entry) (entries : List Entry) (found : Option Latest) (last : Latest) → ((l : Latest) → found ≡ Some l → StandsLast entries l) → option_map (behind first) found ≡ Some last → StandsLast (first ∷ entries) last
last_behind first entries None last stands is = absurd (none-some last is)
last_behind first entries (Some l) last stands is =
    let there = stands l refl in
    subst (StandsLast (first ∷ entries)) (same_Some (behind first l) last is) (record { after = there.after; split = ap (λ (es : List Entry). first ∷ es) there.split })

last_here : (e : LinkEvent) (entries : List Entry) (found : Option Latest) (last : Latest) → ((l : Latest) → found ≡ Some l → StandsLast entries l)
    → Some (unwrap_or (option_map (behind (entry.Took e)) found) (record { before = []; event = e })) ≡ Some last → StandsLast (entry.Took e ∷ entries) last
last_here e entries None last stands is = subst (StandsLast (entry.Took e ∷ entries)) (same_Some _ last is) (record { after = entries; split = refl })
last_here e entries (Some l) last stands is = last_behind (entry.Took e) entries (Some l) last stands is

pub latest_stands : (entries : List Entry) (last : Latest) → latest entries ≡ Some last → StandsLast entries last
latest_stands [] last is = absurd (none-some last is)
latest_stands (entry.Gave conn bytes gone ∷ entries) last is = last_behind (entry.Gave conn bytes gone) entries (latest entries) last (λ l h. latest_stands entries l h) is
latest_stands (entry.Took event.Ends ∷ entries) last is = last_behind (entry.Took event.Ends) entries (latest entries) last (λ l h. latest_stands entries l h) is
latest_stands (entry.Took (event.Opens conn) ∷ entries) last is = last_here (event.Opens conn) entries (latest entries) last (λ l h. latest_stands entries l h) is
latest_stands (entry.Took (event.Piece conn bytes) ∷ entries) last is = last_here (event.Piece conn bytes) entries (latest entries) last (λ l h. latest_stands entries l h) is
latest_stands (entry.Took (event.Closes conn) ∷ entries) last is = last_here (event.Closes conn) entries (latest entries) last (λ l h. latest_stands entries l h) is
latest_stands (entry.Took event.Settles ∷ entries) last is = last_here event.Settles entries (latest entries) last (λ l h. latest_stands entries l h) is

-- one of some entries that are due
due_among : (rules : Rules) (items : List Item) (survivor : Survivor) (place : Place) (front : List Entry) (e : Entry) (back : List Entry) → EachDue rules items survivor place (front ++ e ∷ back) → IsDue rules items survivor (behind_all place front) e
due_among rules items survivor place [] e back are = subst (λ since. IsDue rules items survivor (record place { since = since }) e) (sym (append-nil place.since)) are.0
due_among rules items survivor place (first ∷ front) e back are =
    subst (λ since. IsDue rules items survivor (record place { since = since }) e) (append_assoc place.since (first ∷ []) front) (due_among rules items survivor (then_place place first) front e back are.1)

pub due_at : (rules : Rules) (items : List Item) (survivor : Survivor) (place : Place) (front : List Entry) (e : Entry) (back : List Entry) → AreDue rules items survivor place (front ++ e ∷ back) → IsDue rules items survivor (behind_all place front) e
due_at rules items survivor place front e back are = due_among rules items survivor place front e back (each_due rules items survivor survivor.begun place (front ++ e ∷ back) (served_same rules.limits items survivor.plan survivor.begun) are)
