-- A settle, and the close of a connection: what is made owed, and that it was passed.
use Rattle.links.specs.declared.journal.Entry.TheVariants as entry
use Rattle.links.specs.declared.journal.LinkEvent.TheVariants as event
use Rattle.session_state.proofs.Terms.{List, None, Option, Some, [], ap, arith, false, inr, refl, subst, sym, true, ℕ, ◌++◌, ◌∙◌, ◌∷◌, ◌≡◌, ◌≤◌, ◌&&◌, Send, Told, Ledger, next_part, rest_part, Image, AreFronts, IsClosing, IsReady, Bounds, events_of, heeded, received, KeepsReplies, Rules, is_closed_by, is_closing, closes, is_gone, is_open, IsDueBy, IsMadeDue, IsPassed, Latest, Moment, Stands, journal, latest, place_at, received_before, AreBetween, passed_in, no_rest, nothing_waits, IsLatestDone, IsTold, Since, Story, entries, moment, sends, then_story}
use Rattle.session_state.proofs.events.ArmLemmas.{latest_story}

-- a send that stands among sends was made with no more items than the last ones
pub between_at : (low : ℕ) {high : ℕ} (front back : List Send) (send : Send) → AreBetween low high (front ++ send ∷ back) → send.taken ≤ high
between_at low [] back send all = all.1
between_at low (first ∷ front) back send all = between_at low front back send all.2

pub made_by : {rules : Rules} {image : Image} {began : Since} {now : Told} {story : Story} → IsTold rules image began now story → (send : Send) → Stands (sends story) send → send.taken ≤ story.survivor.now.state.machine.taken
made_by {story = story} told send stands =
    between_at 0 stands.earlier stands.later send (subst (AreBetween 0 story.survivor.now.state.machine.taken) stands.split told.serving.carries.timed)

-- each connection was passed a front of what was sent to it
pub fronts_of : {rules : Rules} {image : Image} {began : Since} {now : Told} {story : Story} → IsTold rules image began now story → AreFronts (passed_in rules.bounds (entries story)) (sends story)
fronts_of told = told.serving.carries.covers

-- where no connection closes, what a close makes owed was passed
none_closes : (bounds : Bounds) (at : Moment) {o : Option Latest} (conn : ℕ) → latest at.since ≡ o → ((c : ℕ) → is_closed_by o c ≡ false) → is_closing bounds at conn ≡ true → ⊥
none_closes bounds at conn is never closing =
    let nothing : false ≡ true = sym (ap (λ b. b && closes conn (heeded bounds (events_of bounds (journal at)))) (ap (λ l. is_closed_by l conn) is ∙ never conn)) ∙ closing in
    cc

-- A settle was heard: all that was sent to open connections is owed.
pub settle_ready : {rules : Rules} {image : Image} {began : Since} {now : Told} (story : Story) {until : ℕ} {ledger : Ledger} → IsTold rules image began now (then_story story (entry.Took event.Settles ∷ [])) → story.survivor.now.state.machine.taken ≤ received rules.bounds (entries story)
    → KeepsReplies rules.bounds (entries (then_story story (entry.Took event.Settles ∷ []))) None (sends story) ledger → IsReady rules (sends story) (moment (then_story story (entry.Took event.Settles ∷ []))) until ledger
settle_ready {rules = rules} story told low replies =
    let after : Story = then_story story (entry.Took event.Settles ∷ []) in
    let is : latest (moment after).since ≡ Some (record { before = story.since; event = event.Settles }) = latest_story story tt in
    record {
      keeps = replies;
      fronts = fronts_of told;
      owed = λ send stands still early.
          inr (subst (IsDueBy rules.bounds (place_at (moment after)) send.conn send.taken) (sym is) (still, omega (arith, made_by told send stands, low)));
      closed = λ send stands closing owed. absurd (none_closes rules.bounds (moment after) send.conn is (λ c. refl) closing);
    }

-- where all that was sent to open connections was passed, so was what is due
pub all_due : {rules : Rules} {image : Image} {began : Since} {now : Told} {story : Story} {until : ℕ} {ledger : Ledger} → IsTold rules image began now story → story.survivor.now.state.machine.taken ≤ until
    → KeepsReplies rules.bounds (entries story) None (sends story) ledger → next_part ledger until ≡ None → (send : Send) (stands : Stands (sends story) send) → is_open rules.bounds (entries story) send.conn ≡ true
    → IsPassed rules.bounds (entries story) (sends story) send stands
all_due {rules = rules} {story = story} {until = until} {ledger = ledger} told low replies none send stands still =
    nothing_waits rules.bounds (entries story) (sends story) ledger until replies (fronts_of told) none send stands still (omega (arith, made_by told send stands, low))

-- where the latest event is a settle, what it makes owed is owed to open connections
pub settle_done : (rules : Rules) (story : Story) {last : Latest} → latest (moment story).since ≡ Some last → last.event ≡ event.Settles
    → ((send : Send) (stands : Stands (sends story) send) → is_open rules.bounds (entries story) send.conn ≡ true → IsPassed rules.bounds (entries story) (sends story) send stands) → IsLatestDone rules (moment story) (sends story)
settle_done rules story {last = last} is settles all send stands due =
    let made : IsMadeDue rules.bounds (place_at (moment story)) send.conn send.taken last.event (received_before rules.bounds (place_at (moment story)) last) = subst (IsDueBy rules.bounds (place_at (moment story)) send.conn send.taken) is due in
    let open_still : IsMadeDue rules.bounds (place_at (moment story)) send.conn send.taken event.Settles (received_before rules.bounds (place_at (moment story)) last) =
    subst (λ e. IsMadeDue rules.bounds (place_at (moment story)) send.conn send.taken e (received_before rules.bounds (place_at (moment story)) last)) settles made in
    all send stands open_still.0

-- A close was heard: all that was sent to its connection is owed, unless it is gone.
pub close_ready : {rules : Rules} {image : Image} {began : Since} {now : Told} (story : Story) {conn : ℕ} {ledger : Ledger} → IsTold rules image began now (then_story story (entry.Took (event.Closes conn) ∷ [])) → story.survivor.now.state.machine.taken ≤ received rules.bounds (entries story)
    → closes conn (heeded rules.bounds (events_of rules.bounds (entries (then_story story (entry.Took (event.Closes conn) ∷ []))))) ≡ true
    → KeepsReplies rules.bounds (entries (then_story story (entry.Took (event.Closes conn) ∷ []))) (Some conn) (sends story) ledger → IsClosing rules (sends story) (moment (then_story story (entry.Took (event.Closes conn) ∷ []))) conn ledger
close_ready {rules = rules} story {conn = conn} told low closed replies =
    let after : Story = then_story story (entry.Took (event.Closes conn) ∷ []) in
    let is : latest (moment after).since ≡ Some (record { before = story.since; event = event.Closes conn }) = latest_story story tt in
    record {
      keeps = replies;
      fronts = fronts_of told;
      closed = closed;
      last = record { before = story.since; event = event.Closes conn };
      is_last = is;
      closes = refl;
      owed = λ send stands to still.
          let few = made_by told send stands in
          inr (subst (IsDueBy rules.bounds (place_at (moment after)) send.conn send.taken) (sym is)
          (sym to, subst (λ c. closes c (heeded rules.bounds (events_of rules.bounds (entries after))) ≡ true) (sym to) closed, subst (λ c. is_gone c (entries after) ≡ false) (sym to) still, omega (arith, few, low)));
    }

-- it was passed: the ledger marks the connection closed, and what the close makes owed is done
pub close_done : {rules : Rules} {image : Image} {began : Since} {now : Told} {story : Story} {last : Latest} {conn : ℕ} {ledger : Ledger} → IsTold rules image began now story → latest (moment story).since ≡ Some last → last.event ≡ event.Closes conn
    → KeepsReplies rules.bounds (entries story) (Some conn) (sends story) ledger → (is_gone conn (entries story) ≡ false → rest_part ledger conn ≡ None) → IsLatestDone rules (moment story) (sends story)
close_done {rules = rules} {story = story} {last = last} {conn = conn} {ledger = ledger} told is closed replies none send stands due =
    let made : IsMadeDue rules.bounds (place_at (moment story)) send.conn send.taken last.event (received_before rules.bounds (place_at (moment story)) last) = subst (IsDueBy rules.bounds (place_at (moment story)) send.conn send.taken) is due in
    let by : IsMadeDue rules.bounds (place_at (moment story)) send.conn send.taken (event.Closes conn) (received_before rules.bounds (place_at (moment story)) last) =
    subst (λ e. IsMadeDue rules.bounds (place_at (moment story)) send.conn send.taken e (received_before rules.bounds (place_at (moment story)) last)) closed made in
    let still : is_gone conn (entries story) ≡ false = ap (λ c. is_gone c (entries story)) by.0 ∙ by.2 in
    no_rest rules.bounds (entries story) (sends story) ledger conn replies (fronts_of told) still (none still) send stands (sym by.0)
