-- When a session owes bytes that its survivor sent.
use Rattle.std.specs.Prelude.{◌≡◌, ℕ, ◌+◌, ◌≤◌, List, [], ◌∷◌, ◌++◌, Bool, true, false, Option, None, Some, option_map, unwrap_or, ◌⊎◌}
use Rattle.links.specs.declared.journal.Entry.TheVariants as entry
use Rattle.links.specs.declared.journal.LinkEvent.TheVariants as event
use Rattle.session_history.specs.Terms.{Prefix, Send, sent_to, Entry, LinkEvent}
use Rattle.session_history.specs.Heeding.{Bounds, events_of, heeded, received}
use Rattle.session_history.specs.Opened.{closes, is_open, is_gone}
use Rattle.session_history.specs.Passing.{passed_in}

-- the last event of some entries, and the entries before it. Ends is none
pub record Latest : Type 0 where
  pub before : List Entry
  pub event : LinkEvent

abbrev pub behind : Entry → Latest → Latest
behind entry latest = record latest { before = entry ∷ latest.before }

abbrev pub latest : List Entry → Option Latest
latest [] = None
latest (entry.Gave conn bytes gone ∷ entries) = option_map (behind (entry.Gave conn bytes gone)) (latest entries)
latest (entry.Took event.Ends ∷ entries) = option_map (behind (entry.Took event.Ends)) (latest entries)
latest (entry.Took event ∷ entries) = Some (unwrap_or (option_map (behind (entry.Took event)) (latest entries)) (record { before = []; event = event }))

-- A place in a session's journal: what stood before the survivor was adopted, what came since, and whether the session has
-- come to its end.
pub record Place : Type 0 where
  pub start : List Entry
  pub since : List Entry
  pub at_end : Bool

-- A moment of a session: its place, and how many items the survivor has taken there.
pub record Moment : Type 0 where
  pub start : List Entry
  pub since : List Entry
  pub at_end : Bool
  pub taken : ℕ

-- a place, seen by a survivor that has taken so many items; and the place of a moment
abbrev pub moment_at : Place → ℕ → Moment
moment_at place taken = record { start = place.start; since = place.since; at_end = place.at_end; taken = taken }

abbrev pub place_at : Moment → Place
place_at moment = record { start = moment.start; since = moment.since; at_end = moment.at_end }

abbrev pub journal_at : Place → List Entry
journal_at place = place.start ++ place.since

abbrev pub journal : Moment → List Entry
journal moment = moment.start ++ moment.since

-- how many items were received before an event since the survivor was adopted
abbrev pub received_before : Bounds → Place → Latest → ℕ
received_before bounds place latest = received bounds (place.start ++ latest.before)

-- an event makes owed what was sent with no more items taken than were received before it: a settle to each open connection,
-- and a close that is heeded to its own, unless a piece found it gone
abbrev pub IsMadeDue : Bounds → Place → ℕ → ℕ → LinkEvent → ℕ → Type 0
IsMadeDue bounds place conn taken event.Settles before = (is_open bounds (journal_at place) conn ≡ true) × (taken ≤ before)
IsMadeDue bounds place conn taken (event.Closes closed) before = (closed ≡ conn) × (closes conn (heeded bounds (events_of bounds (journal_at place))) ≡ true) × (is_gone conn (journal_at place) ≡ false) × (taken ≤ before)
IsMadeDue bounds place conn taken (event.Opens opened) before = ⊥
IsMadeDue bounds place conn taken (event.Piece to bytes) before = ⊥
IsMadeDue bounds place conn taken event.Ends before = ⊥

abbrev pub IsDueBy : Bounds → Place → ℕ → ℕ → Option Latest → Type 0
IsDueBy bounds place conn taken None = ⊥
IsDueBy bounds place conn taken (Some latest) = IsMadeDue bounds place conn taken latest.event (received_before bounds place latest)

-- Bytes that the survivor sent to a connection with so many items taken are owed: the connection is open, and the survivor has
-- taken so many more items as are held back, or the session has come to its end; or the last event makes them owed.
abbrev pub IsOwed : Bounds → ℕ → Moment → Send → Type 0
IsOwed bounds hold moment send =
    ((is_open bounds (journal moment) send.conn ≡ true) × ((send.taken + hold ≤ moment.taken) ⊎ (moment.at_end ≡ true)))
    ⊎ IsDueBy bounds (place_at moment) send.conn send.taken (latest moment.since)

-- where a send stands among those of a run
pub record Stands (sends : List Send) (send : Send) : Type 0 where
  pub earlier : List Send
  pub later : List Send
  pub split : sends ≡ earlier ++ send ∷ later

-- a send was passed, with all that was sent to its connection before it
abbrev pub IsPassed : Bounds → List Entry → (sends : List Send) → (send : Send) → Stands sends send → Type 0
IsPassed bounds entries sends send stands = Prefix (sent_to send.conn (stands.earlier ++ send ∷ [])) (sent_to send.conn (passed_in bounds entries))

-- all that is owed of some sends was passed
abbrev pub OwesNothing : Bounds → ℕ → Moment → List Send → Type 0
OwesNothing bounds hold moment sends =
    (send : Send) (stands : Stands sends send) → IsOwed bounds hold moment send → IsPassed bounds (journal moment) sends send stands
