-- Pieces that a session gives one after another, each when it is due.
use Rattle.std.specs.Prelude.{◌≢◌, ◌≡◌, ℕ, ◌≤◌, List, [], ◌∷◌, ◌++◌, true, false, None, Some, Result, Ok, Err}
use Rattle.links.specs.declared.journal.Entry.TheVariants as entry
use Rattle.links.specs.declared.journal.LinkEvent.TheVariants as event
use Rattle.reply_ledger.specs.Parts.{next_part, rest_part}
use Rattle.session_history.specs.Terms.{Prefix, Send, sent_to, Entry, Tells, TellsHanded, Told, cut_entries, Seen, Ledger}
use Rattle.session_history.specs.Heeding.{events_of, heeded}
use Rattle.session_history.specs.Opened.{closes, is_open, is_gone}
use Rattle.session_history.specs.Passing.{passed_in}
use Rattle.session_history.specs.Owing.{Moment, journal, Latest, latest, Stands, IsOwed, IsPassed}
use Rattle.session_history.specs.Lawful.{Rules, is_closing, IsDuePiece, IsWholePiece, then_entry}
use Rattle.session_history.specs.Account.{IsBroken}
use Rattle.session_history.specs.Keeping.{KeepsReplies}

-- each of some entries is a piece
abbrev pub AreGiven : List Entry → Type 0
AreGiven [] = Unit {0}
AreGiven (entry.Gave conn bytes gone ∷ more) = AreGiven more
AreGiven (entry.Took event ∷ more) = ⊥

-- each of some entries is a piece that is due at its moment: all of what is left of its send, or a part where the connection is gone
abbrev pub AreDuePieces : Rules → List Send → Moment → List Entry → Type 0
AreDuePieces rules sends moment [] = Unit {0}
AreDuePieces rules sends moment (entry.Gave conn bytes false ∷ entries) =
    IsWholePiece rules sends moment conn bytes × AreDuePieces rules sends (then_entry moment (entry.Gave conn bytes false)) entries
AreDuePieces rules sends moment (entry.Gave conn bytes true ∷ entries) =
    IsDuePiece rules sends moment conn bytes × AreDuePieces rules sends (then_entry moment (entry.Gave conn bytes true)) entries
AreDuePieces rules sends moment (entry.Took event ∷ entries) = ⊥

-- A link that gives no more was handed all that was left of one send that was due, if it tells that; and some first bytes of it went out,
-- perhaps none, perhaps all.
pub record HasHanded (rules : Rules) (sends : List Send) (moment : Moment) (broken : List Entry) (seen : Seen) : Type 0 where
  pub conn : ℕ
  pub bytes : List ℕ
  pub whole : IsWholePiece rules sends moment conn bytes
  pub front : List ℕ
  pub first : Prefix front bytes
  pub broken_is : broken ≡ cut_entries conn front
  pub handed : TellsHanded seen.told seen.handed conn bytes

-- a moment with more entries behind it
abbrev pub then_entries : Moment → List Entry → Moment
then_entries moment entries = record moment { since = moment.since ++ entries }

-- what was sent to open connections with so many items taken, or fewer, is owed
abbrev pub AreOwedUntil : Rules → Moment → ℕ → List Send → Type 0
AreOwedUntil rules moment until sends =
    (send : Send) → Stands sends send → is_open rules.bounds (journal moment) send.conn ≡ true → send.taken ≤ until → IsOwed rules.bounds rules.hold moment send

-- what is owed to a connection by its close, the last event, was passed
abbrev pub IsClosePassed : Rules → Moment → List Send → Type 0
IsClosePassed rules moment sends =
    (send : Send) (stands : Stands sends send) → is_closing rules.bounds moment send.conn ≡ true → IsOwed rules.bounds rules.hold moment send → IsPassed rules.bounds (journal moment) sends send stands

-- each connection was passed some first bytes of what was sent to it, or all
abbrev pub AreFronts : List Send → List Send → Type 0
AreFronts pieces sends = (conn : ℕ) → Prefix (sent_to conn pieces) (sent_to conn sends)

-- a ledger is ready to pass what was sent with so many items taken, or fewer
pub record IsReady (rules : Rules) (sends : List Send) (moment : Moment) (until : ℕ) (ledger : Ledger) : Type 0 where
  pub keeps : KeepsReplies rules.bounds (journal moment) None sends ledger
  pub fronts : AreFronts (passed_in rules.bounds (journal moment)) sends
  pub owed : AreOwedUntil rules moment until sends
  pub closed : IsClosePassed rules moment sends

-- the close of a connection was just heard, and heeded, and all that was sent to it is owed
pub record IsClosing (rules : Rules) (sends : List Send) (moment : Moment) (conn : ℕ) (ledger : Ledger) : Type 0 where
  pub keeps : KeepsReplies rules.bounds (journal moment) (Some conn) sends ledger
  pub fronts : AreFronts (passed_in rules.bounds (journal moment)) sends
  pub closed : closes conn (heeded rules.bounds (events_of rules.bounds (journal moment))) ≡ true
  pub last : Latest
  pub is_last : latest moment.since ≡ Some last
  pub closes : last.event ≡ event.Closes conn
  pub owed : (send : Send) → Stands sends send → send.conn ≡ conn → is_gone conn (journal moment) ≡ false → IsOwed rules.bounds rules.hold moment send

module _ {E : Type 0} where
  -- What was passed, by the answer: pieces that were due, up to where nothing is left; or, after a fault, some of them, and perhaps
  -- a first part of one more, which the link was handed whole.
  abbrev pub PassesBy : Rules → List Send → Moment → (List Entry → Type 0) → Told → Seen → Result (Unit {0}) E → Type 0
  PassesBy rules sends moment IsDone old new (Ok done) = (more : List Entry) × AreDuePieces rules sends moment more × Tells old new.told more × IsDone more
  PassesBy rules sends moment IsDone old new (Err fault) =
      (more : List Entry) × (broken : List Entry) × AreDuePieces rules sends moment more × IsBroken rules sends (then_entries moment more) broken × Tells old new.told (more ++ broken)
      × (new.gives ≡ false → HasHanded rules sends (then_entries moment more) broken new) × (broken ≢ [] → new.gives ≡ false)

  -- all that was sent with so many items taken, or fewer, was passed
  abbrev pub Passes : Rules → List Send → Moment → ℕ → Ledger → Told → Seen → Result (Unit {0}) E → Type 0
  Passes rules sends moment until ledger old new result =
      PassesBy rules sends moment (λ more. KeepsReplies rules.bounds (journal moment ++ more) None sends ledger × (next_part ledger until ≡ None)) old new result

  -- all that was sent to a closing connection was passed, or it is gone
  abbrev pub PassesRest : Rules → List Send → Moment → ℕ → Ledger → Told → Seen → Result (Unit {0}) E → Type 0
  PassesRest rules sends moment conn ledger old new result =
      PassesBy rules sends moment
      (λ more. KeepsReplies rules.bounds (journal moment ++ more) (Some conn) sends ledger × (is_gone conn (journal moment ++ more) ≡ false → rest_part ledger conn ≡ None)) old new result
