-- The journal of a session is lawful where each reply comes when it is owed, and no event comes before it is asked for. It is
-- told in chapters, one for each survivor: a chapter has the entries of its survivor's time.
use Rattle.std.specs.Prelude.{◌≡◌, ◌≢◌, ℕ, ◌+◌, ◌<◌, ◌≤◌, List, [], ◌∷◌, ◌++◌, length, Bool, true, false, Option, None, Some, ◌⊎◌, ◌==◌, ◌&&◌}
use Rattle.links.specs.declared.journal.Entry.TheVariants as entry
use Rattle.links.specs.declared.journal.LinkEvent.TheVariants as event
use Rattle.session_history.specs.Terms.{Item, Prefix, Send, sent_to, Entry, LinkEvent, AsksFor, Limits, Override, Path, Served}
use Rattle.session_history.specs.Heeding.{Bounds, events_of, heeded, received, AreHeeded}
use Rattle.session_history.specs.Opened.{closes}
use Rattle.session_history.specs.Passing.{passed_in}
use Rattle.session_history.specs.Owing.{Place, Moment, moment_at, journal, Latest, latest, IsOwed, IsPassed, OwesNothing, Stands}

-- what a session allows its guest and its link, and how many items more have to be received before a reply is passed
pub record Rules : Type 0 where
  pub limits : Limits
  pub bounds : Bounds
  pub hold : ℕ

-- a survivor: its plan, where it began, and where it stands
pub record Survivor : Type 0 where
  pub plan : List Override
  pub begun : Path
  pub now : Path

-- a run on the way to where the survivor stands
pub record OnTheWay (rules : Rules) (items : List Item) (survivor : Survivor) : Type 0 where
  pub path : Path
  pub from : Served rules.limits items survivor.plan survivor.begun path
  pub on : Served rules.limits items survivor.plan path survivor.now

-- Before an event the survivor stood at its request for the item that is received next, and owed nothing; and no event was refused, since
-- a session ends at the first one that is.
pub record IsDueEvent (rules : Rules) (plan : List Override) (path : Path) (moment : Moment) : Type 0 where
  pub asks : AsksFor rules.limits plan path (received rules.bounds (journal moment))
  pub owes_nothing : OwesNothing rules.bounds rules.hold moment path.state.sends
  pub heeded : AreHeeded rules.bounds (journal moment)

-- whether the last event closes a connection
abbrev pub is_close_of : ℕ → LinkEvent → Bool
is_close_of conn (event.Closes closed) = closed == conn
is_close_of conn (event.Opens opened) = false
is_close_of conn (event.Piece to bytes) = false
is_close_of conn event.Settles = false
is_close_of conn event.Ends = false

abbrev pub is_closed_by : Option Latest → ℕ → Bool
is_closed_by None conn = false
is_closed_by (Some latest) conn = is_close_of conn latest.event

-- whether a connection is closing: the last event closes it, and was heeded
abbrev pub is_closing : Bounds → Moment → ℕ → Bool
is_closing bounds moment conn = is_closed_by (latest moment.since) conn && closes conn (heeded bounds (events_of bounds (journal moment)))

-- of two sends of a run the first is passed before the second: those to a connection that closes go first, and else they keep
-- the order in which they were made
abbrev pub GoesBefore : Bounds → Moment → {sends : List Send} → {first second : Send} → Stands sends first → Stands sends second → Type 0
GoesBefore bounds moment {first = first} {second = second} one other =
    ((is_closing bounds moment first.conn ≡ true) × (is_closing bounds moment second.conn ≡ false))
    ⊎ ((is_closing bounds moment first.conn ≡ is_closing bounds moment second.conn) × (length one.earlier < length other.earlier))

-- A piece is some first bytes of what its connection wasn't passed of one send of the survivor: the send is owed, all before
-- it to its connection was passed, but not all of the send itself, and all was passed that is owed and goes before it.
pub record IsDuePiece (rules : Rules) (sends : List Send) (moment : Moment) (conn : ℕ) (bytes : List ℕ) : Type 0 where
  pub send : Send
  pub stands : Stands sends send
  pub to : send.conn ≡ conn
  pub owed : IsOwed rules.bounds rules.hold moment send
  pub behind : Prefix (sent_to conn stands.earlier) (sent_to conn (passed_in rules.bounds (journal moment)))
  pub left : sent_to conn (passed_in rules.bounds (journal moment)) ≢ sent_to conn (stands.earlier ++ send ∷ [])
  pub part : Prefix (sent_to conn (passed_in rules.bounds (journal moment)) ++ bytes) (sent_to conn (stands.earlier ++ send ∷ []))
  pub in_order : (other : Send) (of_other : Stands sends other) → GoesBefore rules.bounds moment of_other stands → IsOwed rules.bounds rules.hold moment other → IsPassed rules.bounds (journal moment) sends other of_other

-- with this piece a connection was passed all of the send: none of it is left
pub record IsWholePiece (rules : Rules) (sends : List Send) (moment : Moment) (conn : ℕ) (bytes : List ℕ) : Type 0 where
  pub due : IsDuePiece rules sends moment conn bytes
  pub whole : sent_to conn (passed_in rules.bounds (journal moment)) ++ bytes ≡ sent_to conn (due.stands.earlier ++ due.send ∷ [])

-- an entry is due where this run stands: where a connection is gone, a first part of its piece went out
abbrev pub IsDueAt : Rules → List Override → Path → Moment → Entry → Type 0
IsDueAt rules plan path moment (entry.Took event) = IsDueEvent rules plan path moment
IsDueAt rules plan path moment (entry.Gave conn bytes false) = IsWholePiece rules path.state.sends moment conn bytes
IsDueAt rules plan path moment (entry.Gave conn bytes true) = IsDuePiece rules path.state.sends moment conn bytes

-- an entry was due where the survivor stood when it came or went: with the items that it had taken there, of those received before
pub record IsDue (rules : Rules) (items : List Item) (survivor : Survivor) (place : Place) (entry : Entry) : Type 0 where
  pub way : OnTheWay rules items survivor
  pub early : way.path.state.machine.taken ≤ received rules.bounds (place.start ++ place.since)
  pub due : IsDueAt rules survivor.plan way.path (moment_at place way.path.state.machine.taken) entry

-- a moment with one more entry behind it
abbrev pub then_entry : Moment → Entry → Moment
then_entry moment entry = record moment { since = moment.since ++ entry ∷ [] }

-- a place behind one more entry
abbrev pub then_place : Place → Entry → Place
then_place place entry = record place { since = place.since ++ entry ∷ [] }

-- the survivor up to where it stood then, and from there on
abbrev pub gone_on : Survivor → Path → Survivor
gone_on survivor path = record survivor { now = path }

abbrev pub from_there : Survivor → Path → Survivor
from_there survivor path = record survivor { begun = path }

-- how many moves a run has made: items that it took, and sends
abbrev pub moves : Path → ℕ
moves path = path.state.machine.taken + length path.state.sends

-- A survivor went from where it began to where it stands now, and owed nothing at this place wherever it stood on the way with fewer moves made: so
-- it made no move while it owed something there.
pub record IsPrompt (rules : Rules) (items : List Item) (survivor : Survivor) (place : Place) : Type 0 where
  pub ran : Served rules.limits items survivor.plan survivor.begun survivor.now
  pub owed_nothing : (way : OnTheWay rules items survivor) → moves way.path < moves survivor.now → OwesNothing rules.bounds rules.hold (moment_at place way.path.state.machine.taken) way.path.state.sends

-- Each of some entries is due at its place, where the survivor stood no earlier than at the one before. From where it began to the first
-- one, from one to the next, and from the last to where it stands now it made no move while it owed something.
abbrev pub AreDue : Rules → List Item → Survivor → Place → List Entry → Type 0
AreDue rules items survivor place [] = IsPrompt rules items survivor place
AreDue rules items survivor place (entry ∷ entries) =
    (due : IsDue rules items survivor place entry) × IsPrompt rules items (gone_on survivor due.way.path) place × AreDue rules items (from_there survivor due.way.path) (then_place place entry) entries

-- a survivor and the entries of its time
pub record Chapter : Type 0 where
  pub survivor : Survivor
  pub entries : List Entry

-- the entries of some chapters, one chapter behind the other
abbrev pub entries_of : List Chapter → List Entry
entries_of [] = []
entries_of (chapter ∷ chapters) = chapter.entries ++ entries_of chapters

-- the place behind some entries of the time of a survivor that was adopted behind these chapters
abbrev pub place_of : List Chapter → List Entry → Bool → Place
place_of earlier since at_end = record { start = entries_of earlier; since = since; at_end = at_end }

-- behind some entries of its time a survivor owes nothing where it stands now
abbrev pub LeavesNothing : Rules → List Entry → List Entry → Survivor → Type 0
LeavesNothing rules start since survivor =
    OwesNothing rules.bounds rules.hold (record { start = start; since = since; at_end = false; taken = survivor.now.state.machine.taken }) survivor.now.state.sends

-- each chapter's entries are due, behind those of the chapters before it, and behind them its survivor owes nothing
abbrev pub AreLawful : Rules → List Item → List Entry → List Chapter → Type 0
AreLawful rules items before [] = Unit {0}
AreLawful rules items before (chapter ∷ chapters) =
    AreDue rules items chapter.survivor (record { start = before; since = []; at_end = false }) chapter.entries
    × LeavesNothing rules before chapter.entries chapter.survivor
    × AreLawful rules items (before ++ chapter.entries) chapters
