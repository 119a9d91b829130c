-- What follows from the account of a session, and from the causes of its ends.
use Rattle.std.specs.Prelude.{◌≡◌, ◌≢◌, ℕ, List, [], ◌∷◌, ◌++◌, false, map, Some}
use Rattle.links.specs.declared.journal.LinkEvent.TheVariants as event
use Rattle.session_history.specs.Terms.{Send, Entry, LinkEvent, Coming, Grew, IsInOrder, Phases, Piece, Refuses, events_in, phases_after, pieces_in, Seen, Image}
use Rattle.session_history.specs.declared.ends.SessionEnd.{SessionEnd}
use Rattle.session_history.specs.declared.ends.SessionEnd.TheVariants as session_end
use Rattle.session_history.specs.declared.ends.Stop.{Stop}
use Rattle.session_history.specs.declared.ends.Stop.TheVariants as stop
use Rattle.session_history.specs.Heeding.{nothing_before, received, AreHeeded}
use Rattle.session_history.specs.Opened.{closes, is_gone}
use Rattle.session_history.specs.Lawful.{Rules, Survivor}
use Rattle.session_history.specs.Account.{Session, journal_of, IsAccount}
use Rattle.session_history.specs.Giving.{AreGiven}
use Rattle.session_history.specs.Ends.{StandsAt, OwesNothingAtEnd, before_end, IsEnded, ShowsSession}

-- no two ends have their cause in one journal, with what its link has behind it
abbrev pub OneEnd : Type 0
OneEnd =
    (rules : Rules) (entries : List Entry) (next : Coming) (survivor : Survivor) (end other : SessionEnd) →
    StandsAt rules entries (Some next) survivor end → StandsAt rules entries (Some next) survivor other → end ≡ other

-- the piece of a send, whole
abbrev pub piece_of : Send → Piece
piece_of send = record { conn = send.conn; bytes = send.bytes; gone = false }

-- no connection is opened that was closed before
abbrev pub OpensOnce : List LinkEvent → Type 0
OpensOnce events = (before after : List LinkEvent) (conn : ℕ) → events ≡ before ++ event.Opens conn ∷ after → closes conn before ≡ false

-- a session of one survivor, with nothing before it, came to its end with all passed that it owes; it held nothing back, and no connection was found gone
pub record PassesAtOnce (rules : Rules) (image : Image) (session : Session) : Type 0 where
  pub account : IsAccount rules image session
  pub alone : rules.bounds.before ≡ nothing_before
  pub first : session.earlier ≡ []
  pub given : AreGiven session.ending
  pub unbroken : session.broken ≡ []
  pub owes_nothing : OwesNothingAtEnd rules session
  pub holds_nothing : rules.hold ≡ 0
  pub none_gone : (conn : ℕ) → is_gone conn (journal_of session) ≡ false
  pub opens_once : OpensOnce (events_in (journal_of session))

-- its pieces are the sends of its run, in order, each whole
abbrev pub SentIsPassed : Type 0
SentIsPassed = (rules : Rules) (image : Image) (session : Session) → PassesAtOnce rules image session → pieces_in (journal_of session) ≡ map piece_of session.survivor.now.state.sends

-- So are they at each end of a session that served with nothing before it, and its link tells no other pieces.
abbrev pub ServedIsPassed : Type 0
ServedIsPassed =
    (rules : Rules) (image : Image) (began seen : Seen) (session : Session) (end : SessionEnd) → IsEnded rules image seen.coming session (stop.Ends end) → ShowsSession rules began seen session →
    rules.bounds.before ≡ nothing_before → session.earlier ≡ [] → rules.hold ≡ 0 → ((conn : ℕ) → is_gone conn (journal_of session) ≡ false) → OpensOnce (events_in (journal_of session)) →
    (pieces_in (journal_of session) ≡ map piece_of session.survivor.now.state.sends) × Grew began.told.pieces seen.told.pieces (map piece_of session.survivor.now.state.sends)

-- events that a link gave, each in order for its connection
abbrev pub AreInTurn : Phases → List LinkEvent → Type 0
AreInTurn phases [] = Unit {0}
AreInTurn phases (event ∷ events) = IsInOrder phases event × AreInTurn (phases_after event phases) events

-- of such none opens a connection that was closed before
abbrev pub LinksOpenOnce : Type 0
LinksOpenOnce = (phases : Phases) (events : List LinkEvent) → AreInTurn phases events → OpensOnce events

-- an answer behind such events: every item was taken, or the program ended itself or failed, or there was a fault or want of memory
abbrev pub IsComplete : Rules → Session → Stop → Type 0
IsComplete rules session (stop.Ends session_end.Finished) = session.survivor.now.state.machine.taken ≡ received rules.bounds (journal_of session)
IsComplete rules session (stop.Ends (session_end.Exited code)) = Unit {0}
IsComplete rules session (stop.Ends (session_end.GaveUp point cause)) = Unit {0}
IsComplete rules session (stop.Ends end) = ⊥
IsComplete rules session (stop.Breaks why) = Unit {0}

-- where every event is heeded and the link refuses nothing behind them, a session has no other answer
abbrev pub NoOtherAnswer : Type 0
NoOtherAnswer =
    (rules : Rules) (image : Image) (next : Coming) (session : Session) (why : Stop) → IsEnded rules image (Some next) session why →
    AreHeeded rules.bounds (before_end session) → ((kind offset : ℕ) → next ≢ Refuses kind offset) → IsComplete rules session why
