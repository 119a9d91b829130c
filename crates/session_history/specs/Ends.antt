-- How a session ends: each answer by its cause, over one account of what came and went.
use Rattle.std.specs.Prelude.{◌≡◌, ◌≢◌, ℕ, List, [], ◌∷◌, ◌++◌, Bool, true, false, Option, None, Some, IfSome, IsSome, is_some}
use Rattle.links.specs.declared.journal.Entry.TheVariants as entry
use Rattle.links.specs.declared.journal.LinkEvent.TheVariants as event
use Rattle.run_history.specs.declared.answer.Answer.TheVariants as answer
use Rattle.session_history.specs.Terms.{Entry, LinkEvent, Ends, Coming, HasEnded, IsNext, Refuses, Tells, Seen, IsPieceOf, Image, Answer, AsksFor, FailsBy}
use Rattle.session_history.specs.declared.ends.SessionBreak.{SessionBreak}
use Rattle.session_history.specs.declared.ends.SessionEnd.{SessionEnd}
use Rattle.session_history.specs.declared.ends.SessionEnd.TheVariants as session_end
use Rattle.session_history.specs.declared.ends.SessionBreak.TheVariants as session_break
use Rattle.session_history.specs.declared.ends.Stop.{Stop}
use Rattle.session_history.specs.declared.ends.Stop.TheVariants as stop
use Rattle.session_history.specs.Heeding.{Bounds, Unheeded, events_of, refusal, received, AreHeeded}
use Rattle.session_history.specs.Heeding as unheeded
use Rattle.session_history.specs.Owing.{OwesNothing}
use Rattle.session_history.specs.Lawful.{Rules, Survivor, entries_of}
use Rattle.session_history.specs.Account.{Session, journal_of, after_since, after_ending, IsAccount}
use Rattle.session_history.specs.Giving.{AreGiven, HasHanded}

-- an end of a session, what broke one off, and why one stopped, as the answer of a command
abbrev pub end_answer : SessionEnd → Answer
end_answer session_end.Finished = answer.Finished
end_answer (session_end.Exited code) = answer.Exited code
end_answer (session_end.GaveUp point cause) = answer.GaveUp point cause
end_answer (session_end.InputRefused kind offset) = answer.InputRefused kind offset
end_answer (session_end.MessageTooLong conn) = answer.MessageTooLong conn
end_answer session_end.LimitItems = answer.LimitItems
end_answer session_end.LimitEvents = answer.LimitEvents

abbrev pub break_answer : SessionBreak → Answer
break_answer session_break.ReadFault = answer.ReadFault
break_answer session_break.WriteFault = answer.WriteFault
break_answer session_break.FileFault = answer.FileFault
break_answer session_break.Memory = answer.Memory

abbrev pub answer_of : Stop → Answer
answer_of (stop.Ends end) = end_answer end
answer_of (stop.Breaks why) = break_answer why

-- what holds where a session came to an end, of that end; and where it was broken off, of what did it
abbrev pub AtEnd : Stop → (SessionEnd → Type 0) → Type 0
AtEnd (stop.Ends end) P = P end
AtEnd (stop.Breaks why) P = Unit {0}

abbrev pub AtBreak : Stop → (SessionBreak → Type 0) → Type 0
AtBreak (stop.Ends end) P = Unit {0}
AtBreak (stop.Breaks why) P = P why

-- the answer of an end of a session, without fault or want of memory
abbrev pub IsEnd : Answer → Type 0
IsEnd answer.Finished = Unit {0}
IsEnd (answer.Exited code) = Unit {0}
IsEnd (answer.GaveUp point cause) = Unit {0}
IsEnd (answer.InputRefused kind offset) = Unit {0}
IsEnd (answer.MessageTooLong conn) = Unit {0}
IsEnd answer.LimitItems = Unit {0}
IsEnd answer.LimitEvents = Unit {0}
IsEnd _ = ⊥

-- the survivor stands at its request for the item that is received next
abbrev pub IsWaiting : Rules → List Entry → Survivor → Type 0
IsWaiting rules entries survivor = AsksFor rules.limits survivor.plan survivor.now (received rules.bounds entries)

-- the last entry is an event that is refused for this cause. Ends is none
pub record IsLastRefused (bounds : Bounds) (entries : List Entry) (cause : Unheeded) : Type 0 where
  pub before : List Entry
  pub event : LinkEvent
  pub last : entries ≡ before ++ entry.Took event ∷ []
  pub no_end : event ≢ Ends
  pub refused : refusal bounds (events_of bounds before) event ≡ Some cause

-- the last entry is an event of which a message of this connection is too long
pub record IsLastTooLong (bounds : Bounds) (entries : List Entry) (conn : ℕ) : Type 0 where
  pub refused : IsLastRefused bounds entries unheeded.TooLong
  pub piece : IsPieceOf refused.event conn

-- The cause of each end: where the survivor stands behind a journal, and what the link has behind its events.
abbrev pub StandsAt : Rules → List Entry → Option Coming → Survivor → SessionEnd → Type 0
StandsAt rules entries coming survivor session_end.Finished = IsWaiting rules entries survivor × HasEnded entries × IfSome coming (λ next. IsNext next event.Ends)
StandsAt rules entries coming survivor (session_end.Exited code) = survivor.now.state.ended ≡ Some code
StandsAt rules entries coming survivor (session_end.GaveUp point cause) = FailsBy rules.limits survivor.plan survivor.now cause × (survivor.now.state.machine.taken ≡ point)
StandsAt rules entries coming survivor (session_end.InputRefused kind offset) = IsWaiting rules entries survivor × AreHeeded rules.bounds entries × IfSome coming (λ next. next ≡ Refuses kind offset)
StandsAt rules entries coming survivor (session_end.MessageTooLong conn) = IsWaiting rules entries survivor × IsLastTooLong rules.bounds entries conn
StandsAt rules entries coming survivor session_end.LimitItems = IsWaiting rules entries survivor × IsLastRefused rules.bounds entries unheeded.LimitItems
StandsAt rules entries coming survivor session_end.LimitEvents = IsWaiting rules entries survivor × IsLastRefused rules.bounds entries unheeded.LimitEvents

-- the journal of a session up to its end, without the pieces that were passed there
abbrev pub before_end : Session → List Entry
before_end session = entries_of session.earlier ++ session.since

-- a session came to this end, by that end's cause
pub record HasComeTo (rules : Rules) (coming : Option Coming) (session : Session) (end : SessionEnd) : Type 0 where
  pub stands : StandsAt rules (before_end session) coming session.survivor end

-- if it came to one at all
abbrev pub HasCome : Rules → Option Coming → Session → Type 0
HasCome rules coming session = IfSome session.came (HasComeTo rules coming session)

-- all that is owed was passed, before the end and at it
abbrev pub OwesNothingBefore : Rules → Session → Type 0
OwesNothingBefore rules session = OwesNothing rules.bounds rules.hold (after_since session false) session.survivor.now.state.sends

abbrev pub OwesNothingAtEnd : Rules → Session → Type 0
OwesNothingAtEnd rules session = OwesNothing rules.bounds rules.hold (after_ending session true) session.survivor.now.state.sends

-- the survivor stands at its request for the item that is received next, it owed nothing before, and no event was refused: so an event was
-- asked for
abbrev pub WasAsked : Rules → Session → Type 0
WasAsked rules session = IsWaiting rules (before_end session) session.survivor × OwesNothingBefore rules session × AreHeeded rules.bounds (before_end session)

-- it came to no end: no piece is passed behind the journal, and none is broken off
abbrev pub HasNoEnding : Session → Type 0
HasNoEnding session = (session.came ≡ None) × (session.ending ≡ []) × (session.broken ≡ [])

-- It came to this end, where it passed all that it owes, and no piece was broken off.
pub record EndsAt (rules : Rules) (session : Session) (end : SessionEnd) : Type 0 where
  pub came : session.came ≡ Some end
  pub owes_nothing : OwesNothingAtEnd rules session
  pub unbroken : session.broken ≡ []

-- What stands behind each answer of a session: an end that it came to; where the program failed, what was owed then was passed before. At a
-- fault of reading an event was asked for.
abbrev pub EndsBy : Rules → Session → Stop → Type 0
EndsBy rules session (stop.Breaks session_break.ReadFault) = WasAsked rules session × HasNoEnding session
EndsBy rules session (stop.Breaks why) = Unit {0}
EndsBy rules session (stop.Ends (session_end.GaveUp point cause)) = EndsAt rules session (session_end.GaveUp point cause) × OwesNothingBefore rules session
EndsBy rules session (stop.Ends end) = EndsAt rules session end

-- At a fault of writing the link gives no more. It was handed all that was left of one send that was due, behind all that had been passed; and what
-- broke off are some first bytes of that, perhaps none. So it is at want of memory where a piece broke off.
abbrev pub HandedLast : Rules → Session → Seen → SessionBreak → Type 0
HandedLast rules session seen session_break.ReadFault = Unit {0}
HandedLast rules session seen session_break.WriteFault = (seen.gives ≡ false) × HasHanded rules session.survivor.now.state.sends (after_ending session (is_some session.came)) session.broken seen
HandedLast rules session seen session_break.FileFault = Unit {0}
HandedLast rules session seen session_break.Memory =
    session.broken ≢ [] → (seen.gives ≡ false) × HasHanded rules session.survivor.now.state.sends (after_ending session (is_some session.came)) session.broken seen

-- One account of a session, by why it stopped. Where it came to an end, that end's whole cause stands, whatever the answer is, and pieces alone are
-- passed behind it.
pub record IsEnded (rules : Rules) (image : Image) (coming : Option Coming) (session : Session) (why : Stop) : Type 0 where
  pub account : IsAccount rules image session
  pub comes : HasCome rules coming session
  pub pieces : AreGiven session.ending
  pub ends : EndsBy rules session why

-- where it was told what a link's grammar has next, it is told still
abbrev pub StaysKnown : Option Coming → Option Coming → Type 0
StaysKnown None new = Unit {0}
StaysKnown (Some old) new = IsSome new

-- Whether events may be taken from a link at an end of a session: not behind a refusal, and else they may.
abbrev pub TakesAtEnd : Bool → SessionEnd → Type 0
TakesAtEnd takes (session_end.InputRefused kind offset) = takes ≡ false
TakesAtEnd takes end = takes ≡ true

-- What a link shows behind a session, before which it showed this: all that came and went; where no event may be taken any more, one was asked
-- for; and where the session came to an end, what may be taken is as that end leaves it, and what comes next is told still.
pub record ShowsSession (rules : Rules) (began seen : Seen) (session : Session) : Type 0 where
  pub tells : Tells began.told seen.told (journal_of session)
  pub asked : seen.takes ≡ false → WasAsked rules session
  pub at_end : IfSome session.came (λ end. TakesAtEnd seen.takes end × StaysKnown began.coming seen.coming)
