-- One account of a session: what came and went, and the run that it is told by. Every promise of a session is a field of it.
use Rattle.std.specs.Prelude.{◌≡◌, ℕ, ◌≤◌, List, [], ◌∷◌, ◌++◌, length, Bool, true, false, Option, is_some}
use Rattle.links.specs.declared.journal.Entry.TheVariants as entry
use Rattle.session_history.specs.Terms.{Prefix, Send, sent_to, Entry, Image, Run, output, Served, origin}
use Rattle.session_history.specs.declared.ends.SessionEnd.{SessionEnd}
use Rattle.session_history.specs.Heeding.{items_in, received}
use Rattle.session_history.specs.Opened.{is_open}
use Rattle.session_history.specs.Passing.{passed_in, IsFeasible, AreInOrder}
use Rattle.session_history.specs.Owing.{Moment, moment_at}
use Rattle.session_history.specs.Lawful.{Rules, Survivor, Chapter, entries_of, from_there, place_of, AreDue, AreLawful, IsDuePiece}

-- A session as data: the chapters of earlier survivors, oldest first; the survivor, with the entries since it was adopted; the end that
-- it came to, if it came to one; the pieces that were passed there; and the piece that a fault broke off, if one did.
pub record Session : Type 0 where
  pub earlier : List Chapter
  pub survivor : Survivor
  pub since : List Entry
  pub came : Option SessionEnd
  pub ending : List Entry
  pub broken : List Entry

-- all that came and went
abbrev pub journal_of : Session → List Entry
journal_of session = entries_of session.earlier ++ (session.since ++ (session.ending ++ session.broken))

-- at most one piece was broken off: some first bytes of one that was due
abbrev pub IsBroken : Rules → List Send → Moment → List Entry → Type 0
IsBroken rules sends moment [] = Unit {0}
IsBroken rules sends moment (entry.Gave conn bytes false ∷ []) = IsDuePiece rules sends moment conn bytes
IsBroken rules sends moment _ = ⊥

-- the moment behind the entries since the survivor was adopted, and behind those of the end, where it stands now
abbrev pub after_since : Session → Bool → Moment
after_since session at_end = moment_at (place_of session.earlier session.since at_end) session.survivor.now.state.machine.taken

abbrev pub after_ending : Session → Bool → Moment
after_ending session at_end = moment_at (place_of session.earlier (session.since ++ session.ending) at_end) session.survivor.now.state.machine.taken

-- The account of a session of an image: there is one run, on the items received, of which each answer of the allocator is one that C
-- allows; each connection was passed a prefix of what it sends there, and nothing that it sends later, in the order of stamps; and the journal is lawful. The pieces of
-- the end were passed where the survivor stands.
pub record IsAccount (rules : Rules) (image : Image) (session : Session) : Type 0 where
  pub ran : Run image (items_in rules.bounds (journal_of session)) session.survivor.now.choices session.survivor.now.steps session.survivor.now.state
  pub served : Served rules.limits (items_in rules.bounds (journal_of session)) session.survivor.plan (origin image) session.survivor.now
  pub begins : Served rules.limits (items_in rules.bounds (journal_of session)) session.survivor.plan (origin image) session.survivor.begun
  pub taken : session.survivor.now.state.machine.taken ≤ length (items_in rules.bounds (journal_of session))
  pub passed : (conn : ℕ) → Prefix (sent_to conn (passed_in rules.bounds (journal_of session))) (output session.survivor.now.state conn)
  pub feasible : IsFeasible (passed_in rules.bounds (journal_of session)) session.survivor.now.state
  pub ordered : AreInOrder (received rules.bounds (journal_of session)) (passed_in rules.bounds (journal_of session))
  pub earlier : AreLawful rules (items_in rules.bounds (journal_of session)) [] session.earlier
  pub since : AreDue rules (items_in rules.bounds (journal_of session)) session.survivor (place_of session.earlier [] false) session.since
  pub ending : AreDue rules (items_in rules.bounds (journal_of session)) (from_there session.survivor session.survivor.now) (place_of session.earlier session.since (is_some session.came)) session.ending
  pub broken : IsBroken rules session.survivor.now.state.sends (after_ending session (is_some session.came)) session.broken

-- the session has passed all that its connections still open are owed
abbrev pub HasPassedAll : Rules → Session → Type 0
HasPassedAll rules session =
    (conn : ℕ) → is_open rules.bounds (journal_of session) conn ≡ true →
    sent_to conn (passed_in rules.bounds (journal_of session)) ≡ output session.survivor.now.state conn
