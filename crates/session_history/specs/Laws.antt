-- What each event of a session makes of its account.
use Rattle.std.specs.Prelude.{◌≡◌, ℕ, ◌≤◌, List, [], ◌∷◌, ◌++◌, Bool, true, false, Option, None, is_none, is_some}
use Rattle.links.specs.declared.journal.Entry.TheVariants as entry
use Rattle.session_history.specs.Terms.{Item, Entry, LinkEvent, Image, Override, Path, Served, origin}
use Rattle.session_history.specs.declared.ends.SessionEnd.{SessionEnd}
use Rattle.session_history.specs.Passing.{passed_in, Covers, IsFeasible}
use Rattle.session_history.specs.Heeding.{Bounds, nothing_before, refusal, heeded, items_in, received}
use Rattle.session_history.specs.Owing.{OwesNothing}
use Rattle.session_history.specs.Lawful.{Rules, Survivor, IsDueAt, IsDueEvent, IsPrompt, Chapter, entries_of, from_there, gone_on, place_of, IsDuePiece, LeavesNothing}
use Rattle.session_history.specs.Account.{Session, IsAccount, HasPassedAll}
use Rattle.session_history.specs.Serving.{IsSoundBefore, Serving, first_survivor, moment_of, ending_at, Ending}

-- behind events that are all heeded, one more is heeded unless it is refused
abbrev pub OneMoreHeeded : Type 0
OneMoreHeeded =
    (bounds : Bounds) (events : List LinkEvent) (event : LinkEvent) → heeded bounds events ≡ events → refusal bounds events event ≡ None →
    heeded bounds (events ++ event ∷ []) ≡ events ++ event ∷ []

-- and it isn't where it is refused
abbrev pub RefusedUnheeded : Type 0
RefusedUnheeded =
    (bounds : Bounds) (events : List LinkEvent) (event : LinkEvent) → heeded bounds events ≡ events → is_none (refusal bounds events event) ≡ false →
    heeded bounds (events ++ event ∷ []) ≡ events

-- where nothing came before a session, that is sound
abbrev pub NothingIsSound : Type 0
NothingIsSound = (rules : Rules) (image : Image) → rules.bounds.before ≡ nothing_before → IsSoundBefore rules image

-- a session serves from where its first survivor begins, with an empty journal
abbrev pub SessionBegins : Type 0
SessionBegins = (rules : Rules) (image : Image) → IsSoundBefore rules image → Serving rules image [] (first_survivor rules image) []

-- its survivor goes on, and makes no move where it owes something, to a run that took received items alone
abbrev pub SurvivorGoesOn : Type 0
SurvivorGoesOn =
    (rules : Rules) (image : Image) (earlier : List Chapter) (survivor : Survivor) (since : List Entry) (to : Path) → Serving rules image earlier survivor since →
    IsPrompt rules (items_in rules.bounds (entries_of earlier ++ since)) (gone_on (from_there survivor survivor.now) to) (place_of earlier since false) → to.state.machine.taken ≤ received rules.bounds (entries_of earlier ++ since) →
    Serving rules image earlier (gone_on survivor to) since

-- an event is taken that is due where the survivor stands: with the items that it brings, or none
abbrev pub EventIsTaken : Type 0
EventIsTaken =
    (rules : Rules) (image : Image) (earlier : List Chapter) (survivor : Survivor) (since : List Entry) (event : LinkEvent) (more : List Item) → Serving rules image earlier survivor since →
    IsDueEvent rules survivor.plan survivor.now (moment_of earlier since survivor.now.state.machine.taken) →
    items_in rules.bounds ((entries_of earlier ++ since) ++ entry.Took event ∷ []) ≡ items_in rules.bounds (entries_of earlier ++ since) ++ more →
    Serving rules image earlier survivor (since ++ entry.Took event ∷ [])

-- a piece is passed that is due there
abbrev pub PieceIsPassed : Type 0
PieceIsPassed =
    (rules : Rules) (image : Image) (earlier : List Chapter) (survivor : Survivor) (since : List Entry) (conn : ℕ) (bytes : List ℕ) (gone : Bool) → Serving rules image earlier survivor since →
    IsDueAt rules survivor.plan survivor.now (moment_of earlier since survivor.now.state.machine.taken) (entry.Gave conn bytes gone) →
    Serving rules image earlier survivor (since ++ entry.Gave conn bytes gone ∷ [])

-- another survivor is adopted where this one owes nothing: a run from the start under a plan, which emits what was passed, and in time
abbrev pub SurvivorIsAdopted : Type 0
SurvivorIsAdopted =
    (rules : Rules) (image : Image) (earlier : List Chapter) (survivor : Survivor) (since : List Entry) (plan : List Override) (to : Path) → Serving rules image earlier survivor since → LeavesNothing rules (entries_of earlier) since survivor →
    Served rules.limits (items_in rules.bounds (entries_of earlier ++ since)) plan (origin image) to → to.state.machine.taken ≤ received rules.bounds (entries_of earlier ++ since) →
    Covers (passed_in rules.bounds (entries_of earlier ++ since)) to.state → IsFeasible (passed_in rules.bounds (entries_of earlier ++ since)) to.state →
    Serving rules image (earlier ++ record { survivor = survivor; entries = since } ∷ []) (record { plan = plan; begun = to; now = to }) []

-- a session that serves may come to its end at any time
abbrev pub SessionEnds : Type 0
SessionEnds = (rules : Rules) (image : Image) (earlier : List Chapter) (survivor : Survivor) (since : List Entry) (at_end : Bool) → Serving rules image earlier survivor since → Ending rules image earlier survivor since [] at_end

-- a piece is passed at its end
abbrev pub LastIsPassed : Type 0
LastIsPassed =
    (rules : Rules) (image : Image) (earlier : List Chapter) (survivor : Survivor) (since ending : List Entry) (at_end : Bool) (conn : ℕ) (bytes : List ℕ) (gone : Bool) → Ending rules image earlier survivor since ending at_end →
    IsDueAt rules survivor.plan survivor.now (ending_at earlier (since ++ ending) at_end survivor.now.state.machine.taken) (entry.Gave conn bytes gone) →
    Ending rules image earlier survivor since (ending ++ entry.Gave conn bytes gone ∷ []) at_end

-- at any time there is an account
abbrev pub EndHasAccount : Type 0
EndHasAccount =
    (rules : Rules) (image : Image) (earlier : List Chapter) (survivor : Survivor) (since ending : List Entry) (came : Option SessionEnd) → Ending rules image earlier survivor since ending (is_some came) →
    IsAccount rules image (record { earlier = earlier; survivor = survivor; since = since; came = came; ending = ending; broken = [] })

-- also where a piece that is due breaks off
abbrev pub BreakHasAccount : Type 0
BreakHasAccount =
    (rules : Rules) (image : Image) (earlier : List Chapter) (survivor : Survivor) (since ending : List Entry) (came : Option SessionEnd) (conn : ℕ) (bytes : List ℕ) → Ending rules image earlier survivor since ending (is_some came) →
    IsDuePiece rules survivor.now.state.sends (ending_at earlier (since ++ ending) (is_some came) survivor.now.state.machine.taken) conn bytes →
    IsAccount rules image (record { earlier = earlier; survivor = survivor; since = since; came = came; ending = ending; broken = entry.Gave conn bytes false ∷ [] })

-- at an end at which nothing is owed, each connection still open was passed all that the survivor sent to it
abbrev pub EndPassedAll : Type 0
EndPassedAll =
    (rules : Rules) (image : Image) (session : Session) → IsAccount rules image session →
    OwesNothing rules.bounds rules.hold (record { start = entries_of session.earlier; since = session.since ++ (session.ending ++ session.broken); at_end = true; taken = session.survivor.now.state.machine.taken }) session.survivor.now.state.sends →
    HasPassedAll rules session
