-- The journal that brought a survivor to its failure is the shortest one that does.
use Rattle.std.specs.Prelude.{◌≡◌, ◌≢◌, ◌<◌, ◌≤◌, List, [], ◌∷◌, ◌++◌, Some}
use Rattle.session_history.specs.Ends.{OwesNothingBefore}
use Rattle.trials.specs.Terms.{Entry, Image, Cause, FailsBy, IsAccount, Session, AreGiven, received, Chapter, LeavesNothing, Rules, Survivor, entries_of, Latest, latest, first_survivor}
use Rattle.trials.specs.Episodes.{Recovery, AreRecovered}

-- What a journal had when a survivor failed, of whose time it has some entries: it brought the items that the survivor took, and its
-- last event was needed for them; all that the survivor owed was passed, and without its last pieces some of it was not.
pub record IsShortest (rules : Rules) (start since : List Entry) (survivor : Survivor) : Type 0 where
  pub enough : survivor.now.state.machine.taken ≤ received rules.bounds (start ++ since)
  pub fewest : (last : Latest) → latest since ≡ Some last → received rules.bounds (start ++ last.before) < survivor.now.state.machine.taken
  pub owes_nothing : LeavesNothing rules start since survivor
  pub shortest : (front more : List Entry) → since ≡ front ++ more → more ≢ [] → AreGiven more → LeavesNothing rules start front survivor → ⊥

-- at each recovery of a session the journal was the shortest
abbrev pub RecoveriesAreShortest : Type 0
RecoveriesAreShortest =
    (rules : Rules) (image : Image) (session : Session) (recoveries : List Recovery) (front : List Chapter) (chapter : Chapter) (back : List Chapter) → IsAccount rules image session →
    AreRecovered rules image [] (first_survivor rules image) session.earlier recoveries session.survivor → session.earlier ≡ front ++ chapter ∷ back →
    IsShortest rules (entries_of front) chapter.entries chapter.survivor

-- and so it is where the last survivor failed
abbrev pub FailureIsShortest : Type 0
FailureIsShortest =
    (rules : Rules) (image : Image) (session : Session) (cause : Cause) → IsAccount rules image session → AreGiven session.ending →
    FailsBy rules.limits session.survivor.plan session.survivor.now cause → OwesNothingBefore rules session →
    IsShortest rules (entries_of session.earlier) session.since session.survivor
