-- The account that a session had at each failure.
use Rattle.std.specs.Prelude.{◌≡◌, List, [], ◌∷◌, ◌++◌, None}
use Rattle.trials.specs.Terms.{Image, IsAccount, Session, Chapter, Rules, entries_of, IsSoundBefore, first_survivor}
use Rattle.trials.specs.Episodes.{Recovery, IsRecovery, AreRecovered}

-- a session at the failure of the survivor behind some chapters: it came to no end there
abbrev pub session_at : List Chapter → Chapter → Session
session_at front chapter = record { earlier = front; survivor = chapter.survivor; since = chapter.entries; came = None; ending = []; broken = [] }

-- Of some recoveries those before a failure and the one behind it; and the account that the session had there, by the survivor that failed.
pub record HasFailed (rules : Rules) (image : Image) (front : List Chapter) (chapter : Chapter) (recoveries : List Recovery) : Type 0 where
  pub before : List Recovery
  pub recovery : Recovery
  pub later : List Recovery
  pub split : recoveries ≡ before ++ recovery ∷ later
  pub survivor : recovery.survivor ≡ chapter.survivor
  pub is : IsRecovery rules image (entries_of front ++ chapter.entries) recovery
  pub account : IsAccount rules image (session_at front chapter)
  pub recovered : AreRecovered rules image [] (first_survivor rules image) front before chapter.survivor

-- so it is at each recovery of a session, where what came before it is sound
abbrev pub FailuresHaveAccounts : Type 0
FailuresHaveAccounts =
    (rules : Rules) (image : Image) (session : Session) (recoveries : List Recovery) (front : List Chapter) (chapter : Chapter) (back : List Chapter) → IsSoundBefore rules image → IsAccount rules image session →
    AreRecovered rules image [] (first_survivor rules image) session.earlier recoveries session.survivor → session.earlier ≡ front ++ chapter ∷ back →
    HasFailed rules image front chapter recoveries
