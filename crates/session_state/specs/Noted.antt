-- A session by what its notes tell: they may lack its last episode.
use Rattle.std.specs.Prelude.{◌≡◌, ℕ, List, All, Option}
use Rattle.session_state.specs.Terms.{Coming, Image, Stop, journal_of, Rules, IsSoundBefore, Episode, Noted, IsRecovery, Recovery, episode_of, Keeping}
use Rattle.session_state.specs.Recovered.{Story, Telling, entries, episodes_of, story_of, IsTelling, Outcome, IsOutcome}

-- an episode behind all that is told: that of a recovery of the last survivor, which failed
pub record IsNext (rules : Rules) (image : Image) (story : Story) (episode : Episode) : Type 0 where
  pub recovery : Recovery
  pub survivor : recovery.survivor ≡ story.survivor
  pub is : IsRecovery rules image (entries story) recovery
  pub episode_is : episode ≡ episode_of recovery

-- A telling by the episodes that were noted: of the session's journal, all of it, with these episodes; and those that are missing come behind them.
pub record TellsNoted (rules : Rules) (image : Image) (keeping : Keeping) (coming : Option Coming) (session : Telling) (why : Stop) (told missing : List Episode) (telling : Telling) : Type 0 where
  pub is : IsTelling rules image keeping coming telling why
  pub journal : journal_of telling.account ≡ journal_of session.account
  pub episodes : episodes_of (story_of telling) telling.walk ≡ told
  pub next : All (IsNext rules image (story_of telling)) missing

-- Each session has one, where what came before it is sound. Where an episode is missing, its last survivor is the one that failed there: that covers all that was passed, and in time.
abbrev pub NotedIsTold : Type 0
NotedIsTold =
    (rules : Rules) (image : Image) (keeping : Keeping) (coming : Option Coming) (session : Telling) (outcome : Outcome) (noted_before noted_now : Noted) (counted : ℕ) →
    IsSoundBefore rules image → (is : IsOutcome rules image keeping coming session outcome noted_before noted_now counted) →
    (telling : Telling) × TellsNoted rules image keeping coming session outcome.stop is.notes.told is.notes.missing telling
