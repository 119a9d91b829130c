-- Where a session stands that has just begun where the run of another one stands.
use Rattle.std.specs.Prelude.{◌≡◌, List, [], None}
use Rattle.session_following.specs.Terms.{Entry, Phases, Image, KeepsReplies, Rules, Survivor, IsSoundBefore, first_survivor, SessionState, AnswersFor, GoesWith, KeepsCheckpoints, Since, Story, sends}

-- a story without a recovery
abbrev pub story_alone : Survivor → List Entry → Story
story_alone survivor since = record { earlier = []; recoveries = []; survivor = survivor; since = since }

-- the story of a session that has just begun: no event came, and nothing was given
abbrev pub begun_story : Rules → Image → Story
begun_story rules image = story_alone (first_survivor rules image) []

-- A session stands as one that has just begun: what came before it is sound, and it answers for the run that stood there. That is its guest, its checkpoints are
-- of it, and its ledger has what it sent and what of that was passed before.
pub record HasJustBegun {R : Type 0} (rules : Rules) (image : Image) (began : Since) (phases : Phases) (session : SessionState R) : Type 0 where
  pub sound : IsSoundBefore rules image
  pub answers : AnswersFor began (begun_story rules image) session
  pub goes : GoesWith rules (begun_story rules image) session phases
  pub saved : KeepsCheckpoints rules image (begun_story rules image) session
  pub replies : KeepsReplies rules.bounds [] None (sends (begun_story rules image)) session.replies
  pub no_trial : session.replies.trial ≡ None
