-- What a contract sees of a session.
use Rattle.std.specs.Prelude.{◌≡◌, ℕ, ◌*◌, ◌/◌, List, [], nat_lt, if◌then◌else◌}
use Rattle.item_log.specs.Log as logs
use Rattle.session_state.specs.Terms.{Choice, Env, Log, empty_log, Ledger, no_replies, Image, CpuState, IsFreshCpu, Before, nothing_before, Held, Options}
use Rattle.session_state.specs.Options.{AreInRange}

-- A session: its options, its guest with its checkpoints, the items and the replies; how many events came; of the run that it answers for
-- how many answers of the allocator are recorded, the others, the items taken and the instructions; an environment, up to a number of items; what came
-- before it; and how many items more have to be taken before a reply is passed
pub record SessionState (R : Type 0) : Type 0 where
  pub options : Options
  pub cpu : CpuState R
  pub log : Log
  pub replies : Ledger
  pub events : ℕ
  pub recorded : ℕ
  pub choices : List Choice
  pub taken : ℕ
  pub steps : ℕ
  pub env : Env
  pub until : ℕ
  pub before : Before
  pub hold : ℕ

-- the environment in force: that of a session, with fewer items taken than its number; else the base of its options
abbrev pub env_of : {R : Type 0} → SessionState R → Env
env_of session = if nat_lt session.taken session.until then session.env else session.options.base

-- what a recovery takes back of it
abbrev pub held_in : {R : Type 0} → SessionState R → Held R
held_in session = record { cpu = session.cpu; log = session.log; replies = session.replies; recorded = session.recorded; choices = session.choices }

-- a session that was begun and hasn't served
pub record IsBegun {R : Type 0} (image : Image) (options : Options) (rule : R) (session : SessionState R) : Type 0 where
  pub options_are : session.options ≡ options
  pub in_range : AreInRange options
  pub window : options.window ≡ image.window
  pub cpu : IsFreshCpu image options.ring (options.frames * (image.window / 4096)) rule session.cpu
  pub log : session.log ≡ empty_log options.frame options.max_items
  pub shows : logs.Shows options.frame [] session.log
  pub replies : session.replies ≡ no_replies
  pub no_events : session.events ≡ 0
  pub none_recorded : session.recorded ≡ 0
  pub no_choices : session.choices ≡ []
  pub no_items : session.taken ≡ 0
  pub no_steps : session.steps ≡ 0
  pub based : session.env ≡ options.base
  pub until_none : session.until ≡ 0
  pub nothing_came : session.before ≡ nothing_before
  pub hold_is : session.hold ≡ options.hold
