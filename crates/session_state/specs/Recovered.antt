-- One telling of a session that recovered its program, as data, and what holds of it.
use Rattle.std.specs.Prelude.{◌≡◌, ◌≢◌, ℕ, ◌+◌, ◌-◌, ◌<◌, ◌≤◌, List, [], ◌∷◌, ◌++◌, length, map, sum, take, drop, Option, None, Some, IfSome, option_map, MatchOption, ◌⊎◌}
use Rattle.session_history.specs.declared.ends.SessionBreak.TheVariants as session_break
use Rattle.session_history.specs.declared.ends.SessionEnd.TheVariants as session_end
use Rattle.session_history.specs.declared.ends.Stop.TheVariants as stop
use Rattle.recovery.specs.Unfinished.{BeginsOver, Unfinished, steps_unfinished}
use Rattle.session_state.specs.Terms.{Prefix, Entry, Coming, Grew, Seen, Choice, Image, Cause, FailsBy, Path, Served, SessionBreak, SessionEnd, Stop, Session, AtBreak, AtEnd, HandedLast, HasNoEnding, IsEnded, ShowsSession, items_in, Chapter, LeavesNothing, Rules, Survivor, entries_of, passed_in, first_survivor, starting_path, Episode, Try, Noted, OneEpisode, SomeChoices, Unnoted, failed_with, AreChained, AreCheckpoints, AreRecovered, IsRecovery, Recovery, episode_of, point_of, Trial, survivor_in, table, HasHandled, HasRing, HaveRings, Keeping, Stand, steps_of, IsWholeTable, TellsMore}

-- A session so far, as data: the chapters of earlier survivors, with the recovery behind each, the survivor, and the entries of its time.
pub record Story : Type 0 where
  pub earlier : List Chapter
  pub recoveries : List Recovery
  pub survivor : Survivor
  pub since : List Entry

abbrev pub entries : Story → List Entry
entries story = entries_of story.earlier ++ story.since

-- A walk behind the last survivor, of whose trials none survived: why the survivor failed, the checkpoints that stood then, and the trials.
pub record Walk : Type 0 where
  pub cause : Cause
  pub ring : List Path
  pub trials : List Trial

-- One telling of a session: its account, the recovery behind each earlier survivor, and the walk behind the last one, if there was one.
pub record Telling : Type 0 where
  pub account : Session
  pub recoveries : List Recovery
  pub walk : Option Walk

abbrev pub story_of : Telling → Story
story_of telling = record { earlier = telling.account.earlier; recoveries = telling.recoveries; survivor = telling.account.survivor; since = telling.account.since }

-- a walk behind a survivor, as a recovery is told
abbrev pub walk_behind : Survivor → Walk → Recovery
walk_behind survivor walk = record { survivor = survivor; cause = walk.cause; ring = walk.ring; trials = walk.trials }

-- the trials behind the last survivor
abbrev pub trials_of : Option Walk → List Trial
trials_of None = []
trials_of (Some walk) = walk.trials

-- and the episode of them
abbrev pub last_of : Survivor → Option Walk → List Episode
last_of survivor None = []
last_of survivor (Some walk) = episode_of (walk_behind survivor walk) ∷ []

-- all episodes of a session
abbrev pub episodes_of : Story → Option Walk → List Episode
episodes_of story walk = map episode_of story.recoveries ++ last_of story.survivor walk

-- How many instructions were done before a survivor began: those of each survivor before it, from where it began to where it failed, and
-- those of all trials, each from its checkpoint.
abbrev pub spent : List Recovery → ℕ
spent recoveries = sum (map (λ (recovery : Recovery). (recovery.survivor.now.steps - recovery.survivor.begun.steps) + steps_of recovery.trials) recoveries)

-- all instructions of a session: those that were done where it began, those of its survivors, and those of all trials
abbrev pub all_steps : Rules → Image → Story → Option Walk → ℕ
all_steps rules image story walk = (starting_path rules image).steps + spent story.recoveries + (story.survivor.now.steps - story.survivor.begun.steps) + steps_of (trials_of walk)

-- The last survivor failed by this cause, behind some entries of its time and those before it, where it owed nothing; and none of these
-- trials, a walk over all of its checkpoints, at least one, survived. Those are the checkpoints that its requests left, behind these recoveries.
pub record HasGivenUp (rules : Rules) (image : Image) (keeping : Keeping) (story : Story) (walk : Walk) : Type 0 where
  pub some : 0 < length walk.ring
  pub stands : List Stand
  pub handled : HasHandled rules image keeping story.earlier (entries story) story.recoveries story.survivor story.survivor.now.state.machine.taken stands
  pub ringed : HasRing stands walk.ring
  pub recovers : IsRecovery rules image (entries story) (walk_behind story.survivor walk)
  pub none : survivor_in walk.trials ≡ None
  pub owes_nothing : LeavesNothing rules (entries_of story.earlier) story.since story.survivor

-- What memory broke off behind the last survivor of a session, as data: nothing; a run of the survivor, for which the session doesn't answer, up to here; or a
-- walk behind its failure, by the cause of that, the checkpoints that stood then, and what was tried.
pub data Unanswered : Type 0 where
  AllAnswered : Unanswered
  RanOn : Path → Unanswered
  TriedOn : Cause → List Path → Unfinished → Unanswered

-- how many instructions it did
abbrev pub steps_unanswered : Survivor → Unanswered → ℕ
steps_unanswered survivor AllAnswered = 0
steps_unanswered survivor (RanOn path) = path.steps - survivor.now.steps
steps_unanswered survivor (TriedOn cause ring unfinished) = steps_unfinished unfinished

-- The last survivor failed by this cause, where it owed nothing, and trials were made from its checkpoints, at least one: those that its requests left.
-- None of them survived but perhaps the last, which wasn't adopted.
pub record HasBegunWalk (rules : Rules) (image : Image) (keeping : Keeping) (story : Story) (cause : Cause) (ring : List Path) (unfinished : Unfinished) : Type 0 where
  pub some : 0 < length ring
  pub stands : List Stand
  pub handled : HasHandled rules image keeping story.earlier (entries story) story.recoveries story.survivor story.survivor.now.state.machine.taken stands
  pub ringed : HasRing stands ring
  pub fails : FailsBy rules.limits story.survivor.plan story.survivor.now cause
  pub chained : AreChained rules.limits (items_in rules.bounds (entries story)) story.survivor.plan image story.survivor.now ring
  pub checkpoints : AreCheckpoints rules.limits image ring
  pub begins : BeginsOver rules.limits (items_in rules.bounds (entries story)) story.survivor.plan (passed_in rules.bounds (entries story)) story.survivor.now.state.machine.taken (table ring) unfinished.trials unfinished.last
  pub owes_nothing : LeavesNothing rules (entries_of story.earlier) story.since story.survivor

-- It broke off so: the survivor's run goes on by its plan; or such a walk was begun.
abbrev pub IsUnanswered : Rules → Image → Keeping → Story → Unanswered → Type 0
IsUnanswered rules image keeping story AllAnswered = Unit {0}
IsUnanswered rules image keeping story (RanOn path) = Served rules.limits (items_in rules.bounds (entries story)) story.survivor.plan story.survivor.now path
IsUnanswered rules image keeping story (TriedOn cause ring unfinished) = HasBegunWalk rules image keeping story cause ring unfinished

-- So many instructions were counted where memory ran out: those of all that is told, and those of what broke off.
pub record CountsUnanswered (rules : Rules) (image : Image) (keeping : Keeping) (telling : Telling) (counted : ℕ) : Type 0 where
  pub rest : Unanswered
  pub is : IsUnanswered rules image keeping (story_of telling) rest
  pub all : counted ≡ all_steps rules image (story_of telling) telling.walk + steps_unanswered telling.account.survivor rest

-- at GaveUp there was a walk, behind a failure by that cause
abbrev pub GivesUpBy : Option Walk → SessionEnd → Type 0
GivesUpBy walk (session_end.GaveUp point cause) = option_map (λ one. one.cause) walk ≡ Some cause
GivesUpBy walk _ = Unit {0}

-- What holds of a telling at an answer: its account, whose first survivor stood at the start, and each later one is the trial that was adopted
-- behind a failure, from the checkpoints that the requests before it had left; a walk behind the last one, where none survived; and it gives up
-- only behind such a walk, whatever it answers then.
pub record IsTelling (rules : Rules) (image : Image) (keeping : Keeping) (coming : Option Coming) (telling : Telling) (why : Stop) : Type 0 where
  pub ended : IsEnded rules image coming telling.account why
  pub recovered : AreRecovered rules image [] (first_survivor rules image) telling.account.earlier telling.recoveries telling.account.survivor
  pub ringed : HaveRings rules image keeping telling.account.earlier telling.recoveries
  pub walked : IfSome telling.walk (HasGivenUp rules image keeping (story_of telling))
  pub gave_up : IfSome telling.account.came (GivesUpBy telling.walk)

-- behind a fault of its notes, or want of memory, the notes of a session may lack its last episode
abbrev pub IsNoteFault : SessionBreak → Type 0
IsNoteFault session_break.ReadFault = ⊥
IsNoteFault session_break.WriteFault = ⊥
IsNoteFault session_break.FileFault = Unit {0}
IsNoteFault session_break.Memory = Unit {0}

abbrev pub IsNoteStop : Stop → Type 0
IsNoteStop (stop.Ends end) = ⊥
IsNoteStop (stop.Breaks fault) = IsNoteFault fault

-- a call of notes failed that was handed some of these answers of the allocator, the first ones
pub record FailsAtChoices (old new : Option Unnoted) (choices : List Choice) : Type 0 where
  pub list : List Choice
  pub first : Prefix list choices
  pub some : 0 < length list
  pub handed : new ≡ failed_with old (SomeChoices list)

-- A call of notes failed that was handed just those of these answers of the allocator that are safe, at least one. Of the run's answers so many are safe,
-- and so many are recorded, behind which these stand.
pub record FailsUpTo (old new : Option Unnoted) (safe recorded : ℕ) (choices : List Choice) : Type 0 where
  pub more : recorded < safe
  pub handed : new ≡ failed_with old (SomeChoices (take (safe - recorded) choices))

-- a call of notes failed that was handed an episode, the only one that is missing
pub record FailsAtEpisode (old new : Option Unnoted) (missing : List Episode) : Type 0 where
  pub episode : Episode
  pub only : missing ≡ episode ∷ []
  pub handed : new ≡ failed_with old (OneEpisode episode)

-- What a session's notes were handed last: no call of them failed, and no episode is missing; or one failed, which broke the session off. It was
-- handed some first ones of the tail, and no episode is missing; or the missing episode.
abbrev pub IsHandedLast : Option Unnoted → Option Unnoted → Stop → List Choice → List Episode → Type 0
IsHandedLast old new why tail missing =
    ((new ≡ old) × (missing ≡ [])) ⊎ (IsNoteStop why × ((FailsAtChoices old new tail × (missing ≡ [])) ⊎ FailsAtEpisode old new missing))

-- What a session has noted, by what its notes told when it began, and tell now. Of the run's answers of the allocator the first ones are recorded, and
-- the others are its tail; at an end all are recorded. And each episode is noted, but perhaps the last one, where noting failed.
pub record HasNoted (before now : Noted) (why : Stop) (choices : List Choice) (episodes : List Episode) (recorded : ℕ) (tail : List Choice) : Type 0 where
  pub low : recorded ≤ length choices
  pub tail_is : tail ≡ drop recorded choices
  pub all_recorded : AtEnd why (λ end. tail ≡ [])
  pub choices_noted : Grew before.choices now.choices (take recorded choices)
  pub told : List Episode
  pub missing : List Episode
  pub all_told : told ++ missing ≡ episodes
  pub handed : IsHandedLast before.unnoted now.unnoted why tail missing
  pub episodes_noted : Grew before.episodes now.episodes told

-- Nothing came or went behind the last episode of a session: it came to no end; and behind a last recovery, unless a walk follows it, no entry stands.
abbrev pub HasNothingBehind : Telling → Type 0
HasNothingBehind telling = HasNoEnding telling.account × MatchOption telling.walk (telling.account.since ≡ []) (λ walk. Unit {0})

-- What a session leaves as numbers: why it stopped; of its run's answers of the allocator how many are recorded, and the others; the items that the run took,
-- and its instructions.
pub record Outcome : Type 0 where
  pub stop : Stop
  pub recorded : ℕ
  pub tail : List Choice
  pub taken : ℕ
  pub steps : ℕ

-- The outcome of a session, by one telling of it. Its notes tell of its answers of the allocator and of each recovery; where they lack an episode, nothing
-- came or went behind it. So many instructions were counted: those of the whole run, and those of all trials; and where memory ran out, those of what it
-- broke off.
pub record IsOutcome (rules : Rules) (image : Image) (keeping : Keeping) (coming : Option Coming) (telling : Telling) (outcome : Outcome) (noted_before noted_now : Noted) (counted : ℕ) : Type 0 where
  pub is : IsTelling rules image keeping coming telling outcome.stop
  pub notes : HasNoted noted_before noted_now outcome.stop telling.account.survivor.now.choices (episodes_of (story_of telling) telling.walk) outcome.recorded outcome.tail
  pub unnoted : 0 < length notes.missing → HasNothingBehind telling
  pub taken_is : telling.account.survivor.now.state.machine.taken ≡ outcome.taken
  pub steps_are : telling.account.survivor.now.steps ≡ outcome.steps
  pub all_counted : outcome.stop ≢ stop.Breaks session_break.Memory → counted ≡ all_steps rules image (story_of telling) telling.walk
  pub unanswered : outcome.stop ≡ stop.Breaks session_break.Memory → CountsUnanswered rules image keeping telling counted

-- A session has served a link: one telling of it, which has its outcome, and which its link shows.
pub record HasRecovered (rules : Rules) (image : Image) (keeping : Keeping) (began seen : Seen) (outcome : Outcome) (noted_before noted_now : Noted) (counted : ℕ) : Type 0 where
  pub telling : Telling
  pub is : IsOutcome rules image keeping seen.coming telling outcome noted_before noted_now counted
  pub shows : ShowsSession rules began seen telling.account
  pub handed : AtBreak outcome.stop (HandedLast rules telling.account seen)

-- a whole table is that of a recovery, behind all entries that the journal had at the failure
abbrev pub IsTable : Rules → List Entry → Recovery → List Try → Type 0
IsTable rules entries recovery tries = IsWholeTable rules.limits (items_in rules.bounds entries) recovery.survivor.plan (passed_in rules.bounds entries) (point_of recovery) recovery.ring tries

-- the tables of a session's recoveries, one of each, in order: each behind all entries up to its failure, which are some entries and those of the
-- chapters up to its own
abbrev pub AreTables : Rules → List Entry → List Chapter → List Recovery → List (List Try) → Type 0
AreTables rules before [] [] [] = Unit {0}
AreTables rules before (chapter ∷ chapters) (recovery ∷ recoveries) (tries ∷ tables) = IsTable rules (before ++ chapter.entries) recovery tries × AreTables rules (before ++ chapter.entries) chapters recoveries tables
AreTables rules before _ _ _ = ⊥

-- Tables behind those. Behind a walk there is one, that of its checkpoints. Else there is none; but where memory ran out one may stand there.
abbrev pub AreLastTables : Rules → Story → Option Walk → Stop → List (List Try) → Type 0
AreLastTables rules story None why tables = (length tables ≤ 1) × (why ≢ stop.Breaks session_break.Memory → tables ≡ [])
AreLastTables rules story (Some walk) why tables = (tries : List Try) × (tables ≡ tries ∷ []) × IsTable rules (entries story) (walk_behind story.survivor walk) tries

-- All tables that a watch tells of a session: those of its recoveries, and those behind the last survivor.
pub record AreAllTables (rules : Rules) (story : Story) (walk : Option Walk) (why : Stop) (tables : List (List Try)) : Type 0 where
  pub each : List (List Try)
  pub behind : List (List Try)
  pub all : tables ≡ each ++ behind
  pub each_right : AreTables rules [] story.earlier story.recoveries each
  pub behind_right : AreLastTables rules story walk why behind

-- A session that was watched has served, and its watch, where it tells its tables, has told those of its recoveries more.
pub record HasWatched (rules : Rules) (image : Image) (keeping : Keeping) (began seen : Seen) (outcome : Outcome) (noted_before noted_now : Noted) (counted : ℕ) (tables_before tables : Option (List (List Try))) : Type 0 where
  pub recovered : HasRecovered rules image keeping began seen outcome noted_before noted_now counted
  pub watched : TellsMore tables_before tables (AreAllTables rules (story_of recovered.telling) recovered.telling.walk outcome.stop)
