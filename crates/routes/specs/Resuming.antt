-- A session that takes over from another host over a trunk: the bytes that the source lost, and those that the sink gained.
use Rattle.std.specs.Prelude.{◌≡◌, ℕ, List, [], ◌∷◌, ◌++◌, Option, None, Some, Result, Ok, Err}
use Rattle.links.specs.declared.journal.LinkEvent.TheVariants.{Ends as EndOfLink}
use Rattle.follow.specs.Handed.{Handed}
use Rattle.session_following.specs.declared.unfollowed.Unfollowed.TheVariants as unfollowed
use Rattle.routes.specs.Terms.{IsDrained, Stream, LinkEvent, Told, events_in, Seen, Image, Answer, Path, Stop, answer_of, Rules, Try, Noted, Shown, AsksForMore, HasFollowed, heard_alone, rules_behind, Keeping, keeping_for, Outcome, NotesAnswer, outcome_of, IsBegun, SessionState, Unfollowed, IsUnfollowed, UnnotedBy, stop_as}
use Rattle.routes.specs.Trunk.{TakesTrunk, TookWhole, WritesWhole}
use Rattle.routes.specs.StandingBy.{TakesFollowed}
use Rattle.routes.specs.Serving.{Trunk, Watches}

-- A host followed these events of a trunk, and was released there. From there on it served as an ordinary session before which that came. So the bytes that the
-- source lost are the frames of the events that it followed, and then of those of its journal; those that the sink gained are the frames of the journal's pieces
-- alone; and what these carry stands behind what clients had of the run that was followed.
pub record ResumesTrunk (rules : Rules) (handed : Handed) (keeping : Keeping) (image : Image) (source source_later : Option Stream) (sink sink_later : Option (List ℕ)) (outcome : Outcome) (noted_before noted_now : Noted) (counted : ℕ) (tables_before tables : Option (List (List Try))) : Type 0 where
  pub events : List LinkEvent
  pub released : Path
  pub followed : HasFollowed rules image handed events released
  pub watches : Watches (Trunk source source_later sink sink_later) (rules_behind rules handed events released) keeping image outcome noted_before noted_now counted tables_before tables

-- What was taken where its run was found to be another one, or short: the frames of what it heard, and no byte more. Where the link has ended no byte is left.
abbrev pub TookApart : Option Stream → Option Stream → List LinkEvent → List LinkEvent → Type 0
TookApart old new events last = TookWhole old new (events_in (heard_alone (events ++ last))) × (last ≡ EndOfLink ∷ [] → IsDrained new)

-- where the source tells its bytes
abbrev pub TakesApart : Option Stream → Option Stream → List LinkEvent → List LinkEvent → Type 0
TakesApart None new events last = Unit {0}
TakesApart (Some old) new events last = TookApart (Some old) new events last

-- What was taken where a host wasn't released, which followed these events, and heard these behind them. Where it stopped it is as where a record was followed.
abbrev pub TakesUnfollowed : Option Stream → Option Stream → List LinkEvent → List LinkEvent → Unfollowed → Type 0
TakesUnfollowed source source_later events last (unfollowed.Mismatch step) = TakesApart source source_later events last
TakesUnfollowed source source_later events last (unfollowed.Short conn) = TakesApart source source_later events last
TakesUnfollowed source source_later events last (unfollowed.Stops why) = TakesFollowed source source_later (events_in (heard_alone (events ++ last))) (answer_of why)

-- A host followed over a trunk, and wasn't released. The bytes that the source lost are the frames of what it heard; a part of one more frame was asked for by the
-- run that it followed. The sink gained none.
pub record StopsFollowing {R : Type 0} (rules : Rules) (handed : Handed) (image : Image) (source source_later : Option Stream) (sink sink_later : Option (List ℕ)) (noted_before noted_now : Noted) (counted : ℕ) (session : SessionState R) (why : Unfollowed) : Type 0 where
  pub began : Told
  pub seen : Seen
  pub is : IsUnfollowed rules image handed began seen noted_before noted_now counted session why
  pub took : TakesTrunk source source_later (events_in (heard_alone (is.events ++ is.last))) seen.coming (AsksForMore rules image handed is.events)
  pub takes : TakesUnfollowed source source_later is.events is.last why
  pub wrote : WritesWhole sink sink_later []

module _ {R : Type 0} where
  -- A session that was begun took over over a trunk, and served on behind its release: why it stopped; what it leaves, and its watch tells; and what its notes show.
  pub record HasResumedTrunk (rules : Rules) (handed : Handed) (source source_later : Option Stream) (sink sink_later : Option (List ℕ)) (shown now : Shown) (counted : ℕ) (tables_before tables : Option (List (List Try))) (old new : SessionState R) (answered : Answer) : Type 0 where
    pub why : Stop
    pub is : answered ≡ answer_of why
    pub served : (image : Image) → IsBegun image old.options old.cpu.rule old → ResumesTrunk rules handed (keeping_for old.options) image source source_later sink sink_later (outcome_of why new) shown.told now.told counted tables_before tables
    pub notes : NotesAnswer shown now why

  -- Or it wasn't released: why; its watch was told nothing; what its notes show; and what they were handed where a call of them failed.
  pub record HasStoppedFollowing (rules : Rules) (handed : Handed) (source source_later : Option Stream) (sink sink_later : Option (List ℕ)) (shown now : Shown) (counted : ℕ) (tables_before tables : Option (List (List Try))) (old new : SessionState R) (why : Unfollowed) : Type 0 where
    pub stopped : (image : Image) → IsBegun image old.options old.cpu.rule old → StopsFollowing rules handed image source source_later sink sink_later shown.told now.told counted new why
    pub tables_same : tables ≡ tables_before
    pub notes : NotesAnswer shown now (stop_as why)
    pub unnoted : UnnotedBy shown.told.unnoted now.told.unnoted new.choices (Err (stop_as why))

  -- what a session that takes over over a trunk comes to
  abbrev pub ResumesBy : Rules → Handed → Option Stream → Option Stream → Option (List ℕ) → Option (List ℕ) → Shown → Shown → ℕ → Option (List (List Try)) → Option (List (List Try)) → SessionState R → SessionState R → Result Answer Unfollowed → Type 0
  ResumesBy rules handed source source_later sink sink_later shown now counted tables_before tables old new (Ok answered) =
      HasResumedTrunk rules handed source source_later sink sink_later shown now counted tables_before tables old new answered
  ResumesBy rules handed source source_later sink sink_later shown now counted tables_before tables old new (Err why) =
      HasStoppedFollowing rules handed source source_later sink sink_later shown now counted tables_before tables old new why

-- what it comes to, as the answer of a session
abbrev pub answer_as : Result Answer Unfollowed → Answer
answer_as (Ok answered) = answered
answer_as (Err why) = answer_of (stop_as why)
