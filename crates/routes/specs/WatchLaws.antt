-- What holds of the tables that a watch tells of a session over a trunk.
use Rattle.std.specs.Prelude.{◌≡◌, ◌≢◌, ℕ, List, [], ◌∷◌, ◌++◌, Option, Some}
use Rattle.session_history.specs.declared.ends.SessionBreak.TheVariants as session_break
use Rattle.session_history.specs.declared.ends.Stop.TheVariants as stop
use Rattle.routes.specs.Terms.{Stream, Prefix, Image, Stop, AtEnd, Rules, Episode, Try, Noted, Keeping, Outcome, episodes_of, story_of}
use Rattle.routes.specs.Serving.{Trunk, Watches}

-- there is a table of each episode, in order, and it begins with the tries of the episode
abbrev pub BeginWith : List Episode → List (List Try) → Type 0
BeginWith [] [] = Unit {0}
BeginWith (episode ∷ episodes) (tries ∷ tables) = Prefix episode.tries tries × BeginWith episodes tables
BeginWith _ _ = ⊥

-- So it is, and there is no other table; but where memory ran out others may stand behind.
pub record TablesBegin (episodes : List Episode) (why : Stop) (tables : List (List Try)) : Type 0 where
  pub own : List (List Try)
  pub more : List (List Try)
  pub all : tables ≡ own ++ more
  pub begin : BeginWith episodes own
  pub no_more : why ≢ stop.Breaks session_break.Memory → more ≡ []

-- The tables that a watch told of a session begin with the tries of the session's own walks.
abbrev pub TablesBeginWithTries : Type 0
TablesBeginWithTries =
    (rules : Rules) (keeping : Keeping) (image : Image) (source source_later : Option Stream) (sink sink_later : Option (List ℕ)) (outcome : Outcome) (noted_before noted_now : Noted) (counted : ℕ) (tables : List (List Try))
    (watched : Watches (Trunk source source_later sink sink_later) rules keeping image outcome noted_before noted_now counted (Some []) (Some tables)) →
    TablesBegin (episodes_of (story_of watched.serves.telling) watched.serves.telling.walk) outcome.stop tables

-- At an end there is one of each episode that was noted.
abbrev pub NotedTablesAreTold : Type 0
NotedTablesAreTold =
    (rules : Rules) (keeping : Keeping) (image : Image) (source source_later : Option Stream) (sink sink_later : Option (List ℕ)) (outcome : Outcome) (noted_before noted_now : Noted) (counted : ℕ) (episodes : List Episode) (tables : List (List Try))
    (watched : Watches (Trunk source source_later sink sink_later) rules keeping image outcome noted_before noted_now counted (Some []) (Some tables)) →
    noted_before.episodes ≡ Some [] → noted_now.episodes ≡ Some episodes → AtEnd outcome.stop (λ end. BeginWith episodes tables)
