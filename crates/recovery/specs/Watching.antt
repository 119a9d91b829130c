-- What a watch tells of the failures at which it looked.
use Rattle.std.specs.Prelude.{◌≡◌, ℕ, List, [], ◌∷◌, ◌++◌, map, All, Option, None, Some, Result, Ok, Err}
use Rattle.recovery.specs.Terms.{AllocError, Item, Send, Limits, Override, Path, Try, IsRight, Trial, table, try_of}
use Rattle.recovery.specs.Sessions.{Failure, items_of, pieces_of}

-- the tries of a whole table: each chance of it was tried, in order, with the result that it has
pub record IsWholeTable (limits : Limits) (items : List Item) (plan : List Override) (pieces : List Send) (point : ℕ) (ring : List Path) (tries : List Try) : Type 0 where
  pub trials : List Trial
  pub tries_are : tries ≡ map try_of trials
  pub whole : map (λ (trial : Trial). trial.chance) trials ≡ table ring
  pub right : All (IsRight limits items plan pieces point) trials

-- those of the table of a failure's checkpoints
abbrev pub IsTableOf : Failure → ℕ → List Try → Type 0
IsTableOf failure point tries = IsWholeTable failure.rules.limits (items_of failure) failure.plan (pieces_of failure) point failure.ring tries

-- a watch that tells its tables tells more of them, of which this holds; one that tells none tells none still
abbrev pub TellsMore : Option (List (List Try)) → Option (List (List Try)) → (List (List Try) → Type 0) → Type 0
TellsMore None now holds = now ≡ None
TellsMore (Some tables) now holds = (more : List (List Try)) × (now ≡ Some (tables ++ more)) × holds more

-- one table more is told, that of the failure
abbrev pub TellsTable : Failure → ℕ → Option (List (List Try)) → Option (List (List Try)) → Type 0
TellsTable failure point old new = TellsMore old new (λ more. (tries : List Try) × (more ≡ tries ∷ []) × IsTableOf failure point tries)

-- by the answer of who looks at a failure; after want of memory it tells what it told
abbrev pub LooksBy : Failure → ℕ → Option (List (List Try)) → Option (List (List Try)) → Result (Unit {0}) AllocError → Type 0
LooksBy failure point old new (Ok done) = TellsTable failure point old new
LooksBy failure point old new (Err fault) = new ≡ old
