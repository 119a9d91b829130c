-- What a watch that tries the whole table of each failure has.
use Rattle.std.specs.Prelude.{◌≡◌, ℕ, List, [], ◌∷◌, ◌++◌, map, All, Option, Some, Result, Ok, Err}
use Rattle.diagnosis.specs.Terms.{AllocError, Try, Chance, IsRight, Trial, try_of, Failure, items_of, pieces_of, IsTableOf}
use Rattle.diagnosis.specs.declared.examiner.Examiner.{Examiner}

-- the tables, one of each failure at which it looked
abbrev pub tables_of : Examiner → List (List Try)
tables_of examiner = examiner.tables.items

-- it tells them
abbrev pub tables_told : Examiner → Option (List (List Try))
tables_told examiner = Some (tables_of examiner)

-- how many instructions its trials did
abbrev pub ran_of : Examiner → ℕ
ran_of examiner = examiner.count.number

-- chances were tried, in order, each with the result that it has, and their trials stand behind those that were noted before
pub record NotesTries (failure : Failure) (point : ℕ) (chances : List Chance) (old new : List Try) : Type 0 where
  pub trials : List Trial
  pub chances_are : map (λ (trial : Trial). trial.chance) trials ≡ chances
  pub right : All (IsRight failure.rules.limits (items_of failure) failure.plan (pieces_of failure) point) trials
  pub tries_are : new ≡ old ++ map try_of trials

-- by the answer: after want of memory nothing is said of them
abbrev pub NotesBy : Failure → ℕ → List Chance → List Try → List Try → Result (Unit {0}) AllocError → Type 0
NotesBy failure point chances old new (Ok done) = NotesTries failure point chances old new
NotesBy failure point chances old new (Err fault) = Unit {0}

abbrev pub TableBy : Failure → ℕ → List Try → Result (Unit {0}) AllocError → Type 0
TableBy failure point tries (Ok done) = IsTableOf failure point tries
TableBy failure point tries (Err fault) = Unit {0}

-- by the answer: a table stands behind the others; after want of memory they are as they were
abbrev pub KeepsTable : List (List Try) → List (List Try) → List Try → Result (Unit {0}) AllocError → Type 0
KeepsTable old new tries (Ok done) = new ≡ old ++ tries ∷ []
KeepsTable old new tries (Err fault) = new ≡ old
