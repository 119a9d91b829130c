-- What a whole table has to do with the walk that follows it.
use Rattle.std.specs.Prelude.{◌≡◌, ℕ, List, ◌∷◌, ◌++◌, map, Some, slice_get}
use Rattle.diagnosis.specs.Terms.{Item, Send, Env, Limits, Override, Path, AreBetween, Try, Trial, WalksOver, survivor_in, table, try_of, IsWholeTable}
use Rattle.diagnosis.specs.Diagnosis.{cures}

-- each checkpoint of a ring has sent what it sent with no more items than it took
abbrev pub AreTimed : List Path → Type 0
AreTimed ring = (checkpoint : Path) (index : ℕ) → slice_get ring index ≡ Some checkpoint → AreBetween 0 checkpoint.state.machine.taken checkpoint.state.sends

-- The table begins with the trials of the walk.
abbrev pub TableBegins : Type 0
TableBegins =
    (limits : Limits) (items : List Item) (plan : List Override) (pieces : List Send) (point : ℕ) (ring : List Path) (trials : List Trial) (tries : List Try) → AreTimed ring →
    WalksOver limits items plan pieces point (table ring) trials → IsWholeTable limits items plan pieces point ring tries → (more : List Try) × (tries ≡ map try_of trials ++ more)

-- Where a trial of the walk survives, its environment is the first of the verdict.
abbrev pub VerdictAdopts : Type 0
VerdictAdopts =
    (limits : Limits) (items : List Item) (plan : List Override) (pieces : List Send) (point : ℕ) (ring : List Path) (trials : List Trial) (trial : Trial) (tries : List Try) → AreTimed ring →
    WalksOver limits items plan pieces point (table ring) trials → IsWholeTable limits items plan pieces point ring tries → survivor_in trials ≡ Some trial → (more : List Env) × (cures tries ≡ trial.chance.env ∷ more)
