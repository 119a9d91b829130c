-- What holds of every run.
use Rattle.std.specs.Prelude.{◌≡◌, ℕ, ◌+◌, List, ◌++◌, Some}
use Rattle.run_history.specs.Terms.{Item, Prefix, Choice, Image}
use Rattle.run_history.specs.Machine.{State}
use Rattle.run_history.specs.Run.{Run, run, output}
use Rattle.run_history.specs.Served.{Limits, Override, Path, origin, serve}

-- runs compose: n + m instructions do what m do from where n ended
abbrev pub RunsCompose : Type 0
RunsCompose =
    (items : List Item) (choices : List Choice) (s t : State) (n m : ℕ) →
    run items choices s n ≡ Some t → run items choices s (n + m) ≡ run items choices t m

-- a run stays as it is when more items and answers of the allocator come behind those it was made with
abbrev pub RunsStay : Type 0
RunsStay =
    (items more : List Item) (choices others : List Choice) (s t : State) (n : ℕ) →
    run items choices s n ≡ Some t → run (items ++ more) (choices ++ others) s n ≡ Some t

-- on each connection, the output of a run begins that of each longer run
abbrev pub OutputsGrow : Type 0
OutputsGrow =
    (items : List Item) (choices : List Choice) (s t u : State) (n m conn : ℕ) →
    run items choices s n ≡ Some t → run items choices s (n + m) ≡ Some u → Prefix (output t conn) (output u conn)

-- a served run is a run, of which each answer of the allocator is one that C allows, and which used all of them
abbrev pub ServedRuns : Type 0
ServedRuns =
    (limits : Limits) (image : Image) (items : List Item) (plan : List Override) (path : Path) (n : ℕ) →
    serve limits items plan (origin image) n ≡ Some path → Run image items path.choices n path.state

-- a served run stays as it is when more items come behind
abbrev pub ServedStay : Type 0
ServedStay =
    (limits : Limits) (items more : List Item) (plan : List Override) (first second : Path) (n : ℕ) →
    serve limits items plan first n ≡ Some second → serve limits (items ++ more) plan first n ≡ Some second
