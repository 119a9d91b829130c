-- What the parts of the code answer. Nothing here is promised to callers of the crate.
use Rattle.std.specs.Prelude.{◌≡◌, ℕ, Bool, true, false, List, [], Option, None, Some, option_map, Result, Ok, Err}
use Rattle.std.specs.Borrow.{Bor}
use Rattle.std.specs.declared.alloc.AllocError.{AllocError}
use Rattle.report_reading.specs.Terms.{Episode, Try, behind_line, first_line}
use Rattle.report_reading.specs.declared.reading.Reading.{Reading}
use Rattle.report_reading.specs.declared.reported.Failure.{Failure}
use Rattle.report_reading.specs.declared.reported.ReadReport.{ReadReport}
use Rattle.report_reading.specs.Cutting.{is_torn}

-- an episode with these trials
abbrev pub episode_with : Failure → List Try → Episode
episode_with failure tries = record { point = failure.point; cause = failure.cause; pc = failure.pc; tries = tries }

-- what was read so far
abbrev pub so_far : Reading → ReadReport
so_far reading =
    record { form = reading.form; adopted = reading.adopted.items; failed = option_map (λ failure. episode_with failure reading.tries.items) reading.failure; end = reading.end }

-- a line was taken, or it isn't in its place, or memory ran out
abbrev pub Takes : Option ReadReport → Reading → Result Bool AllocError → Type 0
Takes told new (Ok true) = told ≡ Some (so_far new)
Takes told new (Ok false) = told ≡ None
Takes told new (Err error) = Unit {0}

-- the first line of a text, with its line feed, and what stands behind it; or no line feed stands in the text
abbrev pub IsSplit : List ℕ → Option (Bor (List ℕ) × Bor (List ℕ)) → Type 0
IsSplit text None = is_torn text ≡ true
IsSplit text (Some parts) = (is_torn text ≡ false) × (parts.0.now ≡ first_line text) × (parts.1.now ≡ behind_line text)

-- a failure is what a line is read as, or memory ran out
abbrev pub TellsFailure : Option Episode → Result (Option Failure) AllocError → Type 0
TellsFailure told (Ok value) = option_map (λ failure. episode_with failure []) value ≡ told
TellsFailure told (Err error) = Unit {0}

-- a first line begins a report, or doesn't, or memory ran out
abbrev pub Begins : Option ReadReport → Result (Option Reading) AllocError → Type 0
Begins told (Ok value) = option_map so_far value ≡ told
Begins told (Err error) = Unit {0}
