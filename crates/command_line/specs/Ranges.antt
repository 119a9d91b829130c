-- The ranges of the numbers of a command, as its table has them.
use Rattle.std.specs.Prelude.{◌≡◌, ℕ, ◌≤◌, Bool, true, false, List, [], ◌∷◌, Some, filter, map}
use Rattle.command_line.specs.declared.options.TakesOf.TheVariants.{Name, OneOf, Number}
use Rattle.command_line.specs.Texts.{Text}
use Rattle.command_line.specs.Table.{Row, Takes, conns_row, count_row, port_row, seed_row}
use Rattle.command_line.specs.Commands.{CommandValue, DiagnoseValue, DrillValue, ResumeValue, RunValue, ServeValue, StandbyValue, command_of, diagnose, diagnose_form, drill, drill_form, drill_numbers, numbers, resume, resume_form, resume_numbers, run, run_form, serve, serve_form, serve_numbers, standby, standby_form, standby_numbers}

-- a row takes numbers
abbrev pub takes_numbers : Takes → Bool
takes_numbers Name = false
takes_numbers (OneOf texts) = false
takes_numbers (Number least most) = true

-- a row takes numbers, and this one is of its range
abbrev pub IsInRange : Takes → ℕ → Type 0
IsInRange Name n = ⊥
IsInRange (OneOf texts) n = ⊥
IsInRange (Number least most) n = (least ≤ n) × (n ≤ most)

-- each of these numbers is in the range of its row
abbrev pub EachInRange : List (Row × ℕ) → Type 0
EachInRange [] = Unit {0}
EachInRange (number ∷ rest) = IsInRange number.0.takes number.1 × EachInRange rest

-- the numbers of `run` are in the ranges of their rows
abbrev pub AreInRange : RunValue → Type 0
AreInRange value = EachInRange (numbers value)

-- the numbers of a command are in the ranges of their rows, and the session of `serve` holds nothing; those of `diagnose` are those of its `run`; the
-- others have no numbers
abbrev pub HasRanges : CommandValue → Type 0
HasRanges (run value) = AreInRange value
HasRanges (serve value) = EachInRange (serve_numbers value) × (value.session.hold ≡ 0)
HasRanges (diagnose value) = AreInRange value.session
HasRanges (standby value) = EachInRange (standby_numbers value)
HasRanges (resume value) = EachInRange (resume_numbers value)
HasRanges (drill value) = EachInRange (drill_numbers value)
HasRanges _ = Unit {0}

-- so has each command that words ask for
abbrev pub RangesOf : Type 0
RangesOf = (words : List Text) (command : CommandValue) → command_of words ≡ Some command → HasRanges command

abbrev pub rows_among : List (Row × ℕ) → List Row
rows_among numbered = map (λ (number : Row × ℕ). number.0) numbered

abbrev pub numeric : List Row → List Row
numeric rows = filter (λ (row : Row). takes_numbers row.takes) rows

-- and each row of the table that takes numbers is among those
abbrev pub NumbersOf : Type 0
NumbersOf =
    ((value : RunValue) → rows_among (numbers value) ≡ numeric run_form.options)
    × ((value : ServeValue) → rows_among (serve_numbers value) ≡ port_row ∷ conns_row ∷ numeric serve_form.options)
    × ((value : DiagnoseValue) → rows_among (numbers value.session) ≡ numeric diagnose_form.options)
    × ((value : DrillValue) → rows_among (drill_numbers value) ≡ seed_row ∷ count_row ∷ numeric drill_form.options)
    × ((value : StandbyValue) → rows_among (standby_numbers value) ≡ numeric standby_form.options)
    × ((value : ResumeValue) → rows_among (resume_numbers value) ≡ numeric resume_form.options)
