-- What reading answers.
use Rattle.std.specs.Prelude.{◌≡◌, ℕ, List, Result, Ok, Err}
use Rattle.report_reading.specs.declared.reported.ReadReport.{ReadReport}
use Rattle.report_reading.specs.declared.reported.ReportRefusal.{ReportRefusal}
use Rattle.report_reading.specs.declared.reported.ReportRefusal.TheVariants.{Memory, Refused}
use Rattle.report_reading.specs.Reports.{IsReading}
use Rattle.report_reading.specs.Refusals.{outcome}

-- at Ok a reading of the bytes; bytes that are refused have none, and the line is the first that isn't in its place
abbrev pub ReadsReport : List ℕ → Result ReadReport ReportRefusal → Type 0
ReadsReport bytes (Ok value) = IsReading bytes value
ReadsReport bytes (Err (Refused line)) = (outcome bytes ≡ Err line) × ((value : ReadReport) → IsReading bytes value → ⊥)
ReadsReport bytes (Err Memory) = Unit {0}
