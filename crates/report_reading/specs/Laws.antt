-- What holds of every report and its text.
use Rattle.std.specs.Prelude.{◌≡◌, ℕ, false, List, ◌++◌, map, Ok, option_map}
use Rattle.report_reading.specs.Terms.{Episode, Tried, Asks, Behind, Contradicts, Exits, Failed, Try}
use Rattle.report_reading.specs.declared.reported.ReadReport.{ReadReport}
use Rattle.report_reading.specs.Cutting.{is_torn}
use Rattle.report_reading.specs.Reports.{IsReading, IsReport, IsTornBehind, text_of}
use Rattle.report_reading.specs.Refusals.{outcome}

-- a text has one reading
abbrev pub OneReading : Type 0
OneReading = (text : List ℕ) (a b : ReadReport) → IsReading text a → IsReading text b → a ≡ b

-- a text has a reading exactly where no line of it is refused, and it is what was read line by line
abbrev pub ReadUnlessRefused : Type 0
ReadUnlessRefused =
    (text : List ℕ) (value : ReadReport) →
    (IsReading text value → outcome text ≡ Ok value)
    × (outcome text ≡ Ok value → IsReading text value)

-- one report begins as another goes on: it has the first of its adopted episodes
pub record BeginsAs (first whole : ReadReport) : Type 0 where
  pub form : first.form ≡ whole.form
  pub rest : List Episode
  pub adopted : first.adopted ++ rest ≡ whole.adopted

-- a report that is cut anywhere behind its first line feed has a reading, whose adopted episodes are the first ones of the whole
abbrev pub CutIsRead : Type 0
CutIsRead =
    (text more : List ℕ) (whole : ReadReport) → IsReading (text ++ more) whole → is_torn text ≡ false →
    (value : ReadReport) × IsReading text value × BeginsAs value whole

-- ---- what a session wrote

-- a trial that ended itself stands in a report as one that asks for the next item
abbrev pub as_told : Tried → Tried
as_told Asks = Asks
as_told (Exits code) = Asks
as_told (Failed cause) = Failed cause
as_told Contradicts = Contradicts
as_told Behind = Behind

abbrev pub told_try : Try → Try
told_try t = record t { tried = as_told t.tried }

abbrev pub told_episode : Episode → Episode
told_episode e = record e { tries = map told_try e.tries }

abbrev pub told_report : ReadReport → ReadReport
told_report value = record value { adopted = map told_episode value.adopted; failed = option_map told_episode value.failed }

-- the text of any report whose numbers are in range is read as it, but that a trial which ended itself is told so
abbrev pub WrittenIsRead : Type 0
WrittenIsRead =
    (value : ReadReport) (torn : List ℕ) →
    IsReport (told_report value) → IsTornBehind value.end torn → IsReading (text_of value ++ torn) (told_report value)
