-- The four files that `resume` loads: a program, the record and the report of the host that was killed, and how many bytes each client has.
use Rattle.std.specs.Prelude.{◌≡◌, ◌≢◌, ◌⊎◌, ℕ, ◌*◌, ◌^◌, List, [], ◌∷◌, map, Option, Some, Result, Ok, Err}
use Rattle.schedule_file.specs.Unfinished.{IsUnfinishedReading}
use Rattle.report_reading.specs.Refusals.{outcome}
use Rattle.report_reading.specs.Reports as reported
use Rattle.counts_file.specs.Counts as counted
use Rattle.rx_serve.specs.Terms.{FileCall, Loaded, Contents, Image, IsImage, refusal, Answer, CountsRefused, ElfRefused, FileFault, Memory, RecordRefused, ReportRefused, TooLarge, Episode, VERSION, Unfinished, line_of, unfinished_line, ReadReport, ResumeValue}
use Rattle.rx_serve.specs.declared.resuming_files.FourFiles.{FourFiles}
use Rattle.rx_serve.specs.declared.resuming_files.Handed.{Handed}
use Rattle.rx_serve.specs.declared.resuming_files.Handover.{Handover}
use Rattle.rx_serve.specs.Limits.{counts_limit, program_limit, record_limit, report_limit}
use Rattle.rx_serve.specs.Loading.{HasFile, IsTooLarge}
use Rattle.rx_serve.specs.StandbyFiles.{ReadsCounted}

-- the calls that load them, in this order
abbrev pub loading_four : ResumeValue → List FileCall
loading_four value = Loaded value.program ∷ Loaded value.recorded ∷ Loaded value.reported ∷ Loaded value.counts ∷ []

-- the bytes of the four
pub record FourTexts : Type 0 where
  pub program : List ℕ
  pub recorded : List ℕ
  pub reported : List ℕ
  pub counts : List ℕ

abbrev pub four_in : FourFiles → FourTexts
four_in files = record { program = files.program.items; recorded = files.recorded.items; reported = files.reported.items; counts = files.counts.items }

-- the files of the four names have these bytes
pub record HasFour (told : Option Contents) (value : ResumeValue) (texts : FourTexts) : Type 0 where
  pub program : HasFile told value.program program_limit texts.program
  pub recorded : HasFile told value.recorded record_limit texts.recorded
  pub reported : HasFile told value.reported report_limit texts.reported
  pub counts : HasFile told value.counts counts_limit texts.counts

-- one of them is longer than may be, and those before it aren't
pub data HasLargeOfFour (told : Option Contents) (value : ResumeValue) : Type 0 where
  LargeProgram : IsTooLarge told value.program program_limit → HasLargeOfFour told value
  LargeRecord : (program : List ℕ) → HasFile told value.program program_limit program → IsTooLarge told value.recorded record_limit → HasLargeOfFour told value
  LargeReport :
      (program recorded : List ℕ) → HasFile told value.program program_limit program → HasFile told value.recorded record_limit recorded → IsTooLarge told value.reported report_limit
      → HasLargeOfFour told value
  LargeCounts :
      (program recorded reported : List ℕ) → HasFile told value.program program_limit program → HasFile told value.recorded record_limit recorded
      → HasFile told value.reported report_limit reported → IsTooLarge told value.counts counts_limit → HasLargeOfFour told value

-- the bytes of the four, or why they weren't loaded
abbrev pub LoadsFour : Option Contents → ResumeValue → Result FourFiles Answer → Type 0
LoadsFour told value (Ok files) = HasFour told value (four_in files)
LoadsFour told value (Err TooLarge) = HasLargeOfFour told value
LoadsFour told value (Err FileFault) = Unit {0}
LoadsFour told value (Err Memory) = Unit {0}
LoadsFour told value (Err _) = ⊥

-- ---- what their bytes are read as

-- a text is the record of a host that may have been killed, of the version whose lines say what was asked
pub record IsHanded (text : List ℕ) (value : Unfinished) : Type 0 where
  pub is : IsUnfinishedReading text value
  pub asked : value.version ≡ VERSION

-- what was read of it, as such a record
abbrev pub handed_shown : Handed → Unfinished
handed_shown handed = record { version = VERSION; window = handed.window; frame = handed.frame; lines = map line_of handed.choices.items; finish = handed.finish }

-- a text is no record, and this line is the first one, from 1, that isn't in its place
pub record IsUnread (text : List ℕ) (line : ℕ) : Type 0 where
  pub refused : unfinished_line text ≡ Some line
  pub none : (value : Unfinished) → IsUnfinishedReading text value → ⊥

-- a text is the record of a version whose lines don't say what was asked. The first line tells the version
pub record IsUnasked (text : List ℕ) (line : ℕ) : Type 0 where
  pub value : Unfinished
  pub is : IsUnfinishedReading text value
  pub other : value.version ≢ VERSION
  pub first : line ≡ 1

-- the record of a text, or why it has none that can be followed
abbrev pub ReadsHanded : List ℕ → Result Handed Answer → Type 0
ReadsHanded text (Ok handed) = IsHanded text (handed_shown handed)
ReadsHanded text (Err (RecordRefused line)) = IsUnread text line ⊎ IsUnasked text line
ReadsHanded text (Err Memory) = Unit {0}
ReadsHanded text (Err _) = ⊥

-- a text is a report in which trials of these episodes were adopted
pub record HasAdopted (text : List ℕ) (episodes : List Episode) : Type 0 where
  pub report : ReadReport
  pub is : reported.IsReading text report
  pub adopted : report.adopted ≡ episodes

-- those of a text, or why it is no report: this line is the first one, from 1, that isn't in its place
abbrev pub ReadsAdopted : List ℕ → Result (List Episode) Answer → Type 0
ReadsAdopted text (Ok episodes) = HasAdopted text episodes
ReadsAdopted text (Err (ReportRefused line)) = (outcome text ≡ Err line) × ((report : ReadReport) → reported.IsReading text report → ⊥)
ReadsAdopted text (Err Memory) = Unit {0}
ReadsAdopted text (Err _) = ⊥

-- the bytes of a window of so many MiB
abbrev pub window_bytes : ℕ → ℕ
window_bytes window = window * 2 ^ 20

-- the record, the report and the counts are read from the bytes of their files, and the program's image in the record's window
pub record AreHandedOver (texts : FourTexts) (image : Image) (record_read : Unfinished) (episodes : List Episode) (counts : List (ℕ × ℕ)) : Type 0 where
  pub handed : IsHanded texts.recorded record_read
  pub adopted : HasAdopted texts.reported episodes
  pub counted : counted.IsReading texts.counts counts
  pub is : IsImage texts.program (window_bytes record_read.window) image

-- Why they aren't: the record is read first, then the report, then the counts, and the image last.
abbrev pub HasHandingCause : FourTexts → Answer → Type 0
HasHandingCause texts (RecordRefused line) = ReadsHanded texts.recorded (Err (RecordRefused line))
HasHandingCause texts (ReportRefused line) = ((value : Unfinished) × IsHanded texts.recorded value) × ReadsAdopted texts.reported (Err (ReportRefused line))
HasHandingCause texts (CountsRefused line) =
    ((value : Unfinished) × IsHanded texts.recorded value) × ((episodes : List Episode) × HasAdopted texts.reported episodes) × ReadsCounted texts.counts (Err (CountsRefused line))
HasHandingCause texts (ElfRefused kind) =
    (value : Unfinished) × IsHanded texts.recorded value × ((episodes : List Episode) × HasAdopted texts.reported episodes) × ((counts : List (ℕ × ℕ)) × counted.IsReading texts.counts counts)
    × (refusal texts.program (window_bytes value.window) ≡ Some kind)
HasHandingCause texts Memory = Unit {0}
HasHandingCause texts _ = ⊥

abbrev pub ReadsFour : FourTexts → Result Handover Answer → Type 0
ReadsFour texts (Ok over) = AreHandedOver texts over.image (handed_shown over.handed) over.episodes over.counts
ReadsFour texts (Err end) = HasHandingCause texts end

-- ---- both

-- the files of the four names have bytes, of which this holds
pub record IsOfFour (told : Option Contents) (value : ResumeValue) (P : FourTexts → Type 0) : Type 0 where
  pub texts : FourTexts
  pub files : HasFour told value texts
  pub holds : P texts

-- Why nothing was handed over, of the files as they are. All four are loaded before any of them is read.
abbrev pub HasHandoverCause : Option Contents → ResumeValue → Answer → Type 0
HasHandoverCause told value TooLarge = HasLargeOfFour told value
HasHandoverCause told value FileFault = Unit {0}
HasHandoverCause told value Memory = Unit {0}
HasHandoverCause told value end = IsOfFour told value (λ texts. HasHandingCause texts end)

-- the image, the record, the adopted episodes and the counts of the four files, or why there is none of them
abbrev pub LoadsHandover : Option Contents → ResumeValue → Result Handover Answer → Type 0
LoadsHandover told value (Ok over) = IsOfFour told value (λ texts. AreHandedOver texts over.image (handed_shown over.handed) over.episodes over.counts)
LoadsHandover told value (Err end) = HasHandoverCause told value end
