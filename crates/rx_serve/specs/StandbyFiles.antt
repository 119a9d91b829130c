-- The three files that `standby` loads: a program, the record of the host that stopped, and how many bytes each client has.
use Rattle.std.specs.Prelude.{◌≡◌, ◌⊎◌, ℕ, ◌+◌, ◌^◌, ◌<◌, ◌≤◌, List, [], ◌∷◌, length, Option, Some, Result, Ok, Err}
use Rattle.counts_file.specs.Counts as counted
use Rattle.counts_file.specs.Refusals as uncounted
use Rattle.rx_serve.specs.Terms.{FileCall, Loaded, Contents, Image, IsImage, refusal, Answer, CountsRefused, ElfRefused, FileFault, Memory, RecordRefused, TooLarge, Recorded, IsReading, IsRecord, refused_line, StandbyValue}
use Rattle.rx_serve.specs.declared.standby_files.Takeover.{Takeover}
use Rattle.rx_serve.specs.declared.standby_files.ThreeFiles.{ThreeFiles}
use Rattle.rx_serve.specs.Limits.{counts_limit, program_limit, record_limit}
use Rattle.rx_serve.specs.Loading.{HasFile, IsTooLarge}
use Rattle.rx_serve.specs.Replaying.{window_in}

-- the calls that load them, in this order
abbrev pub loading : StandbyValue → List FileCall
loading value = Loaded value.program ∷ Loaded value.recorded ∷ Loaded value.counts ∷ []

-- the bytes of the three
pub record Texts : Type 0 where
  pub program : List ℕ
  pub recorded : List ℕ
  pub counts : List ℕ

abbrev pub texts_in : ThreeFiles → Texts
texts_in files = record { program = files.program.items; recorded = files.recorded.items; counts = files.counts.items }

-- the files of the three names have these bytes
pub record HasTexts (told : Option Contents) (value : StandbyValue) (texts : Texts) : Type 0 where
  pub program : HasFile told value.program program_limit texts.program
  pub recorded : HasFile told value.recorded record_limit texts.recorded
  pub counts : HasFile told value.counts counts_limit texts.counts

-- one of them is longer than may be, and those before it aren't
pub data HasTooLarge (told : Option Contents) (value : StandbyValue) : Type 0 where
  OfProgram : IsTooLarge told value.program program_limit → HasTooLarge told value
  OfRecord : (program : List ℕ) → HasFile told value.program program_limit program → IsTooLarge told value.recorded record_limit → HasTooLarge told value
  OfCounts : (program recorded : List ℕ) → HasFile told value.program program_limit program → HasFile told value.recorded record_limit recorded → IsTooLarge told value.counts counts_limit → HasTooLarge told value

-- the bytes of the three, or why they weren't loaded
abbrev pub LoadsTexts : Option Contents → StandbyValue → Result ThreeFiles Answer → Type 0
LoadsTexts told value (Ok files) = HasTexts told value (texts_in files)
LoadsTexts told value (Err TooLarge) = HasTooLarge told value
LoadsTexts told value (Err FileFault) = Unit {0}
LoadsTexts told value (Err Memory) = Unit {0}
LoadsTexts told value (Err _) = ⊥

-- ---- what their bytes are read as

-- a text is the record of a run that may be followed: it has fewer than 2^62 instructions
pub record IsFollowed (text : List ℕ) (recorded : Recorded) : Type 0 where
  pub is : IsReading text recorded
  pub short : recorded.steps < 2 ^ 62

-- a text is the record of a longer one, and this line is its last: before it stand the first line and one for each answer of the allocator
pub record IsTooLong (text : List ℕ) (line : ℕ) : Type 0 where
  pub recorded : Recorded
  pub is : IsReading text recorded
  pub long : 2 ^ 62 ≤ recorded.steps
  pub last : line ≡ length recorded.lines + 2

-- a text is no record, and this line is the first one, from 1, that isn't of its form
pub record IsNoRecord (text : List ℕ) (line : ℕ) : Type 0 where
  pub refused : refused_line text ≡ Some line
  pub none : (recorded : Recorded) → IsReading text recorded → ⊥

-- the record of a run that may be followed, or why a text is none
abbrev pub ReadsFollowed : List ℕ → Result Recorded Answer → Type 0
ReadsFollowed text (Ok recorded) = IsFollowed text recorded
ReadsFollowed text (Err (RecordRefused line)) = IsNoRecord text line ⊎ IsTooLong text line
ReadsFollowed text (Err Memory) = Unit {0}
ReadsFollowed text (Err _) = ⊥

-- the counts of a text, or why it has none: this line is the first one, from 1, that isn't of its form
abbrev pub ReadsCounted : List ℕ → Result (List (ℕ × ℕ)) Answer → Type 0
ReadsCounted text (Ok counts) = counted.IsReading text counts
ReadsCounted text (Err (CountsRefused line)) = (uncounted.refused_line text ≡ Some line) × ((counts : List (ℕ × ℕ)) → counted.IsReading text counts → ⊥)
ReadsCounted text (Err Memory) = Unit {0}
ReadsCounted text (Err _) = ⊥

-- the record and the counts are read from the bytes of their files, and the program's image in the record's window
pub record AreTexts (texts : Texts) (image : Image) (recorded : Recorded) (counts : List (ℕ × ℕ)) : Type 0 where
  pub followed : IsFollowed texts.recorded recorded
  pub counted : counted.IsReading texts.counts counts
  pub is : IsImage texts.program (window_in recorded) image

-- Why they aren't: the record is read first, then the counts, then the image.
abbrev pub HasReadingCause : Texts → Answer → Type 0
HasReadingCause texts (RecordRefused line) = ReadsFollowed texts.recorded (Err (RecordRefused line))
HasReadingCause texts (CountsRefused line) = ((recorded : Recorded) × IsFollowed texts.recorded recorded) × ReadsCounted texts.counts (Err (CountsRefused line))
HasReadingCause texts (ElfRefused kind) =
    (recorded : Recorded) × IsFollowed texts.recorded recorded × ((counts : List (ℕ × ℕ)) × counted.IsReading texts.counts counts) × (refusal texts.program (window_in recorded) ≡ Some kind)
HasReadingCause texts Memory = Unit {0}
HasReadingCause texts _ = ⊥

abbrev pub ReadsTexts : Texts → Result Takeover Answer → Type 0
ReadsTexts texts (Ok takeover) = AreTexts texts takeover.image takeover.recorded takeover.counts
ReadsTexts texts (Err end) = HasReadingCause texts end

-- a record, counts and an image are such as a takeover is made of
pub record IsReady (image : Image) (recorded : Recorded) (counts : List (ℕ × ℕ)) : Type 0 where
  pub recorded_is : IsRecord recorded
  pub short : recorded.steps < 2 ^ 62
  pub window : image.window ≡ window_in recorded
  pub counts_are : counted.AreCounts counts

-- ---- both

-- the files of the three names have bytes, of which this holds
pub record IsOfTexts (told : Option Contents) (value : StandbyValue) (P : Texts → Type 0) : Type 0 where
  pub texts : Texts
  pub files : HasTexts told value texts
  pub holds : P texts

-- Why nothing was taken over, of the files as they are. All three are loaded before any of them is read.
abbrev pub HasTakeoverCause : Option Contents → StandbyValue → Answer → Type 0
HasTakeoverCause told value TooLarge = HasTooLarge told value
HasTakeoverCause told value FileFault = Unit {0}
HasTakeoverCause told value Memory = Unit {0}
HasTakeoverCause told value end = IsOfTexts told value (λ texts. HasReadingCause texts end)

-- the image, the record and the counts of the three files, or why there is none of them
abbrev pub LoadsTakeover : Option Contents → StandbyValue → Result Takeover Answer → Type 0
LoadsTakeover told value (Ok takeover) = IsOfTexts told value (λ texts. AreTexts texts takeover.image takeover.recorded takeover.counts)
LoadsTakeover told value (Err end) = HasTakeoverCause told value end
