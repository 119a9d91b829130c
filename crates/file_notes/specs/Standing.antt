-- What stands in the two files of the notes.
use Rattle.std.specs.Prelude.{◌≡◌, ◌≢◌, ℕ, List, ◌++◌, ◌+◌, length, Option, None, Some}
use Rattle.file_notes.specs.Terms.{Contents, Choice, Episode, Form, choice_lines}
use Rattle.file_notes.specs.Names.{Names, bytes_in}
use Rattle.file_notes.specs.Left.{Left, left_in_record, left_in_report}
use Rattle.file_notes.specs.Texts.{episode_texts}

-- what notes put into the record, and into the report
abbrev pub in_record : List Choice → Left → List ℕ
in_record choices left = choice_lines choices ++ left_in_record left

abbrev pub in_report : Form → List Episode → Left → List ℕ
in_report form episodes left = episode_texts form 0 episodes ++ left_in_report form (length episodes) left

-- what they put into the report where their first episode has this number
abbrev pub in_report_behind : Form → ℕ → List Episode → Left → List ℕ
in_report_behind form first episodes left = episode_texts form first episodes ++ left_in_report form (first + length episodes) left

-- The files had something before, and now the record has besides the lines of these choices, the report the texts of these
-- episodes, and one of them what a call that failed left. All other files are as before
pub record HasNotes (names : Names) (form : Form) (before now : Contents) (choices : List Choice) (episodes : List Episode) (left : Left) : Type 0 where
  pub record_has : bytes_in now names.record_name ≡ bytes_in before names.record_name ++ in_record choices left
  pub report_has : bytes_in now names.report_name ≡ bytes_in before names.report_name ++ in_report form episodes left
  pub others : (other : List ℕ) → other ≢ names.record_name → other ≢ names.report_name → now other ≡ before other

-- the same where the files told what they had before
abbrev pub Stands : Names → Form → Option Contents → Option Contents → List Choice → List Episode → Left → Type 0
Stands names form None now choices episodes left = Unit {0}
Stands names form (Some before) None choices episodes left = ⊥
Stands names form (Some before) (Some now) choices episodes left = HasNotes names form before now choices episodes left

-- the same of notes whose first episode has this number
pub record HasNotesBehind (names : Names) (form : Form) (first : ℕ) (before now : Contents) (choices : List Choice) (episodes : List Episode) (left : Left) : Type 0 where
  pub record_has : bytes_in now names.record_name ≡ bytes_in before names.record_name ++ in_record choices left
  pub report_has : bytes_in now names.report_name ≡ bytes_in before names.report_name ++ in_report_behind form first episodes left
  pub others : (other : List ℕ) → other ≢ names.record_name → other ≢ names.report_name → now other ≡ before other

-- and where the files told what they had before
abbrev pub StandsBehind : Names → Form → ℕ → Option Contents → Option Contents → List Choice → List Episode → Left → Type 0
StandsBehind names form first None now choices episodes left = Unit {0}
StandsBehind names form first (Some before) None choices episodes left = ⊥
StandsBehind names form first (Some before) (Some now) choices episodes left = HasNotesBehind names form first before now choices episodes left
