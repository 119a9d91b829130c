-- The names of the two files, and what stands under a name.
use Rattle.std.specs.Prelude.{◌≢◌, ℕ, List, [], unwrap_or}
use Rattle.file_notes.specs.Terms.{Contents}
use Rattle.file_notes.specs.declared.file_names.FileNames.{FileNames}

-- the names of the record and of the report
pub record Names : Type 0 where
  pub record_name : List ℕ
  pub report_name : List ℕ

abbrev pub names_in : FileNames → Names
names_in names = record { record_name = names.record.now; report_name = names.report.now }

-- the names are two
abbrev pub AreTwo : Names → Type 0
AreTwo names = names.record_name ≢ names.report_name

-- the bytes of a file. One that isn't there has none
abbrev pub bytes_in : Contents → List ℕ → List ℕ
bytes_in files name = unwrap_or (files name) []
