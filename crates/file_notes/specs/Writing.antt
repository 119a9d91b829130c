-- What the two files have after texts were written into both, one file after the other.
use Rattle.std.specs.Prelude.{◌≡◌, ◌≢◌, ◌⊎◌, ℕ, List, [], ◌++◌, take, Option, None, Some, unwrap_or, Result, Ok, Err}
use Rattle.file_notes.specs.Terms.{IoFault, Contents, Holds}
use Rattle.file_notes.specs.Names.{Names}

-- what is kept of a file: nothing where it is started, all where it is added to
abbrev pub Kept : Type 0
Kept = Option (List ℕ) → List ℕ

abbrev pub nothing_kept : Kept
nothing_kept file = []

abbrev pub all_kept : Kept
all_kept file = unwrap_or file []

-- a file has now what was kept of it and a text behind
abbrev pub HasWhole : Kept → List ℕ → Option (List ℕ) → Option (List ℕ) → Type 0
HasWhole kept text old new = new ≡ Some (kept old ++ text)

-- a file is as before, or has what was kept of it and some first bytes of a text behind
abbrev pub HasPart : Kept → List ℕ → Option (List ℕ) → Option (List ℕ) → Type 0
HasPart kept text old new = (new ≡ old) ⊎ ((count : ℕ) × (new ≡ Some (kept old ++ take count text)))

-- ---- one file

-- a text is written into a file. After a fault a part of it may stand there
pub record WritesPart (kept : Kept) (old new : Contents) (name text : List ℕ) : Type 0 where
  pub here : HasPart kept text (old name) (new name)
  pub others : (other : List ℕ) → other ≢ name → new other ≡ old other

abbrev pub Writes : Kept → Option Contents → Option Contents → List ℕ → List ℕ → Result (Unit {0}) IoFault → Type 0
Writes kept None new name text result = Unit {0}
Writes kept (Some old) None name text result = ⊥
Writes kept (Some old) (Some new) name text (Ok done) = Holds old new name (Some (kept (old name) ++ text))
Writes kept (Some old) (Some new) name text (Err fault) = WritesPart kept old new name text

-- ---- both files

abbrev pub AreOthers : Names → Contents → Contents → Type 0
AreOthers names old new = (other : List ℕ) → other ≢ names.record_name → other ≢ names.report_name → new other ≡ old other

-- both texts were written, and all other files are as before
pub record HasBoth (kept : Kept) (names : Names) (of_record of_report : List ℕ) (old new : Contents) : Type 0 where
  pub record_has : HasWhole kept of_record (old names.record_name) (new names.record_name)
  pub report_has : HasWhole kept of_report (old names.report_name) (new names.report_name)
  pub others : AreOthers names old new

-- A part of the record's text may have been written; a part of the report's only behind the whole text of the record. All other
-- files are as before
pub record HasPartly (kept : Kept) (names : Names) (of_record of_report : List ℕ) (old new : Contents) : Type 0 where
  pub record_part : HasPart kept of_record (old names.record_name) (new names.record_name)
  pub report_part :
      (new names.report_name ≡ old names.report_name)
      ⊎ (HasWhole kept of_record (old names.record_name) (new names.record_name) × HasPart kept of_report (old names.report_name) (new names.report_name))
  pub others : AreOthers names old new

-- both texts are written, where the files tell it. After a fault or want of memory, partly
abbrev pub WritesBoth : Kept → Names → List ℕ → List ℕ → Option Contents → Option Contents → Result (Unit {0}) IoFault → Type 0
WritesBoth kept names of_record of_report None new result = Unit {0}
WritesBoth kept names of_record of_report (Some old) None result = ⊥
WritesBoth kept names of_record of_report (Some old) (Some new) (Ok done) = HasBoth kept names of_record of_report old new
WritesBoth kept names of_record of_report (Some old) (Some new) (Err fault) = HasPartly kept names of_record of_report old new

-- both files are started with these texts, whatever they had; and these are added to both
abbrev pub StartsBoth : Names → List ℕ → List ℕ → Option Contents → Option Contents → Result (Unit {0}) IoFault → Type 0
StartsBoth = WritesBoth nothing_kept

abbrev pub AddsBoth : Names → List ℕ → List ℕ → Option Contents → Option Contents → Result (Unit {0}) IoFault → Type 0
AddsBoth = WritesBoth all_kept

-- ---- both files of a session that takes over

-- How far the two were begun. Neither was; or the record is empty, and the report as before or with a part of its text; or the report has its whole text,
-- and the record is empty or has a part of its own
pub data BegunPartly (of_record of_report : List ℕ) (record_old record_new report_old report_new : Option (List ℕ)) : Type 0 where
  Unbegun : record_new ≡ record_old → report_new ≡ report_old → BegunPartly of_record of_report record_old record_new report_old report_new
  Emptied : record_new ≡ Some [] → HasPart nothing_kept of_report report_old report_new → BegunPartly of_record of_report record_old record_new report_old report_new
  Copied : (count : ℕ) → record_new ≡ Some (take count of_record) → HasWhole nothing_kept of_report report_old report_new → BegunPartly of_record of_report record_old record_new report_old report_new

-- the two were begun so far, and all other files are as before
pub record HasBegunPartly (names : Names) (of_record of_report : List ℕ) (old new : Contents) : Type 0 where
  pub begun : BegunPartly of_record of_report (old names.record_name) (new names.record_name) (old names.report_name) (new names.report_name)
  pub others : AreOthers names old new

-- The record is emptied, then the report is started with its text, and then the record gets its own, where the files tell it. After a fault or want of
-- memory, partly
abbrev pub TakesOverBoth : Names → List ℕ → List ℕ → Option Contents → Option Contents → Result (Unit {0}) IoFault → Type 0
TakesOverBoth names of_record of_report None new result = Unit {0}
TakesOverBoth names of_record of_report (Some old) None result = ⊥
TakesOverBoth names of_record of_report (Some old) (Some new) (Ok done) = HasBoth nothing_kept names of_record of_report old new
TakesOverBoth names of_record of_report (Some old) (Some new) (Err fault) = HasBegunPartly names of_record of_report old new
