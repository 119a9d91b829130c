-- The files of notes beside another file, as if nothing had been written into that.
use Rattle.std.specs.Prelude.{◌≡◌, ◌≢◌, List, ℕ, Option, None, Some}
use Rattle.file_notes.specs.Terms.{Contents}
use Rattle.file_notes.specs.Names.{Names}

-- these files have under a name what the first ones have, and under each other name what the last ones have
pub record IsBeside (name : List ℕ) (before beside now : Contents) : Type 0 where
  pub here : beside name ≡ before name
  pub others : (other : List ℕ) → other ≢ name → beside other ≡ now other

-- as far as that is told
abbrev pub StandsBeside : List ℕ → Option Contents → Option Contents → Option Contents → Type 0
StandsBeside name None beside now = Unit {0}
StandsBeside name (Some before) (Some beside) (Some now) = IsBeside name before beside now
StandsBeside name (Some before) _ _ = ⊥

-- a name is that of neither file
pub record IsThird (names : Names) (name : List ℕ) : Type 0 where
  pub no_record : names.record_name ≢ name
  pub no_report : names.report_name ≢ name
