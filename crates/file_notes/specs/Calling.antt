-- Which calls on the two files were made, in order.
use Rattle.std.specs.Prelude.{◌≡◌, ℕ, Bool, true, false, ◌||◌, List, [], ◌∷◌, All, bytes_eq, Option, Result, Ok, Err}
use Rattle.rx_base.specs.Prefix.{Prefix}
use Rattle.file_notes.specs.Terms.{FileCall, Added, Loaded, Started, Calls}
use Rattle.file_notes.specs.Names.{Names}

-- the calls that start a file with a text
abbrev pub starts_of : List ℕ → List FileCall
starts_of name = Started name ∷ Added name ∷ []

-- the calls that start both files, the record first
abbrev pub starting : Names → List FileCall
starting names = Started names.record_name ∷ Added names.record_name ∷ Started names.report_name ∷ Added names.report_name ∷ []

-- the calls of a session that takes over: the record is started first, and gets its text behind that of the report
abbrev pub taking_over : Names → List FileCall
taking_over names = Started names.record_name ∷ Started names.report_name ∷ Added names.report_name ∷ Added names.record_name ∷ []

-- the calls that end both files, the record first
abbrev pub ending : Names → List FileCall
ending names = Added names.record_name ∷ Added names.report_name ∷ []

-- some first ones of these calls were made, perhaps none or all, and no others
pub record CallsFront (old new : Option (List FileCall)) (calls : List FileCall) : Type 0 where
  pub front : List FileCall
  pub begins : Prefix front calls
  pub made : Calls old new front

-- at Ok all of these calls were made, else some first ones of them, and no others
abbrev pub CallsUpTo : {T E : Type 0} → Option (List FileCall) → Option (List FileCall) → List FileCall → Result T E → Type 0
CallsUpTo old new calls (Ok done) = Calls old new calls
CallsUpTo old new calls (Err fault) = CallsFront old new calls

-- this call adds to the record or to the report
abbrev pub is_addition : Names → FileCall → Bool
is_addition names (Loaded name) = false
is_addition names (Started name) = false
is_addition names (Added name) = bytes_eq name names.record_name || bytes_eq name names.report_name

-- each call that was made adds to the record or to the report
pub record AddsAlone (names : Names) (old new : Option (List FileCall)) : Type 0 where
  pub added : List FileCall
  pub each : All (λ call. is_addition names call ≡ true) added
  pub made : Calls old new added
