-- What calls of notes have failed where a session that follows stops.
use Rattle.session_history.specs.declared.ends.SessionBreak.TheVariants as session_break
use Rattle.session_history.specs.declared.ends.Stop.TheVariants as stop
use Rattle.session_history.specs.declared.ends.SessionBreak.{SessionBreak}
use Rattle.rx_engine.proofs.Terms.{Err, List, Ok, Option, inl, inr, ◌≡◌, Result, Choice, Stop, Unnoted, FailsAtChoices, IsNoteFault, IsUnnoted, UnnotedBy}

-- one that was handed answers of the allocator
pub failed_unnoted : {old new : Option Unnoted} {choices : List Choice} (why : SessionBreak) → IsNoteFault why → FailsAtChoices old new choices → UnnotedBy old new choices (Err (stop.Breaks why))
failed_unnoted session_break.ReadFault never failed = absurd never
failed_unnoted session_break.WriteFault never failed = absurd never
failed_unnoted session_break.FileFault note failed = failed
failed_unnoted session_break.Memory note failed = inr failed

-- none
pub none_failed : {old new : Option Unnoted} (choices : List Choice) (result : Result (Unit {0}) Stop) → IsUnnoted result → new ≡ old → UnnotedBy old new choices result
none_failed choices (Ok done) unnoted same = same
none_failed choices (Err (stop.Ends end)) unnoted same = same
none_failed choices (Err (stop.Breaks session_break.ReadFault)) unnoted same = same
none_failed choices (Err (stop.Breaks session_break.WriteFault)) unnoted same = same
none_failed choices (Err (stop.Breaks session_break.FileFault)) never same = absurd never
none_failed choices (Err (stop.Breaks session_break.Memory)) unnoted same = inl same
