-- What each command leaves.
use Rattle.std.specs.Prelude.{◌≡◌, ◌⊎◌, ℕ, List, Option, Some, None}
use Rattle.run_history.specs.declared.answer.Answer.TheVariants as answer
use Rattle.rx_serve.specs.Terms.{PortEntry, framing, unframing, CallsFront, AsmValue, CommandValue, ConvertValue, ReplayValue, RunValue, asm, convert, diagnose, drill, frame, replay, resume, run, serve, standby, unframe}
use Rattle.rx_serve.specs.declared.ending.End.{End}
use Rattle.rx_serve.specs.Assembly.{Assembles, HasAsmCause}
use Rattle.rx_serve.specs.Calling.{CallsAsm, CallsConvert, replaying}
use Rattle.rx_serve.specs.Converting.{ConvertsFile, TellsConversion}
use Rattle.rx_serve.specs.Drilling.{DrillLeaves}
use Rattle.rx_serve.specs.Ended.{HasNoSession}
use Rattle.rx_serve.specs.Outside.{Outside, IsUntouched}
use Rattle.rx_serve.specs.Replaying.{ReplaysFile, TellsFile}
use Rattle.rx_serve.specs.Resuming.{ResumeEnds}
use Rattle.rx_serve.specs.Route.{trunk_of}
use Rattle.rx_serve.specs.Running.{HasNotBegun, HasServed}
use Rattle.rx_serve.specs.Serving.{ServeEnds}
use Rattle.rx_serve.specs.Diagnosing.{DiagnoseEnds}
use Rattle.rx_serve.specs.StandingBy.{StandbyEnds}
use Rattle.rx_serve.specs.TextFrames.{TurnsInput}

-- what `run` leaves
abbrev pub RunEnds : RunValue → Outside → Outside → End → Type 0
RunEnds value old new end = HasNotBegun value old new end ⊎ HasServed value (trunk_of old new) old new end

-- what `asm` leaves: the executable of the text's image, or why it has none. Nothing else was touched
pub record AsmEnds (value : AsmValue) (old new : Outside) (end : End) : Type 0 where
  pub assembles : Assembles old.files new.files value.source value.out end.answer
  pub called : CallsAsm value.source value.out old.calls new.calls end.answer
  pub cause : HasAsmCause old.files value.source end.answer
  pub untouched : IsUntouched old new
  pub nothing : HasNoSession end

-- what `replay` leaves: a replay of the record, or why none began; and at Mismatch what differs. No file was touched
pub record ReplayEnds (value : ReplayValue) (old new : Outside) (end : End) : Type 0 where
  pub replays : ReplaysFile value old new end.answer
  pub differs : TellsFile value old new end.answer replays end.difference
  pub called : CallsFront old.calls new.calls (replaying value)
  pub same_files : new.files ≡ old.files
  pub nothing : HasNoSession end

-- what `convert` leaves: the record of version 2 of the recorded run, or why there is none; and at Mismatch what differs. Nothing was written to
-- the output
pub record ConvertEnds (value : ConvertValue) (old new : Outside) (end : End) : Type 0 where
  pub converts : ConvertsFile value old new end.answer
  pub differs : TellsConversion value old new end.answer converts end.difference
  pub called : CallsConvert value old.calls new.calls end.answer
  pub same_output : new.output ≡ old.output
  pub nothing : HasNoSession end

-- what words of no command leave: they are refused, and nothing was touched
pub record IsRefused (old new : Outside) (end : End) : Type 0 where
  pub answered : end.answer ≡ answer.BadWords
  pub same : new ≡ old
  pub nothing : HasNoSession end

-- What the words leave, by the command that they ask for: a line for each command. The calls on the port are those of `serve` alone.
abbrev pub Ends : Option CommandValue → Option (List PortEntry) → Option (List PortEntry) → Outside → Outside → End → Type 0
Ends None calls calls_later old new end = IsRefused old new end
Ends (Some (run value)) calls calls_later old new end = RunEnds value old new end
Ends (Some (asm value)) calls calls_later old new end = AsmEnds value old new end
Ends (Some (replay value)) calls calls_later old new end = ReplayEnds value old new end
Ends (Some (convert value)) calls calls_later old new end = ConvertEnds value old new end
Ends (Some (standby value)) calls calls_later old new end = StandbyEnds value old new end
Ends (Some (resume value)) calls calls_later old new end = ResumeEnds value old new end
Ends (Some (serve value)) calls calls_later old new end = ServeEnds value calls calls_later old new end
Ends (Some (diagnose value)) calls calls_later old new end = DiagnoseEnds value old new end
Ends (Some (drill value)) calls calls_later old new end = DrillLeaves value old new end
Ends (Some frame) calls calls_later old new end = TurnsInput framing old new end
Ends (Some unframe) calls calls_later old new end = TurnsInput unframing old new end

-- the words ask for the command that listens
abbrev pub Listens : Option CommandValue → Type 0
Listens (Some (serve value)) = Unit {0}
Listens _ = ⊥

-- the words ask for a recorded run to be done again
abbrev pub Replays : Option CommandValue → Type 0
Replays (Some (replay value)) = Unit {0}
Replays (Some (convert value)) = Unit {0}
Replays (Some (standby value)) = Unit {0}
Replays _ = ⊥

-- where a command's events come from, of two counts of faults: that of the input, and that of the port
abbrev pub heard_by : Option CommandValue → ℕ → ℕ → ℕ
heard_by (Some (serve value)) input port = port
heard_by _ input port = input
