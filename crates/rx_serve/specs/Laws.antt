-- What holds of a `run` and of a `serve`, and of a `replay` and a `convert` of the record that a `run` left.
use Rattle.std.specs.Prelude.{[], ◌≡◌, ◌≢◌, ◌++◌, ℕ, false, List, Option, Some, None, IfSome}
use Rattle.rx_serve.specs.Terms.{Stream, Contents, PortEntry, Answer, State, output, Stop, journal_of, IsComplete, IsEnd, answer_of, AreHeeded, is_gone, Recorded, VERSION, AreAllHeeded, given_to, WritesSends, Port, Route, Trunk, CommandValue, ConvertValue, ReplayValue, RunValue, ServeValue}
use Rattle.rx_serve.specs.Settings.{rules_of_run}
use Rattle.command_line.specs.Ranges.{AreInRange}
use Rattle.run_history.specs.declared.answer.Answer.TheVariants as answer
use Rattle.rx_serve.specs.declared.ending.End.{End}
use Rattle.rx_serve.specs.Calling.{replayed}
use Rattle.rx_serve.specs.Running.{HasServed}
use Rattle.rx_serve.specs.Commands.{ConvertEnds, ReplayEnds, Ends}
use Rattle.rx_serve.specs.Limits.{record_limit}
use Rattle.rx_serve.specs.Loading.{IsTooLarge}
use Rattle.rx_serve.specs.Outside.{Outside}
use Rattle.rx_serve.specs.Route.{trunk_of}
use Rattle.rx_serve.specs.Serving.{ServeEnds}
use Rattle.rx_serve.specs.Replaying.{HasRecord}

-- A `replay` has what a `run` had: the same bytes as its program, as its record those that the run left, and the same input from its first byte.
pub record HasSameOutside (value : RunValue) (replaying : ReplayValue) (files files_later again : Contents) (input input_again : Stream) : Type 0 where
  pub program : again replaying.program ≡ files value.program
  pub recording : again replaying.recording ≡ files_later value.recording
  pub bytes : input_again.left ≡ input.left

-- It came to its record's end; or a fault or want of memory broke it off; or the record is longer than one that is loaded.
abbrev pub IsReplayedBy : Contents → ReplayValue → Answer → Type 0
IsReplayedBy again replaying answer.Finished = Unit {0}
IsReplayedBy again replaying answer.ReadFault = Unit {0}
IsReplayedBy again replaying answer.WriteFault = Unit {0}
IsReplayedBy again replaying answer.FileFault = Unit {0}
IsReplayedBy again replaying answer.Memory = Unit {0}
IsReplayedBy again replaying answer.TooLarge = IsTooLarge (Some again) replaying.recording record_limit
IsReplayedBy again replaying _ = ⊥

-- The record of a session that came to an end is replayed over the same input. At Finished the frames of the sends of the session's run were
-- written, and no byte more.
abbrev pub RecordsAreReplayed : Type 0
RecordsAreReplayed =
    (value : RunValue) (replaying : ReplayValue) (files files_later files_again : Contents) (input input_again : Stream) (old new again again_later : Outside) (end end_again : End)
    (served : HasServed value (trunk_of (record old { input = Some input }) new) (record old { files = Some files; input = Some input }) (record new { files = Some files_later }) end) →
    ReplayEnds replaying (record again { files = Some files_again; input = Some input_again }) again_later end_again →
    AreInRange value → IsEnd end.answer → HasSameOutside value replaying files files_later files_again input input_again →
    IsReplayedBy files_again replaying end_again.answer × (end_again.answer ≡ answer.Finished → WritesSends again.output again_later.output served.noted.serves.telling.account.survivor.now.state.sends)

-- `convert` of a record of version 2 writes the same record, byte for byte.
abbrev pub SecondVersionStays : Type 0
SecondVersionStays =
    (value : ConvertValue) (files files_later : Contents) (old new : Outside) (end : End) (recorded : Recorded) →
    ConvertEnds value (record old { files = Some files }) (record new { files = Some files_later }) end → HasRecord (Some files) value.recording recorded → recorded.version ≡ VERSION →
    end.answer ≡ answer.Finished → files_later value.out ≡ files value.recording

-- So is the record of a session that came to an end, over the same input. At Finished what was written is that record.
abbrev pub RecordsAreConverted : Type 0
RecordsAreConverted =
    (value : RunValue) (converting : ConvertValue) (files files_later files_again files_converted : Contents) (input input_again : Stream) (old new again again_later : Outside) (end end_again : End)
    (served : HasServed value (trunk_of (record old { input = Some input }) new) (record old { files = Some files; input = Some input }) (record new { files = Some files_later }) end) →
    ConvertEnds converting (record again { files = Some files_again; input = Some input_again }) (record again_later { files = Some files_converted }) end_again →
    AreInRange value → IsEnd end.answer → HasSameOutside value (replayed converting) files files_later files_again input input_again →
    IsReplayedBy files_again (replayed converting) end_again.answer × (end_again.answer ≡ answer.Finished → files_converted converting.out ≡ files_later value.recording)

-- BadWords is answered to words of no command alone.
abbrev pub OnlyBadWordsAreRefused : Type 0
OnlyBadWordsAreRefused = (asked : Option CommandValue) (calls calls_later : Option (List PortEntry)) (old new : Outside) (end : End) → Ends asked calls calls_later old new end → end.answer ≡ answer.BadWords → asked ≡ None

-- Where the input of a `run` has the frames of events that the session heeds, each of them, no answer says that the input is refused: at Finished
-- every item was taken; else the program ended itself or failed, or there was a fault or want of memory.
abbrev pub GoodInputIsTaken : Type 0
GoodInputIsTaken =
    (value : RunValue) (input : Stream) (old new : Outside) (end : End) (served : HasServed value (trunk_of (record old { input = Some input }) new) (record old { input = Some input }) new end) →
    AreAllHeeded (rules_of_run value).bounds input.left → (why : Stop) × (end.answer ≡ answer_of why) × IsComplete (rules_of_run value) served.noted.serves.telling.account why

-- At an end of a `run` that holds nothing back, and that needed no recovery, the frames of its run's sends were written, in order, each whole, and no
-- byte more.
abbrev pub AllSendsAreWritten : Type 0
AllSendsAreWritten =
    (value : RunValue) (input : Stream) (old new : Outside) (end : End) (served : HasServed value (trunk_of (record old { input = Some input }) new) (record old { input = Some input }) new end) →
    IsEnd end.answer → value.hold ≡ 0 → served.noted.serves.telling.account.earlier ≡ [] → WritesSends old.output new.output served.noted.serves.telling.account.survivor.now.state.sends

-- No answer of a `serve` says that its input is refused, nor that a give failed.
abbrev pub NoServeIsRefused : Type 0
NoServeIsRefused =
    (value : ServeValue) (calls calls_later : Option (List PortEntry)) (old new : Outside) (end : End) → ServeEnds value calls calls_later old new end →
    ((kind offset : ℕ) → end.answer ≢ answer.InputRefused kind offset) × (end.answer ≢ answer.WriteFault)

-- what was served are the clients of a port
abbrev pub OfClients : Route → Type 0
OfClients (Trunk source source_later sink sink_later) = ⊥
OfClients (Port limits calls calls_later) = Unit {0}

-- Where no limit refuses an event that came from the clients of a port, no answer of its session says so: at Finished every item was taken; else the
-- program ended itself or failed, or there was a fault or want of memory.
abbrev pub GoodClientsAreServed : Type 0
GoodClientsAreServed =
    (value : ServeValue) (route : Route) (old new : Outside) (end : End) (served : HasServed value.session route old new end) →
    OfClients route → AreHeeded (rules_of_run value.session).bounds (journal_of served.noted.serves.telling.account) →
    (why : Stop) × (end.answer ≡ answer_of why) × IsComplete (rules_of_run value.session) served.noted.serves.telling.account why

-- for each connection the gives among the calls that were made behind those before took all that a run sends there
pub record GivesAll (before : List PortEntry) (later : Option (List PortEntry)) (state : State) : Type 0 where
  pub calls : List PortEntry
  pub made : later ≡ Some (before ++ calls)
  pub all : (conn : ℕ) → given_to conn calls ≡ output state conn

-- as far as they are told
abbrev pub GivesOver : Route → State → Type 0
GivesOver (Trunk source source_later sink sink_later) state = Unit {0}
GivesOver (Port limits calls calls_later) state = IfSome calls (λ before. GivesAll before calls_later state)

-- So it is at an end of a `serve` that needed no recovery and found no client gone.
abbrev pub AllSendsAreGiven : Type 0
AllSendsAreGiven =
    (value : ServeValue) (route : Route) (old new : Outside) (end : End) (served : HasServed value.session route old new end) →
    OfClients route → IsEnd end.answer → value.session.hold ≡ 0 → served.noted.serves.telling.account.earlier ≡ [] → ((conn : ℕ) → is_gone conn (journal_of served.noted.serves.telling.account) ≡ false) →
    GivesOver route served.noted.serves.telling.account.survivor.now.state
