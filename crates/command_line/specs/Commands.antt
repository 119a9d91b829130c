-- The command that words ask for.
use Rattle.std.specs.Prelude.{◌≡◌, true, ℕ, ◌&&◌, Bool, not, List, [], ◌∷◌, Option, Some, None, if◌then◌else◌, length, slice_get, unwrap_or}
use Rattle.alloc_env.specs.declared.env.Env.{Env}
use Rattle.alloc_env.specs.declared.env.Env.TheVariants.{Plain, Pad, Zero, Isolate, Delay, All}
use Rattle.msg_frame.specs.declared.framing.Framing.TheVariants.{Line, Length, Whole}
use Rattle.command_line.specs.Terms.{find, bytes_eq, Framing}
use Rattle.command_line.specs.Texts.{Text, number_of}
use Rattle.command_line.specs.Parts.{Parts, are_positionals, parts, parts_of}
use Rattle.command_line.specs.Options.{are_options, has_required, number_at, takes_of, value_of}
use Rattle.command_line.specs.declared.run_words.Form.{Form}
use Rattle.command_line.specs.declared.run_words.Form.TheVariants as form
use Rattle.command_line.specs.declared.run_words.Guard.{Guard}
use Rattle.command_line.specs.declared.run_words.Guard.TheVariants as guarded
use Rattle.command_line.specs.declared.command.Command.{Command}
use Rattle.command_line.specs.declared.command.Command.TheVariants.{Run, Asm, Replay, Convert, Standby, Resume, Serve, Diagnose, Drill, Frame, Unframe}
use Rattle.command_line.specs.declared.run_words.RunCommand.{RunCommand}
use Rattle.command_line.specs.declared.command.Asked.{Asked}
use Rattle.command_line.specs.declared.options.CommandName.{CommandName}
use Rattle.command_line.specs.declared.options.CommandName.TheVariants as named
use Rattle.command_line.specs.declared.asm_words.AsmCommand.{AsmCommand}
use Rattle.command_line.specs.declared.asm_words.TheConstants as asm_table
use Rattle.command_line.specs.declared.replay_words.ReplayCommand.{ReplayCommand}
use Rattle.command_line.specs.declared.replay_words.TheConstants as replay_table
use Rattle.command_line.specs.declared.convert_words.ConvertCommand.{ConvertCommand}
use Rattle.command_line.specs.declared.convert_words.TheConstants as convert_table
use Rattle.command_line.specs.declared.standby_words.StandbyCommand.{StandbyCommand}
use Rattle.command_line.specs.declared.standby_words.TheConstants as standby_table
use Rattle.command_line.specs.declared.resume_words.ResumeCommand.{ResumeCommand}
use Rattle.command_line.specs.declared.resume_words.TheConstants as resume_table
use Rattle.command_line.specs.declared.serve_words.ServeCommand.{ServeCommand}
use Rattle.command_line.specs.declared.serve_words.TheConstants as serve_table
use Rattle.command_line.specs.declared.diagnose_words.DiagnoseCommand.{DiagnoseCommand}
use Rattle.command_line.specs.declared.diagnose_words.TheConstants as diagnose_table
use Rattle.command_line.specs.declared.drill_words.DrillCommand.{DrillCommand}
use Rattle.command_line.specs.declared.drill_words.TheConstants as drill_table
use Rattle.command_line.specs.declared.frame_words.TheConstants as frame_table
use Rattle.command_line.specs.declared.run_words.TheConstants as table
use Rattle.command_line.specs.Table.{CommandForm, Row, static_row, static_form, record_row, report_row, env_row, form_row, frame_row, guard_row, diagnose_guard_row, diagnosis_row, port_row, conns_row, stopped_by_row, seed_row, count_row}

-- what a session of a program is asked for
pub record RunValue : Type 0 where
  pub program : Text
  pub recording : Text
  pub report : Text
  pub form : Form
  pub frame : Framing
  pub window : ℕ
  pub hold : ℕ
  pub ring : ℕ
  pub every : ℕ
  pub frames : ℕ
  pub budget : ℕ
  pub keep : ℕ
  pub env : Env
  pub guard : Guard

-- what an assembly is asked for
pub record AsmValue : Type 0 where
  pub source : Text
  pub out : Text

-- what a replay is asked for
pub record ReplayValue : Type 0 where
  pub program : Text
  pub recording : Text

-- what a conversion is asked for
pub record ConvertValue : Type 0 where
  pub program : Text
  pub recording : Text
  pub out : Text

-- what a takeover is asked for: the record of the host that stopped, and the record that is written
pub record StandbyValue : Type 0 where
  pub program : Text
  pub recorded : Text
  pub counts : Text
  pub recording : Text
  pub budget : ℕ

-- what a session that goes on for a host that was killed is asked for: the record and the report of that host, and those that are written. All that a
-- session has is here but its window and its framing
pub record ResumeValue : Type 0 where
  pub program : Text
  pub recorded : Text
  pub reported : Text
  pub counts : Text
  pub recording : Text
  pub report : Text
  pub form : Form
  pub hold : ℕ
  pub ring : ℕ
  pub every : ℕ
  pub frames : ℕ
  pub budget : ℕ
  pub keep : ℕ
  pub env : Env
  pub guard : Guard

-- what a session for the clients of a port is asked for
pub record ServeValue : Type 0 where
  pub session : RunValue
  pub port : ℕ
  pub conns : ℕ
  pub patience : ℕ
  pub at_once : ℕ
  pub stops : Bool
  pub drain : ℕ

-- what a session with a diagnosis is asked for
pub record DiagnoseValue : Type 0 where
  pub session : RunValue
  pub diagnosis : Text

-- what a generated session is asked for
pub record DrillValue : Type 0 where
  pub seed : ℕ
  pub count : ℕ

-- a command with its names and numbers
pub data CommandValue : Type 0 where
  run : RunValue → CommandValue
  asm : AsmValue → CommandValue
  replay : ReplayValue → CommandValue
  convert : ConvertValue → CommandValue
  standby : StandbyValue → CommandValue
  resume : ResumeValue → CommandValue
  serve : ServeValue → CommandValue
  diagnose : DiagnoseValue → CommandValue
  drill : DrillValue → CommandValue
  frame : CommandValue
  unframe : CommandValue

-- the name, the positionals and the options of each command
unfoldable pub run_form : CommandForm
run_form = static_form table.RUN

unfoldable pub asm_form : CommandForm
asm_form = static_form asm_table.ASM

unfoldable pub replay_form : CommandForm
replay_form = static_form replay_table.REPLAY

unfoldable pub convert_form : CommandForm
convert_form = static_form convert_table.CONVERT

unfoldable pub standby_form : CommandForm
standby_form = static_form standby_table.STANDBY

unfoldable pub resume_form : CommandForm
resume_form = static_form resume_table.RESUME

unfoldable pub serve_form : CommandForm
serve_form = static_form serve_table.SERVE

unfoldable pub diagnose_form : CommandForm
diagnose_form = static_form diagnose_table.DIAGNOSE

unfoldable pub drill_form : CommandForm
drill_form = static_form drill_table.DRILL

unfoldable pub frame_form : CommandForm
frame_form = static_form frame_table.FRAME_LINES

unfoldable pub unframe_form : CommandForm
unframe_form = static_form frame_table.UNFRAME

-- the positionals are as many as the command has, all of them names, and the options are of its rows, each at most once,
-- those without a default present
abbrev pub fits : CommandForm → Parts → Bool
fits command p =
    are_positionals (length command.positionals) p.positionals
    && (are_options command.options p.options && has_required command.options p.options)

abbrev pub positional : ℕ → Parts → Text
positional index p = unwrap_or (slice_get p.positionals index) []

abbrev pub form_of : Text → Form
form_of text = if bytes_eq text table.JSON.now then form.Json else form.Text

abbrev pub frame_of : Text → Framing
frame_of text = if bytes_eq text table.LENGTH.now then Length else (if bytes_eq text table.WHOLE.now then Whole else Line)

abbrev pub env_of : Text → Env
env_of text =
    if bytes_eq text table.PAD.now then Pad else
    if bytes_eq text table.ZERO.now then Zero else
    if bytes_eq text table.ISOLATE.now then Isolate else
    if bytes_eq text table.DELAY.now then Delay else
    if bytes_eq text table.ALL.now then All else
    Plain

abbrev pub guard_of : Text → Guard
guard_of text = if bytes_eq text table.EXTENT.now then guarded.Extent else (if bytes_eq text table.BLOCK.now then guarded.Block else guarded.Off)

-- the names and numbers of a session whose command gives it this hold and this guard
abbrev pub session_value : ℕ → Guard → Parts → RunValue
session_value hold guard p = record {
  program = positional 0 p;
  recording = value_of record_row p.options;
  report = value_of report_row p.options;
  form = form_of (value_of form_row p.options);
  frame = frame_of (value_of frame_row p.options);
  window = number_at (static_row table.WINDOW) p.options;
  hold = hold;
  ring = number_at (static_row table.RING) p.options;
  every = number_at (static_row table.EVERY) p.options;
  frames = number_at (static_row table.FRAMES) p.options;
  budget = number_at (static_row table.BUDGET) p.options;
  keep = number_at (static_row table.KEEP) p.options;
  env = env_of (value_of env_row p.options);
  guard = guard;
}

-- the names and numbers of `run`
unfoldable pub run_value : Parts → RunValue
run_value p = session_value (number_at (static_row table.HOLD) p.options) (guard_of (value_of guard_row p.options)) p

-- the numbers of `run`, each with its row
abbrev pub numbers : RunValue → List (Row × ℕ)
numbers value =
    (static_row table.WINDOW, value.window)
    ∷ (static_row table.HOLD, value.hold)
    ∷ (static_row table.RING, value.ring)
    ∷ (static_row table.EVERY, value.every)
    ∷ (static_row table.FRAMES, value.frames)
    ∷ (static_row table.BUDGET, value.budget)
    ∷ (static_row table.KEEP, value.keep)
    ∷ []

-- no two of three texts are alike
abbrev pub differ : Text → Text → Text → Bool
differ first second third = not (bytes_eq first second) && (not (bytes_eq first third) && not (bytes_eq second third))

-- the program, the record and the report of a session have three different names
abbrev pub have_names : Parts → Bool
have_names p = differ (positional 0 p) (value_of record_row p.options) (value_of report_row p.options)

-- the words are those of `run`: its names are three different texts
unfoldable pub is_run : Parts → Bool
is_run p = fits run_form p && have_names p

-- the names of `asm`
unfoldable pub asm_value : Parts → AsmValue
asm_value p = record { source = positional 0 p; out = positional 1 p }

-- the words are those of `asm`: its names are two different texts
unfoldable pub is_asm : Parts → Bool
is_asm p = fits asm_form p && not (bytes_eq (positional 0 p) (positional 1 p))

-- the names of `replay`
unfoldable pub replay_value : Parts → ReplayValue
replay_value p = record { program = positional 0 p; recording = positional 1 p }

-- the words are those of `replay`: its names may be any two texts
unfoldable pub is_replay : Parts → Bool
is_replay p = fits replay_form p

-- the names of `convert`
unfoldable pub convert_value : Parts → ConvertValue
convert_value p = record { program = positional 0 p; recording = positional 1 p; out = positional 2 p }

-- the words are those of `convert`: what is written has another name than the record
unfoldable pub is_convert : Parts → Bool
is_convert p = fits convert_form p && not (bytes_eq (positional 1 p) (positional 2 p))

-- a text is none of three others
abbrev pub is_fourth : Text → Text → Text → Text → Bool
is_fourth first second third fourth = not (bytes_eq first fourth) && (not (bytes_eq second fourth) && not (bytes_eq third fourth))

-- the names and the number of `standby`
unfoldable pub standby_value : Parts → StandbyValue
standby_value p = record {
  program = positional 0 p;
  recorded = positional 1 p;
  counts = positional 2 p;
  recording = value_of record_row p.options;
  budget = number_at (static_row table.BUDGET) p.options;
}

-- the number of `standby`, with its row
abbrev pub standby_numbers : StandbyValue → List (Row × ℕ)
standby_numbers value = (static_row table.BUDGET, value.budget) ∷ []

-- the program, its record and the counts have three different names, and the record that is written has another one
abbrev pub have_four : Parts → Bool
have_four p =
    differ (positional 0 p) (positional 1 p) (positional 2 p)
    && is_fourth (positional 0 p) (positional 1 p) (positional 2 p) (value_of record_row p.options)

-- the words are those of `standby`: its names are four different texts
unfoldable pub is_standby : Parts → Bool
is_standby p = fits standby_form p && have_four p

-- the names and numbers of `resume`
unfoldable pub resume_value : Parts → ResumeValue
resume_value p = record {
  program = positional 0 p;
  recorded = positional 1 p;
  reported = positional 2 p;
  counts = positional 3 p;
  recording = value_of record_row p.options;
  report = value_of report_row p.options;
  form = form_of (value_of form_row p.options);
  hold = number_at (static_row table.HOLD) p.options;
  ring = number_at (static_row table.RING) p.options;
  every = number_at (static_row table.EVERY) p.options;
  frames = number_at (static_row table.FRAMES) p.options;
  budget = number_at (static_row table.BUDGET) p.options;
  keep = number_at (static_row table.KEEP) p.options;
  env = env_of (value_of env_row p.options);
  guard = guard_of (value_of guard_row p.options);
}

-- what its session is asked for as a `run` in this window and this framing, with the record and the report that are written
abbrev pub run_in : ResumeValue → ℕ → Framing → RunValue
run_in value window framing = record {
  program = value.program;
  recording = value.recording;
  report = value.report;
  form = value.form;
  frame = framing;
  window = window;
  hold = value.hold;
  ring = value.ring;
  every = value.every;
  frames = value.frames;
  budget = value.budget;
  keep = value.keep;
  env = value.env;
  guard = value.guard;
}

-- the numbers of `resume`, each with its row
abbrev pub resume_numbers : ResumeValue → List (Row × ℕ)
resume_numbers value =
    (static_row table.HOLD, value.hold)
    ∷ (static_row table.RING, value.ring)
    ∷ (static_row table.EVERY, value.every)
    ∷ (static_row table.FRAMES, value.frames)
    ∷ (static_row table.BUDGET, value.budget)
    ∷ (static_row table.KEEP, value.keep)
    ∷ []

-- the four files that are read have four different names
abbrev pub are_four : Text → Text → Text → Text → Bool
are_four first second third fourth = differ first second third && is_fourth first second third fourth

-- a text is none of four others
abbrev pub is_fifth : Text → Text → Text → Text → Text → Bool
is_fifth first second third fourth fifth = is_fourth first second third fifth && not (bytes_eq fourth fifth)

-- the record and the report that are written have two different names, which none of the four files has
abbrev pub are_new : Text → Text → Text → Text → Text → Text → Bool
are_new first second third fourth record_name report_name =
    is_fifth first second third fourth record_name
    && (is_fifth first second third fourth report_name && not (bytes_eq record_name report_name))

-- no two of the six names are alike
abbrev pub have_six : Parts → Bool
have_six p =
    are_four (positional 0 p) (positional 1 p) (positional 2 p) (positional 3 p)
    && are_new (positional 0 p) (positional 1 p) (positional 2 p) (positional 3 p) (value_of record_row p.options) (value_of report_row p.options)

-- the words are those of `resume`: its names are six different texts
unfoldable pub is_resume : Parts → Bool
is_resume p = fits resume_form p && have_six p

-- the number that a positional writes
abbrev pub number_there : ℕ → Parts → ℕ
number_there index p = unwrap_or (number_of (positional index p)) 0

-- whether a `serve` may be stopped, by the text of who does that
abbrev pub may_stop : Text → Bool
may_stop text = bytes_eq text serve_table.INPUT.now

-- the names and numbers of `serve`: its session holds nothing
unfoldable pub serve_value : Parts → ServeValue
serve_value p = record {
  session = session_value 0 (guard_of (value_of guard_row p.options)) p;
  port = number_there 1 p;
  conns = number_there 2 p;
  patience = number_at (static_row serve_table.PATIENCE) p.options;
  at_once = number_at (static_row serve_table.AT_ONCE) p.options;
  stops = may_stop (value_of stopped_by_row p.options);
  drain = number_at (static_row serve_table.DRAIN) p.options;
}

-- the numbers of `serve`, each with its row: two are positionals, the others are options
abbrev pub serve_numbers : ServeValue → List (Row × ℕ)
serve_numbers value =
    (port_row, value.port)
    ∷ (conns_row, value.conns)
    ∷ (static_row table.WINDOW, value.session.window)
    ∷ (static_row table.RING, value.session.ring)
    ∷ (static_row table.EVERY, value.session.every)
    ∷ (static_row table.FRAMES, value.session.frames)
    ∷ (static_row table.BUDGET, value.session.budget)
    ∷ (static_row table.KEEP, value.session.keep)
    ∷ (static_row serve_table.PATIENCE, value.patience)
    ∷ (static_row serve_table.AT_ONCE, value.at_once)
    ∷ (static_row serve_table.DRAIN, value.drain)
    ∷ []

-- the words are those of `serve`: behind the program stand a port and a number of connections, and its names are three different texts
unfoldable pub is_serve : Parts → Bool
is_serve p = fits serve_form p && (takes_of port_row.takes (positional 1 p) && (takes_of conns_row.takes (positional 2 p) && have_names p))

-- the diagnosis has another name than the program, the record and the report
abbrev pub has_fourth : Parts → Bool
has_fourth p = is_fourth (positional 0 p) (value_of record_row p.options) (value_of report_row p.options) (value_of diagnosis_row p.options)

-- the names and numbers of `diagnose`: those of a `run`, and the name of the diagnosis
unfoldable pub diagnose_value : Parts → DiagnoseValue
diagnose_value p = record { session = session_value (number_at (static_row table.HOLD) p.options) (guard_of (value_of diagnose_guard_row p.options)) p; diagnosis = value_of diagnosis_row p.options }

-- the words are those of `diagnose`: its names are four different texts
unfoldable pub is_diagnose : Parts → Bool
is_diagnose p = fits diagnose_form p && (have_names p && has_fourth p)

-- the numbers of `drill`
unfoldable pub drill_value : Parts → DrillValue
drill_value p = record { seed = number_there 0 p; count = number_there 1 p }

-- the same, each with its row
abbrev pub drill_numbers : DrillValue → List (Row × ℕ)
drill_numbers value = (seed_row, value.seed) ∷ (count_row, value.count) ∷ []

-- the words are those of `drill`: a seed and a number of messages
unfoldable pub is_drill : Parts → Bool
is_drill p = fits drill_form p && (takes_of seed_row.takes (positional 0 p) && takes_of count_row.takes (positional 1 p))

-- `frame` and `unframe` have no words
unfoldable pub is_frame : Parts → Bool
is_frame p = fits frame_form p

unfoldable pub is_unframe : Parts → Bool
is_unframe p = fits unframe_form p

-- the form of each command
abbrev pub form_named : CommandName → CommandForm
form_named named.Run = run_form
form_named named.Asm = asm_form
form_named named.Replay = replay_form
form_named named.Convert = convert_form
form_named named.Standby = standby_form
form_named named.Resume = resume_form
form_named named.Serve = serve_form
form_named named.Diagnose = diagnose_form
form_named named.Drill = drill_form
form_named named.Frame = frame_form
form_named named.Unframe = unframe_form

-- the commands, in the order of the table
abbrev pub every_name : List CommandName
every_name = named.Run ∷ named.Asm ∷ named.Replay ∷ named.Convert ∷ named.Standby ∷ named.Resume ∷ named.Serve ∷ named.Diagnose ∷ named.Drill ∷ named.Frame ∷ named.Unframe ∷ []

-- the command whose name is this word
unfoldable pub name_of : Text → Option CommandName
name_of word = find (λ name. bytes_eq (form_named name).name word) every_name

-- the words with these parts are those behind the name of this command
abbrev pub is_of : CommandName → Parts → Bool
is_of named.Run p = is_run p
is_of named.Asm p = is_asm p
is_of named.Replay p = is_replay p
is_of named.Convert p = is_convert p
is_of named.Standby p = is_standby p
is_of named.Resume p = is_resume p
is_of named.Serve p = is_serve p
is_of named.Diagnose p = is_diagnose p
is_of named.Drill p = is_drill p
is_of named.Frame p = is_frame p
is_of named.Unframe p = is_unframe p

-- the command of this name with the names and numbers of these parts
abbrev pub value_by : CommandName → Parts → CommandValue
value_by named.Run p = run (run_value p)
value_by named.Asm p = asm (asm_value p)
value_by named.Replay p = replay (replay_value p)
value_by named.Convert p = convert (convert_value p)
value_by named.Standby p = standby (standby_value p)
value_by named.Resume p = resume (resume_value p)
value_by named.Serve p = serve (serve_value p)
value_by named.Diagnose p = diagnose (diagnose_value p)
value_by named.Drill p = drill (drill_value p)
value_by named.Frame p = frame
value_by named.Unframe p = unframe

-- the command of a name, if there is one and these are the parts of its words
abbrev pub behind_name : Option CommandName → Parts → Option CommandValue
behind_name None p = None
behind_name (Some name) p = if is_of name p then Some (value_by name p) else None

-- the command that the words behind the program's own name ask for: the first of them says which it is
abbrev pub command_of : List Text → Option CommandValue
command_of [] = None
command_of (word ∷ rest) = behind_name (name_of word) (parts rest)

-- a command of the code, as the value that definitions speak of
abbrev pub run_shown : RunCommand → RunValue
run_shown c = record {
  program = c.program.now;
  recording = c.recording.now;
  report = c.report.now;
  form = c.form;
  frame = c.frame;
  window = c.window;
  hold = c.hold;
  ring = c.ring;
  every = c.every;
  frames = c.frames;
  budget = c.budget;
  keep = c.keep;
  env = c.env;
  guard = c.guard;
}

abbrev pub asm_shown : AsmCommand → AsmValue
asm_shown c = record { source = c.source.now; out = c.out.now }

abbrev pub replay_shown : ReplayCommand → ReplayValue
replay_shown c = record { program = c.program.now; recording = c.recording.now }

abbrev pub convert_shown : ConvertCommand → ConvertValue
convert_shown c = record { program = c.program.now; recording = c.recording.now; out = c.out.now }

abbrev pub standby_shown : StandbyCommand → StandbyValue
standby_shown c = record { program = c.program.now; recorded = c.recorded.now; counts = c.counts.now; recording = c.recording.now; budget = c.budget }

abbrev pub resume_shown : ResumeCommand → ResumeValue
resume_shown c = record {
  program = c.program.now;
  recorded = c.recorded.now;
  reported = c.reported.now;
  counts = c.counts.now;
  recording = c.recording.now;
  report = c.report.now;
  form = c.form;
  hold = c.hold;
  ring = c.ring;
  every = c.every;
  frames = c.frames;
  budget = c.budget;
  keep = c.keep;
  env = c.env;
  guard = c.guard;
}

abbrev pub serve_shown : ServeCommand → ServeValue
serve_shown c = record { session = run_shown c.session; port = c.port; conns = c.conns; patience = c.patience; at_once = c.at_once; stops = c.stops; drain = c.drain }

abbrev pub diagnose_shown : DiagnoseCommand → DiagnoseValue
diagnose_shown c = record { session = run_shown c.session; diagnosis = c.diagnosis.now }

abbrev pub drill_shown : DrillCommand → DrillValue
drill_shown c = record { seed = c.seed; count = c.count }

abbrev pub shown : Command → CommandValue
shown (Run c) = run (run_shown c)
shown (Asm c) = asm (asm_shown c)
shown (Replay c) = replay (replay_shown c)
shown (Convert c) = convert (convert_shown c)
shown (Standby c) = standby (standby_shown c)
shown (Resume c) = resume (resume_shown c)
shown (Serve c) = serve (serve_shown c)
shown (Diagnose c) = diagnose (diagnose_shown c)
shown (Drill c) = drill (drill_shown c)
shown Frame = frame
shown Unframe = unframe

-- the words ask for this command, and these stand behind its name
pub record Asks (words : List Text) (asked : Asked) : Type 0 where
  pub taken : is_of asked.name (parts_of asked.behind.now) ≡ true
  pub value : command_of words ≡ Some (value_by asked.name (parts_of asked.behind.now))
