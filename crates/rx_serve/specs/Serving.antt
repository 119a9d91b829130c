-- The command `serve`: a session of a program for the clients of a port.
use Rattle.std.specs.Prelude.{◌≡◌, ◌≢◌, ◌⊎◌, List, Option, Ok, Err}
use Rattle.rx_base.specs.declared.fault.IoFault.TheVariants as fault
use Rattle.ports.specs.Calls.{PortBinds}
use Rattle.run_history.specs.declared.answer.Answer.TheVariants as answer
use Rattle.rx_serve.specs.Terms.{IoFault, Calls, PortEntry, PortLimits, Image, Answer, Port, ServeValue}
use Rattle.rx_serve.specs.declared.ending.End.{End}
use Rattle.rx_serve.specs.Calling.{before_session}
use Rattle.rx_serve.specs.Ended.{HasNoSession}
use Rattle.rx_serve.specs.Loading.{HasImage}
use Rattle.rx_serve.specs.Noting.{StartsFiles}
use Rattle.rx_serve.specs.Outside.{Outside, IsUntouched}
use Rattle.rx_serve.specs.Running.{HasNotBegun, HasServed}
use Rattle.rx_serve.specs.Settings.{window_of}

-- a port that couldn't be bound, as its answer
abbrev pub IsBindAnswer : IoFault → Answer → Type 0
IsBindAnswer fault.Failed end = end ≡ answer.ReadFault
IsBindAnswer fault.Memory end = end ≡ answer.Memory

-- the program was read, the two files were started, and then the port couldn't be bound. Nothing was accepted, passed or run
pub record HasNotBound (value : ServeValue) (calls calls_later : Option (List PortEntry)) (old new : Outside) (end : End) : Type 0 where
  pub image : Image
  pub program : HasImage old.files value.session.program (window_of value.session) image
  pub starts : StartsFiles value.session old.files new.files (Ok tt)
  pub fault : IoFault
  pub answered : IsBindAnswer fault end.answer
  pub bind : PortBinds calls calls_later value.port (Err fault)
  pub called : Calls old.calls new.calls (before_session value.session)
  pub untouched : IsUntouched old new
  pub nothing : HasNoSession end

-- how many clients a `serve` accepts, how many it has at the same time at most, and whether it may be stopped
abbrev pub limits_of : ServeValue → PortLimits
limits_of value = record { conns = value.conns; at_once = value.at_once; stops = value.stops }

-- The port was bound, behind the first lines of both files, and a session of the program served its connections. Nothing was read of the input, nor
-- written to the output. No give that failed is answered.
pub record HasServedPort (value : ServeValue) (calls calls_later : Option (List PortEntry)) (old new : Outside) (end : End) : Type 0 where
  pub bound : Option (List PortEntry)
  pub bind : PortBinds calls bound value.port (Ok tt)
  pub served : HasServed value.session (Port (limits_of value) bound calls_later) old new end
  pub same_input : new.input ≡ old.input
  pub same_output : new.output ≡ old.output
  pub never_write_fault : end.answer ≢ answer.WriteFault

-- What a `serve` leaves over a port that tells its calls: no session began, and it wasn't called; or it couldn't be bound; or a session served.
abbrev pub ServeEnds : ServeValue → Option (List PortEntry) → Option (List PortEntry) → Outside → Outside → End → Type 0
ServeEnds value calls calls_later old new end =
    (HasNotBegun value.session old new end × (calls_later ≡ calls)) ⊎ (HasNotBound value calls calls_later old new end ⊎ HasServedPort value calls calls_later old new end)
