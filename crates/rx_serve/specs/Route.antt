-- What a session that served a route passed there, and when that is served to its end.
use Rattle.std.specs.Prelude.{◌≡◌, ℕ, List, ◌++◌, true, Option, Some, IfSome}
use Rattle.std.specs.Io.KnownBytes.{Appends}
use Rattle.session_history.specs.declared.ends.SessionEnd.TheVariants as session_end
use Rattle.rx_serve.specs.Terms.{IsDrained, Prefix, sent_to, PortEntry, PortLimits, payload, Answer, output, Session, journal_of, IsEnd, Rules, is_open, EndsAfter, given_to, Port, Route, Trunk}
use Rattle.rx_serve.specs.Outside.{Outside}

-- the trunk of input and output
abbrev pub trunk_of : Outside → Outside → Route
trunk_of old new = Trunk old.input new.input old.output new.output

-- What was passed to each connection is a prefix of what the run emits on it. Where the session came to an end without fault or want of memory, it is
-- all of it, on each connection still open.
pub record Passed (rules : Rules) (session : Session) (end : Answer) (bytes : ℕ → List ℕ) : Type 0 where
  pub fronts : (conn : ℕ) → Prefix (bytes conn) (output session.survivor.now.state conn)
  pub all : IsEnd end → (conn : ℕ) → is_open rules.bounds (journal_of session) conn ≡ true → bytes conn ≡ output session.survivor.now.state conn

-- over a trunk: what the bytes carry that were written behind those that stood there, and what clients had of it before the session
pub record PassedTrunk (rules : Rules) (session : Session) (end : Answer) (before : List ℕ) (later : Option (List ℕ)) : Type 0 where
  pub written : List ℕ
  pub wrote : Appends (Some before) later written
  pub passed : Passed rules session end (λ conn. sent_to conn rules.bounds.before.had ++ payload conn written)

-- over a port: what the gives took among the calls that were made behind those before
pub record PassedCalls (rules : Rules) (session : Session) (end : Answer) (before : List PortEntry) (later : Option (List PortEntry)) : Type 0 where
  pub calls : List PortEntry
  pub made : later ≡ Some (before ++ calls)
  pub passed : Passed rules session end (λ conn. given_to conn calls)

-- as far as that is told
abbrev pub PassedOver : Route → Rules → Session → Answer → Type 0
PassedOver (Trunk source source_later sink sink_later) rules session end = IfSome sink (λ before. PassedTrunk rules session end before sink_later)
PassedOver (Port limits calls calls_later) rules session end = IfSome calls (λ before. PassedCalls rules session end before calls_later)

-- the calls that were made behind those before are such as stand at Finished: each connection that was accepted was closed, and as many were accepted as
-- the limits say, unless a stop was asked for
pub record IsServed (limits : PortLimits) (before : List PortEntry) (later : Option (List PortEntry)) : Type 0 where
  pub calls : List PortEntry
  pub made : later ≡ Some (before ++ calls)
  pub ends : EndsAfter limits calls session_end.Finished

-- it was served to its end: no byte of the source is left, or each connection was closed, and no more are to come
abbrev pub IsDone : Route → Type 0
IsDone (Trunk source source_later sink sink_later) = IfSome source (λ _. IsDrained source_later)
IsDone (Port limits calls calls_later) = IfSome calls (λ before. IsServed limits before calls_later)
