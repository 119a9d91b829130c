-- Ports in memory of which certain calls are to fail.
use Rattle.std.specs.Prelude.{◌≡◌, ℕ, ◌==◌, ◌&&◌, Bool, true, false, List, [], ◌∷◌, Result, Ok, Err, if◌then◌else◌}
use Rattle.rx_base.specs.Planned.{one_more}
use Rattle.ports.specs.Terms.{IoFault, Failed, Memory}
use Rattle.ports.specs.declared.port_calls.PortCall.{PortCall}
use Rattle.ports.specs.declared.port_calls.PortCall.TheVariants as call

-- The calls that are to fail, each by its kind and its number among the calls of that kind, counted from 1. How many calls of each
-- kind were made. How many binds, waits and accepts failed, and how many takes and gives.
pub record PortPlan : Type 0 where
  pub fails : List (PortCall × ℕ)
  pub binds : ℕ
  pub waits : ℕ
  pub accepts : ℕ
  pub takes : ℕ
  pub gives : ℕ
  pub faults : ℕ
  pub connection_faults : ℕ

-- a plan of which no call was made yet
abbrev pub first_port_plan : List (PortCall × ℕ) → PortPlan
first_port_plan fails = record { fails = fails; binds = 0; waits = 0; accepts = 0; takes = 0; gives = 0; faults = 0; connection_faults = 0 }

-- whether two calls are of one kind
abbrev pub is_kind : PortCall → PortCall → Bool
is_kind call.Bind call.Bind = true
is_kind call.Wait call.Wait = true
is_kind call.Accept call.Accept = true
is_kind call.Take call.Take = true
is_kind call.Give call.Give = true
is_kind _ _ = false

-- whether the call of a kind with a number is to fail
abbrev pub is_to_fail : PortCall → ℕ → List (PortCall × ℕ) → Bool
is_to_fail asked number [] = false
is_to_fail asked number (fail ∷ fails) = if fail.1 == number && is_kind fail.0 asked then true else is_to_fail asked number fails

-- how many calls of a kind were made
abbrev pub made : PortCall → PortPlan → ℕ
made call.Bind plan = plan.binds
made call.Wait plan = plan.waits
made call.Accept plan = plan.accepts
made call.Take plan = plan.takes
made call.Give plan = plan.gives

-- whether the next call of a kind fails: it is to fail, or it fails for another reason
abbrev pub port_fails : PortCall → Bool → PortPlan → Bool
port_fails asked besides plan = if besides then true else is_to_fail asked (one_more (made asked plan)) plan.fails

-- one more, where something failed
abbrev pub raised : Bool → ℕ → ℕ
raised fails count = if fails then one_more count else count

-- one more call of a kind was made, and failed or not
abbrev pub after_port_call : PortCall → Bool → PortPlan → PortPlan
after_port_call call.Bind fails plan = record plan { binds = one_more plan.binds; faults = raised fails plan.faults }
after_port_call call.Wait fails plan = record plan { waits = one_more plan.waits; faults = raised fails plan.faults }
after_port_call call.Accept fails plan = record plan { accepts = one_more plan.accepts; faults = raised fails plan.faults }
after_port_call call.Take fails plan = record plan { takes = one_more plan.takes; connection_faults = raised fails plan.connection_faults }
after_port_call call.Give fails plan = record plan { gives = one_more plan.gives; connection_faults = raised fails plan.connection_faults }

-- a call fails exactly where it is to fail; memory may run out, also for the note of a call that is to fail
abbrev pub AnswersBy : {T : Type 0} → Bool → Result T IoFault → Type 0
AnswersBy fails (Ok done) = fails ≡ false
AnswersBy fails (Err Failed) = fails ≡ true
AnswersBy fails (Err Memory) = Unit {0}

-- the same of a call that moves so many bytes where it doesn't fail
abbrev pub MovesBy : Bool → ℕ → Result ℕ IoFault → Type 0
MovesBy fails count (Ok n) = (fails ≡ false) × (n ≡ count)
MovesBy fails count (Err Failed) = fails ≡ true
MovesBy fails count (Err Memory) = Unit {0}
