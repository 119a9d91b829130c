-- Objects in memory of which certain calls are to fail.
use Rattle.std.specs.Prelude.{◌≡◌, ◌⊎◌, Option, None, Some, Vec, ℕ, ◌+◌, ◌-◌, ◌^◌, min, max, Bool, true, false, List, if◌then◌else◌, Result, Ok, Err}
use Rattle.std.specs.List.{list_any}
use lib.Dec.{eqb}
use Rattle.std.specs.declared.alloc.Global.{Global}
use Rattle.rx_base.specs.declared.fault.IoFault.{IoFault}
use Rattle.rx_base.specs.declared.fault.IoFault.TheVariants.{Failed, Memory}
use Rattle.rx_base.specs.declared.fault.LoadFault.{LoadFault}
use Rattle.rx_base.specs.declared.fault.LoadFault.TheVariants.{TooLarge}
use Rattle.rx_base.specs.declared.fault.LoadFault.TheVariants as load

-- the numbers of the calls that are to fail, counted from 1, how many calls were made, and how many failed
pub record Plan : Type 0 where
  pub numbers : List ℕ
  pub calls : ℕ
  pub faults : ℕ

-- one more, where a count stops at the last value of its type
abbrev pub one_more : ℕ → ℕ
one_more n = max n (min (n + 1) (2 ^ 64 - 1))

-- a plan of which no call was made yet
abbrev pub first_plan : List ℕ → Plan
first_plan numbers = record { numbers = numbers; calls = 0; faults = 0 }

-- whether the next call is to fail
abbrev pub fails_next : Plan → Bool
fails_next plan = list_any (λ number. eqb number (one_more plan.calls)) plan.numbers

-- one more call was made
abbrev pub after_call : Plan → Plan
after_call plan = record {
  numbers = plan.numbers;
  calls = one_more plan.calls;
  faults = if fails_next plan then one_more plan.faults else plan.faults;
}

-- one more call failed, by no number of the list
abbrev pub after_fault : Plan → Plan
after_fault plan = record plan { faults = one_more plan.faults }

-- a file was asked for, which failed too where it isn't there
abbrev pub after_load : Plan → Option (List ℕ) → Plan
after_load plan None = if fails_next plan then after_call plan else after_fault (after_call plan)
after_load plan (Some bytes) = after_call plan

-- a call fails exactly where it is to fail; else it takes so many bytes, or memory ran out
abbrev pub GivesBy : Bool → ℕ → Result ℕ IoFault → Type 0
GivesBy fails count (Ok n) = (fails ≡ false) × (n ≡ count)
GivesBy fails count (Err Failed) = fails ≡ true
GivesBy fails count (Err Memory) = fails ≡ false

-- a call fails exactly where it is to fail
abbrev pub FailsBy : Bool → Result (Unit {0}) IoFault → Type 0
FailsBy fails (Ok done) = fails ≡ false
FailsBy fails (Err Failed) = fails ≡ true
FailsBy fails (Err Memory) = fails ≡ false

-- a load fails exactly where it is to fail or the name isn't there
abbrev pub LoadFailsBy : Bool → Option (List ℕ) → Result (Vec ℕ Global) LoadFault → Type 0
LoadFailsBy fails file (Ok bytes) = fails ≡ false
LoadFailsBy fails file (Err load.Failed) = (fails ≡ true) ⊎ (file ≡ None)
LoadFailsBy fails file (Err TooLarge) = fails ≡ false
LoadFailsBy fails file (Err load.Memory) = fails ≡ false
