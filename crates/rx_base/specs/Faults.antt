-- Faults of the outside are answered only where the object's own count of them rose.
use Rattle.std.specs.Prelude.{◌⊎◌, ℕ, ◌-◌, ◌^◌, ◌<◌, ◌≤◌, Result, IsErrOf}
use Rattle.rx_base.specs.declared.fault.IoFault.{IoFault}
use Rattle.rx_base.specs.declared.fault.IoFault.TheVariants.{Failed}
use Rattle.rx_base.specs.declared.fault.LoadFault.{LoadFault}
use Rattle.rx_base.specs.declared.fault.LoadFault.TheVariants as load

-- A count has risen in a call. One that stands at the last value of its type counts as risen.
abbrev pub Rose : ℕ → ℕ → Type 0
Rose before now = (before < now) ⊎ (2 ^ 64 - 1 ≤ now)

-- the count never falls, and `Failed` is answered only where it rose
pub record HasCause {T : Type 0} (before now : ℕ) (result : Result T IoFault) : Type 0 where
  pub later : before ≤ now
  pub failed : IsErrOf result Failed → Rose before now

-- the same of a file that was loaded
pub record HasLoadCause {T : Type 0} (before now : ℕ) (result : Result T LoadFault) : Type 0 where
  pub later : before ≤ now
  pub failed : IsErrOf result load.Failed → Rose before now
