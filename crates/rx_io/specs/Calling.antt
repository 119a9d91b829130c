-- What calls on named files add to the list of calls that they tell.
use Rattle.std.specs.Prelude.{◌≡◌, List, [], ◌∷◌, ◌++◌, Option, Some, None, Result, Ok, Err}
use Rattle.rx_base.specs.declared.fault.LoadFault.TheVariants as load
use Rattle.rx_base.specs.declared.fault.IoFault.TheVariants.{Failed, Memory}
use Rattle.rx_io.specs.Terms.{IoFault, LoadFault, TooLarge, FileCall}

-- these calls stand behind those that were told
abbrev pub Calls : Option (List FileCall) → Option (List FileCall) → List FileCall → Type 0
Calls None new calls = Unit {0}
Calls (Some old) None calls = ⊥
Calls (Some old) (Some new) calls = new ≡ old ++ calls

-- a call that starts a file or adds to it: none where memory ran out
abbrev pub calls_of : FileCall → Result (Unit {0}) IoFault → List FileCall
calls_of call (Ok done) = call ∷ []
calls_of call (Err Failed) = call ∷ []
calls_of call (Err Memory) = []

-- so one that loads a file
abbrev pub loads_of : {T : Type 0} → FileCall → Result T LoadFault → List FileCall
loads_of call (Ok bytes) = call ∷ []
loads_of call (Err TooLarge) = call ∷ []
loads_of call (Err load.Failed) = call ∷ []
loads_of call (Err load.Memory) = []
