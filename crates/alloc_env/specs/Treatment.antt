-- What each environment does to the blocks of a heap (Qin, Tucek, Sundaresan and Zhou, "Rx: Treating Bugs as Allergies", SOSP 2005).
use Rattle.std.specs.Prelude.{true, false}
use Rattle.alloc_env.specs.Terms.{Treatment}
use Rattle.alloc_env.specs.declared.env.Env.{Env}
use Rattle.alloc_env.specs.declared.env.Env.TheVariants.{Plain, Pad, Zero, Isolate, Delay, All}

-- what each environment does to blocks
abbrev pub treatment_of : Env → Treatment
treatment_of Plain = record { side = 0; zeroes = false; isolates = false; delays = false }
treatment_of Pad = record { side = 256; zeroes = false; isolates = false; delays = false }
treatment_of Zero = record { side = 0; zeroes = true; isolates = false; delays = false }
treatment_of Isolate = record { side = 0; zeroes = false; isolates = true; delays = false }
treatment_of Delay = record { side = 0; zeroes = false; isolates = false; delays = true }
treatment_of All = record { side = 256; zeroes = true; isolates = true; delays = true }
