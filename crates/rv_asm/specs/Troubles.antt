-- What stops the parts of the code, on which line, and how it is answered.
use Rattle.std.specs.Prelude.{◌≡◌, ℕ, min, ◌-◌, ◌^◌}
use Rattle.rv_asm.specs.Terms.{kind_of}
use Rattle.rv_asm.specs.declared.asm_refusal.AsmRefusal.{AsmRefusal}
use Rattle.rv_asm.specs.declared.asm_refusal.AsmRefusal.TheVariants.{Refused, Memory}
use Rattle.rv_asm.specs.declared.asm_refusal.Trouble.{Trouble}
use Rattle.rv_asm.specs.declared.asm_refusal.Trouble.TheVariants as trouble
use Rattle.rv_asm.specs.declared.asm_refusal.Stop.{Stop}
use Rattle.rv_asm.specs.declared.asm_refusal.Stop.TheVariants as stop
use Rattle.rv_asm.specs.Refusals.{fault}

-- a flaw is that of its line
abbrev pub stopped : ℕ → Trouble → Stop
stopped line (trouble.Flawed flaw) = stop.Refused (fault line flaw)
stopped line trouble.Memory = stop.Memory

-- a line is answered up to 2 ^ 32 - 1
abbrev pub Answers : Stop → AsmRefusal → Type 0
Answers (stop.Refused fault) refusal = refusal ≡ Refused (kind_of fault.flaw) (min fault.line (2 ^ 32 - 1))
Answers stop.Memory refusal = refusal ≡ Memory
