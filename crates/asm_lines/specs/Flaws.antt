-- What may be wrong with a line, by its number.
use Rattle.std.specs.Prelude.{ℕ}
use Rattle.asm_lines.specs.declared.flaw.Flaw.{Flaw}
use Rattle.asm_lines.specs.declared.flaw.Flaw.TheVariants as flaw

-- the numbers of the kinds
abbrev pub kind_of : Flaw → ℕ
kind_of flaw.UnknownWord = 1
kind_of flaw.BadOperand = 2
kind_of flaw.Range = 3
kind_of flaw.Label = 4
kind_of flaw.DoubleLabel = 5
