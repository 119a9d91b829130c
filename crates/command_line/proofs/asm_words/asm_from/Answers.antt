use Rattle.command_line.proofs.Terms.{asm_form, asm_value}
use Rattle.command_line.proofs.asm_words.asm_from.Goals as goal

pub returns : goal.returns
unfolding asm_value asm_form
returns c = λ p read i. record { source = c.value_in.ensures _ read.names.0 i; out = c.value_in-2.ensures _ read.names.1.0 i }
