use Rattle.asm_lines.proofs.Terms.{form_of, mnemonic_table}
use Rattle.asm_lines.proofs.mnemonics.form_of.Goals as goal

pub returns : goal.returns
unfolding form_of mnemonic_table
returns c = c.look_up.ensures
