use Rattle.asm_lines.proofs.Terms.{ap, option_map, sym, ◌∙◌, clipped_int}
use Rattle.asm_lines.proofs.Clipping.{number_of-short}
use Rattle.asm_lines.proofs.numbers.number_of.Goals as goal

pub returns-in_default : goal.returns-in_default
returns-in_default c = c.signed_decimal.ensures ∙ ap (option_map clipped_int) (sym (number_of-short c.args.bytes.now c.in_default.len_below))
