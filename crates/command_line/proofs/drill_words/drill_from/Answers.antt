use Rattle.command_line.proofs.Terms.{refl, count_row, seed_row, drill_form, drill_value}
use Rattle.command_line.proofs.Numbers.{small_read}
use Rattle.command_line.proofs.drill_words.drill_from.Goals as goal

pub returns : goal.returns
unfolding drill_value drill_form count_row seed_row
returns c = λ p read ranges i. record {
  seed = small_read _ _ _ _ (c.value_in.ensures _ read.names.0) c.number_or_zero.ensures ranges.0.1 refl i;
  count = small_read _ _ _ _ (c.value_in-2.ensures _ read.names.1.0) c.number_or_zero-2.ensures ranges.1.0.1 refl i;
}
