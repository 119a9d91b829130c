use Rattle.command_line.proofs.Terms.{ap, ◌∙◌, record_row, standby_form, standby_value}
use Rattle.command_line.proofs.Numbers.{number_read}
use Rattle.command_line.proofs.standby_words.standby_from.Goals as goal

pub returns : goal.returns
unfolding standby_value standby_form record_row
returns c = λ p read i. record {
  program = c.value_in.ensures _ read.names.0 i;
  recorded = c.value_in-2.ensures _ read.names.1.0 i;
  counts = c.value_in-3.ensures _ read.names.1.1.0 i;
  recording = c.value_in-4.ensures _ read.options.0 i;
  budget = (c.long_or_zero.ensures ∙ ap number_read (c.value_in-5.ensures _ read.options.1.0)) i;
}
