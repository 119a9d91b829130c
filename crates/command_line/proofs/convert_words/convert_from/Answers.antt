use Rattle.command_line.proofs.Terms.{convert_form, convert_value}
use Rattle.command_line.proofs.convert_words.convert_from.Goals as goal

pub returns : goal.returns
unfolding convert_value convert_form
returns c = λ p read i. record {
  program = c.value_in.ensures _ read.names.0 i;
  recording = c.value_in-2.ensures _ read.names.1.0 i;
  out = c.value_in-3.ensures _ read.names.1.1.0 i;
}
