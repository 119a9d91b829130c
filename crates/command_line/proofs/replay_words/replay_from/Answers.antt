use Rattle.command_line.proofs.Terms.{replay_form, replay_value}
use Rattle.command_line.proofs.replay_words.replay_from.Goals as goal

pub returns : goal.returns
unfolding replay_value replay_form
returns c = λ p read i. record { program = c.value_in.ensures _ read.names.0 i; recording = c.value_in-2.ensures _ read.names.1.0 i }
