use Rattle.command_line.proofs.Terms.{is_replay}
use Rattle.command_line.proofs.replay_words.replay_command.Goals as goal

pub read_replay-requires : goal.read_replay-requires
unfolding is_replay
read_replay-requires c = c.requires
