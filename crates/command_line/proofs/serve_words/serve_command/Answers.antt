use Rattle.command_line.proofs.Terms.{and_parts, is_serve}
use Rattle.command_line.proofs.Ranges.{serve_in_ranges}
use Rattle.command_line.proofs.serve_words.serve_command.Goals as goal

pub read_serve-requires : goal.read_serve-requires
unfolding is_serve
read_serve-requires c = (and_parts _ _ c.requires).0

pub returns-in-Ok : goal.returns-in-Ok
returns-in-Ok c = c.serve_from.ensures _ c.in-Ok.ensures.read (serve_in_ranges _ c.requires).0
