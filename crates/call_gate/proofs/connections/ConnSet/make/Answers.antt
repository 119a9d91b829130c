use Rattle.std.proofs.Common.{ap, ◌∙◌}
use Rattle.run_history.specs.Machine.{no_connections}
use Rattle.call_gate.specs.Flags.{flags_of}
use Rattle.call_gate.proofs.Flags.{flags_none}
use Rattle.call_gate.proofs.connections.ConnSet.make.Goals as goal

pub returns : goal.returns
unfolding no_connections
returns c = ap flags_of (c.in_ok-vec.ensures.items_if_clones_equal (λ x h. h)) ∙ flags_none 64
