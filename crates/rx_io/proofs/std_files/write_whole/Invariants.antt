use Rattle.std.proofs.Common.{List, length, ℕ, ◌++◌, ◌≡◌}
use Rattle.rx_io.specs.Terms.{Appends}
use Rattle.rx_io.proofs.std_files.write_whole.Given as goal

abbrev pub invariant-pieces : goal.invariant-pieces
invariant-pieces g l = (done : List ℕ) × (l.bytes ≡ done ++ l.rest) × Appends (g.W.Write.contents l.initial.writer) (g.W.Write.contents l.writer) done

abbrev pub decreases-pieces : goal.decreases-pieces
decreases-pieces g l = length l.rest
