use Rattle.std.proofs.Common.{length, ◌≤◌}
use Rattle.rx_io.specs.Terms.{Consumes}
use Rattle.rx_io.proofs.std_files.read_whole.Given as goal

abbrev pub invariant-pieces : goal.invariant-pieces
invariant-pieces g l = record {
  within : length l.bytes.items ≤ l.limit;
  read : Consumes (g.R.Read.remaining l.initial.reader) (g.R.Read.remaining l.reader) l.bytes.items;
}
