use Rattle.guest_space.proofs.Terms.{All-replicate, IsOpen}
use Rattle.guest_space.proofs.stretch.Stretches.none.Goals as goal

pub returns : goal.returns
returns c = λ spans. record {
  words = c.none.ensures 1 spans;
  loads = All-replicate (IsOpen 4 spans) 32 c.none-2.result (c.none-2.ensures 4 spans);
  stores = All-replicate (IsOpen 2 spans) 32 c.none-3.result (c.none-3.ensures 2 spans);
}
