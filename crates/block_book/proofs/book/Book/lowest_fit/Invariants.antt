use Rattle.block_book.proofs.Terms.{◌^◌, ◌≡◌, ◌≤◌}
use Rattle.block_book.proofs.Fitting.{Walks}
use Rattle.block_book.proofs.book.Book.lowest_fit.Given as goal

-- no address below the candidate fits, and the blocks so far end there or below
abbrev pub invariant-loop-block : goal.invariant-loop-block
invariant-loop-block l = record {
  walks : Walks l.self l.count l.from l.block-index l.low;
  same : l.block-items ≡ l.self.blocks;
  small : l.low ≤ 2 ^ 33;
}
