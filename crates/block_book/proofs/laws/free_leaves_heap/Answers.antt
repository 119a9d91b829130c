use Rattle.block_book.proofs.Terms.{eqb, not, Block, live_at, remembering}
use Rattle.block_book.proofs.Sound.{sound-filter, sound-delayed}
use Rattle.block_book.proofs.laws.free_leaves_heap.Goals as goal

pub returns : goal.returns
returns c = λ heap at by sound. (
  sound-filter (λ (block : Block). not (eqb block.at at)) heap (remembering (live_at heap at) by heap.freed) sound,
  sound-delayed heap at (remembering (live_at heap at) by heap.freed) sound,
  sound-filter (λ (block : Block). not block.delayed) heap heap.freed sound,
)
