use Rattle.block_book.proofs.Terms.{eqb, not, Block, live_block}
use Rattle.block_book.proofs.Sound.{sound-with}
use Rattle.block_book.proofs.Rooms.{put-room, bare-insert, bare-filter}
use Rattle.block_book.proofs.laws.put_leaves_heap.Goals as goal

pub returns : goal.returns
returns c = λ heap at size made by sound bare. (
  (λ few clear. sound-with heap (live_block at size 0 made) sound (put-room heap at size made sound bare few clear)),
  bare-insert at size made heap.blocks bare,
  bare-filter (λ (block : Block). not (eqb block.at at)) heap.blocks bare,
)
