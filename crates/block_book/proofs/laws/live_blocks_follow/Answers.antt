use Rattle.block_book.proofs.Live.{live-insert_block, live-without, live-delayed, live-recycled}
use Rattle.block_book.proofs.laws.live_blocks_follow.Goals as goal

pub returns : goal.returns
returns c = λ heap at size side made by sound. (
  live-insert_block at size side heap.start made heap.blocks heap.end sound.standing,
  live-without at heap.blocks,
  live-delayed at heap.blocks,
  live-recycled heap.blocks,
)
