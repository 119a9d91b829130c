use Rattle.block_book.proofs.Live.{placement-clear, placement-sound, placement-positive}
use Rattle.block_book.proofs.laws.placement_is_clear.Goals as goal

pub returns : goal.returns
returns c = λ heap size side from at made sound even small is. (
  placement-positive heap size side from at sound is,
  placement-clear heap size side from at even is,
  placement-sound heap size side from at made sound even small is,
)
