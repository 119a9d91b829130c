use Rattle.rv_asm.proofs.OneImage.{one_image}
use Rattle.rv_asm.proofs.laws.one_image.Goals as goal

pub returns : goal.returns
returns c = one_image
