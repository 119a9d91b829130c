use Rattle.guest_image.proofs.Terms.{rules}
use Rattle.guest_image.proofs.Accepted.{top_below}
use Rattle.guest_image.proofs.image.Image.stack_top.Goals as goal

pub overflow_add-result : goal.overflow_add-result
overflow_add-result c =
    let top = top_below _ _ _ c.args.self.now.accepted in
    rw c.base.ensures (search rules)
