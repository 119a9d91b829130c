use Rattle.guest_image.proofs.Terms.{rules}
use Rattle.guest_image.proofs.Accepted.{top_below, page_fits}
use Rattle.guest_image.proofs.image.Image.heap_start.Goals as goal

pub overflow_cast-result : goal.overflow_cast-result
overflow_cast-result c =
    let top = top_below _ _ _ c.args.self.now.accepted in
    let page = page_fits _ _ _ c.args.self.now.accepted in
    rw (c.heap_floor.ensures.value, c.as_slice.ensures) (search rules)
