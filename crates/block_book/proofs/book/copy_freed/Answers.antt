use Rattle.block_book.proofs.Terms.{ap, arith, length, ◌++◌, ◌∙◌, ◌≤◌, Buffer, buffer, keep_last, Freed}
use Rattle.block_book.proofs.Copying.{copied}
use Rattle.block_book.proofs.book.copy_freed.Goals as goal

pub returns : goal.returns
returns c =
    let front = c.as_slices.result.0.now in
    let back = c.as_slices.result.1.now in
    let most = c.args.freed.now.capacity in
    let few : length c.args.other.now.items ≤ most = omega (arith, c.len-held.ensures.len, c.len-held.ensures.within, c.requires) in
    c.extend_from_slice-2.ensures
    ∙ ap (λ (b : Buffer Freed). buffer (keep_last b.capacity (b.items ++ back)) b.capacity)
    (c.extend_from_slice.ensures ∙ ap (λ (b : Buffer Freed). buffer (keep_last b.capacity (b.items ++ front)) b.capacity) c.clear.ensures)
    ∙ ap (λ items. buffer items most) (copied most front back c.args.other.now.items c.as_slices.ensures few)
    ∙ ap (buffer c.args.other.now.items) c.requires
