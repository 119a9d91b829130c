use Rattle.cow_pages.proofs.Terms.{arith, sym, ◌+◌, ◌-◌, ◌∙◌, length-take-le}
use Rattle.cow_pages.proofs.PutThere.{put_behind, put_before, part_length}
use Rattle.cow_pages.proofs.frame_copy.copy_part.Goals as goal

pub slice_bounds-copy_from_slice-end-then-from-to : goal.slice_bounds-copy_from_slice-end-then-from-to
slice_bounds-copy_from_slice-end-then-from-to c =
    sym (length-take-le c.args.count c.split_at_mut-front.result.1.now (omega (arith, c.requires.fits, c.split_at_mut-front.ensures.back_len)))

pub copy_from_slice-requires : goal.copy_from_slice-requires
copy_from_slice-requires c =
    length-take-le c.args.count c.split_at_mut-front.result.1.now (omega (arith, c.requires.fits, c.split_at_mut-front.ensures.back_len))
    ∙ sym (part_length c.args.from c.args.count (c.args.from + c.args.count - c.args.from) c.split_at_mut-front.result.0.now (omega (arith, c.requires.apart, c.if-from-to.true, c.split_at_mut-front.ensures.front_len)) (omega arith))

pub slice_bounds-copy_from_slice-end-else-from-to-3 : goal.slice_bounds-copy_from_slice-end-else-from-to-3
slice_bounds-copy_from_slice-end-else-from-to-3 c =
    sym (length-take-le c.args.count c.split_at_mut-front-else-from-to.result.1.now (omega (arith, c.requires.there, c.split_at_mut-front-else-from-to.ensures.back_len)))

pub copy_from_slice-requires-else-from-to : goal.copy_from_slice-requires-else-from-to
copy_from_slice-requires-else-from-to c =
    part_length c.args.to c.args.count (c.args.to + c.args.count - c.args.to) c.split_at_mut-front-else-from-to.result.0.now (omega (arith, c.requires.apart, c.if-from-to.false, c.split_at_mut-front-else-from-to.ensures.front_len)) (omega arith)
    ∙ sym (length-take-le c.args.count c.split_at_mut-front-else-from-to.result.1.now (omega (arith, c.requires.there, c.split_at_mut-front-else-from-to.ensures.back_len)))

pub returns-then-from-to : goal.returns-then-from-to
returns-then-from-to c =
    put_behind c.args.from c.args.to c.args.count (c.args.from + c.args.count - c.args.from) c.args.pool.now c.split_at_mut-front.result.0.now c.split_at_mut-front.result.1.now c.copy_from_slice.new.self c.split_at_mut-front.ensures.front c.split_at_mut-front.ensures.back
    (omega (arith, c.requires.apart, c.if-from-to.true)) c.requires.fits (omega arith) c.copy_from_slice.ensures.after

pub returns-else-from-to : goal.returns-else-from-to
returns-else-from-to c =
    put_before c.args.from c.args.to c.args.count (c.args.to + c.args.count - c.args.to) c.args.pool.now c.split_at_mut-front-else-from-to.result.0.now c.split_at_mut-front-else-from-to.result.1.now c.copy_from_slice-else-from-to.new.self
    c.split_at_mut-front-else-from-to.ensures.front c.split_at_mut-front-else-from-to.ensures.back (omega (arith, c.requires.apart, c.if-from-to.false)) c.requires.there (omega arith) c.copy_from_slice-else-from-to.ensures.after
