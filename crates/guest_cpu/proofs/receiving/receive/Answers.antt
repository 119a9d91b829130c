use Rattle.guest_cpu.proofs.Terms.{ap, arith, length, refl, rules, ◌∙◌, ◌≡◌, ◌≤◌, take_min, slice_index, take, received}
use Rattle.guest_cpu.proofs.RangeLemmas.{permitted-fewer}
use Rattle.guest_cpu.proofs.receiving.receive.Goals as goal

pub write_front-requires-clause-permitted : goal.write_front-requires-clause-permitted
write_front-requires-clause-permitted c =
    let fewer : length c.split_at.result.0.now ≤ slice_index c.args.core.now.regs.x 11 = omega arith in
    permitted-fewer 2 _ _ _ _ fewer c.requires.writable

pub returns-clause-state : goal.returns-clause-state
unfolding received
returns-clause-state c =
    let bytes : c.as_slice-bytes.result.now ≡ c.args.item.now.bytes = search rules in
    let front : c.split_at.result.0.now ≡ take (slice_index c.args.core.now.regs.x 11) c.args.item.now.bytes =
    c.split_at.ensures.front ∙ ap (λ n. take n c.as_slice-bytes.result.now) c.min.ensures
    ∙ take_min (slice_index c.args.core.now.regs.x 11) c.as_slice-bytes.result.now ∙ ap (take (slice_index c.args.core.now.regs.x 11)) bytes in
    rw (c.write_front.ensures.memory, front, c.take.ensures, bytes, c.from.ensures) refl

pub returns-clause-wrote : goal.returns-clause-wrote
returns-clause-wrote c =
    let bytes : c.as_slice-bytes.result.now ≡ c.args.item.now.bytes = search rules in
    let front : c.split_at.result.0.now ≡ take (slice_index c.args.core.now.regs.x 11) c.args.item.now.bytes =
    c.split_at.ensures.front ∙ ap (λ n. take n c.as_slice-bytes.result.now) c.min.ensures
    ∙ take_min (slice_index c.args.core.now.regs.x 11) c.as_slice-bytes.result.now ∙ ap (take (slice_index c.args.core.now.regs.x 11)) bytes in
    rw front at c.write_front.ensures.wrote
