use Rattle.std.proofs.Common.{ap, arith, drop, length, length-take-le, slice_range, sym, take, ◌++◌, ◌+◌, ◌∙◌, ◌≡◌, ◌≤◌}
use Rattle.std.proofs.lemmas.List.{take_at}
use Rattle.rx_io.specs.Ahead.{ahead}
use Rattle.rx_io.proofs.AheadLemmas.{part_seam}
use Rattle.rx_io.proofs.read_ahead.ReadAhead.give.Goals as goal

pub returns-clause-bytes : goal.returns-clause-bytes
returns-clause-bytes c =
    let left = ahead c.args.self.now in
    let n = c.min-count.result in
    let short : n ≤ length left = omega (arith, c.min-count.ensures) in
    let front : take n (c.copy_from_slice.new.self ++ drop n c.args.buf.now) ≡ take n left =
    rw c.copy_from_slice.ensures.after (take_at _ _ n (length-take-le n left short)) in
    part_seam c.args.self.now.bytes c.args.self.now.start c.args.self.now.end n short ∙ ap (λ l. l ++ slice_range c.args.self.now.bytes (c.args.self.now.start + n) c.args.self.now.end) (sym front)
