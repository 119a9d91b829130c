use Rattle.guest_cpu.proofs.StartLemmas.{fresh_cpu}
use Rattle.guest_cpu.proofs.cpu.Cpu.make.Goals as goal

pub invariant_of-result : goal.invariant_of-result
invariant_of-result g c = (
  (fresh_cpu c.args.rule c.args.image.now c.args.slots c.args.frames c.in_ok-at_start.field-0 c.in_ok-make.field-0 c.in_ok-cores.field-0.items c.in_ok-make-2.field-0
      c.in_ok-at_start.ensures c.in_ok-make.ensures.start c.in_ok-cores.ensures.each c.in_ok-cores.ensures.many c.in_ok-make-2.ensures c.requires.enough.0 c.requires.numbered.1).0,
  c.none.ensures _,
)

pub returns : goal.returns
returns g c =
    (fresh_cpu c.args.rule c.args.image.now c.args.slots c.args.frames c.in_ok-at_start.field-0 c.in_ok-make.field-0 c.in_ok-cores.field-0.items c.in_ok-make-2.field-0
    c.in_ok-at_start.ensures c.in_ok-make.ensures.start c.in_ok-cores.ensures.each c.in_ok-cores.ensures.many c.in_ok-make-2.ensures c.requires.enough.0 c.requires.numbered.1).1
