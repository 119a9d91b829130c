use Rattle.link_gate.proofs.Answering.{hears_some}
use Rattle.link_gate.proofs.hearing.hear.Goals as goal

pub returns-clause-hears : goal.returns-clause-hears
returns-clause-hears g c = λ bounds entries sends limit counted items replies is_at.
    hears_some bounds entries sends c.hear_into.new.log c.hear_into.new.replies (g.K.Link.seen c.args.link.now) (g.K.Link.seen c.hear_into.new.link) c.hear_into.new.events c.hear_into.new.event c.hear_into.result
    (c.hear_into.ensures.hears bounds entries sends limit counted items replies is_at)
