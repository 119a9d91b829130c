use Rattle.guest_space.proofs.span.stretch_at.Goals as goal

pub returns-in-None : goal.returns-in-None
returns-in-None c = c.none.ensures c.args.flag c.args.spans.now
