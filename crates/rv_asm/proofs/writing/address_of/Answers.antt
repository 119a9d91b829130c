use Rattle.rv_asm.proofs.Terms.{rules}
use Rattle.rv_asm.proofs.Labelling.{spot_of-small}
use Rattle.rv_asm.proofs.writing.address_of.Goals as goal

pub address_at-requires-clause-offset : goal.address_at-requires-clause-offset
address_at-requires-clause-offset c = spot_of-small c.args.layout.now.labels c.args.name.now c.in-Some.spot c.requires.labels (search rules)
