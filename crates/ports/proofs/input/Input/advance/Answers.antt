use Rattle.ports.proofs.TameLemmas.{advanced}
use Rattle.ports.proofs.input.Input.advance.Goals as goal

pub returns : goal.returns
returns c = advanced c.args.self.now.at c.args.count c.args.self.now.bytes.items
