use Rattle.std.proofs.lemmas.Grind.{common_steps}
use Rattle.item_log.proofs.Terms.{Some, arith, ◌≡◌, gets, item_at}
use Rattle.item_log.proofs.Shown.{is_item_of}
use Rattle.item_log.proofs.item_log.ItemLog.item.Goals as goal

pub returns-clause-of_events : goal.returns-clause-of_events
returns-clause-of_events c =
    let item : item_at c.args.self.now c.args.number ≡ Some c.index.result.now = grind (arith, common_steps, gets) in
    is_item_of c.args.self.now c.args.number c.index.result.now c.requires.kept item
