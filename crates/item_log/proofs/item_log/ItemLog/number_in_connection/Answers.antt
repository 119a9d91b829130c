use Rattle.item_log.proofs.Terms.{rules, ◌≡◌, number_in_connection}
use Rattle.item_log.proofs.Shown.{is_number_of}
use Rattle.item_log.proofs.item_log.ItemLog.number_in_connection.Goals as goal

pub returns-clause-of_events : goal.returns-clause-of_events
returns-clause-of_events c =
    let is : c.number_at.result ≡ number_in_connection c.args.self.now c.args.number = search rules in
    is_number_of c.args.self.now c.args.number c.number_at.result c.requires.kept is
