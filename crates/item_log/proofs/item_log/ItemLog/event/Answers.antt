use Rattle.item_log.proofs.Terms.{rules, Logs}
use Rattle.item_log.proofs.Shown.{answer_shows, logs_show}
use Rattle.item_log.proofs.item_log.ItemLog.event.Goals as goal

pub returns-clause-shows : goal.returns-clause-shows
returns-clause-shows c = logs_show c.args.self.now c.take.new.self c.args.e.now c.in_ok-take.ensures

pub returns-then-not-has_room-clause-logged : goal.returns-then-not-has_room-clause-logged
returns-then-not-has_room-clause-logged c = search rules

pub returns-then-is_message-clause-shows : goal.returns-then-is_message-clause-shows
returns-then-is_message-clause-shows c =
    let logs : Logs c.args.self.now c.args.e.now c.put_message.new.self c.put_message.result = search rules in
    answer_shows c.args.self.now c.put_message.new.self c.args.e.now c.put_message.result logs
