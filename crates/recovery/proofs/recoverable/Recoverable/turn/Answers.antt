use Rattle.recovery.proofs.Terms.{List, ap, arith, subst, sym, Choice, Limits, Marks, IsTrying}
use Rattle.recovery.proofs.Running.{trying_room, live_base}
use Rattle.recovery.proofs.Turning.{later_if, later_sent, ran_least, ran_stops, asks_now, chooses_now, chooses_later, exits_now, fails_now, emits_asks, emits_now, emits_later}
use Rattle.recovery.proofs.recoverable.Recoverable.turn.Goals as goal

pub run_to_event-requires-clause-room : goal.run_to_event-requires-clause-room
run_to_event-requires-clause-room g c = omega (arith, trying_room c.requires.tries.trying, ap (λ (l : Limits). l.budget) c.requires.tries.under)

pub ask-requires : goal.ask-requires
ask-requires g c =
    let w = c.requires.tries in
    record {
      asks = record {
        failure = w.failure;
        checkpoint = w.checkpoint;
        env = c.args.env;
        choices = c.args.own.now.items;
        asking = asks_now w.trying c.run_to_event.new.self (g.R.AccessRule.rule c.args.self.now.cpu.rule) w.under c.in-Ok-Asks.field-0-is c.in-Ok-Asks.ensures.event (live_base c.args.self.now.cpu c.run_to_event.new.self c.run_to_event.ensures.kept).saved;
      };
    }

pub returns-in-Ok-Asks-clause-comes : goal.returns-in-Ok-Asks-clause-comes
returns-in-Ok-Asks-clause-comes g c failure checkpoint under t =
    c.ask.ensures.comes failure checkpoint c.args.env c.args.own.now.items (asks_now t c.run_to_event.new.self (g.R.AccessRule.rule c.args.self.now.cpu.rule) under c.in-Ok-Asks.field-0-is c.in-Ok-Asks.ensures.event (live_base c.args.self.now.cpu c.run_to_event.new.self c.run_to_event.ensures.kept).saved)

pub returns-in-Ok-Asks-clause-least : goal.returns-in-Ok-Asks-clause-least
returns-in-Ok-Asks-clause-least g c = omega (arith, ran_least c.requires.tries.trying c.run_to_event.new.self (g.R.AccessRule.rule c.args.self.now.cpu.rule) c.requires.tries.under c.run_to_event.result c.run_to_event.ensures.event, c.run_to_event.ensures.counted, c.ask.ensures.least)

pub returns-in-Ok-Emits-clause-comes : goal.returns-in-Ok-Emits-clause-comes
returns-in-Ok-Emits-clause-comes g c failure checkpoint under t =
    emits_now t c.run_to_event.new.self (g.R.AccessRule.rule c.args.self.now.cpu.rule) under c.in-Ok-Emits.conn c.in-Ok-Emits.bytes c.emit.new.replies c.emit.result c.in-Ok-Emits.field-0-is c.in-Ok-Emits.ensures.event (ap (λ (m : Marks). m.taken) c.marks-taken.ensures) (live_base c.args.self.now.cpu c.run_to_event.new.self c.run_to_event.ensures.kept).saved c.emit.ensures

pub returns-in-Ok-Emits-clause-least : goal.returns-in-Ok-Emits-clause-least
returns-in-Ok-Emits-clause-least g c = omega (arith, ran_least c.requires.tries.trying c.run_to_event.new.self (g.R.AccessRule.rule c.args.self.now.cpu.rule) c.requires.tries.under c.run_to_event.result c.run_to_event.ensures.event, c.run_to_event.ensures.counted)

pub returns-in-Ok-clause-least : goal.returns-in-Ok-clause-least
returns-in-Ok-clause-least g c = omega (arith, ran_least c.requires.tries.trying c.run_to_event.new.self (g.R.AccessRule.rule c.args.self.now.cpu.rule) c.requires.tries.under c.run_to_event.result c.run_to_event.ensures.event, c.run_to_event.ensures.counted)

pub returns-in-Ok-clause-later : goal.returns-in-Ok-clause-later
returns-in-Ok-clause-later g c = chooses_later c.requires.tries.trying c.run_to_event.new.self (g.R.AccessRule.rule c.args.self.now.cpu.rule) c.requires.tries.under c.in-Ok-Chooses.choice c.in-Ok-Chooses.field-0-is c.in-Ok-Chooses.ensures.event

pub returns-in-Err-push-clause-comes : goal.returns-in-Err-push-clause-comes
returns-in-Err-push-clause-comes g c failure checkpoint under t = ran_stops t c.run_to_event.new.self (g.R.AccessRule.rule c.args.self.now.cpu.rule) under c.run_to_event.result c.run_to_event.ensures.event

pub returns-in-Err-push-clause-least : goal.returns-in-Err-push-clause-least
returns-in-Err-push-clause-least g c = omega (arith, ran_least c.requires.tries.trying c.run_to_event.new.self (g.R.AccessRule.rule c.args.self.now.cpu.rule) c.requires.tries.under c.run_to_event.result c.run_to_event.ensures.event, c.run_to_event.ensures.counted)

pub returns-in-Ok-Exits-clause-comes : goal.returns-in-Ok-Exits-clause-comes
returns-in-Ok-Exits-clause-comes g c failure checkpoint under t = exits_now t c.run_to_event.new.self (g.R.AccessRule.rule c.args.self.now.cpu.rule) under c.in-Ok-Exits.code c.judge.result c.in-Ok-Exits.field-0-is c.in-Ok-Exits.ensures.event (live_base c.args.self.now.cpu c.run_to_event.new.self c.run_to_event.ensures.kept).saved c.judge.ensures

pub returns-in-Ok-Exits-clause-least : goal.returns-in-Ok-Exits-clause-least
returns-in-Ok-Exits-clause-least g c = omega (arith, ran_least c.requires.tries.trying c.run_to_event.new.self (g.R.AccessRule.rule c.args.self.now.cpu.rule) c.requires.tries.under c.run_to_event.result c.run_to_event.ensures.event, c.run_to_event.ensures.counted)

pub returns-in-Ok-Failed-clause-comes : goal.returns-in-Ok-Failed-clause-comes
returns-in-Ok-Failed-clause-comes g c failure checkpoint under t = fails_now t c.run_to_event.new.self (g.R.AccessRule.rule c.args.self.now.cpu.rule) under c.in-Ok-Failed.cause c.in-Ok-Failed.field-0-is c.in-Ok-Failed.ensures.event (live_base c.args.self.now.cpu c.run_to_event.new.self c.run_to_event.ensures.kept).saved

pub returns-in-Ok-Failed-clause-least : goal.returns-in-Ok-Failed-clause-least
returns-in-Ok-Failed-clause-least g c = omega (arith, ran_least c.requires.tries.trying c.run_to_event.new.self (g.R.AccessRule.rule c.args.self.now.cpu.rule) c.requires.tries.under c.run_to_event.result c.run_to_event.ensures.event, c.run_to_event.ensures.counted)

pub returns-in-Err-clause-comes : goal.returns-in-Err-clause-comes
returns-in-Err-clause-comes g c failure checkpoint under t = ran_stops t c.run_to_event.new.self (g.R.AccessRule.rule c.args.self.now.cpu.rule) under c.run_to_event.result c.run_to_event.ensures.event

pub returns-in-Err-clause-least : goal.returns-in-Err-clause-least
returns-in-Err-clause-least g c = omega (arith, ran_least c.requires.tries.trying c.run_to_event.new.self (g.R.AccessRule.rule c.args.self.now.cpu.rule) c.requires.tries.under c.run_to_event.result c.run_to_event.ensures.event, c.run_to_event.ensures.counted)

pub returns-in-Ok-Asks-clause-later : goal.returns-in-Ok-Asks-clause-later
returns-in-Ok-Asks-clause-later g c =
    let w = c.requires.tries in
    later_if c.ask.result c.args.self.now.cpu.slots.live.steps c.run_to_event.new.self.slots.live.steps c.ask.new.cpu.slots.live.steps (ran_least w.trying c.run_to_event.new.self (g.R.AccessRule.rule c.args.self.now.cpu.rule) w.under c.run_to_event.result c.run_to_event.ensures.event) c.ask.ensures.later

pub returns-in-Ok-Emits-clause-later : goal.returns-in-Ok-Emits-clause-later
returns-in-Ok-Emits-clause-later g c =
    let w = c.requires.tries in
    later_sent c.emit.result c.args.self.now.cpu.slots.live.steps c.run_to_event.new.self.slots.live.steps (emits_later w.trying c.run_to_event.new.self (g.R.AccessRule.rule c.args.self.now.cpu.rule) w.under c.in-Ok-Emits.conn c.in-Ok-Emits.bytes c.in-Ok-Emits.field-0-is c.in-Ok-Emits.ensures.event)

pub returns-in-Ok-clause-comes : goal.returns-in-Ok-clause-comes
returns-in-Ok-clause-comes g c failure checkpoint under t =
    subst (λ (all : List Choice). IsTrying failure c.args.limits.point checkpoint c.args.env c.run_to_event.new.self all c.args.self.now.log c.args.self.now.replies) (sym c.in-Ok.ensures.items)
    (chooses_now t c.run_to_event.new.self (g.R.AccessRule.rule c.args.self.now.cpu.rule) under c.in-Ok-Chooses.choice c.in-Ok-Chooses.field-0-is c.in-Ok-Chooses.ensures.event (live_base c.args.self.now.cpu c.run_to_event.new.self c.run_to_event.ensures.kept).saved)

pub emit-requires : goal.emit-requires
emit-requires g c =
    let w = c.requires.tries in
    let asks = emits_asks w.trying c.run_to_event.new.self (g.R.AccessRule.rule c.args.self.now.cpu.rule) w.under c.in-Ok-Emits.conn c.in-Ok-Emits.bytes c.in-Ok-Emits.field-0-is c.in-Ok-Emits.ensures.event (ap (λ (m : Marks). m.taken) c.marks-taken.ensures) in
    record { opened = asks.0; nonempty = asks.1; trial = asks.2; later = asks.3 }
