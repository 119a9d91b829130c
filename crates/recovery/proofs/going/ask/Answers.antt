use Rattle.recovery.proofs.Terms.{ap, sym, ◌∙◌, true≢false, Marks, Standing}
use Rattle.recovery.proofs.Running.{live_base}
use Rattle.recovery.proofs.Coming.{asks_past, asks_behind}
use Rattle.recovery.proofs.Sending.{takes_wants, takes_kept, takes_short, takes_room, takes_next}
use Rattle.recovery.proofs.going.ask.Goals as goal

pub item-requires-clause-there : goal.item-requires-clause-there
item-requires-clause-there g c =
    let a = c.requires.asks.asking in
    (takes_kept a (ap (λ (m : Marks). m.taken) c.marks-taken.ensures ∙ ap (λ (s : Standing). s.guest.machine.taken) a.trying.stands) c.if-taken-point.false).1

pub take_item-requires : goal.take_item-requires
take_item-requires g c =
    let a = c.requires.asks.asking in
    record { asks = takes_wants a; short = takes_short a c.marks-taken.result.taken c.item.result.now c.item.ensures.of_events; room = takes_room a }

pub returns-then-taken-point-clause-comes : goal.returns-then-taken-point-clause-comes
returns-then-taken-point-clause-comes g c failure checkpoint env choices a =
    asks_past a (ap (λ (m : Marks). m.taken) c.marks-taken.ensures ∙ ap (λ (s : Standing). s.guest.machine.taken) a.trying.stands) c.if-taken-point.true c.judge.ensures

pub returns-then-not-covers_before-clause-comes : goal.returns-then-not-covers_before-clause-comes
returns-then-not-covers_before-clause-comes g c failure checkpoint env choices a =
    asks_behind a (ap (λ (m : Marks). m.taken) c.marks-taken.ensures ∙ ap (λ (s : Standing). s.guest.machine.taken) a.trying.stands) c.if-taken-point.false
    (λ covers. true≢false (sym (c.covers_before.ensures.1 covers) ∙ c.if-not-covers_before.true))

pub returns-clause-comes : goal.returns-clause-comes
returns-clause-comes g c failure checkpoint env choices a =
    takes_next a c.marks-taken.result.taken c.item.result.now (live_base c.args.cpu.now c.take_item.new.self c.take_item.ensures.kept).saved
    (ap (λ (m : Marks). m.taken) c.marks-taken.ensures ∙ ap (λ (s : Standing). s.guest.machine.taken) a.trying.stands) c.if-taken-point.false
    (c.covers_before.ensures.0 c.if-not-covers_before.false) c.item.ensures.of_events
    c.take_item.ensures.live
