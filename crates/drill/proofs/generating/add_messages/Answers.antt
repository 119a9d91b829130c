use Rattle.drill.proofs.GeneratorLemmas.{message_made, all_made}
use Rattle.drill.proofs.generating.add_messages.Goals as goal

pub loop-preserved : goal.loop-preserved
loop-preserved c =
    message_made c.loop.events.items _ c.in_ok-event.event c.args.count c.loop.counter c.loop.state _ _ c.in_ok-push.ensures.items c.in_ok-event.ensures.message c.message.ensures.state c.loop-test.true c.loop.invariant

pub returns : goal.returns
returns c = all_made c.loop.events.items c.args.count c.loop.counter c.loop.state _ c.loop-test.false c.loop.invariant
