use Rattle.link_gate.proofs.Terms.{rules, subst, sym, ◌∙◌, LinkEvent, events_of, HearsEvent}
use Rattle.link_gate.proofs.Ordering.{in_order_shown}
use Rattle.link_gate.proofs.Answering.{stood_of, event_is_new, hears_none, hears_taken}
use Rattle.link_gate.proofs.Connecting.{stays_of, fault_stays, stood_below, counted_most, same_replies, open_phase, connected_behind}
use Rattle.link_gate.proofs.ComingLemmas.{comes_on, comes_last, fault_comes_on, fault_comes_last, takes_behind, fault_takes}
use Rattle.link_gate.proofs.hearing.hear_into.Goals as goal
use Rattle.link_gate.proofs.hearing.hear_into.Goals.{else-is_ok, then-is_ok}

pub take_or_end-heard-requires-clause-in_order : goal.take_or_end-heard-requires-clause-in_order
take_or_end-heard-requires-clause-in_order g c =
    let k = c.requires in
    in_order_shown k.bounds.framing (events_of k.bounds k.entries) c.args.log.now (g.K.Link.seen c.args.link.now).phases c.in-Ok.next k.items.shows k.is_at c.in-Ok.ensures.shows.order.0

pub take_or_end-heard-requires-clause-unknown : goal.take_or_end-heard-requires-clause-unknown
take_or_end-heard-requires-clause-unknown g c =
    let k = c.requires in
    event_is_new k.bounds k.entries k.sends c.in-Ok.next c.args.replies.now (g.K.Link.seen c.args.link.now).phases k.items.all_heeded k.is_at c.in-Ok.ensures.shows.order.0 k.replies

pub returns-after-is_ok-clause-hears : goal.returns-after-is_ok-clause-hears
returns-after-is_ok-clause-hears g c = λ bounds entries sends limit counted items replies is_at.
    let result = c.take_or_end-heard.result in
    let took : HearsEvent bounds entries sends c.take_or_end-heard.new.log c.take_or_end-heard.new.replies c.take_or_end-heard.new.events (g.K.Link.seen c.args.link.now) (g.K.Link.seen c.next.new.self) c.in-Ok.next result =
    hears_taken bounds entries sends c.in-Ok.next c.args.log.now c.take_or_end-heard.new.log c.args.replies.now c.take_or_end-heard.new.replies (g.K.Link.seen c.args.link.now) (g.K.Link.seen c.next.new.self)
    c.args.events.now c.take_or_end-heard.new.events c.args.max_events result
    (record { limit = sym limit; counted = counted; items = items; replies = replies; is_at = is_at })
    c.in-Ok.ensures.shows.order.0 c.in-Ok.ensures.shows.order.1 c.in-Ok.ensures.shows.told c.take_or_end-heard.ensures in
    elim c.if-is_ok.branch [
      | then-is_ok w ↦
          subst (λ (event : LinkEvent). HearsEvent bounds entries sends c.take_or_end-heard.new.log c.take_or_end-heard.new.replies c.take_or_end-heard.new.events (g.K.Link.seen c.args.link.now) (g.K.Link.seen c.next.new.self) event result) (sym w.event-is) took
      | else-is_ok w ↦
          hears_none bounds entries sends c.take_or_end-heard.new.log c.take_or_end-heard.new.replies (g.K.Link.seen c.args.link.now) (g.K.Link.seen c.next.new.self) c.take_or_end-heard.new.events c.in-Ok.next c.if-is_ok.event result
          (sym c.is_ok.ensures.value ∙ w.if-is_ok.false) took
    ]

pub returns-after-is_ok-clause-shows : goal.returns-after-is_ok-clause-shows
returns-after-is_ok-clause-shows g c =
    let k = c.requires in
    let event = c.in-Ok.next in
    let new = event_is_new k.bounds k.entries k.sends event c.args.replies.now (g.K.Link.seen c.args.link.now).phases k.items.all_heeded k.is_at c.in-Ok.ensures.shows.order.0 k.replies in
    record {
      takes = takes_behind event c.args.log.now c.take_or_end-heard.new.log c.args.replies.now c.take_or_end-heard.new.replies c.args.events.now c.take_or_end-heard.new.events c.args.max_events (g.K.Link.seen c.args.link.now).told
          (g.K.Link.seen c.next.new.self).told (g.K.Link.seen c.next.new.self).takes c.take_or_end-heard.result c.in-Ok.ensures.shows.takes c.take_or_end-heard.ensures;
      last = comes_last event c.args.log.now c.take_or_end-heard.new.log c.args.replies.now c.take_or_end-heard.new.replies c.args.events.now c.take_or_end-heard.new.events c.args.max_events (g.K.Link.seen c.next.new.self).coming
          c.take_or_end-heard.result c.in-Ok.ensures.shows.last c.take_or_end-heard.ensures;
      coming = comes_on event (g.K.Link.seen c.args.link.now).coming (g.K.Link.seen c.next.new.self).coming c.take_or_end-heard.result c.in-Ok.ensures.shows.coming;
      cause = search rules;
      gives = c.in-Ok.ensures.shows.gives;
      connected = connected_behind k.bounds k.entries k.sends event c.args.log.now c.take_or_end-heard.new.log c.args.replies.now c.take_or_end-heard.new.replies (g.K.Link.seen c.args.link.now).phases
          (g.K.Link.seen c.next.new.self).phases (g.K.Link.seen c.next.new.self).gives_to c.args.events.now c.take_or_end-heard.new.events c.args.max_events c.take_or_end-heard.result (stood_of k) new
          (g.met.K.Link.sound c.next.new.self).gives_open c.in-Ok.ensures.shows.closing c.in-Ok.ensures.shows.order.1 c.take_or_end-heard.ensures;
    }

pub returns-after-is_ok-clause-keeps : goal.returns-after-is_ok-clause-keeps
returns-after-is_ok-clause-keeps g c =
    let k = c.requires in
    let event = c.in-Ok.next in
    let new = event_is_new k.bounds k.entries k.sends event c.args.replies.now (g.K.Link.seen c.args.link.now).phases k.items.all_heeded k.is_at c.in-Ok.ensures.shows.order.0 k.replies in
    record {
      replies = same_replies event c.args.log.now c.take_or_end-heard.new.log c.args.replies.now c.take_or_end-heard.new.replies c.args.events.now c.take_or_end-heard.new.events c.args.max_events c.take_or_end-heard.result new c.take_or_end-heard.ensures;
      stays = stays_of event c.args.log.now c.take_or_end-heard.new.log c.args.replies.now c.take_or_end-heard.new.replies c.args.events.now c.take_or_end-heard.new.events c.args.max_events c.take_or_end-heard.result c.take_or_end-heard.ensures;
      first = search rules;
      events = counted_most k.bounds k.entries k.sends event c.args.log.now c.take_or_end-heard.new.log c.args.replies.now c.take_or_end-heard.new.replies (g.K.Link.seen c.args.link.now).phases
          c.args.events.now c.take_or_end-heard.new.events c.args.max_events c.take_or_end-heard.result (stood_of k) c.take_or_end-heard.ensures;
    }

pub returns-in-Err-clause-shows : goal.returns-in-Err-clause-shows
returns-in-Err-clause-shows g c =
    let k = c.requires in
    record {
      takes = fault_takes c.in-Err.fault (g.K.Link.seen c.args.link.now).told (g.K.Link.seen c.next.new.self).told (g.K.Link.seen c.next.new.self).takes c.fault_of.result c.fault_of.ensures c.in-Err.ensures.shows.told c.in-Err.ensures.shows.takes;
      last = fault_comes_last c.in-Err.fault (g.K.Link.seen c.next.new.self).coming c.fault_of.result c.fault_of.ensures c.in-Err.ensures.shows.last;
      coming = fault_comes_on c.in-Err.fault (g.K.Link.seen c.args.link.now).coming (g.K.Link.seen c.next.new.self).coming c.fault_of.result c.fault_of.ensures c.in-Err.ensures.shows.coming;
      cause = search rules;
      gives = c.in-Err.ensures.shows.gives;
      connected = λ conn opened. (g.met.K.Link.sound c.next.new.self).gives_open conn
          (c.in-Err.ensures.shows.order conn ∙ open_phase k.bounds k.entries k.sends c.args.log.now c.args.replies.now (g.K.Link.seen c.args.link.now).phases c.args.events.now c.args.max_events conn (stood_of k) opened);
    }

pub returns-in-Err-clause-keeps : goal.returns-in-Err-clause-keeps
returns-in-Err-clause-keeps g c =
    let k = c.requires in
    record {
      replies = search rules;
      stays = fault_stays c.args.log.now c.args.replies.now c.args.events.now c.fault_of.result;
      first = search rules;
      events = stood_below k.bounds k.entries k.sends c.args.log.now c.args.replies.now (g.K.Link.seen c.args.link.now).phases c.args.events.now c.args.max_events (stood_of k);
    }
