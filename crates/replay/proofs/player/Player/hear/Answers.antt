use Rattle.replay.proofs.Terms.{rules, subst, sym, ◌∙◌, Err, events_in, Answer, in_order_shown, LeavesLink, DiffersBy, IsInputEnd, IsWholeEnd, stage_of}
use Rattle.replay.proofs.HearLemmas.{heeds_event, takes_none}
use Rattle.replay.proofs.DifferLemmas.{fault_never}
use Rattle.replay.proofs.LeavingLemmas.{heeds_none, leaves_both, leaves_untaken, taken_known}
use Rattle.replay.proofs.player.Player.hear.Goals as goal

pub heed-requires : goal.heed-requires
heed-requires g c =
    let waits = c.requires.waits in
    let base = waits.1.is.playing.base in
    record { in_order = in_order_shown waits.0.frame (events_in waits.1.is.playing.entries) c.args.self.now.log (g.K.Link.seen c.args.link.now).phases c.in-Ok.event base.items.shows base.phases_are c.in-Ok.ensures.shows.order.0 }

pub returns-in-Ok-clause-hears : goal.returns-in-Ok-clause-hears
returns-in-Ok-clause-hears g c image recording began waiting =
    heeds_event waiting c.requires.none_left
    c.in-Ok.event (stage_of c.heed.new.self) c.heed.result c.in-Ok.ensures.shows c.heed.ensures.heeds

pub returns-in-Err-clause-hears : goal.returns-in-Err-clause-hears
returns-in-Err-clause-hears g c image recording began waiting =
    subst (λ (end : Answer). IsWholeEnd image recording began (g.K.Link.seen c.next.new.self) (stage_of c.args.self.now) end) (sym c.answer_to.ensures)
    (takes_none waiting c.requires.none_left c.in-Err.fault c.in-Err.ensures.shows)

pub returns-in-Ok-clause-link : goal.returns-in-Ok-clause-link
returns-in-Ok-clause-link g c =
    let shows = c.in-Ok.ensures.shows in
    record {
      leaves = leaves_both (g.K.Link.seen c.args.link.now) (g.K.Link.seen c.next.new.self) c.heed.result shows.takes (shows.gives ∙ c.requires.waits.1.gives)
          (taken_known (g.K.Link.seen c.args.link.now).coming (g.K.Link.seen c.next.new.self).coming c.in-Ok.event shows.coming)
          (heeds_none c.in-Ok.event (stage_of c.args.self.now) (stage_of c.heed.new.self) c.heed.result c.heed.ensures.heeds);
      cause = search rules;
      gives = shows.gives;
    }

pub returns-in-Err-clause-link : goal.returns-in-Err-clause-link
returns-in-Err-clause-link g c =
    let shows = c.in-Err.ensures.shows in
    record {
      leaves = subst (λ (end : Answer). LeavesLink (g.K.Link.seen c.args.link.now) (g.K.Link.seen c.next.new.self) end) (sym c.answer_to.ensures) (leaves_untaken c.in-Err.fault shows c.requires.waits.1.gives);
      cause = search rules;
      gives = shows.gives;
    }

pub returns-in-Err-clause-differs : goal.returns-in-Err-clause-differs
returns-in-Err-clause-differs g c =
    subst (λ (end : Answer). DiffersBy IsInputEnd c.args.self.now.difference c.args.self.now.difference (Err end)) (sym c.answer_to.ensures)
    (fault_never IsInputEnd c.args.self.now.difference c.in-Err.fault)
