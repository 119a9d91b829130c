use Rattle.rx_engine.proofs.Terms.{ap, rules, subst, sym, ◌∙◌, Seen, Ledger, CanGive, counted_same, unnoted_passing, passing_serves, serves_then, handled_same, comes_between, guest_frame, same_rules, guest_oldest, oldest_then, passed_oldest, going_can, going_told, rules_by, IsGoing, IsWaitingFor}
use Rattle.rx_engine.proofs.session.Session.receive.Goals as goal

pub take-requires : goal.take-requires
take-requires g c =
    let k = c.requires.waits in
    let same = same_rules g.R.AccessRule.rule (guest_frame c.await_item.ensures.keeps.same) in
    record {
      waits = record {
        seen = g.K.Link.seen c.await_item.new.link;
        waits = record {
          image = k.image;
          began = k.began;
          is = subst (λ any. IsWaitingFor any k.image k.began (g.K.Link.seen c.await_item.new.link) c.await_item.new.self) (sym same) (c.in_default.ensures.hears k.image k.began k.is);
        };
      };
      handled = handled_same c.await_item.ensures.keeps.same c.requires.handled;
      there = search rules;
    }

pub pass_due-requires : goal.pass_due-requires
pass_due-requires g c =
    let k = c.requires.waits in
    let same = same_rules g.R.AccessRule.rule (guest_frame c.await_item.ensures.keeps.same) in
    let waits = subst (λ any. IsWaitingFor any k.image k.began (g.K.Link.seen c.await_item.new.link) c.await_item.new.self) (sym same) (c.in_default.ensures.hears k.image k.began k.is) in
    record {
      can = going_can (c.take.ensures.going _ _ _ waits);
      gives = subst (λ (l : Ledger). CanGive (g.K.Link.seen c.await_item.new.link) l) (sym c.take.ensures.keeps.replies) c.in_default.ensures.keeps.link.gives;
    }

pub returns-clause-turns : goal.returns-clause-turns
returns-clause-turns g c image began w =
    let same = same_rules g.R.AccessRule.rule (guest_frame c.await_item.ensures.keeps.same) in
    let waits = subst (λ any. IsWaitingFor any image began (g.K.Link.seen c.await_item.new.link) c.await_item.new.self) (sym same) (c.in_default.ensures.hears image began w) in
    let going = subst (λ any. IsGoing any image began (g.K.Link.seen c.await_item.new.link) c.take.new.self) same (c.take.ensures.going image began _ waits) in
    let hold = sym (c.take.ensures.keeps.frame.hold ∙ c.await_item.ensures.keeps.same.hold) in
    comes_between (g.K.Link.seen c.pass_due.new.link) going c.pass_due.result c.pass_due.ensures.keeps.only.same c.pass_due.ensures.keeps.only.first (λ conn. ap (λ (s : Seen). s.phases conn) c.pass_due.ensures.keeps.link.rest)
    (ap (λ (s : Seen). s.takes) c.pass_due.ensures.keeps.link.rest ∙ c.in_default.ensures.keeps.link.takes)
    (c.pass_due.ensures.passes (rules_by g.R.AccessRule.rule c.args.self.now) image began going.story hold (going_told going) going.passed)

pub returns-clause-keeps : goal.returns-clause-keeps
returns-clause-keeps g c =
    let serves = c.in_default.ensures.keeps.link in
    record {
      link = serves_then serves.known serves.cause.takes serves.cause.gives (passing_serves c.pass_due.result serves.takes c.pass_due.ensures.keeps.link);
      until = search rules;
      frame = search rules;
      oldest = oldest_then (guest_oldest c.await_item.ensures.keeps.same) (oldest_then c.take.ensures.keeps.oldest (passed_oldest c.pass_due.ensures.keeps.only.same c.pass_due.ensures.keeps.only.first));
      marked = search rules;
      later = search rules;
      unnoted = unnoted_passing c.pass_due.result c.pass_due.ensures.keeps.link.broken;
    }

pub returns-in-Err-clause-keeps : goal.returns-in-Err-clause-keeps
returns-in-Err-clause-keeps g c = record {
  link = c.in-Err.ensures.keeps.link;
  until = c.in-Err.ensures.keeps.same.until;
  frame = guest_frame c.await_item.ensures.keeps.same;
  oldest = guest_oldest c.await_item.ensures.keeps.same;
  marked = counted_same c.await_item.ensures.keeps.same c.requires.marked;
  later = search rules;
  unnoted = c.in-Err.ensures.keeps.unnoted;
}
