use Rattle.recovery.proofs.Terms.{List, ap, arith, length, subst, sym, ◌∙◌, Choice, Ledger, Recoverable, HasSameBytes, IsOfOneRun, Adopts, held_of}
use Rattle.recovery.proofs.Survived.{has_survived, none_survived, of_walked}
use Rattle.recovery.proofs.WalkLemmas.{walked_unfinished}
use Rattle.recovery.proofs.Recoveries.{recovers, begun_at, episode_tells, can_adopt, adopts_run, adopted_slots}
use Rattle.recovery.proofs.recoverable.Recoverable.recover.Goals as goal

pub adopt-requires : goal.adopt-requires
adopt-requires g c =
    let can = c.requires.can in
    let could = can_adopt can.has c.in-Ok.ensures.kept.saved (ap held_of c.in-Ok.ensures.kept.rest) (has_survived (c.in-Ok.ensures.walks can.failure can.under can.has.failed) c.in-Some.is) in
    let own = ap (length {A = Choice}) c.as_slice.ensures.value in
    record { within = could.within; base = could.base; own = omega (arith, could.few, own); first = omega (arith, could.first, own) }

pub returns-in-None-clause-recovers : goal.returns-in-None-clause-recovers
returns-in-None-clause-recovers g c failure begun under has =
    let w = c.in-Ok.ensures.walks failure under has.failed in
    let none = none_survived w c.in-None.is in
    record {
      trials = w.trials;
      episode_is = episode_tells has begun c.in-Ok.walked.episode c.in-Ok.ensures.episode w;
      recovers = recovers has begun w;
      counted = w.counted;
      leaves = (none.0, ap held_of c.in-Ok.ensures.kept.rest ∙ ap (λ (replies : Ledger). record (held_of c.args.self.now) { cpu = c.walk_watched.new.self.cpu; replies = replies }) none.1);
    }

pub returns-in-Ok-adopt-clause-recovers : goal.returns-in-Ok-adopt-clause-recovers
returns-in-Ok-adopt-clause-recovers g c failure begun under has =
    let w = c.in-Ok.ensures.walks failure under has.failed in
    let s = has_survived w c.in-Some.is in
    record {
      trials = w.trials;
      episode_is = episode_tells has begun c.in-Ok.walked.episode c.in-Ok.ensures.episode w;
      recovers = recovers has begun w;
      counted = w.counted;
      leaves = (
        s.trial,
        s.survivor,
        adopts_run has c.in-Ok.ensures.kept.saved (ap held_of c.in-Ok.ensures.kept.rest) s begun (held_of c.adopt.new.self) c.in-Ok.ensures.ledger
            (subst (λ (own : List Choice). Adopts c.in-Some.adopted.index own (held_of c.walk_watched.new.self) (held_of c.adopt.new.self)) c.as_slice.ensures.value c.in-Ok-adopt.ensures.adopts) (ap held_of c.in-Ok-adopt.ensures.rest),
      );
    }

pub returns-in-Ok-adopt-clause-left : goal.returns-in-Ok-adopt-clause-left
returns-in-Ok-adopt-clause-left g c =
    let can = c.requires.can in
    record {
      slots = adopted_slots can.has c.in-Ok.ensures.kept.saved (ap held_of c.in-Ok.ensures.kept.rest) (has_survived (c.in-Ok.ensures.walks can.failure can.under can.has.failed) c.in-Some.is)
          (subst (λ (own : List Choice). Adopts c.in-Some.adopted.index own (held_of c.walk_watched.new.self) (held_of c.adopt.new.self)) c.as_slice.ensures.value c.in-Ok-adopt.ensures.adopts);
      bytes = subst (λ (held : Recoverable _). HasSameBytes c.args.self.now.replies held.replies) (sym c.in-Ok-adopt.ensures.rest) c.in-Ok.ensures.ledger;
    }

pub returns-in-Ok-adopt-clause-one_run : goal.returns-in-Ok-adopt-clause-one_run
returns-in-Ok-adopt-clause-one_run g c failure under has =
    subst (λ (held : Recoverable _). IsOfOneRun failure c.args.site.point held.replies) (sym c.in-Ok-adopt.ensures.rest) (of_walked has.failed (c.in-Ok.ensures.walks failure under has.failed))

pub returns-in-Ok-clause-one_run : goal.returns-in-Ok-clause-one_run
returns-in-Ok-clause-one_run g c failure under has =
    subst (λ (held : Recoverable _). IsOfOneRun failure c.args.site.point held.replies) (sym c.in-Err-adopt.ensures.rest) (of_walked has.failed (c.in-Ok.ensures.walks failure under has.failed))

pub returns-in-Ok-clause-recovers : goal.returns-in-Ok-clause-recovers
returns-in-Ok-clause-recovers g c failure begun under has =
    let w = c.in-Ok.ensures.walks failure under has.failed in
    begun_at has (walked_unfinished w (has_survived w c.in-Some.is).survivor)
