use Rattle.routes.proofs.Terms.{arith, rules, sym, ℕ, ◌+◌, ◌∙◌, ◌≡◌, handed_by, told_nothing, intake_of, output_of, ComparesTrunk}
use Rattle.routes.proofs.FrontLemmas.{broken_off}
use Rattle.routes.proofs.TrunkLemmas.{compares}
use Rattle.routes.proofs.replaying.replay_trunk.Goals as goal

pub returns-clause-replayed : goal.returns-clause-replayed
returns-clause-replayed g c =
    let went = c.fill_by-filled.ensures.went in
    let made = c.make-link.ensures in
    let told_at_first = made.told ∙ (λ i. told_nothing (g.S.Source.told ((sym made.fresh.source_is) i).now) (g.K.Sink.told ((sym made.fresh.sink_is) i).now)) in
    let replayed : (counted : ℕ) → c.fill_by-filled.new.steps ≡ c.args.steps.now + counted → ComparesTrunk c.args.image.now c.args.recorded.now (g.S.Source.told c.make-link.result.source.now) (g.S.Source.told c.fill_by-filled.new.link.source.now)
    (g.K.Sink.told c.make-link.result.sink.now) (g.K.Sink.told c.fill_by-filled.new.link.sink.now) c.fill_by-filled.result.answer c.fill_by-filled.result.difference counted =
    λ counted count.
    compares c.args.image.now c.args.recorded.now (intake_of (λ s. g.S.Source.told s.now) c.make-link.result) (intake_of (λ s. g.S.Source.told s.now) c.fill_by-filled.new.link)
    (output_of (λ s. g.K.Sink.told s.now) c.make-link.result) (output_of (λ s. g.K.Sink.told s.now) c.fill_by-filled.new.link) (handed_by c.make-link.result.handed) (handed_by c.fill_by-filled.new.link.handed) _ _ c.fill_by-filled.result.answer c.fill_by-filled.result.difference
    c.args.steps.now c.fill_by-filled.new.steps counted made.shows.phases made.fresh.took made.fresh.wrote made.shows.takes made.shows.gives (g.met.S.Source.countable c.fill_by-filled.new.link.source.now)
    (g.met.K.Sink.countable c.fill_by-filled.new.link.sink.now) told_at_first went.taken went.given c.fill_by-filled.ensures.link.leaves
    (record {
      replayed = c.fill_by-filled.ensures.filled.by.replayed;
      given = c.fill_by-filled.ensures.filled.by.given;
      last = λ no. broken_off _ (λ s. g.S.Source.told s.now) _ _ (λ s. g.K.Sink.told s.now) _ c.make-link.result c.fill_by-filled.new.link _ made.fresh.wrote made.shows.gives (λ sink. g.met.K.Sink.countable sink.now) told_at_first
          (c.fill_by-filled.ensures.filled.by.last no);
    }) c.fill_by-filled.ensures.filled.differs count in
    search (rules, replayed)

pub returns-clause-counted_more : goal.returns-clause-counted_more
returns-clause-counted_more g c =
    omega (arith, c.fill_by-filled.ensures.filled.by.replayed.counted)

pub returns-clause-cause : goal.returns-clause-cause
returns-clause-cause g c =
    search (rules, c.fill_by-filled.ensures.link.cause)
