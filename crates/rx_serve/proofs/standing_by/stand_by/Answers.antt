use Rattle.rx_serve.proofs.Lemmas.{wider_faults}
use Rattle.rx_serve.proofs.Terms.{Option, inr, subst, Contents, standby_shown, outside, TakesOver}
use Rattle.rx_serve.proofs.standing_by.stand_by.Goals as goal

pub returns-clause-ends : goal.returns-clause-ends
returns-clause-ends g c =
    let takeover = c.in-Ok.takeover in
    let taken = c.take_over_trunk in
    inr (record {
      image = takeover.image;
      recorded = takeover.recorded;
      counts = takeover.counts;
      loaded = c.in-Ok.ensures.loads;
      calls_loaded = g.F.Files.calls c.load_takeover.new.files;
      called = c.in-Ok.ensures.calls;
      takes =
          subst (λ (f : Option Contents). TakesOver (standby_shown c.args.standby.now) takeover.image takeover.recorded takeover.counts
          (outside f (g.F.Files.calls c.load_takeover.new.files) (g.S.Source.told c.args.input.now) (g.K.Sink.told c.args.output.now) c.args.steps.now)
          (outside (g.F.Files.told taken.new.files) (g.F.Files.calls taken.new.files) (g.S.Source.told taken.new.input) (g.K.Sink.told taken.new.output) taken.new.steps) taken.result) c.in-Ok.ensures.same taken.ensures.takes;
    })

pub returns-clause-faults : goal.returns-clause-faults
returns-clause-faults g c = wider_faults c.in-Ok.ensures.later c.take_over_trunk.ensures.faults
