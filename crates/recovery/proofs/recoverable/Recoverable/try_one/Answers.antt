use Rattle.recovery.proofs.Terms.{sym}
use Rattle.recovery.proofs.Stands.{checkpoint_there}
use Rattle.recovery.proofs.Adopting.{trial_of, is_made, begun_one, is_adopted, adopt_asks, adopted_survives, none_adopted}
use Rattle.recovery.proofs.recoverable.Recoverable.try_one.Goals as goal

pub adopt-requires : goal.adopt-requires
adopt-requires g c =
    let w = c.requires.failed in
    let at = checkpoint_there c.args.self.now.cpu.slots.saved w.failure.ring w.failed.has.saved c.requires.within in
    let a = adopt_asks c.args.chance.index w.failed at.1 c.in-Ok.ensures.kept.saved c.in-Ok.ensures.ledger
    (adopted_survives c.args.chance.index c.args.chance.env c.in-Ok.tried (sym c.in-Some.ensures)) (c.in-Ok.ensures.tries w.failure at.0 w.under w.failed at.1) in
    record { trial = a.0; agrees = a.1; covers = a.2 }

pub returns-in-None-clause-tries : goal.returns-in-None-clause-tries
returns-in-None-clause-tries g c failure checkpoint under failed found =
    let h = c.in-Ok.ensures.tries failure checkpoint under failed found in
    record {
      trial = trial_of h;
      made = is_made c.args.chance.index failed found c.taken_at-checkpoint.result c.in-Ok.ensures.kept.saved c.taken_at-checkpoint.ensures.taken c.in-Ok.ensures.counts.counted c.in_default.ensures h;
      failed = none_adopted c.args.chance.index c.args.chance.env c.in-Ok.tried (sym c.in-None.ensures);
    }

pub returns-in-Some-clause-tries : goal.returns-in-Some-clause-tries
returns-in-Some-clause-tries g c failure checkpoint under failed found =
    let h = c.in-Ok.ensures.tries failure checkpoint under failed found in
    record {
      trial = trial_of h;
      made = is_made c.args.chance.index failed found c.taken_at-checkpoint.result c.in-Ok.ensures.kept.saved c.taken_at-checkpoint.ensures.taken c.in-Ok.ensures.counts.counted c.in_default.ensures h;
      adopts = is_adopted c.args.chance.index failed found c.in-Ok.ensures.kept.saved c.in-Ok.ensures.ledger (sym c.in-Some.ensures) c.in-Ok.ensures.stands c.adopt.ensures h;
    }

pub returns-in-Err-note-clause-tries : goal.returns-in-Err-note-clause-tries
returns-in-Err-note-clause-tries g c failure checkpoint under failed found =
    let h = c.in-Ok.ensures.tries failure checkpoint under failed found in
    begun_one c.args.chance.index failed found h.path c.in-Ok.ensures.counts.counted h.trial.from h.stands

pub returns-in-Err-clause-tries : goal.returns-in-Err-clause-tries
returns-in-Err-clause-tries g c failure checkpoint under failed found =
    let h = c.in-Err.ensures.tries failure checkpoint under failed found in
    begun_one c.args.chance.index failed found h.path c.in-Err.ensures.counts.counted h.from h.stands
