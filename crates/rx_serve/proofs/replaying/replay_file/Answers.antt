use Rattle.rx_serve.proofs.Lemmas.{no_file_fault}
use Rattle.rx_serve.proofs.Terms.{arith, inl, inr, refl, ℕ, ◌-◌, front_all, replay_shown, replaying}
use Rattle.rx_serve.proofs.replaying.replay_file.Goals as goal

pub returns-in-Err-clause-replays : goal.returns-in-Err-clause-replays
returns-in-Err-clause-replays g c = record { replays = inl (record { cause = c.in-Err.ensures.loads; untouched = refl }); differs = refl }

pub returns-clause-replays : goal.returns-clause-replays
returns-clause-replays g c =
    let more = c.replay_trunk.ensures.counted_more in
    let counted : ℕ = c.replay_trunk.new.steps - c.args.steps.now in
    let all = c.replay_trunk.ensures.replayed counted (omega (arith, more)) in
    record {
      replays = inr (record {
        image = c.in-Ok.both.0;
        recorded = c.in-Ok.both.1;
        loaded = c.in-Ok.ensures.loads;
        called = c.in-Ok.ensures.calls;
        counted = counted;
        counts = omega (arith, more);
        replays = all.replays;
      });
      differs = all.differs;
    }

pub returns-clause-calls : goal.returns-clause-calls
returns-clause-calls g c = front_all _ _ (replaying (replay_shown c.args.replay.now)) c.in-Ok.ensures.calls

pub returns-clause-faults : goal.returns-clause-faults
returns-clause-faults g c =
    let more = c.replay_trunk.ensures.counted_more in
    record {
      file_fault = λ is. absurd (no_file_fault (c.replay_trunk.ensures.replayed (c.replay_trunk.new.steps - c.args.steps.now) (omega (arith, more))).replays is);
      read_fault = c.replay_trunk.ensures.cause.read_fault;
      write_fault = c.replay_trunk.ensures.cause.write_fault;
    }
