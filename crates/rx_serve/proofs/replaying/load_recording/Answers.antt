use Rattle.rx_serve.proofs.Lemmas.{replay_both, replay_none, replay_one, has_recording}
use Rattle.rx_serve.proofs.Terms.{arith, ◌%◌, ◌*◌, ◌≡◌, ◌≤◌, front_all, replay_shown, replaying, window_in}
use Rattle.rx_serve.proofs.replaying.load_recording.Goals as goal

pub returns-in-Ok-image_in-clause-loads : goal.returns-in-Ok-image_in-clause-loads
returns-in-Ok-image_in-clause-loads g c =
    let most : c.in-Ok-load_record.recorded.window ≤ 64 = c.in-Ok-load_record.ensures.loads.is.0.window in
    let window : c.in-Ok-load_record.recorded.window * 1048576 % 4294967296 ≡ window_in c.in-Ok-load_record.recorded = omega (arith, most) in
    has_recording (replay_shown c.args.replay.now) c.in-Ok.ensures.loads c.in-Ok.ensures.same c.in-Ok-load_record.ensures.loads c.as_slice.ensures.value window c.in-Ok-image_in.ensures

pub returns-in-Ok-image_in-clause-calls : goal.returns-in-Ok-image_in-clause-calls
returns-in-Ok-image_in-clause-calls g c = replay_both (replay_shown c.args.replay.now) _ _ _ c.in-Ok.ensures.calls c.in-Ok-load_record.ensures.calls

pub returns-in-Err-clause-calls : goal.returns-in-Err-clause-calls
returns-in-Err-clause-calls g c = replay_none (replay_shown c.args.replay.now) _ _ c.in-Err.answer c.in-Err.ensures.calls

pub returns-in-Err-load_record-clause-calls : goal.returns-in-Err-load_record-clause-calls
returns-in-Err-load_record-clause-calls g c = replay_one (replay_shown c.args.replay.now) _ _ _ c.in-Err-load_record.answer c.in-Ok.ensures.calls c.in-Err-load_record.ensures.calls

pub returns-clause-calls : goal.returns-clause-calls
returns-clause-calls g c =
    front_all _ _ (replaying (replay_shown c.args.replay.now)) (replay_both (replay_shown c.args.replay.now) _ _ _ c.in-Ok.ensures.calls c.in-Ok-load_record.ensures.calls)
