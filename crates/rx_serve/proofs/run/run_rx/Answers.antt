use Rattle.rx_serve.proofs.Lemmas.{at_once_few, budget_few, conns_few, port_few}
use Rattle.rx_serve.proofs.Terms.{Some, refl, rules, ◌≡◌, session_in_range, command_of, convert, convert_shown, diagnose, diagnose_shown, drill, drill_shown, replay, replay_shown, resume, resume_shown, run, run_shown, serve, serve_shown, standby, standby_shown, texts_of}
use Rattle.rx_serve.proofs.ComparingLemmas.{convert_ends, convert_replays, replay_ends, replay_replays, standby_replays}
use Rattle.rx_serve.proofs.MemoryLemmas.{memory_ends}
use Rattle.rx_serve.proofs.NamesLemmas.{names_differ, new_names_differ, port_names_differ, diagnose_names_differ, diagnosis_differs}

pub run_program-requires-clause-two : Rattle.rx_serve.proofs.run.run_rx.Goals.run_program-requires-clause-two
run_program-requires-clause-two g c =
    let asked : command_of (texts_of c.args.words.now) ≡ Some (run (run_shown c.in-Ok-Some-Run.run')) = search (rules, c.in-Ok-Some-Run.ensures.read) in
    names_differ (texts_of c.args.words.now) (run_shown c.in-Ok-Some-Run.run') asked

pub serve_program-requires-clause-two : Rattle.rx_serve.proofs.run.run_rx.Goals.serve_program-requires-clause-two
serve_program-requires-clause-two g c =
    let asked : command_of (texts_of c.args.words.now) ≡ Some (serve (serve_shown c.in-Ok-Some-Serve.serve)) = search (rules, c.in-Ok-Some-Serve.ensures.read) in
    port_names_differ (texts_of c.args.words.now) (serve_shown c.in-Ok-Some-Serve.serve) asked

pub serve_program-requires-clause-in_range : Rattle.rx_serve.proofs.run.run_rx.Goals.serve_program-requires-clause-in_range
serve_program-requires-clause-in_range g c = session_in_range (serve_shown c.in-Ok-Some-Serve.serve) (search (rules, c.in-Ok-Some-Serve.ensures.ranges))

pub serve_program-requires-clause-listens : Rattle.rx_serve.proofs.run.run_rx.Goals.serve_program-requires-clause-listens
serve_program-requires-clause-listens g c = (
  port_few (serve_shown c.in-Ok-Some-Serve.serve) (search (rules, c.in-Ok-Some-Serve.ensures.ranges)),
  ((conns_few (serve_shown c.in-Ok-Some-Serve.serve) (search (rules, c.in-Ok-Some-Serve.ensures.ranges))).1, at_once_few (serve_shown c.in-Ok-Some-Serve.serve) (search (rules, c.in-Ok-Some-Serve.ensures.ranges))),
)

pub diagnose_program-requires-clause-two : Rattle.rx_serve.proofs.run.run_rx.Goals.diagnose_program-requires-clause-two
diagnose_program-requires-clause-two g c =
    let asked : command_of (texts_of c.args.words.now) ≡ Some (diagnose (diagnose_shown c.in-Ok-Some-Diagnose.diagnose)) = search (rules, c.in-Ok-Some-Diagnose.ensures.read) in
    diagnose_names_differ (texts_of c.args.words.now) (diagnose_shown c.in-Ok-Some-Diagnose.diagnose) asked

pub diagnose_program-requires-clause-third : Rattle.rx_serve.proofs.run.run_rx.Goals.diagnose_program-requires-clause-third
diagnose_program-requires-clause-third g c =
    let asked : command_of (texts_of c.args.words.now) ≡ Some (diagnose (diagnose_shown c.in-Ok-Some-Diagnose.diagnose)) = search (rules, c.in-Ok-Some-Diagnose.ensures.read) in
    diagnosis_differs (texts_of c.args.words.now) (diagnose_shown c.in-Ok-Some-Diagnose.diagnose) asked

pub returns-in-Ok-Some-Replay-clause-ends : Rattle.rx_serve.proofs.run.run_rx.Goals.returns-in-Ok-Some-Replay-clause-ends
returns-in-Ok-Some-Replay-clause-ends g c =
    let asked : command_of (texts_of c.args.words.now) ≡ Some (replay (replay_shown c.in-Ok-Some-Replay.replay)) = search (rules, c.in-Ok-Some-Replay.ensures.read) in
    rw asked (replay_ends (replay_shown c.in-Ok-Some-Replay.replay) _ _ _ _ c.of_replay.result c.replay_file-replayed.ensures.replays c.of_replay.ensures.answer
    c.of_replay.ensures.differs c.replay_file-replayed.ensures.calls c.replay_file-replayed.ensures.same c.of_replay.ensures.nothing)

pub returns-in-Ok-Some-Replay-clause-differs : Rattle.rx_serve.proofs.run.run_rx.Goals.returns-in-Ok-Some-Replay-clause-differs
returns-in-Ok-Some-Replay-clause-differs g c =
    let asked : command_of (texts_of c.args.words.now) ≡ Some (replay (replay_shown c.in-Ok-Some-Replay.replay)) = search (rules, c.in-Ok-Some-Replay.ensures.read) in
    λ other. absurd (other (replay_replays _ (replay_shown c.in-Ok-Some-Replay.replay) asked))

pub returns-in-Ok-Some-Convert-clause-ends : Rattle.rx_serve.proofs.run.run_rx.Goals.returns-in-Ok-Some-Convert-clause-ends
returns-in-Ok-Some-Convert-clause-ends g c =
    let asked : command_of (texts_of c.args.words.now) ≡ Some (convert (convert_shown c.in-Ok-Some-Convert.convert)) = search (rules, c.in-Ok-Some-Convert.ensures.read) in
    rw asked (convert_ends (convert_shown c.in-Ok-Some-Convert.convert) _ _ _ _ c.of_replay-in-Ok-Some-Convert.result (c.convert_file-replayed.ensures.converts _) c.of_replay-in-Ok-Some-Convert.ensures.answer
    c.of_replay-in-Ok-Some-Convert.ensures.differs c.convert_file-replayed.ensures.calls refl c.of_replay-in-Ok-Some-Convert.ensures.nothing)

pub returns-in-Ok-Some-Convert-clause-differs : Rattle.rx_serve.proofs.run.run_rx.Goals.returns-in-Ok-Some-Convert-clause-differs
returns-in-Ok-Some-Convert-clause-differs g c =
    let asked : command_of (texts_of c.args.words.now) ≡ Some (convert (convert_shown c.in-Ok-Some-Convert.convert)) = search (rules, c.in-Ok-Some-Convert.ensures.read) in
    λ other. absurd (other (convert_replays _ (convert_shown c.in-Ok-Some-Convert.convert) asked))

pub stand_by-requires : Rattle.rx_serve.proofs.run.run_rx.Goals.stand_by-requires
stand_by-requires g c = record { budget = budget_few (standby_shown c.in-Ok-Some-Standby.standby) (search (rules, c.in-Ok-Some-Standby.ensures.ranges)) }

pub returns-in-Ok-Some-Standby-clause-ends : Rattle.rx_serve.proofs.run.run_rx.Goals.returns-in-Ok-Some-Standby-clause-ends
returns-in-Ok-Some-Standby-clause-ends g c =
    let asked : command_of (texts_of c.args.words.now) ≡ Some (standby (standby_shown c.in-Ok-Some-Standby.standby)) = search (rules, c.in-Ok-Some-Standby.ensures.read) in
    rw asked c.stand_by.ensures.ends

pub returns-in-Ok-Some-Standby-clause-differs : Rattle.rx_serve.proofs.run.run_rx.Goals.returns-in-Ok-Some-Standby-clause-differs
returns-in-Ok-Some-Standby-clause-differs g c =
    let asked : command_of (texts_of c.args.words.now) ≡ Some (standby (standby_shown c.in-Ok-Some-Standby.standby)) = search (rules, c.in-Ok-Some-Standby.ensures.read) in
    λ other. absurd (other (standby_replays _ (standby_shown c.in-Ok-Some-Standby.standby) asked))

pub returns-in-Ok-Some-Drill-clause-ends : Rattle.rx_serve.proofs.run.run_rx.Goals.returns-in-Ok-Some-Drill-clause-ends
returns-in-Ok-Some-Drill-clause-ends g c =
    let asked : command_of (texts_of c.args.words.now) ≡ Some (drill (drill_shown c.in-Ok-Some-Drill.drill)) = search (rules, c.in-Ok-Some-Drill.ensures.read) in
    rw asked (c.drill_session.ensures.drills _ _ _)

pub returns-in-Err-clause-ends : Rattle.rx_serve.proofs.run.run_rx.Goals.returns-in-Err-clause-ends
returns-in-Err-clause-ends g c =
    memory_ends (command_of (texts_of c.args.words.now)) _ _ c.without_session-in-Err.result (λ none. let same = c.in-Err.ensures.refused none in search (rules, same, c.in-Err.is)) c.without_session-in-Err.ensures.answer c.without_session-in-Err.ensures.nothing c.without_session-in-Err.ensures.differs

pub resume_program-requires-clause-two : Rattle.rx_serve.proofs.run.run_rx.Goals.resume_program-requires-clause-two
resume_program-requires-clause-two g c =
    let asked : command_of (texts_of c.args.words.now) ≡ Some (resume (resume_shown c.in-Ok-Some-Resume.resume)) = search (rules, c.in-Ok-Some-Resume.ensures.read) in
    new_names_differ (texts_of c.args.words.now) (resume_shown c.in-Ok-Some-Resume.resume) asked

pub returns-in-Ok-Some-Resume-clause-ends : Rattle.rx_serve.proofs.run.run_rx.Goals.returns-in-Ok-Some-Resume-clause-ends
returns-in-Ok-Some-Resume-clause-ends g c =
    let asked : command_of (texts_of c.args.words.now) ≡ Some (resume (resume_shown c.in-Ok-Some-Resume.resume)) = search (rules, c.in-Ok-Some-Resume.ensures.read) in
    rw asked c.resume_program.ensures.ends
