use Rattle.session_state.proofs.ending.StartLemmas.{begun_rules}
use Rattle.drill.proofs.Terms.{Some, ap, sym, ◌-◌, ◌∙◌, ◌≡◌, Script, Stop, answer_of, list_choices, list_episodes, outcome_of, rules_by, end_status, passed_bytes, refuses_none}
use Rattle.drill.proofs.DrillLemmas.{ends_with, sums_up}
use Rattle.drill.proofs.drilling.serve_events.Goals as goal

pub returns-clause-sums_up : goal.returns-clause-sums_up
returns-clause-sums_up g c =
    let has = c.serve-end.ensures.served in
    let status : end_status (answer_of has.why) ≡ Some c.in_ok-status.status = ap end_status (sym has.is) ∙ sym c.end_status.ensures ∙ c.in_ok-status.was in
    let ends = ends_with has.why c.in_ok-status.status status in
    λ image begun.
    sums_up (rules_by (λ _. refuses_none) c.args.session.now) c.args.session.now.options c.args.events.items image (c.serve-end.new.steps - c.args.steps.now) c.make-link.result.link c.serve-end.new.link.link ends.0 (outcome_of has.why c.serve-end.new.self)
    (list_choices c.make-notes.result.list) (list_choices c.serve-end.new.notes.list) (list_episodes c.make-notes.result.list) (list_episodes c.serve-end.new.notes.list)
    (record { items = c.taken.result; episodes = c.count.result; bytes = c.passed_bytes.result; status = c.in_ok-status.status })
    (begun_rules (λ _. refuses_none) begun) c.requires.settings c.make-notes.ensures.choices c.make-notes.ensures.episodes
    (record {
      began = c.make-link.ensures.journal;
      script = ap (λ (s : Script). s.events) c.make-link.ensures.script;
      went = c.serve-end.ensures.outside.0;
      tame = c.journal.ensures.tame;
      no_end = c.requires.no_end;
      stops = ends.1;
      items = c.taken.ensures;
      count = c.count.ensures;
      bytes = c.passed_bytes.ensures ∙ ap passed_bytes c.journal.ensures.journal;
      status = sym status ∙ ap (λ (why : Stop). end_status (answer_of why)) ends.1;
    })
    (has.served image begun).0.recovered
