use Rattle.session_history.specs.declared.ends.SessionBreak.TheVariants as session_break
use Rattle.session_history.specs.declared.ends.SessionEnd.TheVariants as session_end
use Rattle.session_history.specs.declared.ends.Stop.TheVariants as stop
use Rattle.rx_engine.proofs.Terms.{Err, ap, arith, inl, refl, rules, subst, sym, ◌+◌, ◌<◌, ◌∙◌, ◌≡◌, ◌≤◌, Ledger, CpuState, Rules, CanGive, unnoted_passing, chosen_serves, exited_serves, memory_serves, passing_serves, trims_on, unnoted_chosen, unnoted_serves, asks_now, breaks_now, chooses_later, comes_under, emits_later, exits_now, fails_now, fails_under, further_adopted, further_ok, has_run, later_ok, lost_cut, lost_failed, lost_none, ran_frame, ran_keeping, ran_later, ran_low, ran_oldest, ran_saved, run_under, if_ok, waits_under, comes_lost, same_rules, trimmed_still, still_takes, rules_in, MayServe, rules_by, SessionState, Since}
use Rattle.rx_engine.proofs.session.Session.turn.Goals as goal

pub ask-requires : goal.ask-requires
ask-requires g c =
    let the_rules : Rules = rules_by g.R.AccessRule.rule c.args.self.now in
    let here : Rules = rules_by g.R.AccessRule.rule c.count_run.new.self in
    let same = same_rules g.R.AccessRule.rule (ran_frame {after = c.count_run.new.self} c.self.view_is c.run_to_event.ensures.kept (ap (λ (s : SessionState _). s.options) c.count_run.ensures) (ap (λ (s : SessionState _). s.before) c.count_run.ensures) (ap (λ (s : SessionState _). s.hold) c.count_run.ensures) (ap (λ (s : SessionState _). s.cpu) c.count_run.ensures)) in
    let run = has_run g.R.AccessRule.rule c.env_now-env.ensures c.self.view_is c.in-Ok-Asks.field-0-is c.run_to_event.ensures.kept c.requires.is c.in-Ok-Asks.ensures.event in
    record {
      waits = record { image = c.requires.image; began = c.requires.began; is = waits_under (sym same) (asks_now c.self.view_is c.count_run.ensures run) };
      marked = search rules;
      may = subst (λ (l : Ledger). MayServe (g.K.Link.seen c.args.link.now) l) (sym (ap (λ (s : SessionState _). s.replies) c.count_run.ensures ∙ ap (λ (s : SessionState _). s.replies) c.self.view_is)) c.requires.may;
    }

pub send-requires : goal.send-requires
send-requires g c =
    let the_rules : Rules = rules_by g.R.AccessRule.rule c.args.self.now in
    let here : Rules = rules_in c.self.inside.options c.self.inside.past.before c.self.inside.hold (g.R.AccessRule.rule c.run_to_event.new.self.rule) in
    let same : here ≡ the_rules = λ i. rules_in ((ap (λ (s : SessionState _). s.options) c.self.view_is) i) ((ap (λ (s : SessionState _). s.before) c.self.view_is) i) ((ap (λ (s : SessionState _). s.hold) c.self.view_is) i) (g.R.AccessRule.rule ((ap (λ (cpu : CpuState _). cpu.rule) c.run_to_event.ensures.kept ∙ ap (λ (s : SessionState _). s.cpu.rule) c.self.view_is) i)) in
    let run = has_run g.R.AccessRule.rule c.env_now-env.ensures c.self.view_is c.in-Ok-Emits.field-0-is c.run_to_event.ensures.kept c.requires.is c.in-Ok-Emits.ensures.event in
    record { image = c.requires.image; began = c.requires.began; is = run_under (sym same) run; gives = subst (λ (l : Ledger). CanGive (g.K.Link.seen c.args.link.now) l) (sym (ap (λ (s : SessionState _). s.replies) c.self.view_is)) c.requires.may.gives }

pub returns-in-Ok-Asks-clause-turns : goal.returns-in-Ok-Asks-clause-turns
returns-in-Ok-Asks-clause-turns g c image began lost b counts =
    let before : Since = record began { tables = g.W.Watch.tables c.args.watch.now; noted = (g.N.Notes.shown c.args.notes.now).told } in
    let view = ap (λ (s : SessionState _). s.cpu.slots.live.steps) c.self.view_is in
    let counted = c.run_to_event.ensures.counted in
    let run_counts : c.run_to_event.new.steps + c.args.self.now.cpu.slots.live.steps ≡ c.args.steps.now + c.run_to_event.new.self.slots.live.steps = omega (arith, view, counted) in
    let ask_counted = c.ask.ensures.counted in
    let ask_live : c.count_run.new.self.cpu.slots.live.steps ≡ c.run_to_event.new.self.slots.live.steps = ap (λ (s : SessionState _). s.cpu.slots.live.steps) c.count_run.ensures in
    let asked : c.ask.new.steps + c.run_to_event.new.self.slots.live.steps ≡ c.run_to_event.new.steps + c.ask.new.self.cpu.slots.live.steps = omega (arith, ask_counted, ask_live) in
    let the_rules : Rules = rules_by g.R.AccessRule.rule c.args.self.now in
    let here : Rules = rules_by g.R.AccessRule.rule c.count_run.new.self in
    let same = same_rules g.R.AccessRule.rule (ran_frame {after = c.count_run.new.self} c.self.view_is c.run_to_event.ensures.kept (ap (λ (s : SessionState _). s.options) c.count_run.ensures) (ap (λ (s : SessionState _). s.before) c.count_run.ensures) (ap (λ (s : SessionState _). s.hold) c.count_run.ensures) (ap (λ (s : SessionState _). s.cpu) c.count_run.ensures)) in
    let run = has_run g.R.AccessRule.rule c.env_now-env.ensures c.self.view_is c.in-Ok-Asks.field-0-is c.run_to_event.ensures.kept b c.in-Ok-Asks.ensures.event in
    let after : Since = record began { tables = g.W.Watch.tables c.args.watch.now; noted = (g.N.Notes.shown c.ask.new.notes).told } in
    comes_lost the_rules image after (g.K.Link.seen c.ask.new.link) c.ask.new.self c.ask.result
    (lost_none (g.W.Watch.ran c.args.watch.now) c.args.steps.now c.ask.new.steps c.args.self.now.cpu.slots.live.steps c.run_to_event.new.steps c.run_to_event.new.self.slots.live.steps counts asked run_counts c.ask.ensures.keeps.marked.steps)
    (comes_under image after (g.K.Link.seen c.ask.new.link) c.ask.new.self c.ask.result same
    (c.ask.ensures.turns image before (waits_under (sym same) (asks_now c.self.view_is c.count_run.ensures run))))

pub returns-in-Ok-Emits-clause-turns : goal.returns-in-Ok-Emits-clause-turns
returns-in-Ok-Emits-clause-turns g c image began lost b counts =
    let before : Since = record began { tables = g.W.Watch.tables c.args.watch.now; noted = (g.N.Notes.shown c.args.notes.now).told } in
    let view = ap (λ (s : SessionState _). s.cpu.slots.live.steps) c.self.view_is in
    let counted = c.run_to_event.ensures.counted in
    let run_counts : c.run_to_event.new.steps + c.args.self.now.cpu.slots.live.steps ≡ c.args.steps.now + c.run_to_event.new.self.slots.live.steps = omega (arith, view, counted) in
    let the_rules : Rules = rules_by g.R.AccessRule.rule c.args.self.now in
    let here : Rules = rules_in c.self.inside.options c.self.inside.past.before c.self.inside.hold (g.R.AccessRule.rule c.run_to_event.new.self.rule) in
    let same : here ≡ the_rules = λ i. rules_in ((ap (λ (s : SessionState _). s.options) c.self.view_is) i) ((ap (λ (s : SessionState _). s.before) c.self.view_is) i) ((ap (λ (s : SessionState _). s.hold) c.self.view_is) i) (g.R.AccessRule.rule ((ap (λ (cpu : CpuState _). cpu.rule) c.run_to_event.ensures.kept ∙ ap (λ (s : SessionState _). s.cpu.rule) c.self.view_is) i)) in
    let run = has_run g.R.AccessRule.rule c.env_now-env.ensures c.self.view_is c.in-Ok-Emits.field-0-is c.run_to_event.ensures.kept b c.in-Ok-Emits.ensures.event in
    comes_under image (record before { lost = lost }) (g.K.Link.seen c.send.new.link) c.send.new.self c.send.result same
    (c.send.ensures.turns image before lost c.requires.may.takes (run_under (sym same) run)
    (lost_cut (g.W.Watch.ran c.args.watch.now) lost began.lost c.send.new.self.steps c.args.steps.now c.run_to_event.new.steps c.args.self.now.cpu.slots.live.steps c.run_to_event.new.self.slots.live.steps counts run_counts))

pub returns-in-Ok-Chooses-clause-turns : goal.returns-in-Ok-Chooses-clause-turns
returns-in-Ok-Chooses-clause-turns g c image began lost b counts =
    let before : Since = record began { tables = g.W.Watch.tables c.args.watch.now; noted = (g.N.Notes.shown c.args.notes.now).told } in
    let view = ap (λ (s : SessionState _). s.cpu.slots.live.steps) c.self.view_is in
    let counted = c.run_to_event.ensures.counted in
    let run_counts : c.run_to_event.new.steps + c.args.self.now.cpu.slots.live.steps ≡ c.args.steps.now + c.run_to_event.new.self.slots.live.steps = omega (arith, view, counted) in
    let the_rules : Rules = rules_by g.R.AccessRule.rule c.args.self.now in
    let here : Rules = rules_in c.self.inside.options c.self.inside.past.before c.self.inside.hold (g.R.AccessRule.rule c.run_to_event.new.self.rule) in
    let same : here ≡ the_rules = λ i. rules_in ((ap (λ (s : SessionState _). s.options) c.self.view_is) i) ((ap (λ (s : SessionState _). s.before) c.self.view_is) i) ((ap (λ (s : SessionState _). s.hold) c.self.view_is) i) (g.R.AccessRule.rule ((ap (λ (cpu : CpuState _). cpu.rule) c.run_to_event.ensures.kept ∙ ap (λ (s : SessionState _). s.cpu.rule) c.self.view_is) i)) in
    let run = has_run g.R.AccessRule.rule c.env_now-env.ensures c.self.view_is c.in-Ok-Chooses.field-0-is c.run_to_event.ensures.kept b c.in-Ok-Chooses.ensures.event in
    comes_under image (record before { lost = lost }) (g.K.Link.seen c.args.link.now) c.choose.new.self c.choose.result same
    (c.choose.ensures.turns image before _ lost c.requires.may.takes (run_under (sym same) run)
    (lost_cut (g.W.Watch.ran c.args.watch.now) lost began.lost c.choose.new.self.steps c.args.steps.now c.run_to_event.new.steps c.args.self.now.cpu.slots.live.steps c.run_to_event.new.self.slots.live.steps counts run_counts))

pub returns-in-Ok-Exits-clause-turns : goal.returns-in-Ok-Exits-clause-turns
returns-in-Ok-Exits-clause-turns g c image began lost b counts =
    let before : Since = record began { tables = g.W.Watch.tables c.args.watch.now; noted = (g.N.Notes.shown c.args.notes.now).told } in
    let view = ap (λ (s : SessionState _). s.cpu.slots.live.steps) c.self.view_is in
    let counted = c.run_to_event.ensures.counted in
    let run_counts : c.run_to_event.new.steps + c.args.self.now.cpu.slots.live.steps ≡ c.args.steps.now + c.run_to_event.new.self.slots.live.steps = omega (arith, view, counted) in
    let the_rules : Rules = rules_by g.R.AccessRule.rule c.args.self.now in
    let run = has_run g.R.AccessRule.rule c.env_now-env.ensures c.self.view_is c.in-Ok-Exits.field-0-is c.run_to_event.ensures.kept b c.in-Ok-Exits.ensures.event in
    comes_lost the_rules image before (g.K.Link.seen c.args.link.now) c.count_run-in-Ok-Exits.new.self (Err (stop.Ends (session_end.Exited c.in-Ok-Exits.code)))
    (lost_none (g.W.Watch.ran c.args.watch.now) c.args.steps.now c.run_to_event.new.steps c.args.self.now.cpu.slots.live.steps c.run_to_event.new.steps c.run_to_event.new.self.slots.live.steps counts refl run_counts
    (ap (λ (s : SessionState _). s.steps) c.count_run-in-Ok-Exits.ensures))
    (exits_now c.self.view_is c.count_run-in-Ok-Exits.ensures run, λ none. still_takes _ c.requires.may.takes none)

pub returns-in-Err-clause-turns : goal.returns-in-Err-clause-turns
returns-in-Err-clause-turns g c image began lost b counts =
    let view = ap (λ (s : SessionState _). s.cpu.slots.live.steps) c.self.view_is in
    let counted = c.run_to_event.ensures.counted in
    let run_counts : c.run_to_event.new.steps + c.args.self.now.cpu.slots.live.steps ≡ c.args.steps.now + c.run_to_event.new.self.slots.live.steps = omega (arith, view, counted) in (
      breaks_now g.R.AccessRule.rule c.run_to_event.result c.env_now-env.ensures c.self.view_is (ran_keeping c.self.view_is c.run_to_event.ensures.kept) (ran_saved c.self.view_is c.run_to_event.ensures.kept) b c.run_to_event.ensures.event
          (lost_cut (g.W.Watch.ran c.args.watch.now) lost began.lost c.self.inside.steps c.args.steps.now c.run_to_event.new.steps c.args.self.now.cpu.slots.live.steps c.run_to_event.new.self.slots.live.steps counts run_counts),
      λ none. still_takes _ c.requires.may.takes none,
    )

pub recover-requires : goal.recover-requires
recover-requires g c =
    let the_rules : Rules = rules_by g.R.AccessRule.rule c.args.self.now in
    let here : Rules = rules_by g.R.AccessRule.rule c.count_run-in-Ok-Failed.new.self in
    let same = same_rules g.R.AccessRule.rule (ran_frame {after = c.count_run-in-Ok-Failed.new.self} c.self.view_is c.run_to_event.ensures.kept (ap (λ (s : SessionState _). s.options) c.count_run-in-Ok-Failed.ensures) (ap (λ (s : SessionState _). s.before) c.count_run-in-Ok-Failed.ensures) (ap (λ (s : SessionState _). s.hold) c.count_run-in-Ok-Failed.ensures) (ap (λ (s : SessionState _). s.cpu) c.count_run-in-Ok-Failed.ensures)) in
    let run = has_run g.R.AccessRule.rule c.env_now-env.ensures c.self.view_is c.in-Ok-Failed.field-0-is c.run_to_event.ensures.kept c.requires.is c.in-Ok-Failed.ensures.event in
    record {
      image = c.requires.image;
      began = c.requires.began;
      tables_are = c.requires.tables_are;
      is = fails_under (sym same) (fails_now c.self.view_is c.count_run-in-Ok-Failed.ensures run);
      marked = search rules;
      may = subst (λ (l : Ledger). MayServe (g.K.Link.seen c.args.link.now) l) (sym (ap (λ (s : SessionState _). s.replies) c.count_run-in-Ok-Failed.ensures ∙ ap (λ (s : SessionState _). s.replies) c.self.view_is)) c.requires.may;
    }

pub returns-in-Ok-Failed-clause-turns : goal.returns-in-Ok-Failed-clause-turns
returns-in-Ok-Failed-clause-turns g c image began lost b counts =
    let before : Since = record began { tables = g.W.Watch.tables c.args.watch.now; noted = (g.N.Notes.shown c.args.notes.now).told } in
    let view = ap (λ (s : SessionState _). s.cpu.slots.live.steps) c.self.view_is in
    let counted = c.run_to_event.ensures.counted in
    let steps : c.count_run-in-Ok-Failed.new.self.steps ≡ c.run_to_event.new.self.slots.live.steps = ap (λ (s : SessionState _). s.steps) c.count_run-in-Ok-Failed.ensures in
    let run_counts : c.run_to_event.new.steps + c.args.self.now.cpu.slots.live.steps ≡ c.args.steps.now + c.count_run-in-Ok-Failed.new.self.steps = omega (arith, view, counted, steps) in
    let the_rules : Rules = rules_by g.R.AccessRule.rule c.args.self.now in
    let here : Rules = rules_by g.R.AccessRule.rule c.count_run-in-Ok-Failed.new.self in
    let same = same_rules g.R.AccessRule.rule (ran_frame {after = c.count_run-in-Ok-Failed.new.self} c.self.view_is c.run_to_event.ensures.kept (ap (λ (s : SessionState _). s.options) c.count_run-in-Ok-Failed.ensures) (ap (λ (s : SessionState _). s.before) c.count_run-in-Ok-Failed.ensures) (ap (λ (s : SessionState _). s.hold) c.count_run-in-Ok-Failed.ensures) (ap (λ (s : SessionState _). s.cpu) c.count_run-in-Ok-Failed.ensures)) in
    let run = has_run g.R.AccessRule.rule c.env_now-env.ensures c.self.view_is c.in-Ok-Failed.field-0-is c.run_to_event.ensures.kept b c.in-Ok-Failed.ensures.event in
    comes_under image (record began { lost = lost; tables = g.W.Watch.tables c.recover.new.watch; noted = (g.N.Notes.shown c.recover.new.notes).told }) (g.K.Link.seen c.recover.new.link) c.recover.new.self c.recover.result same
    (c.recover.ensures.turns image before lost (fails_under (sym same) (fails_now c.self.view_is c.count_run-in-Ok-Failed.ensures run))
    (lost_failed (g.W.Watch.ran c.args.watch.now) (g.W.Watch.ran c.recover.new.watch) lost began.lost c.recover.new.self.steps c.args.steps.now c.recover.new.steps c.args.self.now.cpu.slots.live.steps c.run_to_event.new.steps c.count_run-in-Ok-Failed.new.self.steps counts run_counts))

pub returns-in-Ok-Emits-clause-least : goal.returns-in-Ok-Emits-clause-least
returns-in-Ok-Emits-clause-least g c =
    let view = ap (λ (s : SessionState _). s.cpu.slots.live.steps) c.self.view_is in
    let counted = c.run_to_event.ensures.counted in
    let low = c.send.ensures.keeps.low (ran_low g.R.AccessRule.rule c.run_to_event.new.self c.run_to_event.result c.env_now-env.ensures c.self.view_is c.requires.is c.run_to_event.ensures.event) in
    let live : c.send.new.self.cpu.slots.live.steps ≡ c.run_to_event.new.self.slots.live.steps = ap (λ (cpu : CpuState _). cpu.slots.live.steps) c.send.ensures.keeps.cpu in
    omega (arith, view, counted, low, live)

pub returns-in-Ok-Chooses-clause-least : goal.returns-in-Ok-Chooses-clause-least
returns-in-Ok-Chooses-clause-least g c =
    let view = ap (λ (s : SessionState _). s.cpu.slots.live.steps) c.self.view_is in
    let counted = c.run_to_event.ensures.counted in
    let low = c.choose.ensures.keeps.low (ran_low g.R.AccessRule.rule c.run_to_event.new.self c.run_to_event.result c.env_now-env.ensures c.self.view_is c.requires.is c.run_to_event.ensures.event) in
    let live : c.choose.new.self.cpu.slots.live.steps ≡ c.run_to_event.new.self.slots.live.steps = ap (λ (cpu : CpuState _). cpu.slots.live.steps) c.choose.ensures.keeps.cpu in
    omega (arith, view, counted, low, live)

pub returns-in-Err-clause-least : goal.returns-in-Err-clause-least
returns-in-Err-clause-least g c =
    let view = ap (λ (s : SessionState _). s.cpu.slots.live.steps) c.self.view_is in
    let counted = c.run_to_event.ensures.counted in
    let low = (ran_low g.R.AccessRule.rule c.run_to_event.new.self c.run_to_event.result c.env_now-env.ensures c.self.view_is c.requires.is c.run_to_event.ensures.event) in
    omega (arith, view, counted, low)

pub returns-in-Ok-Asks-clause-keeps : goal.returns-in-Ok-Asks-clause-keeps
returns-in-Ok-Asks-clause-keeps g c = record {
  link = c.ask.ensures.keeps.link;
  notes = c.ask.ensures.keeps.notes;
  frame = search rules;
  keeping = search rules;
  trimmed = λ before. c.ask.ensures.keeps.trimmed;
  marked = search rules;
  later =
      further_ok c.ask.result c.args.self.now c.ask.new.self (c.ask.ensures.keeps.until ∙ (ap (λ (s : SessionState _). s.until) c.count_run.ensures ∙ ap (λ (s : SessionState _). s.until) c.self.view_is))
      (later_ok c.ask.result _ (subst (λ (s : SessionState _). c.args.self.now.cpu.slots.live.steps ≤ s.cpu.slots.live.steps) (sym c.count_run.ensures)
      (ran_later g.R.AccessRule.rule c.run_to_event.new.self c.env_now-env.ensures c.self.view_is c.requires.is c.in-Ok-Asks.ensures.event)) c.ask.ensures.keeps.later);
}

pub returns-in-Ok-Emits-clause-keeps : goal.returns-in-Ok-Emits-clause-keeps
returns-in-Ok-Emits-clause-keeps g c = record {
  link = passing_serves c.send.result c.requires.may.takes c.send.ensures.keeps.link;
  notes = unnoted_serves c.send.result (unnoted_passing c.send.result c.send.ensures.keeps.link.broken);
  frame = search rules;
  keeping = search rules;
  trimmed = trims_on (g.N.Notes.shown c.args.notes.now) (g.N.Notes.shown c.args.notes.now) c.send.result (ran_oldest c.self.view_is c.run_to_event.ensures.kept refl) c.send.ensures.keeps.oldest;
  marked = search rules;
  later =
      further_ok c.send.result c.args.self.now c.send.new.self (c.send.ensures.keeps.until ∙ ap (λ (s : SessionState _). s.until) c.self.view_is)
      (if_ok _ c.send.result (subst (λ (cpu : CpuState _). c.args.self.now.cpu.slots.live.steps < cpu.slots.live.steps) (sym c.send.ensures.keeps.cpu)
      (emits_later g.R.AccessRule.rule c.run_to_event.new.self c.env_now-env.ensures c.self.view_is c.in-Ok-Emits.field-0-is c.requires.is c.in-Ok-Emits.ensures.event)));
}

pub returns-in-Ok-Chooses-clause-keeps : goal.returns-in-Ok-Chooses-clause-keeps
returns-in-Ok-Chooses-clause-keeps g c = record {
  link = chosen_serves c.choose.result (subst (λ (l : Ledger). MayServe (g.K.Link.seen c.args.link.now) l) (sym (c.choose.ensures.keeps.replies ∙ ap (λ (s : SessionState _). s.replies) c.self.view_is)) c.requires.may) c.choose.ensures.keeps.broken;
  notes = unnoted_serves c.choose.result (unnoted_chosen c.choose.result c.choose.ensures.keeps.broken);
  frame = search rules;
  keeping = search rules;
  trimmed = trims_on (g.N.Notes.shown c.args.notes.now) (g.N.Notes.shown c.args.notes.now) c.choose.result (ran_oldest c.self.view_is c.run_to_event.ensures.kept refl) c.choose.ensures.keeps.oldest;
  marked = search rules;
  later =
      further_ok c.choose.result c.args.self.now c.choose.new.self (c.choose.ensures.keeps.until ∙ ap (λ (s : SessionState _). s.until) c.self.view_is)
      (if_ok _ c.choose.result (subst (λ (cpu : CpuState _). c.args.self.now.cpu.slots.live.steps < cpu.slots.live.steps) (sym c.choose.ensures.keeps.cpu)
      (chooses_later g.R.AccessRule.rule c.run_to_event.new.self c.env_now-env.ensures c.self.view_is c.in-Ok-Chooses.field-0-is c.requires.is c.in-Ok-Chooses.ensures.event)));
}

pub returns-in-Ok-Exits-clause-keeps : goal.returns-in-Ok-Exits-clause-keeps
returns-in-Ok-Exits-clause-keeps g c = record {
  link = exited_serves c.in-Ok-Exits.code (subst (λ (l : Ledger). MayServe (g.K.Link.seen c.args.link.now) l) (sym (ap (λ (s : SessionState _). s.replies) c.count_run-in-Ok-Exits.ensures ∙ ap (λ (s : SessionState _). s.replies) c.self.view_is)) c.requires.may);
  notes = unnoted_serves (Err (stop.Ends (session_end.Exited c.in-Ok-Exits.code))) tt;
  frame = search rules;
  keeping = search rules;
  trimmed = search rules;
  marked = search rules;
  later = search rules;
}

pub returns-in-Ok-Failed-clause-keeps : goal.returns-in-Ok-Failed-clause-keeps
returns-in-Ok-Failed-clause-keeps g c = record {
  link = c.recover.ensures.keeps.link;
  notes = c.recover.ensures.keeps.notes;
  frame = search rules;
  keeping = search rules;
  trimmed = trims_on (g.N.Notes.shown c.args.notes.now) (g.N.Notes.shown c.recover.new.notes) c.recover.result (ran_oldest c.self.view_is c.run_to_event.ensures.kept c.count_run-in-Ok-Failed.ensures) c.recover.ensures.keeps.oldest;
  marked = search rules;
  later =
      further_adopted c.recover.result c.args.self.now c.count_run-in-Ok-Failed.new.self c.recover.new.self (ap (λ (s : SessionState _). s.until) c.count_run-in-Ok-Failed.ensures ∙ ap (λ (s : SessionState _). s.until) c.self.view_is)
      (ap (λ (s : SessionState _). s.options) c.count_run-in-Ok-Failed.ensures ∙ ap (λ (s : SessionState _). s.options) c.self.view_is) c.recover.ensures.keeps.later;
}

pub returns-in-Err-clause-keeps : goal.returns-in-Err-clause-keeps
returns-in-Err-clause-keeps g c = record {
  link = memory_serves c.requires.may.gives.gives_still;
  notes = unnoted_serves (Err (stop.Breaks session_break.Memory)) tt;
  frame = search rules;
  keeping = ran_keeping c.self.view_is c.run_to_event.ensures.kept;
  trimmed = λ before. inl (trimmed_still (ran_oldest c.self.view_is c.run_to_event.ensures.kept refl) before);
  marked = search rules;
  later = search rules;
}
