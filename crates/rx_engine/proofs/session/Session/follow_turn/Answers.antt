use Rattle.session_history.specs.declared.ends.SessionBreak.TheVariants as session_break
use Rattle.session_history.specs.declared.ends.Stop.TheVariants as stop
use Rattle.session_following.specs.declared.unfollowed.Unfollowed.TheVariants as unfollowed
use Rattle.rx_engine.proofs.Terms.{Err, List, ap, arith, inl, refl, subst, sym, ℕ, ◌<◌, ◌∙◌, Ledger, CpuState, Standing, memory_serves, unnoted_serves, ran_keeping, ran_oldest, trimmed_still, MayServe, rules_by, SessionState, memory_of, handed_of, TurnsTo}
use Rattle.rx_engine.proofs.TurnFollowed.{asks_on, chose_more, fails_on, follows_fits, if_follows, keeps_step, later_follows, moved_oldest, never_follows, ran_least, run_on, sent_more, stopped_still}
use Rattle.rx_engine.proofs.session.Session.follow_turn.Goals as goal

pub follow_request-requires-clause-asks : goal.follow_request-requires-clause-asks
follow_request-requires-clause-asks g c = (c.requires.follows.0, c.requires.follows.1, c.requires.follows.2, c.requires.follows.3, asks_on g.R.AccessRule.rule c.move_on.ensures (run_on g.R.AccessRule.rule c.env_now-env.ensures c.self.view_is c.run_to_event.ensures.kept c.requires.follows.4 c.in-Ok-Asks.field-0-is c.in-Ok-Asks.ensures.event))

pub follow_request-requires-clause-may : goal.follow_request-requires-clause-may
follow_request-requires-clause-may g c = subst (λ (l : Ledger). MayServe (g.K.Link.seen c.args.link.now) l) (sym (ap (λ (s : SessionState _). s.replies) c.move_on.ensures ∙ ap (λ (s : SessionState _). s.replies) c.self.view_is)) c.requires.may

pub follow_send-requires : goal.follow_send-requires
follow_send-requires g c = (handed_of c.args.handed.now, record { rules = c.requires.follows.0; image = c.requires.follows.1; before = c.requires.follows.2; seen = g.K.Link.seen c.args.link.now; noted_before = c.requires.follows.3; noted = (g.N.Notes.shown c.args.notes.now).told; is = (run_on g.R.AccessRule.rule c.env_now-env.ensures c.self.view_is c.run_to_event.ensures.kept c.requires.follows.4 c.in-Ok-Emits.field-0-is c.in-Ok-Emits.ensures.event) })

pub follow_choice-requires : goal.follow_choice-requires
follow_choice-requires g c = (c.args.missing.now, record { rules = c.requires.follows.0; image = c.requires.follows.1; before = c.requires.follows.2; seen = g.K.Link.seen c.args.link.now; noted_before = c.requires.follows.3; noted = (g.N.Notes.shown c.args.notes.now).told; is = (run_on g.R.AccessRule.rule c.env_now-env.ensures c.self.view_is c.run_to_event.ensures.kept c.requires.follows.4 c.in-Ok-Chooses.field-0-is c.in-Ok-Chooses.ensures.event) })

pub follow_exit-requires-clause-run : goal.follow_exit-requires-clause-run
follow_exit-requires-clause-run g c = record { rules = c.requires.follows.0; image = c.requires.follows.1; before = c.requires.follows.2; seen = g.K.Link.seen c.args.link.now; noted_before = c.requires.follows.3; noted = (g.N.Notes.shown c.args.notes.now).told; is = (run_on g.R.AccessRule.rule c.env_now-env.ensures c.self.view_is c.run_to_event.ensures.kept c.requires.follows.4 c.in-Ok-Exits.field-0-is c.in-Ok-Exits.ensures.event) }

pub follow_failure-requires : goal.follow_failure-requires
follow_failure-requires g c = record { rules = c.requires.follows.0; image = c.requires.follows.1; before = c.requires.follows.2; seen = g.K.Link.seen c.args.link.now; noted_before = c.requires.follows.3; noted = (g.N.Notes.shown c.args.notes.now).told; is = fails_on g.R.AccessRule.rule c.move_on-in-Ok-Failed.ensures (run_on g.R.AccessRule.rule c.env_now-env.ensures c.self.view_is c.run_to_event.ensures.kept c.requires.follows.4 c.in-Ok-Failed.field-0-is c.in-Ok-Failed.ensures.event); can = c.requires.can }

pub returns-in-Ok-Asks-clause-turns : goal.returns-in-Ok-Asks-clause-turns
returns-in-Ok-Asks-clause-turns g c taken image before noted_before f = (subst (λ (m : List ℕ). TurnsTo taken (rules_by g.R.AccessRule.rule c.follow_request.new.self) image (handed_of c.args.handed.now) before (g.K.Link.seen c.follow_request.new.link) noted_before (g.N.Notes.shown c.follow_request.new.notes).told m c.follow_request.new.self c.follow_request.result) (sym c.follow_request.ensures.same) (c.follow_request.ensures.turns taken image before noted_before (asks_on g.R.AccessRule.rule c.move_on.ensures (run_on g.R.AccessRule.rule c.env_now-env.ensures c.self.view_is c.run_to_event.ensures.kept f c.in-Ok-Asks.field-0-is c.in-Ok-Asks.ensures.event))))

pub returns-in-Ok-Emits-clause-turns : goal.returns-in-Ok-Emits-clause-turns
returns-in-Ok-Emits-clause-turns g c taken image before noted_before f = (c.follow_send.ensures.turns taken image (handed_of c.args.handed.now) before (g.K.Link.seen c.args.link.now) noted_before ((g.N.Notes.shown c.args.notes.now).told) (run_on g.R.AccessRule.rule c.env_now-env.ensures c.self.view_is c.run_to_event.ensures.kept f c.in-Ok-Emits.field-0-is c.in-Ok-Emits.ensures.event))

pub returns-in-Ok-Chooses-clause-turns : goal.returns-in-Ok-Chooses-clause-turns
returns-in-Ok-Chooses-clause-turns g c taken image before noted_before f = (c.follow_choice.ensures.turns taken image before (g.K.Link.seen c.args.link.now) noted_before ((g.N.Notes.shown c.args.notes.now).told) c.args.missing.now (run_on g.R.AccessRule.rule c.env_now-env.ensures c.self.view_is c.run_to_event.ensures.kept f c.in-Ok-Chooses.field-0-is c.in-Ok-Chooses.ensures.event))

pub returns-in-Ok-Exits-clause-turns : goal.returns-in-Ok-Exits-clause-turns
returns-in-Ok-Exits-clause-turns g c taken image before noted_before f = (subst (λ (m : List ℕ). TurnsTo taken (rules_by g.R.AccessRule.rule c.follow_exit.new.self) image (handed_of c.args.handed.now) before (g.K.Link.seen c.args.link.now) noted_before ((g.N.Notes.shown c.args.notes.now).told) m c.follow_exit.new.self c.follow_exit.result) (sym c.follow_exit.ensures.same) (c.follow_exit.ensures.turns taken image before (g.K.Link.seen c.args.link.now) noted_before ((g.N.Notes.shown c.args.notes.now).told) (run_on g.R.AccessRule.rule c.env_now-env.ensures c.self.view_is c.run_to_event.ensures.kept f c.in-Ok-Exits.field-0-is c.in-Ok-Exits.ensures.event)))

pub returns-in-Ok-Failed-clause-turns : goal.returns-in-Ok-Failed-clause-turns
returns-in-Ok-Failed-clause-turns g c taken image before noted_before f = (subst (λ (m : List ℕ). TurnsTo taken (rules_by g.R.AccessRule.rule c.follow_failure.new.self) image (handed_of c.args.handed.now) before (g.K.Link.seen c.args.link.now) noted_before ((g.N.Notes.shown c.args.notes.now).told) m c.follow_failure.new.self c.follow_failure.result) (sym c.follow_failure.ensures.same) (c.follow_failure.ensures.turns taken image before (g.K.Link.seen c.args.link.now) noted_before ((g.N.Notes.shown c.args.notes.now).told) (fails_on g.R.AccessRule.rule c.move_on-in-Ok-Failed.ensures (run_on g.R.AccessRule.rule c.env_now-env.ensures c.self.view_is c.run_to_event.ensures.kept f c.in-Ok-Failed.field-0-is c.in-Ok-Failed.ensures.event))))

pub returns-in-Err-clause-turns : goal.returns-in-Err-clause-turns
returns-in-Err-clause-turns g c taken image before noted_before f =
    memory_of f (ap (λ (s : SessionState _). s.recorded) c.self.view_is) (ap (λ (s : SessionState _). s.choices) c.self.view_is) (ap (λ (s : SessionState _). s.taken) c.self.view_is) (ap (λ (s : SessionState _). s.steps) c.self.view_is)

pub returns-in-Ok-Asks-clause-stops : goal.returns-in-Ok-Asks-clause-stops
returns-in-Ok-Asks-clause-stops g c taken image before noted_before why f is = c.follow_request.ensures.stops taken image before noted_before why (asks_on g.R.AccessRule.rule c.move_on.ensures (run_on g.R.AccessRule.rule c.env_now-env.ensures c.self.view_is c.run_to_event.ensures.kept f c.in-Ok-Asks.field-0-is c.in-Ok-Asks.ensures.event)) is

pub returns-in-Ok-Emits-clause-stops : goal.returns-in-Ok-Emits-clause-stops
returns-in-Ok-Emits-clause-stops g c taken image before noted_before why f is = stopped_still (rules_by g.R.AccessRule.rule c.follow_send.new.self) c.follow_send.new.missing c.follow_send.result why c.requires.may.takes (c.follow_send.ensures.turns taken image (handed_of c.args.handed.now) before (g.K.Link.seen c.args.link.now) noted_before ((g.N.Notes.shown c.args.notes.now).told) (run_on g.R.AccessRule.rule c.env_now-env.ensures c.self.view_is c.run_to_event.ensures.kept f c.in-Ok-Emits.field-0-is c.in-Ok-Emits.ensures.event)) is

pub returns-in-Ok-Chooses-clause-stops : goal.returns-in-Ok-Chooses-clause-stops
returns-in-Ok-Chooses-clause-stops g c taken image before noted_before why f is = stopped_still (rules_by g.R.AccessRule.rule c.follow_choice.new.self) c.args.missing.now c.follow_choice.result why c.requires.may.takes (c.follow_choice.ensures.turns taken image before (g.K.Link.seen c.args.link.now) noted_before ((g.N.Notes.shown c.args.notes.now).told) c.args.missing.now (run_on g.R.AccessRule.rule c.env_now-env.ensures c.self.view_is c.run_to_event.ensures.kept f c.in-Ok-Chooses.field-0-is c.in-Ok-Chooses.ensures.event)) is

pub returns-in-Ok-Exits-clause-stops : goal.returns-in-Ok-Exits-clause-stops
returns-in-Ok-Exits-clause-stops g c taken image before noted_before why f is =
    stopped_still (rules_by g.R.AccessRule.rule c.follow_exit.new.self) c.args.missing.now c.follow_exit.result why c.requires.may.takes
    (c.follow_exit.ensures.turns taken image before (g.K.Link.seen c.args.link.now) noted_before ((g.N.Notes.shown c.args.notes.now).told) (run_on g.R.AccessRule.rule c.env_now-env.ensures c.self.view_is c.run_to_event.ensures.kept f c.in-Ok-Exits.field-0-is c.in-Ok-Exits.ensures.event)) is

pub returns-in-Ok-Failed-clause-stops : goal.returns-in-Ok-Failed-clause-stops
returns-in-Ok-Failed-clause-stops g c taken image before noted_before why f is =
    stopped_still (rules_by g.R.AccessRule.rule c.follow_failure.new.self) c.args.missing.now c.follow_failure.result why c.requires.may.takes
    (c.follow_failure.ensures.turns taken image before (g.K.Link.seen c.args.link.now) noted_before ((g.N.Notes.shown c.args.notes.now).told) (fails_on g.R.AccessRule.rule c.move_on-in-Ok-Failed.ensures (run_on g.R.AccessRule.rule c.env_now-env.ensures c.self.view_is c.run_to_event.ensures.kept f c.in-Ok-Failed.field-0-is c.in-Ok-Failed.ensures.event))) is

pub returns-in-Err-clause-stops : goal.returns-in-Err-clause-stops
returns-in-Err-clause-stops g c taken image before noted_before why f is =
    stopped_still taken c.args.missing.now (Err (unfollowed.Stops (stop.Breaks session_break.Memory))) why c.requires.may.takes
    (memory_of f (ap (λ (s : SessionState _). s.recorded) c.self.view_is) (ap (λ (s : SessionState _). s.choices) c.self.view_is) (ap (λ (s : SessionState _). s.taken) c.self.view_is) (ap (λ (s : SessionState _). s.steps) c.self.view_is)) is

pub returns-in-Ok-Asks-clause-keeps : goal.returns-in-Ok-Asks-clause-keeps
returns-in-Ok-Asks-clause-keeps g c =
    let first = moved_oldest {mid = c.move_on.new.self} c.self.view_is c.run_to_event.ensures.kept c.move_on.ensures in
    let live = ap (λ (s : SessionState _). s.cpu.slots.live.steps) c.move_on.ensures in
    let least = (ran_least g.R.AccessRule.rule c.env_now-env.ensures c.self.view_is c.run_to_event.ensures.kept c.requires.follows.4 c.run_to_event.result c.run_to_event.ensures.event).1 in
    record {
      link = c.follow_request.ensures.keeps.link;
      notes = c.follow_request.ensures.keeps.notes;
      unnoted = c.follow_request.ensures.keeps.unnoted;
      options = c.follow_request.ensures.keeps.options ∙ (ap (λ (s : SessionState _). s.options) c.move_on.ensures ∙ ap (λ (s : SessionState _). s.options) c.self.view_is);
      rule = c.follow_request.ensures.keeps.rule ∙ (ap (λ (s : SessionState _). s.cpu.rule) c.move_on.ensures ∙ (ap (λ (cpu : CpuState _). cpu.rule) c.run_to_event.ensures.kept ∙ ap (λ (s : SessionState _). s.cpu.rule) c.self.view_is));
      keeping = c.follow_request.ensures.keeps.keeping ∙ first.keeping;
      trimmed = λ trims. c.follow_request.ensures.keeps.trimmed (trimmed_still first trims);
      marked = c.follow_request.ensures.keeps.marked;
      later = later_follows c.follow_request.result c.follow_request.new.self.cpu.slots.live.steps (omega (arith, least, live)) c.follow_request.ensures.keeps.later;
    }

pub returns-in-Ok-Emits-clause-keeps : goal.returns-in-Ok-Emits-clause-keeps
returns-in-Ok-Emits-clause-keeps g c =
    keeps_step {seen = g.K.Link.seen c.args.link.now} c.requires.follows.0 (rules_by g.R.AccessRule.rule c.follow_send.new.self) c.requires.follows.1 (handed_of c.args.handed.now) c.requires.follows.2 c.requires.follows.3 ((g.N.Notes.shown c.args.notes.now).told) c.follow_send.new.missing c.follow_send.result c.requires.may (ran_oldest c.self.view_is c.run_to_event.ensures.kept refl) (ap (λ (s : SessionState _). s.options) c.self.view_is) (ap (λ (cpu : CpuState _). cpu.rule) c.run_to_event.ensures.kept ∙ ap (λ (s : SessionState _). s.cpu.rule) c.self.view_is) (ap (λ (s : SessionState _). s.replies) c.self.view_is) c.follow_send.ensures.keeps.0 c.follow_send.ensures.keeps.1 c.follow_send.ensures.keeps.2 c.follow_send.ensures.keeps.3 c.follow_send.ensures.memory
    (c.follow_send.ensures.turns c.requires.follows.0 c.requires.follows.1 (handed_of c.args.handed.now) c.requires.follows.2 (g.K.Link.seen c.args.link.now) c.requires.follows.3 ((g.N.Notes.shown c.args.notes.now).told) (run_on g.R.AccessRule.rule c.env_now-env.ensures c.self.view_is c.run_to_event.ensures.kept c.requires.follows.4 c.in-Ok-Emits.field-0-is c.in-Ok-Emits.ensures.event))
    (if_follows c.follow_send.result (sent_more g.R.AccessRule.rule c.env_now-env.ensures c.self.view_is c.run_to_event.ensures.kept c.requires.follows.4 c.in-Ok-Emits.field-0-is c.in-Ok-Emits.ensures.event))

pub returns-in-Ok-Chooses-clause-keeps : goal.returns-in-Ok-Chooses-clause-keeps
returns-in-Ok-Chooses-clause-keeps g c =
    keeps_step {seen = g.K.Link.seen c.args.link.now} c.requires.follows.0 (rules_by g.R.AccessRule.rule c.follow_choice.new.self) c.requires.follows.1 (handed_of c.args.handed.now) c.requires.follows.2 c.requires.follows.3 ((g.N.Notes.shown c.args.notes.now).told) c.args.missing.now c.follow_choice.result c.requires.may (ran_oldest c.self.view_is c.run_to_event.ensures.kept refl) (ap (λ (s : SessionState _). s.options) c.self.view_is) (ap (λ (cpu : CpuState _). cpu.rule) c.run_to_event.ensures.kept ∙ ap (λ (s : SessionState _). s.cpu.rule) c.self.view_is) (ap (λ (s : SessionState _). s.replies) c.self.view_is) c.follow_choice.ensures.keeps.0 c.follow_choice.ensures.keeps.1 c.follow_choice.ensures.keeps.2 c.follow_choice.ensures.keeps.3 c.follow_choice.ensures.memory
    (c.follow_choice.ensures.turns c.requires.follows.0 c.requires.follows.1 c.requires.follows.2 (g.K.Link.seen c.args.link.now) c.requires.follows.3 ((g.N.Notes.shown c.args.notes.now).told) c.args.missing.now (run_on g.R.AccessRule.rule c.env_now-env.ensures c.self.view_is c.run_to_event.ensures.kept c.requires.follows.4 c.in-Ok-Chooses.field-0-is c.in-Ok-Chooses.ensures.event))
    (if_follows c.follow_choice.result (chose_more g.R.AccessRule.rule c.env_now-env.ensures c.self.view_is c.run_to_event.ensures.kept c.requires.follows.4 c.in-Ok-Chooses.field-0-is c.in-Ok-Chooses.ensures.event))

pub returns-in-Ok-Exits-clause-keeps : goal.returns-in-Ok-Exits-clause-keeps
returns-in-Ok-Exits-clause-keeps g c =
    keeps_step {seen = g.K.Link.seen c.args.link.now} c.requires.follows.0 (rules_by g.R.AccessRule.rule c.follow_exit.new.self) c.requires.follows.1 (handed_of c.args.handed.now) c.requires.follows.2 c.requires.follows.3 ((g.N.Notes.shown c.args.notes.now).told) c.args.missing.now c.follow_exit.result c.requires.may (ran_oldest c.self.view_is c.run_to_event.ensures.kept refl) (ap (λ (s : SessionState _). s.options) c.self.view_is) (ap (λ (cpu : CpuState _). cpu.rule) c.run_to_event.ensures.kept ∙ ap (λ (s : SessionState _). s.cpu.rule) c.self.view_is) (ap (λ (s : SessionState _). s.replies) c.self.view_is) c.follow_exit.ensures.keeps.0 c.follow_exit.ensures.keeps.1 c.follow_exit.ensures.keeps.2 c.follow_exit.ensures.keeps.3 c.follow_exit.ensures.memory
    (c.follow_exit.ensures.turns c.requires.follows.0 c.requires.follows.1 c.requires.follows.2 (g.K.Link.seen c.args.link.now) c.requires.follows.3 ((g.N.Notes.shown c.args.notes.now).told) (run_on g.R.AccessRule.rule c.env_now-env.ensures c.self.view_is c.run_to_event.ensures.kept c.requires.follows.4 c.in-Ok-Exits.field-0-is c.in-Ok-Exits.ensures.event))
    (never_follows (c.args.self.now.cpu.slots.live.steps < c.run_to_event.new.self.slots.live.steps) c.follow_exit.result c.follow_exit.ensures.never)

pub returns-in-Ok-Failed-clause-keeps : goal.returns-in-Ok-Failed-clause-keeps
returns-in-Ok-Failed-clause-keeps g c =
    keeps_step {seen = g.K.Link.seen c.args.link.now} c.requires.follows.0 (rules_by g.R.AccessRule.rule c.follow_failure.new.self) c.requires.follows.1 (handed_of c.args.handed.now) c.requires.follows.2 c.requires.follows.3 ((g.N.Notes.shown c.args.notes.now).told) c.args.missing.now c.follow_failure.result c.requires.may (moved_oldest {mid = c.move_on-in-Ok-Failed.new.self} c.self.view_is c.run_to_event.ensures.kept c.move_on-in-Ok-Failed.ensures) (ap (λ (s : SessionState _). s.options) c.move_on-in-Ok-Failed.ensures ∙ ap (λ (s : SessionState _). s.options) c.self.view_is) (ap (λ (s : SessionState _). s.cpu.rule) c.move_on-in-Ok-Failed.ensures ∙ (ap (λ (cpu : CpuState _). cpu.rule) c.run_to_event.ensures.kept ∙ ap (λ (s : SessionState _). s.cpu.rule) c.self.view_is)) (ap (λ (s : SessionState _). s.replies) c.move_on-in-Ok-Failed.ensures ∙ ap (λ (s : SessionState _). s.replies) c.self.view_is) c.follow_failure.ensures.keeps.0 c.follow_failure.ensures.keeps.1 c.follow_failure.ensures.keeps.2 c.follow_failure.ensures.keeps.3 c.follow_failure.ensures.memory
    (c.follow_failure.ensures.turns c.requires.follows.0 c.requires.follows.1 c.requires.follows.2 (g.K.Link.seen c.args.link.now) c.requires.follows.3 ((g.N.Notes.shown c.args.notes.now).told) (fails_on g.R.AccessRule.rule c.move_on-in-Ok-Failed.ensures (run_on g.R.AccessRule.rule c.env_now-env.ensures c.self.view_is c.run_to_event.ensures.kept c.requires.follows.4 c.in-Ok-Failed.field-0-is c.in-Ok-Failed.ensures.event)))
    (never_follows (c.args.self.now.cpu.slots.live.steps < c.move_on-in-Ok-Failed.new.self.cpu.slots.live.steps) c.follow_failure.result c.follow_failure.ensures.never)

pub returns-in-Err-clause-keeps : goal.returns-in-Err-clause-keeps
returns-in-Err-clause-keeps g c = record {
  link = memory_serves c.requires.may.gives.gives_still;
  notes = unnoted_serves (Err (stop.Breaks session_break.Memory)) tt;
  unnoted = inl refl;
  options = ap (λ (s : SessionState _). s.options) c.self.view_is;
  rule = (ap (λ (cpu : CpuState _). cpu.rule) c.run_to_event.ensures.kept ∙ ap (λ (s : SessionState _). s.cpu.rule) c.self.view_is);
  keeping = ran_keeping c.self.view_is c.run_to_event.ensures.kept;
  trimmed = λ trims. tt;
  marked = tt;
  later = tt;
}

pub run_to_event-requires-clause-lives : goal.run_to_event-requires-clause-lives
run_to_event-requires-clause-lives g c = let s = c.requires.follows.4 in ap (λ (t : SessionState _). t.cpu.slots.live.ended) c.self.view_is ∙ (ap (λ (t : Standing). t.ended) s.follows.stands.goes.guest ∙ s.follows.stands.goes.lives)

pub run_to_event-requires-clause-room : goal.run_to_event-requires-clause-room
run_to_event-requires-clause-room g c =
    let view = ap (λ (t : SessionState _). t.cpu.slots.live.steps) c.self.view_is in
    let budget = ap (λ (t : SessionState _). t.options.budget) c.self.view_is in
    let items = ap (λ (t : SessionState _). t.options.max_items) c.self.view_is in
    let fits = follows_fits (omega (arith, budget, c.self.invariant.few_budget)) (omega (arith, items, c.self.invariant.few_items)) c.requires.follows.4 in
    omega (arith, view, fits, c.self.invariant.few_budget)

pub returns-in-Ok-Emits-clause-least : goal.returns-in-Ok-Emits-clause-least
returns-in-Ok-Emits-clause-least g c =
    let least = (ran_least g.R.AccessRule.rule c.env_now-env.ensures c.self.view_is c.run_to_event.ensures.kept c.requires.follows.4 c.run_to_event.result c.run_to_event.ensures.event).0 in
    let view = ap (λ (t : SessionState _). t.steps) c.self.view_is in
    c.follow_send.ensures.low (omega (arith, least, view))

pub returns-in-Ok-Emits-clause-counted : goal.returns-in-Ok-Emits-clause-counted
returns-in-Ok-Emits-clause-counted g c = omega (arith, ap (λ (cpu : CpuState _). cpu.slots.live.steps) c.follow_send.ensures.keeps.2, ap (λ (t : SessionState _). t.cpu.slots.live.steps) c.self.view_is, c.run_to_event.ensures.counted)

pub returns-in-Ok-Chooses-clause-least : goal.returns-in-Ok-Chooses-clause-least
returns-in-Ok-Chooses-clause-least g c =
    let least = (ran_least g.R.AccessRule.rule c.env_now-env.ensures c.self.view_is c.run_to_event.ensures.kept c.requires.follows.4 c.run_to_event.result c.run_to_event.ensures.event).0 in
    let view = ap (λ (t : SessionState _). t.steps) c.self.view_is in
    c.follow_choice.ensures.low (omega (arith, least, view))

pub returns-in-Ok-Chooses-clause-counted : goal.returns-in-Ok-Chooses-clause-counted
returns-in-Ok-Chooses-clause-counted g c = omega (arith, ap (λ (cpu : CpuState _). cpu.slots.live.steps) c.follow_choice.ensures.keeps.2, ap (λ (t : SessionState _). t.cpu.slots.live.steps) c.self.view_is, c.run_to_event.ensures.counted)

pub returns-in-Ok-Exits-clause-least : goal.returns-in-Ok-Exits-clause-least
returns-in-Ok-Exits-clause-least g c =
    let least = (ran_least g.R.AccessRule.rule c.env_now-env.ensures c.self.view_is c.run_to_event.ensures.kept c.requires.follows.4 c.run_to_event.result c.run_to_event.ensures.event).0 in
    let view = ap (λ (t : SessionState _). t.steps) c.self.view_is in
    c.follow_exit.ensures.low (omega (arith, least, view))

pub returns-in-Ok-Exits-clause-counted : goal.returns-in-Ok-Exits-clause-counted
returns-in-Ok-Exits-clause-counted g c = omega (arith, ap (λ (cpu : CpuState _). cpu.slots.live.steps) c.follow_exit.ensures.keeps.2, ap (λ (t : SessionState _). t.cpu.slots.live.steps) c.self.view_is, c.run_to_event.ensures.counted)

pub returns-in-Ok-Failed-clause-least : goal.returns-in-Ok-Failed-clause-least
returns-in-Ok-Failed-clause-least g c = c.follow_failure.ensures.low (omega (arith, ap (λ (t : SessionState _). t.steps) c.move_on-in-Ok-Failed.ensures, ap (λ (t : SessionState _). t.cpu.slots.live.steps) c.move_on-in-Ok-Failed.ensures))

pub returns-in-Ok-Failed-clause-counted : goal.returns-in-Ok-Failed-clause-counted
returns-in-Ok-Failed-clause-counted g c = omega (arith, ap (λ (cpu : CpuState _). cpu.slots.live.steps) c.follow_failure.ensures.keeps.2, ap (λ (t : SessionState _). t.cpu.slots.live.steps) c.move_on-in-Ok-Failed.ensures, ap (λ (t : SessionState _). t.cpu.slots.live.steps) c.self.view_is, c.run_to_event.ensures.counted)

pub returns-in-Ok-Asks-clause-counted : goal.returns-in-Ok-Asks-clause-counted
returns-in-Ok-Asks-clause-counted g c = omega (arith, c.follow_request.ensures.counted, ap (λ (t : SessionState _). t.cpu.slots.live.steps) c.move_on.ensures, ap (λ (t : SessionState _). t.cpu.slots.live.steps) c.self.view_is, c.run_to_event.ensures.counted)

pub returns-in-Err-clause-least : goal.returns-in-Err-clause-least
returns-in-Err-clause-least g c =
    let least = (ran_least g.R.AccessRule.rule c.env_now-env.ensures c.self.view_is c.run_to_event.ensures.kept c.requires.follows.4 c.run_to_event.result c.run_to_event.ensures.event).0 in
    let view = ap (λ (t : SessionState _). t.steps) c.self.view_is in
    omega (arith, least, view)

pub returns-in-Err-clause-counted : goal.returns-in-Err-clause-counted
returns-in-Err-clause-counted g c = omega (arith, ap (λ (t : SessionState _). t.cpu.slots.live.steps) c.self.view_is, c.run_to_event.ensures.counted)
