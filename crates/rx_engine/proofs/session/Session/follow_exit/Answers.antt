use Rattle.rx_engine.proofs.Terms.{[], ap, arith, length, sym, ◌+◌, ◌∙◌, false≢true, items_in, heard_alone, AtExit, plan_of, SessionState, chosen_fits, before_moved, before_released}
use Rattle.rx_engine.proofs.EndingOn.{ended_exit, judged_ended, released_exit, short_exit, unlike_exit}
use Rattle.rx_engine.proofs.session.Session.follow_exit.Goals as goal

pub judge_here-requires : goal.judge_here-requires
judge_here-requires g c =
    let h = c.requires.run.is in
    let was = ap (λ (s : SessionState _). s.recorded + length s.choices) c.count_run.ensures ∙ ap (λ (s : SessionState _). s.recorded + length s.choices) h.same in
    let budget = ap (λ (s : SessionState _). s.options.budget) (c.self.view_is ∙ c.count_run.ensures) in
    let items = ap (λ (s : SessionState _). s.options.max_items) (c.self.view_is ∙ c.count_run.ensures) in
    let fits = chosen_fits (omega (arith, budget, c.self.invariant.few_budget)) (omega (arith, items, c.self.invariant.few_items)) h.stood in
    omega (arith, was, fits)

pub returns-in-Reached-clause-turns : goal.returns-in-Reached-clause-turns
returns-in-Reached-clause-turns g c taken image before seen noted_before noted h =
    released_exit g.R.AccessRule.rule h c.count_run.ensures (λ i. record (c.self.view_is i) { before = c.of-self-inside.result.before; hold = c.self.inside.options.hold })
    (ap (λ (s : SessionState _). s.options.hold) c.self.view_is) (c.of-self-inside.ensures ∙ (λ i. before_released (before_moved (c.self.view_is i).before (c.self.view_is i).cpu.slots.live []) (plan_of (c.self.view_is i).options.keep c.args.handed.now.episodes.now)))
    (c.in-Reached.ensures.judged taken.limits (items_in taken.bounds (heard_alone h.stood.events)) h.runs.ran.now (AtExit (ended_exit g.R.AccessRule.rule h c.count_run.ensures)) (judged_ended g.R.AccessRule.rule h c.count_run.ensures))

pub returns-in-Short-clause-turns : goal.returns-in-Short-clause-turns
returns-in-Short-clause-turns g c taken image before seen noted_before noted h =
    short_exit g.R.AccessRule.rule h c.count_run.ensures
    (c.in-Short.ensures.judged taken.limits (items_in taken.bounds (heard_alone h.stood.events)) h.runs.ran.now (AtExit (ended_exit g.R.AccessRule.rule h c.count_run.ensures)) (judged_ended g.R.AccessRule.rule h c.count_run.ensures))

pub returns-in-Unlike-clause-turns : goal.returns-in-Unlike-clause-turns
returns-in-Unlike-clause-turns g c taken image before seen noted_before noted h =
    unlike_exit g.R.AccessRule.rule h c.count_run.ensures c.requires.can.placed (sym (ap (λ (s : SessionState _). s.steps) c.self.view_is))
    (c.in-Unlike.ensures.judged taken.limits (items_in taken.bounds (heard_alone h.stood.events)) h.runs.ran.now (AtExit (ended_exit g.R.AccessRule.rule h c.count_run.ensures)) (judged_ended g.R.AccessRule.rule h c.count_run.ensures))

pub returns-in-GoesOn-clause-turns : goal.returns-in-GoesOn-clause-turns
returns-in-GoesOn-clause-turns g c taken image before seen noted_before noted h =
    let may = c.in-GoesOn.ensures.judged taken.limits (items_in taken.bounds (heard_alone h.stood.events)) h.runs.ran.now (AtExit (ended_exit g.R.AccessRule.rule h c.count_run.ensures)) (judged_ended g.R.AccessRule.rule h c.count_run.ensures) in
    absurd (false≢true (sym may.goes_on))
