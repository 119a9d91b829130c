use Rattle.rx_engine.proofs.Terms.{[], ap, arith, length, sym, ◌++◌, ◌+◌, ◌∙◌, ◌∷◌, Standing, SessionState, chosen_fits, chosen_of, follows_on, memory_run, other_run, before_moved}
use Rattle.rx_engine.proofs.session.Session.follow_choice.Goals as goal

pub overflow_add-chosen : goal.overflow_add-chosen
overflow_add-chosen g c =
    let h = c.requires.1.is in
    let was = ap (λ (s : SessionState _). s.recorded + length s.choices) c.self.view_is ∙ ap (λ (s : SessionState _). s.recorded + length s.choices) h.same in
    let budget = ap (λ (s : SessionState _). s.options.budget) c.self.view_is in
    let items = ap (λ (s : SessionState _). s.options.max_items) c.self.view_is in
    let fits = chosen_fits (omega (arith, budget, c.self.invariant.few_budget)) (omega (arith, items, c.self.invariant.few_items)) h.stood in
    omega (arith, was, fits, c.len.ensures)

pub returns-in-Err-clause-turns : goal.returns-in-Err-clause-turns
returns-in-Err-clause-turns g c taken image before seen noted_before noted missing h =
    memory_run g.R.AccessRule.rule h.stood.alone h (ap (λ (s : SessionState _). s.recorded) c.self.view_is) (c.in-Err.ensures.items ∙ ap (λ (s : SessionState _). s.choices) c.self.view_is) (ap (λ (s : SessionState _). s.taken) c.self.view_is) (ap (λ (s : SessionState _). s.steps) c.self.view_is)

pub returns-then-not-agrees-clause-turns : goal.returns-then-not-agrees-clause-turns
returns-then-not-agrees-clause-turns g c taken image before seen noted_before noted missing h =
    let to = c.self-2.view_is ∙ (c.count_run.ensures ∙ ap (λ (s : SessionState _). record s { choices = c.push.new.self.items; taken = c.self.inside.held.cpu.slots.live.guest.machine.taken; steps = c.self.inside.held.cpu.slots.live.steps }) c.self.view_is) in
    let here = c.self-2.view_is ∙ c.count_run.ensures in
    let chosen = ap (λ (s : SessionState _). s.recorded + length s.choices) c.self.view_is ∙ (ap (λ (s : SessionState _). s.recorded + length s.choices) h.same ∙ sym (chosen_of h.stood)) in
    let live = ap (λ (s : SessionState _). s.cpu.slots.live.steps) c.self.view_is ∙ sym (ap (λ (s : Standing). s.steps) h.runs.ran.stands) in
    let steps = ap (λ (s : SessionState _). s.steps) here in
    other_run g.R.AccessRule.rule h.stood.alone h (c.args.choice ∷ [])
    (λ i. record (to i) { replies = c.self-2.inside.held.replies; choices = c.self-2.inside.held.choices.items; taken = c.self-2.inside.taken; steps = c.self-2.inside.steps; before = c.of-self-inside.result.before; hold = c.self-2.inside.hold })
    (ap (λ (s : SessionState _). s.hold) to) (ap (λ (s : SessionState _). s.replies) to) (ap (λ (s : SessionState _). s.choices) to ∙ (c.in_default.ensures.items ∙ ap (λ (s : SessionState _). s.choices ++ c.args.choice ∷ []) c.self.view_is))
    (record { taken = ap (λ (s : SessionState _). s.taken) here ∙ sym (ap (λ (s : SessionState _). s.cpu.slots.live.guest.machine.taken) here); steps = ap (λ (s : SessionState _). s.steps) here ∙ sym (ap (λ (s : SessionState _). s.cpu.slots.live.steps) here) })
    (c.of-self-inside.ensures ∙ (λ i. before_moved (to i).before (to i).cpu.slots.live (c.args.choice ∷ []))) h.runs.ran.comes.0 h.runs.ran.comes.1 h.runs.ran.comes.2
    (c.if-not-agrees.ensures h.stood.now.choices (omega (arith, chosen, c.len.ensures)) h.stood.agree) (omega (arith, steps, live, h.runs.ran.comes.3))

pub returns-clause-turns : goal.returns-clause-turns
returns-clause-turns g c taken image before seen noted_before noted missing h =
    let to = c.self-2.view_is ∙ (c.count_run.ensures ∙ ap (λ (s : SessionState _). record s { choices = c.push.new.self.items; taken = c.self.inside.held.cpu.slots.live.guest.machine.taken; steps = c.self.inside.held.cpu.slots.live.steps }) c.self.view_is) in
    let chosen = ap (λ (s : SessionState _). s.recorded + length s.choices) c.self.view_is ∙ (ap (λ (s : SessionState _). s.recorded + length s.choices) h.same ∙ sym (chosen_of h.stood)) in
    let here = c.self-2.view_is ∙ c.count_run.ensures in
    follows_on g.R.AccessRule.rule h.stood.alone h (c.args.choice ∷ [])
    (λ i. record (to i) { replies = c.self-2.inside.held.replies; choices = c.self-2.inside.held.choices.items; taken = c.self-2.inside.taken; steps = c.self-2.inside.steps; before = c.of-self-inside.result.before; hold = c.self-2.inside.hold })
    (ap (λ (s : SessionState _). s.hold) to) (ap (λ (s : SessionState _). s.replies) to) (ap (λ (s : SessionState _). s.choices) to ∙ (c.in_default.ensures.items ∙ ap (λ (s : SessionState _). s.choices ++ c.args.choice ∷ []) c.self.view_is))
    (record { taken = ap (λ (s : SessionState _). s.taken) here ∙ sym (ap (λ (s : SessionState _). s.cpu.slots.live.guest.machine.taken) here); steps = ap (λ (s : SessionState _). s.steps) here ∙ sym (ap (λ (s : SessionState _). s.cpu.slots.live.steps) here) })
    (c.of-self-inside.ensures ∙ (λ i. before_moved (to i).before (to i).cpu.slots.live (c.args.choice ∷ []))) h.runs.ran.comes.0 h.runs.ran.comes.1 h.runs.ran.comes.2
    (c.if-not-agrees.ensures h.stood.now.choices (omega (arith, chosen, c.len.ensures)) h.stood.agree)
