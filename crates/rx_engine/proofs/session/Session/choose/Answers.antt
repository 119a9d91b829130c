use Rattle.rx_engine.proofs.Terms.{Ok, [], ap, arith, refl, subst, sym, ◌++◌, ◌∙◌, ◌∷◌, ◌≡◌, run_breaks, run_chooses, comes_lost, still_takes, keeping_of, rules_by, SessionState, IsBetween}
use Rattle.rx_engine.proofs.session.Session.choose.Goals as goal

pub returns-in-Err-clause-turns : goal.returns-in-Err-clause-turns
returns-in-Err-clause-turns g c image began seen lost takes h counts = (
  run_breaks h (ap (λ (s : SessionState _). keeping_of s) c.self.view_is) (ap (λ (s : SessionState _). s.cpu.slots.saved) c.self.view_is) (ap (λ (s : SessionState _). s.recorded) c.self.view_is) (c.in-Err.ensures.items ∙ ap (λ (s : SessionState _). s.choices) c.self.view_is) (ap (λ (s : SessionState _). s.taken) c.self.view_is)
      (ap (λ (s : SessionState _). s.steps) c.self.view_is) counts,
  λ none. still_takes _ takes none,
)

pub returns-clause-turns : goal.returns-clause-turns
returns-clause-turns g c image began seen lost takes h counts =
    let steps : c.count_run.new.self.steps ≡ c.args.self.now.cpu.slots.live.steps = ap (λ (s : SessionState _). s.steps) c.count_run.ensures ∙ ap (λ (s : SessionState _). s.cpu.slots.live.steps) c.self.view_is in
    comes_lost (rules_by g.R.AccessRule.rule c.args.self.now) image began seen c.count_run.new.self (Ok tt) (omega (arith, counts, steps))
    (subst (λ (s : SessionState _). IsBetween (rules_by g.R.AccessRule.rule c.args.self.now) image began seen s) (sym c.count_run.ensures)
    (run_chooses h (ap (λ (s : SessionState _). record s { replies = c.self.inside.held.replies; choices = c.push.new.self.items; taken = c.self.inside.held.cpu.slots.live.guest.machine.taken; steps = c.self.inside.held.cpu.slots.live.steps }) c.self.view_is)
    (ap (λ (s : SessionState _). s.replies) c.self.view_is) (c.in_default.ensures.items ∙ ap (λ (s : SessionState _). s.choices ++ c.args.choice ∷ []) c.self.view_is) (record { taken = refl; steps = refl })))
