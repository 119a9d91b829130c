use Rattle.guest_space.proofs.window.Windows.forget_loads.Goals as goal

pub returns-clause-loads : goal.returns-clause-loads
returns-clause-loads c = λ space. c.none-self.ensures.loads space
