use Rattle.guest_space.proofs.window.Windows.forget_stores.Goals as goal

pub returns-clause-stores : goal.returns-clause-stores
returns-clause-stores c = λ space. c.none-self.ensures.stores space
