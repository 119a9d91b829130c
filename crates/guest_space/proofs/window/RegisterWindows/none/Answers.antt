use Rattle.guest_space.proofs.Terms.{refl}
use Rattle.guest_space.proofs.WindowLemmas.{no_loads, no_stores}
use Rattle.guest_space.proofs.window.RegisterWindows.none.Goals as goal

pub returns-clause-loads : goal.returns-clause-loads
returns-clause-loads c = no_loads _ refl refl refl

pub returns-clause-stores : goal.returns-clause-stores
returns-clause-stores c = no_stores _ refl refl refl
