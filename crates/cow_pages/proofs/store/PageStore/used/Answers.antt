use Rattle.cow_pages.proofs.Lemmas.{lawful, used-sum}
use Rattle.cow_pages.proofs.Terms.{ap, arith, used_of}
use Rattle.cow_pages.proofs.store.PageStore.used.Goals as goal

pub overflow_cast-result : goal.overflow_cast-result
overflow_cast-result c = omega (arith, c.self.inside.free.ok, used-sum c.self.invariant.sound, c.self.invariant.sound.bounds.enough, c.self.invariant.sound.bounds.few)

pub overflow_sub-result : goal.overflow_sub-result
overflow_sub-result c = omega (arith, c.self.inside.free.ok, used-sum c.self.invariant.sound)

pub returns : goal.returns
returns c = record { used = omega (arith, c.self.inside.free.ok, used-sum c.self.invariant.sound, ap used_of c.self.view_is); lawful = lawful c.self.invariant.sound c.self.view_is }
