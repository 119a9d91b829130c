use Rattle.cow_pages.proofs.Lemmas.{frame_read}
use Rattle.cow_pages.proofs.Terms.{arith}
use Rattle.cow_pages.proofs.store.PageStore.place.Goals as goal

pub overflow_mul-result : goal.overflow_mul-result
overflow_mul-result c = omega (arith, frame_read c.self.invariant.sound c.self.view_is c.requires c.index.ensures)

pub overflow_add-result : goal.overflow_add-result
overflow_add-result c = omega (arith, frame_read c.self.invariant.sound c.self.view_is c.requires c.index.ensures)

pub returns-clause-small : goal.returns-clause-small
returns-clause-small c = omega (arith, frame_read c.self.invariant.sound c.self.view_is c.requires c.index.ensures)
