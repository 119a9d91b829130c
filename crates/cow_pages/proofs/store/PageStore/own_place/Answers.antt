use Rattle.cow_pages.proofs.Lemmas.{shared_read, stay_owns}
use Rattle.cow_pages.proofs.Terms.{ap, arith, nat_lt, ◌∙◌, lt-ltb}
use Rattle.cow_pages.proofs.store.PageStore.own_place.Goals as goal

pub returns-then-index-eq0-clause-owns : goal.returns-then-index-eq0-clause-owns
returns-then-index-eq0-clause-owns c =
    let count = shared_read c.self.invariant.sound c.self.view_is c.requires c.index-frame.ensures c.index.ensures in
    stay_owns _ _ (count ∙ ap (nat_lt 0) c.if-index-eq0.true)

pub copy_page-fresh-requires-clause-shared : goal.copy_page-fresh-requires-clause-shared
copy_page-fresh-requires-clause-shared c =
    let count = shared_read c.self.invariant.sound c.self.view_is c.requires c.index-frame.ensures c.index.ensures in
    count ∙ lt-ltb 0 _ (omega (arith, c.if-index-eq0.false))
