use Rattle.guest_space.proofs.Terms.{refl, subst, sym, ◌/◌, PAGE, HasCode, Fills, IsFilled}
use Rattle.guest_space.proofs.StartLemmas.{files_seen, is_start, start_filled, start_lawful}
use Rattle.guest_space.proofs.space.GuestSpace.make.Goals as goal

pub fill-requires-clause-inside : goal.fill-requires-clause-inside
fill-requires-clause-inside c = files_seen c.args.image.now c.as_slice.result.now c.base-base.result c.in_ok-store.store.pages c.as_slice.ensures c.base-base.ensures c.in_ok-store.ensures.made.pages_are

pub code_of-requires : goal.code_of-requires
code_of-requires c =
    subst (λ ss. IsFilled c.base-base.result ss c.fill.new.store) (sym c.deref.ensures.value)
    (start_filled c.args.image.now (c.args.image.now.window / PAGE) c.args.slots c.args.frames c.base-base.result c.in_ok-spans.spans.items c.in_ok-store.store c.fill.new.store refl c.base-base.ensures c.in_ok-store.ensures.made
    (subst (λ xs. Fills c.in_ok-store.store c.base-base.result xs c.fill.new.store) c.as_slice.ensures c.fill.ensures)
    c.in_ok-spans.ensures)

pub invariant_of-result : goal.invariant_of-result
invariant_of-result c =
    start_lawful c.base-base.result c.in_ok-spans.spans.items c.fill.new.store c.in_ok-code.code.value
    (start_filled c.args.image.now (c.args.image.now.window / PAGE) c.args.slots c.args.frames c.base-base.result c.in_ok-spans.spans.items c.in_ok-store.store c.fill.new.store refl c.base-base.ensures c.in_ok-store.ensures.made
    (subst (λ xs. Fills c.in_ok-store.store c.base-base.result xs c.fill.new.store) c.as_slice.ensures c.fill.ensures)
    c.in_ok-spans.ensures)
    (subst (HasCode c.base-base.result c.in_ok-spans.spans.items c.fill.new.store) (sym c.in_ok-code.ensures.ok) (subst (λ ss. HasCode c.base-base.result ss c.fill.new.store c.in_ok-table.table) c.deref.ensures.value c.in_ok-table.ensures))

pub returns-clause-start : goal.returns-clause-start
returns-clause-start c =
    is_start c.args.image.now (c.args.image.now.window / PAGE) c.args.slots c.args.frames c.base-base.result c.in_ok-spans.spans.items c.in_ok-store.store c.fill.new.store c.in_ok-code.code.value refl c.base-base.ensures c.in_ok-store.ensures.made
    (subst (λ xs. Fills c.in_ok-store.store c.base-base.result xs c.fill.new.store) c.as_slice.ensures c.fill.ensures)
    c.in_ok-spans.ensures

pub returns-clause-lawful : goal.returns-clause-lawful
returns-clause-lawful c = invariant_of-result c
