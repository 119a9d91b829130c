use Rattle.guest_space.proofs.Terms.{subst, sym, IsStoreWindow}
use Rattle.guest_space.proofs.WindowLemmas.{held_here, stands_here, own_here, windows_after}
use Rattle.guest_space.proofs.space.GuestSpace.store_within.Goals as goal

pub has-requires : goal.has-requires
has-requires c = (subst (IsStoreWindow c.args.self.now) (sym c.of-window.ensures) (c.requires.holds.stores c.args.register)).window_is.below

pub put_from-requires-clause-held : goal.put_from-requires-clause-held
put_from-requires-clause-held c =
    let so = subst (IsStoreWindow c.args.self.now) (sym c.of-window.ensures) (c.requires.holds.stores c.args.register) in
    held_here 2 c.args.self.now.base c.args.self.now.spans c.args.self.now.store _ c.args.at so.window_is c.if-not-has.ensures.0 c.if-not-has.ensures.1

pub put_from-requires-clause-stands : goal.put_from-requires-clause-stands
put_from-requires-clause-stands c =
    let so = subst (IsStoreWindow c.args.self.now) (sym c.of-window.ensures) (c.requires.holds.stores c.args.register) in
    stands_here 2 c.args.self.now.base c.args.self.now.spans c.args.self.now.store _ c.args.at so.window_is c.if-not-has.ensures.0 c.if-not-has.ensures.1

pub put_from-requires-clause-own : goal.put_from-requires-clause-own
put_from-requires-clause-own c =
    let so = subst (IsStoreWindow c.args.self.now) (sym c.of-window.ensures) (c.requires.holds.stores c.args.register) in
    own_here c.args.self.now _ c.args.at so c.if-not-has.ensures.0 c.if-not-has.ensures.1

pub returns-clause-holds : goal.returns-clause-holds
returns-clause-holds c = windows_after c.args.self.now c.put_from.new.self c.args.at c.args.size c.args.value c.args.windows.now c.put_from.result c.put_from.ensures.stored c.put_from.ensures.numbers c.requires.holds
