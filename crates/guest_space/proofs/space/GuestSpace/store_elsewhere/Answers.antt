use Rattle.guest_space.proofs.Terms.{subst, sym, IsStoreWindow}
use Rattle.guest_space.proofs.WindowLemmas.{each_set, held_here, stands_here, own_here, windows_after}
use Rattle.guest_space.proofs.space.GuestSpace.store_elsewhere.Goals as goal

pub has-requires : goal.has-requires
has-requires c = (subst (IsStoreWindow c.args.self.now) (sym c.of-recent.ensures) (c.requires.holds.stores _)).window_is.below

pub put_from-requires-clause-held : goal.put_from-requires-clause-held
put_from-requires-clause-held c =
    let so = subst (IsStoreWindow c.args.self.now) (sym c.of-recent.ensures) (c.requires.holds.stores _) in
    held_here 2 c.args.self.now.base c.args.self.now.spans c.args.self.now.store _ c.args.at so.window_is c.if-not-has.ensures.0 c.if-not-has.ensures.1

pub put_from-requires-clause-stands : goal.put_from-requires-clause-stands
put_from-requires-clause-stands c =
    let so = subst (IsStoreWindow c.args.self.now) (sym c.of-recent.ensures) (c.requires.holds.stores _) in
    stands_here 2 c.args.self.now.base c.args.self.now.spans c.args.self.now.store _ c.args.at so.window_is c.if-not-has.ensures.0 c.if-not-has.ensures.1

pub put_from-requires-clause-own : goal.put_from-requires-clause-own
put_from-requires-clause-own c =
    let so = subst (IsStoreWindow c.args.self.now) (sym c.of-recent.ensures) (c.requires.holds.stores _) in
    own_here c.args.self.now _ c.args.at so c.if-not-has.ensures.0 c.if-not-has.ensures.1

pub returns-clause-holds : goal.returns-clause-holds
returns-clause-holds c =
    let so = subst (IsStoreWindow c.args.self.now) (sym c.of-recent.ensures) (c.requires.holds.stores _) in
    windows_after c.args.self.now c.put_from.new.self c.args.at c.args.size c.args.value _ c.put_from.result c.put_from.ensures.stored c.put_from.ensures.numbers
    record {
      loads = c.requires.holds.loads;
      stores = each_set (IsStoreWindow c.args.self.now) c.args.windows.now.stores _ c.args.register _ c.set.ensures so c.requires.holds.stores;
    }
