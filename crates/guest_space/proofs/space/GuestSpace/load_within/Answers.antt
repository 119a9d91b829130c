use Rattle.guest_space.proofs.Terms.{subst, sym, IsLoadWindow}
use Rattle.guest_space.proofs.WindowLemmas.{held_here, stands_here}
use Rattle.guest_space.proofs.space.GuestSpace.load_within.Goals as goal

pub has-requires : goal.has-requires
has-requires c = (subst (IsLoadWindow c.args.self.now) (sym c.of-window.ensures) (c.requires.holds.loads c.args.register)).below

pub number_from-requires-clause-held : goal.number_from-requires-clause-held
number_from-requires-clause-held c =
    let so = subst (IsLoadWindow c.args.self.now) (sym c.of-window.ensures) (c.requires.holds.loads c.args.register) in
    held_here 4 c.args.self.now.base c.args.self.now.spans c.args.self.now.store _ c.args.at so c.if-not-has.ensures.0 c.if-not-has.ensures.1

pub number_from-requires-clause-stands : goal.number_from-requires-clause-stands
number_from-requires-clause-stands c =
    let so = subst (IsLoadWindow c.args.self.now) (sym c.of-window.ensures) (c.requires.holds.loads c.args.register) in
    stands_here 4 c.args.self.now.base c.args.self.now.spans c.args.self.now.store _ c.args.at so c.if-not-has.ensures.0 c.if-not-has.ensures.1
