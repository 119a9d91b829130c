use Rattle.guest_space.proofs.Terms.{subst, sym, IsLoadWindow}
use Rattle.guest_space.proofs.space.GuestSpace.finds_elsewhere.Goals as goal

pub has-requires : goal.has-requires
has-requires c = (subst (IsLoadWindow c.args.self.now) (sym c.of-recent.ensures) (c.requires.holds.loads _)).below
