use Rattle.guest_space.proofs.SavedLemmas.{windows_saved}
use Rattle.guest_space.proofs.space.GuestSpace.save_by.Goals as goal

pub returns-clause-holds : goal.returns-clause-holds
returns-clause-holds c =
    windows_saved c.args.self.now c.save.new.self _ c.args.windows.now c.forget_stores.new.self c.save.ensures.saved.store_is c.requires.holds c.forget_stores.ensures.loads (c.forget_stores.ensures.stores c.save.new.self)
