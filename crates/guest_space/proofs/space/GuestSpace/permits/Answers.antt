use Rattle.guest_space.proofs.Terms.{arith, sym}
use Rattle.guest_space.proofs.FlatLemmas.{permitted-far}
use Rattle.guest_space.proofs.SpaceLemmas.{parts_answer}
use Rattle.guest_space.proofs.space.GuestSpace.permits.Goals as goal

pub returns-then-from-gt-ADDRESSES : goal.returns-then-from-gt-ADDRESSES
returns-then-from-gt-ADDRESSES c = sym (permitted-far _ _ c.args.at c.args.len (omega arith))

pub returns : goal.returns
returns c = parts_answer c.args.flag c.self.inside.base c.self.inside.spans.items _ c.self.inside.store c.self.inside.code.value c.args.self.now c.args.at c.args.len _ c.self.invariant c.self.view_is c.deref.ensures.value (omega arith) c.are_held.ensures
