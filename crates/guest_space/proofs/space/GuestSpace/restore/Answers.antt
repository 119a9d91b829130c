use Rattle.guest_space.proofs.Terms.{IsSome, rules, subst, sym, slot_at, GuestPages}
use Rattle.guest_space.proofs.SpaceLemmas.{parts_restored}
use Rattle.guest_space.proofs.space.GuestSpace.restore.Goals as goal

pub invariant_of-self : goal.invariant_of-self
invariant_of-self c =
    parts_restored c.self.inside.base c.self.inside.spans.items c.self.inside.store c.restore.new.self c.self.inside.code.value c.args.slot c.self.invariant
    (subst (λ (s : GuestPages). IsSome (slot_at s.store c.args.slot)) (sym c.self.view_is) c.requires)
    c.restore.ensures.restored c.restore.ensures.lawful

pub returns : goal.returns
returns c = record {
  restored = record {
    store_is = search rules;
    memory = search rules;
    lawful = invariant_of-self c;
  };
}
