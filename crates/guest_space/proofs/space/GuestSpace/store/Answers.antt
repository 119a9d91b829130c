use Rattle.guest_space.proofs.Terms.{subst, sym, true, ◌≡◌, permitted, flat}
use Rattle.guest_space.proofs.SpaceLemmas.{length-little_bytes}
use Rattle.guest_space.proofs.space.GuestSpace.store.Goals as goal

pub returns-then-put_number : goal.returns-then-put_number
returns-then-put_number c = record {
  stored = (
    subst (λ n. permitted 2 (flat c.args.self.now) c.args.at n ≡ true) (sym (length-little_bytes c.args.size c.args.value)) c.if-put_number.ensures.0,
    c.if-put_number.ensures.1,
  );
}
