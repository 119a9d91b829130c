use Rattle.guest_space.proofs.Terms.{arith, length, replicate, subst, sym, ℕ, ◌<◌, ◌≡◌, length-replicate, IsLawfulSpace, AreHeld}
use Rattle.guest_space.proofs.SpaceLemmas.{parts_run, parts_put, parts_wrote, puts_none, is_held}
use Rattle.guest_space.proofs.space.GuestSpace.zero.Goals as goal

pub returns-then-len-eq0 : goal.returns-then-len-eq0
returns-then-len-eq0 c =
    let none : length (replicate {A = ℕ} c.args.len 0) ≡ 0 = omega (arith, length-replicate {A = ℕ} c.args.len 0) in
    puts_none c.args.self.now c.args.at (replicate c.args.len 0) (subst IsLawfulSpace c.self.view_is c.self.invariant) none

pub overflow_sub-at : goal.overflow_sub-at
overflow_sub-at c =
    let some : 0 < c.args.len = omega arith in
    (parts_run 2 c.self.inside.base c.self.inside.spans.items c.self.inside.store c.self.inside.code.value c.args.self.now c.args.at c.args.len c.self.invariant c.self.view_is some c.requires).0

pub zero_run-requires : goal.zero_run-requires
zero_run-requires c =
    let some : 0 < c.args.len = omega arith in
    (parts_run 2 c.self.inside.base c.self.inside.spans.items c.self.inside.store c.self.inside.code.value c.args.self.now c.args.at c.args.len c.self.invariant c.self.view_is some c.requires).1

pub invariant_of-self : goal.invariant_of-self
invariant_of-self c =
    parts_wrote c.self.inside.base c.self.inside.spans.items c.self.inside.store _ c.self.inside.code.value c.args.self.now c.args.at (replicate c.args.len 0) c.self.invariant c.self.view_is c.zero_run.ensures.writes c.zero_run.ensures.lawful
    (subst (AreHeld 2 c.args.self.now.spans c.args.at) (sym (length-replicate {A = ℕ} c.args.len 0))
    (is_held 2 c.args.self.now c.args.at c.args.len (subst IsLawfulSpace c.self.view_is c.self.invariant) c.requires))

pub returns : goal.returns
returns c =
    parts_put c.self.inside.base c.self.inside.spans.items c.self.inside.store _ c.self.inside.code.value c.args.self.now c.args.at (replicate c.args.len 0) c.self.invariant c.self.view_is c.zero_run.ensures.writes c.zero_run.ensures.lawful
    (subst (AreHeld 2 c.args.self.now.spans c.args.at) (sym (length-replicate {A = ℕ} c.args.len 0))
    (is_held 2 c.args.self.now c.args.at c.args.len (subst IsLawfulSpace c.self.view_is c.self.invariant) c.requires))
