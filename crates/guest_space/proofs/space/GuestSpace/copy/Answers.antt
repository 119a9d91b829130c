use Rattle.guest_space.proofs.Terms.{arith, inl, inr, length, refl, subst, sym, ◌<◌, ◌≡◌, bytes_at, IsLawfulSpace, flat, AreHeld}
use Rattle.guest_space.proofs.SpaceLemmas.{parts_copied, parts_run, parts_put, parts_wrote, puts_none, is_held}
use Rattle.guest_space.proofs.space.GuestSpace.copy.Goals as goal

pub returns-then-len-eq0 : goal.returns-then-len-eq0
returns-then-len-eq0 c =
    let none : length (bytes_at 4 (flat c.args.self.now) c.args.from c.args.len) ≡ 0 = subst (λ n. length (bytes_at 4 (flat c.args.self.now) c.args.from n) ≡ 0) (sym c.if-len-eq0.true) refl in
    puts_none c.args.self.now c.args.at (bytes_at 4 (flat c.args.self.now) c.args.from c.args.len) (subst IsLawfulSpace c.self.view_is c.self.invariant) none

pub overflow_sub-from : goal.overflow_sub-from
overflow_sub-from c =
    let some : 0 < c.args.len = omega arith in
    (parts_run 4 c.self.inside.base c.self.inside.spans.items c.self.inside.store c.self.inside.code.value c.args.self.now c.args.from c.args.len c.self.invariant c.self.view_is some c.requires.read).0

pub overflow_sub-at : goal.overflow_sub-at
overflow_sub-at c =
    let some : 0 < c.args.len = omega arith in
    (parts_run 2 c.self.inside.base c.self.inside.spans.items c.self.inside.store c.self.inside.code.value c.args.self.now c.args.at c.args.len c.self.invariant c.self.view_is some c.requires.written).0

pub copy_run-requires-clause-source : goal.copy_run-requires-clause-source
copy_run-requires-clause-source c =
    let some : 0 < c.args.len = omega arith in
    (parts_run 4 c.self.inside.base c.self.inside.spans.items c.self.inside.store c.self.inside.code.value c.args.self.now c.args.from c.args.len c.self.invariant c.self.view_is some c.requires.read).1

pub copy_run-requires-clause-target : goal.copy_run-requires-clause-target
copy_run-requires-clause-target c =
    let some : 0 < c.args.len = omega arith in
    (parts_run 2 c.self.inside.base c.self.inside.spans.items c.self.inside.store c.self.inside.code.value c.args.self.now c.args.at c.args.len c.self.invariant c.self.view_is some c.requires.written).1

pub copy_run-requires-clause-apart : goal.copy_run-requires-clause-apart
copy_run-requires-clause-apart c =
    let some : 0 < c.args.len = omega arith in
    let low = (parts_run 4 c.self.inside.base c.self.inside.spans.items c.self.inside.store c.self.inside.code.value c.args.self.now c.args.from c.args.len c.self.invariant c.self.view_is some c.requires.read).0 in
    let high = (parts_run 2 c.self.inside.base c.self.inside.spans.items c.self.inside.store c.self.inside.code.value c.args.self.now c.args.at c.args.len c.self.invariant c.self.view_is some c.requires.written).0 in
    elim c.requires.apart [
      | inl before ↦ inl (omega (arith, before, low, high))
      | inr behind ↦ inr (omega (arith, behind, low, high))
    ]

pub invariant_of-self : goal.invariant_of-self
invariant_of-self c =
    let some : 0 < c.args.len = omega arith in
    let copied = parts_copied c.self.inside.base c.self.inside.spans.items c.self.inside.store _ c.self.inside.code.value c.args.self.now c.args.from c.args.at c.args.len c.self.invariant c.self.view_is some c.requires.read c.copy_run.ensures.writes in
    parts_wrote c.self.inside.base c.self.inside.spans.items c.self.inside.store _ c.self.inside.code.value c.args.self.now c.args.at (bytes_at 4 (flat c.args.self.now) c.args.from c.args.len) c.self.invariant c.self.view_is copied.0 c.copy_run.ensures.lawful
    (subst (AreHeld 2 c.args.self.now.spans c.args.at) (sym copied.1) (is_held 2 c.args.self.now c.args.at c.args.len (subst IsLawfulSpace c.self.view_is c.self.invariant) c.requires.written))

pub returns : goal.returns
returns c =
    let some : 0 < c.args.len = omega arith in
    let copied = parts_copied c.self.inside.base c.self.inside.spans.items c.self.inside.store _ c.self.inside.code.value c.args.self.now c.args.from c.args.at c.args.len c.self.invariant c.self.view_is some c.requires.read c.copy_run.ensures.writes in
    parts_put c.self.inside.base c.self.inside.spans.items c.self.inside.store _ c.self.inside.code.value c.args.self.now c.args.at (bytes_at 4 (flat c.args.self.now) c.args.from c.args.len) c.self.invariant c.self.view_is copied.0 c.copy_run.ensures.lawful
    (subst (AreHeld 2 c.args.self.now.spans c.args.at) (sym copied.1) (is_held 2 c.args.self.now c.args.at c.args.len (subst IsLawfulSpace c.self.view_is c.self.invariant) c.requires.written))
