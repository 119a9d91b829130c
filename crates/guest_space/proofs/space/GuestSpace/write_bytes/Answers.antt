use Rattle.guest_space.proofs.Terms.{length, rules, subst, ◌<◌, ◌≡◌, IsLawfulSpace}
use Rattle.guest_space.proofs.SpaceLemmas.{parts_run, parts_put, parts_wrote, puts_none, is_held}
use Rattle.guest_space.proofs.space.GuestSpace.write_bytes.Goals as goal

pub returns-then-is_empty : goal.returns-then-is_empty
returns-then-is_empty c =
    let none : length c.args.bytes.now ≡ 0 = search rules in
    puts_none c.args.self.now c.args.at c.args.bytes.now (subst IsLawfulSpace c.self.view_is c.self.invariant) none

pub overflow_sub-at : goal.overflow_sub-at
overflow_sub-at c =
    let some : 0 < length c.args.bytes.now = search rules in
    (parts_run 2 c.self.inside.base c.self.inside.spans.items c.self.inside.store c.self.inside.code.value c.args.self.now c.args.at (length c.args.bytes.now) c.self.invariant c.self.view_is some c.requires).0

pub write_run-requires : goal.write_run-requires
write_run-requires c =
    let some : 0 < length c.args.bytes.now = search rules in
    (parts_run 2 c.self.inside.base c.self.inside.spans.items c.self.inside.store c.self.inside.code.value c.args.self.now c.args.at (length c.args.bytes.now) c.self.invariant c.self.view_is some c.requires).1

pub invariant_of-self : goal.invariant_of-self
invariant_of-self c =
    parts_wrote c.self.inside.base c.self.inside.spans.items c.self.inside.store _ c.self.inside.code.value c.args.self.now c.args.at c.args.bytes.now c.self.invariant c.self.view_is c.write_run.ensures.writes c.write_run.ensures.lawful
    (is_held 2 c.args.self.now c.args.at (length c.args.bytes.now) (subst IsLawfulSpace c.self.view_is c.self.invariant) c.requires)

pub returns : goal.returns
returns c =
    parts_put c.self.inside.base c.self.inside.spans.items c.self.inside.store _ c.self.inside.code.value c.args.self.now c.args.at c.args.bytes.now c.self.invariant c.self.view_is c.write_run.ensures.writes c.write_run.ensures.lawful
    (is_held 2 c.args.self.now c.args.at (length c.args.bytes.now) (subst IsLawfulSpace c.self.view_is c.self.invariant) c.requires)
