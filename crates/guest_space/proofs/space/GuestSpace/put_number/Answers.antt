use Rattle.guest_space.proofs.Terms.{ap, arith, subst, sym, ◌<◌, ◌∙◌, little_bytes, AreHeld}
use Rattle.guest_space.proofs.SpaceLemmas.{parts_place, parts_stored, parts_wrote, half_bytes_are, same_bytes}
use Rattle.guest_space.proofs.space.GuestSpace.put_number.Goals as goal

pub overflow_sub-place : goal.overflow_sub-place
overflow_sub-place c =
    let some : 0 < c.args.size = omega arith in
    (parts_place 2 c.self.inside.base c.self.inside.spans.items c.self.inside.store c.self.inside.code.value c.args.self.now c.args.at c.args.size c.self.invariant c.self.view_is some c.requires.held).0

pub put_byte-requires : goal.put_byte-requires
put_byte-requires c =
    let some : 0 < c.args.size = omega arith in
    let room = parts_place 2 c.self.inside.base c.self.inside.spans.items c.self.inside.store c.self.inside.code.value c.args.self.now c.args.at c.args.size c.self.invariant c.self.view_is some c.requires.held in
    omega arith

pub put_half-requires-clause-inside : goal.put_half-requires-clause-inside
put_half-requires-clause-inside c =
    let some : 0 < c.args.size = omega arith in
    let room = parts_place 2 c.self.inside.base c.self.inside.spans.items c.self.inside.store c.self.inside.code.value c.args.self.now c.args.at c.args.size c.self.invariant c.self.view_is some c.requires.held in
    omega arith

pub put_word-requires-clause-inside : goal.put_word-requires-clause-inside
put_word-requires-clause-inside c =
    let some : 0 < c.args.size = omega arith in
    let room = parts_place 2 c.self.inside.base c.self.inside.spans.items c.self.inside.store c.self.inside.code.value c.args.self.now c.args.at c.args.size c.self.invariant c.self.view_is some c.requires.held in
    omega arith

pub returns-in-1 : goal.returns-in-1
returns-in-1 c =
    let some : 0 < c.args.size = omega arith in
    parts_stored c.self.inside.base c.self.inside.spans.items c.self.inside.store _ c.self.inside.code.value c.args.self.now c.args.at c.args.size c.args.value _ c.self.invariant c.self.view_is some c.requires.held
    (ap (λ n. little_bytes n c.args.value) (sym c.in-1.is))
    c.put_byte.ensures.writes c.put_byte.ensures.lawful

pub returns-in-2 : goal.returns-in-2
returns-in-2 c =
    let some : 0 < c.args.size = omega arith in
    parts_stored c.self.inside.base c.self.inside.spans.items c.self.inside.store _ c.self.inside.code.value c.args.self.now c.args.at c.args.size c.args.value _ c.self.invariant c.self.view_is some c.requires.held
    (half_bytes_are c.args.value ∙ ap (λ n. little_bytes n c.args.value) (sym c.in-2.is))
    c.put_half.ensures.writes c.put_half.ensures.lawful

pub returns-in-4 : goal.returns-in-4
returns-in-4 c =
    let some : 0 < c.args.size = omega arith in
    parts_stored c.self.inside.base c.self.inside.spans.items c.self.inside.store _ c.self.inside.code.value c.args.self.now c.args.at c.args.size c.args.value _ c.self.invariant c.self.view_is some c.requires.held
    (same_bytes 4 c.args.value ∙ ap (λ n. little_bytes n c.args.value) (sym c.in-4.is))
    c.put_word.ensures.writes c.put_word.ensures.lawful

pub invariant_of-self : goal.invariant_of-self
invariant_of-self c =
    parts_wrote c.self.inside.base c.self.inside.spans.items c.self.inside.store _ c.self.inside.code.value c.args.self.now c.args.at _ c.self.invariant c.self.view_is c.put_byte.ensures.writes c.put_byte.ensures.lawful
    (subst (AreHeld 2 c.args.self.now.spans c.args.at) c.in-1.is c.requires.held)

pub invariant_of-self-in-2 : goal.invariant_of-self-in-2
invariant_of-self-in-2 c =
    parts_wrote c.self.inside.base c.self.inside.spans.items c.self.inside.store _ c.self.inside.code.value c.args.self.now c.args.at _ c.self.invariant c.self.view_is c.put_half.ensures.writes c.put_half.ensures.lawful
    (subst (AreHeld 2 c.args.self.now.spans c.args.at) c.in-2.is c.requires.held)

pub invariant_of-self-in-4 : goal.invariant_of-self-in-4
invariant_of-self-in-4 c =
    parts_wrote c.self.inside.base c.self.inside.spans.items c.self.inside.store _ c.self.inside.code.value c.args.self.now c.args.at _ c.self.invariant c.self.view_is c.put_word.ensures.writes c.put_word.ensures.lawful
    (subst (AreHeld 2 c.args.self.now.spans c.args.at) c.in-4.is c.requires.held)
