use Rattle.guest_space.proofs.Terms.{ap, arith, subst, sym, ◌<◌, ◌∙◌, little_bytes, AreHeld}
use Rattle.guest_space.proofs.SpaceLemmas.{parts_place, parts_stored, parts_wrote, half_bytes_are, same_bytes}
use Rattle.guest_space.proofs.WindowLemmas.{held_less}
use Rattle.guest_space.proofs.space.GuestSpace.put_from.Goals as goal

pub overflow_sub-near : goal.overflow_sub-near
overflow_sub-near c = (parts_place 2 c.self.inside.base c.self.inside.spans.items c.self.inside.store c.self.inside.code.value c.args.self.now c.args.at 4 c.self.invariant c.self.view_is (omega arith) c.requires.held).0

pub returns-in-1-clause-stored : goal.returns-in-1-clause-stored
returns-in-1-clause-stored c =
    let some : 0 < c.args.size = omega arith in
    parts_stored c.self.inside.base c.self.inside.spans.items c.self.inside.store _ c.self.inside.code.value c.args.self.now c.args.at c.args.size c.args.value _ c.self.invariant c.self.view_is some (held_less 2 c.args.self.now.spans c.args.at c.args.size c.requires.small c.requires.held)
    (ap (λ n. little_bytes n c.args.value) (sym c.in-1.is))
    c.put_byte_from.ensures.writes c.put_byte_from.ensures.lawful

pub returns-in-2-clause-stored : goal.returns-in-2-clause-stored
returns-in-2-clause-stored c =
    let some : 0 < c.args.size = omega arith in
    parts_stored c.self.inside.base c.self.inside.spans.items c.self.inside.store _ c.self.inside.code.value c.args.self.now c.args.at c.args.size c.args.value _ c.self.invariant c.self.view_is some (held_less 2 c.args.self.now.spans c.args.at c.args.size c.requires.small c.requires.held)
    (half_bytes_are c.args.value ∙ ap (λ n. little_bytes n c.args.value) (sym c.in-2.is))
    c.put_half_from.ensures.writes c.put_half_from.ensures.lawful

pub returns-in-4-clause-stored : goal.returns-in-4-clause-stored
returns-in-4-clause-stored c =
    let some : 0 < c.args.size = omega arith in
    parts_stored c.self.inside.base c.self.inside.spans.items c.self.inside.store _ c.self.inside.code.value c.args.self.now c.args.at c.args.size c.args.value _ c.self.invariant c.self.view_is some (held_less 2 c.args.self.now.spans c.args.at c.args.size c.requires.small c.requires.held)
    (same_bytes 4 c.args.value ∙ ap (λ n. little_bytes n c.args.value) (sym c.in-4.is))
    c.put_word_from.ensures.writes c.put_word_from.ensures.lawful

pub invariant_of-self : goal.invariant_of-self
invariant_of-self c =
    parts_wrote c.self.inside.base c.self.inside.spans.items c.self.inside.store _ c.self.inside.code.value c.args.self.now c.args.at _ c.self.invariant c.self.view_is c.put_byte_from.ensures.writes c.put_byte_from.ensures.lawful
    (subst (AreHeld 2 c.args.self.now.spans c.args.at) c.in-1.is (held_less 2 c.args.self.now.spans c.args.at c.args.size c.requires.small c.requires.held))

pub invariant_of-self-in-2 : goal.invariant_of-self-in-2
invariant_of-self-in-2 c =
    parts_wrote c.self.inside.base c.self.inside.spans.items c.self.inside.store _ c.self.inside.code.value c.args.self.now c.args.at _ c.self.invariant c.self.view_is c.put_half_from.ensures.writes c.put_half_from.ensures.lawful
    (subst (AreHeld 2 c.args.self.now.spans c.args.at) c.in-2.is (held_less 2 c.args.self.now.spans c.args.at c.args.size c.requires.small c.requires.held))

pub invariant_of-self-in-4 : goal.invariant_of-self-in-4
invariant_of-self-in-4 c =
    parts_wrote c.self.inside.base c.self.inside.spans.items c.self.inside.store _ c.self.inside.code.value c.args.self.now c.args.at _ c.self.invariant c.self.view_is c.put_word_from.ensures.writes c.put_word_from.ensures.lawful
    (subst (AreHeld 2 c.args.self.now.spans c.args.at) c.in-4.is (held_less 2 c.args.self.now.spans c.args.at c.args.size c.requires.small c.requires.held))
