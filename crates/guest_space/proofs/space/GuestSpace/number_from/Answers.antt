use Rattle.guest_space.proofs.Terms.{ap, arith, drop, sym, take, ◌-◌, ◌∙◌, little_number}
use Rattle.guest_space.proofs.SpaceLemmas.{parts_place, parts_back, parts_reads, one_number, same_number}
use Rattle.guest_space.proofs.WindowLemmas.{held_less}
use Rattle.guest_space.proofs.space.GuestSpace.number_from.Goals as goal

pub overflow_sub-near : goal.overflow_sub-near
overflow_sub-near c = (parts_place 4 c.self.inside.base c.self.inside.spans.items c.self.inside.store c.self.inside.code.value c.args.self.now c.args.at 4 c.self.invariant c.self.view_is (omega arith) c.requires.held).0

pub returns-in-1-clause-value : goal.returns-in-1-clause-value
returns-in-1-clause-value c =
    parts_reads 4 c.self.inside.base c.self.inside.spans.items c.self.inside.store c.self.inside.code.value c.args.self.now c.args.at c.args.size _ c.self.invariant c.self.view_is c.requires.some
    (parts_back 4 c.self.inside.base c.self.inside.spans.items c.self.inside.store c.self.inside.code.value c.args.self.now c.args.at c.args.size c.self.view_is (held_less 4 c.args.self.now.spans c.args.at c.args.size c.requires.small c.requires.held))
    (c.from.ensures ∙ one_number c.self.inside.store.live.bytes (c.args.at - c.self.inside.base) _ c.byte_from.ensures ∙ ap (λ n. little_number (take n (drop (c.args.at - c.self.inside.base) c.self.inside.store.live.bytes))) (sym c.in-1.is))

pub returns-in-2-clause-value : goal.returns-in-2-clause-value
returns-in-2-clause-value c =
    parts_reads 4 c.self.inside.base c.self.inside.spans.items c.self.inside.store c.self.inside.code.value c.args.self.now c.args.at c.args.size _ c.self.invariant c.self.view_is c.requires.some
    (parts_back 4 c.self.inside.base c.self.inside.spans.items c.self.inside.store c.self.inside.code.value c.args.self.now c.args.at c.args.size c.self.view_is (held_less 4 c.args.self.now.spans c.args.at c.args.size c.requires.small c.requires.held))
    (c.from-in-2.ensures ∙ c.half_from.ensures ∙ same_number (take 2 (drop (c.args.at - c.self.inside.base) c.self.inside.store.live.bytes)) ∙ ap (λ n. little_number (take n (drop (c.args.at - c.self.inside.base) c.self.inside.store.live.bytes))) (sym c.in-2.is))

pub returns-in-4-clause-value : goal.returns-in-4-clause-value
returns-in-4-clause-value c =
    parts_reads 4 c.self.inside.base c.self.inside.spans.items c.self.inside.store c.self.inside.code.value c.args.self.now c.args.at c.args.size _ c.self.invariant c.self.view_is c.requires.some
    (parts_back 4 c.self.inside.base c.self.inside.spans.items c.self.inside.store c.self.inside.code.value c.args.self.now c.args.at c.args.size c.self.view_is (held_less 4 c.args.self.now.spans c.args.at c.args.size c.requires.small c.requires.held))
    (c.word_from.ensures ∙ same_number (take 4 (drop (c.args.at - c.self.inside.base) c.self.inside.store.live.bytes)) ∙ ap (λ n. little_number (take n (drop (c.args.at - c.self.inside.base) c.self.inside.store.live.bytes))) (sym c.in-4.is))
