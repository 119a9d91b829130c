use Rattle.guest_space.proofs.Terms.{ap, arith, drop, sym, take, ◌-◌, ◌∙◌, little_number}
use Rattle.guest_space.proofs.SpaceLemmas.{parts_place, parts_back, parts_reads, one_number, same_number}
use Rattle.guest_space.proofs.space.GuestSpace.number_in_page.Goals as goal

pub overflow_sub-place : goal.overflow_sub-place
overflow_sub-place c = (parts_place c.args.flag c.self.inside.base c.self.inside.spans.items c.self.inside.store c.self.inside.code.value c.args.self.now c.args.at c.args.size c.self.invariant c.self.view_is c.requires.some c.requires.held).0

pub byte_at-requires : goal.byte_at-requires
byte_at-requires c =
    let room = parts_place c.args.flag c.self.inside.base c.self.inside.spans.items c.self.inside.store c.self.inside.code.value c.args.self.now c.args.at c.args.size c.self.invariant c.self.view_is c.requires.some c.requires.held in
    omega arith

pub half_at-requires-clause-inside : goal.half_at-requires-clause-inside
half_at-requires-clause-inside c =
    let room = parts_place c.args.flag c.self.inside.base c.self.inside.spans.items c.self.inside.store c.self.inside.code.value c.args.self.now c.args.at c.args.size c.self.invariant c.self.view_is c.requires.some c.requires.held in
    omega arith

pub word_at-requires-clause-inside : goal.word_at-requires-clause-inside
word_at-requires-clause-inside c =
    let room = parts_place c.args.flag c.self.inside.base c.self.inside.spans.items c.self.inside.store c.self.inside.code.value c.args.self.now c.args.at c.args.size c.self.invariant c.self.view_is c.requires.some c.requires.held in
    omega arith

pub returns-in-1-clause-value : goal.returns-in-1-clause-value
returns-in-1-clause-value c =
    parts_reads c.args.flag c.self.inside.base c.self.inside.spans.items c.self.inside.store c.self.inside.code.value c.args.self.now c.args.at c.args.size _ c.self.invariant c.self.view_is c.requires.some
    (parts_back c.args.flag c.self.inside.base c.self.inside.spans.items c.self.inside.store c.self.inside.code.value c.args.self.now c.args.at c.args.size c.self.view_is c.requires.held)
    (c.from.ensures ∙ one_number c.self.inside.store.live.bytes (c.args.at - c.self.inside.base) _ c.byte_at.ensures.byte ∙ ap (λ n. little_number (take n (drop (c.args.at - c.self.inside.base) c.self.inside.store.live.bytes))) (sym c.in-1.is))

pub returns-in-2-clause-value : goal.returns-in-2-clause-value
returns-in-2-clause-value c =
    parts_reads c.args.flag c.self.inside.base c.self.inside.spans.items c.self.inside.store c.self.inside.code.value c.args.self.now c.args.at c.args.size _ c.self.invariant c.self.view_is c.requires.some
    (parts_back c.args.flag c.self.inside.base c.self.inside.spans.items c.self.inside.store c.self.inside.code.value c.args.self.now c.args.at c.args.size c.self.view_is c.requires.held)
    (c.from-in-2.ensures ∙ c.half_at.ensures.half ∙ same_number (take 2 (drop (c.args.at - c.self.inside.base) c.self.inside.store.live.bytes)) ∙ ap (λ n. little_number (take n (drop (c.args.at - c.self.inside.base) c.self.inside.store.live.bytes))) (sym c.in-2.is))

pub returns-in-4-clause-value : goal.returns-in-4-clause-value
returns-in-4-clause-value c =
    parts_reads c.args.flag c.self.inside.base c.self.inside.spans.items c.self.inside.store c.self.inside.code.value c.args.self.now c.args.at c.args.size _ c.self.invariant c.self.view_is c.requires.some
    (parts_back c.args.flag c.self.inside.base c.self.inside.spans.items c.self.inside.store c.self.inside.code.value c.args.self.now c.args.at c.args.size c.self.view_is c.requires.held)
    (c.word_at.ensures.word ∙ same_number (take 4 (drop (c.args.at - c.self.inside.base) c.self.inside.store.live.bytes)) ∙ ap (λ n. little_number (take n (drop (c.args.at - c.self.inside.base) c.self.inside.store.live.bytes))) (sym c.in-4.is))
