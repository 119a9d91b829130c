use Rattle.guest_space.proofs.Terms.{arith, drop, subst, sym, take, ◌%◌, ◌-◌, ◌∙◌, ◌≡◌, GuestPages}
use Rattle.guest_space.proofs.SpaceLemmas.{parts_place, parts_back, parts_reads, same_number}
use Rattle.guest_space.proofs.space.GuestSpace.whole_word.Goals as goal

pub overflow_sub-at : goal.overflow_sub-at
overflow_sub-at c = (parts_place 1 c.self.inside.base c.self.inside.spans.items c.self.inside.store c.self.inside.code.value c.args.self.now c.args.at 4 c.self.invariant c.self.view_is (omega arith) c.requires.held).0

pub word_at-requires-clause-inside : goal.word_at-requires-clause-inside
word_at-requires-clause-inside c =
    let room = parts_place 1 c.self.inside.base c.self.inside.spans.items c.self.inside.store c.self.inside.code.value c.args.self.now c.args.at 4 c.self.invariant c.self.view_is (omega arith) c.requires.held in
    omega arith

pub word_at-requires-clause-within : goal.word_at-requires-clause-within
word_at-requires-clause-within c =
    let room = parts_place 1 c.self.inside.base c.self.inside.spans.items c.self.inside.store c.self.inside.code.value c.args.self.now c.args.at 4 c.self.invariant c.self.view_is (omega arith) c.requires.held in
    let begins : c.self.inside.base % 4 ≡ 0 = subst (λ (s : GuestPages). s.base % 4 ≡ 0) (sym c.self.view_is) c.requires.base in
    let whole = c.requires.whole in
    omega arith

pub returns : goal.returns
returns c =
    parts_reads 1 c.self.inside.base c.self.inside.spans.items c.self.inside.store c.self.inside.code.value c.args.self.now c.args.at 4 _ c.self.invariant c.self.view_is (omega arith)
    (parts_back 1 c.self.inside.base c.self.inside.spans.items c.self.inside.store c.self.inside.code.value c.args.self.now c.args.at 4 c.self.view_is c.requires.held)
    (c.word_at.ensures.word ∙ same_number (take 4 (drop (c.args.at - c.self.inside.base) c.self.inside.store.live.bytes)))
