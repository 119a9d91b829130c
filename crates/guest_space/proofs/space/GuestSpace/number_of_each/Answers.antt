use Rattle.guest_space.proofs.Terms.{[], ap, arith, drop, length, rules, take, true, ℕ, ◌-◌, ◌<◌, ◌∙◌, ◌∷◌, ◌≡◌, length-take-le, little_number, permitted, flat}
use Rattle.guest_space.proofs.SpaceLemmas.{parts_run, parts_held, parts_reads}
use Rattle.guest_space.proofs.space.GuestSpace.number_of_each.Goals as goal

pub overflow_sub-at : goal.overflow_sub-at
overflow_sub-at c =
    let h : permitted c.args.flag (flat c.args.self.now) c.args.at c.args.size ≡ true = search rules in
    let some : 0 < c.args.size = omega arith in
    (parts_run c.args.flag c.self.inside.base c.self.inside.spans.items c.self.inside.store c.self.inside.code.value c.args.self.now c.args.at c.args.size c.self.invariant c.self.view_is some h).0

pub read_run-requires : goal.read_run-requires
read_run-requires c =
    let h : permitted c.args.flag (flat c.args.self.now) c.args.at c.args.size ≡ true = search rules in
    let some : 0 < c.args.size = omega arith in
    let len : length (take {A = ℕ} c.args.size (0 ∷ 0 ∷ 0 ∷ 0 ∷ [])) ≡ c.args.size = length-take-le c.args.size (0 ∷ 0 ∷ 0 ∷ 0 ∷ []) (omega (arith, c.requires.small)) in
    let room = parts_run c.args.flag c.self.inside.base c.self.inside.spans.items c.self.inside.store c.self.inside.code.value c.args.self.now c.args.at c.args.size c.self.invariant c.self.view_is some h in
    omega arith

pub returns-clause-value : goal.returns-clause-value
returns-clause-value c =
    let h : permitted c.args.flag (flat c.args.self.now) c.args.at c.args.size ≡ true = search rules in
    let some : 0 < c.args.size = omega arith in
    let len : length (take {A = ℕ} c.args.size (0 ∷ 0 ∷ 0 ∷ 0 ∷ [])) ≡ c.args.size = length-take-le c.args.size (0 ∷ 0 ∷ 0 ∷ 0 ∷ []) (omega (arith, c.requires.small)) in
    parts_reads c.args.flag c.self.inside.base c.self.inside.spans.items c.self.inside.store c.self.inside.code.value c.args.self.now c.args.at c.args.size _ c.self.invariant c.self.view_is some
    (parts_held c.args.flag c.self.inside.base c.self.inside.spans.items c.self.inside.store c.self.inside.code.value c.args.self.now c.args.at c.args.size c.self.invariant c.self.view_is h)
    (c.number_of.ensures.value ∙ ap little_number (c.read_run.ensures.read ∙ ap (λ n. take n (drop (c.args.at - c.self.inside.base) c.self.inside.store.live.bytes)) len))
