use Rattle.guest_space.proofs.Terms.{ap, arith, drop, length, take, ℕ, ◌-◌, ◌<◌, ◌∙◌, ◌≡◌, length-replicate, refill}
use Rattle.guest_space.proofs.SpaceLemmas.{parts_run, parts_held, parts_bytes}
use Rattle.guest_space.proofs.space.GuestSpace.read_bytes.Goals as goal

pub overflow_sub-at : goal.overflow_sub-at
overflow_sub-at c =
    let some : 0 < c.args.len = omega arith in
    (parts_run 4 c.self.inside.base c.self.inside.spans.items c.self.inside.store c.self.inside.code.value c.args.self.now c.args.at c.args.len c.self.invariant c.self.view_is some c.requires).0

pub read_run-requires : goal.read_run-requires
read_run-requires c =
    let some : 0 < c.args.len = omega arith in
    let size : length c.as_mut_slice.result.now ≡ c.args.len = ap length (c.as_mut_slice.ensures.value ∙ c.in_ok-bytes.ensures.items_if_clones_equal (λ x h. h)) ∙ length-replicate {A = ℕ} c.args.len 0 in
    let room = parts_run 4 c.self.inside.base c.self.inside.spans.items c.self.inside.store c.self.inside.code.value c.args.self.now c.args.at c.args.len c.self.invariant c.self.view_is some c.requires in
    omega arith

pub returns : goal.returns
returns c =
    let size : length c.as_mut_slice.result.now ≡ c.args.len = ap length (c.as_mut_slice.ensures.value ∙ c.in_ok-bytes.ensures.items_if_clones_equal (λ x h. h)) ∙ length-replicate {A = ℕ} c.args.len 0 in
    let same : length c.read_run.new.buf ≡ c.in_ok-bytes.bytes.len = omega (arith, c.in_ok-bytes.ensures.len, c.read_run.auto.buf) in
    refill c.in_ok-bytes.bytes.len c.in_ok-bytes.bytes.items c.read_run.new.buf same
    ∙ c.read_run.ensures.read
    ∙ ap (λ n. take n (drop (c.args.at - c.self.inside.base) c.self.inside.store.live.bytes)) size
    ∙ parts_bytes 4 c.self.inside.base c.self.inside.spans.items c.self.inside.store c.self.inside.code.value c.args.self.now c.args.at c.args.len c.self.invariant c.self.view_is (parts_held 4 c.self.inside.base c.self.inside.spans.items c.self.inside.store c.self.inside.code.value c.args.self.now c.args.at c.args.len c.self.invariant c.self.view_is c.requires)
