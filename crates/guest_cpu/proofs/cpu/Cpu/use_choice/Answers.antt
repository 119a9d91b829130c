use Rattle.guest_cpu.proofs.Terms.{subst, sym, ◌≡◌, live_blocks, flat, set_range, standing, chosen_standing, live_with_choice, CpuState, IsCpu, cpu_state, live_of}
use Rattle.guest_cpu.proofs.CpuLemmas.{moved_cpu}
use Rattle.guest_cpu.proofs.cpu.Cpu.use_choice.Goals as goal

pub invariant_of-self-2 : goal.invariant_of-self-2
invariant_of-self-2 g c =
    let done = rw c.if-not-choose.false at c.choose.ensures.done in
    let wrote = rw c.if-not-choose.false at c.choose.ensures.wrote in (
      (moved_cpu c.self.inside.rule _ _ _ _ _ _ (chosen_standing c.args.choice (standing c.self.inside.core (flat c.self.inside.space))) (set_range (live_blocks c.self.inside.core.book.blocks) c.args.choice)
          c.self.invariant.0 c.sound.ensures done wrote c.choose.ensures.keeps).2,
      c.forget.ensures _,
    )

pub returns-clause-live : goal.returns-clause-live
returns-clause-live g c =
    let done = rw c.if-not-choose.false at c.choose.ensures.done in
    let wrote = rw c.if-not-choose.false at c.choose.ensures.wrote in
    subst (λ (state : CpuState _). live_of (cpu_state c.self.inside.rule c.choose.new.core c.choose.new.space c.self.inside.saved.items c.self.inside.ring) ≡ live_with_choice state.base c.args.choice (live_of state))
    c.self.view_is
    (moved_cpu c.self.inside.rule _ _ _ _ _ _ (chosen_standing c.args.choice (standing c.self.inside.core (flat c.self.inside.space))) (set_range (live_blocks c.self.inside.core.book.blocks) c.args.choice)
    c.self.invariant.0 c.sound.ensures done wrote c.choose.ensures.keeps).0

pub invariant_of-self : goal.invariant_of-self
invariant_of-self g c =
    let same : c.choose.new.core ≡ c.self.inside.core = rw c.if-not-choose.true at c.choose.ensures.done in
    let still : c.choose.new.space ≡ c.self.inside.space = rw c.if-not-choose.true at c.choose.ensures.wrote in (
      subst (λ core. IsCpu core c.choose.new.space c.self.inside.saved.items c.self.inside.ring) (sym same)
          (subst (λ space. IsCpu c.self.inside.core space c.self.inside.saved.items c.self.inside.ring) (sym still) c.self.invariant.0),
      c.forget.ensures _,
    )
