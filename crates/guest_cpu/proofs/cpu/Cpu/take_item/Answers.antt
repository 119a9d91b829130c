use Rattle.guest_cpu.proofs.Terms.{subst, ◌≡◌, flat, machine_of, live_with_item, received_range, CpuState, cpu_state, live_of}
use Rattle.guest_cpu.proofs.RangeLemmas.{wants_permitted}
use Rattle.guest_cpu.proofs.CpuLemmas.{moved_cpu}
use Rattle.guest_cpu.proofs.cpu.Cpu.take_item.Goals as goal

pub receive-requires-clause-writable : goal.receive-requires-clause-writable
receive-requires-clause-writable g c =
    wants_permitted (machine_of c.self.inside.core (flat c.self.inside.space)) (rw (← c.self.view_is) at c.requires.asks)

pub invariant_of-self : goal.invariant_of-self
invariant_of-self g c = ((moved_cpu c.self.inside.rule _ _ _ _ _ _ _ (received_range c.args.item.now (machine_of c.self.inside.core (flat c.self.inside.space))) c.self.invariant.0 c.sound.ensures c.receive.ensures.state c.receive.ensures.wrote c.receive.ensures.keeps).2, c.receive.ensures.holds)

pub returns-clause-live : goal.returns-clause-live
returns-clause-live g c =
    subst (λ (state : CpuState _). live_of (cpu_state c.self.inside.rule c.receive.new.core c.receive.new.space c.self.inside.saved.items c.self.inside.ring) ≡ live_with_item state.base c.args.item.now (live_of state))
    c.self.view_is
    (moved_cpu c.self.inside.rule _ _ _ _ _ _ _ (received_range c.args.item.now (machine_of c.self.inside.core (flat c.self.inside.space))) c.self.invariant.0 c.sound.ensures c.receive.ensures.state c.receive.ensures.wrote c.receive.ensures.keeps).0
