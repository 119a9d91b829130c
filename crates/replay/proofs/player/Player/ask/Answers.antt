use Rattle.replay.proofs.Terms.{ap, subst, sym, ℕ, Err, IsItemOf, Wants, Marks, CpuState, Live, HasFound, IsInputEnd, WouldDo}
use Rattle.replay.proofs.DifferLemmas.{differs_weaker, input_found}
use Rattle.replay.proofs.TakeLemmas.{item_short, takes_item}
use Rattle.replay.proofs.player.Player.ask.Goals as goal

pub take_item-requires-clause-short : goal.take_item-requires-clause-short
take_item-requires-clause-short g c =
    let k = c.requires.waits in
    let item : IsItemOf c.await_item.new.self.log c.await_item.new.self.cpu.slots.live.guest.machine.taken c.item.result.now =
    subst (λ (n : ℕ). IsItemOf c.await_item.new.self.log n c.item.result.now) (ap (λ (marks : Marks). marks.taken) c.marks-taken.ensures) c.item.ensures.of_events in
    item_short (c.in_default.ensures.hears k.image c.args.recorded.now k.began k.is) item

pub returns-clause-turns : goal.returns-clause-turns
returns-clause-turns g c image began waiting =
    let item : IsItemOf c.await_item.new.self.log c.await_item.new.self.cpu.slots.live.guest.machine.taken c.item.result.now =
    subst (λ (n : ℕ). IsItemOf c.await_item.new.self.log n c.item.result.now) (ap (λ (marks : Marks). marks.taken) c.marks-taken.ensures) c.item.ensures.of_events in
    takes_item (c.in_default.ensures.hears image c.args.recorded.now began waiting) item (ap (λ (live : Live). live.standing) c.take_item.ensures.live)

pub returns-in-Err-clause-differs : goal.returns-in-Err-clause-differs
returns-in-Err-clause-differs g c =
    let waits = c.requires.waits.is in
    let would : WouldDo c.args.recorded.now c.await_item.new.self.cpu.slots.live.steps c.await_item.new.self.cpu.slots.live.ended c.await_item.new.self.cpu.slots.live.guest.machine Wants =
    subst (λ (cpu : CpuState _). WouldDo c.args.recorded.now cpu.slots.live.steps cpu.slots.live.ended cpu.slots.live.guest.machine Wants) (sym c.in-Err.ensures.cpu) (waits.shorter, waits.lives, waits.asks) in
    differs_weaker {P = IsInputEnd} {Q = HasFound c.args.recorded.now c.await_item.new.self.cpu.slots.live} c.args.self.now.difference c.await_item.new.self.difference (Err c.in-Err.answer)
    (input_found c.args.recorded.now c.await_item.new.self.cpu.slots.live would) c.in-Err.ensures.differs
