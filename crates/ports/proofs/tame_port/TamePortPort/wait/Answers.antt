use Rattle.ports.proofs.Terms.{subst, sym, into_iter_items, Ready, IsReady}
use Rattle.ports.proofs.TameLemmas.{next_is_ready}
use Rattle.ports.proofs.tame_port.TamePortPort.wait.Goals as goal

pub returns-clause-ready : goal.returns-clause-ready
returns-clause-ready c =
    subst (λ (ready : Ready). IsReady c.args.awaited c.args.self.now.opened.items ready) (sym c.next_ready-ready.ensures.ready)
    (next_is_ready c.args.awaited c.args.self.now.opened.items (into_iter_items c.args.self.now.script) c.requires.some)
