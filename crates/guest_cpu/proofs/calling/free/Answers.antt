use Rattle.guest_cpu.proofs.CoreLemmas.{freed_turn}
use Rattle.guest_cpu.proofs.calling.free.Goals as goal

pub returns-in-Ok-clause-turned : goal.returns-in-Ok-clause-turned
returns-in-Ok-clause-turned g c = λ memory.
    freed_turn c.args.env c.args.core.now c.go_on.new.self c.serve_free.new.book c.site-site.result c.args.at memory c.site-site.ensures c.requires.asked
    (rw c.in-Ok.is at c.serve_free.ensures.freed) (rw c.in-Ok.is at c.serve_free.ensures.live) c.serve_free.ensures.ends c.go_on.ensures
