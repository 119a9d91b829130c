use Rattle.guest_cpu.proofs.Terms.{subst, ◌≡◌, released}
use Rattle.guest_cpu.proofs.RecordTurns.{released_is, freed_recorded}
use Rattle.guest_cpu.proofs.recorded.release.Goals as goal

pub returns-clause-turned : goal.returns-clause-turned
returns-clause-turned g c = λ memory.
    freed_recorded c.args.core.now c.go_on.new.self c.release.new.self c.args.at memory (subst (λ site. c.release.new.self ≡ released c.args.core.now.book site c.args.at) c.site-site.ensures (released_is c.args.core.now.book c.release.new.self c.site-site.result c.args.at c.release.result c.release.ensures.found c.release.ensures.gone)) c.go_on.ensures c.requires.asked
