use Rattle.guest_cpu.proofs.Terms.{refl}
use Rattle.guest_cpu.proofs.QuietLemmas.{ran_nothing}
use Rattle.guest_cpu.proofs.quiet.go_quietly.Goals as goal

pub returns-clause-ran : goal.returns-clause-ran
returns-clause-ran g c = record { count = c.run_on-done.result; few = c.run_on-done.ensures.within; ran = c.run_on-done.ensures.ran; is = refl }

pub returns-in_default-clause-ran : goal.returns-in_default-clause-ran
returns-in_default-clause-ran g c = ran_nothing _ c.args.most c.args.core.now c.args.space.now
