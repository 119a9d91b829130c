use Rattle.guest_cpu.proofs.Terms.{subst, sym, ◌∙◌, flat, TurnsBy}
use Rattle.guest_cpu.specs.declared.event.Met.TheVariants as met
use Rattle.guest_cpu.proofs.MeetLemmas.{still, meets_made, meets_badly, meets_refused}
use Rattle.guest_cpu.proofs.calling.meet_call.Goals as goal

pub returns-in-Err-clause-turned : goal.returns-in-Err-clause-turned
returns-in-Err-clause-turned g c = λ fetched. still (meets_badly _ _ c.in-Err.cause fetched (sym c.read_call.ensures ∙ c.in-Err.is))

pub returns-in-Err-check_call-clause-turned : goal.returns-in-Err-check_call-clause-turned
returns-in-Err-check_call-clause-turned g c = λ fetched. still (meets_refused _ _ c.in-Ok.call c.in-Err-check_call.cause fetched (sym c.read_call.ensures ∙ c.in-Ok.is) (sym c.check_call.ensures ∙ c.in-Err-check_call.is))

pub returns-in-Recv-clause-turned : goal.returns-in-Recv-clause-turned
returns-in-Recv-clause-turned g c = λ fetched. still (meets_made _ _ fetched c.read_call.ensures c.in-Ok.is c.in-Recv.is c.check_call.ensures c.in_default.is)

pub returns-in-Allocate-clause-turned : goal.returns-in-Allocate-clause-turned
returns-in-Allocate-clause-turned g c = λ fetched. still (meets_made _ _ fetched c.read_call.ensures c.in-Ok.is c.in-Allocate.is c.check_call.ensures c.in_default.is)

pub returns-in-Free-clause-turned : goal.returns-in-Free-clause-turned
returns-in-Free-clause-turned g c = λ fetched. still (meets_made _ _ fetched c.read_call.ensures c.in-Ok.is c.in-Free.is c.check_call.ensures c.in_default.is)

pub returns-in-Assert-clause-turned : goal.returns-in-Assert-clause-turned
returns-in-Assert-clause-turned g c = λ fetched. still (meets_made _ _ fetched c.read_call.ensures c.in-Ok.is c.in-Assert.is c.check_call.ensures c.in_default.is)

pub returns-in-Exit-clause-turned : goal.returns-in-Exit-clause-turned
returns-in-Exit-clause-turned g c = λ fetched. still (meets_made _ _ fetched c.read_call.ensures c.in-Ok.is c.in-Exit.is c.check_call.ensures c.in_default.is ∙ c.exit.ensures.turned (flat c.args.space.now))

pub returns-in-Send-clause-turned : goal.returns-in-Send-clause-turned
returns-in-Send-clause-turned g c = λ fetched.
    subst (λ t. TurnsBy met.Emits t c.args.core.now c.args.space.now c.send.result c.send.new.core c.args.space.now) (sym (meets_made _ _ fetched c.read_call.ensures c.in-Ok.is c.in-Send.is c.check_call.ensures c.in_default.is)) c.send.ensures.turned
