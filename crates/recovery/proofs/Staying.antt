-- For how many items an environment stays is nothing to a guest: a budget and a rule alone tell what it does next.
use Rattle.run_history.specs.declared.answer.Cause.TheVariants.{BadAccess, Hang}
use Rattle.recovery.proofs.Terms.{Bool, None, Option, Some, ap, cond, leb, refl, ◌≡◌, Heap, Env, Fails, Limits, does_with, grant, is_refused, serves, Range, instruction_at, touched, limits_of, Standing, turn, turn_of}

refused_by : (limits : Limits) (heap : Heap) (range : Option Range) → is_refused (limits_of limits.budget limits.permits) heap range ≡ is_refused limits heap range
refused_by limits heap None = refl
refused_by limits heap (Some range) = refl

turn_by : (limits : Limits) (env : Env) (s : Standing) → turn (limits_of limits.budget limits.permits) env s ≡ turn limits env s
unfolding turn serves
turn_by limits env s =
    ap (λ (bars : Bool). turn_of (instruction_at s.guest.machine) s (grant env s.guest) (cond (leb limits.budget s.guest.machine.since) (Fails Hang) (cond bars (Fails BadAccess) (does_with (grant env s.guest) None s.guest.machine))))
    (refused_by limits s.guest.heap (touched s.guest.machine))

pub turns_by : (limits : Limits) (env : Env) → turn (limits_of limits.budget limits.permits) env ≡ turn limits env
turns_by limits env = λ i s. turn_by limits env s i
