-- A guest by itself comes to a request, and may take an item.
use Rattle.guest_cpu.proofs.Terms.{List, None, [], ap, arith, false, ltb, refl, subst, suc, sym, true, ℕ, ◌∷◌, ◌≡◌, length-replicate, Ok, Env, Wants, does, Limits, Override, Path, env_at, Event, Live, Standing, turn, RunsBy, standing_of}
use Rattle.guest_cpu.specs.declared.event.Event.TheVariants as event
use Rattle.std.specs.Prelude.{replicate}
use Rattle.guest_cpu.proofs.RunLemmas.{runs_serve}
use Rattle.guest_cpu.proofs.TakeLemmas.{asks_wants}

-- a run that stands there
abbrev path_at : Standing → Path
path_at s = record {
  state = record { machine = s.guest.machine; sends = replicate s.sends (record { conn = 0; bytes = []; taken = 0 }); ended = s.ended };
  heap = s.guest.heap;
  choices = [];
  steps = s.steps;
}

stands_at : (s : Standing) → s ≡ standing_of (path_at s)
stands_at s = ap (λ n. record s { sends = n }) (sym (length-replicate s.sends _))

-- a plan with this environment after so many items, and that it is in force there
abbrev plan_of : ℕ → Env → List Override
plan_of taken env = record { low = 0; until = suc taken; env = env } ∷ []

in_force : (base : Env) (taken : ℕ) (env : Env) → env_at base (plan_of taken env) taken ≡ env
in_force base taken env =
    let low : ltb taken 0 ≡ false = grind arith in
    let until : ltb taken (suc taken) ≡ true = grind arith in rw (low, until) refl

-- a guest that has run to a request may take an item
pub asks_here : (limits : Limits) (env : Env) (base : ℕ) (old new : Live) (is : Event) → old.standing.ended ≡ None → is ≡ event.Asks → RunsBy event.Emits (turn limits env) base old (Ok is) new → does None None new.standing.guest.machine ≡ Wants
asks_here limits env base old new is lives asks runs =
    let taken = old.standing.guest.machine.taken in
    let on = runs_serve limits [] (plan_of taken env) env base (path_at old.standing) old new (Ok event.Asks) lives (in_force limits.base taken env) (stands_at old.standing) (subst (λ (e : Event). RunsBy event.Emits (turn limits env) base old (Ok e) new) asks runs) in
    subst (λ (s : Standing). does None None s.guest.machine ≡ Wants) on.stands (asks_wants limits (plan_of taken env) on.now _ on.comes.1)
