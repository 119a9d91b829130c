use Rattle.std.specs.List.{last_or}
use Rattle.session_following.specs.Placed.{EndsAfter, IsFollowedBy}
use Rattle.rx_engine.proofs.Terms.{None, ap, subst, sym, ℕ, ◌∙◌, plan_of, IsInForce, SessionState, released_followed, released_on, released_past, before_released}
use Rattle.rx_engine.proofs.session.Session.release.Goals as goal

pub in_force-env-requires-clause-behind : goal.in_force-env-requires-clause-behind
in_force-env-requires-clause-behind g c = subst (λ (n : ℕ). IsFollowedBy n (last_or None c.args.handed.now.episodes.now)) (sym (ap (λ (s : SessionState _). s.taken) c.self.view_is)) (released_followed c.requires.is c.requires.can.adopted)

pub returns-clause-released : goal.returns-clause-released
returns-clause-released g c taken image before seen noted_before noted missing r =
    released_on g.R.AccessRule.rule r.stands.alone r.stands r.stand r.reached
    (subst (λ (n : ℕ). IsInForce c.args.self.now.options.base (plan_of c.args.self.now.options.keep c.args.handed.now.episodes.now) n c.in_force-env.result.0 c.in_force-env.result.1) r.stands.follows.stands.answers.taken
    (subst (λ (s : SessionState _). IsInForce s.options.base (plan_of s.options.keep c.args.handed.now.episodes.now) s.taken c.in_force-env.result.0 c.in_force-env.result.1) c.self.view_is c.in_force-env.ensures.in_force))
    (released_past g.R.AccessRule.rule r (subst (λ (s : SessionState _). EndsAfter s.options.keep (last_or None c.args.handed.now.episodes.now) c.in_force-env.result.1) c.self.view_is c.in_force-env.ensures.until))
    ((λ i. record (c.self.view_is i) { env = c.in_force-env.result.0; until = c.in_force-env.result.1; before = c.of-self-inside.result.before; hold = (c.self.view_is i).options.hold })
    ∙ (λ i. record c.args.self.now { env = c.in_force-env.result.0; until = c.in_force-env.result.1; before = c.of-self-inside.result.before; hold = sym r.stands.hold_is i }))
    (c.of-self-inside.ensures ∙ (λ i. before_released (c.self.view_is i).before (plan_of (c.self.view_is i).options.keep c.args.handed.now.episodes.now)))
