use Rattle.rx_engine.proofs.Terms.{ap, subst, sym, ◌∙◌, env_at, plan_of, starts_trimmed, IsTrimmed, keeping_of, rules_by, SessionState, begins_on, before_begun}
use Rattle.rx_engine.proofs.session.Session.begin_following.Goals as goal

pub returns-clause-follows : goal.returns-clause-follows
returns-clause-follows g c image seen shown missing begun fresh lacks =
    begins_on g.R.AccessRule.rule {mid = c.save_start.new.self} begun fresh (λ any. c.save_start.ensures.rings any image begun) c.save_start.ensures.keeps.same c.save_start.ensures.keeps.live c.save_start.ensures.keeps.rule c.save_start.ensures.first lacks
    (λ i. record (c.self.view_is i) { env = c.env_planned-self-inside.result; until = 1; before = c.of-self-inside.result.before; hold = 4294967295 })
    (c.env_planned-self-inside.ensures ∙ ap (λ (s : SessionState _). env_at s.options.base (plan_of s.options.keep c.args.handed.now.episodes.now) 0) (c.self.view_is ∙ c.save_start.ensures.keeps.same))
    (c.of-self-inside.ensures ∙ (λ i. before_begun (c.self.view_is i).cpu.slots.live c.env_planned-self-inside.result))

pub returns-clause-keeps : goal.returns-clause-keeps
returns-clause-keeps g c =
    let keeps = c.save_start.ensures.keeps in
    (ap (λ (s : SessionState _). s.options) c.self.view_is ∙ ap (λ (s : SessionState _). s.options) keeps.same, ap (λ (s : SessionState _). s.cpu.rule) c.self.view_is ∙ keeps.rule, ap (λ (s : SessionState _). s.replies) c.self.view_is ∙ ap (λ (s : SessionState _). s.replies) keeps.same, ap (λ (s : SessionState _). keeping_of s) c.self.view_is ∙ keeps.keeping, ap (λ (s : SessionState _). s.cpu.slots.live) c.self.view_is ∙ keeps.live)

pub returns-clause-trimmed : goal.returns-clause-trimmed
returns-clause-trimmed g c =
    let trimmed = subst (λ (s : SessionState _). IsTrimmed s) (sym c.self.view_is)
    (starts_trimmed {rules = rules_by g.R.AccessRule.rule c.args.self.now} c.requires.begun (c.save_start.ensures.rings _ c.requires.image c.requires.begun) c.save_start.ensures.keeps.same) in
    record { items = trimmed.items; recorded = trimmed.recorded; sends = trimmed.sends }
