use Rattle.rx_engine.proofs.Terms.{ap, arith, ◌+◌, ◌∙◌, env_at, Standing, Rules, plan_of, SessionState, took_on, waits_on, before_took, marked, nothing_told}
use Rattle.rx_engine.proofs.session.Session.take_followed.Goals as goal

pub take-requires : goal.take-requires
take-requires g c =
    let w = c.requires.is in
    let items = ap (λ (r : Rules). r.bounds.max_items) w.asking.stands.here_is in
    record {
      waits = record {
        seen = record c.requires.seen { told = nothing_told };
        waits = record { image = c.requires.image; began = marked c.requires.noted_before c.requires.noted; is = waits_on c.requires.seen w.asking (omega (arith, items, c.requires.in_range.few_items)) };
      };
      handled = c.requires.handled;
      there = c.requires.there;
    }

pub overflow_add-self : goal.overflow_add-self
overflow_add-self g c =
    let w = c.requires.is in
    let items = ap (λ (r : Rules). r.bounds.max_items) w.asking.stands.here_is in
    let going = c.take.ensures.going c.requires.image (marked c.requires.noted_before c.requires.noted) (record c.requires.seen { told = nothing_told }) (waits_on c.requires.seen w.asking (omega (arith, items, c.requires.in_range.few_items))) in
    omega (arith, going.goes.few, going.answers.taken, c.requires.in_range.few_items, ap (λ (s : SessionState _). s.taken) c.self.view_is)

pub returns-clause-follows : goal.returns-clause-follows
returns-clause-follows g c taken image before seen noted_before noted missing w =
    let s = w.asking.stands in
    let items = ap (λ (r : Rules). r.bounds.max_items) s.here_is in
    let keeps = c.take.ensures.keeps in
    took_on g.R.AccessRule.rule {mid = c.take.new.self} s.alone w (omega (arith, items, c.requires.in_range.few_items)) c.requires.there (λ began one waits. c.take.ensures.going image began one waits)
    (omega (arith, keeps.marked.steps, keeps.one, s.follows.stands.answers.steps, ap (λ (x : Standing). x.steps) s.follows.stands.goes.guest))
    (record { options = keeps.frame.options; rule = keeps.frame.rule; hold = keeps.frame.hold }) keeps.frame.before
    (λ i. record (c.self.view_is i) { env = c.env_planned-self-inside.result; until = c.self.inside.taken + 1; before = c.of-self-inside.result.before })
    (c.env_planned-self-inside.ensures ∙ ap (λ (x : SessionState _). env_at x.options.base (plan_of x.options.keep c.args.handed.now.episodes.now) x.taken) c.self.view_is)
    (ap (λ (x : SessionState _). x.taken + 1) c.self.view_is)
    (c.of-self-inside.ensures ∙ (λ i. before_took (c.self.view_is i).before (c.self.view_is i).cpu.slots.live c.env_planned-self-inside.result))
