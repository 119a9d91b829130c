use Rattle.rx_engine.proofs.Terms.{ap, arith, subst, sym, ◌∙◌, ◌≡◌, Ledger, CanGive, between_under, counted_begun, served_begun, starts_between, starts_giving, starts_trimmed, same_rules, saved_frame, AreInRange, rules_by, SessionState, told_since}
use Rattle.rx_engine.proofs.session.Session.serve_watched.Goals as goal

pub serve_on-requires : goal.serve_on-requires
serve_on-requires g c =
    let begun = c.requires.begun.begun in
    let keeps = c.save_start.ensures.keeps in
    record {
      image = c.requires.begun.image;
      began = told_since (g.K.Link.seen c.args.link.now).told (g.N.Notes.shown c.args.notes.now).told (g.N.Notes.shown c.args.notes.now).told (g.W.Watch.tables c.args.watch.now) (g.W.Watch.tables c.args.watch.now) 0;
      is = between_under (sym (same_rules g.R.AccessRule.rule (saved_frame {old = c.args.self.now} {new = c.save_start.new.self} keeps.same keeps.rule)))
          (starts_between g.R.AccessRule.rule begun c.requires.may.fresh (λ any. c.save_start.ensures.rings any c.requires.begun.image begun) keeps.same keeps.live c.save_start.ensures.first);
      may = record {
        takes = c.requires.may.takes;
        gives = subst (λ (ledger : Ledger). CanGive (g.K.Link.seen c.args.link.now) ledger) (sym (ap (λ (s : SessionState _). s.replies) keeps.same)) (starts_giving begun c.requires.may.gives);
      };
      trimmed = starts_trimmed {rules = rules_by g.R.AccessRule.rule c.args.self.now} begun (c.save_start.ensures.rings _ c.requires.begun.image begun) keeps.same;
      in_range = subst AreInRange (sym (ap (λ (s : SessionState _). s.options) keeps.same)) begun.in_range;
    }

pub returns-clause-served : goal.returns-clause-served
returns-clause-served g c =
    let begun = c.requires.begun.begun in
    let keeps = c.save_start.ensures.keeps in
    let none : c.save_start.new.self.steps ≡ 0 = ap (λ (s : SessionState _). s.steps) keeps.same ∙ begun.no_steps in
    counted_begun (g.W.Watch.ran c.args.watch.now) c.serve_on.new.steps (g.W.Watch.ran c.serve_on.new.watch) c.args.steps.now none
    (served_begun g.R.AccessRule.rule begun (saved_frame {old = c.args.self.now} {new = c.save_start.new.self} keeps.same keeps.rule) keeps.keeping
    (λ image is. starts_between g.R.AccessRule.rule is c.requires.may.fresh (λ any. c.save_start.ensures.rings any image is) keeps.same keeps.live c.save_start.ensures.first) c.serve_on.ensures.served)

pub returns-clause-counted_at_least : goal.returns-clause-counted_at_least
returns-clause-counted_at_least g c =
    let none : c.save_start.new.self.steps ≡ 0 = ap (λ (s : SessionState _). s.steps) c.save_start.ensures.keeps.same ∙ c.requires.begun.begun.no_steps in
    omega (arith, none, c.serve_on.ensures.counted_at_least)
