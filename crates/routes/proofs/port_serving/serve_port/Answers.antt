use Rattle.port_link.specs.PortLaws.{port_stands}
use Rattle.routes.proofs.Terms.{refl, rules, subst, sym, ◌∙◌, IsJustBound, Answer, HasAnswerCause, port_counts, keeping_for, rules_by}
use Rattle.routes.proofs.ServeLemmas.{left_recorded}
use Rattle.session_history.proofs.PortCauses.{no_refusal, no_write_fault, port_cause}
use Rattle.port_link.specs.PortLinks.{seen_of, told_nothing}
use Rattle.routes.proofs.PortLemmas.{serves}
use Rattle.routes.proofs.port_serving.serve_port.Goals as goal

pub returns-clause-served : goal.returns-clause-served
returns-clause-served g c =
    let made = c.make-link.ensures in
    let went = c.serve_told.ensures.outside.0 in
    let has = c.serve_told.ensures.served in record {
      why = has.why;
      is = search (rules, has.is);
      served =
          λ image begun.
          let recovered = has.served image (search (rules, begun)) in
          search (
            rules,
            serves c.args.limits (rules_by g.R.AccessRule.rule c.args.session.now) (keeping_for c.args.session.now.options) image
                (seen_of (λ s. g.P.Port.told s.now) (λ s. g.P.Port.faults s.now) c.make-link.result) (seen_of (λ s. g.P.Port.told s.now) (λ s. g.P.Port.faults s.now) c.serve_told.new.link)
                begun.nothing_came
                (subst IsJustBound (λ i. g.P.Port.told ((sym made.port) i).now) c.requires.bound)
                (search (rules, made.limits)) went.limits went.went (port_stands c.serve_told.new.link)
                (made.told ∙ (λ i. told_nothing (g.P.Port.told ((sym made.port) i).now))) refl refl
                recovered.0.recovered
                (left_recorded (rules_by g.R.AccessRule.rule c.args.session.now) image (g.N.Notes.shown c.args.notes.now).told (g.N.Notes.shown c.serve_told.new.notes).told recovered.0.recovered.telling c.serve_told.new.session has.why has.keeping recovered.1),
          );
      notes = search (rules, has.notes);
    }

pub returns-clause-never : goal.returns-clause-never
returns-clause-never g c =
    let has = c.serve_told.ensures.served in
    let ended = (has.served c.requires.begun.image c.requires.begun.begun).0.recovered.is.is.ended in record {
      never_refused = λ kind offset is. no_refusal has.why kind offset ended (sym has.is ∙ is);
      never_write_fault = λ is. no_write_fault refl refl has.link.cause (sym has.is ∙ is);
    }

pub returns-clause-cause : goal.returns-clause-cause
returns-clause-cause g c =
    let cause : HasAnswerCause (port_counts (g.P.Port.faults c.make-link.result.port.now)) (port_counts (g.P.Port.faults c.serve_told.new.link.port.now)) c.serve_told.result =
    subst (λ (a : Answer). HasAnswerCause (port_counts (g.P.Port.faults c.make-link.result.port.now)) (port_counts (g.P.Port.faults c.serve_told.new.link.port.now)) a)
    (sym c.serve_told.ensures.served.is) (port_cause refl refl c.serve_told.ensures.served.link.cause) in
    search (rules, cause)

pub returns-clause-counted_at_least : goal.returns-clause-counted_at_least
returns-clause-counted_at_least g c = c.serve_told.ensures.counted_at_least
