use Rattle.links.specs.declared.journal.Given.{Given}
use Rattle.links.specs.declared.journal.Given.TheVariants.{All, Gone}
use Rattle.standby.proofs.Terms.{ap, subst, sym, true, ◌∙◌, Ok, slice_set, Gives, Seen, Answer, has, stage_of, HasCutOff, HasPassed, one_send}
use Rattle.standby.proofs.GiveLemmas.{passes_broken, passes_cut, passes_none, passes_whole}
use Rattle.standby.proofs.follower.Follower.pass.Goals as goal

pub returns-then-has-clause-passes : goal.returns-then-has-clause-passes
returns-then-has-clause-passes g c recording began entries stamp had =
    passes_none had stamp (sym c.has.ensures.value ∙ c.if-has.true)

pub returns-in-Ok-All-clause-passes : goal.returns-in-Ok-All-clause-passes
returns-in-Ok-All-clause-passes g c recording began entries stamp had =
    let gives : Gives (g.K.Link.seen c.args.link.now).told (g.K.Link.seen c.give.new.self).told c.args.conn c.args.bytes.now (Ok All) =
    subst (λ (given : Given). Gives (g.K.Link.seen c.args.link.now).told (g.K.Link.seen c.give.new.self).told c.args.conn c.args.bytes.now (Ok given)) c.in-Ok-All.field-0-is c.in-Ok-All.ensures.shows.told in
    passes_whole had stamp (sym c.has.ensures.value ∙ c.if-has.false) gives (ap (λ (s : Seen). s.phases) c.in-Ok-All.ensures.shows.rest)

pub returns-in-Ok-Gone-clause-passes : goal.returns-in-Ok-Gone-clause-passes
returns-in-Ok-Gone-clause-passes g c recording began entries stamp had =
    let gives : Gives (g.K.Link.seen c.args.link.now).told (g.K.Link.seen c.give.new.self).told c.args.conn c.args.bytes.now (Ok (Gone c.in-Ok-Gone.field-0-0)) =
    subst (λ (given : Given). Gives (g.K.Link.seen c.args.link.now).told (g.K.Link.seen c.give.new.self).told c.args.conn c.args.bytes.now (Ok given)) c.in-Ok-Gone.field-0-is c.in-Ok-Gone.ensures.shows.told in
    let done = passes_cut had stamp c.in-Ok-Gone.field-0-0 ((g.met.K.Link.sound c.args.link.now).below c.args.conn c.requires.may.here)
    (sym c.has.ensures.value ∙ c.if-has.false) gives.1 (ap (λ (s : Seen). s.phases) c.in-Ok-Gone.ensures.shows.rest) in
    subst (λ flags. HasPassed recording began (g.K.Link.seen c.give.new.self) entries (one_send c.args.conn c.args.bytes.now stamp) (record (stage_of c.args.self.now.player) { gone = flags }))
    (sym c.add.ensures) done

pub returns-in-Err-clause-passes : goal.returns-in-Err-clause-passes
returns-in-Err-clause-passes g c recording began entries stamp had =
    let shows = c.in-Err.ensures.shows in
    subst (λ (end : Answer). HasCutOff recording began (g.K.Link.seen c.give.new.self) entries (one_send c.args.conn c.args.bytes.now stamp) end) (sym c.answer_to.ensures)
    (passes_broken had stamp c.in-Err.fault (ap (λ (s : Seen). s.takes) shows.rest ∙ c.requires.may.takes)
    (sym c.has.ensures.value ∙ c.if-has.false) shows.told)
