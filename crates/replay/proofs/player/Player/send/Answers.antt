use Rattle.links.specs.declared.journal.Given.{Given}
use Rattle.links.specs.declared.journal.Given.TheVariants.{All, Gone}
use Rattle.replay.proofs.Terms.{Bool, List, ap, subst, sym, true, ℕ, ◌∙◌, Err, Ok, slice_set, Send, Gives, Seen, Answer, IsLastSend, DiffersBy, Never, IsBetween, IsEnd, has, stage_of}
use Rattle.replay.proofs.DifferLemmas.{fault_never}
use Rattle.replay.proofs.GivingLemmas.{sends_none, sends_whole, sends_cut, sends_broken}
use Rattle.replay.proofs.player.Player.send.Goals as goal

pub returns-then-has-clause-sends : goal.returns-then-has-clause-sends
returns-then-has-clause-sends g c image recording began sending =
    sends_none sending
    (sym c.has.ensures.value ∙ c.if-has.true)

pub returns-in-Ok-All-clause-sends : goal.returns-in-Ok-All-clause-sends
returns-in-Ok-All-clause-sends g c image recording began sending =
    let gives : Gives (g.K.Link.seen c.args.link.now).told (g.K.Link.seen c.give.new.link).told c.args.conn c.args.bytes.now (Ok All) =
    subst (λ (bytes : List ℕ). Gives (g.K.Link.seen c.args.link.now).told (g.K.Link.seen c.give.new.link).told c.args.conn bytes (Ok All)) c.as_slice.ensures
    (subst (λ (given : Given). Gives (g.K.Link.seen c.args.link.now).told (g.K.Link.seen c.give.new.link).told c.args.conn c.as_slice.result.now (Ok given)) c.in-Ok-All.field-0-is c.in-Ok-All.ensures.shows.told) in
    sends_whole sending
    (sym c.has.ensures.value ∙ c.if-has.false) gives (ap (λ (s : Seen). s.phases) c.in-Ok-All.ensures.shows.rest)

pub returns-in-Ok-Gone-clause-sends : goal.returns-in-Ok-Gone-clause-sends
returns-in-Ok-Gone-clause-sends g c image recording began sending =
    let gives : Gives (g.K.Link.seen c.args.link.now).told (g.K.Link.seen c.give.new.link).told c.args.conn c.args.bytes.now (Ok (Gone c.in-Ok-Gone.field-0-0)) =
    subst (λ (bytes : List ℕ). Gives (g.K.Link.seen c.args.link.now).told (g.K.Link.seen c.give.new.link).told c.args.conn bytes (Ok (Gone c.in-Ok-Gone.field-0-0))) c.as_slice.ensures
    (subst (λ (given : Given). Gives (g.K.Link.seen c.args.link.now).told (g.K.Link.seen c.give.new.link).told c.args.conn c.as_slice.result.now (Ok given)) c.in-Ok-Gone.field-0-is c.in-Ok-Gone.ensures.shows.told) in
    let done = sends_cut sending c.in-Ok-Gone.field-0-0 ((g.met.K.Link.sound c.args.link.now).below c.args.conn sending.here)
    (sym c.has.ensures.value ∙ c.if-has.false) gives.1 (ap (λ (s : Seen). s.phases) c.in-Ok-Gone.ensures.shows.rest) in
    subst (λ (flags : List Bool). IsBetween image recording began (g.K.Link.seen c.give.new.link) (record (stage_of c.args.self.now) { gone = flags }))
    (sym c.add.ensures) done

pub returns-in-Err-clause-sends : goal.returns-in-Err-clause-sends
returns-in-Err-clause-sends g c image recording began sending =
    let shows = c.in-Err.ensures.shows in
    let Last : List Send → Type 0 = IsLastSend began (g.K.Link.seen c.args.link.now).told (g.G.Giver.Gave c.args.link.now c.give.new.link) in
    subst (λ (end : Answer). IsEnd image recording began (g.K.Link.seen c.give.new.link) Last (stage_of c.args.self.now) end) (sym c.answer_to.ensures)
    (sends_broken sending c.in-Err.fault (g.G.Giver.Gave c.args.link.now c.give.new.link) (ap (λ (s : Seen). s.takes) shows.rest ∙ c.requires.sends.takes) shows.gives
    (sym c.has.ensures.value ∙ c.if-has.false)
    (subst (λ (bytes : List ℕ). Gives (g.K.Link.seen c.args.link.now).told (g.K.Link.seen c.give.new.link).told c.args.conn bytes (Err c.in-Err.fault)) c.as_slice.ensures shows.told)
    (subst (λ (bytes : List ℕ). g.G.Giver.Gave c.args.link.now c.give.new.link c.args.conn bytes) c.as_slice.ensures c.in-Err.ensures.gave))

pub returns-in-Err-clause-differs : goal.returns-in-Err-clause-differs
returns-in-Err-clause-differs g c =
    subst (λ (end : Answer). DiffersBy Never c.args.self.now.difference c.args.self.now.difference (Err end)) (sym c.answer_to.ensures)
    (fault_never Never c.args.self.now.difference c.in-Err.fault)
