use Rattle.routes.proofs.Terms.{None, arith, refl, rules, sym, ℕ, ◌+◌, ◌∙◌, ◌≡◌, handed_by, told_nothing, intake_of, output_of, ComparesConverted, HasConvertCause}
use Rattle.routes.proofs.TrunkLemmas.{fills}
use Rattle.routes.proofs.ConvertLemmas.{converts_by, no_write_fault, read_fault_is}
use Rattle.routes.proofs.converting.convert_trunk.Goals as goal

pub returns-clause-converted : goal.returns-clause-converted
returns-clause-converted g c =
    let filled = c.fill_by-filled.ensures.filled in
    let went = c.fill_by-filled.ensures.went in
    let made = c.make-link.ensures in
    let told_at_first = made.told ∙ (λ i. told_nothing (g.S.Source.told ((sym made.fresh.source_is) i).now) None) in
    let converts : (counted : ℕ) → c.fill_by-filled.new.steps ≡ c.args.steps.now + counted
    → ComparesConverted c.args.image.now c.args.recorded.now (g.S.Source.told c.make-link.result.source.now) (g.S.Source.told c.fill_by-filled.new.link.source.now) c.outcome.result c.fill_by-filled.result.difference counted =
    λ counted count.
    let all = fills c.args.image.now c.args.recorded.now (intake_of (λ s. g.S.Source.told s.now) c.make-link.result) (intake_of (λ s. g.S.Source.told s.now) c.fill_by-filled.new.link)
    (output_of (λ s. None) c.make-link.result) (output_of (λ s. None) c.fill_by-filled.new.link) (handed_by c.make-link.result.handed) (handed_by c.fill_by-filled.new.link.handed) _ _ c.fill_by-filled.result.answer
    c.fill_by-filled.result.difference c.fill_by-filled.result.choices c.args.steps.now c.fill_by-filled.new.steps counted made.shows.phases made.fresh.took made.fresh.wrote made.shows.takes made.shows.gives
    (g.met.S.Source.countable c.fill_by-filled.new.link.source.now) tt told_at_first went.taken went.given c.fill_by-filled.ensures.link.leaves
    (record { replayed = filled.by.replayed; given = filled.by.given; last = λ no. tt }) filled.differs filled.choices_are count in
    converts_by c.args.image.now c.args.recorded.now (g.S.Source.told c.make-link.result.source.now) (g.S.Source.told c.fill_by-filled.new.link.source.now) counted c.fill_by-filled.result.answer c.fill_by-filled.result.difference c.fill_by-filled.result.choices
    c.outcome.result all.0 all.1 (λ is. no_write_fault refl (c.fill_by-filled.ensures.link.cause.write_fault is)) c.outcome.ensures in
    search (rules, converts)

pub returns-clause-counted_more : goal.returns-clause-counted_more
returns-clause-counted_more g c = omega (arith, c.fill_by-filled.ensures.filled.by.replayed.counted)

pub returns-clause-cause : goal.returns-clause-cause
returns-clause-cause g c =
    let link = c.fill_by-filled.ensures.link.cause in
    let cause : HasConvertCause (g.S.Source.faults c.make-link.result.source.now) (g.S.Source.faults c.fill_by-filled.new.link.source.now) c.outcome.result =
    (link.takes, λ is. link.read_fault (read_fault_is c.args.recorded.now c.fill_by-filled.result.answer c.fill_by-filled.result.choices c.outcome.result c.outcome.ensures is)) in
    search (rules, cause)
