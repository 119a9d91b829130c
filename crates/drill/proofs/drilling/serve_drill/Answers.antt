use Rattle.drill.proofs.Terms.{ap, ◌-◌, ◌∙◌, list_any, is_end, are_in_order, none_opened}
use Rattle.drill.proofs.GeneratorLemmas.{drill_goes_on, drill_in_order}
use Rattle.drill.proofs.DrillLemmas.{at_image, ready}
use Rattle.drill.proofs.drilling.serve_drill.Goals as goal

pub serve_events-requires-clause-begun : goal.serve_events-requires-clause-begun
serve_events-requires-clause-begun g c = ready c.args.image.now _ _ c.in-Ok-begin.session c.in-Ok-begin.ensures

pub serve_events-requires-clause-no_end : goal.serve_events-requires-clause-no_end
serve_events-requires-clause-no_end g c = ap (list_any is_end) c.in-Ok.ensures ∙ drill_goes_on c.args.seed c.args.count

pub returns-clause-sums_up : goal.returns-clause-sums_up
returns-clause-sums_up g c =
    at_image c.serve_events.result c.in-Ok.events.items _ c.args.image.now _ _ c.in-Ok-begin.session (c.serve_events.new.steps - c.args.steps.now) c.in-Ok.ensures c.in-Ok-begin.ensures c.serve_events.ensures.sums_up

pub serve_events-requires-clause-ordered : goal.serve_events-requires-clause-ordered
serve_events-requires-clause-ordered g c = ap (are_in_order none_opened) c.in-Ok.ensures ∙ drill_in_order c.args.seed c.args.count
