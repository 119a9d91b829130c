use Rattle.drill.proofs.LinkLemmas.{tame_next}
use Rattle.drill.proofs.drill_link.DrillLinkLink.next.Goals as goal

pub invariant_of-self : goal.invariant_of-self
invariant_of-self c = record { tame = tame_next c.args.self.now.link c.next.new.self c.next.result c.args.self.now.tame c.next.ensures.plays c.next.ensures.shows.order }
