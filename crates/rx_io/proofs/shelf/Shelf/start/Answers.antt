use Rattle.rx_io.proofs.Places.{place_put}
use Rattle.rx_io.proofs.shelf.Shelf.start.Goals as goal

pub returns-in-Some-clause-held : goal.returns-in-Some-clause-held
returns-in-Some-clause-held c = place_put c.args.self.now.files.items c.args.name.now c.in-Some.i c.index_mut.result.now c.clear.new.self _ c.in-Some.ensures.some c.index_mut.ensures.value c.clear.ensures.items
