use Rattle.std.proofs.Common.{rules}
use Rattle.rx_io.proofs.Places.{place_made, none_more}
use Rattle.rx_io.proofs.shelf.Shelf.place_of.Goals as goal

pub returns-then-eq-clause-some : goal.returns-then-eq-clause-some
returns-then-eq-clause-some c = place_made _ _ _ c.file-item.result (search rules) (search rules) (search rules)

pub loop-i-preserved : goal.loop-i-preserved
loop-i-preserved c = none_more c.args.self.now.files.items c.args.name.now c.loop-i.i c.file-item.result (search rules) (search rules) (search rules)
