use Rattle.std.proofs.Common.{rules}
use Rattle.rx_io.proofs.Places.{place_holds}
use Rattle.rx_io.proofs.shelf.Shelf.bytes_of.Goals as goal

pub returns : goal.returns
returns c = rw (place_holds c.args.self.now.files.items c.args.name.now c.in_ok-i.i c.index.result.now c.in_ok-i.ensures.some c.index.ensures) (search rules)
