use Rattle.std.proofs.Common.{rules}
use Rattle.rx_io.proofs.Places.{place_push}
use Rattle.rx_io.proofs.shelf.Shelf.push.Goals as goal

pub returns-clause-held : goal.returns-clause-held
returns-clause-held c =
    rw c.in_ok-push.ensures.items
    (rw (← c.in_ok-bytes.ensures.items_if_clones_equal) (place_push c.args.self.now.files.items c.args.name.now (c.in_ok-name.name, c.in_ok-bytes.bytes) c.requires (search rules)))
