use Rattle.rx_io.proofs.Places.{place_extended}
use Rattle.rx_io.proofs.shelf.Shelf.add.Goals as goal

pub returns-in-Some-clause-held : goal.returns-in-Some-clause-held
returns-in-Some-clause-held c =
    (place_extended c.extend_from_slice.result c.args.self.now.files.items c.args.name.now c.in-Some.i c.index_mut.result.now c.extend_from_slice.new.self c.args.bytes.now
    c.in-Some.ensures.some c.index_mut.ensures.value c.extend_from_slice.ensures.items).0

pub returns-in-Some-clause-same : goal.returns-in-Some-clause-same
returns-in-Some-clause-same c =
    (place_extended c.extend_from_slice.result c.args.self.now.files.items c.args.name.now c.in-Some.i c.index_mut.result.now c.extend_from_slice.new.self c.args.bytes.now
    c.in-Some.ensures.some c.index_mut.ensures.value c.extend_from_slice.ensures.items).1
