use Rattle.std.proofs.Common.{None, take, ◌≡◌}
use Rattle.rx_io.specs.Shelves.{found}
use Rattle.rx_io.proofs.shelf.Shelf.place_of.Given as goal

abbrev pub invariant-loop-i : goal.invariant-loop-i
invariant-loop-i l = found (take l.i l.self.files.items) l.name ≡ None
