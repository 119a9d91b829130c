-- The command `drill`: a generated session in memory, of which five lines are written.
use Rattle.std.specs.Prelude.{◌≡◌, ◌-◌, ◌≤◌}
use Rattle.rx_serve.specs.Terms.{DrillEnds, DrillValue}
use Rattle.rx_serve.specs.declared.ending.End.{End}
use Rattle.rx_serve.specs.Ended.{HasNoSession}
use Rattle.rx_serve.specs.Outside.{Outside}

-- What `drill` leaves: a session of guest keys and the clients of a generator, held in memory, and on the output what sums it up. No file was called, and nothing was
-- read of the input.
pub record DrillLeaves (value : DrillValue) (old new : Outside) (end : End) : Type 0 where
  pub counted : old.counter ≤ new.counter
  pub drilled : DrillEnds value.seed value.count (new.counter - old.counter) old.output new.output end.answer
  pub untouched : new ≡ record old { output = new.output; counter = new.counter }
  pub nothing : HasNoSession end
