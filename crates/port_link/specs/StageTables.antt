-- The stages of all connections, by their numbers.
use Rattle.std.specs.Prelude.{ℕ, List, slice_index_or}
use Rattle.port_link.specs.declared.place.Stage.{Stage}
use Rattle.port_link.specs.declared.place.Stage.TheVariants.{Unopened}

-- the stage of a connection
abbrev pub stage_in : List Stage → ℕ → Stage
stage_in stages conn = slice_index_or stages conn Unopened
