-- The stages of a connection: what was answered of it.
use Rattle.std.specs.Prelude.{ℕ, Bool, true, false, List, Option, position, Result, Ok, Err}
use Rattle.port_link.specs.Terms.{one_more, Given, All, Gone, LinkFault, Phase}
use Rattle.port_link.specs.declared.place.Stage.{Stage}
use Rattle.port_link.specs.declared.place.Stage.TheVariants.{Broken, Closed, Dropped, Ended, Open, Unopened}
use Rattle.links.specs.Links as links

-- whether it is open at the port
abbrev pub is_present : Stage → Bool
is_present Unopened = false
is_present Open = true
is_present Ended = true
is_present Broken = true
is_present Dropped = false
is_present Closed = false

-- whether its close was answered last
abbrev pub is_done : Stage → Bool
is_done Unopened = false
is_done Open = false
is_done Ended = true
is_done Broken = false
is_done Dropped = true
is_done Closed = false

-- whether a piece may be given to it still: it isn't closed, or its close was answered last
abbrev pub is_given : Stage → Bool
is_given Unopened = false
is_given Open = true
is_given Ended = true
is_given Broken = true
is_given Dropped = true
is_given Closed = false

-- whether a give to it failed, and its close wasn't answered
abbrev pub is_broken : Stage → Bool
is_broken Unopened = false
is_broken Open = false
is_broken Ended = false
is_broken Broken = true
is_broken Dropped = false
is_broken Closed = false

-- the first connection of that kind
abbrev pub first_broken : List Stage → Option ℕ
first_broken stages = position is_broken stages

-- the stage that calls on the port lead to: one that is closed is closed
abbrev pub shown : Stage → Stage
shown Unopened = Unopened
shown Open = Open
shown Ended = Ended
shown Broken = Broken
shown Dropped = Closed
shown Closed = Closed

-- a connection of which a give failed is broken, unless the end of its input was found before
abbrev pub broken : Stage → Stage
broken Unopened = Unopened
broken Open = Broken
broken Ended = Ended
broken Broken = Broken
broken Dropped = Dropped
broken Closed = Closed

-- the stage behind a give
abbrev pub stage_behind : Stage → Result Given LinkFault → Stage
stage_behind stage (Ok All) = stage
stage_behind stage (Ok (Gone count)) = broken stage
stage_behind stage (Err fault) = stage

-- one more, where a connection was gone
abbrev pub gones_behind : ℕ → Result Given LinkFault → ℕ
gones_behind gones (Ok All) = gones
gones_behind gones (Ok (Gone count)) = one_more gones
gones_behind gones (Err fault) = gones

-- the phase of a connection
abbrev pub phase_of : Stage → Phase
phase_of Unopened = links.Unopened
phase_of Open = links.Open
phase_of Ended = links.Closed
phase_of Broken = links.Open
phase_of Dropped = links.Closed
phase_of Closed = links.Closed
