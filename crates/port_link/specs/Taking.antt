-- What a link looks at before it takes the next event.
use Rattle.std.specs.Prelude.{◌≡◌, ℕ, ◌+◌, nat_lt, ◌==◌, ◌&&◌, ◌||◌, not, Bool, false}
use Rattle.port_link.specs.Terms.{Awaited}
use Rattle.port_link.specs.declared.place.PortLimits.{PortLimits}
use Rattle.port_link.specs.declared.place.Place.{Place}
use Rattle.port_link.specs.Stages.{is_broken}
use Rattle.port_link.specs.Standing.{stage_at}

-- whether a client may be accepted
abbrev pub may_accept : PortLimits → Place → Bool
may_accept limits place = not place.stopped && (nat_lt place.accepted limits.conns && nat_lt place.accepted (place.closed + limits.at_once))

-- whether all connections that were accepted are closed, and no more are to come
abbrev pub is_over : PortLimits → Place → Bool
is_over limits place = (place.closed == place.accepted) && ((place.accepted == limits.conns) || place.stopped)

-- what is awaited besides the open connections
abbrev pub awaited_at : PortLimits → Place → Awaited
awaited_at limits place = record { client = may_accept limits place; stop = limits.stops && not place.stopped }

-- of each connection to which a give failed the close was answered
abbrev pub NoneBroken : Place → Type 0
NoneBroken place = (conn : ℕ) → is_broken (stage_at place conn) ≡ false
