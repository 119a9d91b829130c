-- What a link over a port has and shows.
use Rattle.std.specs.Prelude.{◌≡◌, ℕ, List, [], Option, None, Some}
use Rattle.port_link.specs.Terms.{handed_by, told_by, ComesUntold, Told, Seen, Ghosts, PortEntry}
use Rattle.port_link.specs.declared.place.PortLimits.{PortLimits}
use Rattle.port_link.specs.declared.place.Place.{Place}
use Rattle.port_link.specs.Standing.{phases_at, gives_at, told_at}
use Rattle.port_link.specs.Steps.{WentOn}
use Rattle.port_link.specs.declared.port_link.PortLink.{PortLink}

-- nothing was taken or given yet
abbrev pub told_nothing : Option (List PortEntry) → Told
told_nothing None = record { events = None; pieces = None; journal = None }
told_nothing (Some calls) = told_by []

module _ {C : Type 0} {g : Ghosts C} where
  -- what it accepts from, how many connections it has, and where it stands
  abbrev pub port_of : PortLink C g → C
  port_of link = link.port

  abbrev pub limits_of : PortLink C g → PortLimits
  limits_of link = link.limits

  abbrev pub place_of : PortLink C g → Place
  place_of link = link.place

  -- what it shows, by what its port tells and counts: it refuses nothing, and tells no event before it is answered
  abbrev pub seen_of : (C → Option (List PortEntry)) → (C → ℕ) → PortLink C g → Seen
  seen_of told faults link = record {
    told = told_at (told link.port) link.place;
    phases = phases_at link.place;
    coming = Some ComesUntold;
    handed = handed_by link.handed;
    gives_to = gives_at link.place;
    takes = link.takes;
    gives = link.gives;
    counts = record { takes = faults link.port; gives = 0; gones = link.gones };
  }

-- a link goes on over the same port, by the calls of a link
pub record PortWent {C F : Type 0} {g : Ghosts C} (fixed : C → F) (told : C → Option (List PortEntry)) (old new : PortLink C g) : Type 0 where
  pub port : fixed new.port ≡ fixed old.port
  pub limits : new.limits ≡ old.limits
  pub went : WentOn old.limits (told old.port) (told new.port)
