-- What gives of a piece make of a connection.
use Rattle.std.specs.Prelude.{◌≡◌, ℕ, ◌≤◌, Bool, true, List, [], ◌++◌, length, take, Option, None, Some, Result, Ok, Err, IfErr, OnOk, slice_set}
use Rattle.port_link.specs.Terms.{Prefix, Given, All, Gone, LinkFault, Memory, Gives, PortEntry}
use Rattle.port_link.specs.declared.place.PortLimits.{PortLimits}
use Rattle.port_link.specs.declared.place.Place.{Place}
use Rattle.port_link.specs.Served.{Served, gives_all, gives_gone, gives_part, AreCalls, served_after}
use Rattle.port_link.specs.Stages.{is_present, stage_behind}
use Rattle.port_link.specs.Standing.{Stands, IsWhole, stage_at, told_at}
use Rattle.port_link.specs.Steps.{WentOn}

-- gives of one piece were made to a connection that isn't closed, where no part of another went out last, and led here
pub record GaveTo (conn : ℕ) (old new : List PortEntry) (leads : Served → Served) : Type 0 where
  pub calls : List PortEntry
  pub grew : new ≡ old ++ calls
  pub are : (limits : PortLimits) (served : Served) → is_present (served.stages conn) ≡ true → served.part ≡ [] → AreCalls limits served calls
  pub lead : (served : Served) → served_after served calls ≡ leads served

abbrev pub Leads : ℕ → Option (List PortEntry) → Option (List PortEntry) → (Served → Served) → Type 0
Leads conn None None leads = Unit {0}
Leads conn None (Some new) leads = ⊥
Leads conn (Some old) None leads = ⊥
Leads conn (Some old) (Some new) leads = GaveTo conn old new leads

-- a piece was given, or some first bytes of it before its connection was gone; where memory ran out some first bytes of it, or none
abbrev pub GivesTo : ℕ → Option (List PortEntry) → Option (List PortEntry) → List ℕ → Result Given LinkFault → Type 0
GivesTo conn old new bytes (Ok All) = Leads conn old new (gives_all conn bytes)
GivesTo conn old new bytes (Ok (Gone count)) = (count ≤ length bytes) × Leads conn old new (gives_gone conn (take count bytes))
GivesTo conn old new bytes (Err Memory) = (front : List ℕ) × Prefix front bytes × Leads conn old new (gives_part conn front)
GivesTo conn old new bytes (Err fault) = ⊥

-- where a link stands behind a give
abbrev pub given_place : ℕ → Result Given LinkFault → Place → Place
given_place conn result place = record place { stages = slice_set place.stages conn (stage_behind (stage_at place conn) result) }

-- a piece was given to a connection of a link
pub record GivesPiece (limits : PortLimits) (conn : ℕ) (old new : Option (List PortEntry)) (connections : List Bool) (place later : Place) (bytes : List ℕ) (result : Result Given LinkFault) : Type 0 where
  pub place_is : later ≡ given_place conn result place
  pub stands : Stands new connections limits later
  pub given : Gives (told_at old place) (told_at new later) conn bytes result
  pub whole : OnOk result (IsWhole new)
  pub went : WentOn limits old new
  pub fault : IfErr result (λ fault. fault ≡ Memory)
