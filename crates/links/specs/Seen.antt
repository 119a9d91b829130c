-- What a link shows of itself at a moment, and what its calls make of that.
use Rattle.std.specs.Prelude.{◌≡◌, ℕ, ◌<◌, List, Bool, true, Option, None, Result, is_ok}
use Rattle.links.specs.Terms.{Given, LinkEvent, LinkFault}
use Rattle.links.specs.Links.{Told, Phases, IsFresh, Open, Coming, Handed, Counts, Nexts, Enters, GoesBy, StillComes, StaysTold, HasTakeCause, GivesAtClose, Gives, TellsHanded, HasGiveCause}

-- What a link shows: the events taken, the pieces given and the journal of both, each if it tells it; which connections were opened and
-- closed; what its grammar has behind the events taken, and the piece that it was handed last, if it tells that; the connections to which it
-- gives; whether events may be taken, and pieces given, since no call has failed; and how often one has. No count falls.
pub record Seen : Type 0 where
  pub told : Told
  pub phases : Phases
  pub coming : Option Coming
  pub handed : Option Handed
  pub gives_to : ℕ → Bool
  pub takes : Bool
  pub gives : Bool
  pub counts : Counts

-- no call has failed, and no connection was gone
abbrev pub no_faults : Counts
no_faults = record { takes = 0; gives = 0; gones = 0 }

-- what a link shows of which no call was made yet
pub record IsFreshLink (seen : Seen) : Type 0 where
  pub phases : IsFresh seen.phases
  pub handed : seen.handed ≡ None
  pub takes : seen.takes ≡ true
  pub gives : seen.gives ≡ true

-- what holds of it at each moment: a link gives to each connection that is open, and each of these is below 4096
pub record IsSound (seen : Seen) : Type 0 where
  pub gives_open : (conn : ℕ) → seen.phases conn ≡ Open → seen.gives_to conn ≡ true
  pub below : (conn : ℕ) → seen.phases conn ≡ Open → conn < 4096

-- The next event was taken, in order and as the grammar has it; or none was, and none is taken any more. A link still gives to a connection
-- whose close was just taken.
pub record NextShows (old new : Seen) (result : Result LinkEvent LinkFault) : Type 0 where
  pub told : Nexts old.told new.told result
  pub order : Enters old.phases new.phases result
  pub grammar : GoesBy old.coming result
  pub last : StillComes new.coming result
  pub coming : StaysTold old.coming new.coming result
  pub cause : HasTakeCause old.counts new.counts result
  pub closing : GivesAtClose new.gives_to result
  pub handed : new.handed ≡ old.handed
  pub takes : new.takes ≡ is_ok result
  pub gives : new.gives ≡ old.gives

-- what was seen, but for what giving changes
abbrev pub but_given : Seen → Seen → Seen
but_given old new = record old { told = new.told; handed = new.handed; gives = new.gives; counts = new.counts }

-- A piece was given: all of it, or some first bytes of it before the connection was gone. After a fault some first bytes went out, or none, and
-- no piece is given any more. Nothing else changed.
pub record GiveShows (old new : Seen) (conn : ℕ) (bytes : List ℕ) (result : Result Given LinkFault) : Type 0 where
  pub told : Gives old.told new.told conn bytes result
  pub handed : TellsHanded new.told new.handed conn bytes
  pub cause : HasGiveCause old.counts new.counts result
  pub gives : new.gives ≡ is_ok result
  pub rest : new ≡ but_given old new
