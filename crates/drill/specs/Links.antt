-- The link of a drill: a link in memory that plays a list of events, keeps its journal, and never fails.
use Rattle.std.specs.Prelude.{◌≡◌, ◌≤◌, ◌&&◌, Bool, true, false, List, [], ◌∷◌, length, take, drop}
use Rattle.links.specs.Seen.{Seen, no_faults}
use Rattle.drill.specs.Terms.{list_any, LinkEvent, MemoryLink, is_in_order, Phases, Piece, Unopened, events_in, phases_after, pieces_in, link_journal, link_phases, link_script}

-- no call of it failed, and no connection was gone
abbrev pub quiet : Seen → Seen
quiet seen = record seen { counts = no_faults }

-- whether events are each in order for their connections, from these phases on
abbrev pub are_in_order : Phases → List LinkEvent → Bool
are_in_order phases [] = true
are_in_order phases (event ∷ events) = is_in_order phases event && are_in_order (phases_after event phases) events

-- no connection was opened
abbrev pub none_opened : Phases
none_opened conn = Unopened

-- A link in memory of which no call is to fail and no connection is to be gone. The events that it took are the first ones that it plays,
-- the others are in order, and no piece found its connection gone.
pub record IsTame (link : MemoryLink) : Type 0 where
  pub none_fails : (link_script link).plan.numbers ≡ []
  pub none_goes : (link_script link).gones ≡ []
  pub within : (link_script link).taken ≤ length (link_script link).events
  pub played : events_in (link_journal link) ≡ take (link_script link).taken (link_script link).events
  pub ordered : are_in_order (link_phases link) (drop (link_script link).taken (link_script link).events) ≡ true
  pub none_gone : list_any (λ (piece : Piece). piece.gone) (pieces_in (link_journal link)) ≡ false
