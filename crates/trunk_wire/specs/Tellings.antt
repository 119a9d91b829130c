-- What a trunk tells of the bytes that it took and wrote.
use Rattle.std.specs.Prelude.{ℕ, zero, suc, nat_le, Bool, true, false, ◌&&◌, List, [], ◌∷◌, length, Option, None, Some, Result, Ok, Err, option_map, if◌then◌else◌}
use Rattle.trunk_wire.specs.Terms.{CONNECTIONS, Stream, LinkEvent, LinkFault, Refused, Closed, Coming, Open, Phase, Phases, Piece, Refuses, Told, Unopened}
use Rattle.trunk_wire.specs.Grammar.{event_at}
use Rattle.trunk_wire.specs.Parts.{last_bytes}
use Rattle.trunk_wire.specs.declared.refusal.Refusal.{Refusal}
use Rattle.trunk_wire.specs.Pieces.{read_from, events, fresh, written, pieces}

-- whether two phases are the same one
abbrev pub same_phase : Phase → Phase → Bool
same_phase Unopened Unopened = true
same_phase Open Open = true
same_phase Closed Closed = true
same_phase _ _ = false

-- each connection below a number has the same phase
unfoldable pub same_phases : ℕ → Phases → Phases → Bool
same_phases zero phases others = true
same_phases (suc n) phases others = same_phase (phases n) (others n) && same_phases n phases others

-- whether there is no byte
abbrev pub is_empty : List ℕ → Bool
is_empty [] = true
is_empty (byte ∷ bytes) = false

-- The bytes that a source tells as taken are in step with a link that counts so many of them: it has that many, and while
-- events may be taken the last ones are whole frames that lead to the link's phases. A source that tells its bytes from the
-- start is always in step.
abbrev pub is_in_step : ℕ → Phases → Bool → List ℕ → Bool
is_in_step took phases takes taken = nat_le took (length taken)
    && (if takes then is_empty (read_from fresh (last_bytes took taken)).part && same_phases CONNECTIONS (read_from fresh (last_bytes took taken)).state phases else true)

-- the events of the last bytes taken, as many as were counted
abbrev pub told_events : Option Stream → ℕ → Phases → Bool → Option (List LinkEvent)
told_events None took phases takes = None
told_events (Some stream) took phases takes = if is_in_step took phases takes stream.taken then Some (events fresh (last_bytes took stream.taken)) else None

-- the same of a sink: while pieces may be given, the last bytes are whole frames
abbrev pub is_whole : ℕ → Bool → List ℕ → Bool
is_whole wrote gives bytes = nat_le wrote (length bytes) && (if gives then is_empty (written (last_bytes wrote bytes)).part else true)

-- the pieces of the last bytes written, as many as were counted
abbrev pub told_pieces : Option (List ℕ) → ℕ → Bool → Option (List Piece)
told_pieces None wrote gives = None
told_pieces (Some bytes) wrote gives = if is_whole wrote gives bytes then Some (pieces (last_bytes wrote bytes)) else None

-- the refusal in an answer, if it is one
abbrev pub refusal_in : Result LinkEvent LinkFault → Option Refusal
refusal_in (Ok event) = None
refusal_in (Err (Refused kind offset)) = Some (record { kind = kind; offset = offset })
refusal_in (Err other) = None

-- What comes next: the grammar at what the source tells as left, while events may be taken, and behind a refusal that refusal
-- again. Behind another fault nothing is told.
abbrev pub told_coming : Option Stream → ℕ → Phases → Bool → Option Refusal → Option Coming
told_coming None took phases takes refused = None
told_coming (Some stream) took phases takes refused =
    if takes then Some (event_at phases took stream.left) else option_map (λ (refusal : Refusal). Refuses refusal.kind refusal.offset) refused

-- events and pieces are told where source and sink tell their bytes, and no order of both
abbrev pub trunk_told : Option (List LinkEvent) → Option (List Piece) → Told
trunk_told events pieces = record { events = events; pieces = pieces; journal = None }

-- nothing was taken yet, and nothing written
abbrev pub told_nothing : Option Stream → Option (List ℕ) → Told
told_nothing source sink = trunk_told (option_map (λ _. []) source) (option_map (λ _. []) sink)
