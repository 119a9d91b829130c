-- What the forms of a link have in common.
use Rattle.std.specs.Prelude.{ℕ, nat_lt, Bool, List, Option, None, Some}
use Rattle.links.specs.Terms.{Entry}
use Rattle.links.specs.Links.{Told, Handed, events_in, pieces_in}

-- what a link tells that tells its whole journal
abbrev pub told_by : List Entry → Told
told_by entries = record { events = Some (events_in entries); pieces = Some (pieces_in entries); journal = Some entries }

-- the piece that was handed last, by its connection and its length
abbrev pub handed_by : Option (ℕ × ℕ) → Option Handed
handed_by None = None
handed_by (Some piece) = Some (record { conn = piece.0; length = piece.1 })

-- a link that gives to each connection below 4096 at all times
abbrev pub gives_below_4096 : ℕ → Bool
gives_below_4096 conn = nat_lt conn 4096
