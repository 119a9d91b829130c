-- A link that tells nothing.
use Rattle.std.proofs.Common.{ℕ, List, [], None, Result, Ok, Err, refl}
use Rattle.links.specs.Links.{Told, Tells, Gives}
use Rattle.links.specs.declared.journal.Entry.{Entry}
use Rattle.links.specs.declared.journal.Given.{Given}
use Rattle.links.specs.declared.journal.Given.TheVariants.{All, Gone}
use Rattle.links.specs.declared.journal.LinkFault.{LinkFault}
use Rattle.links.specs.declared.journal.LinkFault.TheVariants.{Refused, ReadFault, WriteFault, Memory}

abbrev pub nothing : Told
nothing = record { events = None; pieces = None; journal = None }

tells_nothing : (entries : List Entry) → Tells nothing nothing entries
tells_nothing entries = record { events = tt; pieces = tt; journal = tt }

-- what a link gives, one that tells nothing gives too
pub gives_quietly : (old new : Told) (conn : ℕ) (bytes : List ℕ) (result : Result Given LinkFault) → Gives old new conn bytes result → Gives nothing nothing conn bytes result
gives_quietly old new conn bytes (Ok All) gives = tells_nothing _
gives_quietly old new conn bytes (Ok (Gone count)) gives = (gives.0, tells_nothing _)
gives_quietly old new conn bytes (Err (Refused kind offset)) gives = gives
gives_quietly old new conn bytes (Err ReadFault) gives = gives
gives_quietly old new conn bytes (Err WriteFault) gives = (gives.0, gives.1, tells_nothing _)
gives_quietly old new conn bytes (Err Memory) gives = (gives.0, gives.1, tells_nothing _)

-- no byte goes out where memory runs out
pub gives_none : (conn : ℕ) (bytes : List ℕ) → Gives nothing nothing conn bytes (Err Memory)
gives_none conn bytes = ([], (bytes, refl), tells_nothing _)
