-- What entries of a journal gave to a connection, and took of it.
use Rattle.links.proofs.Terms.{List, [], if◌then◌else◌, ℕ, ◌==◌, flat_map, Entry, events_in}
use Rattle.links.specs.declared.journal.Entry.TheVariants as entry
use Rattle.links.specs.Received.{received_from}

-- the bytes that entries gave to a connection
abbrev pub gave_to : ℕ → Entry → List ℕ
gave_to conn (entry.Gave to bytes gone) = if to == conn then bytes else []
gave_to conn (entry.Took taken) = []

abbrev pub gave : ℕ → List Entry → List ℕ
gave conn entries = flat_map (gave_to conn) entries

-- and those that they took of it
abbrev pub took : ℕ → List Entry → List ℕ
took conn entries = received_from conn (events_in entries)
