-- What was passed to connections, and whether a run emits it.
use Rattle.std.specs.Prelude.{◌≡◌, ℕ, ◌<◌, ◌≤◌, List, [], ◌∷◌, ◌++◌, true, filter, nat_le}
use Rattle.links.specs.declared.journal.Entry.TheVariants as entry
use Rattle.reply_ledger.specs.Trials.{agree}
use Rattle.session_history.specs.Terms.{Prefix, Send, sent_to, Entry, State, output}
use Rattle.session_history.specs.Heeding.{Bounds, received}

-- the pieces of a journal's rest, each with its stamp: the number of items received before it
abbrev pub passed_behind : Bounds → List Entry → List Entry → List Send
passed_behind bounds before [] = []
passed_behind bounds before (entry.Took event ∷ entries) = passed_behind bounds (before ++ entry.Took event ∷ []) entries
passed_behind bounds before (entry.Gave conn bytes gone ∷ entries) =
    record { conn = conn; bytes = bytes; taken = received bounds before } ∷ passed_behind bounds (before ++ entry.Gave conn bytes gone ∷ []) entries

-- what was passed: before a session, and in its journal
abbrev pub passed_in : Bounds → List Entry → List Send
passed_in bounds entries = bounds.before.had ++ passed_behind bounds [] entries

-- the sends with this number, or a lower one
abbrev pub until : ℕ → List Send → List Send
until item sends = filter (λ (send : Send). nat_le send.taken item) sends

-- a run emits every passed byte, and it emits each that was passed with this number of items received, or fewer
abbrev pub Covers : List Send → State → Type 0
Covers pieces state = (conn : ℕ) → Prefix (sent_to conn pieces) (output state conn)

abbrev pub CoversBefore : ℕ → List Send → State → Type 0
CoversBefore item pieces state = (conn : ℕ) → Prefix (sent_to conn (until item pieces)) (output state conn)

-- no byte that a run emits differs from the passed byte at its place
abbrev pub Agrees : List Send → State → Type 0
Agrees pieces state = (conn : ℕ) → agree (output state conn) (sent_to conn pieces) ≡ true

-- before a run takes an item, it emits every byte that was passed with this number of items received, or fewer: so none of its
-- items came because of a reply that it makes later
abbrev pub IsFeasible : List Send → State → Type 0
IsFeasible pieces state = (item : ℕ) → item < state.machine.taken → (conn : ℕ) → Prefix (sent_to conn (until item pieces)) (sent_to conn (until item state.sends))

-- each send was made with a number of items between two
abbrev pub AreBetween : ℕ → ℕ → List Send → Type 0
AreBetween low high [] = Unit {0}
AreBetween low high (send ∷ sends) = (low ≤ send.taken) × (send.taken ≤ high) × AreBetween low high sends

-- pieces stand in the order of their stamps, none of which is above a number
abbrev pub AreInOrder : ℕ → List Send → Type 0
AreInOrder high [] = Unit {0}
AreInOrder high (piece ∷ pieces) = AreBetween piece.taken high pieces × (piece.taken ≤ high) × AreInOrder high pieces
