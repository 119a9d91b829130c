-- What the connections of a link are seen as.
use Rattle.std.specs.Prelude.{◌≡◌, ℕ, List, length, map, Option, Some, None, option_map, All}
use Rattle.item_log.specs.Terms.{Framing, Unfinished, CONNECTIONS}

-- how pieces are cut, and the rests of the connections that are open
pub record Watched : Type 0 where
  pub framing : Framing
  pub rests : List (Option (List ℕ))

-- the bytes of a message that isn't whole yet, where its connection is open
abbrev pub rest_in : Option Unfinished → Option (List ℕ)
rest_in framer = option_map (λ (stream : Unfinished). stream.rest) framer

-- the rests that framers have
abbrev pub rests_of : List (Option Unfinished) → List (Option (List ℕ))
rests_of framers = map rest_in framers

-- a framer cuts so
abbrev pub CutsSo : Framing → Option Unfinished → Type 0
CutsSo framing None = Unit {0}
CutsSo framing (Some stream) = stream.framing ≡ framing

-- there is a place for each connection, and all framers cut alike
pub record AreFramers (framing : Framing) (framers : List (Option Unfinished)) : Type 0 where
  pub places : length framers ≡ CONNECTIONS
  pub alike : All (CutsSo framing) framers
