-- Any number of hosts in a row, each of which went on for the one before it.
use Rattle.std.specs.Prelude.{◌≡◌, ℕ, List, [], ◌∷◌, ◌++◌, take}
use Rattle.two_hosts.specs.Terms.{count_of}
use Rattle.two_hosts.specs.Hosts.{AreHosts, Hosts, given_by_second, had_of_first, takeover_of_second}

-- of two and two hosts the first of the later ones is the second of the earlier ones
abbrev pub AreBehind : Hosts → Hosts → Type 0
AreBehind hosts later = later.first ≡ takeover_of_second hosts later.first.recoveries later.first.handed later.first.limits later.first.items

-- hosts in a row, the last two first
abbrev pub AreInRow : List Hosts → Type 0
AreInRow [] = Unit {0}
AreInRow (hosts ∷ []) = AreHosts hosts
AreInRow (later ∷ hosts ∷ row) = AreHosts later × AreBehind hosts later × AreInRow (hosts ∷ row)

-- the bytes that a client has of all of them: by its count what it had of those before the last one, and what that gave it
abbrev pub given_in_row : List Hosts → ℕ → List ℕ
given_in_row [] conn = []
given_in_row (hosts ∷ []) conn = had_of_first hosts conn ++ given_by_second hosts conn
given_in_row (later ∷ hosts ∷ row) conn = take (count_of later.first.handed.counts conn) (given_in_row (hosts ∷ row) conn) ++ given_by_second later conn
