-- What holds of a host that was killed and of the one that went on for it.
use Rattle.std.specs.Prelude.{◌≡◌, ℕ, true, List, [], ◌∷◌, ◌++◌}
use Rattle.session_history.specs.Opened.{is_open}
use Rattle.follow.specs.Runs.{AreWider}
use Rattle.two_hosts.specs.Terms.{Item, Prefix, sent_to, Limits, HasPassedAll, journal_of, nothing_before, passed_in, first_survivor, AreRecovered, Recovery, Handed, IsHandedBy, IsTakeover}
use Rattle.two_hosts.specs.Hosts.{AreHosts, Hosts, emitted, given_by_second, had_of_first, items_followed, items_of_second, rules_of_second, takeover_of_second}
use Rattle.two_hosts.specs.Rows.{AreInRow, given_in_row}

-- What a client had of the first host, and behind it what the second one gave it, is what the second one's account counts as passed there.
abbrev pub BothArePassed : Type 0
BothArePassed =
    (hosts : Hosts) (conn : ℕ) → AreHosts hosts →
    had_of_first hosts conn ++ given_by_second hosts conn ≡ sent_to conn (passed_in (rules_of_second hosts).bounds (journal_of hosts.second))

-- the second host passed all that its open connections are owed, and this one is open
abbrev pub IsAllGiven : Hosts → ℕ → Type 0
IsAllGiven hosts conn = HasPassedAll (rules_of_second hosts) hosts.second × (is_open (rules_of_second hosts).bounds (journal_of hosts.second) conn ≡ true)

-- Two hosts are one: what a client had of the first host, and behind it what the second one gave it, is a prefix of what one run emits there; and where all
-- is given, it is all of that.
abbrev pub HostsAreOne : Type 0
HostsAreOne =
    (hosts : Hosts) (conn : ℕ) → AreHosts hosts →
    Prefix (had_of_first hosts conn ++ given_by_second hosts conn) (emitted hosts conn)
    × (IsAllGiven hosts conn → had_of_first hosts conn ++ given_by_second hosts conn ≡ emitted hosts conn)

-- So are all hosts in a row: what a client has of all of them is a prefix of what one run emits there, which is the last host's; and where all is given, it
-- is all of that.
abbrev pub AllAreOne : Type 0
AllAreOne =
    (hosts : Hosts) (row : List Hosts) (conn : ℕ) → AreInRow (hosts ∷ row) →
    Prefix (given_in_row (hosts ∷ row) conn) (emitted hosts conn) × (IsAllGiven hosts conn → given_in_row (hosts ∷ row) conn ≡ emitted hosts conn)

-- Where nothing came before what the second host followed, its items begin with those of the events that it followed.
abbrev pub ItemsGoOn : Type 0
ItemsGoOn = (hosts : Hosts) → hosts.rules.bounds.before ≡ nothing_before → Prefix (items_followed hosts) (items_of_second hosts)

-- A third host takes over from the second one as that did from the first: where the second one made these recoveries and handed that over, under limits that
-- are as wide, and heard the first items. So what holds of two hosts holds of these.
abbrev pub ThirdTakesOver : Type 0
ThirdTakesOver =
    (hosts : Hosts) (recoveries : List Recovery) (handed : Handed) (limits : Limits) (items : List Item) → AreHosts hosts →
    AreRecovered (rules_of_second hosts) hosts.first.image [] (first_survivor (rules_of_second hosts) hosts.first.image) hosts.second.earlier recoveries hosts.second.survivor →
    IsHandedBy (rules_of_second hosts) hosts.second hosts.first.handed.episodes recoveries handed → AreWider hosts.rules.limits limits → Prefix (items_of_second hosts) items →
    IsTakeover (takeover_of_second hosts recoveries handed limits items)
