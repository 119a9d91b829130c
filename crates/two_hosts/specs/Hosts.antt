-- A host that was killed, and the one that went on for it.
use Rattle.std.specs.Prelude.{◌≡◌, ℕ, List, [], take}
use Rattle.run_history.specs.Run.{output}
use Rattle.two_hosts.specs.Terms.{Item, Prefix, sent_to, LinkEvent, Limits, Path, IsAccount, Session, journal_of, items_in, Rules, passed_behind, Recovery, HasFollowed, heard_alone, rules_behind, Handed, count_of, IsTakeover, Takeover, passed_first}

-- Both as data: the first host up to where it stopped, with what it handed over; the second one's rules, the events that it followed, where its run stood
-- when it was released, and its session behind that.
pub record Hosts : Type 0 where
  pub first : Takeover
  pub rules : Rules
  pub events : List LinkEvent
  pub released : Path
  pub second : Session

-- the rules of the second host's session: before that came what it followed
abbrev pub rules_of_second : Hosts → Rules
rules_of_second hosts = rules_behind hosts.rules hosts.first.handed hosts.events hosts.released

-- the items of the events that it followed, and those of all its events
abbrev pub items_followed : Hosts → List Item
items_followed hosts = items_in hosts.rules.bounds (heard_alone hosts.events)

abbrev pub items_of_second : Hosts → List Item
items_of_second hosts = items_in (rules_of_second hosts).bounds (journal_of hosts.second)

-- There is an account of the first host's session, and it stopped and handed that over; the second one followed on items that are among those of both,
-- under the limits that the takeover names, and was released; and there is an account of its session behind that.
pub record AreHosts (hosts : Hosts) : Type 0 where
  pub takes_over : IsTakeover hosts.first
  pub limits : hosts.rules.limits ≡ hosts.first.limits
  pub among : Prefix (items_followed hosts) hosts.first.items
  pub followed : HasFollowed hosts.rules hosts.first.image hosts.first.handed hosts.events hosts.released
  pub account : IsAccount (rules_of_second hosts) hosts.first.image hosts.second

-- the bytes that a client had of the first host, by its count, and those that the second one gave it
abbrev pub had_of_first : Hosts → ℕ → List ℕ
had_of_first hosts conn = take (count_of hosts.first.handed.counts conn) (sent_to conn (passed_first hosts.first))

abbrev pub given_by_second : Hosts → ℕ → List ℕ
given_by_second hosts conn = sent_to conn (passed_behind (rules_of_second hosts).bounds [] (journal_of hosts.second))

-- what one run emits, where the second host's stands
abbrev pub emitted : Hosts → ℕ → List ℕ
emitted hosts conn = output hosts.second.survivor.now.state conn

-- The second host as the first one of a takeover: it was handed the first one's episodes, and stopped behind these recoveries, having handed this over to a
-- third one with such limits; and these are all items of both.
abbrev pub takeover_of_second : Hosts → List Recovery → Handed → Limits → List Item → Takeover
takeover_of_second hosts recoveries handed limits items = record {
  image = hosts.first.image;
  rules = rules_of_second hosts;
  before = hosts.first.handed.episodes;
  session = hosts.second;
  recoveries = recoveries;
  handed = handed;
  limits = limits;
  items = items;
}
