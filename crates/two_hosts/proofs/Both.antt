-- What clients had of both hosts, and the run that emits it.
use Rattle.std.proofs.Common.{List, [], ap, append-nil, refl, subst, sym, take, ℕ, ◌++◌, ◌∙◌, ◌∷◌, ◌≡◌}
use Rattle.links.specs.Links.{events_in}
use Rattle.run_history.proofs.Outputs.{sent_to-append}
use Rattle.session_history.proofs.Closing.{items_longer}
use Rattle.session_history.proofs.Heeding.{events_alone, items_in-alike}
use Rattle.follow.specs.Plans.{plan_of}
use Rattle.follow.proofs.Agreed.{held_at_release}
use Rattle.follow.proofs.Behind.{followed_is_past}
use Rattle.follow.proofs.Placed.{episodes_are_placed}
use Rattle.two_hosts.specs.Terms.{Item, Prefix, sent_to, Limits, Path, Served, origin, journal_of, events_of, passed_behind, heard_alone, HasReached, Stand, count_of, held, IsFollowed, IsTakeover, Takeover, passed_first}
use Rattle.two_hosts.specs.Hosts.{AreHosts, Hosts, emitted, given_by_second, had_of_first, items_followed, items_of_second, rules_of_second}
use Rattle.two_hosts.specs.Rows.{AreInRow, given_in_row}
use Rattle.two_hosts.specs.Laws.{AllAreOne, BothArePassed, HostsAreOne, ItemsGoOn, ThirdTakesOver}

-- a run that has reached what was handed over, under limits that are the takeover's
record ReachesUnder (over : Takeover) (heard : List Item) (path : Path) (limits : Limits) : Type 0 where
  ran : Served limits heard (plan_of limits.keep over.handed.episodes) (origin over.image) path
  stand : Stand limits (plan_of limits.keep over.handed.episodes) path
  reached : HasReached limits over.handed path stand

-- what is held of its sends is what the first host passed first
held_there : (over : Takeover) (heard : List Item) (path : Path) (limits : Limits) (conn : ℕ) → limits ≡ over.limits → IsTakeover over → Prefix heard over.items → ReachesUnder over heard path limits
    → sent_to conn (held over.handed.counts path.state.sends) ≡ take (count_of over.handed.counts conn) (sent_to conn (passed_first over))
held_there over heard path limits conn same is among reaches =
    let there = subst (ReachesUnder over heard path) same reaches in
    let follows : IsFollowed over path = record { heard = heard; first = among; ran = there.ran } in
    (held_at_release over path there.stand is follows there.reached).0 conn

pub both_are_passed : BothArePassed
both_are_passed hosts conn are =
    sym (sent_to-append conn (held hosts.first.handed.counts hosts.released.state.sends) (passed_behind (rules_of_second hosts).bounds [] (journal_of hosts.second))
    ∙ ap (λ (had : List ℕ). had ++ given_by_second hosts conn)
    (held_there hosts.first (items_followed hosts) hosts.released hosts.rules.limits conn are.limits are.takes_over are.among
    (record { ran = are.followed.ran; stand = are.followed.stand; reached = are.followed.reached })))

pub hosts_are_one : HostsAreOne
hosts_are_one hosts conn are =
    let both = both_are_passed hosts conn are in (
      subst (λ (bytes : List ℕ). Prefix bytes (emitted hosts conn)) (sym both) (are.account.passed conn),
      λ all. both ∙ all.0 conn all.1,
    )

-- of hosts in a row the last two are two hosts
last_are : (hosts : Hosts) (row : List Hosts) → AreInRow (hosts ∷ row) → AreHosts hosts
last_are hosts [] are = are
last_are hosts (other ∷ row) are = are.0

-- what all in a row gave is what the last two did
row_is_given : (hosts : Hosts) (row : List Hosts) (conn : ℕ) → AreInRow (hosts ∷ row) → given_in_row (hosts ∷ row) conn ≡ had_of_first hosts conn ++ given_by_second hosts conn
row_is_given hosts [] conn are = refl
row_is_given later (hosts ∷ row) conn are =
    let last : AreHosts hosts = last_are hosts row are.2 in
    ap (λ (had : List ℕ). take (count_of later.first.handed.counts conn) had ++ given_by_second later conn)
    (row_is_given hosts row conn are.2 ∙ both_are_passed hosts conn last ∙ sym (ap (λ (over : Takeover). sent_to conn (passed_first over)) are.1))

pub all_are_one : AllAreOne
all_are_one hosts row conn are =
    let same = row_is_given hosts row conn are in
    let one = hosts_are_one hosts conn (last_are hosts row are) in (
      subst (λ (bytes : List ℕ). Prefix bytes (emitted hosts conn)) (sym same) one.0,
      λ all. same ∙ one.1 all,
    )

pub items_go_on : ItemsGoOn
items_go_on hosts alone =
    let whole : events_of (rules_of_second hosts).bounds [] ≡ events_of hosts.rules.bounds (heard_alone hosts.events) =
    append-nil (events_in (heard_alone hosts.events)) ∙ sym (events_alone hosts.rules.bounds (heard_alone hosts.events) alone) in
    subst (λ (items : List Item). Prefix items (items_of_second hosts)) (items_in-alike hosts.rules.bounds (rules_of_second hosts).bounds.before (heard_alone hosts.events) [] whole)
    (items_longer (rules_of_second hosts).bounds [] (journal_of hosts.second))

pub third_takes_over : ThirdTakesOver
third_takes_over hosts recoveries handed limits items are recovered handed_by wide first = record {
  account = are.account;
  recovered = recovered;
  told = refl;
  placed = episodes_are_placed hosts.first are.takes_over;
  past = followed_is_past hosts.rules hosts.first.image hosts.first.handed hosts.events hosts.released are.followed;
  handed_by = handed_by;
  wide = wide;
  first = first;
}
