-- Something meets what the laws ask for.
use Rattle.std.proofs.Common.{List, None, [], ap, append-nil, arith, false, length, length-append, refl, subst, sym, ◌++◌, ◌∷◌, ◌≡◌}
use Rattle.item_log.specs.Heard.{items_from, items_of}
use Rattle.guest_image.specs.declared.image.Image.{Image}
use Rattle.session_history.proofs.Endings.{ending_account, ending_none}
use Rattle.session_history.proofs.Heeding.{events_alone}
use Rattle.session_history.proofs.Paths.{served_same}
use Rattle.session_history.proofs.Sessions.{serving_first}
use Rattle.follow.proofs.Behind.{followed_is_sound}
use Rattle.follow.proofs.Runs.{same_limits}
use Rattle.two_hosts.specs.Terms.{Item, Prefix, LinkEvent, origin, IsAccount, Session, AreHeeded, Bounds, heeded_behind, items_in, nothing_before, Rules, IsSoundBefore, first_survivor, HasFollowed, rules_behind, Handed, IsHandedBy, Stand, IsTakeover, Takeover}
use Rattle.two_hosts.specs.Hosts.{AreHosts, Hosts, items_of_second, rules_of_second, takeover_of_second}
use Rattle.two_hosts.specs.Rows.{AreInRow}
use Rattle.two_hosts.proofs.Both.{third_takes_over}

-- a session at its start, which has an account where what came before it is sound
abbrev started : Rules → Image → Session
started rules image = record { earlier = []; survivor = first_survivor rules image; since = []; came = None; ending = []; broken = [] }

account_at_start : (rules : Rules) (image : Image) → IsSoundBefore rules image → IsAccount rules image (started rules image)
account_at_start rules image sound = ending_account rules image [] (first_survivor rules image) [] [] None (ending_none rules image [] (first_survivor rules image) [] false (serving_first rules image sound))

-- with nothing before it, and nothing heard, a session has heeded all, and has no items
heeded_none : (bounds : Bounds) → bounds.before ≡ nothing_before → AreHeeded bounds []
unfolding heeded_behind
heeded_none bounds alone = subst (λ (events : List LinkEvent). heeded_behind bounds [] events ≡ events) (sym (events_alone bounds [] alone)) refl

items_none : (bounds : Bounds) → bounds.before ≡ nothing_before → items_in bounds [] ≡ []
unfolding heeded_behind items_from
items_none bounds alone = ap (λ (events : List LinkEvent). items_of bounds.framing (heeded_behind bounds [] events)) (events_alone bounds [] alone)

-- a host that hands over that it had done nothing, and that no client has a byte
abbrev nothing : Handed
nothing = record { counts = []; episodes = []; choices = []; finish = None }

-- the one that goes on for it, released at the start of the program
abbrev begun : Takeover → Rules → Hosts
begun over rules = record { first = over; rules = rules; events = []; released = origin over.image; second = started (rules_behind rules over.handed [] (origin over.image)) over.image }

released_at_start : (rules : Rules) (image : Image) → Stand rules.limits [] (origin image) → HasFollowed rules image nothing [] (origin image)
released_at_start rules image stand = record {
  ran = served_same rules.limits (items_in rules.bounds []) [] (origin image);
  stand = stand;
  reached = record { past = tt; chose = ([], refl); finished = tt; covers = λ conn. omega arith };
  first = λ path there served fewer. absurd (omega (arith, fewer));
  asked = λ front back event same. absurd (none_behind_none front back event same);
}
  where
    none_behind_none : (front back : List LinkEvent) (event : LinkEvent) → [] ≡ front ++ event ∷ back → ⊥
    none_behind_none front back event same = omega (arith, ap length same, length-append front (event ∷ back))

-- They are two hosts, if the run of the program can be judged at its start: at its first request.
module _ (over : Takeover) (rules : Rules) where
  abbrev from_nothing : Takeover
  from_nothing = record over { handed = nothing }

  abbrev two : Hosts
  two = begun from_nothing rules

  are_two : IsTakeover from_nothing → rules.limits ≡ over.limits → rules.bounds.before ≡ nothing_before → Stand rules.limits [] (origin over.image) → AreHosts two
  are_two is same alone stand = record {
    takes_over = is;
    limits = same;
    among = subst (λ (items : List Item). Prefix items over.items) (sym (items_none rules.bounds alone)) (over.items, refl);
    followed = released_at_start rules over.image stand;
    account = account_at_start (rules_of_second two) over.image (followed_is_sound rules over.image nothing [] (origin over.image) alone (heeded_none rules.bounds alone) (released_at_start rules over.image stand));
  }

-- And a third one goes on for the second in the same way, so there is a row of three.
abbrev third : Takeover → Rules → Hosts
third over rules = begun (takeover_of_second (two over rules) [] nothing rules.limits (items_of_second (two over rules))) rules

are_three : (over : Takeover) (rules : Rules) → IsTakeover (from_nothing over rules) → rules.limits ≡ over.limits → rules.bounds.before ≡ nothing_before → Stand rules.limits [] (origin over.image) → AreInRow (third over rules ∷ two over rules ∷ [])
are_three over rules is same alone stand =
    let first : AreHosts (two over rules) = are_two over rules is same alone stand in
    let hands : IsHandedBy (rules_of_second (two over rules)) (two over rules).second [] [] nothing = record { episodes = refl; choices = ([], refl); finish = tt; counts = λ conn. omega arith } in
    let next = third_takes_over (two over rules) [] nothing rules.limits (items_of_second (two over rules)) first (refl, refl) hands (same_limits rules.limits) ([], append-nil (items_of_second (two over rules))) in
    (are_two (takeover_of_second (two over rules) [] nothing rules.limits (items_of_second (two over rules))) rules next refl alone stand, refl, first)
