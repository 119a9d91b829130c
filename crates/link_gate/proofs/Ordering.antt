-- An event that is in order for a link is in order for the log of its events.
use Rattle.item_log.specs.Connections.{is_open}
use Rattle.item_log.specs.Heard.{Heard}
use Rattle.link_gate.proofs.Terms.{Bool, List, None, Option, Some, [], ap, arith, cond, false, if◌then◌else◌, length, not, refl, sym, true, ℕ, ◌&&◌, ◌++◌, ◌<◌, ◌||◌, ◌∙◌, ◌∷◌, ◌≡◌, or_assoc, eq-eqb, eqb-true, lt-ltb, or_parts, true≢false, get_or-replicate, get_or-set_other, get_or-set_same, length-set, same_Some, unwrap_or, is_some, slice_set, ◌==◌, LinkEvent, Closes, Ends, Opens, Piece, Settles, IsInOrder, Phases, Framing, Parts, cut, CONNECTIONS, none_places, in_order, none_open, rest_of, behind_items, brought, hear, hear_parts, heard_from, then_hear, Log, Shows, phase_after, closes, opens}
use Rattle.link_gate.proofs.Phasing.{opens_by, closes_by, opens-first, closes-first, unopened_by, open_by}

-- what was heard was in order
pub heard_some : (b : Bool) (found : Option Heard) (more : Heard) → cond b found None ≡ Some more → (b ≡ true) × (found ≡ Some more)
heard_some true found more h = (refl, h)
heard_some false found more h = absurd (let no : ⊥ = cc in no)

pub rests_by : (one all : Heard) → Some one ≡ Some all → one.rests ≡ all.rests
rests_by one all is = ap (λ (h : Heard). h.rests) (same_Some one all is)

-- one place of a list is set
set_open : (rests : List (Option (List ℕ))) (place : ℕ) (rest : Option (List ℕ)) (conn : ℕ) (b : Bool) → place == conn ≡ b → conn < length rests → is_open (slice_set rests place rest) conn ≡ (if b then is_some rest else is_open rests conn)
set_open rests place rest conn true p h =
    ap is_some (ap (λ (n : ℕ). rest_of (slice_set rests n rest) conn) (eqb-true place conn p) ∙ get_or-set_same rests conn rest None h)
set_open rests place rest conn false p h =
    ap is_some (get_or-set_other rests place conn rest None (λ same. true≢false (sym (eq-eqb place conn (sym same)) ∙ p)))

-- an event that was heard opens its connection, and what isn't closed stays as it was
opened_heard : (rests : List (Option (List ℕ))) (place conn : ℕ) (b : Bool) → place == conn ≡ b → conn < length rests → is_open (slice_set rests place (Some [])) conn ≡ (is_open rests conn || b)
opened_heard rests place conn b p h = set_open rests place (Some []) conn b p h ∙ by b (is_open rests conn)
  where
    by : (b x : Bool) → (if b then true else x) ≡ (x || b)
    by true true = refl
    by true false = refl
    by false true = refl
    by false false = refl

piece_heard : (rests : List (Option (List ℕ))) (place conn : ℕ) (rest : List ℕ) (b : Bool) → place == conn ≡ b → conn < length rests → is_open rests place ≡ true → is_open (slice_set rests place (Some rest)) conn ≡ (is_open rests conn || false)
piece_heard rests place conn rest b p h was = set_open rests place (Some rest) conn b p h ∙ by b (is_open rests conn) (λ t. sym (ap (is_open rests) (eqb-true place conn (p ∙ t))) ∙ was)
  where
    by : (b x : Bool) → (b ≡ true → x ≡ true) → (if b then true else x) ≡ (x || false)
    by true true f = refl
    by true false f = sym (f refl)
    by false true f = refl
    by false false f = refl

none_more : (x : Bool) → x ≡ (x || false)
none_more true = refl
none_more false = refl

parts_heard : (rests : List (Option (List ℕ))) (place conn : ℕ) (parts : Option Parts) (more : Heard) → conn < length rests → is_open rests place ≡ true → hear_parts rests place parts ≡ Some more → is_open more.rests conn ≡ (is_open rests conn || false)
parts_heard rests place conn None more h was is = absurd (let no : ⊥ = cc in no)
parts_heard rests place conn (Some parts) more h was is =
    ap (λ (now : List (Option (List ℕ))). is_open now conn) (sym (rests_by _ more is)) ∙ piece_heard rests place conn parts.rest (place == conn) refl h was

open_heard : (framing : Framing) (rests : List (Option (List ℕ))) (event : LinkEvent) (more : Heard) (conn : ℕ) → conn < length rests → in_order rests event ≡ true → brought framing rests event ≡ Some more → closes_by conn event ≡ false
    → is_open more.rests conn ≡ (is_open rests conn || opens_by conn event)
open_heard framing rests (Opens opened) more conn h order is stays =
    ap (λ (now : List (Option (List ℕ))). is_open now conn) (sym (rests_by _ more is)) ∙ opened_heard rests opened conn (opened == conn) refl h
open_heard framing rests (Piece to piece) more conn h order is stays = parts_heard rests to conn (cut framing (unwrap_or (rest_of rests to) []) piece) more h order is
open_heard framing rests (Closes closed) more conn h order is stays =
    ap (λ (now : List (Option (List ℕ))). is_open now conn) (sym (rests_by _ more is)) ∙ (set_open rests closed None conn false stays h ∙ none_more (is_open rests conn))
open_heard framing rests Settles more conn h order is stays = ap (λ (now : List (Option (List ℕ))). is_open now conn) (sym (rests_by _ more is)) ∙ none_more (is_open rests conn)
open_heard framing rests Ends more conn h order is stays = ap (λ (now : List (Option (List ℕ))). is_open now conn) (sym (rests_by _ more is)) ∙ none_more (is_open rests conn)

places_heard : (framing : Framing) (rests : List (Option (List ℕ))) (event : LinkEvent) (more : Heard) → brought framing rests event ≡ Some more → length more.rests ≡ length rests
places_heard framing rests (Opens opened) more is = ap length (sym (rests_by _ more is)) ∙ length-set rests opened (Some [])
places_heard framing rests (Piece to piece) more is = by (cut framing (unwrap_or (rest_of rests to) []) piece) is
  where
    by : (parts : Option Parts) → hear_parts rests to parts ≡ Some more → length more.rests ≡ length rests
    by None so = absurd (let no : ⊥ = cc in no)
    by (Some parts) so = ap length (sym (rests_by _ more so)) ∙ length-set rests to (Some parts.rest)
places_heard framing rests (Closes closed) more is = ap length (sym (rests_by _ more is)) ∙ length-set rests closed None
places_heard framing rests Settles more is = ap length (sym (rests_by _ more is))
places_heard framing rests Ends more is = ap length (sym (rests_by _ more is))

-- the first of some events, and what those behind it bring
pub record FirstHeard (first : Heard) (next : Option Heard) (all : Heard) : Type 0 where
  pub later : Heard
  pub is : next ≡ Some later
  pub items : all.items ≡ first.items ++ later.items
  pub rests : all.rests ≡ later.rests

first_heard : (first : Heard) (next : Option Heard) (all : Heard) → behind_items first.items next ≡ Some all → FirstHeard first next all
first_heard first None all is = absurd (let no : ⊥ = cc in no)
first_heard first (Some later) all is =
    let same : record { items = first.items ++ later.items; rests = later.rests } ≡ all = same_Some _ all is in
    record { later = later; is = refl; items = ap (λ (h : Heard). h.items) (sym same); rests = ap (λ (h : Heard). h.rests) (sym same) }

-- each event of some that were heard was in order
pub record StepHeard (framing : Framing) (rests : List (Option (List ℕ))) (event : LinkEvent) (events : List LinkEvent) (all : Heard) : Type 0 where
  pub first : Heard
  pub order : in_order rests event ≡ true
  pub brings : brought framing rests event ≡ Some first
  pub behind : FirstHeard first (heard_from framing first.rests events) all

pub step_heard : (framing : Framing) (rests : List (Option (List ℕ))) (event : LinkEvent) (events : List LinkEvent) (all : Heard) → heard_from framing rests (event ∷ events) ≡ Some all → StepHeard framing rests event events all
unfolding heard_from
step_heard framing rests event events all is = by (hear framing rests event) refl is
  where
    by : (found : Option Heard) → hear framing rests event ≡ found → then_hear found (λ more. heard_from framing more events) ≡ Some all → StepHeard framing rests event events all
    by None so is = absurd (let no : ⊥ = cc in no)
    by (Some first) so is =
        let fine = heard_some (in_order rests event) (brought framing rests event) first so in
        record { first = first; order = fine.0; brings = fine.1; behind = first_heard first (heard_from framing first.rests events) all is }

-- a connection that some events don't close is open behind them where it was open or they open it
pub open_from : (framing : Framing) (rests : List (Option (List ℕ))) (events : List LinkEvent) (all : Heard) (conn : ℕ) → conn < length rests → heard_from framing rests events ≡ Some all → closes conn events ≡ false
    → is_open all.rests conn ≡ (is_open rests conn || opens conn events)
unfolding heard_from
open_from framing rests [] all conn h is stays = ap (λ (now : List (Option (List ℕ))). is_open now conn) (sym (rests_by _ all is)) ∙ none_more (is_open rests conn)
open_from framing rests (event ∷ events) all conn h is stays =
    let step = step_heard framing rests event events all is in
    let parts = or_parts (closes_by conn event) (closes conn events) (sym (closes-first conn event events) ∙ stays) in
    ap (λ (now : List (Option (List ℕ))). is_open now conn) step.behind.rests
    ∙ open_from framing step.first.rests events step.behind.later conn (omega (arith, h, places_heard framing rests event step.first step.brings)) step.behind.is parts.1
    ∙ ap (λ (b : Bool). b || opens conn events) (open_heard framing rests event step.first conn h step.order step.brings parts.0)
    ∙ or_assoc (is_open rests conn) (opens_by conn event) (opens conn events)
    ∙ ap (λ (b : Bool). is_open rests conn || b) (sym (opens-first conn event events))

none_open_at : (conn : ℕ) → conn < CONNECTIONS → is_open none_open conn ≡ false
unfolding none_open
none_open_at conn h = ap is_some (get_or-replicate {A = Option (List ℕ)} CONNECTIONS conn None None h)

-- a log knows a connection as open where its events open it and don't close it
pub open_shown : (framing : Framing) (events : List LinkEvent) (log : Log) (conn : ℕ) → Shows framing events log → conn < CONNECTIONS → closes conn events ≡ false → is_open log.rests conn ≡ opens conn events
open_shown framing events log conn shows low stays =
    open_from framing none_open events (record { items = shows.items; rests = log.rests }) conn (omega (arith, low, none_places)) shows.is_heard stays
    ∙ ap (λ (b : Bool). b || opens conn events) (none_open_at conn low)

-- so an event that is in order for the link is in order for the log
pub in_order_shown : (framing : Framing) (events : List LinkEvent) (log : Log) (phases : Phases) (event : LinkEvent) → Shows framing events log → ((conn : ℕ) → phases conn ≡ phase_after conn events) → IsInOrder phases event → in_order log.rests event ≡ true
in_order_shown framing events log phases (Opens opened) shows knows order =
    let fresh = unopened_by (closes opened events) (opens opened events) (sym (knows opened) ∙ order.1) in
    (λ i. lt-ltb opened CONNECTIONS order.0 i && not ((open_shown framing events log opened shows order.0 fresh.0 ∙ fresh.1) i))
in_order_shown framing events log phases (Piece to piece) shows knows order =
    let now = open_by (closes to events) (opens to events) (sym (knows to) ∙ order.1) in
    open_shown framing events log to shows order.0 now.0 ∙ now.1
in_order_shown framing events log phases (Closes closed) shows knows order =
    let now = open_by (closes closed events) (opens closed events) (sym (knows closed) ∙ order.1) in
    open_shown framing events log closed shows order.0 now.0 ∙ now.1
in_order_shown framing events log phases Settles shows knows order = refl
in_order_shown framing events log phases Ends shows knows order = refl
