-- What a ledger knows of a journal with one more event.
use Rattle.reply_ledger.specs.Ledger as ledgers
use Rattle.reply_ledger.specs.Shows.{Shows}
use Rattle.session_history.specs.Opened.{is_open}
use Rattle.link_gate.proofs.Terms.{Bool, List, None, Option, Some, [], ap, arith, false, if◌then◌else◌, length, not, refl, subst, sym, take, true, ℕ, ◌&&◌, ◌++◌, ◌||◌, ◌∙◌, ◌∷◌, ◌≡◌, ◌≤◌, or-false, eq-eqb, eqb-true, true≢false, option_map_or, is_some, ◌==◌, Send, sent_to, Entry, Gave, Took, LinkEvent, Closes, Opens, connection_of-push, is_open-push, shows-opens, earlier_at, Connection, Ledger, connection_of, new_connection, with_connection, passed_in-took, Bounds, events_of, heeded, KeepsReplies, may_pass, closes, is_gone, opens, passed_in}
use Rattle.link_gate.proofs.Phasing.{opens_by, closes_by, opens-last, closes-last, eqb_turns}

-- an event finds no connection gone
pub gone-took : (conn : ℕ) (entries : List Entry) (event : LinkEvent) → is_gone conn (entries ++ Took event ∷ []) ≡ is_gone conn entries
gone-took conn [] event = refl
gone-took conn (Gave to bytes gone ∷ entries) event = ap (λ (b : Bool). ((to == conn) && gone) || b) (gone-took conn entries event)
gone-took conn (Took other ∷ entries) event = gone-took conn entries event

-- where it opens none, a ledger stays as it is, and what may be passed
keeps_still : (bounds : Bounds) (entries : List Entry) (closing : Option ℕ) (sends : List Send) (event : LinkEvent) (ledger : Ledger) →
    ((conn : ℕ) → opens conn (heeded bounds (events_of bounds (entries ++ Took event ∷ []))) ≡ opens conn (heeded bounds (events_of bounds entries))) →
    ((conn : ℕ) → may_pass bounds (entries ++ Took event ∷ []) closing conn ≡ may_pass bounds entries None conn) →
    KeepsReplies bounds entries None sends ledger → KeepsReplies bounds (entries ++ Took event ∷ []) closing sends ledger
keeps_still bounds entries closing sends event ledger same may keeps = record {
  shows = subst (Shows ledger sends) (sym (passed_in-took bounds entries event)) keeps.shows;
  opened = λ conn. keeps.opened conn ∙ sym (same conn);
  may = λ conn. keeps.may conn ∙ sym (may conn);
  gone = λ conn gone. same conn ∙ keeps.gone conn (sym (gone-took conn entries event) ∙ gone);
  given_up = λ conn passes. subst (λ (pieces : List Send). length (sent_to conn (take ledger.first sends)) ≤ length (sent_to conn pieces)) (sym (passed_in-took bounds entries event)) (keeps.given_up conn (sym (may conn) ∙ passes));
  sendable = keeps.sendable;
}

-- whether a connection is open, by three answers
abbrev open_of : Bool → Bool → Bool → Bool
open_of opened closed gone = opened && not closed && not gone

-- where the same events are heeded
pub keeps_unheeded : (bounds : Bounds) (entries : List Entry) (sends : List Send) (event : LinkEvent) (ledger : Ledger) → heeded bounds (events_of bounds (entries ++ Took event ∷ [])) ≡ heeded bounds (events_of bounds entries)
    → KeepsReplies bounds entries None sends ledger → KeepsReplies bounds (entries ++ Took event ∷ []) None sends ledger
keeps_unheeded bounds entries sends event ledger same keeps =
    keeps_still bounds entries None sends event ledger (λ conn. ap (opens conn) same) (λ conn. (λ i. open_of (opens conn (same i)) (closes conn (same i)) (gone-took conn entries event i))) keeps

-- what is open behind an event that is heeded
pub open_behind : (bounds : Bounds) (entries : List Entry) (event : LinkEvent) (conn : ℕ) → heeded bounds (events_of bounds entries) ≡ events_of bounds entries → heeded bounds (events_of bounds (entries ++ Took event ∷ [])) ≡ events_of bounds entries ++ event ∷ []
    → is_open bounds (entries ++ Took event ∷ []) conn ≡ open_of (opens conn (heeded bounds (events_of bounds entries)) || opens_by conn event) (closes conn (heeded bounds (events_of bounds entries)) || closes_by conn event) (is_gone conn entries)
open_behind bounds entries event conn all heeds = λ i. open_of (opens_behind i) (closes_behind i) (gone-took conn entries event i)
  where
    opens_behind : opens conn (heeded bounds (events_of bounds (entries ++ Took event ∷ []))) ≡ (opens conn (heeded bounds (events_of bounds entries)) || opens_by conn event)
    opens_behind = ap (opens conn) heeds ∙ opens-last conn (events_of bounds entries) event ∙ ap (λ (events : List LinkEvent). opens conn events || opens_by conn event) (sym all)

    closes_behind : closes conn (heeded bounds (events_of bounds (entries ++ Took event ∷ []))) ≡ (closes conn (heeded bounds (events_of bounds entries)) || closes_by conn event)
    closes_behind = ap (closes conn) heeds ∙ closes-last conn (events_of bounds entries) event ∙ ap (λ (events : List LinkEvent). closes conn events || closes_by conn event) (sym all)

opened_behind : (bounds : Bounds) (entries : List Entry) (event : LinkEvent) (conn : ℕ) → heeded bounds (events_of bounds entries) ≡ events_of bounds entries → heeded bounds (events_of bounds (entries ++ Took event ∷ [])) ≡ events_of bounds entries ++ event ∷ []
    → opens conn (heeded bounds (events_of bounds (entries ++ Took event ∷ []))) ≡ (opens conn (heeded bounds (events_of bounds entries)) || opens_by conn event)
opened_behind bounds entries event conn all heeds = ap (opens conn) heeds ∙ opens-last conn (events_of bounds entries) event ∙ ap (λ (events : List LinkEvent). opens conn events || opens_by conn event) (sym all)

-- an event that neither opens nor closes
pub keeps_quiet : (bounds : Bounds) (entries : List Entry) (sends : List Send) (event : LinkEvent) (ledger : Ledger) → heeded bounds (events_of bounds entries) ≡ events_of bounds entries → heeded bounds (events_of bounds (entries ++ Took event ∷ [])) ≡ events_of bounds entries ++ event ∷ []
    → ((conn : ℕ) → opens_by conn event ≡ false) → ((conn : ℕ) → closes_by conn event ≡ false) → KeepsReplies bounds entries None sends ledger → KeepsReplies bounds (entries ++ Took event ∷ []) None sends ledger
keeps_quiet bounds entries sends event ledger all heeds opens_none closes_none keeps =
    keeps_still bounds entries None sends event ledger
    (λ conn. opened_behind bounds entries event conn all heeds ∙ ap (λ (b : Bool). opens conn (heeded bounds (events_of bounds entries)) || b) (opens_none conn) ∙ or-false (opens conn (heeded bounds (events_of bounds entries))))
    (λ conn. open_behind bounds entries event conn all heeds
    ∙ (λ i. open_of (opens conn (heeded bounds (events_of bounds entries)) || opens_none conn i) (closes conn (heeded bounds (events_of bounds entries)) || closes_none conn i) (is_gone conn entries))
    ∙ (λ i. open_of (or-false (opens conn (heeded bounds (events_of bounds entries))) i) (or-false (closes conn (heeded bounds (events_of bounds entries))) i) (is_gone conn entries)))
    keeps

-- a close: its connection was open, or it is gone
closing_may : (opened closed gone b here : Bool) → (here ≡ true → closed ≡ false) → b ≡ here → (if here then (opened || false) && not gone else open_of (opened || false) (closed || b) gone) ≡ open_of opened closed gone
closing_may opened true gone b true stays same = absurd (true≢false (stays refl))
closing_may true false gone b true stays same = refl
closing_may false false gone b true stays same = refl
closing_may opened closed gone true false stays same = absurd (true≢false same)
closing_may true true gone false false stays same = refl
closing_may true false gone false false stays same = refl
closing_may false true gone false false stays same = refl
closing_may false false gone false false stays same = refl

pub keeps_closing : (bounds : Bounds) (entries : List Entry) (sends : List Send) (closed : ℕ) (ledger : Ledger) → heeded bounds (events_of bounds entries) ≡ events_of bounds entries
    → heeded bounds (events_of bounds (entries ++ Took (Closes closed) ∷ [])) ≡ events_of bounds entries ++ Closes closed ∷ [] → closes closed (heeded bounds (events_of bounds entries)) ≡ false
    → KeepsReplies bounds entries None sends ledger → KeepsReplies bounds (entries ++ Took (Closes closed) ∷ []) (Some closed) sends ledger
keeps_closing bounds entries sends closed ledger all heeds stays keeps =
    keeps_still bounds entries (Some closed) sends (Closes closed) ledger
    (λ conn. opened_behind bounds entries (Closes closed) conn all heeds ∙ or-false (opens conn (heeded bounds (events_of bounds entries))))
    (λ conn. (λ i. if conn == closed then opened_behind bounds entries (Closes closed) conn all heeds i && not (gone-took conn entries (Closes closed) i) else open_behind bounds entries (Closes closed) conn all heeds i)
    ∙ closing_may (opens conn (heeded bounds (events_of bounds entries))) (closes conn (heeded bounds (events_of bounds entries))) (is_gone conn entries) (closed == conn) (conn == closed)
    (λ here. ap (λ (n : ℕ). closes n (heeded bounds (events_of bounds entries))) (eqb-true conn closed here) ∙ stays) (eqb_turns closed conn))
    keeps

-- an opening: its connection is new to the ledger
pub known_none : {X : Type 0} (found : Option X) → is_some found ≡ false → found ≡ None
known_none None h = refl
known_none (Some found) h = absurd (true≢false h)

pub is_unknown : (bounds : Bounds) (entries : List Entry) (sends : List Send) (closing : Option ℕ) (ledger : Ledger) (conn : ℕ) → KeepsReplies bounds entries closing sends ledger → opens conn (heeded bounds (events_of bounds entries)) ≡ false → connection_of ledger.connections conn ≡ None
is_unknown bounds entries sends closing ledger conn keeps fresh = known_none (connection_of ledger.connections conn) (keeps.opened conn ∙ fresh)

opened_known : (connections : List Connection) (place conn : ℕ) (b : Bool) → conn == place ≡ b → connection_of connections place ≡ None → is_some (connection_of (connections ++ new_connection place ∷ []) conn) ≡ (is_some (connection_of connections conn) || b)
opened_known connections place conn b p none =
    ap is_some (connection_of-push connections (new_connection place) conn none ∙ ap (λ (x : Bool). if x then Some (new_connection place) else connection_of connections conn) p) ∙ by b (is_some (connection_of connections conn)) refl
  where
    by : (b x : Bool) → is_some (connection_of connections conn) ≡ x → is_some (if b then Some (new_connection place) else connection_of connections conn) ≡ (x || b)
    by true true q = refl
    by true false q = refl
    by false true q = q
    by false false q = q

-- the new connection is open
new_open : (connections : List Connection) (place : ℕ) → connection_of connections place ≡ None → ledgers.is_open (connections ++ new_connection place ∷ []) place ≡ true
unfolding ledgers.is_open
new_open connections place none =
    ap (λ (o : Option Connection). option_map_or (λ (c : Connection). not c.closed && not c.gone) o false)
    (connection_of-push connections (new_connection place) place none ∙ ap (λ (x : Bool). if x then Some (new_connection place) else connection_of connections place) (eq-eqb place place refl))

none_earlier : (connections : List Connection) (place : ℕ) → connection_of connections place ≡ None → earlier_at connections place ≡ 0
unfolding earlier_at
none_earlier connections place none = ap (λ (o : Option Connection). option_map_or (λ (c : Connection). c.earlier) o 0) none

not_gone : (gone opened : Bool) → (gone ≡ true → opened ≡ true) → opened ≡ false → gone ≡ false
not_gone true opened h fresh = absurd (true≢false (sym (h refl) ∙ fresh))
not_gone false opened h fresh = refl

-- which connections are open with the new one
opening_may : (connections : List Connection) (place conn : ℕ) (opened closed gone b : Bool) → conn == place ≡ b → connection_of connections place ≡ None → (conn ≡ place → (opened ≡ false) × (closed ≡ false) × (gone ≡ false))
    → ledgers.is_open connections conn ≡ open_of opened closed gone → ledgers.is_open (connections ++ new_connection place ∷ []) conn ≡ open_of (opened || b) (closed || false) gone
opening_may connections place conn opened closed gone true p none fresh was =
    let same : conn ≡ place = eqb-true conn place p in
    ap (ledgers.is_open (connections ++ new_connection place ∷ [])) same ∙ new_open connections place none ∙ (λ i. open_of (sym (fresh same).0 i || true) (sym (fresh same).1 i || false) (sym (fresh same).2 i))
opening_may connections place conn opened closed gone false p none fresh was =
    is_open-push connections place conn none p ∙ was ∙ (λ i. open_of (sym (or-false opened) i) (sym (or-false closed) i) gone)

-- nothing that is given up was sent to it
opening_given_up : (ledger : Ledger) (sends pieces : List Send) (place conn : ℕ) (opened closed gone b : Bool) → conn == place ≡ b → connection_of ledger.connections place ≡ None → Shows ledger sends pieces
    → (open_of opened closed gone ≡ true → length (sent_to conn (take ledger.first sends)) ≤ length (sent_to conn pieces))
    → open_of (opened || b) (closed || false) gone ≡ true → length (sent_to conn (take ledger.first sends)) ≤ length (sent_to conn pieces)
opening_given_up ledger sends pieces place conn opened closed gone true p none shows was passes =
    let here : earlier_at ledger.connections conn ≡ length (sent_to conn (take ledger.first sends)) = shows.earlier conn in
    let none_here : earlier_at ledger.connections conn ≡ 0 = none_earlier ledger.connections conn (ap (connection_of ledger.connections) (eqb-true conn place p) ∙ none) in
    omega arith
opening_given_up ledger sends pieces place conn opened closed gone false p none shows was passes = was ((λ i. open_of (sym (or-false opened) i) (sym (or-false closed) i) gone) ∙ passes)

pub keeps_opening : (bounds : Bounds) (entries : List Entry) (sends : List Send) (place : ℕ) (ledger : Ledger) → heeded bounds (events_of bounds entries) ≡ events_of bounds entries
    → heeded bounds (events_of bounds (entries ++ Took (Opens place) ∷ [])) ≡ events_of bounds entries ++ Opens place ∷ []
    → opens place (heeded bounds (events_of bounds entries)) ≡ false → closes place (heeded bounds (events_of bounds entries)) ≡ false
    → KeepsReplies bounds entries None sends ledger → KeepsReplies bounds (entries ++ Took (Opens place) ∷ []) None sends (with_connection ledger place)
keeps_opening bounds entries sends place ledger all heeds fresh stays keeps = record {
  shows = subst (Shows (with_connection ledger place) sends) (sym (passed_in-took bounds entries opening)) (shows-opens ledger sends (passed_in bounds entries) place none keeps.shows);
  opened = λ conn. opened_known ledger.connections place conn (conn == place) refl none ∙ (λ i. keeps.opened conn i || eqb_turns conn place i) ∙ sym (opened_behind bounds entries opening conn all heeds);
  may = λ conn. opening_may ledger.connections place conn (was_opened conn) (was_closed conn) (is_gone conn entries) (conn == place) refl none (new conn) (keeps.may conn)
      ∙ ap (λ (b : Bool). open_of (was_opened conn || b) (was_closed conn || false) (is_gone conn entries)) (eqb_turns conn place) ∙ sym (open_behind bounds entries opening conn all heeds);
  gone = λ conn gone. opened_behind bounds entries opening conn all heeds ∙ ap (λ (b : Bool). b || (place == conn)) (keeps.gone conn (sym (gone-took conn entries opening) ∙ gone));
  given_up = λ conn passes. subst (λ (pieces : List Send). length (sent_to conn (take ledger.first sends)) ≤ length (sent_to conn pieces)) (sym (passed_in-took bounds entries opening))
      (opening_given_up ledger sends (passed_in bounds entries) place conn (was_opened conn) (was_closed conn) (is_gone conn entries) (conn == place) refl none keeps.shows (keeps.given_up conn)
      (ap (λ (b : Bool). open_of (was_opened conn || b) (was_closed conn || false) (is_gone conn entries)) (eqb_turns conn place) ∙ sym (open_behind bounds entries opening conn all heeds) ∙ passes));
  sendable = keeps.sendable;
}
  where
    opening : LinkEvent
    opening = Opens place

    was_opened : ℕ → Bool
    was_opened conn = opens conn (heeded bounds (events_of bounds entries))

    was_closed : ℕ → Bool
    was_closed conn = closes conn (heeded bounds (events_of bounds entries))

    none : connection_of ledger.connections place ≡ None
    none = is_unknown bounds entries sends None ledger place keeps fresh

    new : (conn : ℕ) → conn ≡ place → (was_opened conn ≡ false) × (was_closed conn ≡ false) × (is_gone conn entries ≡ false)
    new conn same = (ap was_opened same ∙ fresh, ap was_closed same ∙ stays, ap (λ (n : ℕ). is_gone n entries) same ∙ not_gone (is_gone place entries) (was_opened place) (keeps.gone place) fresh)
