-- What the ledger of a session says of what was passed, and what a close and a send make of it. Who passes replies by it cites these.
use Rattle.reply_ledger.specs.Ledger as ledgers
use Rattle.session_history.specs.Opened.{is_open}
use Rattle.link_gate.proofs.Terms.{Bool, List, None, Option, Some, [], ap, append-nil, append_assoc, arith, cond, eqb, false, length, not, refl, subst, sym, true, ℕ, ◌&&◌, ◌++◌, ◌∙◌, ◌∷◌, ◌≡◌, ◌≤◌, and_right, eq-eqb, eqb-true, ne_eqb, true≢false, take-append-le, option_map, option_map_or, is_some, Send, sent_to, Entry, Gave, Took, connection_of-changed, next_none, rest_none, shows-marked, shows-sent, prefix-le, Connection, IsOpened, Ledger, changed, closed_connection, connection_of, with_change, with_send, next_part, rest_part, prefix_sent, AreDuePieces, AreFronts, then_entries, Bounds, events_of, heeded, AreSendable, IsSendable, KeepsReplies, may_pass, IsDuePiece, Rules, then_entry, closes, is_gone, opens, IsPassed, Moment, Stands, journal, passed_in}
use Rattle.link_gate.proofs.MomentLemmas.{journal-then}
use Rattle.link_gate.proofs.KeepLemmas.{known-changed}
use Rattle.link_gate.proofs.DueLemmas.{front_of, stands_front, passed_unless_left, fronts_then}
use Rattle.link_gate.proofs.ReadyLemmas.{may_rest}

-- where no part is next, each send to an open connection that was made with so many items taken was passed
pub nothing_waits : (bounds : Bounds) (entries : List Entry) (sends : List Send) (ledger : Ledger) (until : ℕ) → KeepsReplies bounds entries None sends ledger → AreFronts (passed_in bounds entries) sends → next_part ledger until ≡ None
    → (send : Send) (stands : Stands sends send) → is_open bounds entries send.conn ≡ true → send.taken ≤ until → IsPassed bounds entries sends send stands
nothing_waits bounds entries sends ledger until keeps fronts none send stands opened in_time =
    passed_unless_left bounds entries None sends ledger send stands keeps fronts opened
    (λ kept. next_none ledger until none kept.front send stands.later kept.kept (keeps.may send.conn ∙ opened) in_time)

-- nothing was sent to a connection that wasn't opened
sent_nothing : (bounds : Bounds) (entries : List Entry) (closing : Option ℕ) (sends : List Send) (ledger : Ledger) (conn : ℕ) → KeepsReplies bounds entries closing sends ledger → opens conn (heeded bounds (events_of bounds entries)) ≡ false → sent_to conn sends ≡ []
sent_nothing bounds entries closing sends ledger conn keeps unopened = keeps.shows.opened conn (of (connection_of ledger.connections conn) (keeps.opened conn ∙ unopened))
  where
    of : (o : Option Connection) → is_some o ≡ false → o ≡ None
    of None h = refl
    of (Some c) h = absurd (true≢false h)

-- where a closing connection that isn't gone has no rest, each send to it was passed
pub no_rest : (bounds : Bounds) (entries : List Entry) (sends : List Send) (ledger : Ledger) (conn : ℕ) → KeepsReplies bounds entries (Some conn) sends ledger → AreFronts (passed_in bounds entries) sends → is_gone conn entries ≡ false → rest_part ledger conn ≡ None
    → (send : Send) (stands : Stands sends send) → send.conn ≡ conn → IsPassed bounds entries sends send stands
no_rest bounds entries sends ledger conn keeps fronts stays none send stands to = of (opens conn (heeded bounds (events_of bounds entries))) refl
  where
    of : (b : Bool) → opens conn (heeded bounds (events_of bounds entries)) ≡ b → IsPassed bounds entries sends send stands
    of true is =
        let may : may_pass bounds entries (Some conn) send.conn ≡ true = ap (may_pass bounds entries (Some conn)) to ∙ may_rest bounds entries conn ∙ (λ i. is i && not (stays i)) in
        passed_unless_left bounds entries (Some conn) sends ledger send stands keeps fronts may (λ kept. rest_none ledger conn none kept.front send stands.later kept.kept to)
    of false is =
        let front : List Send = stands.earlier ++ send ∷ [] in
        let begins = prefix_sent send.conn front sends (stands_front sends send stands) in
        let nothing : length (sent_to send.conn sends) ≡ 0 = ap (λ (c : ℕ). length (sent_to c sends)) to ∙ ap length (sent_nothing bounds entries (Some conn) sends ledger conn keeps is) in
        front_of (sent_to send.conn front) (sent_to send.conn (passed_in bounds entries)) (sent_to send.conn sends) begins (fronts send.conn) (omega (arith, nothing, prefix-le (sent_to send.conn front) (sent_to send.conn sends) begins))

-- which connections are open when one is closed
is_open-closed : (conn : ℕ) (C : List Connection) (q : ℕ) → ledgers.is_open (changed conn closed_connection C) q ≡ (ledgers.is_open C q && not (eqb conn q))
unfolding ledgers.is_open
is_open-closed conn C q =
    ap (λ (o : Option Connection). option_map_or (λ (c : Connection). not c.closed && not c.gone) o false) (connection_of-changed conn closed_connection (λ c. refl) q C) ∙ by (eqb conn q) (connection_of C q)
  where
    none : (a : Bool) → false ≡ (a && false)
    none true = refl
    none false = refl

    same : (a : Bool) → a ≡ (a && true)
    same true = refl
    same false = refl

    by : (b : Bool) (o : Option Connection) → option_map_or (λ (c : Connection). not c.closed && not c.gone) (cond b (option_map closed_connection o) o) false ≡ (option_map_or (λ (c : Connection). not c.closed && not c.gone) o false && not b)
    by true None = refl
    by true (Some c) = none (not c.closed && not c.gone)
    by false None = refl
    by false (Some c) = same (not c.closed && not c.gone)

and_all : (a : Bool) → (a && true) ≡ a
and_all true = refl
and_all false = refl

-- the ledger beside the journal once a close is marked that was heeded
closed_may : (bounds : Bounds) (entries : List Entry) (conn q : ℕ) → closes conn (heeded bounds (events_of bounds entries)) ≡ true → (may_pass bounds entries (Some conn) q && not (eqb conn q)) ≡ is_open bounds entries q
closed_may bounds entries conn q closed = of (eqb conn q) refl
  where
    shut : (o c g : Bool) → c ≡ true → false ≡ (o && not c && not g)
    shut true true g h = refl
    shut true false g h = absurd (true≢false (sym h))
    shut false c g h = refl

    of : (b : Bool) → eqb conn q ≡ b → (may_pass bounds entries (Some conn) q && not (eqb conn q)) ≡ is_open bounds entries q
    of true is =
        let same : conn ≡ q = eqb-true conn q is in
        ap (λ (b : Bool). may_pass bounds entries (Some conn) q && not b) is ∙ and_right (may_pass bounds entries (Some conn) q) false refl
        ∙ shut (opens q (heeded bounds (events_of bounds entries))) (closes q (heeded bounds (events_of bounds entries))) (is_gone q entries) (subst (λ (c : ℕ). closes c (heeded bounds (events_of bounds entries)) ≡ true) same closed)
    of false is =
        ap (λ (b : Bool). may_pass bounds entries (Some conn) q && not b) is ∙ and_all (may_pass bounds entries (Some conn) q)
        ∙ ap (λ (b : Bool). cond b (opens q (heeded bounds (events_of bounds entries)) && not (is_gone q entries)) (is_open bounds entries q)) (ne_eqb q conn (λ same. true≢false (sym (eq-eqb conn q (sym same)) ∙ is)))

pub closed_keeps : (bounds : Bounds) (entries : List Entry) (sends : List Send) (ledger : Ledger) (conn : ℕ) → KeepsReplies bounds entries (Some conn) sends ledger → closes conn (heeded bounds (events_of bounds entries)) ≡ true
    → KeepsReplies bounds entries None sends (with_change ledger conn closed_connection)
closed_keeps bounds entries sends ledger conn keeps closed = record {
  shows = shows-marked ledger sends (passed_in bounds entries) conn closed_connection (λ c. refl) (λ c. refl) (λ c. refl) keeps.shows;
  opened = (λ q. known-changed conn closed_connection (λ c. refl) ledger.connections q ∙ keeps.opened q);
  may = (λ q. is_open-closed conn ledger.connections q ∙ ap (λ (b : Bool). b && not (eqb conn q)) (keeps.may q) ∙ closed_may bounds entries conn q closed);
  given_up = (λ q opened. keeps.given_up q (and_left (may_pass bounds entries (Some conn) q) (not (eqb conn q)) (closed_may bounds entries conn q closed ∙ opened)));
  sendable = keeps.sendable;
  gone = keeps.gone;
}
  where
    and_left : (a b : Bool) → (a && b) ≡ true → a ≡ true
    and_left true b h = refl
    and_left false b h = h

-- one more send to an opened connection
pub sendable_then : (sends : List Send) (send : Send) → AreSendable sends → IsSendable send → AreSendable (sends ++ send ∷ [])
sendable_then [] send are one = (one, tt)
sendable_then (first ∷ sends) send are one = (are.0, sendable_then sends send are.1 one)

pub sent_keeps : (bounds : Bounds) (entries : List Entry) (closing : Option ℕ) (sends : List Send) (ledger : Ledger) (send : Send) → KeepsReplies bounds entries closing sends ledger → IsOpened ledger send.conn → IsSendable send
    → KeepsReplies bounds entries closing (sends ++ send ∷ []) (with_send ledger send)
sent_keeps bounds entries closing sends ledger send keeps known sendable = record {
  shows = shows-sent ledger sends (passed_in bounds entries) send known keeps.shows;
  opened = keeps.opened;
  may = keeps.may;
  given_up = (λ q may. subst (λ (l : List Send). length (sent_to q l) ≤ length (sent_to q (passed_in bounds entries))) (sym (take-append-le ledger.first sends (send ∷ []) keeps.shows.counted)) (keeps.given_up q may));
  sendable = sendable_then sends send keeps.sendable sendable;
  gone = keeps.gone;
}

fronts_behind : (rules : Rules) (sends : List Send) (moment : Moment) (conn : ℕ) (bytes : List ℕ) (gone : Bool) (more : List Entry) → IsDuePiece rules sends moment conn bytes → AreFronts (passed_in rules.bounds (journal moment)) sends
    → (AreFronts (passed_in rules.bounds (journal (then_entry moment (Gave conn bytes gone)))) sends → AreFronts (passed_in rules.bounds (journal (then_entries (then_entry moment (Gave conn bytes gone)) more))) sends)
    → AreFronts (passed_in rules.bounds (journal (then_entries moment (Gave conn bytes gone ∷ more)))) sends
fronts_behind rules sends moment conn bytes gone more due fronts then =
    subst (λ (since : List Entry). AreFronts (passed_in rules.bounds (moment.start ++ since)) sends) (append_assoc moment.since (Gave conn bytes gone ∷ []) more)
    (then (subst (λ (es : List Entry). AreFronts (passed_in rules.bounds es) sends) (sym (journal-then moment (Gave conn bytes gone))) (fronts_then rules sends moment conn bytes gone due fronts)))

-- behind pieces that were due what was passed is a front of what was sent, as before
pub fronts_stay : (rules : Rules) (sends : List Send) (moment : Moment) (more : List Entry) → AreDuePieces rules sends moment more → AreFronts (passed_in rules.bounds (journal moment)) sends → AreFronts (passed_in rules.bounds (journal (then_entries moment more))) sends
fronts_stay rules sends moment [] due fronts = subst (λ (since : List Entry). AreFronts (passed_in rules.bounds (moment.start ++ since)) sends) (sym (append-nil moment.since)) fronts
fronts_stay rules sends moment (Took event ∷ more) due fronts = absurd due
fronts_stay rules sends moment (Gave conn bytes true ∷ more) due fronts = fronts_behind rules sends moment conn bytes true more due.0 fronts (λ now. fronts_stay rules sends (then_entry moment (Gave conn bytes true)) more due.1 now)
fronts_stay rules sends moment (Gave conn bytes false ∷ more) due fronts =
    fronts_behind rules sends moment conn bytes false more due.0.due fronts (λ now. fronts_stay rules sends (then_entry moment (Gave conn bytes false)) more due.1 now)
