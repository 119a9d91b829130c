-- What a piece makes of a ledger beside its journal, and how far each connection has come.
use Rattle.reply_ledger.specs.Shows.{Shows}
use Rattle.session_history.specs.Opened as journals
use Rattle.link_gate.proofs.Terms.{Bool, List, None, Option, Some, [], ap, arith, cond, drop, eqb, false, if◌then◌else◌, length, length-append, length-drop, not, refl, subst, sym, take, true, ℕ, ◌&&◌, ◌++◌, ◌+◌, ◌-◌, ◌||◌, ◌∙◌, ◌∷◌, ◌≡◌, ◌≤◌, and_parts, eqb-true, true≢false, option_map, is_some, Send, sent_to, Entry, Gave, LinkEvent, connection_of-changed, is_open-changed, come, is_open-gone, opened_known, length-bytes_of, bytes_of-stamped_of, shows-marked, shows-passed, earlier_at, Connection, Ledger, changed, connection_of, gone_connection, passed_connection, passed_to, stamped, stamped_to, with_change, with_passed, stamped_of, events_of-gave, passed_in-gave, Bounds, events_of, heeded, received, KeepsReplies, may_pass, closes, is_gone, opens, passed_in}
use Rattle.link_gate.proofs.MomentLemmas.{is_gone-gave, passed-prefix}

-- a change of a connection leaves it known
pub known-changed : (conn : ℕ) (change : Connection → Connection) → ((c : Connection) → (change c).conn ≡ c.conn) → (C : List Connection) (q : ℕ) → is_some (connection_of (changed conn change C) q) ≡ is_some (connection_of C q)
known-changed conn change keeps C q = ap is_some (connection_of-changed conn change keeps q C) ∙ by (eqb conn q) (connection_of C q)
  where
    by : (b : Bool) (o : Option Connection) → is_some (if b then option_map change o else o) ≡ is_some o
    by true None = refl
    by true (Some c) = refl
    by false o = refl

-- how much a ledger knows to be passed: what it gave up, and what it has
pub passed_length : (bounds : Bounds) (entries : List Entry) (closing : Option ℕ) (sends : List Send) (ledger : Ledger) (conn : ℕ) → KeepsReplies bounds entries closing sends ledger → may_pass bounds entries closing conn ≡ true
    → length (sent_to conn (passed_in bounds entries)) ≡ length (sent_to conn (take ledger.first sends)) + come ledger.connections conn
passed_length bounds entries closing sends ledger conn keeps may =
    let pieces : List Send = passed_in bounds entries in
    let kept : come ledger.connections conn ≡ length (stamped_of conn pieces) - earlier_at ledger.connections conn =
    length-bytes_of (stamped_to ledger.connections conn) ∙ ap length (keeps.shows.passed conn) ∙ length-drop (earlier_at ledger.connections conn) (stamped_of conn pieces) in
    omega (arith, sym (length-bytes_of (stamped_of conn pieces)) ∙ ap length (bytes_of-stamped_of conn pieces), kept, keeps.shows.earlier conn, keeps.given_up conn may)

-- what may be passed behind a piece
and_or : (o c g x : Bool) → (o && not c && not (g || x)) ≡ ((o && not c && not g) && not x)
and_or true true g x = refl
and_or true false true x = refl
and_or true false false x = refl
and_or false c g x = refl

and_or_two : (o g x : Bool) → (o && not (g || x)) ≡ ((o && not g) && not x)
and_or_two true true x = refl
and_or_two true false x = refl
and_or_two false g x = refl

is_open-gave : (bounds : Bounds) (entries : List Entry) (conn : ℕ) (bytes : List ℕ) (gone : Bool) (q : ℕ) → journals.is_open bounds (entries ++ Gave conn bytes gone ∷ []) q ≡ (journals.is_open bounds entries q && not (eqb conn q && gone))
is_open-gave bounds entries conn bytes gone q =
    (λ i. opens q (heeded bounds (events_of-gave bounds entries conn bytes gone i)) && not (closes q (heeded bounds (events_of-gave bounds entries conn bytes gone i))) && not (is_gone-gave entries conn bytes gone q i))
    ∙ and_or (opens q (heeded bounds (events_of bounds entries))) (closes q (heeded bounds (events_of bounds entries))) (is_gone q entries) (eqb conn q && gone)

pub may_pass-gave : (bounds : Bounds) (entries : List Entry) (closing : Option ℕ) (conn : ℕ) (bytes : List ℕ) (gone : Bool) (q : ℕ) → may_pass bounds (entries ++ Gave conn bytes gone ∷ []) closing q ≡ (may_pass bounds entries closing q && not (eqb conn q && gone))
may_pass-gave bounds entries None conn bytes gone q = is_open-gave bounds entries conn bytes gone q
may_pass-gave bounds entries (Some c) conn bytes gone q = by (eqb q c)
  where
    by : (b : Bool) → cond b (opens q (heeded bounds (events_of bounds (entries ++ Gave conn bytes gone ∷ []))) && not (is_gone q (entries ++ Gave conn bytes gone ∷ []))) (journals.is_open bounds (entries ++ Gave conn bytes gone ∷ []) q)
        ≡ (cond b (opens q (heeded bounds (events_of bounds entries)) && not (is_gone q entries)) (journals.is_open bounds entries q) && not (eqb conn q && gone))
    by true = (λ i. opens q (heeded bounds (events_of-gave bounds entries conn bytes gone i)) && not (is_gone-gave entries conn bytes gone q i)) ∙ and_or_two (opens q (heeded bounds (events_of bounds entries))) (is_gone q entries) (eqb conn q && gone)
    by false = is_open-gave bounds entries conn bytes gone q

pub may_pass-before : (bounds : Bounds) (entries : List Entry) (closing : Option ℕ) (conn : ℕ) (bytes : List ℕ) (gone : Bool) (q : ℕ) → may_pass bounds (entries ++ Gave conn bytes gone ∷ []) closing q ≡ true → may_pass bounds entries closing q ≡ true
may_pass-before bounds entries closing conn bytes gone q h = (and_parts (may_pass bounds entries closing q) (not (eqb conn q && gone)) (sym (may_pass-gave bounds entries closing conn bytes gone q) ∙ h)).0

-- the next bytes of a connection's stream, so many of them
abbrev pub next_of : Ledger → ℕ → ℕ → List ℕ
next_of ledger conn count = take count (drop (length (passed_to ledger conn)) (sent_to conn ledger.kept))

given_up-then : (bounds : Bounds) (entries : List Entry) (closing : Option ℕ) (sends : List Send) (ledger : Ledger) (conn : ℕ) (bytes : List ℕ) (gone : Bool) → KeepsReplies bounds entries closing sends ledger
    → (q : ℕ) → may_pass bounds (entries ++ Gave conn bytes gone ∷ []) closing q ≡ true → length (sent_to q (take ledger.first sends)) ≤ length (sent_to q (passed_in bounds (entries ++ Gave conn bytes gone ∷ [])))
given_up-then bounds entries closing sends ledger conn bytes gone keeps q may =
    let more = passed-prefix bounds entries conn bytes gone q in
    omega (arith, keeps.given_up q (may_pass-before bounds entries closing conn bytes gone q may), ap length more.1, length-append (sent_to q (passed_in bounds entries)) more.0)

shows-then : (bounds : Bounds) (entries : List Entry) (closing : Option ℕ) (sends : List Send) (ledger : Ledger) (conn count stamp : ℕ) (bytes : List ℕ) (gone : Bool) → KeepsReplies bounds entries closing sends ledger → may_pass bounds entries closing conn ≡ true → received bounds entries ≡ stamp
    → bytes ≡ next_of ledger conn count → Shows (with_passed ledger conn count stamp) sends (passed_in bounds (entries ++ Gave conn bytes gone ∷ []))
shows-then bounds entries closing sends ledger conn count stamp bytes gone keeps may stamped_at is =
    let pieces : List Send = passed_in bounds entries in
    let whole : length (stamped_of conn pieces) ≡ length (sent_to conn pieces) = sym (length-bytes_of (stamped_of conn pieces)) ∙ ap length (bytes_of-stamped_of conn pieces) in
    let long : earlier_at ledger.connections conn ≤ length (stamped_of conn pieces) = omega (arith, whole, keeps.shows.earlier conn, keeps.given_up conn may) in
    let same : passed_in bounds (entries ++ Gave conn bytes gone ∷ []) ≡ pieces ++ record { conn = conn; bytes = next_of ledger conn count; taken = stamp } ∷ [] =
    passed_in-gave bounds entries conn bytes gone ∙ (λ i. pieces ++ record { conn = conn; bytes = is i; taken = stamped_at i } ∷ []) in
    subst (Shows (with_passed ledger conn count stamp) sends) (sym same) (shows-passed ledger sends pieces conn count stamp (opened_known ledger.connections conn (keeps.may conn ∙ may)) long keeps.shows)

opened-then : (bounds : Bounds) (entries : List Entry) (closing : Option ℕ) (sends : List Send) (ledger : Ledger) (conn : ℕ) (bytes : List ℕ) (gone : Bool) → KeepsReplies bounds entries closing sends ledger
    → (q : ℕ) → is_some (connection_of ledger.connections q) ≡ opens q (heeded bounds (events_of bounds (entries ++ Gave conn bytes gone ∷ [])))
opened-then bounds entries closing sends ledger conn bytes gone keeps q = keeps.opened q ∙ ap (λ (events : List LinkEvent). opens q (heeded bounds events)) (sym (events_of-gave bounds entries conn bytes gone))

-- only a connection that was opened is gone
or_parts : {P : Type 0} (a b g : Bool) → (a || (b && g)) ≡ true → (a ≡ true → P) → (b ≡ true → P) → P
or_parts true b g h one other = one refl
or_parts false true g h one other = other refl
or_parts false false g h one other = absurd (true≢false (sym h))

gone-then : (bounds : Bounds) (entries : List Entry) (closing : Option ℕ) (sends : List Send) (ledger : Ledger) (conn : ℕ) (bytes : List ℕ) (gone : Bool) → KeepsReplies bounds entries closing sends ledger → may_pass bounds entries closing conn ≡ true
    → (q : ℕ) → is_gone q (entries ++ Gave conn bytes gone ∷ []) ≡ true → opens q (heeded bounds (events_of bounds (entries ++ Gave conn bytes gone ∷ []))) ≡ true
gone-then bounds entries closing sends ledger conn bytes gone keeps may q is =
    ap (λ (events : List LinkEvent). opens q (heeded bounds events)) (events_of-gave bounds entries conn bytes gone)
    ∙ or_parts (is_gone q entries) (eqb conn q) gone (sym (is_gone-gave entries conn bytes gone q) ∙ is) (keeps.gone q)
    (λ same. ap (λ (c : ℕ). opens c (heeded bounds (events_of bounds entries))) (sym (eqb-true conn q same)) ∙ sym (keeps.opened conn) ∙ opened_known ledger.connections conn (keeps.may conn ∙ may))

not_false : (a b : Bool) → a ≡ (a && not (b && false))
not_false true true = refl
not_false true false = refl
not_false false b = refl

not_and_true : (a b : Bool) → (a && not b) ≡ (a && not (b && true))
not_and_true true true = refl
not_and_true true false = refl
not_and_true false b = refl

-- a piece was passed
pub keeps-passed : (bounds : Bounds) (entries : List Entry) (closing : Option ℕ) (sends : List Send) (ledger : Ledger) (conn count stamp : ℕ) (bytes : List ℕ) → KeepsReplies bounds entries closing sends ledger → may_pass bounds entries closing conn ≡ true → received bounds entries ≡ stamp
    → bytes ≡ next_of ledger conn count → KeepsReplies bounds (entries ++ Gave conn bytes false ∷ []) closing sends (with_passed ledger conn count stamp)
keeps-passed bounds entries closing sends ledger conn count stamp bytes keeps may stamped_at is = record {
  shows = shows-then bounds entries closing sends ledger conn count stamp bytes false keeps may stamped_at is;
  opened = (λ q. known-changed conn (passed_connection (stamped stamp (next_of ledger conn count))) (λ c. refl) ledger.connections q ∙ opened-then bounds entries closing sends ledger conn bytes false keeps q);
  may = (λ q. is_open-changed conn (passed_connection (stamped stamp (next_of ledger conn count))) (λ c. refl) (λ c. refl) ledger.connections q ∙ keeps.may q ∙ not_false (may_pass bounds entries closing q) (eqb conn q) ∙ sym (may_pass-gave bounds entries closing conn bytes false q));
  given_up = given_up-then bounds entries closing sends ledger conn bytes false keeps;
  sendable = keeps.sendable;
  gone = gone-then bounds entries closing sends ledger conn bytes false keeps may;
}

-- some first bytes of one were passed, and its connection is gone
pub keeps-gone : (bounds : Bounds) (entries : List Entry) (closing : Option ℕ) (sends : List Send) (ledger : Ledger) (conn count stamp : ℕ) (bytes : List ℕ) → KeepsReplies bounds entries closing sends ledger → may_pass bounds entries closing conn ≡ true → received bounds entries ≡ stamp
    → bytes ≡ next_of ledger conn count → KeepsReplies bounds (entries ++ Gave conn bytes true ∷ []) closing sends (with_change (with_passed ledger conn count stamp) conn gone_connection)
keeps-gone bounds entries closing sends ledger conn count stamp bytes keeps may stamped_at is =
    let after : Ledger = with_passed ledger conn count stamp in
    record {
      shows = shows-marked after sends (passed_in bounds (entries ++ Gave conn bytes true ∷ [])) conn gone_connection (λ c. refl) (λ c. refl) (λ c. refl) (shows-then bounds entries closing sends ledger conn count stamp bytes true keeps may stamped_at is);
      opened = (λ q.
          known-changed conn gone_connection (λ c. refl) after.connections q ∙ known-changed conn (passed_connection (stamped stamp (next_of ledger conn count))) (λ c. refl) ledger.connections q ∙ opened-then bounds entries closing sends ledger conn bytes true keeps q);
      may = (λ q.
          is_open-gone conn after.connections q ∙ ap (λ (b : Bool). b && not (eqb conn q)) (is_open-changed conn (passed_connection (stamped stamp (next_of ledger conn count))) (λ c. refl) (λ c. refl) ledger.connections q ∙ keeps.may q)
          ∙ not_and_true (may_pass bounds entries closing q) (eqb conn q) ∙ sym (may_pass-gave bounds entries closing conn bytes true q));
      given_up = given_up-then bounds entries closing sends ledger conn bytes true keeps;
      sendable = keeps.sendable;
      gone = gone-then bounds entries closing sends ledger conn bytes true keeps may;
    }
