-- What one more piece changes of a moment: what is owed stays owed while its connection isn't gone, and what was passed stays so.
use Rattle.session_history.specs.Opened.{is_open}
use Rattle.link_gate.proofs.Terms.{Bool, List, None, Option, Some, [], ap, append_assoc, eqb, false, inl, inr, not, refl, subst, sym, true, ℕ, ◌&&◌, ◌++◌, ◌+◌, ◌||◌, ◌∙◌, ◌∷◌, ◌≡◌, ◌≤◌, and_from, eq-eqb, or_parts, true≢false, option_map, unwrap_or, Prefix, Send, sent_to, Entry, Gave, Took, LinkEvent, Closes, Ends, Opens, Piece, Settles, prefix_sent, prefix_trans, events_of-gave, items_in-gave, passed_in-gave, Bounds, events_of, heeded, received, is_close_of, is_closed_by, is_closing, then_entry, closes, is_gone, opens, IsDueBy, IsMadeDue, IsOwed, IsPassed, Latest, Moment, Stands, behind, journal, latest, place_at, received_before, passed_in}

-- a piece isn't an event
pub latest-gave : (entries : List Entry) (conn : ℕ) (bytes : List ℕ) (gone : Bool) → latest (entries ++ Gave conn bytes gone ∷ []) ≡ latest entries
latest-gave [] conn bytes gone = refl
latest-gave (Gave to more went ∷ entries) conn bytes gone = ap (option_map (behind (Gave to more went))) (latest-gave entries conn bytes gone)
latest-gave (Took Ends ∷ entries) conn bytes gone = ap (option_map (behind (Took Ends))) (latest-gave entries conn bytes gone)
latest-gave (Took (Opens c) ∷ entries) conn bytes gone =
    ap (λ (l : Option Latest). Some (unwrap_or (option_map (behind (Took (Opens c))) l) (record { before = []; event = Opens c }))) (latest-gave entries conn bytes gone)
latest-gave (Took (Piece c more) ∷ entries) conn bytes gone =
    ap (λ (l : Option Latest). Some (unwrap_or (option_map (behind (Took (Piece c more))) l) (record { before = []; event = Piece c more }))) (latest-gave entries conn bytes gone)
latest-gave (Took (Closes c) ∷ entries) conn bytes gone =
    ap (λ (l : Option Latest). Some (unwrap_or (option_map (behind (Took (Closes c))) l) (record { before = []; event = Closes c }))) (latest-gave entries conn bytes gone)
latest-gave (Took Settles ∷ entries) conn bytes gone =
    ap (λ (l : Option Latest). Some (unwrap_or (option_map (behind (Took Settles)) l) (record { before = []; event = Settles }))) (latest-gave entries conn bytes gone)

or_assoc : (a b c : Bool) → (a || (b || c)) ≡ ((a || b) || c)
or_assoc true b c = refl
or_assoc false b c = refl

or_none : (a : Bool) → (a || false) ≡ a
or_none true = refl
or_none false = refl

-- which connections are gone behind it
pub is_gone-gave : (entries : List Entry) (conn : ℕ) (bytes : List ℕ) (gone : Bool) (q : ℕ) → is_gone q (entries ++ Gave conn bytes gone ∷ []) ≡ (is_gone q entries || (eqb conn q && gone))
is_gone-gave [] conn bytes gone q = or_none (eqb conn q && gone)
is_gone-gave (Took event ∷ entries) conn bytes gone q = is_gone-gave entries conn bytes gone q
is_gone-gave (Gave to more went ∷ entries) conn bytes gone q =
    ap (λ (b : Bool). (eqb to q && went) || b) (is_gone-gave entries conn bytes gone q) ∙ or_assoc (eqb to q && went) (is_gone q entries) (eqb conn q && gone)

-- the entries of a moment with one more
pub journal-then : (moment : Moment) (e : Entry) → journal (then_entry moment e) ≡ journal moment ++ e ∷ []
journal-then moment e = sym (append_assoc moment.start moment.since (e ∷ []))

-- a connection that isn't gone behind it wasn't gone
pub not_gone : (entries : List Entry) (conn : ℕ) (bytes : List ℕ) (gone : Bool) (q : ℕ) → is_gone q (entries ++ Gave conn bytes gone ∷ []) ≡ false → is_gone q entries ≡ false
not_gone entries conn bytes gone q h = (or_parts (is_gone q entries) (eqb conn q && gone) (sym (is_gone-gave entries conn bytes gone q) ∙ h)).0

-- what is open, by the events and the pieces
and_last : (o c g : Bool) → (o && not c && not g) ≡ true → g ≡ false
and_last true true g h = absurd (true≢false (sym h))
and_last true false true h = absurd (true≢false (sym h))
and_last true false false h = refl
and_last false c g h = absurd (true≢false (sym h))

pub open_not_gone : (bounds : Bounds) (entries : List Entry) (q : ℕ) → is_open bounds entries q ≡ true → is_gone q entries ≡ false
open_not_gone bounds entries q h = and_last (opens q (heeded bounds (events_of bounds entries))) (closes q (heeded bounds (events_of bounds entries))) (is_gone q entries) h

and_middle : (o c g : Bool) → (o && not c && not g) ≡ true → c ≡ false
and_middle true true g h = absurd (true≢false (sym h))
and_middle true false g h = refl
and_middle false c g h = absurd (true≢false (sym h))

pub open_not_closed : (bounds : Bounds) (entries : List Entry) (q : ℕ) → is_open bounds entries q ≡ true → closes q (heeded bounds (events_of bounds entries)) ≡ false
open_not_closed bounds entries q h = and_middle (opens q (heeded bounds (events_of bounds entries))) (closes q (heeded bounds (events_of bounds entries))) (is_gone q entries) h

-- openness changes only where the connection is gone
pub is_open-same : (bounds : Bounds) (entries : List Entry) (conn : ℕ) (bytes : List ℕ) (gone : Bool) (q : ℕ) → is_gone q (entries ++ Gave conn bytes gone ∷ []) ≡ false
    → is_open bounds (entries ++ Gave conn bytes gone ∷ []) q ≡ is_open bounds entries q
is_open-same bounds entries conn bytes gone q h =
    (λ i. opens q (heeded bounds (events_of-gave bounds entries conn bytes gone i)) && not (closes q (heeded bounds (events_of-gave bounds entries conn bytes gone i))) && not ((h ∙ sym (not_gone entries conn bytes gone q h)) i))

pub open_before : (bounds : Bounds) (entries : List Entry) (conn : ℕ) (bytes : List ℕ) (gone : Bool) (q : ℕ) → is_open bounds (entries ++ Gave conn bytes gone ∷ []) q ≡ true → is_open bounds entries q ≡ true
open_before bounds entries conn bytes gone q h =
    sym (is_open-same bounds entries conn bytes gone q (open_not_gone bounds (entries ++ Gave conn bytes gone ∷ []) q h)) ∙ h

pub closes-gave : (bounds : Bounds) (entries : List Entry) (conn : ℕ) (bytes : List ℕ) (gone : Bool) (q : ℕ) → closes q (heeded bounds (events_of bounds (entries ++ Gave conn bytes gone ∷ []))) ≡ closes q (heeded bounds (events_of bounds entries))
closes-gave bounds entries conn bytes gone q = ap (λ (events : List LinkEvent). closes q (heeded bounds events)) (events_of-gave bounds entries conn bytes gone)

-- a connection closes behind it exactly where it did
pub is_closing-gave : (bounds : Bounds) (moment : Moment) (conn : ℕ) (bytes : List ℕ) (gone : Bool) (q : ℕ) → is_closing bounds (then_entry moment (Gave conn bytes gone)) q ≡ is_closing bounds moment q
is_closing-gave bounds moment conn bytes gone q =
    (λ i. is_closed_by (latest-gave moment.since conn bytes gone i) q && (ap (λ (entries : List Entry). closes q (heeded bounds (events_of bounds entries))) (journal-then moment (Gave conn bytes gone)) ∙ closes-gave bounds (journal moment) conn bytes gone q) i)

-- how much was received behind it
pub received-gave : (bounds : Bounds) (moment : Moment) (conn : ℕ) (bytes : List ℕ) (gone : Bool) → received bounds (journal (then_entry moment (Gave conn bytes gone))) ≡ received bounds (journal moment)
received-gave bounds moment conn bytes gone = ap (received bounds) (journal-then moment (Gave conn bytes gone)) ∙ ap Rattle.std.proofs.Common.length (items_in-gave bounds (journal moment) conn bytes gone)

-- what the last event makes due, at two moments whose connections stand alike
pub due_by : (bounds : Bounds) (first second : Moment) (conn taken : ℕ) (last : Option Latest) → first.start ≡ second.start → is_open bounds (journal second) conn ≡ is_open bounds (journal first) conn
    → closes conn (heeded bounds (events_of bounds (journal second))) ≡ closes conn (heeded bounds (events_of bounds (journal first))) → is_gone conn (journal second) ≡ false → IsDueBy bounds (place_at first) conn taken last → IsDueBy bounds (place_at second) conn taken last
due_by bounds first second conn taken None start opened closed gone h = h
due_by bounds first second conn taken (Some last) start opened closed gone h = by last.event h
  where
    by : (e : LinkEvent) → IsMadeDue bounds (place_at first) conn taken e (received_before bounds (place_at first) last) → IsMadeDue bounds (place_at second) conn taken e (received_before bounds (place_at second) last)
    by Settles k = (opened ∙ k.0, subst (λ (s : List Entry). taken ≤ received bounds (s ++ last.before)) start k.1)
    by (Closes c) k = (k.0, closed ∙ k.1, gone, subst (λ (s : List Entry). taken ≤ received bounds (s ++ last.before)) start k.3)
    by (Opens c) k = k
    by (Piece to bytes) k = k
    by Ends k = k

owed_at : (bounds : Bounds) (hold : ℕ) (first second : Moment) (send : Send) → first.start ≡ second.start → first.at_end ≡ second.at_end → latest first.since ≡ latest second.since
    → is_open bounds (journal second) send.conn ≡ is_open bounds (journal first) send.conn → closes send.conn (heeded bounds (events_of bounds (journal second))) ≡ closes send.conn (heeded bounds (events_of bounds (journal first)))
    → is_gone send.conn (journal second) ≡ false → first.taken ≡ second.taken → IsOwed bounds hold first send → IsOwed bounds hold second send
owed_at bounds hold first second send start end last opened closed gone count (inl (is, inl enough)) = inl (opened ∙ is, inl (subst (λ (n : ℕ). send.taken + hold ≤ n) count enough))
owed_at bounds hold first second send start end last opened closed gone count (inl (is, inr at_end)) = inl (opened ∙ is, inr (sym end ∙ at_end))
owed_at bounds hold first second send start end last opened closed gone count (inr due) =
    inr (subst (IsDueBy bounds (place_at second) send.conn send.taken) last (due_by bounds first second send.conn send.taken (latest first.since) start opened closed gone due))

-- what is owed stays so behind a piece, unless it found the connection gone
pub owed_then : (bounds : Bounds) (hold : ℕ) (moment : Moment) (conn : ℕ) (bytes : List ℕ) (gone : Bool) (send : Send) → is_gone send.conn (journal (then_entry moment (Gave conn bytes gone))) ≡ false → IsOwed bounds hold moment send
    → IsOwed bounds hold (then_entry moment (Gave conn bytes gone)) send
owed_then bounds hold moment conn bytes gone send still owed =
    let e : Entry = Gave conn bytes gone in
    let same : journal (then_entry moment e) ≡ journal moment ++ e ∷ [] = journal-then moment e in
    owed_at bounds hold moment (then_entry moment e) send refl refl (sym (latest-gave moment.since conn bytes gone))
    (ap (λ (entries : List Entry). is_open bounds entries send.conn) same ∙ is_open-same bounds (journal moment) conn bytes gone send.conn (sym (ap (is_gone send.conn) same) ∙ still))
    (ap (λ (entries : List Entry). closes send.conn (heeded bounds (events_of bounds entries))) same ∙ closes-gave bounds (journal moment) conn bytes gone send.conn) still refl owed

-- nothing is owed to a connection that is gone
pub due_not_gone : (bounds : Bounds) (moment : Moment) (conn taken : ℕ) (last : Option Latest) → IsDueBy bounds (place_at moment) conn taken last → is_gone conn (journal moment) ≡ false
due_not_gone bounds moment conn taken None h = absurd h
due_not_gone bounds moment conn taken (Some last) h = by last.event h
  where
    by : (e : LinkEvent) → IsMadeDue bounds (place_at moment) conn taken e (received_before bounds (place_at moment) last) → is_gone conn (journal moment) ≡ false
    by Settles k = open_not_gone bounds (journal moment) conn k.0
    by (Closes c) k = k.2
    by (Opens c) k = absurd k
    by (Piece to bytes) k = absurd k
    by Ends k = absurd k

pub owed_not_gone : (bounds : Bounds) (hold : ℕ) (moment : Moment) (send : Send) → IsOwed bounds hold moment send → is_gone send.conn (journal moment) ≡ false
owed_not_gone bounds hold moment send (inl why) = open_not_gone bounds (journal moment) send.conn why.0
owed_not_gone bounds hold moment send (inr due) = due_not_gone bounds moment send.conn send.taken (latest moment.since) due

-- what is owed behind a piece was owed before it
pub owed_before : (bounds : Bounds) (hold : ℕ) (moment : Moment) (conn : ℕ) (bytes : List ℕ) (gone : Bool) (send : Send) → IsOwed bounds hold (then_entry moment (Gave conn bytes gone)) send → IsOwed bounds hold moment send
owed_before bounds hold moment conn bytes gone send owed =
    let e : Entry = Gave conn bytes gone in
    let same : journal (then_entry moment e) ≡ journal moment ++ e ∷ [] = journal-then moment e in
    let here : is_gone send.conn (journal moment ++ e ∷ []) ≡ false = sym (ap (is_gone send.conn) same) ∙ (owed_not_gone bounds hold (then_entry moment e) send owed) in
    owed_at bounds hold (then_entry moment e) moment send refl refl (latest-gave moment.since conn bytes gone)
    (sym (ap (λ (entries : List Entry). is_open bounds entries send.conn) same ∙ is_open-same bounds (journal moment) conn bytes gone send.conn here))
    (sym (ap (λ (entries : List Entry). closes send.conn (heeded bounds (events_of bounds entries))) same ∙ closes-gave bounds (journal moment) conn bytes gone send.conn))
    (not_gone (journal moment) conn bytes gone send.conn here) refl owed

-- an owed send is to an open connection, or to one that closes
pub due_open : (bounds : Bounds) (moment : Moment) (conn taken : ℕ) (last : Option Latest) → (is_closed_by last conn && closes conn (heeded bounds (events_of bounds (journal moment)))) ≡ false → IsDueBy bounds (place_at moment) conn taken last → is_open bounds (journal moment) conn ≡ true
due_open bounds moment conn taken None other h = absurd h
due_open bounds moment conn taken (Some last) other h = by last.event other h
  where
    by : (e : LinkEvent) → (is_close_of conn e && closes conn (heeded bounds (events_of bounds (journal moment)))) ≡ false → IsMadeDue bounds (place_at moment) conn taken e (received_before bounds (place_at moment) last) → is_open bounds (journal moment) conn ≡ true
    by Settles no_close k = k.0
    by (Closes c) no_close k = absurd (true≢false (sym (and_from (eqb c conn) (closes conn (heeded bounds (events_of bounds (journal moment)))) (eq-eqb c conn k.0) k.1) ∙ no_close))
    by (Opens c) no_close k = absurd k
    by (Piece to bytes) no_close k = absurd k
    by Ends no_close k = absurd k

pub owed_open : (bounds : Bounds) (hold : ℕ) (moment : Moment) (send : Send) → is_closing bounds moment send.conn ≡ false → IsOwed bounds hold moment send → is_open bounds (journal moment) send.conn ≡ true
owed_open bounds hold moment send other (inl why) = why.0
owed_open bounds hold moment send other (inr due) = due_open bounds moment send.conn send.taken (latest moment.since) other due

-- what was passed stays so
pub passed-prefix : (bounds : Bounds) (entries : List Entry) (conn : ℕ) (bytes : List ℕ) (gone : Bool) (q : ℕ) → Prefix (sent_to q (passed_in bounds entries)) (sent_to q (passed_in bounds (entries ++ Gave conn bytes gone ∷ [])))
passed-prefix bounds entries conn bytes gone q =
    prefix_sent q (passed_in bounds entries) (passed_in bounds (entries ++ Gave conn bytes gone ∷ [])) (record { conn = conn; bytes = bytes; taken = received bounds entries } ∷ [], sym (passed_in-gave bounds entries conn bytes gone))

pub passed_then : (bounds : Bounds) (moment : Moment) (conn : ℕ) (bytes : List ℕ) (gone : Bool) (sends : List Send) (send : Send) (stands : Stands sends send) → IsPassed bounds (journal moment) sends send stands
    → IsPassed bounds (journal (then_entry moment (Gave conn bytes gone))) sends send stands
passed_then bounds moment conn bytes gone sends send stands passed =
    subst (λ (entries : List Entry). IsPassed bounds entries sends send stands) (sym (journal-then moment (Gave conn bytes gone)))
    (prefix_trans (sent_to send.conn (stands.earlier ++ send ∷ [])) (sent_to send.conn (passed_in bounds (journal moment))) (sent_to send.conn (passed_in bounds (journal moment ++ Gave conn bytes gone ∷ []))) passed (passed-prefix bounds (journal moment) conn bytes gone send.conn))
