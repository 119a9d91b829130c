-- What a ledger's calls keep.
use borrow.Author.Count.{below_more}
use Rattle.reply_ledger.proofs.Terms.{Bool, List, None, Option, Some, [], ap, append-nil, append_assoc, arith, cond, drop, false, get_or, if◌then◌else◌, inl, inr, length, length-append, length-drop, map, not, refl, replicate, subst, suc, sym, take, true, zero, ℕ, ◌&&◌, ◌++◌, ◌+◌, ◌-◌, ◌<◌, ◌∙◌, ◌∷◌, ◌≡◌, ◌≤◌, and-true, and_assoc, and_from, and_left, and_parts, and_right, cases_lt, eq-eqb, eqb-true, le-leb, leb-false, leb-true, lt-leb, lt-ltb, ltb-false, ltb-true, true≢false, drop-map, get_or_default, length-replicate, take-append-drop, list_any-append, fails_before_first, AllByRecursion, IsDistinct, list_all, list_any, position_or_len, keys_of, set_value, values_of, option_map, IsSome, find, min, nat_eq, nat_le, nat_lt, unwrap_or, ◌==◌, ◌||◌, ◌⊎◌, Prefix, Send, sent_to, Entry, Connection, IsInOrder, Ledger, NotBefore, Passed, bytes_of, changed, new_connection, passed_connection, stamped, stamped_to, stamps_of, times_of, next_part, parts_behind, rest_part, waits, agree, until, IsLawful, trimmed_connection, trimmed_connections, Kept, account_at, is_open_account, new_account, no_account, passed_end, passed_of, rest_of, send_of, sends_of, start_of, HasRoom, Holds, Laid, Stands, Writes, connections_of, ending, given_up, is_known, ledger_of, seen, trial_of, waits_in, written}
use Rattle.reply_ledger.proofs.AgreeLemmas.{agree-past, agree-split}
use Rattle.reply_ledger.proofs.AccountLemmas.{of_opened, lookup-unknown, none_kept, all_pass, of_written, pass_all, at-put, put, put-same}
use Rattle.reply_ledger.proofs.ConnectionLemmas.{connections-push, unknown-of, opened-known, connections-changed, connections-same, connections-each, is_open-of, stamped_to-of}
use Rattle.reply_ledger.proofs.PositionLemmas.{tested, not-empty, position-map, position-at, find-none, find-at, find-map, position-le, position-same, position-later, position-push, position-drop}
use Rattle.reply_ledger.proofs.EntryLemmas.{length-sends_of, all-both, behind_front, laid-drop, laid-none, laid-push, laid-same, laid-front, later-at, length_parts, lengths_at, of_parts, parts_at, one_more, order-push, parts-laid, sends_of-append, sends_of-one, sends_of-take, sent_to-append, writes-push}
use Rattle.reply_ledger.proofs.RunLemmas.{bytes_of-passed_of, order-parts, length-bytes_of, length-passed_of, passed_of-drop, passed_of-front, passed_of-more, passed_of-same, stamps_of-passed_of}

-- where fewer sends of an account wait
waits-less : (k k' : Kept) (e : Entry) → (is_open_account k' ≡ true → is_open_account k ≡ true) → passed_end k ≤ passed_end k' → (is_open_account k' && nat_lt 0 (length (rest_of (passed_end k') e))) ≡ true → (is_open_account k && nat_lt 0 (length (rest_of (passed_end k) e))) ≡ true
waits-less k k' e o le h =
    let parts = and_parts (is_open_account k') (nat_lt 0 (length (rest_of (passed_end k') e))) h in
    let some : 0 < length (rest_of (passed_end k') e) = ltb-true 0 _ parts.1 in
    and_from (is_open_account k) _ (o parts.0) (lt-ltb 0 _ (omega (arith, some, length-drop (passed_end k' - start_of e) e.bytes, length-drop (passed_end k - start_of e) e.bytes, le)))

-- the first that waits stands no earlier then
cursor-later : {n : ℕ} {new : List (ℕ × Kept)} (T : List (ℕ × Kept)) (E : List Entry) (conn : ℕ) (k : Kept) → new ≡ set_value (nat_eq conn) T k → is_known (keys_of T) conn ≡ true → (is_open_account k ≡ true → is_open_account (account_at T conn) ≡ true) → passed_end (account_at T conn) ≤ passed_end k
    → n ≡ position_or_len (waits_in (account_at T)) E → n ≤ position_or_len (waits_in (account_at new)) E
cursor-later {n = n} T E conn k is known o le at =
    let fewer : (e : Entry) → waits_in (put (account_at T) conn k) e ≡ true → waits_in (account_at T) e ≡ true = λ (e : Entry).
    at-put (λ q x. (is_open_account x && nat_lt 0 (length (rest_of (passed_end x) e))) ≡ true → (is_open_account (account_at T q) && nat_lt 0 (length (rest_of (passed_end (account_at T q)) e))) ≡ true) (account_at T) conn k (waits-less (account_at T conn) k e o le) (λ q none h. h) e.conn in
    of_written (λ B l. n ≤ position_or_len (waits_in B) E) T conn k is known (omega (arith, at, position-later (waits_in (account_at T)) (waits_in (put (account_at T) conn k)) fewer E))

-- a send of an open connection that doesn't wait is passed wholly
pub waits-not : (A : ℕ → Kept) (e : Entry) → is_open_account (A e.conn) ≡ true → waits_in A e ≡ false → length (rest_of (passed_end (A e.conn)) e) ≡ 0
waits-not A e o h = tested (nat_lt 0 (length (rest_of (passed_end (A e.conn)) e)))
    (λ t. absurd (true≢false (sym (and_from (is_open_account (A e.conn)) _ o t) ∙ h)))
    (λ f. omega (arith, ltb-false 0 _ f))

-- the end of a stream that is being written doesn't matter to the survivor's sends
stands-ends : (A B : ℕ → Kept) {K : List ℕ} {E : List Entry} {n : ℕ} → ((q : ℕ) → record (B q) { end = 0 } ≡ record (A q) { end = 0 }) → Stands A K E n → Stands B K E n
stands-ends A B {E = E} same h = record {
  distinct = h.distinct;
  laid = laid-same (λ q. ap (λ (k : Kept). k.earlier) (same q)) (λ q x. x) h.laid;
  fits = λ q. subst (λ (k : Kept). length k.stamps ≤ length (sent_to q (sends_of E))) (sym (same q)) (h.fits q);
  stamps = λ q. subst (λ (k : Kept). IsInOrder k.stamps) (sym (same q)) (h.stamps q);
  cursor = h.cursor ∙ (λ i. position_or_len (λ (e : Entry). is_open_account (sym (same e.conn) i) && nat_lt 0 (length (rest_of (passed_end (sym (same e.conn) i)) e))) E);
}

-- an account is changed, and its stream stays where it is
holds-put : {A : ℕ → Kept} {K K' : List ℕ} {E own : List Entry} {room : ℕ} {shared : Option ℕ} {n n' : ℕ} (conn : ℕ) (k : Kept) → k.earlier ≡ (A conn).earlier → (length k.stamps ≤ length (sent_to conn (sends_of E))) × IsInOrder k.stamps → k.end ≡ (A conn).end
    → IsDistinct nat_eq K' → ((q : ℕ) → is_known K q ≡ true → is_known K' q ≡ true) → n' ≡ position_or_len (waits_in (put A conn k)) E → Holds A K E own room shared n → Holds (put A conn k) K' E own room shared n'
holds-put {A = A} {E = E} {own = own} {shared = shared} conn k e s f distinct more cursor h =
    let earlier : (q : ℕ) → (put A conn k q).earlier ≡ (A q).earlier = put-same (λ (x : Kept). x.earlier) A conn k e in
    record {
      stands = record {
        distinct = distinct;
        laid = laid-same earlier more h.stands.laid;
        fits = at-put (λ q x. length x.stamps ≤ length (sent_to q (sends_of E))) A conn k s.0 (λ q none. h.stands.fits q);
        stamps = at-put (λ q x. IsInOrder x.stamps) A conn k s.1 (λ q none. h.stands.stamps q);
        cursor = cursor;
      };
      writes = record { laid = laid-same earlier more h.writes.laid; ends = λ q. put-same (λ (x : Kept). x.end) A conn k f q ∙ h.writes.ends q ∙ ap (λ (m : ℕ). m + length (sent_to q (sends_of (written E own shared)))) (sym (earlier q)) };
      room = h.room;
    }

pub holds-none : (room : ℕ) → Holds (account_at []) [] [] [] room None 0
unfolding IsDistinct account_at sends_of
holds-none room = record {
  stands = record { distinct = tt; laid = laid-none (account_at []) []; fits = λ q. omega arith; stamps = λ q. tt; cursor = refl };
  writes = record { laid = laid-none (account_at []) []; ends = λ q. refl };
  room = tt;
}

-- a connection is marked
pub marked-later : {n : ℕ} {new : List (ℕ × Kept)} (T : List (ℕ × Kept)) (E : List Entry) (conn : ℕ) (k : Kept) → new ≡ set_value (nat_eq conn) T k → is_known (keys_of T) conn ≡ true → k.earlier ≡ (account_at T conn).earlier → k.stamps ≡ (account_at T conn).stamps → is_open_account k ≡ false → n ≡ position_or_len (waits_in (account_at T)) E
    → n ≤ position_or_len (waits_in (account_at new)) E
marked-later T E conn k is known e s shut at = cursor-later T E conn k is known (λ h. absurd (true≢false (sym h ∙ shut))) (omega (arith, e, ap length s)) at

pub marked-holds : {E own : List Entry} {room : ℕ} {shared : Option ℕ} {n n' : ℕ} {new : List (ℕ × Kept)} (T : List (ℕ × Kept)) (conn : ℕ) (k : Kept) → new ≡ set_value (nat_eq conn) T k → is_known (keys_of T) conn ≡ true → k.earlier ≡ (account_at T conn).earlier → k.stamps ≡ (account_at T conn).stamps → k.end ≡ (account_at T conn).end
    → n' ≡ position_or_len (waits_in (account_at new)) E → Holds (account_at T) (keys_of T) E own room shared n → Holds (account_at new) (keys_of new) E own room shared n'
marked-holds {E = E} {own = own} {room = room} {shared = shared} {n' = n'} T conn k is known e s f cursor h = of_written (λ B l. n' ≡ position_or_len (waits_in B) E → Holds B l E own room shared n') T conn k is known
    (λ at. holds-put conn k e (subst (λ (l : List ℕ). (length l ≤ length (sent_to conn (sends_of E))) × IsInOrder l) (sym s) (h.stands.fits conn, h.stands.stamps conn)) f h.stands.distinct (λ q x. x) at h) cursor

pub marked-shown : {new : List (ℕ × Kept)} (S : List Send) (T : List (ℕ × Kept)) (conn : ℕ) (k : Kept) (change : Connection → Connection) → new ≡ set_value (nat_eq conn) T k → is_known (keys_of T) conn ≡ true → seen S conn k ≡ change (seen S conn (account_at T conn))
    → connections_of S (account_at new) (keys_of new) ≡ changed conn change (connections_of S (account_at T) (keys_of T))
marked-shown S T conn k change is known same =
    of_written (λ B l. connections_of S B l ≡ changed conn change (connections_of S (account_at T) (keys_of T))) T conn k is known (connections-changed S (account_at T) conn k change (keys_of T) same)

-- a connection opens
pub holds-opened : {A : ℕ → Kept} {K : List ℕ} {E own : List Entry} {room : ℕ} {shared : Option ℕ} {n : ℕ} (conn : ℕ) → A conn ≡ no_account → is_known K conn ≡ false → IsDistinct nat_eq (K ++ conn ∷ [])
    → Holds A K E own room shared n → Holds (put A conn new_account) (K ++ conn ∷ []) E own room shared n
holds-opened {A = A} {K = K} {E = E} conn none new distinct h =
    holds-put conn new_account (sym (ap (λ (x : Kept). x.earlier) none)) (omega arith, tt) (sym (ap (λ (x : Kept). x.end) none)) distinct (λ q known. list_any-append (nat_eq q) K (conn ∷ []) ∙ ap (λ (b : Bool). b || list_any (nat_eq q) (conn ∷ [])) known)
    (h.stands.cursor ∙ position-same (waits_in A) (waits_in (put A conn new_account)) E (λ k d lt. same (get_or E k d) (h.stands.laid.known k d lt) (conn == (get_or E k d).conn) refl)) h
  where
    same : (e : Entry) → is_known K e.conn ≡ true → (b : Bool) → conn == e.conn ≡ b → waits_in A e ≡ (is_open_account (if b then new_account else A e.conn) && nat_lt 0 (length (rest_of (passed_end (if b then new_account else A e.conn)) e)))
    same e known true p = absurd (true≢false (sym known ∙ ap (is_known K) (sym (eqb-true conn e.conn p)) ∙ new))
    same e known false p = refl

-- no trial
pub shared-none : (E own : List Entry) (shared : Option ℕ) → trial_of E own shared ≡ None → shared ≡ None
shared-none E own None h = refl
shared-none E own (Some n) h = absurd (let no : ⊥ = cc in no)

-- more room alone
pub holds-room : {A : ℕ → Kept} {K : List ℕ} {E E' own : List Entry} {room room' : ℕ} {shared : Option ℕ} {n : ℕ} → E' ≡ E → room ≤ room' → Holds A K E own room shared n → Holds A K E' own room' shared n
holds-room {A = A} {K = K} {E = E} {own = own} {room = room} {room' = room'} {shared = shared} {n = n} same le h = subst (λ (l : List Entry). Holds A K l own room' shared n) (sym same) (record { stands = h.stands; writes = h.writes; room = by shared h.room })
  where
    by : (o : Option ℕ) → HasRoom E own room o → HasRoom E own room' o
    by None r = r
    by (Some k) r = (r.0, omega (arith, r.1, le))

-- one more send of the survivor
waits-new : {A : ℕ → Kept} {K : List ℕ} {E : List Entry} {n : ℕ} (e : Entry) → Stands A K E n → e.end ≡ (A e.conn).earlier + length (sent_to e.conn (sends_of E)) + length e.bytes → 0 < length e.bytes → waits_in A e ≡ is_open_account (A e.conn)
waits-new {A = A} e h end some =
    let whole : length (rest_of (passed_end (A e.conn)) e) ≡ length e.bytes = omega (arith, h.fits e.conn, end, length-drop (passed_end (A e.conn) - start_of e) e.bytes) in
    ap (λ (b : Bool). is_open_account (A e.conn) && b) (ap (nat_lt 0) whole ∙ lt-ltb 0 (length e.bytes) some) ∙ and-true (is_open_account (A e.conn))

pub holds-sent : {A : ℕ → Kept} {K : List ℕ} {E E' own : List Entry} {room room' : ℕ} {n n' count : ℕ} (shared : Option ℕ) (e : Entry) (opened : Bool) → shared ≡ None → is_known K e.conn ≡ true → e.end ≡ (A e.conn).end + length e.bytes → 0 < length e.bytes
    → NotBefore e.taken (times_of (sends_of E)) → opened ≡ is_open_account (A e.conn) → E' ≡ E ++ e ∷ [] → count ≡ length E + 1 → n' ≡ (if opened then n else if nat_lt (n + 1) count then n else n + 1)
    → Holds A K E own room shared n → Holds (put A e.conn (record (A e.conn) { end = e.end })) K E' own room' shared n'
holds-sent (Some k) e opened none known end some later is items long place h = absurd (let no : ⊥ = cc (none) in no)
holds-sent {A = A} {K = K} {E = E} {own = own} {room' = room'} {n = n} {n' = n'} {count = count} None e opened none known end some later is items long place h =
    let there : e.end ≡ (A e.conn).earlier + length (sent_to e.conn (sends_of E)) + length e.bytes = omega (arith, end, h.writes.ends e.conn) in
    subst (λ (l : List Entry). Holds (put A e.conn (record (A e.conn) { end = e.end })) K l own room' None n') (sym items) (record {
      stands = stands-ends A (put A e.conn (record (A e.conn) { end = e.end })) (put-same (λ (k : Kept). record k { end = 0 }) A e.conn (record (A e.conn) { end = e.end }) refl) (record {
        distinct = h.stands.distinct;
        laid = laid-push e h.stands.laid known there later;
        fits = λ q. omega (arith, h.stands.fits q, length_parts q E (e ∷ []));
        stamps = h.stands.stamps;
        cursor = place ∙ ap (λ (b : Bool). if b then n else if nat_lt (n + 1) count then n else n + 1) (is ∙ sym (waits-new e h.stands there some)) ∙ sym (position-push (waits_in A) E e n count h.stands.cursor long);
      });
      writes = writes-push e h.writes known end later;
      room = tt;
    })

-- the connections are seen as before
pub sent-shown : {E E' : List Entry} {n : ℕ} {new : List (ℕ × Kept)} (T : List (ℕ × Kept)) (conn end : ℕ) (more : List Entry) → Stands (account_at T) (keys_of T) E n → new ≡ set_value (nat_eq conn) T (record (account_at T conn) { end = end }) → is_known (keys_of T) conn ≡ true
    → E' ≡ E ++ more → connections_of (sends_of E') (account_at new) (keys_of new) ≡ connections_of (sends_of E) (account_at T) (keys_of T)
sent-shown {E = E} {E' = E'} T conn end more h is known items =
    of_written (λ B l. connections_of (sends_of E') B l ≡ connections_of (sends_of E) (account_at T) (keys_of T)) T conn (record (account_at T conn) { end = end }) is known
    (connections-same (sends_of E) (sends_of E') (account_at T) (put (account_at T) conn (record (account_at T conn) { end = end })) (keys_of T) (λ q.
    put-same (λ (k : Kept). seen (sends_of E') q k) (account_at T) conn (record (account_at T conn) { end = end }) refl q
    ∙ ap (λ (l : List Passed). record { conn = q; closed = (account_at T q).closed; gone = (account_at T q).gone; earlier = (account_at T q).earlier; passed = l })
    (ap (λ (l : List ℕ). passed_of l (account_at T q).stamps) (ap (λ (l : List Entry). sent_to q (sends_of l)) items ∙ of_parts q E more) ∙ passed_of-front (sent_to q (sends_of E)) (sent_to q (sends_of more)) (account_at T q).stamps (h.fits q))))

-- the streams are counted anew
pub holds-recounted : {A B : ℕ → Kept} {K K' : List ℕ} {E own own' : List Entry} {room room' : ℕ} {shared shared' : Option ℕ} {n : ℕ} (count : ℕ) → K' ≡ K → ((q : ℕ) → B q ≡ ending A (take count E) q) → written E own' shared' ≡ take count E
    → HasRoom E own' room' shared' → Holds A K E own room shared n → Holds B K' E own' room' shared' n
holds-recounted {A = A} {B = B} {K = K} {E = E} {own' = own'} {room' = room'} {shared' = shared'} {n = n} count keys at is room h =
    let earlier : (q : ℕ) → (B q).earlier ≡ (A q).earlier = λ (q : ℕ). ap (λ (k : Kept). k.earlier) (at q) in
    subst (λ (l : List ℕ). Holds B l E own' room' shared' n) (sym keys) (record {
      stands = stands-ends A B (λ q. ap (λ (k : Kept). record k { end = 0 }) (at q)) h.stands;
      writes = subst (Writes B K) (sym is) (record {
        laid = laid-same earlier (λ q x. x) (laid-front (take count E) (drop count E) (subst (Laid A K) (sym (take-append-drop count E)) h.stands.laid));
        ends = λ q. ap (λ (k : Kept). k.end) (at q) ∙ ap (λ (m : ℕ). m + length (sent_to q (sends_of (take count E)))) (sym (earlier q));
      });
      room = room;
    })

pub seen-recounted : (S : List Send) (A B : ℕ → Kept) (K K' : List ℕ) (W : List Entry) → K' ≡ K → ((q : ℕ) → B q ≡ ending A W q) → connections_of S B K' ≡ connections_of S A K
seen-recounted S A B K K' W keys at = ap (connections_of S B) keys ∙ connections-same S S A B K (λ q. ap (seen S q) (at q))

-- what contracts see of what was passed
pub passed-bytes : (S : List Send) (A : ℕ → Kept) (K : List ℕ) (q : ℕ) → (is_known K q ≡ false → A q ≡ no_account) → bytes_of (stamped_to (connections_of S A K) q) ≡ take (length (A q).stamps) (sent_to q S)
passed-bytes S A K q none = ap bytes_of (stamped_to-of S A K q none) ∙ bytes_of-passed_of (sent_to q S) (A q).stamps

pub passed-length : {A : ℕ → Kept} {K : List ℕ} {E : List Entry} {n : ℕ} (q : ℕ) → (is_known K q ≡ false → A q ≡ no_account) → Stands A K E n → length (stamped_to (connections_of (sends_of E) A K) q) ≡ length (A q).stamps
passed-length {A = A} {K = K} {E = E} q none h = ap length (stamped_to-of (sends_of E) A K q none) ∙ length-passed_of (sent_to q (sends_of E)) (A q).stamps (h.fits q)

pub passed-stamps : {A : ℕ → Kept} {K : List ℕ} {E : List Entry} {n : ℕ} (q : ℕ) → (is_known K q ≡ false → A q ≡ no_account) → Stands A K E n → stamps_of (stamped_to (connections_of (sends_of E) A K) q) ≡ (A q).stamps
passed-stamps {A = A} {K = K} {E = E} q none h = ap stamps_of (stamped_to-of (sends_of E) A K q none) ∙ stamps_of-passed_of (sent_to q (sends_of E)) (A q).stamps (h.fits q)

pub passed-front : (A : ℕ → Kept) (K : List ℕ) (E : List Entry) (q : ℕ) → (is_known K q ≡ false → A q ≡ no_account) → Prefix (bytes_of (stamped_to (connections_of (sends_of E) A K) q)) (sent_to q (sends_of E))
passed-front A K E q none =
    (drop (length (A q).stamps) (sent_to q (sends_of E)), ap (λ (l : List ℕ). l ++ drop (length (A q).stamps) (sent_to q (sends_of E))) (passed-bytes (sends_of E) A K q none) ∙ take-append-drop (length (A q).stamps) (sent_to q (sends_of E)))

-- a trial that begins agrees with what was passed
agree-self : (xs ys : List ℕ) → agree xs (xs ++ ys) ≡ true
unfolding agree
agree-self [] ys = refl
agree-self (x ∷ xs) ys = and_from (x == x) (agree xs (xs ++ ys)) (eq-eqb x x refl) (agree-self xs ys)

pub agree-front : (xs ys zs : List ℕ) → agree xs (ys ++ zs) ≡ true → agree xs ys ≡ true
agree-front xs ys zs h = (and_parts (agree xs ys) _ (sym (agree-split xs ys zs) ∙ h)).0

pub begun-agrees : (A : ℕ → Kept) (K : List ℕ) (E own : List Entry) (k q : ℕ) → own ≡ [] → (is_known K q ≡ false → A q ≡ no_account) → agree (sent_to q (sends_of (take k E ++ own))) (bytes_of (stamped_to (connections_of (sends_of E) A K) q)) ≡ true
begun-agrees A K E own k q empty none =
    ap (λ (l : List Entry). agree (sent_to q (sends_of l)) (bytes_of (stamped_to (connections_of (sends_of E) A K) q))) (ap (λ (l : List Entry). take k E ++ l) empty ∙ append-nil (take k E))
    ∙ agree-front (sent_to q (sends_of (take k E))) (bytes_of (stamped_to (connections_of (sends_of E) A K) q)) (passed-front A K E q none).0
    (ap (agree (sent_to q (sends_of (take k E)))) ((passed-front A K E q none).1 ∙ parts_at q k E) ∙ agree-self (sent_to q (sends_of (take k E))) (sent_to q (sends_of (drop k E))))

-- a longer trial agrees where its new bytes do
pub agree-append : (xs more ys : List ℕ) → agree (xs ++ more) ys ≡ (agree xs ys && agree more (drop (length xs) ys))
unfolding agree
agree-append [] more ys = refl
agree-append (x ∷ xs) more [] = sym (agree-past more [] (suc (length xs)) (omega arith))
agree-append (x ∷ xs) more (y ∷ ys) = ap (λ (b : Bool). (x == y) && b) (agree-append xs more ys) ∙ sym (and_assoc (x == y) (agree xs ys) (agree more (drop (length xs) ys)))

-- where the trial agrees, it covers what is no longer than it
pub agree-prefix : (xs ys : List ℕ) → agree xs ys ≡ true → length ys ≤ length xs → Prefix ys xs
unfolding agree
agree-prefix xs [] h le = (xs, refl)
agree-prefix [] (y ∷ ys) h le = absurd (omega (arith, le))
agree-prefix (x ∷ xs) (y ∷ ys) h le =
    let parts = and_parts (x == y) (agree xs ys) h in
    let rest = agree-prefix xs ys parts.1 (omega (arith, le)) in
    (rest.0, (λ i. sym (eqb-true x y parts.0) i ∷ rest.1 i))

pub prefix-le : (xs ys : List ℕ) → Prefix xs ys → length xs ≤ length ys
prefix-le xs ys p = let l = ap length p.1 in omega (arith, l, length-append xs p.0)

-- what was passed in time is a front of what was passed
pub none-in-time : (item stamp : ℕ) (ys : List Passed) → AllByRecursion (λ y. stamp ≤ y) (stamps_of ys) → item < stamp → until item ys ≡ []
unfolding until stamps_of
none-in-time item stamp [] h lt = refl
none-in-time item stamp (y ∷ ys) h lt = ap (λ (b : Bool). cond b (y ∷ until item ys) (until item ys)) (lt-leb y.stamp item (omega (arith, h.0, lt))) ∙ none-in-time item stamp ys h.1 lt

pub until-front : (item : ℕ) (xs : List Passed) → IsInOrder (stamps_of xs) → Prefix (bytes_of (until item xs)) (bytes_of xs)
unfolding until stamps_of bytes_of
until-front item [] h = ([], refl)
until-front item (x ∷ xs) h = tested (nat_le x.stamp item)
    (λ t. let rest = until-front item xs h.1 in
    (rest.0, ap (λ (b : Bool). bytes_of (cond b (x ∷ until item xs) (until item xs)) ++ rest.0) t ∙ ap (λ (l : List ℕ). x.byte ∷ l) rest.1))
    (λ f. (bytes_of (x ∷ xs), ap (λ (l : List Passed). bytes_of l ++ bytes_of (x ∷ xs)) (none-in-time item x.stamp (x ∷ xs) (omega arith, h.0) (leb-false x.stamp item f))))

-- a trial's sends are those that are written
pub written-is : (E own : List Entry) (shared : Option ℕ) → IsSome (trial_of E own shared) → sends_of (written E own shared) ≡ unwrap_or (trial_of E own shared) []
written-is E own None some = absurd (true≢false (sym some))
written-is E own (Some n) some = refl

pub holds-tried : {A : ℕ → Kept} {K : List ℕ} {E E' own own' : List Entry} {room room' : ℕ} {n : ℕ} (shared : Option ℕ) (e : Entry) → IsSome (trial_of E own shared) → is_known K e.conn ≡ true → e.end ≡ (A e.conn).end + length e.bytes
    → NotBefore e.taken (times_of (unwrap_or (trial_of E own shared) [])) → E' ≡ E → own' ≡ own ++ e ∷ [] → length E + (length own + 1) ≤ room' → Holds A K E own room shared n → Holds (put A e.conn (record (A e.conn) { end = e.end })) K E' own' room' shared n
holds-tried None e some known end later same items fits h = absurd (true≢false (sym some))
holds-tried {A = A} {K = K} {E = E} {own = own} {own' = own'} {room' = room'} {n = n} (Some k) e some known end later same items fits h =
    subst (λ (l : List Entry). Holds (put A e.conn (record (A e.conn) { end = e.end })) K l own' room' (Some k) n) (sym same)
    (subst (λ (l : List Entry). Holds (put A e.conn (record (A e.conn) { end = e.end })) K E l room' (Some k) n) (sym items) (record {
      stands = stands-ends A (put A e.conn (record (A e.conn) { end = e.end })) (put-same (λ (k : Kept). record k { end = 0 }) A e.conn (record (A e.conn) { end = e.end }) refl) h.stands;
      writes = subst (Writes (put A e.conn (record (A e.conn) { end = e.end })) K) (append_assoc (take k E) own (e ∷ [])) (writes-push e h.writes known end later);
      room = (h.room.0, omega (arith, h.room.0, fits, length-append own (e ∷ [])));
    }))

pub trial-sent : (E own : List Entry) (shared : Option ℕ) (e : Entry) → IsSome (trial_of E own shared) → trial_of E (own ++ e ∷ []) shared ≡ Some (unwrap_or (trial_of E own shared) [] ++ send_of e ∷ [])
trial-sent E own None e some = absurd (true≢false (sym some))
trial-sent E own (Some n) e some = ap Some (ap sends_of (sym (append_assoc (take n E) own (e ∷ []))) ∙ sends_of-append (take n E ++ own) (e ∷ []) ∙ ap (λ (l : List Send). sends_of (take n E ++ own) ++ l) (sends_of-one e))

pub agrees-sent : (F : List Send) (send : Send) (passed : ℕ → List ℕ) → agree send.bytes (drop (length (sent_to send.conn F)) (passed send.conn)) ≡ true → ((c : ℕ) → agree (sent_to c F) (passed c) ≡ true)
    → (c : ℕ) → agree (sent_to c (F ++ send ∷ [])) (passed c) ≡ true
unfolding agree
agrees-sent F send passed new old c =
    ap (λ (l : List ℕ). agree l (passed c)) (sent_to-append c F (send ∷ []) ∙ ap (λ (l : List ℕ). sent_to c F ++ l) (append-nil _))
    ∙ agree-append (sent_to c F) (if send.conn == c then send.bytes else []) (passed c)
    ∙ and_from _ _ (old c) (by (send.conn == c) refl)
  where
    by : (b : Bool) → send.conn == c ≡ b → agree (if b then send.bytes else []) (drop (length (sent_to c F)) (passed c)) ≡ true
    by true p = ap (λ (q : ℕ). agree send.bytes (drop (length (sent_to q F)) (passed q))) (sym (eqb-true send.conn c p)) ∙ new
    by false p = refl

-- the bytes that a trial's next ones are compared with
pub compared-with : {A : ℕ → Kept} {K : List ℕ} {E own : List Entry} {room n : ℕ} {shared : Option ℕ} (conn : ℕ) (F : List Send) → (is_known K conn ≡ false → A conn ≡ no_account) → sends_of (written E own shared) ≡ F → Holds A K E own room shared n
    → drop ((A conn).end - (A conn).earlier) (take (length (A conn).stamps) (sent_to conn (sends_of E))) ≡ drop (length (sent_to conn F)) (bytes_of (stamped_to (connections_of (sends_of E) A K) conn))
compared-with {A = A} {K = K} {E = E} {own = own} {shared = shared} conn F none is h =
    let behind : (A conn).end - (A conn).earlier ≡ length (sent_to conn F) = omega (arith, h.writes.ends conn, ap (λ (l : List Send). length (sent_to conn l)) is) in
    (λ i. drop (behind i) (sym (passed-bytes (sends_of E) A K conn none) i))

-- whether a trial that agrees covers a part of what was passed to each connection
pub covers-says : {E own : List Entry} {room n : ℕ} {shared : Option ℕ} (T : List (ℕ × Kept)) (counts : Kept → ℕ) (part : ℕ → List ℕ) → counts no_account ≡ 0 → ((q : ℕ) → length (part q) ≡ counts (account_at T q)) → ((q : ℕ) → agree (sent_to q (unwrap_or (trial_of E own shared) [])) (part q) ≡ true) → IsSome (trial_of E own shared)
    → Holds (account_at T) (keys_of T) E own room shared n
    → (list_all (λ (k : Kept). nat_le (k.earlier + counts k) k.end) (values_of T) ≡ true → (q : ℕ) → Prefix (part q) (sent_to q (unwrap_or (trial_of E own shared) []))) × (((q : ℕ) → Prefix (part q) (sent_to q (unwrap_or (trial_of E own shared) []))) → list_all (λ (k : Kept). nat_le (k.earlier + counts k) k.end) (values_of T) ≡ true)
covers-says {E = E} {own = own} {shared = shared} T counts part none long agrees some h =
    let F : List Send = unwrap_or (trial_of E own shared) [] in
    let ends : (q : ℕ) → (account_at T q).end ≡ (account_at T q).earlier + length (sent_to q F) = λ (q : ℕ). h.writes.ends q ∙ ap (λ (l : List Send). (account_at T q).earlier + length (sent_to q l)) (written-is E own shared some) in (
      (λ all q.
          let le = leb-true _ _ (all_pass (λ (k : Kept). nat_le (k.earlier + counts k) k.end) T (le-leb _ _ (omega (arith, none))) all q) in
          agree-prefix (sent_to q F) (part q) (agrees q) (omega (arith, le, long q, ends q))),
      (λ covers. pass_all (λ (k : Kept). nat_le (k.earlier + counts k) k.end) T h.stands.distinct (λ q. le-leb _ _ (omega (arith, prefix-le (part q) (sent_to q F) (covers q), long q, ends q)))),
    )

-- the trial is adopted
pub holds-adopted : {A : ℕ → Kept} {K : List ℕ} {E E' own own' : List Entry} {room room' n n' : ℕ} (shared : Option ℕ) → IsSome (trial_of E own shared) → ((q : ℕ) → is_known K q ≡ false → A q ≡ no_account)
    → ((q : ℕ) → Prefix (bytes_of (stamped_to (connections_of (sends_of E) A K) q)) (sent_to q (unwrap_or (trial_of E own shared) []))) → E' ≡ written E own shared → n' ≡ position_or_len (waits_in A) E' → Holds A K E own room shared n → Holds A K E' own' room' None n'
holds-adopted None some none covers items cursor h = absurd (true≢false (sym some))
holds-adopted {A = A} {K = K} {E = E} {own = own} {own' = own'} {room' = room'} {n' = n'} (Some k) some none covers items cursor h =
    subst (λ (l : List Entry). n' ≡ position_or_len (waits_in A) l → Holds A K l own' room' None n') (sym items) (λ at. record {
      stands = record {
        distinct = h.stands.distinct;
        laid = h.writes.laid;
        fits = λ q. omega (arith, prefix-le _ _ (covers q), length-bytes_of (stamped_to (connections_of (sends_of E) A K) q), passed-length q (none q) h.stands);
        stamps = h.stands.stamps;
        cursor = at;
      };
      writes = h.writes;
      room = tt;
    }) cursor

pub seen-adopted : {A : ℕ → Kept} {K : List ℕ} {E : List Entry} {n : ℕ} (S : List Send) → ((q : ℕ) → is_known K q ≡ false → A q ≡ no_account) → Stands A K E n
    → ((q : ℕ) → Prefix (bytes_of (stamped_to (connections_of (sends_of E) A K) q)) (sent_to q S)) → connections_of S A K ≡ connections_of (sends_of E) A K
seen-adopted {A = A} {K = K} {E = E} S none h covers = connections-same (sends_of E) S A A K (λ q.
    ap (λ (l : List Passed). record { conn = q; closed = (A q).closed; gone = (A q).gone; earlier = (A q).earlier; passed = l })
    (passed_of-same (sent_to q (sends_of E)) (sent_to q S) (A q).stamps (h.fits q) (subst (λ (l : List Passed). Prefix (bytes_of l) (sent_to q S)) (stamped_to-of (sends_of E) A K q (none q)) (covers q))))

-- there is room for a trial's own sends behind those that it shares
pub appended : {A : ℕ → Kept} {K : List ℕ} {E own shares all : List Entry} {room k n len new_len own_len new_room : ℕ} {shared : Option ℕ} {fitted : Bool} → shared ≡ Some k → Holds A K E own room shared n → len ≡ length E → own_len ≡ length own → new_len ≡ min k len → new_room ≡ room
    → (new_len + own_len ≤ new_room → fitted ≡ true) → shares ≡ take k E → all ≡ (if fitted then shares ++ own else shares) → all ≡ written E own shared
appended {E = E} {own = own} {room = room} is h a b m r succeeds front whole =
    let fits = subst (HasRoom E own room) is h.room in
    whole ∙ (λ i. if succeeds (omega (arith, fits.0, fits.1, a, b, m, r)) i then front i ++ own else front i) ∙ ap (written E own) (sym is)

-- more was passed
abbrev pub passed_account : Kept → ℕ → ℕ → Kept
passed_account k count stamp = record k { stamps = k.stamps ++ replicate count stamp }

pub passed-later : {n : ℕ} {new : List (ℕ × Kept)} (T : List (ℕ × Kept)) (E : List Entry) (conn count stamp : ℕ) → new ≡ set_value (nat_eq conn) T (passed_account (account_at T conn) count stamp) → is_known (keys_of T) conn ≡ true
    → n ≡ position_or_len (waits_in (account_at T)) E → n ≤ position_or_len (waits_in (account_at new)) E
passed-later T E conn count stamp is known at = cursor-later T E conn (passed_account (account_at T conn) count stamp) is known (λ h. h) (omega (arith, length-append (account_at T conn).stamps (replicate count stamp))) at

pub holds-passed : {A : ℕ → Kept} {K : List ℕ} {E own : List Entry} {room : ℕ} {shared : Option ℕ} {n n' : ℕ} (conn count stamp : ℕ) → length (A conn).stamps + count ≤ length (sent_to conn (sends_of E)) → NotBefore stamp (A conn).stamps
    → n' ≡ position_or_len (waits_in (put A conn (passed_account (A conn) count stamp))) E → Holds A K E own room shared n → Holds (put A conn (passed_account (A conn) count stamp)) K E own room shared n'
holds-passed {A = A} conn count stamp few later cursor h = holds-put conn (passed_account (A conn) count stamp) refl
    (omega (arith, few, length-append (A conn).stamps (replicate count stamp), length-replicate count stamp), order-push (A conn).stamps stamp count (h.stands.stamps conn) later) refl h.stands.distinct (λ q x. x) cursor h

pub passed-shown : {E : List Entry} {n : ℕ} {new : List (ℕ × Kept)} (T : List (ℕ × Kept)) (conn count stamp : ℕ) → Stands (account_at T) (keys_of T) E n → new ≡ set_value (nat_eq conn) T (passed_account (account_at T conn) count stamp) → is_known (keys_of T) conn ≡ true
    → connections_of (sends_of E) (account_at new) (keys_of new) ≡ changed conn (passed_connection (stamped stamp (take count (drop (length (bytes_of (stamped_to (connections_of (sends_of E) (account_at T) (keys_of T)) conn))) (sent_to conn (sends_of E)))))) (connections_of (sends_of E) (account_at T) (keys_of T))
passed-shown {E = E} T conn count stamp h is known =
    let A : ℕ → Kept = account_at T in
    let place : length (A conn).stamps ≡ length (bytes_of (stamped_to (connections_of (sends_of E) A (keys_of T)) conn)) = sym (length-bytes_of (stamped_to (connections_of (sends_of E) A (keys_of T)) conn) ∙ passed-length conn (none_kept T conn) h) in
    marked-shown (sends_of E) T conn (passed_account (A conn) count stamp) _ is known
    (ap (λ (l : List Passed). record { conn = conn; closed = (A conn).closed; gone = (A conn).gone; earlier = (A conn).earlier; passed = l })
    (passed_of-more (sent_to conn (sends_of E)) (A conn).stamps count stamp (h.fits conn)
    ∙ ap (λ (m : ℕ). passed_of (sent_to conn (sends_of E)) (A conn).stamps ++ stamped stamp (take count (drop m (sent_to conn (sends_of E))))) place))

-- where the survivor's streams end
pub sent-ends : {A : ℕ → Kept} {K : List ℕ} {E own : List Entry} {room n : ℕ} (shared : Option ℕ) → shared ≡ None → Holds A K E own room shared n → Writes A K E
sent-ends {A = A} {K = K} {E = E} {own = own} shared none h = subst (λ (o : Option ℕ). Writes A K (written E own o)) none h.writes

-- the settled sends of an open connection are passed wholly
settled-passed : {A : ℕ → Kept} {K : List ℕ} {E : List Entry} {n : ℕ} (count q : ℕ) → Stands A K E n → count ≤ n → is_open_account (A q) ≡ true → length (sent_to q (sends_of (take count E))) ≤ length (A q).stamps
unfolding sends_of
settled-passed zero q h le o = omega arith
settled-passed {A = A} {E = E} {n = n} (suc count) q h le o =
    let none : Entry = record { conn = 0; bytes = []; taken = 0; end = 0 } in
    let d : Entry = get_or E count none in
    let within : count < length E = omega (arith, le, h.cursor, position-le (waits_in A) E) in
    let ih = settled-passed count q h (omega (arith, le)) o in
    tested (d.conn == q)
    (λ p. subst (λ (c : ℕ). is_open_account (A c) ≡ true → length (sent_to c (sends_of (take count E))) ≤ length (A c).stamps → length (sent_to c (sends_of (take (suc count) E))) ≤ length (A c).stamps) (eqb-true d.conn q p) (λ opened so_far.
    let whole = waits-not A d opened (fails_before_first (waits_in A) E count none (omega (arith, le, h.cursor))) in
    let more = one_more d.conn count d E within (get_or_default E count none d within) (eq-eqb d.conn d.conn refl) in
    omega (arith, so_far, more, whole, h.laid.places count none within, length-drop (passed_end (A d.conn) - start_of d) d.bytes)) o ih)
    (λ p. omega (arith, ih, one_more q count d E within (get_or_default E count none d within) p))

-- so the sends behind them wait as before
waits-trimmed : {A : ℕ → Kept} {K : List ℕ} {E : List Entry} {n : ℕ} (count : ℕ) (e : Entry) → Stands A K E n → count ≤ n → waits_in (given_up A (take count E)) e ≡ waits_in A e
waits-trimmed {A = A} {E = E} count e h le = tested (is_open_account (A e.conn))
    (λ o. let place : passed_end (given_up A (take count E) e.conn) ≡ passed_end (A e.conn) = omega (arith, settled-passed count e.conn h le o, length-drop (length (sent_to e.conn (sends_of (take count E)))) (A e.conn).stamps) in
    ap (λ (m : ℕ). is_open_account (A e.conn) && nat_lt 0 (length (rest_of m e))) place)
    (λ o. and_left (is_open_account (A e.conn)) _ o ∙ sym (and_left (is_open_account (A e.conn)) _ o))

pub prefix-drop : (front rest passed : List ℕ) → Prefix passed (front ++ rest) → Prefix (drop (length front) passed) rest
prefix-drop [] rest passed p = p
prefix-drop (f ∷ front) rest [] p = (rest, refl)
prefix-drop (f ∷ front) rest (x ∷ passed) p = prefix-drop front rest passed (p.0, (let e : passed ++ p.0 ≡ front ++ rest = (cc (p.1)) in e))

pub bytes_of-drop : (n : ℕ) (xs : List Passed) → bytes_of (drop n xs) ≡ drop n (bytes_of xs)
unfolding bytes_of
bytes_of-drop n xs = sym (drop-map (λ (p : Passed). p.byte) n xs)

order-drop : (n : ℕ) (xs : List ℕ) → IsInOrder xs → IsInOrder (drop n xs)
order-drop n xs h = (order-parts (take n xs) (drop n xs) (subst IsInOrder (sym (take-append-drop n xs)) h)).1

pub holds-trimmed : {A B : ℕ → Kept} {K K' : List ℕ} {E E' own own' : List Entry} {room room' n n' : ℕ} (count : ℕ) (shared : Option ℕ) → shared ≡ None → count ≤ n → K' ≡ K → ((q : ℕ) → B q ≡ given_up A (take count E) q) → E' ≡ drop count E → n' ≡ n - count
    → Holds A K E own room shared n → Holds B K' E' own' room' shared n'
holds-trimmed count (Some k) none le keys at left place h = absurd (let no : ⊥ = cc (none) in no)
holds-trimmed {A = A} {B = B} {K = K} {E = E} {E' = E'} {own' = own'} {room' = room'} {n = n} {n' = n'} count None none le keys at left place h =
    let laid : Laid B K (drop count E) = laid-drop E count h.stands.laid (omega (arith, le, h.stands.cursor, position-le (waits_in A) E)) (λ q. ap (λ (k : Kept). k.earlier) (at q)) in
    subst (λ (l : List ℕ). Holds B l E' own' room' None n') (sym keys) (subst (λ (l : List Entry). Holds B K l own' room' None n') (sym left) (record {
      stands = record {
        distinct = h.stands.distinct;
        laid = laid;
        fits = λ q. omega (arith, h.stands.fits q, ap (λ (k : Kept). length k.stamps) (at q), length-drop (length (sent_to q (sends_of (take count E)))) (A q).stamps, lengths_at q count E);
        stamps = λ q. subst (λ (k : Kept). IsInOrder k.stamps) (sym (at q)) (order-drop (length (sent_to q (sends_of (take count E)))) (A q).stamps (h.stands.stamps q));
        cursor =
            let moved = position-drop (waits_in A) E count (omega (arith, le, h.stands.cursor)) in
            let same = position-same (waits_in (given_up A (take count E))) (waits_in A) (drop count E) (λ k d lt. waits-trimmed count (get_or (drop count E) k d) h.stands le) in
            let here : n' ≡ position_or_len (waits_in (given_up A (take count E))) (drop count E) = omega (arith, moved, same, h.stands.cursor, place) in
            here ∙ (λ i. position_or_len (λ (e : Entry). is_open_account (sym (at e.conn) i) && nat_lt 0 (length (rest_of (passed_end (sym (at e.conn) i)) e))) (drop count E));
      };
      writes = record { laid = laid; ends = λ q. omega (arith, h.writes.ends q, ap (λ (k : Kept). k.end) (at q), ap (λ (k : Kept). k.earlier) (at q), lengths_at q count E) };
      room = tt;
    }))

pub seen-trimmed : (A B : ℕ → Kept) (K K' : List ℕ) (E E' : List Entry) (count : ℕ) → K' ≡ K → ((q : ℕ) → B q ≡ given_up A (take count E) q) → E' ≡ drop count E
    → connections_of (sends_of E') B K' ≡ trimmed_connections (take count (sends_of E)) (connections_of (sends_of E) A K)
unfolding trimmed_connections
seen-trimmed A B K K' E E' count keys at left =
    ap (connections_of (sends_of E') B) keys ∙ connections-each (sends_of E) (sends_of E') A B (trimmed_connection (sends_of (take count E))) K (λ q. ap (seen (sends_of E') q) (at q)
    ∙ ap (λ (l : List Passed). record { conn = q; closed = (A q).closed; gone = (A q).gone; earlier = (A q).earlier + length (sent_to q (sends_of (take count E))); passed = l })
    (ap (λ (l : List ℕ). passed_of l (drop (length (sent_to q (sends_of (take count E)))) (A q).stamps)) (ap (λ (l : List Entry). sent_to q (sends_of l)) left ∙ sym (behind_front q count E))
    ∙ passed_of-drop (length (sent_to q (sends_of (take count E)))) (sent_to q (sends_of E)) (A q).stamps))
    ∙ ap (λ (l : List Send). trimmed_connections l (connections_of (sends_of E) A K)) (sends_of-take count E)

-- the parts as contracts see them
abbrev pub part_in : (ℕ → Kept) → Entry → Send
part_in A e = record { conn = e.conn; bytes = rest_of (passed_end (A e.conn)) e; taken = e.taken }

parts-are : {A : ℕ → Kept} {K : List ℕ} {E : List Entry} {n : ℕ} → ((q : ℕ) → is_known K q ≡ false → A q ≡ no_account) → Stands A K E n → parts_behind (connections_of (sends_of E) A K) [] (sends_of E) ≡ map (part_in A) E
unfolding sends_of
parts-are {A = A} {K = K} {E = E} none h = parts-laid (connections_of (sends_of E) A K) A (λ q. passed-length q (none q) h) [] E h.laid.places

waits-seen : {A : ℕ → Kept} (K : List ℕ) (S : List Send) → ((q : ℕ) → is_known K q ≡ false → A q ≡ no_account) → (λ (e : Entry). waits (connections_of S A K) (part_in A e)) ≡ waits_in A
unfolding waits
waits-seen {A = A} K S none = λ i e. is_open-of S A K e.conn (none e.conn) i && nat_lt 0 (length (rest_of (passed_end (A e.conn)) e))

pub settled-is : {A : ℕ → Kept} {K : List ℕ} {E : List Entry} {n : ℕ} → ((q : ℕ) → is_known K q ≡ false → A q ≡ no_account) → Stands A K E n
    → position_or_len (waits (connections_of (sends_of E) A K)) (parts_behind (connections_of (sends_of E) A K) [] (sends_of E)) ≡ n
settled-is {A = A} {K = K} {E = E} none h =
    ap (position_or_len (waits (connections_of (sends_of E) A K))) (parts-are none h) ∙ position-map (waits (connections_of (sends_of E) A K)) (part_in A) E ∙ ap (λ (p : Entry → Bool). position_or_len p E) (waits-seen K (sends_of E) none) ∙ sym h.cursor

-- the next part that may be passed
next-of : {A : ℕ → Kept} {K : List ℕ} {E : List Entry} {n : ℕ} (until : ℕ) → ((q : ℕ) → is_known K q ≡ false → A q ≡ no_account) → Stands A K E n
    → find (λ (p : Send). waits (connections_of (sends_of E) A K) p && nat_le p.taken until) (parts_behind (connections_of (sends_of E) A K) [] (sends_of E)) ≡ option_map (part_in A) (find (λ (e : Entry). waits_in A e && nat_le e.taken until) E)
next-of {A = A} {K = K} {E = E} until none h =
    ap (find (λ (p : Send). waits (connections_of (sends_of E) A K) p && nat_le p.taken until)) (parts-are none h) ∙ find-map (λ (p : Send). waits (connections_of (sends_of E) A K) p && nat_le p.taken until) (part_in A) E
    ∙ ap (λ (p : Entry → Bool). option_map (part_in A) (find (λ (e : Entry). p e && nat_le e.taken until) E)) (waits-seen K (sends_of E) none)

pub next-found : {E own : List Entry} {room n : ℕ} {shared : Option ℕ} (first : ℕ) (T : List (ℕ × Kept)) (until : ℕ) (e : Entry) → Holds (account_at T) (keys_of T) E own room shared n → n < length E → e ≡ get_or E n e → e.taken ≤ until
    → next_part (ledger_of first E own shared (connections_of (sends_of E) (account_at T) (keys_of T))) until ≡ Some (part_in (account_at T) e)
unfolding next_part
next-found {E = E} {n = n} first T until e h lt is le =
    let here : waits_in (account_at T) e ≡ true = ap (waits_in (account_at T)) is ∙ position-at (waits_in (account_at T)) E n e h.stands.cursor lt in
    next-of until (none_kept T) h.stands ∙ ap (option_map (part_in (account_at T))) (find-at (λ (x : Entry). waits_in (account_at T) x && nat_le x.taken until) E n e lt is (and_from (waits_in (account_at T) e) (nat_le e.taken until) here (le-leb e.taken until le))
    (λ k d before. and_left (waits_in (account_at T) (get_or E k d)) (nat_le (get_or E k d).taken until) (fails_before_first (waits_in (account_at T)) E k d (omega (arith, before, h.stands.cursor)))))

pub next-late : {E own : List Entry} {room n : ℕ} {shared : Option ℕ} (first : ℕ) (T : List (ℕ × Kept)) (until : ℕ) (e : Entry) → Holds (account_at T) (keys_of T) E own room shared n → (n < length E → (e ≡ get_or E n e) × (until < e.taken))
    → next_part (ledger_of first E own shared (connections_of (sends_of E) (account_at T) (keys_of T))) until ≡ None
unfolding next_part
next-late {E = E} {n = n} first T until e h late =
    next-of until (none_kept T) h.stands ∙ ap (option_map (part_in (account_at T))) (find-none (λ (x : Entry). waits_in (account_at T) x && nat_le x.taken until) E (λ k d within. by k d within (cases_lt k n)))
  where
    by : (k : ℕ) (d : Entry) → k < length E → (k < n) ⊎ (n ≤ k) → (waits_in (account_at T) (get_or E k d) && nat_le (get_or E k d).taken until) ≡ false
    by k d within (inl before) = and_left (waits_in (account_at T) (get_or E k d)) (nat_le (get_or E k d).taken until) (fails_before_first (waits_in (account_at T)) E k d (omega (arith, before, h.stands.cursor)))
    by k d within (inr behind) =
        let lt : n < length E = omega (arith, behind, within) in
        let here : until < (get_or E n d).taken = subst (λ (x : Entry). until < x.taken) ((late lt).0 ∙ get_or_default E n e d lt) (late lt).1 in
        and_right (waits_in (account_at T) (get_or E k d)) (nat_le (get_or E k d).taken until) (lt-leb (get_or E k d).taken until (omega (arith, here, later-at E n k d h.stands.laid.times behind within)))

pub next-past : {E own : List Entry} {room n : ℕ} {shared : Option ℕ} (first : ℕ) (T : List (ℕ × Kept)) (until : ℕ) → Holds (account_at T) (keys_of T) E own room shared n → length E ≤ n → next_part (ledger_of first E own shared (connections_of (sends_of E) (account_at T) (keys_of T))) until ≡ None
next-past first T until h past = next-late first T until (record { conn = 0; bytes = []; taken = 0; end = 0 }) h (λ lt. absurd (omega (arith, lt, past)))

pub ruleset nexting = (next-found, next-late)

-- the next part of one connection
abbrev pub rests : (ℕ → Kept) → ℕ → Entry → Bool
rests A conn e = (e.conn == conn) && nat_lt 0 (length (rest_of (passed_end (A e.conn)) e))

pub rest-of : {E own : List Entry} {room n : ℕ} {shared : Option ℕ} (first : ℕ) (T : List (ℕ × Kept)) (conn : ℕ) (found : Option Entry) → Holds (account_at T) (keys_of T) E own room shared n → find (rests (account_at T) conn) E ≡ found
    → rest_part (ledger_of first E own shared (connections_of (sends_of E) (account_at T) (keys_of T))) conn ≡ option_map (part_in (account_at T)) found
unfolding rest_part
rest-of {E = E} first T conn found h is =
    ap (find (λ (p : Send). p.conn == conn && nat_lt 0 (length p.bytes))) (parts-are (none_kept T) h.stands) ∙ find-map (λ (p : Send). p.conn == conn && nat_lt 0 (length p.bytes)) (part_in (account_at T)) E
    ∙ ap (option_map (part_in (account_at T))) is

pub rests-before : {A : ℕ → Kept} {K : List ℕ} {E : List Entry} {n : ℕ} (conn from : ℕ) → Stands A K E n → from ≡ (if is_open_account (A conn) then n else 0) → (k : ℕ) (d : Entry) → k < from → rests A conn (get_or E k d) ≡ false
rests-before {A = A} {E = E} {n = n} conn from h is k d lt = tested ((get_or E k d).conn == conn)
    (λ p. tested (is_open_account (A conn))
    (λ o.
    let opened : is_open_account (A (get_or E k d).conn) ≡ true = ap (λ (q : ℕ). is_open_account (A q)) (eqb-true (get_or E k d).conn conn p) ∙ o in
    and_right ((get_or E k d).conn == conn) _ (ap (nat_lt 0) (waits-not A (get_or E k d) opened (fails_before_first (waits_in A) E k d (omega (arith, lt, is, h.cursor, ap (λ (b : Bool). if b then n else 0) o))))))
    (λ o. absurd (omega (arith, lt, is, ap (λ (b : Bool). if b then n else 0) o))))
    (λ p. and_left ((get_or E k d).conn == conn) _ p)

-- whether a part that the code looks at is left
pub rests-part : (A : ℕ → Kept) (conn at : ℕ) (e : Entry) (part : List ℕ) → at ≡ passed_end (A conn) → part ≡ (if e.conn == conn then rest_of at e else []) → rests A conn e ≡ not (length part == 0)
rests-part A conn at e part place is = tested (e.conn == conn)
    (λ p. (λ i. p i && nat_lt 0 (length (rest_of ((ap (λ (c : ℕ). passed_end (A c)) (eqb-true e.conn conn p) ∙ sym place) i) e)))
    ∙ ap (λ (l : List ℕ). nat_lt 0 (length l)) (sym (is ∙ ap (λ (b : Bool). if b then rest_of at e else []) p)) ∙ sym (not-empty (length part)))
    (λ p. and_left (e.conn == conn) _ p ∙ sym (ap (λ (l : List ℕ). not (length l == 0)) (is ∙ ap (λ (b : Bool). if b then rest_of at e else []) p)))

pub rests-bytes : (A : ℕ → Kept) (conn at : ℕ) (e : Entry) (part : List ℕ) → at ≡ passed_end (A conn) → part ≡ (if e.conn == conn then rest_of at e else []) → rests A conn e ≡ true → part ≡ rest_of (passed_end (A e.conn)) e
rests-bytes A conn at e part place is t =
    let same = (and_parts (e.conn == conn) _ t).0 in
    is ∙ ap (λ (b : Bool). if b then rest_of at e else []) same ∙ ap (λ (m : ℕ). rest_of m e) (place ∙ ap (λ (c : ℕ). passed_end (A c)) (sym (eqb-true e.conn conn same)))

pub rests-more : (A : ℕ → Kept) (conn i : ℕ) (E : List Entry) (e : Entry) → i < length E → e ≡ get_or E i e → rests A conn e ≡ false → ((k : ℕ) (d : Entry) → k < i → rests A conn (get_or E k d) ≡ false)
    → (k : ℕ) (d : Entry) → k < i + 1 → rests A conn (get_or E k d) ≡ false
rests-more A conn i E e lt is f h k d below = below_more (λ k. (d : Entry) → rests A conn (get_or E k d) ≡ false) i (λ k before d. h k d before) (λ d. ap (rests A conn) (get_or_default E i d e lt ∙ sym is) ∙ f) k below d

-- what holds of every ledger
pub lawful : {E own : List Entry} {room n first : ℕ} {shared : Option ℕ} {ledger : Ledger} (T : List (ℕ × Kept)) → Holds (account_at T) (keys_of T) E own room shared n
    → ledger_of first E own shared (connections_of (sends_of E) (account_at T) (keys_of T)) ≡ ledger → IsLawful ledger
lawful {E = E} T h is = subst IsLawful is (record {
  passed = λ q. passed-front (account_at T) (keys_of T) E q (none_kept T q);
  times = h.stands.laid.times;
  stamps = λ q. subst IsInOrder (sym (passed-stamps q (none_kept T q) h.stands)) (h.stands.stamps q);
})

pub trial-same : (E own E' own' : List Entry) (shared : Option ℕ) → shared ≡ None → trial_of E' own' shared ≡ trial_of E own shared
trial-same E own E' own' shared none = ap (trial_of E' own') none ∙ sym (ap (trial_of E own) none)

pub ruleset opened = (is_open-of, none_kept)

pub ruleset changing = (marked-later, marked-shown, passed-later, passed-shown, opened-known)

pub ruleset resting = (rests-more, rests-part)

pub opened-shown : {new : List (ℕ × Kept)} (S : List Send) (T : List (ℕ × Kept)) (conn : ℕ) → new ≡ T ++ (conn, new_account) ∷ [] → is_known (keys_of T) conn ≡ false
    → connections_of S (account_at new) (keys_of new) ≡ connections_of S (account_at T) (keys_of T) ++ new_connection conn ∷ []
opened-shown S T conn is none =
    of_opened (λ B l. connections_of S B l ≡ connections_of S (account_at T) (keys_of T) ++ new_connection conn ∷ []) T conn new_account is none (connections-push S (account_at T) conn (keys_of T) none)

pub ruleset opening = (lookup-unknown, unknown-of, opened-shown)

pub ruleset sending = (length-sends_of, position-le, sent-shown, opened-known, sends_of-append, sends_of-one, trial-same, shared-none)
