-- What a ledger gives up was passed, wherever it might still be.
use Rattle.std.specs.Option.{option_map}
use Rattle.reply_ledger.specs.Trimming.{trimmed_connection, trimmed_connections, without}
use Rattle.reply_ledger.specs.Inside.{earlier_at}
use Rattle.reply_ledger.proofs.RunLemmas.{length-bytes_of}
use Rattle.reply_ledger.proofs.EntryLemmas.{sent_to-append}
use Rattle.reply_ledger.proofs.PositionLemmas.{position-le}
use Rattle.reply_ledger.proofs.PartLemmas.{come, come_past}
use Rattle.recovery.proofs.Terms.{Bool, List, None, Option, Some, [], ap, append-nil, append_assoc, arith, cond, drop, false, length, length-append, length-drop, not, refl, suc, sym, take, true, zero, ℕ, ◌&&◌, ◌++◌, ◌+◌, ◌-◌, ◌∙◌, ◌∷◌, ◌≡◌, ◌≤◌, take-add, position_or_len, is_some, Send, sent_to, Entry, connection_of-trimmed, is_open-trimmed, bytes_of-stamped_of, shows-trimmed, Connection, Ledger, connection_of, is_open, stamped_to, is_left, parts, parts_behind, settled, unpassed, waits, stamped_of, Bounds, KeepsReplies, may_pass, passed_in}

-- the parts before the first that passes a test fail it
parts_before : (p : Send → Bool) (C : List Connection) (front sends : List Send) (count : ℕ) → count ≤ position_or_len p (parts_behind C front sends)
    → (x : List Send) (y : Send) (z : List Send) → take count sends ≡ x ++ y ∷ z → p (unpassed C (front ++ x) y) ≡ false
unfolding parts_behind
parts_before p C front sends zero few x y z e = absurd (omega (arith, ap length e, length-append x (y ∷ z)))
parts_before p C front [] (suc count) few x y z e = absurd (omega (arith, ap length e, length-append x (y ∷ z)))
parts_before p C front (send ∷ sends) (suc count) few x y z e = by (p (unpassed C front send)) refl few (λ low x rest. parts_before p C (front ++ send ∷ []) sends count low x y z rest) x e
  where
    by : (b : Bool) → p (unpassed C front send) ≡ b → suc count ≤ cond (not b) (1 + position_or_len p (parts_behind C (front ++ send ∷ []) sends)) 0
        → (count ≤ position_or_len p (parts_behind C (front ++ send ∷ []) sends) → (x : List Send) → take count sends ≡ x ++ y ∷ z → p (unpassed C ((front ++ send ∷ []) ++ x) y) ≡ false)
        → (x : List Send) → send ∷ take count sends ≡ x ++ y ∷ z → p (unpassed C (front ++ x) y) ≡ false
    by true test low ih x e = absurd (omega (arith, low))
    by false test low ih [] e = let same : send ≡ y = (cc (e)) in (λ i. p (unpassed C (append-nil front i) (sym same i))) ∙ test
    by false test low ih (first ∷ x) e =
        ap (λ (f : List Send). p (unpassed C f y)) (ap (λ (s : Send). front ++ s ∷ x) (sym (cc (e))) ∙ sym (append_assoc front (send ∷ []) x)) ∙ ih (omega (arith, low)) x (cc (e))

-- each send has a part
length-parts : (C : List Connection) (front sends : List Send) → length (parts_behind C front sends) ≡ length sends
unfolding parts_behind
length-parts C front [] = refl
length-parts C front (send ∷ sends) = ap suc (length-parts C (front ++ send ∷ []) sends)

settled_within : (ledger : Ledger) → settled ledger ≤ length ledger.kept
unfolding settled
settled_within ledger = omega (arith, position-le (waits ledger.connections) (parts ledger), length-parts ledger.connections [] ledger.kept)

-- nothing is left of a send to an open connection that doesn't wait
not_waiting : (C : List Connection) (before : List Send) (send : Send) → is_open C send.conn ≡ true → waits C (unpassed C before send) ≡ false → is_left (unpassed C before send) ≡ false
unfolding unpassed waits
not_waiting C before send opened none = ap (λ (b : Bool). b && is_left (unpassed C before send)) (sym opened) ∙ none

-- an open connection was passed all that stands before the first send that may still be passed
settled_come : (ledger : Ledger) (count conn : ℕ) → count ≤ settled ledger → is_open ledger.connections conn ≡ true → length (sent_to conn (take count ledger.kept)) ≤ come ledger.connections conn
unfolding settled
settled_come ledger count conn few opened =
    come_past ledger.connections conn (take count ledger.kept) [] (take count ledger.kept) refl
    (λ x y z split to. not_waiting ledger.connections x y (ap (is_open ledger.connections) to ∙ opened) (parts_before (waits ledger.connections) ledger.connections [] ledger.kept count few x y z split))
    (omega arith)

-- what some more of the first sends have for a connection
sent_further : (conn first count : ℕ) (sends : List Send) → length (sent_to conn (take (first + count) sends)) ≡ length (sent_to conn (take first sends)) + length (sent_to conn (take count (drop first sends)))
sent_further conn first count sends =
    ap (λ (l : List Send). length (sent_to conn l)) (take-add first count sends) ∙ (ap length (sent_to-append conn (take first sends) (take count (drop first sends)))
    ∙ length-append (sent_to conn (take first sends)) (sent_to conn (take count (drop first sends))))

-- the same connections are known
known_trimmed : (sends : List Send) (C : List Connection) (conn : ℕ) → is_some (connection_of (trimmed_connections sends C) conn) ≡ is_some (connection_of C conn)
known_trimmed sends C conn = ap is_some (connection_of-trimmed sends C conn) ∙ by (connection_of C conn)
  where
    by : (o : Option Connection) → is_some (option_map (trimmed_connection sends) o) ≡ is_some o
    by None = refl
    by (Some c) = refl

-- A ledger is right beside a journal still, without sends that stand before the first that may still be passed.
pub keeps_without : (bounds : Bounds) (entries : List Entry) (sends : List Send) (ledger : Ledger) (count : ℕ) → count ≤ settled ledger → KeepsReplies bounds entries None sends ledger → KeepsReplies bounds entries None sends (without count ledger)
keeps_without bounds entries sends ledger count few k = record {
  shows = shows-trimmed ledger sends (passed_in bounds entries) count (omega (arith, few, settled_within ledger)) k.shows;
  opened = λ conn. known_trimmed (take count ledger.kept) ledger.connections conn ∙ k.opened conn;
  may = λ conn. is_open-trimmed (take count ledger.kept) ledger.connections conn ∙ k.may conn;
  gone = k.gone;
  given_up = given_up;
  sendable = k.sendable;
}
  where
    given_up : (conn : ℕ) → may_pass bounds entries None conn ≡ true → length (sent_to conn (take (ledger.first + count) sends)) ≤ length (sent_to conn (passed_in bounds entries))
    given_up conn may =
        let pieces : List Send = passed_in bounds entries in
        let come_is : come ledger.connections conn ≡ length (stamped_of conn pieces) - earlier_at ledger.connections conn =
        length-bytes_of (stamped_to ledger.connections conn) ∙ (ap length (k.shows.passed conn) ∙ length-drop (earlier_at ledger.connections conn) (stamped_of conn pieces)) in
        let all : length (stamped_of conn pieces) ≡ length (sent_to conn pieces) = sym (length-bytes_of (stamped_of conn pieces)) ∙ ap length (bytes_of-stamped_of conn pieces) in
        let kept : length (sent_to conn (take count ledger.kept)) ≡ length (sent_to conn (take count (drop ledger.first sends))) = ap (λ (l : List Send). length (sent_to conn (take count l))) k.shows.kept in
        omega (arith, settled_come ledger count conn few (k.may conn ∙ may), come_is, all, kept, k.shows.earlier conn, k.given_up conn may, sent_further conn ledger.first count sends)
