-- The part that a ledger finds first is a piece that is due.
use Rattle.reply_ledger.proofs.EntryLemmas.{sent_to-append}
use Rattle.link_gate.proofs.Terms.{Bool, List, Option, [], ap, append-nil, append_assoc, arith, cond, drop, eqb, false, inl, inr, length, length-append, refl, subst, sym, take, true, ℕ, ◌++◌, ◌+◌, ◌-◌, ◌<◌, ◌∙◌, ◌∷◌, ◌≡◌, ◌≤◌, ◌⊎◌, drop-append-add, drop-append_seam, take-append_seam, cases_lt, eqb-true, drop-append-le, length-take-le, take-append-drop, take-append-le, Prefix, Send, sent_to, Entry, Gave, IsFirst, come, first_length, not_left, sent_then, prefix-le, Ledger, is_left, unpassed, prefix_sent, prefix_trans, sent_to-more, passed_in-gave, AreFronts, Bounds, received, AreSendable, IsSendable, KeepsReplies, may_pass, GoesBefore, IsDuePiece, IsWholePiece, Rules, IsOwed, IsPassed, Moment, Stands, journal, passed_in}
use Rattle.link_gate.proofs.KeepLemmas.{passed_length}

-- of two fronts of a list the shorter is a front of the longer
pub front_of : {X : Type 0} (xs ys whole : List X) → Prefix xs whole → Prefix ys whole → length xs ≤ length ys → Prefix xs ys
front_of {X = X} xs ys whole one other less = (
  drop (length xs) ys,
  ap (λ (l : List X). l ++ drop (length xs) ys) (sym (taken xs (one.0) whole one.1) ∙ ap (take (length xs)) (sym other.1) ∙ take-append-le (length xs) ys other.0 less) ∙ take-append-drop (length xs) ys,
)
  where
    taken : (l rest all : List X) → l ++ rest ≡ all → take (length l) all ≡ l
    taken l rest all is = ap (take (length l)) (sym is) ∙ take-append_seam l rest

-- a send that stands among sends is one that may be sent
pub sendable_at : (sends x z : List Send) (y : Send) → sends ≡ x ++ y ∷ z → AreSendable sends → IsSendable y
sendable_at sends x z y split are = of x (subst AreSendable split are)
  where
    of : (l : List Send) → AreSendable (l ++ y ∷ z) → IsSendable y
    of [] h = h.0
    of (first ∷ l) h = of l h.1

-- where a send stands, the first ones with it, and all of them
pub stands_front : (sends : List Send) (send : Send) (stands : Stands sends send) → Prefix (stands.earlier ++ send ∷ []) sends
stands_front sends send stands = (stands.later, append_assoc stands.earlier (send ∷ []) stands.later ∙ sym stands.split)

-- a send among those that were given up was passed
passed_early : (bounds : Bounds) (entries : List Entry) (closing : Option ℕ) (sends : List Send) (ledger : Ledger) (send : Send) (stands : Stands sends send) → KeepsReplies bounds entries closing sends ledger → AreFronts (passed_in bounds entries) sends
    → may_pass bounds entries closing send.conn ≡ true → length stands.earlier < ledger.first → IsPassed bounds entries sends send stands
passed_early bounds entries closing sends ledger send stands keeps fronts may early =
    let c : ℕ = send.conn in
    let front : List Send = stands.earlier ++ send ∷ [] in
    let gone : List Send = take ledger.first sends in
    let within : Prefix front gone =
    front_of front gone sends (stands_front sends send stands) (drop ledger.first sends, take-append-drop ledger.first sends)
    (omega (arith, early, length-append stands.earlier (send ∷ []), length-take-le ledger.first sends keeps.shows.counted)) in
    let less = prefix-le (sent_to c front) (sent_to c gone) (prefix_sent c front gone within) in
    front_of (sent_to c front) (sent_to c (passed_in bounds entries)) (sent_to c sends) (prefix_sent c front sends (stands_front sends send stands)) (fronts c) (omega (arith, less, keeps.given_up c may))

-- where a later one stands
pub record IsKept (sends : List Send) (ledger : Ledger) (send : Send) (stands : Stands sends send) : Type 0 where
  pub front : List Send
  pub kept : ledger.kept ≡ front ++ send ∷ stands.later
  pub earlier : stands.earlier ≡ take ledger.first sends ++ front

is_kept : (sends : List Send) (ledger : Ledger) (send : Send) (stands : Stands sends send) → ledger.kept ≡ drop ledger.first sends → ledger.first ≤ length stands.earlier → IsKept sends ledger send stands
is_kept sends ledger send stands kept late = record {
  front = drop ledger.first stands.earlier;
  kept = kept ∙ ap (drop ledger.first) stands.split ∙ drop-append-le ledger.first stands.earlier (send ∷ stands.later) late;
  earlier = sym (take-append-drop ledger.first stands.earlier) ∙ ap (λ (l : List Send). l ++ drop ledger.first stands.earlier) (sym (ap (take ledger.first) stands.split ∙ take-append-le ledger.first stands.earlier (send ∷ stands.later) late));
}

-- how long the bytes of the sends up to one are
front_length : (conn : ℕ) (sends : List Send) (first : ℕ) (front : List Send) (send : Send) → send.conn ≡ conn → length (sent_to conn ((take first sends ++ front) ++ send ∷ [])) ≡ length (sent_to conn (take first sends)) + length (sent_to conn front) + length send.bytes
front_length conn sends first front send is =
    omega (arith, ap length (sent_then conn (take first sends ++ front) send is), length-append (sent_to conn (take first sends ++ front)) send.bytes, ap length (sent_to-append conn (take first sends) front), length-append (sent_to conn (take first sends)) (sent_to conn front))

-- a kept send of which nothing is left was passed
passed_late : (bounds : Bounds) (entries : List Entry) (closing : Option ℕ) (sends : List Send) (ledger : Ledger) (send : Send) (stands : Stands sends send) → KeepsReplies bounds entries closing sends ledger → AreFronts (passed_in bounds entries) sends
    → may_pass bounds entries closing send.conn ≡ true → (is : IsKept sends ledger send stands) → is_left (unpassed ledger.connections is.front send) ≡ false → IsPassed bounds entries sends send stands
passed_late bounds entries closing sends ledger send stands keeps fronts may is none =
    let c : ℕ = send.conn in
    let moved = not_left ledger.connections is.front send none in
    let long : length (sent_to c (stands.earlier ++ send ∷ [])) ≡ length (sent_to c (take ledger.first sends)) + length (sent_to c is.front) + length send.bytes =
    ap (λ (l : List Send). length (sent_to c (l ++ send ∷ []))) is.earlier ∙ front_length c sends ledger.first is.front send refl in
    front_of (sent_to c (stands.earlier ++ send ∷ [])) (sent_to c (passed_in bounds entries)) (sent_to c sends) (prefix_sent c (stands.earlier ++ send ∷ []) sends (stands_front sends send stands)) (fronts c)
    (omega (arith, (sendable_at sends stands.earlier stands.later send stands.split keeps.sendable).some, moved, long, passed_length bounds entries closing sends ledger c keeps may))

-- a send to a connection that may be passed to was passed, unless it is kept and something is left of it
pub passed_unless_left : (bounds : Bounds) (entries : List Entry) (closing : Option ℕ) (sends : List Send) (ledger : Ledger) (send : Send) (stands : Stands sends send) → KeepsReplies bounds entries closing sends ledger → AreFronts (passed_in bounds entries) sends
    → may_pass bounds entries closing send.conn ≡ true → ((is : IsKept sends ledger send stands) → is_left (unpassed ledger.connections is.front send) ≡ false) → IsPassed bounds entries sends send stands
passed_unless_left bounds entries closing sends ledger send stands keeps fronts may none = of (cases_lt (length stands.earlier) ledger.first)
  where
    of : (length stands.earlier < ledger.first) ⊎ (ledger.first ≤ length stands.earlier) → IsPassed bounds entries sends send stands
    of (inl early) = passed_early bounds entries closing sends ledger send stands keeps fronts may early
    of (inr late) =
        let is : IsKept sends ledger send stands = is_kept sends ledger send stands keeps.shows.kept late in
        passed_late bounds entries closing sends ledger send stands keeps fronts may is (none is)

-- where it stands among all sends
abbrev pub first_stands : (sends : List Send) (ledger : Ledger) (conn : ℕ) (bytes : List ℕ) → ledger.kept ≡ drop ledger.first sends → (first : IsFirst ledger conn bytes) → Stands sends first.send
first_stands sends ledger conn bytes kept first = record {
  earlier = take ledger.first sends ++ first.before;
  later = first.later;
  split = sym (take-append-drop ledger.first sends) ∙ ap (λ (l : List Send). take ledger.first sends ++ l) (sym kept ∙ first.split) ∙ sym (append_assoc (take ledger.first sends) first.before (first.send ∷ first.later));
}

-- the whole of it is what is left of its send
whole_is : (passed rest whole bytes : List ℕ) (n : ℕ) (front last : List ℕ) → passed ++ rest ≡ whole → whole ≡ front ++ last → length passed ≡ length front + n → bytes ≡ drop n last → passed ++ bytes ≡ whole
whole_is passed rest whole bytes n front last is split place left =
    let behind : rest ≡ bytes =
    sym (drop-append_seam passed rest) ∙ ap (drop (length passed)) (is ∙ split) ∙ ap (λ (k : ℕ). drop k (front ++ last)) place ∙ drop-append-add front last n ∙ sym left in
    ap (λ (l : List ℕ). passed ++ l) (sym behind) ∙ is

pub first_whole : (bounds : Bounds) (entries : List Entry) (closing : Option ℕ) (sends : List Send) (ledger : Ledger) (conn : ℕ) (bytes : List ℕ) → KeepsReplies bounds entries closing sends ledger → AreFronts (passed_in bounds entries) sends
    → may_pass bounds entries closing conn ≡ true → (first : IsFirst ledger conn bytes) → sent_to conn (passed_in bounds entries) ++ bytes ≡ sent_to conn ((take ledger.first sends ++ first.before) ++ first.send ∷ [])
unfolding unpassed
first_whole bounds entries closing sends ledger conn bytes keeps fronts may first =
    let passed : List ℕ = sent_to conn (passed_in bounds entries) in
    let earlier : List Send = take ledger.first sends ++ first.before in
    let front : List Send = earlier ++ first.send ∷ [] in
    let stands : Stands sends first.send = first_stands sends ledger conn bytes keeps.shows.kept first in
    let n : ℕ = come ledger.connections conn - length (sent_to conn first.before) in
    let long = passed_length bounds entries closing sends ledger conn keeps may in
    let total = front_length conn sends ledger.first first.before first.send first.to in
    let begins : Prefix passed (sent_to conn front) =
    front_of passed (sent_to conn front) (sent_to conn sends) (fronts conn) (prefix_sent conn front sends (stands_front sends first.send stands)) (omega (arith, long, total, first.short)) in
    let place : length passed ≡ length (sent_to conn earlier) + n =
    omega (arith, long, first.past, ap length (sent_to-append conn (take ledger.first sends) first.before), length-append (sent_to conn (take ledger.first sends)) (sent_to conn first.before)) in
    whole_is passed begins.0 (sent_to conn front) bytes n (sent_to conn earlier) first.send.bytes begins.1 (sent_then conn earlier first.send first.to) place
    (first.bytes_are ∙ ap (λ (c : ℕ). drop (come ledger.connections c - length (sent_to c first.before)) first.send.bytes) first.to)

-- all before it to its connection was passed
pub first_behind : (bounds : Bounds) (entries : List Entry) (closing : Option ℕ) (sends : List Send) (ledger : Ledger) (conn : ℕ) (bytes : List ℕ) → KeepsReplies bounds entries closing sends ledger → AreFronts (passed_in bounds entries) sends
    → may_pass bounds entries closing conn ≡ true → (first : IsFirst ledger conn bytes) → Prefix (sent_to conn (take ledger.first sends ++ first.before)) (sent_to conn (passed_in bounds entries))
first_behind bounds entries closing sends ledger conn bytes keeps fronts may first =
    let earlier : List Send = take ledger.first sends ++ first.before in
    let stands : Stands sends first.send = first_stands sends ledger conn bytes keeps.shows.kept first in
    let long = passed_length bounds entries closing sends ledger conn keeps may in
    front_of (sent_to conn earlier) (sent_to conn (passed_in bounds entries)) (sent_to conn sends) (prefix_sent conn earlier sends (first.send ∷ first.later, sym stands.split)) (fronts conn)
    (omega (arith, long, first.past, ap length (sent_to-append conn (take ledger.first sends) first.before), length-append (sent_to conn (take ledger.first sends)) (sent_to conn first.before)))

-- with its order it is a whole piece that is due
pub first_due : (rules : Rules) (sends : List Send) (moment : Moment) (closing : Option ℕ) (ledger : Ledger) (conn : ℕ) (bytes : List ℕ) → (keeps : KeepsReplies rules.bounds (journal moment) closing sends ledger) → AreFronts (passed_in rules.bounds (journal moment)) sends
    → may_pass rules.bounds (journal moment) closing conn ≡ true → (first : IsFirst ledger conn bytes) → IsOwed rules.bounds rules.hold moment first.send
    → ((other : Send) (of_other : Stands sends other) → GoesBefore rules.bounds moment of_other (first_stands sends ledger conn bytes keeps.shows.kept first) → IsOwed rules.bounds rules.hold moment other → IsPassed rules.bounds (journal moment) sends other of_other)
    → IsWholePiece rules sends moment conn bytes
first_due rules sends moment closing ledger conn bytes keeps fronts may first owed in_order =
    let whole = first_whole rules.bounds (journal moment) closing sends ledger conn bytes keeps fronts may first in
    record {
      due = record {
        send = first.send;
        stands = first_stands sends ledger conn bytes keeps.shows.kept first;
        to = first.to;
        owed = owed;
        behind = first_behind rules.bounds (journal moment) closing sends ledger conn bytes keeps fronts may first;
        left = (λ same.
            let none : length bytes ≡ 0 = omega (arith, ap length same, ap length whole, length-append (sent_to conn (passed_in rules.bounds (journal moment))) bytes) in
            absurd (omega (arith, none, first_length ledger conn bytes first, first.past, first.short)));
        part = ([], append-nil (sent_to conn (passed_in rules.bounds (journal moment)) ++ bytes) ∙ whole);
        in_order = in_order;
      };
      whole = whole;
    }

-- some first bytes of a due piece are due
pub front_due : (rules : Rules) (sends : List Send) (moment : Moment) (conn : ℕ) (bytes front : List ℕ) → Prefix front bytes → IsDuePiece rules sends moment conn bytes → IsDuePiece rules sends moment conn front
front_due rules sends moment conn bytes front begins due = record {
  send = due.send;
  stands = due.stands;
  to = due.to;
  owed = due.owed;
  behind = due.behind;
  left = due.left;
  part =
      prefix_trans (sent_to conn (passed_in rules.bounds (journal moment)) ++ front) (sent_to conn (passed_in rules.bounds (journal moment)) ++ bytes) (sent_to conn (due.stands.earlier ++ due.send ∷ []))
      (begins.0, append_assoc (sent_to conn (passed_in rules.bounds (journal moment))) front begins.0 ∙ ap (λ (l : List ℕ). sent_to conn (passed_in rules.bounds (journal moment)) ++ l) begins.1) due.part;
  in_order = due.in_order;
}

-- a front of a due piece leaves what was passed a front of what was sent
pub fronts_then : (rules : Rules) (sends : List Send) (moment : Moment) (conn : ℕ) (bytes : List ℕ) (gone : Bool) → IsDuePiece rules sends moment conn bytes → AreFronts (passed_in rules.bounds (journal moment)) sends
    → AreFronts (passed_in rules.bounds (journal moment ++ Gave conn bytes gone ∷ [])) sends
fronts_then rules sends moment conn bytes gone due fronts q = of (eqb conn q) refl
  where
    same : sent_to q (passed_in rules.bounds (journal moment ++ Gave conn bytes gone ∷ [])) ≡ sent_to q (passed_in rules.bounds (journal moment)) ++ cond (eqb conn q) bytes []
    same = ap (sent_to q) (passed_in-gave rules.bounds (journal moment) conn bytes gone) ∙ sent_to-more q (passed_in rules.bounds (journal moment)) (record { conn = conn; bytes = bytes; taken = received rules.bounds (journal moment) })

    of : (b : Bool) → eqb conn q ≡ b → Prefix (sent_to q (passed_in rules.bounds (journal moment ++ Gave conn bytes gone ∷ []))) (sent_to q sends)
    of true is =
        let all : Prefix (sent_to q (passed_in rules.bounds (journal moment)) ++ bytes) (sent_to q sends) =
        prefix_trans (sent_to q (passed_in rules.bounds (journal moment)) ++ bytes) (sent_to q (due.stands.earlier ++ due.send ∷ [])) (sent_to q sends)
        (subst (λ (c : ℕ). Prefix (sent_to c (passed_in rules.bounds (journal moment)) ++ bytes) (sent_to c (due.stands.earlier ++ due.send ∷ []))) (eqb-true conn q is) due.part)
        (prefix_sent q (due.stands.earlier ++ due.send ∷ []) sends (stands_front sends due.send due.stands)) in
        (all.0, ap (λ (l : List ℕ). l ++ all.0) (same ∙ ap (λ (b : Bool). sent_to q (passed_in rules.bounds (journal moment)) ++ cond b bytes []) is) ∙ all.1)
    of false is =
        let was = fronts q in
        (was.0, ap (λ (l : List ℕ). l ++ was.0) (same ∙ ap (λ (b : Bool). sent_to q (passed_in rules.bounds (journal moment)) ++ cond b bytes []) is ∙ append-nil (sent_to q (passed_in rules.bounds (journal moment)))) ∙ was.1)
