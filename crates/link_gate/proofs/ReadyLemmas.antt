-- The next part of a ledger that is ready is a piece that is due, and the ledger is ready behind it.
use Rattle.reply_ledger.specs.Ledger as ledgers
use Rattle.session_history.specs.Opened.{is_open}
use Rattle.link_gate.proofs.Terms.{Bool, List, None, Option, Some, [], ap, append_assoc, arith, cond, false, inl, inr, length, length-append, not, refl, sym, take, true, ℕ, ◌&&◌, ◌++◌, ◌<◌, ◌∙◌, ◌∷◌, ◌≡◌, and_from, and_parts, eq-eqb, eqb-true, true≢false, Send, Entry, Gave, Told, IsFirst, IsNext, IsRest, first_next, Ledger, IsClosing, IsReady, Bounds, events_of, heeded, may_pass, GoesBefore, Rules, is_close_of, is_closed_by, is_closing, then_entry, closes, is_gone, opens, IsOwed, IsPassed, Latest, Moment, Stands, journal, latest}
use Rattle.link_gate.proofs.MomentLemmas.{latest-gave, journal-then, not_gone, open_not_gone, open_before, closes-gave, is_closing-gave, owed_then, owed_before, owed_open, passed_then}
use Rattle.link_gate.proofs.DueLemmas.{front_of, IsKept, passed_unless_left, first_stands, first_due}
use Rattle.link_gate.proofs.GoingLemmas.{IsPiece, Moved}

-- of two places in a list the earlier one lies in the front of the later one
pub record Splits (zs xs : List Send) (y : Send) : Type 0 where
  pub behind : List Send
  pub is : zs ≡ xs ++ y ∷ behind

splits : (xs ys zs ws all : List Send) (y : Send) → all ≡ xs ++ y ∷ ys → all ≡ zs ++ ws → length xs < length zs → Splits zs xs y
splits xs ys zs ws all y one other less =
    let within = front_of (xs ++ y ∷ []) zs all (ys, append_assoc xs (y ∷ []) ys ∙ sym one) (ws, sym other) (omega (arith, less, length-append xs (y ∷ []))) in
    record { behind = within.0; is = sym within.1 ∙ append_assoc xs (y ∷ []) within.0 }

-- a kept send that stands before the first part stands among those before it
before_first : (sends : List Send) (ledger : Ledger) (conn : ℕ) (bytes : List ℕ) (first : IsFirst ledger conn bytes) (other : Send) (of_other : Stands sends other) (is : IsKept sends ledger other of_other)
    → length of_other.earlier < length (take ledger.first sends ++ first.before) → Splits first.before is.front other
before_first sends ledger conn bytes first other of_other is less =
    splits is.front of_other.later first.before (first.send ∷ first.later) ledger.kept other is.kept first.split
    (omega (arith, less, ap length is.earlier, length-append (take ledger.first sends) is.front, length-append (take ledger.first sends) first.before))

-- another send that goes before the next part and is owed was passed
until_order : (rules : Rules) (sends : List Send) (moment : Moment) (until : ℕ) (ledger : Ledger) (conn : ℕ) (bytes : List ℕ) (ready : IsReady rules sends moment until ledger) (next : IsNext ledger until conn bytes) (other : Send) (of_other : Stands sends other)
    → GoesBefore rules.bounds moment of_other (first_stands sends ledger conn bytes ready.keeps.shows.kept next.first) → IsOwed rules.bounds rules.hold moment other → IsPassed rules.bounds (journal moment) sends other of_other
until_order rules sends moment until ledger conn bytes ready next other of_other (inl closes_first) owed = ready.closed other of_other closes_first.0 owed
until_order rules sends moment until ledger conn bytes ready next other of_other (inr earlier) owed = of (is_closing rules.bounds moment other.conn) refl
  where
    of : (b : Bool) → is_closing rules.bounds moment other.conn ≡ b → IsPassed rules.bounds (journal moment) sends other of_other
    of true is = ready.closed other of_other is owed
    of false is =
        let opened : is_open rules.bounds (journal moment) other.conn ≡ true = owed_open rules.bounds rules.hold moment other is owed in
        passed_unless_left rules.bounds (journal moment) None sends ledger other of_other ready.keeps ready.fronts opened
        (λ kept.
        let split = before_first sends ledger conn bytes next.first other of_other kept earlier.1 in
        next.none kept.front other split.behind split.is (ready.keeps.may other.conn ∙ opened))

pub until_piece : (rules : Rules) (sends : List Send) (moment : Moment) (until : ℕ) (ledger : Ledger) (conn : ℕ) (bytes : List ℕ) → IsReady rules sends moment until ledger → IsNext ledger until conn bytes → IsPiece rules sends moment None ledger conn bytes
until_piece rules sends moment until ledger conn bytes ready next =
    let may : may_pass rules.bounds (journal moment) None conn ≡ true = sym (ready.keeps.may conn) ∙ next.opened in
    record {
      keeps = ready.keeps;
      fronts = ready.fronts;
      may = may;
      whole =
          first_due rules sends moment None ledger conn bytes ready.keeps ready.fronts may next.first
          (ready.owed next.first.send (first_stands sends ledger conn bytes ready.keeps.shows.kept next.first) (ap (is_open rules.bounds (journal moment)) next.first.to ∙ may) next.in_time)
          (until_order rules sends moment until ledger conn bytes ready next);
      next = (λ count few. first_next ledger conn bytes count next.first few);
    }

-- behind it the ledger is ready again
pub until_then : (rules : Rules) (sends : List Send) (moment : Moment) (until : ℕ) (ledger new_ledger : Ledger) (conn : ℕ) (old new : Told) → IsReady rules sends moment until ledger → (moved : Moved rules sends moment None conn old new new_ledger)
    → IsReady rules sends (then_entry moment (Gave conn moved.bytes moved.gone)) until new_ledger
until_then rules sends moment until ledger new_ledger conn old new ready moved =
    let e : Entry = Gave conn moved.bytes moved.gone in
    record {
      keeps = moved.keeps;
      fronts = moved.fronts;
      owed = (λ send stands opened in_time.
          let was : is_open rules.bounds (journal moment) send.conn ≡ true = open_before rules.bounds (journal moment) conn moved.bytes moved.gone send.conn (sym (ap (λ (es : List Entry). is_open rules.bounds es send.conn) (journal-then moment e)) ∙ opened) in
          owed_then rules.bounds rules.hold moment conn moved.bytes moved.gone send (open_not_gone rules.bounds (journal (then_entry moment e)) send.conn opened) (ready.owed send stands was in_time));
      closed = (λ send stands closing owed.
          passed_then rules.bounds moment conn moved.bytes moved.gone sends send stands
          (ready.closed send stands (sym (is_closing-gave rules.bounds moment conn moved.bytes moved.gone send.conn) ∙ closing) (owed_before rules.bounds rules.hold moment conn moved.bytes moved.gone send owed)));
    }

-- the connection whose close was heard is the closing one, and no other is
closing_is : (rules : Rules) (sends : List Send) (moment : Moment) (conn : ℕ) (ledger : Ledger) → IsClosing rules sends moment conn ledger → is_closing rules.bounds moment conn ≡ true
closing_is rules sends moment conn ledger closing =
    and_from (is_closed_by (latest moment.since) conn) (closes conn (heeded rules.bounds (events_of rules.bounds (journal moment))))
    (ap (λ (l : Option Latest). is_closed_by l conn) closing.is_last ∙ ap (is_close_of conn) closing.closes ∙ eq-eqb conn conn refl) closing.closed

only_closing : (rules : Rules) (sends : List Send) (moment : Moment) (conn : ℕ) (ledger : Ledger) (q : ℕ) → IsClosing rules sends moment conn ledger → is_closing rules.bounds moment q ≡ true → q ≡ conn
only_closing rules sends moment conn ledger q closing h =
    let parts = and_parts (is_closed_by (latest moment.since) q) (closes q (heeded rules.bounds (events_of rules.bounds (journal moment)))) h in
    sym (eqb-true conn q (sym (ap (λ (l : Option Latest). is_closed_by l q) closing.is_last ∙ ap (is_close_of q) closing.closes) ∙ parts.0))

-- what may be passed to it
pub may_rest : (bounds : Bounds) (entries : List Entry) (conn : ℕ) → may_pass bounds entries (Some conn) conn ≡ (opens conn (heeded bounds (events_of bounds entries)) && not (is_gone conn entries))
may_rest bounds entries conn = ap (λ (b : Bool). cond b (opens conn (heeded bounds (events_of bounds entries)) && not (is_gone conn entries)) (is_open bounds entries conn)) (eq-eqb conn conn refl)

not_true : (a g : Bool) → (a && not g) ≡ true → g ≡ false
not_true true true h = absurd (true≢false (sym h))
not_true true false h = refl
not_true false g h = absurd (true≢false (sym h))

rest_order : (rules : Rules) (sends : List Send) (moment : Moment) (conn : ℕ) (ledger : Ledger) (bytes : List ℕ) (closing : IsClosing rules sends moment conn ledger) (rest : IsRest ledger conn bytes) → may_pass rules.bounds (journal moment) (Some conn) conn ≡ true → (other : Send) (of_other : Stands sends other)
    → GoesBefore rules.bounds moment of_other (first_stands sends ledger conn bytes closing.keeps.shows.kept rest.first) → IsOwed rules.bounds rules.hold moment other → IsPassed rules.bounds (journal moment) sends other of_other
rest_order rules sends moment conn ledger bytes closing rest may other of_other (inl closes_first) owed =
    absurd (true≢false (sym (closing_is rules sends moment conn ledger closing) ∙ sym (ap (is_closing rules.bounds moment) rest.first.to) ∙ closes_first.1))
rest_order rules sends moment conn ledger bytes closing rest may other of_other (inr earlier) owed =
    let to : other.conn ≡ conn = only_closing rules sends moment conn ledger other.conn closing (earlier.0 ∙ ap (is_closing rules.bounds moment) rest.first.to ∙ closing_is rules sends moment conn ledger closing) in
    passed_unless_left rules.bounds (journal moment) (Some conn) sends ledger other of_other closing.keeps closing.fronts (ap (may_pass rules.bounds (journal moment) (Some conn)) to ∙ may)
    (λ kept.
    let split = before_first sends ledger conn bytes rest.first other of_other kept earlier.1 in
    rest.none kept.front other split.behind split.is to)

pub rest_piece : (rules : Rules) (sends : List Send) (moment : Moment) (conn : ℕ) (ledger : Ledger) (bytes : List ℕ) → IsClosing rules sends moment conn ledger → IsRest ledger conn bytes → ledgers.is_open ledger.connections conn ≡ true → IsPiece rules sends moment (Some conn) ledger conn bytes
rest_piece rules sends moment conn ledger bytes closing rest opened =
    let may : may_pass rules.bounds (journal moment) (Some conn) conn ≡ true = sym (closing.keeps.may conn) ∙ opened in
    record {
      keeps = closing.keeps;
      fronts = closing.fronts;
      may = may;
      whole =
          first_due rules sends moment (Some conn) ledger conn bytes closing.keeps closing.fronts may rest.first
          (closing.owed rest.first.send (first_stands sends ledger conn bytes closing.keeps.shows.kept rest.first) rest.first.to
          (not_true (opens conn (heeded rules.bounds (events_of rules.bounds (journal moment)))) (is_gone conn (journal moment)) (sym (may_rest rules.bounds (journal moment) conn) ∙ may)))
          (rest_order rules sends moment conn ledger bytes closing rest may);
      next = (λ count few. first_next ledger conn bytes count rest.first few);
    }

pub rest_then : (rules : Rules) (sends : List Send) (moment : Moment) (conn : ℕ) (ledger new_ledger : Ledger) (old new : Told) → IsClosing rules sends moment conn ledger → (moved : Moved rules sends moment (Some conn) conn old new new_ledger)
    → IsClosing rules sends (then_entry moment (Gave conn moved.bytes moved.gone)) conn new_ledger
rest_then rules sends moment conn ledger new_ledger old new closing moved =
    let e : Entry = Gave conn moved.bytes moved.gone in
    record {
      keeps = moved.keeps;
      fronts = moved.fronts;
      closed = ap (λ (es : List Entry). closes conn (heeded rules.bounds (events_of rules.bounds es))) (journal-then moment e) ∙ closes-gave rules.bounds (journal moment) conn moved.bytes moved.gone conn ∙ closing.closed;
      last = closing.last;
      is_last = latest-gave moment.since conn moved.bytes moved.gone ∙ closing.is_last;
      closes = closing.closes;
      owed = (λ send stands to still.
          owed_then rules.bounds rules.hold moment conn moved.bytes moved.gone send (ap (λ (c : ℕ). is_gone c (journal (then_entry moment e))) to ∙ still)
          (closing.owed send stands to (not_gone (journal moment) conn moved.bytes moved.gone conn (sym (ap (is_gone conn) (journal-then moment e)) ∙ still))));
    }
