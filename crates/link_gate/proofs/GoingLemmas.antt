-- Pieces that are due, one behind the other.
use Rattle.links.specs.declared.journal.LinkFault.TheVariants.{Refused, ReadFault, WriteFault, Memory}
use Rattle.session_history.specs.Account.{IsBroken}
use Rattle.link_gate.proofs.Terms.{Bool, List, Option, [], ap, append-nil, append_assoc, arith, drop, false, length, refl, subst, sym, take, true, ℕ, ◌++◌, ◌∙◌, ◌∷◌, ◌≡◌, ◌≤◌, take-length, true≢false, take-append-drop, Err, Ok, Result, is_ok, Send, Entry, Gave, Took, Given, All, Gone, LinkFault, Cuts, Gives, Tells, TellsHanded, Told, cut_entries, Seen, Ledger, gone_connection, with_change, with_passed, AreDuePieces, AreFronts, HasHanded, PassesBy, then_entries, received, KeepsReplies, may_pass, IsDuePiece, IsWholePiece, Rules, then_entry, Moment, journal, passed_in, PassFault, IsNoted}
use Rattle.link_gate.proofs.MomentLemmas.{journal-then, received-gave}
use Rattle.link_gate.proofs.KeepLemmas.{next_of, keeps-passed, keeps-gone}
use Rattle.link_gate.proofs.DueLemmas.{front_due, fronts_then}
use Rattle.links.proofs.Growing.{tells_nothing, tells_then}

-- pieces that are due, and more behind them
pub due_more : (rules : Rules) (sends : List Send) (moment : Moment) (xs ys : List Entry) → AreDuePieces rules sends moment xs → AreDuePieces rules sends (then_entries moment xs) ys → AreDuePieces rules sends moment (xs ++ ys)
due_more rules sends moment [] ys one other = subst (λ (since : List Entry). AreDuePieces rules sends (record moment { since = since }) ys) (append-nil moment.since) other
due_more rules sends moment (Took event ∷ xs) ys one other = absurd one
due_more rules sends moment (Gave conn bytes true ∷ xs) ys one other =
    (one.0, due_more rules sends (then_entry moment (Gave conn bytes true)) xs ys one.1 (subst (λ (since : List Entry). AreDuePieces rules sends (record moment { since = since }) ys) (sym (append_assoc moment.since (Gave conn bytes true ∷ []) xs)) other))
due_more rules sends moment (Gave conn bytes false ∷ xs) ys one other =
    (one.0, due_more rules sends (then_entry moment (Gave conn bytes false)) xs ys one.1 (subst (λ (since : List Entry). AreDuePieces rules sends (record moment { since = since }) ys) (sym (append_assoc moment.since (Gave conn bytes false ∷ []) xs)) other))

-- a piece that may be given now
pub record IsPiece (rules : Rules) (sends : List Send) (moment : Moment) (closing : Option ℕ) (ledger : Ledger) (conn : ℕ) (bytes : List ℕ) : Type 0 where
  pub keeps : KeepsReplies rules.bounds (journal moment) closing sends ledger
  pub fronts : AreFronts (passed_in rules.bounds (journal moment)) sends
  pub may : may_pass rules.bounds (journal moment) closing conn ≡ true
  pub whole : IsWholePiece rules sends moment conn bytes
  pub next : (count : ℕ) → count ≤ length bytes → take count bytes ≡ next_of ledger conn count

-- it was given, and noted
pub record Moved (rules : Rules) (sends : List Send) (moment : Moment) (closing : Option ℕ) (conn : ℕ) (old new : Told) (ledger : Ledger) : Type 0 where
  pub bytes : List ℕ
  pub gone : Bool
  pub due : AreDuePieces rules sends moment (Gave conn bytes gone ∷ [])
  pub tells : Tells old new (Gave conn bytes gone ∷ [])
  pub keeps : KeepsReplies rules.bounds (journal (then_entry moment (Gave conn bytes gone))) closing sends ledger
  pub fronts : AreFronts (passed_in rules.bounds (journal (then_entry moment (Gave conn bytes gone)))) sends

moved_all : (rules : Rules) (sends : List Send) (moment : Moment) (closing : Option ℕ) (ledger new_ledger : Ledger) (conn stamp : ℕ) (bytes : List ℕ) (old new : Told) → IsPiece rules sends moment closing ledger conn bytes → received rules.bounds (journal moment) ≡ stamp
    → Tells old new (Gave conn bytes false ∷ []) → new_ledger ≡ with_passed ledger conn (length bytes) stamp → Moved rules sends moment closing conn old new new_ledger
moved_all rules sends moment closing ledger new_ledger conn stamp bytes old new piece count tells noted =
    let e : Entry = Gave conn bytes false in
    let same : journal (then_entry moment e) ≡ journal moment ++ e ∷ [] = journal-then moment e in
    record {
      bytes = bytes;
      gone = false;
      due = (piece.whole, tt);
      tells = tells;
      keeps =
          subst (λ (es : List Entry). KeepsReplies rules.bounds es closing sends new_ledger) (sym same)
          (subst (KeepsReplies rules.bounds (journal moment ++ e ∷ []) closing sends) (sym noted)
          (keeps-passed rules.bounds (journal moment) closing sends ledger conn (length bytes) stamp bytes piece.keeps piece.may count (sym (take-length bytes) ∙ piece.next (length bytes) (omega arith))));
      fronts = subst (λ (es : List Entry). AreFronts (passed_in rules.bounds es) sends) (sym same) (fronts_then rules sends moment conn bytes false piece.whole.due piece.fronts);
    }

moved_gone : (rules : Rules) (sends : List Send) (moment : Moment) (closing : Option ℕ) (ledger new_ledger : Ledger) (conn stamp : ℕ) (bytes : List ℕ) (front : ℕ) (old new : Told) → IsPiece rules sends moment closing ledger conn bytes → received rules.bounds (journal moment) ≡ stamp
    → front ≤ length bytes → Tells old new (Gave conn (take front bytes) true ∷ []) → new_ledger ≡ with_change (with_passed ledger conn front stamp) conn gone_connection → Moved rules sends moment closing conn old new new_ledger
moved_gone rules sends moment closing ledger new_ledger conn stamp bytes front old new piece count few tells noted =
    let e : Entry = Gave conn (take front bytes) true in
    let same : journal (then_entry moment e) ≡ journal moment ++ e ∷ [] = journal-then moment e in
    let due : IsDuePiece rules sends moment conn (take front bytes) = front_due rules sends moment conn bytes (take front bytes) (drop front bytes, take-append-drop front bytes) piece.whole.due in
    record {
      bytes = take front bytes;
      gone = true;
      due = (due, tt);
      tells = tells;
      keeps =
          subst (λ (es : List Entry). KeepsReplies rules.bounds es closing sends new_ledger) (sym same)
          (subst (KeepsReplies rules.bounds (journal moment ++ e ∷ []) closing sends) (sym noted)
          (keeps-gone rules.bounds (journal moment) closing sends ledger conn front stamp (take front bytes) piece.keeps piece.may count (piece.next front few)));
      fronts = subst (λ (es : List Entry). AreFronts (passed_in rules.bounds es) sends) (sym same) (fronts_then rules sends moment conn (take front bytes) true due piece.fronts);
    }

pub moved : (rules : Rules) (sends : List Send) (moment : Moment) (closing : Option ℕ) (ledger new_ledger : Ledger) (conn stamp : ℕ) (bytes : List ℕ) (old new : Told) (given : Result Given LinkFault) (done : Unit {0}) → IsPiece rules sends moment closing ledger conn bytes
    → received rules.bounds (journal moment) ≡ stamp → Gives old new conn bytes given → IsNoted stamp conn (length bytes) ledger new_ledger given (Ok done) → Moved rules sends moment closing conn old new new_ledger
moved rules sends moment closing ledger new_ledger conn stamp bytes old new (Ok All) done piece count gives noted = moved_all rules sends moment closing ledger new_ledger conn stamp bytes old new piece count gives noted
moved rules sends moment closing ledger new_ledger conn stamp bytes old new (Ok (Gone front)) done piece count gives noted = moved_gone rules sends moment closing ledger new_ledger conn stamp bytes front old new piece count gives.0 gives.1 noted
moved rules sends moment closing ledger new_ledger conn stamp bytes old new (Err why) done piece count gives noted = absurd noted

-- what went out at a fault was due too
cut_due : (rules : Rules) (sends : List Send) (moment : Moment) (conn : ℕ) (front : List ℕ) → IsDuePiece rules sends moment conn front → IsBroken rules sends moment (cut_entries conn front)
cut_due rules sends moment conn [] due = tt
cut_due rules sends moment conn (byte ∷ bytes) due = due

cut_short : (rules : Rules) (sends : List Send) (moment : Moment) (conn : ℕ) (bytes : List ℕ) (old : Told) (new : Seen) (fault : PassFault) (IsDone : List Entry → Type 0) → IsWholePiece rules sends moment conn bytes → new.gives ≡ false → TellsHanded new.told new.handed conn bytes → Cuts old new.told conn bytes → PassesBy rules sends moment IsDone old new (Err fault)
cut_short rules sends moment conn bytes old new fault IsDone whole off handed cuts = (
  [],
  cut_entries conn cuts.0,
  tt,
  subst (λ (since : List Entry). IsBroken rules sends (record moment { since = since }) (cut_entries conn cuts.0)) (sym (append-nil moment.since)) (cut_due rules sends moment conn cuts.0 (front_due rules sends moment conn bytes cuts.0 cuts.1 whole.due)),
  cuts.2,
  λ none. subst (λ (since : List Entry). HasHanded rules sends (record moment { since = since }) (cut_entries conn cuts.0) new) (sym (append-nil moment.since))
      (record { conn = conn; bytes = bytes; whole = whole; front = cuts.0; first = cuts.1; broken_is = refl; handed = handed }),
  λ some. off,
)

pub broke : (rules : Rules) (sends : List Send) (moment : Moment) (conn : ℕ) (bytes : List ℕ) (old : Told) (new : Seen) (given : Result Given LinkFault) (fault : PassFault) (IsDone : List Entry → Type 0) → IsWholePiece rules sends moment conn bytes → new.gives ≡ is_ok given → TellsHanded new.told new.handed conn bytes → Gives old new.told conn bytes given
    → PassesBy rules sends moment IsDone old new (Err fault)
broke rules sends moment conn bytes old new (Ok All) fault IsDone whole still handed gives = (Gave conn bytes false ∷ [], [], (whole, tt), tt, gives, λ none. absurd (true≢false (sym still ∙ none)), λ some. absurd (some refl))
broke rules sends moment conn bytes old new (Ok (Gone front)) fault IsDone whole still handed gives =
    (Gave conn (take front bytes) true ∷ [], [], (front_due rules sends moment conn bytes (take front bytes) (drop front bytes, take-append-drop front bytes) whole.due, tt), tt, gives.1, λ none. absurd (true≢false (sym still ∙ none)), λ some. absurd (some refl))
broke rules sends moment conn bytes old new (Err WriteFault) fault IsDone whole still handed gives = cut_short rules sends moment conn bytes old new fault IsDone whole still handed gives
broke rules sends moment conn bytes old new (Err Memory) fault IsDone whole still handed gives = cut_short rules sends moment conn bytes old new fault IsDone whole still handed gives
broke rules sends moment conn bytes old new (Err ReadFault) fault IsDone whole still handed gives = absurd gives
broke rules sends moment conn bytes old new (Err (Refused kind offset)) fault IsDone whole still handed gives = absurd gives

-- pieces were given so far, and this holds behind them
pub record Going (rules : Rules) (sends : List Send) (moment : Moment) (IsHere : Moment → Type 0) (old now : Told) : Type 0 where
  pub more : List Entry
  pub due : AreDuePieces rules sends moment more
  pub tells : Tells old now more
  pub count : received rules.bounds (journal (then_entries moment more)) ≡ received rules.bounds (journal moment)
  pub here : IsHere (then_entries moment more)

pub going_none : (rules : Rules) (sends : List Send) (moment : Moment) (IsHere : Moment → Type 0) (told : Told) → IsHere moment → Going rules sends moment IsHere told told
going_none rules sends moment IsHere told here = record {
  more = [];
  due = tt;
  tells = tells_nothing told;
  count = ap (λ (since : List Entry). received rules.bounds (moment.start ++ since)) (append-nil moment.since);
  here = subst (λ (since : List Entry). IsHere (record moment { since = since })) (sym (append-nil moment.since)) here;
}

pub going_then : (rules : Rules) (sends : List Send) (moment : Moment) (closing : Option ℕ) (conn : ℕ) (ledger : Ledger) (WasHere IsHere : Moment → Type 0) (old mid new : Told) → (going : Going rules sends moment WasHere old mid)
    → (moved : Moved rules sends (then_entries moment going.more) closing conn mid new ledger) → IsHere (then_entry (then_entries moment going.more) (Gave conn moved.bytes moved.gone)) → Going rules sends moment IsHere old new
going_then rules sends moment closing conn ledger WasHere IsHere old mid new going moved here =
    let e : Entry = Gave conn moved.bytes moved.gone in
    let same : (moment.since ++ going.more) ++ e ∷ [] ≡ moment.since ++ (going.more ++ e ∷ []) = append_assoc moment.since going.more (e ∷ []) in
    record {
      more = going.more ++ e ∷ [];
      due = due_more rules sends moment going.more (e ∷ []) going.due moved.due;
      tells = tells_then old mid new going.more (e ∷ []) going.tells moved.tells;
      count =
          ap (λ (since : List Entry). received rules.bounds (moment.start ++ since)) (sym same) ∙ received-gave rules.bounds (then_entries moment going.more) conn moved.bytes moved.gone ∙ going.count;
      here = subst (λ (since : List Entry). IsHere (record moment { since = since })) same here;
    }

pub going_broke : (rules : Rules) (sends : List Send) (moment : Moment) (WasHere : Moment → Type 0) (WouldBe IsDone : List Entry → Type 0) (old mid : Told) (new : Seen) (fault : PassFault) → (going : Going rules sends moment WasHere old mid)
    → PassesBy rules sends (then_entries moment going.more) WouldBe mid new (Err fault) → PassesBy rules sends moment IsDone old new (Err fault)
going_broke rules sends moment WasHere WouldBe IsDone old mid new fault going stopped = (
  going.more ++ stopped.0,
  stopped.1,
  due_more rules sends moment going.more stopped.0 going.due stopped.2,
  subst (λ (since : List Entry). IsBroken rules sends (record moment { since = since }) stopped.1) (append_assoc moment.since going.more stopped.0) stopped.3,
  subst (Tells old new.told) (sym (append_assoc going.more stopped.0 stopped.1)) (tells_then old mid new.told going.more (stopped.0 ++ stopped.1) going.tells stopped.4),
  λ none. subst (λ (since : List Entry). HasHanded rules sends (record moment { since = since }) stopped.1 new) (append_assoc moment.since going.more stopped.0) (stopped.5 none),
  stopped.6,
)
