-- What the ledger's calls find, and what is given of it.
use Rattle.reply_ledger.specs.Ledger.{IsInOrder}
use Rattle.reply_ledger.specs.Ledger as ledgers
use Rattle.session_history.specs.Giving.{Passes}
use Rattle.link_gate.proofs.Terms.{Bool, List, None, Option, Some, ap, append_assoc, arith, false, length, not, refl, subst, sym, true, ℕ, ◌&&◌, ◌++◌, ◌<◌, ◌∙◌, ◌≡◌, true≢false, same_Some, option_map, Err, Ok, Result, is_ok, Send, Entry, Given, LinkFault, Gives, TellsHanded, Told, Seen, IsFirst, IsNext, IsRest, first_length, next_is, rest_is, IsOpened, Ledger, times_of, next_part, rest_part, shown_part, IsClosing, IsReady, PassesRest, then_entries, events_of, heeded, received, AreSendable, KeepsReplies, Rules, is_gone, opens, Moment, journal, PassFault, IsNoted}
use Rattle.link_gate.proofs.DueLemmas.{sendable_at}
use Rattle.link_gate.proofs.GoingLemmas.{Going, IsPiece, Moved, moved, broke, going_then, going_broke}
use Rattle.link_gate.proofs.ReadyLemmas.{may_rest, until_piece, until_then, rest_piece, rest_then}

-- the part that is found next
pub next_found : (ledger : Ledger) (until conn : ℕ) (bytes : List ℕ) → IsInOrder (times_of ledger.kept) → Some (conn, bytes) ≡ option_map shown_part (next_part ledger until) → IsNext ledger until conn bytes
next_found ledger until conn bytes order found = of (next_part ledger until) refl found
  where
    of : (o : Option Send) → next_part ledger until ≡ o → Some (conn, bytes) ≡ option_map shown_part o → IsNext ledger until conn bytes
    of None is h = absurd (let no : ⊥ = cc in no)
    of (Some part) is h =
        let same : (conn, bytes) ≡ shown_part part = same_Some (conn, bytes) (shown_part part) h in
        let to : part.conn ≡ conn = sym (ap (λ (p : ℕ × List ℕ). p.0) same) in
        let all : part.bytes ≡ bytes = sym (ap (λ (p : ℕ × List ℕ). p.1) same) in
        subst (λ (c : ℕ). IsNext ledger until c bytes) to (subst (IsNext ledger until part.conn) all (next_is ledger until part order is))

pub none_found : {X : Type 0} (f : Send → X) (o : Option Send) → None ≡ option_map f o → o ≡ None
none_found f None h = refl
none_found f (Some part) h = absurd (let no : ⊥ = cc in no)

pub rest_found : (ledger : Ledger) (conn : ℕ) (bytes : List ℕ) → Some bytes ≡ option_map (λ (part : Send). part.bytes) (rest_part ledger conn) → IsRest ledger conn bytes
rest_found ledger conn bytes found = of (rest_part ledger conn) refl found
  where
    of : (o : Option Send) → rest_part ledger conn ≡ o → Some bytes ≡ option_map (λ (part : Send). part.bytes) o → IsRest ledger conn bytes
    of None is h = absurd (let no : ⊥ = cc in no)
    of (Some part) is h = let all : part.bytes ≡ bytes = cc (h) in subst (IsRest ledger conn) all (rest_is ledger conn part is)

-- it may be given: it has some bytes, and no more than one piece may have
pub first_some : (ledger : Ledger) (conn : ℕ) (bytes : List ℕ) → IsFirst ledger conn bytes → 0 < length bytes
first_some ledger conn bytes first = omega (arith, first_length ledger conn bytes first, first.past, first.short)

pub first_few : (ledger : Ledger) (conn : ℕ) (bytes : List ℕ) → AreSendable ledger.kept → IsFirst ledger conn bytes → length bytes < 65536
first_few ledger conn bytes sendable first = omega (arith, first_length ledger conn bytes first, (sendable_at ledger.kept first.before first.later first.send first.split sendable).few)

-- so far
abbrev pub UntilHere : Rules → List Send → Moment → ℕ → Ledger → Told → Told → Type 0
UntilHere rules sends moment until ledger old now = Going rules sends moment (λ here. IsReady rules sends here until ledger) old now

abbrev pub RestHere : Rules → List Send → Moment → ℕ → Ledger → Told → Told → Type 0
RestHere rules sends moment conn ledger old now = Going rules sends moment (λ here. IsClosing rules sends here conn ledger) old now

-- the next part was given and noted
pub until_moves : (rules : Rules) (sends : List Send) (moment : Moment) (until conn stamp : ℕ) (ledger new_ledger : Ledger) (bytes : List ℕ) (old mid new : Told) (given : Result Given LinkFault) (done : Unit {0}) → UntilHere rules sends moment until ledger old mid
    → received rules.bounds (journal moment) ≡ stamp → IsNext ledger until conn bytes → Gives mid new conn bytes given → IsNoted stamp conn (length bytes) ledger new_ledger given (Ok done) → UntilHere rules sends moment until new_ledger old new
until_moves rules sends moment until conn stamp ledger new_ledger bytes old mid new given done going count next gives noted =
    let here : Moment = then_entries moment going.more in
    let piece : IsPiece rules sends here None ledger conn bytes = until_piece rules sends here until ledger conn bytes going.here next in
    let move : Moved rules sends here None conn mid new new_ledger = moved rules sends here None ledger new_ledger conn stamp bytes mid new given done piece (going.count ∙ count) gives noted in
    going_then rules sends moment None conn new_ledger (λ m. IsReady rules sends m until ledger) (λ m. IsReady rules sends m until new_ledger) old mid new going move
    (until_then rules sends here until ledger new_ledger conn mid new going.here move)

-- it was given in part, or not noted
pub until_breaks : (rules : Rules) (sends : List Send) (moment : Moment) (until conn : ℕ) (ledger new_ledger : Ledger) (bytes : List ℕ) (old mid : Told) (new : Seen) (given : Result Given LinkFault) (stopped : PassFault) → UntilHere rules sends moment until ledger old mid
    → IsNext ledger until conn bytes → new.gives ≡ is_ok given → TellsHanded new.told new.handed conn bytes → Gives mid new.told conn bytes given → Passes rules sends moment until new_ledger old new (Err stopped)
until_breaks rules sends moment until conn ledger new_ledger bytes old mid new given stopped going next still handed gives =
    let here : Moment = then_entries moment going.more in
    let piece : IsPiece rules sends here None ledger conn bytes = until_piece rules sends here until ledger conn bytes going.here next in
    going_broke rules sends moment (λ m. IsReady rules sends m until ledger) (λ more. Unit {0}) (λ more. KeepsReplies rules.bounds (journal moment ++ more) None sends new_ledger × (next_part new_ledger until ≡ None)) old mid new stopped going
    (broke rules sends here conn bytes mid new given stopped (λ more. Unit {0}) piece.whole still handed gives)

-- none is left
pub until_ends : (rules : Rules) (sends : List Send) (moment : Moment) (until : ℕ) (ledger : Ledger) (old : Told) (now : Seen) → UntilHere rules sends moment until ledger old now.told → next_part ledger until ≡ None → Passes {E = PassFault} rules sends moment until ledger old now (Ok tt)
until_ends rules sends moment until ledger old now going none =
    (going.more, going.due, going.tells, (subst (λ (es : List Entry). KeepsReplies rules.bounds es None sends ledger) (sym (append_assoc moment.start moment.since going.more)) going.here.keeps, none))

-- the same of a closing connection
pub rest_moves : (rules : Rules) (sends : List Send) (moment : Moment) (conn stamp : ℕ) (ledger new_ledger : Ledger) (bytes : List ℕ) (old mid new : Told) (given : Result Given LinkFault) (done : Unit {0}) → RestHere rules sends moment conn ledger old mid
    → received rules.bounds (journal moment) ≡ stamp → IsRest ledger conn bytes → ledgers.is_open ledger.connections conn ≡ true → Gives mid new conn bytes given → IsNoted stamp conn (length bytes) ledger new_ledger given (Ok done) → RestHere rules sends moment conn new_ledger old new
rest_moves rules sends moment conn stamp ledger new_ledger bytes old mid new given done going count rest opened gives noted =
    let here : Moment = then_entries moment going.more in
    let piece : IsPiece rules sends here (Some conn) ledger conn bytes = rest_piece rules sends here conn ledger bytes going.here rest opened in
    let move : Moved rules sends here (Some conn) conn mid new new_ledger = moved rules sends here (Some conn) ledger new_ledger conn stamp bytes mid new given done piece (going.count ∙ count) gives noted in
    going_then rules sends moment (Some conn) conn new_ledger (λ m. IsClosing rules sends m conn ledger) (λ m. IsClosing rules sends m conn new_ledger) old mid new going move
    (rest_then rules sends here conn ledger new_ledger mid new going.here move)

abbrev pub IsRestDone : Rules → List Send → Moment → ℕ → Ledger → List Entry → Type 0
IsRestDone rules sends moment conn ledger more = KeepsReplies rules.bounds (journal moment ++ more) (Some conn) sends ledger × (is_gone conn (journal moment ++ more) ≡ false → rest_part ledger conn ≡ None)

pub rest_breaks : (rules : Rules) (sends : List Send) (moment : Moment) (conn : ℕ) (ledger new_ledger : Ledger) (bytes : List ℕ) (old mid : Told) (new : Seen) (given : Result Given LinkFault) (stopped : PassFault) → RestHere rules sends moment conn ledger old mid
    → IsRest ledger conn bytes → ledgers.is_open ledger.connections conn ≡ true → new.gives ≡ is_ok given → TellsHanded new.told new.handed conn bytes → Gives mid new.told conn bytes given → PassesRest rules sends moment conn new_ledger old new (Err stopped)
rest_breaks rules sends moment conn ledger new_ledger bytes old mid new given stopped going rest opened still handed gives =
    let here : Moment = then_entries moment going.more in
    let piece : IsPiece rules sends here (Some conn) ledger conn bytes = rest_piece rules sends here conn ledger bytes going.here rest opened in
    going_broke rules sends moment (λ m. IsClosing rules sends m conn ledger) (λ more. Unit {0}) (IsRestDone rules sends moment conn new_ledger) old mid new stopped going
    (broke rules sends here conn bytes mid new given stopped (λ more. Unit {0}) piece.whole still handed gives)

rest_done : (rules : Rules) (sends : List Send) (moment : Moment) (conn : ℕ) (ledger : Ledger) (old : Told) (now : Seen) → (going : RestHere rules sends moment conn ledger old now.told) → (is_gone conn (journal moment ++ going.more) ≡ false → rest_part ledger conn ≡ None)
    → PassesRest {E = PassFault} rules sends moment conn ledger old now (Ok tt)
rest_done rules sends moment conn ledger old now going none =
    (going.more, going.due, going.tells, (subst (λ (es : List Entry). KeepsReplies rules.bounds es (Some conn) sends ledger) (sym (append_assoc moment.start moment.since going.more)) going.here.keeps, none))

pub rest_ends : (rules : Rules) (sends : List Send) (moment : Moment) (conn : ℕ) (ledger : Ledger) (old : Told) (now : Seen) → RestHere rules sends moment conn ledger old now.told → rest_part ledger conn ≡ None → PassesRest {E = PassFault} rules sends moment conn ledger old now (Ok tt)
rest_ends rules sends moment conn ledger old now going none = rest_done rules sends moment conn ledger old now going (λ stays. none)

-- a connection that was opened and isn't open in the ledger any more is gone
closed_gone : (o g : Bool) → o ≡ true → (o && not g) ≡ false → g ≡ false → false ≡ true
closed_gone true true opened shut stays = sym stays
closed_gone true false opened shut stays = sym shut
closed_gone false g opened shut stays = opened

pub rest_gone : (rules : Rules) (sends : List Send) (moment : Moment) (conn : ℕ) (ledger : Ledger) (old : Told) (now : Seen) → RestHere rules sends moment conn ledger old now.told → IsOpened ledger conn → ledgers.is_open ledger.connections conn ≡ false
    → PassesRest {E = PassFault} rules sends moment conn ledger old now (Ok tt)
rest_gone rules sends moment conn ledger old now going known shut =
    let entries : List Entry = journal (then_entries moment going.more) in
    let same : journal moment ++ going.more ≡ entries = append_assoc moment.start moment.since going.more in
    let keeps : KeepsReplies rules.bounds entries (Some conn) sends ledger = going.here.keeps in
    let may : (opens conn (heeded rules.bounds (events_of rules.bounds entries)) && not (is_gone conn entries)) ≡ false = sym (may_rest rules.bounds entries conn) ∙ sym (keeps.may conn) ∙ shut in
    rest_done rules sends moment conn ledger old now going
    (λ stays. absurd (true≢false (sym (closed_gone (opens conn (heeded rules.bounds (events_of rules.bounds entries))) (is_gone conn entries) (sym (keeps.opened conn) ∙ known) may (sym (ap (is_gone conn) same) ∙ stays)))))
