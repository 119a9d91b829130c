-- What a ledger asks of a session before it passes something, and what passing makes of a story.
use Rattle.reply_ledger.specs.Shows.{Shows, stamped_of}
use Rattle.reply_ledger.proofs.RunLemmas.{stamps_of-append}
use Rattle.link_gate.specs.declared.pass_fault.PassFault.TheVariants as fault
use Rattle.session_history.specs.declared.ends.Stop.TheVariants as stop
use Rattle.item_log.specs.Log as logs
use Rattle.link_gate.proofs.NotingLemmas.{all_both}
use Rattle.session_state.proofs.Lemmas.{are_given, told_pieces, off_account, off_pieces}
use Rattle.session_state.proofs.Terms.{Bool, Err, List, None, Ok, Some, [], ap, append-nil, append_assoc, arith, cond, drop, eqb, false, refl, subst, suc, sym, true, zero, ℕ, ◌++◌, ◌∙◌, ◌∷◌, ◌≡◌, ◌≤◌, IsErrOf, ◌≢◌, Send, Entry, Tells, Told, Seen, Ledger, NotBefore, Passed, stamped, stamps_of, next_part, rest_part, Image, SessionBreak, IsBroken, EndsBy, HandedLast, AreDuePieces, AreGiven, HasHanded, Passes, PassesRest, then_entries, AreSendable, KeepsReplies, Rules, entries_of, is_gone, Moment, AreBetween, AreInOrder, PassFault, AreStampedBy, MayPass, SessionState, HoldsCheckpoints, IsReadFault, AnswersFor, IsTold, Since, Story, entries, moment, sends, then_story, BreaksBy, IsAnswerTo, StandsPassing}

stamped_once : {number stamp : ℕ} (bytes : List ℕ) → stamp ≤ number → NotBefore number (stamps_of (stamped stamp bytes))
unfolding stamps_of stamped
stamped_once [] low = tt
stamped_once (byte ∷ bytes) low = (low, stamped_once bytes low)

-- a piece has bytes for its connection alone
of_piece : {number : ℕ} (conn : ℕ) (piece : Send) (b : Bool) → piece.taken ≤ number → NotBefore number (stamps_of (cond b (stamped piece.taken piece.bytes) []))
unfolding stamps_of
of_piece conn piece true low = stamped_once piece.bytes low
of_piece conn piece false low = tt

all_low : {number : ℕ} (low : ℕ) {high : ℕ} (pieces : List Send) → high ≤ number → AreBetween low high pieces → (conn : ℕ) → NotBefore number (stamps_of (stamped_of conn pieces))
unfolding stamps_of stamped_of
all_low low [] less between conn = tt
all_low {number = number} low (piece ∷ pieces) less between conn =
    subst (NotBefore number) (sym (stamps_of-append (cond (eqb piece.conn conn) (stamped piece.taken piece.bytes) []) (stamped_of conn pieces)))
    (all_both number (stamps_of (cond (eqb piece.conn conn) (stamped piece.taken piece.bytes) [])) (stamps_of (stamped_of conn pieces))
    (of_piece conn piece (eqb piece.conn conn) (omega (arith, between.1, less))) (all_low low pieces less between.2 conn))

in_order_low : (high : ℕ) (pieces : List Send) → AreInOrder high pieces → (conn : ℕ) → NotBefore high (stamps_of (stamped_of conn pieces))
unfolding stamps_of stamped_of
in_order_low high [] order conn = tt
in_order_low high (piece ∷ pieces) order conn = all_low piece.taken (piece ∷ pieces) (omega arith) (omega arith, order.1, order.0) conn

none_dropped : (number n : ℕ) (xs : List Passed) → NotBefore number (stamps_of xs) → NotBefore number (stamps_of (drop n xs))
unfolding stamps_of
none_dropped number zero xs all = all
none_dropped number (suc n) [] all = all
none_dropped number (suc n) (x ∷ xs) all = none_dropped number n xs all.1

-- nothing was passed with more items received than there are now
pub stamped_by : (high : ℕ) {all pieces : List Send} {ledger : Ledger} → Shows ledger all pieces → AreInOrder high pieces → AreStampedBy high ledger
stamped_by high {pieces = pieces} shows order conn =
    subst (λ (xs : List Passed). NotBefore high (stamps_of xs)) (sym (shows.passed conn)) (none_dropped high _ (stamped_of conn pieces) (in_order_low high pieces order conn))

-- those that a ledger keeps are sends that may be made
sendable_behind : (n : ℕ) (all : List Send) → AreSendable all → AreSendable (drop n all)
sendable_behind zero all are = are
sendable_behind (suc n) [] are = are
sendable_behind (suc n) (send ∷ all) are = sendable_behind n all are.1

pub sendable_kept : {all pieces : List Send} {ledger : Ledger} → Shows ledger all pieces → AreSendable all → AreSendable ledger.kept
sendable_kept {all = all} {ledger = ledger} shows are = subst AreSendable (sym shows.kept) (sendable_behind ledger.first all are)

-- pieces that were due, and perhaps a first part of one more, which the link was handed whole
abbrev pub WasBroken : Rules → List Send → Moment → Told → Seen → Type 0
WasBroken rules all at old now =
    (more : List Entry) × (broken : List Entry) × AreDuePieces rules all at more × IsBroken rules all (then_entries at more) broken × Tells old now.told (more ++ broken)
    × (now.gives ≡ false → HasHanded rules all (then_entries at more) broken now) × (broken ≢ [] → now.gives ≡ false)

-- all was passed that was sent with so many items taken
pub passes_ok : {rules : Rules} {image : Image} {began : Since} {old : Told} (now : Seen) {story : Story} (until : ℕ) {ledger : Ledger} {done : Unit {0}} → IsTold rules image began old story → Passes {E = PassFault} rules (sends story) (moment story) until ledger old now (Ok done)
    → (more : List Entry) × AreGiven more × IsTold rules image began now.told (then_story story more) × KeepsReplies rules.bounds (entries (then_story story more)) None (sends story) ledger × (next_part ledger until ≡ None)
passes_ok {rules = rules} now {story = story} until {ledger = ledger} told passes =
    let more : List Entry = passes.0 in (
      more,
      are_given rules (sends story) (moment story) more passes.1,
      told_pieces told passes.1 passes.2,
      subst (λ (es : List Entry). KeepsReplies rules.bounds es None (sends story) ledger) (append_assoc (entries_of story.earlier) story.since more) passes.3.0,
      passes.3.1,
    )

-- and all that was sent to a closing connection
pub rest_ok : {rules : Rules} {image : Image} {began : Since} {old : Told} (now : Seen) {story : Story} {conn : ℕ} {ledger : Ledger} {done : Unit {0}} → IsTold rules image began old story → PassesRest {E = PassFault} rules (sends story) (moment story) conn ledger old now (Ok done)
    → (more : List Entry) × AreGiven more × IsTold rules image began now.told (then_story story more) × KeepsReplies rules.bounds (entries (then_story story more)) (Some conn) (sends story) ledger
    × (is_gone conn (entries (then_story story more)) ≡ false → rest_part ledger conn ≡ None)
rest_ok {rules = rules} now {story = story} {conn = conn} {ledger = ledger} told passes =
    let more : List Entry = passes.0 in
    let es = append_assoc (entries_of story.earlier) story.since more in (
      more,
      are_given rules (sends story) (moment story) more passes.1,
      told_pieces told passes.1 passes.2,
      subst (λ (es : List Entry). KeepsReplies rules.bounds es (Some conn) (sends story) ledger) es passes.3.0,
      λ still. passes.3.1 (ap (is_gone conn) es ∙ still),
    )

-- what the link was handed then, behind all pieces of the account
off_handed : {rules : Rules} {seen : Seen} (story : Story) (more broken : List Entry) → HasHanded rules (sends story) (then_entries (moment story) more) broken seen
    → HasHanded rules (sends story) (record (moment story) { since = (story.since ++ more) ++ [] }) broken seen
off_handed {rules = rules} {seen = seen} story more broken handed =
    subst (λ (since : List Entry). HasHanded rules (sends story) (record (moment story) { since = since }) broken seen) (sym (append-nil (story.since ++ more))) handed

module _ {R : Type 0} where
  -- a fault came while it was passed
  pub breaks_by : {rules : Rules} {image : Image} {began : Since} {seen : Seen} {old : Told} {story : Story} {after : SessionState R} (why : PassFault) {broken : SessionBreak} → IsTold rules image began old story → AnswersFor began story after → IsAnswerTo why broken
      → HoldsCheckpoints rules image story.earlier (entries story) story.recoveries story.survivor after → (IsErrOf {T = Unit {0}} (Err why) fault.WriteFault → seen.gives ≡ false) → WasBroken rules (sends story) (moment story) old seen → BreaksBy rules image began seen after (stop.Breaks broken)
  breaks_by {rules = rules} {seen = seen} {story = story} fault.WriteFault told answers is held stops passes =
      off_pieces passes.0 passes.1 told answers passes.2 passes.3 passes.4 (subst (λ (b : SessionBreak). EndsBy rules (off_account story passes.0 passes.1) (stop.Breaks b)) (sym is) tt) (subst (HandedLast rules (off_account story passes.0 passes.1) seen) (sym is) (stops refl, off_handed story passes.0 passes.1 (passes.5 (stops refl)))) held (subst (λ (b : SessionBreak). IsReadFault b → ⊥) (sym is) (λ no. no))
  breaks_by {rules = rules} {seen = seen} {story = story} fault.Memory told answers is held stops passes =
      off_pieces passes.0 passes.1 told answers passes.2 passes.3 passes.4 (subst (λ (b : SessionBreak). EndsBy rules (off_account story passes.0 passes.1) (stop.Breaks b)) (sym is) tt) (subst (HandedLast rules (off_account story passes.0 passes.1) seen) (sym is) (λ some. (passes.6 some, off_handed story passes.0 passes.1 (passes.5 (passes.6 some))))) held (subst (λ (b : SessionBreak). IsReadFault b → ⊥) (sym is) (λ no. no))

  -- what passing asks for of a link and a ledger
  pub may_pass : {seen : Seen} {session : SessionState R} {stamp : ℕ} → StandsPassing seen session → stamp ≡ logs.received session.log → MayPass stamp seen session.replies
  may_pass {session = session} stands counts = record {
    survivor = stands.can.no_trial;
    stamped = subst (λ n. AreStampedBy n session.replies) (sym stands.can.received_are ∙ sym counts) (stamped_by _ stands.can.replies.shows stands.can.ordered);
    sendable = sendable_kept stands.can.replies.shows stands.can.replies.sendable;
    gives = stands.gives;
  }
