-- A send of a session that follows: as much of it as clients have is marked as passed at once, with the number of items taken.
use Rattle.reply_ledger.specs.Ledger as ledgers
use Rattle.reply_ledger.specs.Inside.{earlier_at}
use Rattle.reply_ledger.proofs.ConnectionLemmas.{is_open-changed}
use Rattle.reply_ledger.proofs.RunLemmas.{length-bytes_of}
use Rattle.reply_ledger.proofs.ShowsLemmas.{bytes_of-stamped_of, shows-passed, shows-sent}
use Rattle.run_history.proofs.Outputs.{sent_to-append, sent_to-more}
use Rattle.link_gate.proofs.KeepLemmas.{known-changed, next_of}
use Rattle.std.proofs.lemmas.Grind.{flat_map-append}
use Rattle.session_following.proofs.Terms.{Bool, List, None, [], ap, append-nil, append_assoc, arith, cond, drop, eqb, false, inl, inr, length, length-append, length-drop, min, refl, subst, sym, take, true, ℕ, ◌++◌, ◌+◌, ◌-◌, ◌∙◌, ◌∷◌, ◌≡◌, ◌≤◌, drop-append_seam, take-length, cases_lt, eq-eqb, eqb-false, eqb-true, true≢false, length-take, length-take-le, take-append-drop, take-append-le, take_all, is_some, Prefix, Send, sent_to, IsOpened, Ledger, Passed, connection_of, passed_connection, passed_to, stamped, stamped_to, with_passed, with_send, Shows, stamped_of, Before, events_of, AreSendable, IsSendable, KeepsReplies, Rules, is_open, opens, passed_in, sendable_then, held_is_front, part_behind, count_of, held, held_behind, rules_after, held_count, with_held, HeldGrows, SentIsHeld}
use Rattle.session_following.proofs.Based.{only_had, same_heeded, same_open}

-- what is held of more sends
held_append : (counts : List (ℕ × ℕ)) (before sends more : List Send) → held_behind counts before (sends ++ more) ≡ held_behind counts before sends ++ held_behind counts (before ++ sends) more
held_append counts before [] more = ap (λ (bs : List Send). held_behind counts bs more) (sym (append-nil before))
held_append counts before (send ∷ sends) more =
    ap (λ (rest : List Send). part_behind counts before send ∷ rest)
    (held_append counts (before ++ send ∷ []) sends more ∙ ap (λ (bs : List Send). held_behind counts (before ++ send ∷ []) sends ++ held_behind counts bs more) (append_assoc before (send ∷ []) sends))

-- of one more send as much is held as the count has left
pub held_then : HeldGrows
held_then counts sends send = held_append counts [] sends (send ∷ [])

-- the first bytes of a list, as many as the first bytes are
pub take_taken : (n : ℕ) (bytes : List ℕ) → take (length (take n bytes)) bytes ≡ take n bytes
take_taken n bytes =
    elim (cases_lt n (length bytes)) [
      | inl few ↦ ap (λ (k : ℕ). take k bytes) (length-take-le n bytes (omega (arith, few)))
      | inr all ↦ ap (λ (l : List ℕ). take (length l) bytes) (take_all n bytes all) ∙ (take-length bytes ∙ sym (take_all n bytes all))
    ]

-- as many bytes as the list behind them
drop_seam : (k : ℕ) (xs ys : List ℕ) → k ≡ length xs → drop k (xs ++ ys) ≡ ys
drop_seam k xs ys same = ap (λ (n : ℕ). drop n (xs ++ ys)) same ∙ drop-append_seam xs ys

-- a piece of no byte was stamped nowhere, and sent nowhere
none_stamped : (conn : ℕ) (pieces : List Send) (piece : Send) → piece.bytes ≡ [] → stamped_of conn (pieces ++ piece ∷ []) ≡ stamped_of conn pieces
unfolding stamped_of stamped
none_stamped conn pieces piece none =
    flat_map-append (λ (p : Send). cond (eqb p.conn conn) (stamped p.taken p.bytes) []) pieces (piece ∷ [])
    ∙ (ap (λ (more : List Passed). stamped_of conn pieces ++ more) (append-nil (cond (eqb piece.conn conn) (stamped piece.taken piece.bytes) []) ∙ either (eqb piece.conn conn)) ∙ append-nil (stamped_of conn pieces))
  where
    either : (b : Bool) → cond b (stamped piece.taken piece.bytes) [] ≡ []
    either true = ap (stamped piece.taken) none
    either false = refl

none_sent : (conn : ℕ) (pieces : List Send) (piece : Send) → piece.bytes ≡ [] → sent_to conn (pieces ++ piece ∷ []) ≡ sent_to conn pieces
none_sent conn pieces piece none = sent_to-more conn pieces piece ∙ (ap (λ (more : List ℕ). sent_to conn pieces ++ more) (either (eqb piece.conn conn)) ∙ append-nil (sent_to conn pieces))
  where
    either : (b : Bool) → cond b piece.bytes [] ≡ []
    either true = none
    either false = refl

-- a send to its own connection
one_sent : (sends : List Send) (send : Send) → sent_to send.conn (sends ++ send ∷ []) ≡ sent_to send.conn sends ++ send.bytes
one_sent sends send = sent_to-more send.conn sends send ∙ ap (λ (b : Bool). sent_to send.conn sends ++ cond b send.bytes []) (eq-eqb send.conn send.conn refl)

-- What is marked of a send is what is next of its connection's stream, where all before it was passed.
pub held_next : (sends pieces : List Send) (ledger : Ledger) (send : Send) (left : ℕ) → Shows ledger sends pieces → sent_to send.conn pieces ≡ sent_to send.conn sends
    → next_of (with_send ledger send) send.conn (length (take left send.bytes)) ≡ take left send.bytes
held_next sends pieces ledger send left shows all =
    let conn : ℕ = send.conn in
    let early : ℕ = length (sent_to conn (take ledger.first sends)) in
    let known : length (passed_to ledger conn) ≡ length (stamped_of conn pieces) - early =
    length-bytes_of (stamped_to ledger.connections conn) ∙ (ap length (shows.passed conn) ∙ (length-drop (earlier_at ledger.connections conn) (stamped_of conn pieces) ∙ ap (λ (n : ℕ). length (stamped_of conn pieces) - n) (shows.earlier conn))) in
    let whole : length (stamped_of conn pieces) ≡ length (sent_to conn sends) = sym (length-bytes_of (stamped_of conn pieces)) ∙ (ap length (bytes_of-stamped_of conn pieces) ∙ ap length all) in
    let split : length (sent_to conn sends) ≡ early + length (sent_to conn (drop ledger.first sends)) =
    ap (λ (l : List Send). length (sent_to conn l)) (sym (take-append-drop ledger.first sends)) ∙ (ap length (sent_to-append conn (take ledger.first sends) (drop ledger.first sends)) ∙ length-append (sent_to conn (take ledger.first sends)) (sent_to conn (drop ledger.first sends))) in
    let kept : length (sent_to conn ledger.kept) ≡ length (sent_to conn (drop ledger.first sends)) = ap (λ (l : List Send). length (sent_to conn l)) shows.kept in
    let at_end : length (passed_to ledger conn) ≡ length (sent_to conn ledger.kept) = omega (arith, known, whole, split, kept) in
    ap (λ (bytes : List ℕ). take (length (take left send.bytes)) (drop (length (passed_to ledger conn)) bytes)) (one_sent ledger.kept send)
    ∙ (ap (take (length (take left send.bytes))) (drop_seam (length (passed_to ledger conn)) (sent_to conn ledger.kept) send.bytes at_end) ∙ take_taken left send.bytes)

module _ (rules : Rules) (what : Before) (same : what.events ≡ events_of rules.bounds []) where
  -- a ledger that knows each connection as before, beside other sends and other pieces that were passed
  pub replies_beside : (old new : Ledger) (sends others : List Send) → KeepsReplies rules.bounds [] None sends old → Shows new others what.had → ((conn : ℕ) → is_some (connection_of new.connections conn) ≡ is_some (connection_of old.connections conn))
      → ((conn : ℕ) → ledgers.is_open new.connections conn ≡ ledgers.is_open old.connections conn) → ((conn : ℕ) → is_open rules.bounds [] conn ≡ true → length (sent_to conn (take new.first others)) ≤ length (sent_to conn what.had)) → AreSendable others
      → KeepsReplies (rules_after rules what).bounds [] None others new
  replies_beside old new sends others keeps shows known opened given_up sendable =
      let passed : passed_in (rules_after rules what).bounds [] ≡ what.had = only_had rules what in
      record {
        shows = subst (Shows new others) (sym passed) shows;
        opened = λ conn. known conn ∙ (keeps.opened conn ∙ ap (opens conn) (sym (same_heeded rules [] what same)));
        may = λ conn. opened conn ∙ (keeps.may conn ∙ sym (same_open rules [] what same (λ c. refl) conn));
        gone = λ conn is. absurd (true≢false (sym is));
        given_up = λ conn may. subst (λ (pieces : List Send). length (sent_to conn (take new.first others)) ≤ length (sent_to conn pieces)) (sym passed) (given_up conn (sym (same_open rules [] what same (λ c. refl) conn) ∙ may));
        sendable = sendable;
      }

  -- A send of which nothing is held: the ledger has it.
  pub sent_unheld : (counts : List (ℕ × ℕ)) {sends : List Send} {ledger : Ledger} (send : Send) → rules.bounds.before.had ≡ held counts sends → what.had ≡ held counts (sends ++ send ∷ []) → take (count_of counts send.conn - length (sent_to send.conn sends)) send.bytes ≡ []
      → IsOpened ledger send.conn → IsSendable send → KeepsReplies rules.bounds [] None sends ledger → KeepsReplies (rules_after rules what).bounds [] None (sends ++ send ∷ []) (with_send ledger send)
  sent_unheld counts {sends = sends} {ledger = ledger} send before after none known sendable keeps =
      let had : what.had ≡ rules.bounds.before.had ++ part_behind counts sends send ∷ [] = after ∙ (held_then counts sends send ∙ ap (λ (l : List Send). l ++ part_behind counts sends send ∷ []) (sym before)) in
      let old : Shows ledger sends rules.bounds.before.had = subst (Shows ledger sends) (append-nil rules.bounds.before.had) keeps.shows in
      let sent : Shows (with_send ledger send) (sends ++ send ∷ []) rules.bounds.before.had = shows-sent ledger sends rules.bounds.before.had send known old in
      replies_beside ledger (with_send ledger send) sends (sends ++ send ∷ []) keeps
      (subst (Shows (with_send ledger send) (sends ++ send ∷ [])) (sym had)
      (record {
        counted = sent.counted;
        kept = sent.kept;
        opened = sent.opened;
        earlier = sent.earlier;
        passed = λ conn. sent.passed conn ∙ ap (drop (earlier_at ledger.connections conn)) (sym (none_stamped conn rules.bounds.before.had (part_behind counts sends send) none));
      })) (λ conn. refl) (λ conn. refl)
      (λ conn may.
      let given = keeps.given_up conn may in
      let front : take ledger.first (sends ++ send ∷ []) ≡ take ledger.first sends = take-append-le ledger.first sends (send ∷ []) keeps.shows.counted in
      let same_front : length (sent_to conn (take ledger.first (sends ++ send ∷ []))) ≡ length (sent_to conn (take ledger.first sends)) = ap (λ (l : List Send). length (sent_to conn l)) front in
      let same_had : length (sent_to conn what.had) ≡ length (sent_to conn rules.bounds.before.had) = ap (λ (l : List Send). length (sent_to conn l)) had ∙ ap length (none_sent conn rules.bounds.before.had (part_behind counts sends send) none) in
      let same_passed : length (sent_to conn (passed_in rules.bounds [])) ≡ length (sent_to conn rules.bounds.before.had) = ap (λ (l : List Send). length (sent_to conn l)) (append-nil rules.bounds.before.had) in
      omega (arith, given, same_front, same_had, same_passed)) (sendable_then sends send keeps.sendable sendable)

  -- Of a send something is held: as much of it is marked as passed.
  pub sent_held : (counts : List (ℕ × ℕ)) {sends : List Send} {ledger : Ledger} (send : Send) → rules.bounds.before.had ≡ held counts sends → what.had ≡ held counts (sends ++ send ∷ []) → length (sent_to send.conn sends) ≤ count_of counts send.conn
      → IsOpened ledger send.conn → IsSendable send → KeepsReplies rules.bounds [] None sends ledger
      → KeepsReplies (rules_after rules what).bounds [] None (sends ++ send ∷ []) (with_passed (with_send ledger send) send.conn (length (take (count_of counts send.conn - length (sent_to send.conn sends)) send.bytes)) send.taken)
  sent_held counts {sends = sends} {ledger = ledger} send before after covered known sendable keeps =
      let conn : ℕ = send.conn in
      let pieces : List Send = rules.bounds.before.had in
      let part : Send = part_behind counts sends send in
      let count : ℕ = length (take (count_of counts conn - length (sent_to conn sends)) send.bytes) in
      let middle : Ledger = with_send ledger send in
      let had : what.had ≡ pieces ++ part ∷ [] = after ∙ (held_then counts sends send ∙ ap (λ (l : List Send). l ++ part ∷ []) (sym before)) in
      let old : Shows ledger sends pieces = subst (Shows ledger sends) (append-nil pieces) keeps.shows in
      let sent : Shows middle (sends ++ send ∷ []) pieces = shows-sent ledger sends pieces send known old in
      let all : sent_to conn pieces ≡ sent_to conn sends = ap (sent_to conn) before ∙ (held_is_front counts sends conn ∙ take_all (count_of counts conn) (sent_to conn sends) covered) in
      let next : next_of middle conn count ≡ part.bytes = held_next sends pieces ledger send (count_of counts conn - length (sent_to conn sends)) old all in
      let whole : length (stamped_of conn pieces) ≡ length (sent_to conn pieces) = sym (length-bytes_of (stamped_of conn pieces)) ∙ ap length (bytes_of-stamped_of conn pieces) in
      let split : length (sent_to conn sends) ≡ length (sent_to conn (take ledger.first sends)) + length (sent_to conn (drop ledger.first sends)) =
      ap (λ (l : List Send). length (sent_to conn l)) (sym (take-append-drop ledger.first sends)) ∙ (ap length (sent_to-append conn (take ledger.first sends) (drop ledger.first sends)) ∙ length-append (sent_to conn (take ledger.first sends)) (sent_to conn (drop ledger.first sends))) in
      let long : earlier_at ledger.connections conn ≤ length (stamped_of conn pieces) = omega (arith, old.earlier conn, whole, ap length all, split) in
      let marked : Shows (with_passed middle conn count send.taken) (sends ++ send ∷ []) (pieces ++ record { conn = conn; bytes = next_of middle conn count; taken = send.taken } ∷ []) =
      shows-passed middle (sends ++ send ∷ []) pieces conn count send.taken known long sent in
      let same_pieces : pieces ++ record { conn = conn; bytes = next_of middle conn count; taken = send.taken } ∷ [] ≡ what.had =
      ap (λ (bytes : List ℕ). pieces ++ record { conn = conn; bytes = bytes; taken = send.taken } ∷ []) next ∙ sym had in
      replies_beside ledger (with_passed middle conn count send.taken) sends (sends ++ send ∷ []) keeps (subst (Shows (with_passed middle conn count send.taken) (sends ++ send ∷ [])) same_pieces marked)
      (λ q. known-changed conn (passed_connection (stamped send.taken (next_of middle conn count))) (λ c. refl) ledger.connections q)
      (λ q. is_open-changed conn (passed_connection (stamped send.taken (next_of middle conn count))) (λ c. refl) (λ c. refl) ledger.connections q)
      (λ q may.
      let given = keeps.given_up q may in
      let same_front : length (sent_to q (take ledger.first (sends ++ send ∷ []))) ≡ length (sent_to q (take ledger.first sends)) = ap (λ (l : List Send). length (sent_to q l)) (take-append-le ledger.first sends (send ∷ []) keeps.shows.counted) in
      let more_had : length (sent_to q what.had) ≡ length (sent_to q pieces) + length (sent_to q (part ∷ [])) = ap (λ (l : List Send). length (sent_to q l)) had ∙ (ap length (sent_to-append q pieces (part ∷ [])) ∙ length-append (sent_to q pieces) (sent_to q (part ∷ []))) in
      let same_passed : length (sent_to q (passed_in rules.bounds [])) ≡ length (sent_to q pieces) = ap (λ (l : List Send). length (sent_to q l)) (append-nil pieces) in
      omega (arith, given, same_front, more_had, same_passed)) (sendable_then sends send keeps.sendable sendable)

nothing : (bytes : List ℕ) → length bytes ≡ 0 → bytes ≡ []
nothing [] none = refl
nothing (byte ∷ bytes) none = absurd (omega (arith, none))

pub sent_is_held : SentIsHeld
sent_is_held rules what counts sends ledger send same before after known sendable keeps = of (eqb (held_count counts sends send) 0) refl
  where
    left : ℕ
    left = count_of counts send.conn - length (sent_to send.conn sends)

    of : (none : Bool) → eqb (held_count counts sends send) 0 ≡ none
        → KeepsReplies (rules_after rules what).bounds [] None (sends ++ send ∷ []) (cond none (with_send ledger send) (with_passed (with_send ledger send) send.conn (held_count counts sends send) send.taken))
    of true is = sent_unheld rules what same counts send before after (nothing (take left send.bytes) (eqb-true (held_count counts sends send) 0 is)) known sendable keeps
    of false is =
        let some : held_count counts sends send ≡ 0 → ⊥ = eqb-false (held_count counts sends send) 0 is in
        elim (cases_lt (count_of counts send.conn) (length (sent_to send.conn sends))) [
          | inl less ↦ absurd (some (let none : left ≡ 0 = omega (arith, less) in ap (λ (k : ℕ). length (take k send.bytes)) none))
          | inr covered ↦ sent_held rules what same counts send before after covered known sendable keeps
        ]

-- it gives up none, and no trial is under way that wasn't
pub record StaysBeside (old new : Ledger) : Type 0 where
  pub first : new.first ≡ old.first
  pub trial : new.trial ≡ old.trial

pub held_beside : (old : Ledger) (send : Send) (count : ℕ) → StaysBeside old (with_held old send count)
held_beside old send count = of (eqb count 0)
  where
    of : (none : Bool) → StaysBeside old (cond none (with_send old send) (with_passed (with_send old send) send.conn count send.taken))
    of true = record { first = refl; trial = refl }
    of false = record { first = refl; trial = refl }

-- as many are held as the count has left, or all
pub held_is_least : (counts : List (ℕ × ℕ)) (sends : List Send) (send : Send) → held_count counts sends send ≡ min (count_of counts send.conn - length (sent_to send.conn sends)) (length send.bytes)
held_is_least counts sends send = length-take (count_of counts send.conn - length (sent_to send.conn sends)) send.bytes

-- so many of a send's bytes fit behind what was passed of those before it
pub held_fits : (old new : Ledger) (conn : ℕ) (bytes : List ℕ) (taken : ℕ) {count : ℕ} → new ≡ with_send old (record { conn = conn; bytes = bytes; taken = taken }) → Prefix (passed_to old conn) (sent_to conn old.kept) → count ≤ length bytes
    → length (passed_to new conn) + count ≤ length (sent_to conn new.kept)
held_fits old new conn bytes taken {count = count} is front few =
    let send : Send = record { conn = conn; bytes = bytes; taken = taken } in
    let passed : length (passed_to new conn) ≡ length (passed_to old conn) = ap (λ (l : Ledger). length (passed_to l conn)) is in
    let sent : length (sent_to conn new.kept) ≡ length (sent_to conn old.kept) + length bytes =
    ap (λ (l : Ledger). length (sent_to conn l.kept)) is ∙ (ap length (one_sent old.kept send) ∙ length-append (sent_to conn old.kept) bytes) in
    let part : length (sent_to conn old.kept) ≡ length (passed_to old conn) + length front.0 = ap length (sym front.1) ∙ length-append (passed_to old conn) front.0 in
    omega (arith, passed, sent, part, few)

-- How many bytes a client has beyond what was sent to it is told by the ledger: beyond what it gave up and what was passed.
pub left_is : (counts : List (ℕ × ℕ)) (sends : List Send) (ledger : Ledger) (conn : ℕ) → Shows ledger sends (held counts sends)
    → count_of counts conn - (earlier_at ledger.connections conn + length (passed_to ledger conn)) ≡ count_of counts conn - length (sent_to conn sends)
left_is counts sends ledger conn shows =
    let pieces : List Send = held counts sends in
    let known : length (passed_to ledger conn) ≡ length (stamped_of conn pieces) - earlier_at ledger.connections conn =
    length-bytes_of (stamped_to ledger.connections conn) ∙ (ap length (shows.passed conn) ∙ length-drop (earlier_at ledger.connections conn) (stamped_of conn pieces)) in
    let whole : length (stamped_of conn pieces) ≡ length (sent_to conn pieces) = sym (length-bytes_of (stamped_of conn pieces)) ∙ ap length (bytes_of-stamped_of conn pieces) in
    let split : length (sent_to conn sends) ≡ length (sent_to conn (take ledger.first sends)) + length (sent_to conn (drop ledger.first sends)) =
    ap (λ (l : List Send). length (sent_to conn l)) (sym (take-append-drop ledger.first sends)) ∙ (ap length (sent_to-append conn (take ledger.first sends) (drop ledger.first sends)) ∙ length-append (sent_to conn (take ledger.first sends)) (sent_to conn (drop ledger.first sends))) in
    let early = shows.earlier conn in
    let front : length (sent_to conn pieces) ≡ length (take (count_of counts conn) (sent_to conn sends)) = ap length (held_is_front counts sends conn) in
    elim (cases_lt (count_of counts conn) (length (sent_to conn sends))) [
      | inl less ↦ let part = length-take-le (count_of counts conn) (sent_to conn sends) (omega (arith, less)) in omega (arith, known, whole, split, early, front, part, less)
      | inr covered ↦ let all = ap length (take_all (count_of counts conn) (sent_to conn sends) covered) in omega (arith, known, whole, split, early, front, all, covered)
    ]
