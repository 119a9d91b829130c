-- What the ledger of a trial says of what was passed is said of its run.
use Rattle.reply_ledger.specs.Trials as ledgers
use Rattle.recovery.proofs.Terms.{Bool, List, Option, Some, [], ap, append-nil, arith, cond, drop, eqb, false, length, length-append, refl, subst, sym, take, true, ℕ, ◌&&◌, ◌++◌, ◌+◌, ◌∙◌, ◌∷◌, ◌≡◌, ◌≤◌, eq-eqb, eqb-true, drop-drop, take-append-drop, AllByRecursion, unwrap_or, ◌==◌, Prefix, Send, sent_to, covers-shows, covers_before-shows, shown_passed, shows-covers, shows-covers_before, agree-append, IsInOrder, Ledger, Passed, stamped, stamps_of, Shows, pieces_until, stamped_of, agree, trial_sends, sent_to-append, sent_to-more, AreBetween, AreInOrder, until, agrees_next}

-- stamps stand in order
all_after : (low : ℕ) (stamp : ℕ) (bytes : List ℕ) (rest : List Passed) → low ≤ stamp → AllByRecursion (λ y. low ≤ y) (stamps_of rest) → AllByRecursion (λ y. low ≤ y) (stamps_of (stamped stamp bytes ++ rest))
unfolding stamped stamps_of
all_after low stamp [] rest le all = all
all_after low stamp (byte ∷ bytes) rest le all = (le, all_after low stamp bytes rest le all)

order_after : (stamp : ℕ) (bytes : List ℕ) (rest : List Passed) → AllByRecursion (λ y. stamp ≤ y) (stamps_of rest) → IsInOrder (stamps_of rest) → IsInOrder (stamps_of (stamped stamp bytes ++ rest))
unfolding stamped stamps_of
order_after stamp [] rest all order = order
order_after stamp (byte ∷ bytes) rest all order = (all_after stamp stamp bytes rest (omega arith) all, order_after stamp bytes rest all order)

all_stamped : (low high conn : ℕ) (pieces : List Send) → AreBetween low high pieces → AllByRecursion (λ y. low ≤ y) (stamps_of (stamped_of conn pieces))
unfolding stamped_of stamps_of
all_stamped low high conn [] between = tt
all_stamped low high conn (piece ∷ pieces) between = of (piece.conn == conn) (all_stamped low high conn pieces between.2)
  where
    of : (b : Bool) → AllByRecursion (λ y. low ≤ y) (stamps_of (stamped_of conn pieces)) → AllByRecursion (λ y. low ≤ y) (stamps_of (cond b (stamped piece.taken piece.bytes) [] ++ stamped_of conn pieces))
    of true ih = all_after low piece.taken piece.bytes (stamped_of conn pieces) between.0 ih
    of false ih = ih

pub stamped_in_order : (high conn : ℕ) (pieces : List Send) → AreInOrder high pieces → IsInOrder (stamps_of (stamped_of conn pieces))
unfolding stamped_of stamps_of
stamped_in_order high conn [] order = tt
stamped_in_order high conn (piece ∷ pieces) order = of (piece.conn == conn) (stamped_in_order high conn pieces order.2)
  where
    of : (b : Bool) → IsInOrder (stamps_of (stamped_of conn pieces)) → IsInOrder (stamps_of (cond b (stamped piece.taken piece.bytes) [] ++ stamped_of conn pieces))
    of true ih = order_after piece.taken piece.bytes (stamped_of conn pieces) (all_stamped piece.taken high conn pieces order.0) ih
    of false ih = ih

-- a ledger beside the sends of the run that failed, those of a trial, and the pieces that were passed
pub record Beside (high : ℕ) (ledger : Ledger) (sends now pieces : List Send) : Type 0 where
  pub shows : Shows ledger sends pieces
  pub whole : (conn : ℕ) → Prefix (sent_to conn pieces) (sent_to conn sends)
  pub ordered : AreInOrder high pieces
  pub front : take ledger.first now ≡ take ledger.first sends
  pub sent : ledger.trial ≡ Some (drop ledger.first now)

pub now_is : (high : ℕ) (ledger : Ledger) (sends now pieces : List Send) → Beside high ledger sends now pieces → take ledger.first sends ++ trial_sends ledger ≡ now
now_is high ledger sends now pieces b =
    ap (λ (all : List Send). take ledger.first sends ++ all) (ap (λ (o : Option (List Send)). unwrap_or o []) b.sent) ∙ ap (λ (all : List Send). all ++ drop ledger.first now) (sym b.front) ∙ take-append-drop ledger.first now

pub covers_now : (high : ℕ) (ledger : Ledger) (sends now pieces : List Send) → Beside high ledger sends now pieces → ledgers.Covers ledger → (conn : ℕ) → Prefix (sent_to conn pieces) (sent_to conn now)
covers_now high ledger sends now pieces b covers conn =
    subst (λ (all : List Send). Prefix (sent_to conn pieces) (sent_to conn all)) (now_is high ledger sends now pieces b) (shows-covers ledger sends pieces b.shows b.whole covers conn)

pub now_covers : (high : ℕ) (ledger : Ledger) (sends now pieces : List Send) → Beside high ledger sends now pieces → ((conn : ℕ) → Prefix (sent_to conn pieces) (sent_to conn now)) → ledgers.Covers ledger
now_covers high ledger sends now pieces b covers =
    covers-shows ledger sends pieces b.shows (λ conn. subst (λ (all : List Send). Prefix (sent_to conn pieces) (sent_to conn all)) (sym (now_is high ledger sends now pieces b)) (covers conn))

until_is : (item : ℕ) (pieces : List Send) → pieces_until item pieces ≡ until item pieces
unfolding pieces_until
until_is item pieces = refl

pub covers_before_now : (high item : ℕ) (ledger : Ledger) (sends now pieces : List Send) → Beside high ledger sends now pieces → ledgers.CoversBefore ledger item → (conn : ℕ) → Prefix (sent_to conn (until item pieces)) (sent_to conn now)
covers_before_now high item ledger sends now pieces b covers conn =
    subst (λ (all : List Send). Prefix (sent_to conn (until item pieces)) (sent_to conn all)) (now_is high ledger sends now pieces b)
    (subst (λ (all : List Send). Prefix (sent_to conn all) (sent_to conn (take ledger.first sends ++ trial_sends ledger))) (until_is item pieces)
    (shows-covers_before ledger sends pieces item b.shows (λ q. stamped_in_order high q pieces b.ordered) b.whole covers conn))

pub now_covers_before : (high item : ℕ) (ledger : Ledger) (sends now pieces : List Send) → Beside high ledger sends now pieces → ((conn : ℕ) → Prefix (sent_to conn (until item pieces)) (sent_to conn now)) → ledgers.CoversBefore ledger item
now_covers_before high item ledger sends now pieces b covers =
    covers_before-shows ledger sends pieces item b.shows (λ q. stamped_in_order high q pieces b.ordered)
    (λ conn. subst (λ (all : List Send). Prefix (sent_to conn all) (sent_to conn (take ledger.first sends ++ trial_sends ledger))) (sym (until_is item pieces))
    (subst (λ (all : List Send). Prefix (sent_to conn (until item pieces)) (sent_to conn all)) (sym (now_is high ledger sends now pieces b)) (covers conn)))

-- what comes next of a trial is compared with what was passed behind its run
pub next_agrees : (high : ℕ) (ledger : Ledger) (sends now pieces : List Send) (send : Send) → Beside high ledger sends now pieces
    → agrees_next ledger send ≡ agree send.bytes (drop (length (sent_to send.conn now)) (sent_to send.conn pieces))
next_agrees high ledger sends now pieces send b =
    let early : List ℕ = sent_to send.conn (take ledger.first sends) in
    let tried : List ℕ = sent_to send.conn (trial_sends ledger) in
    let whole : length (sent_to send.conn now) ≡ length early + length tried =
    ap (λ (all : List Send). length (sent_to send.conn all)) (sym (now_is high ledger sends now pieces b))
    ∙ (ap length (sent_to-append send.conn (take ledger.first sends) (trial_sends ledger)) ∙ length-append (sent_to send.conn (take ledger.first sends)) (sent_to send.conn (trial_sends ledger))) in
    ap (λ (l : List ℕ). agree send.bytes (drop (length tried) l)) (shown_passed ledger sends pieces b.shows send.conn)
    ∙ (ap (agree send.bytes) (drop-drop (length tried) (length early) (sent_to send.conn pieces)) ∙ ap (λ n. agree send.bytes (drop n (sent_to send.conn pieces))) (sym whole))

-- one more send agrees where its bytes do
agrees_more : (sends pieces : List Send) (send : Send) (same : Bool) → agree send.bytes (drop (length (sent_to send.conn sends)) (sent_to send.conn pieces)) ≡ same → agree (sent_to send.conn sends) (sent_to send.conn pieces) ≡ true
    → agree (sent_to send.conn (sends ++ send ∷ [])) (sent_to send.conn pieces) ≡ same
agrees_more sends pieces send same next before =
    ap (λ (l : List ℕ). agree l (sent_to send.conn pieces)) (sent_to-more send.conn sends send ∙ ap (λ (b : Bool). sent_to send.conn sends ++ cond b send.bytes []) (eq-eqb send.conn send.conn refl))
    ∙ (agree-append (sent_to send.conn sends) send.bytes (sent_to send.conn pieces) ∙ (ap (λ (b : Bool). b && agree send.bytes (drop (length (sent_to send.conn sends)) (sent_to send.conn pieces))) before ∙ next))

pub differs_more : (sends pieces : List Send) (send : Send) → agree send.bytes (drop (length (sent_to send.conn sends)) (sent_to send.conn pieces)) ≡ false → ((conn : ℕ) → agree (sent_to conn sends) (sent_to conn pieces) ≡ true)
    → agree (sent_to send.conn (sends ++ send ∷ [])) (sent_to send.conn pieces) ≡ false
differs_more sends pieces send next before = agrees_more sends pieces send false next (before send.conn)

pub agree_more : (sends pieces : List Send) (send : Send) → agree send.bytes (drop (length (sent_to send.conn sends)) (sent_to send.conn pieces)) ≡ true → ((conn : ℕ) → agree (sent_to conn sends) (sent_to conn pieces) ≡ true)
    → (conn : ℕ) → agree (sent_to conn (sends ++ send ∷ [])) (sent_to conn pieces) ≡ true
agree_more sends pieces send next before conn = of (eqb send.conn conn) refl
  where
    of : (b : Bool) → eqb send.conn conn ≡ b → agree (sent_to conn (sends ++ send ∷ [])) (sent_to conn pieces) ≡ true
    of true same = subst (λ q. agree (sent_to q (sends ++ send ∷ [])) (sent_to q pieces) ≡ true) (eqb-true send.conn conn same) (agrees_more sends pieces send true next (before send.conn))
    of false other =
        ap (λ (l : List ℕ). agree l (sent_to conn pieces)) (sent_to-more conn sends send ∙ (ap (λ (b : Bool). sent_to conn sends ++ cond b send.bytes []) other ∙ append-nil (sent_to conn sends))) ∙ before conn
