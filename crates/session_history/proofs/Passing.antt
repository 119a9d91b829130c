-- What was passed stays a front of what a run emits, and feasible, while the run goes on and while pieces that are due are
-- passed.
use Rattle.std.proofs.lemmas.List.Elements.{filter-append}
use Rattle.session_history.proofs.Terms.{Bool, List, [], ap, append-nil, arith, cond, eqb, false, inl, inr, leb, refl, subst, sym, true, ℕ, ◌++◌, ◌<◌, ◌∙◌, ◌∷◌, ◌≡◌, ◌≤◌, cases_lt, eqb-true, le-leb, leb-false, lt-leb, Prefix, Send, sent_to, prefix_sent, prefix_trans, sent_to-more, State, output, AreBetween, AreInOrder, Covers, IsFeasible, until}
use Rattle.session_history.proofs.Growing.{between_wider, between_append, Grows}

pub in_order_wider : (high higher : ℕ) (pieces : List Send) → high ≤ higher → AreInOrder high pieces → AreInOrder higher pieces
in_order_wider high higher [] h are = tt
in_order_wider high higher (piece ∷ pieces) h are = (between_wider piece.taken high piece.taken higher pieces (omega arith) h are.0, omega (arith, h, are.1), in_order_wider high higher pieces h are.2)

-- one more piece with the highest stamp
pub in_order_then : (high : ℕ) (pieces : List Send) (piece : Send) → piece.taken ≡ high → AreInOrder high pieces → AreInOrder high (pieces ++ piece ∷ [])
in_order_then high [] piece is are = (tt, omega (arith, is), tt)
in_order_then high (first ∷ pieces) piece is are =
    (between_append first.taken high pieces (piece ∷ []) are.0 (omega (arith, is, are.1), omega (arith, is), tt), are.1, in_order_then high pieces piece is are.2)

-- of sends with higher numbers none is made in time
pub none_until : (item low high : ℕ) (sends : List Send) → item < low → AreBetween low high sends → until item sends ≡ []
none_until item low high [] h are = refl
none_until item low high (send ∷ sends) h are =
    ap (λ (b : Bool). cond b (send ∷ until item sends) (until item sends)) (lt-leb send.taken item (omega (arith, h, are.0))) ∙ none_until item low high sends h are.2

-- sends that were all made in time
pub all_until : (item low high : ℕ) (sends : List Send) → high ≤ item → AreBetween low high sends → until item sends ≡ sends
all_until item low high [] h are = refl
all_until item low high (send ∷ sends) h are =
    ap (λ (b : Bool). cond b (send ∷ until item sends) (until item sends)) (le-leb send.taken item (omega (arith, h, are.1))) ∙ ap (λ more. send ∷ more) (all_until item low high sends h are.2)

-- pieces in order that were passed in time are the first ones
pub until_front : (item high : ℕ) (pieces : List Send) → AreInOrder high pieces → Prefix (until item pieces) pieces
until_front item high [] are = ([], refl)
until_front item high (piece ∷ pieces) are = of (leb piece.taken item) refl (until_front item high pieces are.2)
  where
    of : (b : Bool) → leb piece.taken item ≡ b → Prefix (until item pieces) pieces → Prefix (cond b (piece ∷ until item pieces) (until item pieces)) (piece ∷ pieces)
    of true is ih = (ih.0, ap (λ more. piece ∷ more) ih.1)
    of false is ih = (piece ∷ pieces, ap (λ front. front ++ piece ∷ pieces) (none_until item piece.taken high pieces (leb-false piece.taken item is) are.0))

pub covers_on : (pieces : List Send) (s t : State) → Grows s t → Covers pieces s → Covers pieces t
covers_on pieces s t grows covers conn = prefix_trans (sent_to conn pieces) (output s conn) (output t conn) (covers conn) (prefix_sent conn s.sends t.sends (grows.more, sym grows.sends))

-- the sends of a run were made with no more items than it took
pub timed_on : (s t : State) → Grows s t → AreBetween 0 s.machine.taken s.sends → AreBetween 0 t.machine.taken t.sends
timed_on s t grows are =
    subst (AreBetween 0 t.machine.taken) (sym grows.sends)
    (between_append 0 t.machine.taken s.sends grows.more
    (between_wider 0 s.machine.taken 0 t.machine.taken s.sends (omega arith) grows.taken are)
    (between_wider s.machine.taken t.machine.taken 0 t.machine.taken grows.more (omega arith) (omega arith) grows.between))

-- the sends made in time of a run that went on begin with those of the run
pub until_grown : (item : ℕ) (s t : State) → Grows s t → Prefix (until item s.sends) (until item t.sends)
until_grown item s t grows = (until item grows.more, sym (ap (until item) grows.sends ∙ filter-append _ s.sends grows.more))

pub feasible_on : (high : ℕ) (pieces : List Send) (s t : State) → Grows s t → AreInOrder high pieces → AreBetween 0 s.machine.taken s.sends → Covers pieces s → IsFeasible pieces s → IsFeasible pieces t
feasible_on high pieces s t grows order timed covers feasible item low conn =
    elim (cases_lt item s.machine.taken) [
      | inl before ↦ prefix_trans _ _ _ (feasible item before conn) (prefix_sent conn _ _ (until_grown item s t grows))
      | inr later ↦
          prefix_trans _ _ _ (prefix_sent conn _ _ (until_front item high pieces order))
          (prefix_trans _ _ _ (covers conn)
          (prefix_sent conn s.sends (until item t.sends) (subst (λ sends. Prefix sends (until item t.sends)) (all_until item 0 s.machine.taken s.sends later timed) (until_grown item s t grows))))
    ]

-- a piece with a stamp that isn't below the items taken
pub feasible_pass : (pieces : List Send) (piece : Send) (s : State) → s.machine.taken ≤ piece.taken → IsFeasible pieces s → IsFeasible (pieces ++ piece ∷ []) s
feasible_pass pieces piece s late feasible item low conn =
    subst (λ sends. Prefix (sent_to conn sends) (sent_to conn (until item s.sends)))
    (sym (filter-append _ pieces (piece ∷ []) ∙ ap (λ more. until item pieces ++ more) (none_until item piece.taken piece.taken (piece ∷ []) (omega (arith, low, late)) (omega arith, omega arith, tt)) ∙ append-nil (until item pieces)))
    (feasible item low conn)

-- a piece that is some first bytes of what is left of a send, with all that was sent to its connection before it
pub covers_pass : (pieces : List Send) (piece : Send) (s : State) (front : List Send) → Prefix front s.sends → Prefix (sent_to piece.conn pieces ++ piece.bytes) (sent_to piece.conn front) → Covers pieces s → Covers (pieces ++ piece ∷ []) s
covers_pass pieces piece s front begins part covers conn = of (eqb piece.conn conn) refl
  where
    of : (b : Bool) → eqb piece.conn conn ≡ b → Prefix (sent_to conn (pieces ++ piece ∷ [])) (output s conn)
    of true same =
        subst (λ bytes. Prefix bytes (output s conn)) (sym (sent_to-more conn pieces piece ∙ ap (λ (b : Bool). sent_to conn pieces ++ cond b piece.bytes []) same))
        (prefix_trans _ _ _ (subst (λ c. Prefix (sent_to c pieces ++ piece.bytes) (sent_to c front)) (eqb-true piece.conn conn same) part) (prefix_sent conn front s.sends begins))
    of false other =
        subst (λ bytes. Prefix bytes (output s conn)) (sym (sent_to-more conn pieces piece ∙ ap (λ (b : Bool). sent_to conn pieces ++ cond b piece.bytes []) other ∙ append-nil (sent_to conn pieces)))
        (covers conn)
