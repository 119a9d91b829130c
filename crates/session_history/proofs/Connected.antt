-- The sends of a run: in the order of the items taken, each with some bytes, to a connection that the items taken before it leave open.
use Rattle.run_history.specs.Call.{received}
use Rattle.session_history.proofs.Terms.{Bool, List, Option, Some, [], ap, arith, length, refl, subst, sym, take, true, ℕ, ◌++◌, ◌+◌, ◌<◌, ◌∙◌, ◌∷◌, ◌≡◌, take_more, get_or_from_slice_get, slice_get_within, slice_get, Item, Send, Choice, Image, may, repeated_keeps, allocated_keeps, next_parts, received_keeps, allocated, connections_after, Machine, State, no_connections, register, start, start_machine, Run, after, does, next, AreInOrder}
use Rattle.session_history.proofs.Passing.{in_order_wider, in_order_then}
use Rattle.session_history.proofs.Growing.{Moved, ByItself, BySend, ByEnd, ByItem, ByChoice, moved}

-- the connections that may be sent to once these items were taken
abbrev pub after_items : List Item → List Bool → List Bool
after_items [] connections = connections
after_items (item ∷ items) connections = after_items items (connections_after item connections)

pub after_items-append : (items more : List Item) (connections : List Bool) → after_items (items ++ more) connections ≡ after_items more (after_items items connections)
after_items-append [] more connections = refl
after_items-append (item ∷ items) more connections = after_items-append items more (connections_after item connections)

-- a send of some bytes to a connection that the items taken before it leave open
pub record IsSent (items : List Item) (send : Send) : Type 0 where
  pub some : 0 < length send.bytes
  pub open_then : may (after_items (take send.taken items) no_connections) send.conn ≡ true

abbrev pub AreSent : List Item → List Send → Type 0
AreSent items [] = Unit {0}
AreSent items (send ∷ sends) = IsSent items send × AreSent items sends

pub are_sent-append : (items : List Item) (sends more : List Send) → AreSent items sends → AreSent items more → AreSent items (sends ++ more)
are_sent-append items [] more are others = others
are_sent-append items (send ∷ sends) more are others = (are.0, are_sent-append items sends more are.1 others)

pub are_sent-behind : (items : List Item) (sends more : List Send) → AreSent items (sends ++ more) → AreSent items more
are_sent-behind items [] more are = are
are_sent-behind items (send ∷ sends) more are = are_sent-behind items sends more are.1

-- a state of a run whose sends are so
pub record Connected (items : List Item) (s : State) : Type 0 where
  pub connections : s.machine.connections ≡ after_items (take s.machine.taken items) no_connections
  pub ordered : AreInOrder s.machine.taken s.sends
  pub sent : AreSent items s.sends

-- one more element
pub take_one : {X : Type 0} (xs : List X) (n : ℕ) (x : X) → slice_get xs n ≡ Some x → take (n + 1) xs ≡ take n xs ++ x ∷ []
take_one xs n x is = take_more xs n x (slice_get_within xs n x is) ∙ ap (λ it. take n xs ++ it ∷ []) (get_or_from_slice_get xs n x x is)

connected_by : (items : List Item) (s : State) (m : Machine) → m.taken ≡ s.machine.taken → m.connections ≡ s.machine.connections → Connected items s → Connected items (record s { machine = m })
connected_by items s m taken connections was = record {
  connections = connections ∙ was.connections ∙ ap (λ n. after_items (take n items) no_connections) (sym taken);
  ordered = subst (λ n. AreInOrder n s.sends) (sym taken) was.ordered;
  sent = was.sent;
}

connected_send : (items : List Item) (s : State) (conn : ℕ) (bytes : List ℕ) (m : Machine) → m.taken ≡ s.machine.taken → m.connections ≡ s.machine.connections → 0 < length bytes → may s.machine.connections conn ≡ true → Connected items s
    → Connected items (record s { machine = m; sends = s.sends ++ record { conn = conn; bytes = bytes; taken = s.machine.taken } ∷ [] })
connected_send items s conn bytes m taken connections some allowed was =
    let send : Send = record { conn = conn; bytes = bytes; taken = s.machine.taken } in
    record {
      connections = connections ∙ was.connections ∙ ap (λ n. after_items (take n items) no_connections) (sym taken);
      ordered = subst (λ n. AreInOrder n (s.sends ++ send ∷ [])) (sym taken) (in_order_then s.machine.taken s.sends send refl was.ordered);
      sent = are_sent-append items s.sends (send ∷ []) was.sent (record { some = some; open_then = ap (λ cs. may cs conn) (sym was.connections) ∙ allowed }, tt);
    }

connected_item : (items : List Item) (s : State) (item : Item) → slice_get items s.machine.taken ≡ Some item → Connected items s → Connected items (record s { machine = received item s.machine })
connected_item items s item is was =
    let keeps = received_keeps item s.machine in
    record {
      connections =
          keeps.connections ∙ ap (connections_after item) was.connections
          ∙ sym (after_items-append (take s.machine.taken items) (item ∷ []) no_connections)
          ∙ ap (λ its. after_items its no_connections) (sym (take_one items s.machine.taken item is))
          ∙ ap (λ n. after_items (take n items) no_connections) (sym keeps.taken);
      ordered = in_order_wider s.machine.taken (received item s.machine).taken s.sends (omega (arith, keeps.taken)) was.ordered;
      sent = was.sent;
    }

-- one instruction
after_connected : (items : List Item) (s t : State) (item : Option Item) (choice : Option Choice) → slice_get items s.machine.taken ≡ item → Connected items s → after s (does item choice s.machine) ≡ Some t → Connected items t
after_connected items s t item choice found was goes = by (moved s t item choice goes)
  where
    by : Moved s t item choice → Connected items t
    by (ByItself m alone is) = subst (Connected items) is (connected_by items s m alone.taken alone.connections was)
    by (BySend conn bytes m alone is) = subst (Connected items) is (connected_send items s conn bytes m alone.0.taken alone.0.connections alone.1.some alone.1.allowed was)
    by (ByEnd code is) = subst (Connected items) is (record { connections = was.connections; ordered = was.ordered; sent = was.sent })
    by (ByItem it at is) = subst (Connected items) is (connected_item items s it (found ∙ at) was)
    by (ByChoice ask it at may is) =
        let keeps = allocated_keeps it s.machine in
        subst (Connected items) is (connected_by items s (allocated it s.machine) keeps.taken keeps.connections was)

-- the start
connected_start : (items : List Item) (image : Image) → Connected items (start image)
unfolding start start_machine
connected_start items image = record { connections = refl; ordered = tt; sent = tt }

-- a run from the start
pub run_connected : (image : Image) (items : List Item) (choices : List Choice) (steps : ℕ) (state : State) → Run image items choices steps state → Connected items state
run_connected image items choices steps state ran =
    repeated_keeps (next items choices) (λ a b. Connected items a → Connected items b) (λ a is. is) (λ a b c one other is. other (one is))
    (λ a b goes is. after_connected items a b (slice_get items a.machine.taken) (slice_get choices a.machine.allocations) refl is (next_parts items choices a b goes).1) steps (start image) state ran.ran (connected_start items image)
