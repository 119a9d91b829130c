-- Laws of the output: it only grows.
use Rattle.std.proofs.lemmas.Grind.{flat_map-append}
use Rattle.run_history.proofs.Terms.{List, Some, [], ap, append-nil, append_assoc, cond, eqb, sym, ℕ, ◌++◌, ◌+◌, ◌∙◌, ◌∷◌, ◌≡◌, none-some, same_Some, Item, Prefix, Send, sent_to, Choice, Chooses, Effect, Emits, Ends, Fails, Goes, State, Wants, after, effect, next, output, run}
use Rattle.run_history.proofs.Repeats.{repeated_keeps}
use Rattle.run_history.proofs.Runs.{next_parts, run_from}

-- a list is its own front
pub prefix_same : {X : Type 0} (xs : List X) → Prefix xs xs
prefix_same xs = ([], append-nil xs)

-- a front of a front is a front
pub prefix_trans : {X : Type 0} (xs ys zs : List X) → Prefix xs ys → Prefix ys zs → Prefix xs zs
prefix_trans xs ys zs first second =
    (first.0 ++ second.0, sym (append_assoc xs first.0 second.0) ∙ ap (λ w. w ++ second.0) first.1 ∙ second.1)

-- what is sent to a connection, in two parts
pub sent_to-append : (conn : ℕ) (sends more : List Send) → sent_to conn (sends ++ more) ≡ sent_to conn sends ++ sent_to conn more
sent_to-append conn sends more = flat_map-append (λ (send : Send). cond (eqb send.conn conn) send.bytes []) sends more

-- with one more send, its bytes are behind, if it is to this connection
pub sent_to-more : (conn : ℕ) (sends : List Send) (send : Send) → sent_to conn (sends ++ send ∷ []) ≡ sent_to conn sends ++ cond (eqb send.conn conn) send.bytes []
sent_to-more conn sends send = sent_to-append conn sends (send ∷ []) ∙ ap (λ w. sent_to conn sends ++ w) (append-nil (cond (eqb send.conn conn) send.bytes []))

-- more sends give more bytes
pub prefix_sent : (conn : ℕ) (sends more : List Send) → Prefix sends more → Prefix (sent_to conn sends) (sent_to conn more)
prefix_sent conn sends more front =
    (sent_to conn front.0, sym (sent_to-append conn sends front.0) ∙ ap (sent_to conn) front.1)

after_sends : (s t : State) (e : Effect) → after s e ≡ Some t → Prefix s.sends t.sends
after_sends s t (Goes m) h = let e = ap (λ (v : State). v.sends) (same_Some _ t h) in rw (← e) (prefix_same s.sends)
after_sends s t (Emits conn bytes m) h = let e = ap (λ (v : State). v.sends) (same_Some _ t h) in (_, e)
after_sends s t (Ends code) h = let e = ap (λ (v : State). v.sends) (same_Some _ t h) in rw (← e) (prefix_same s.sends)
after_sends s t Wants h = absurd (none-some t h)
after_sends s t (Chooses ask) h = absurd (none-some t h)
after_sends s t (Fails cause) h = absurd (none-some t h)

-- one instruction only adds to the sends
pub next_sends : (items : List Item) (choices : List Choice) (s t : State) → next items choices s ≡ Some t → Prefix s.sends t.sends
next_sends items choices s t goes = after_sends s t (effect items choices s.machine) (next_parts items choices s t goes).1

-- a run only adds to the sends
pub run_sends : (items : List Item) (choices : List Choice) (s t : State) (n : ℕ) → run items choices s n ≡ Some t → Prefix s.sends t.sends
run_sends items choices s t n ran =
    repeated_keeps (next items choices) (λ a b. Prefix a.sends b.sends)
    (λ a. prefix_same a.sends) (λ a b c first second. prefix_trans a.sends b.sends c.sends first second) (λ a b goes. next_sends items choices a b goes) n s t ran

-- so it only adds to each connection's output
pub run_output : (items : List Item) (choices : List Choice) (s t : State) (n conn : ℕ) → run items choices s n ≡ Some t → Prefix (output s conn) (output t conn)
run_output items choices s t n conn ran = prefix_sent conn s.sends t.sends (run_sends items choices s t n ran)

-- a longer run goes through a shorter one, and adds to its output
pub longer_output : (items : List Item) (choices : List Choice) (s t u : State) (n m conn : ℕ) → run items choices s n ≡ Some t → run items choices s (n + m) ≡ Some u → Prefix (output t conn) (output u conn)
longer_output items choices s t u n m conn short long =
    run_output items choices t u m conn (sym (run_from items choices s t n m short) ∙ long)
