-- Laws of runs: they compose, they don't depend on items and answers of the allocator behind those that they take, and what a
-- machine does by itself is what a run does.
use Rattle.run_history.proofs.Terms.{Bool, List, None, Option, Some, [], ap, arith, cond, eqb, false, length, length-append, max, refl, replicate, suc, sym, true, zero, ℕ, ◌++◌, ◌+◌, ◌-◌, ◌∙◌, ◌∷◌, ◌≡◌, ◌≢◌, ◌≤◌, get_or_push, length-replicate, length_push, none-some, slice_get-get_or, slice_get_past, slice_get, Item, Ask, Choice, bytes_asked, moved_count, replaced, read, Chooses, Effect, Emits, Ends, Fails, Goes, Machine, State, Wants, register, with_register, allocated, chooses, connections_after, moved_bytes, received, set_bytes, set_count, takes, after, does, effect, next, run}
use Rattle.run_history.proofs.Repeats.{repeated_from, repeated_join, repeated_one, repeated_as}
use Rattle.run_history.proofs.Shapes.{MaySend, Alone, Shape, Same, Takes, Picks, does_shape, length-bytes_at, length-with_register}

-- an element keeps its number when others come behind
pub slice_get_longer : {X : Type 0} (xs ys : List X) (i : ℕ) (x : X) → slice_get xs i ≡ Some x → slice_get (xs ++ ys) i ≡ Some x
slice_get_longer [] ys i x h = cc
slice_get_longer (y ∷ xs) ys zero x h = h
slice_get_longer (y ∷ xs) ys (suc i) x h = slice_get_longer xs ys i x h

-- the element behind n others has number n
pub element_behind : {X : Type 0} (xs : List X) (x : X) (n : ℕ) → length xs ≡ n → slice_get (xs ++ x ∷ []) n ≡ Some x
element_behind xs x n e = slice_get-get_or (xs ++ x ∷ []) n x (omega (arith, length_push xs x)) ∙ ap (λ y. Some y) (get_or_push xs x x n e)

-- before it comes, number n has none
pub element_none : {X : Type 0} (xs : List X) (n : ℕ) → length xs ≡ n → slice_get xs n ≡ None
element_none xs n e = slice_get_past xs n (omega arith)

-- an effect wants neither an item nor an answer of the allocator
pub record IsSettled (e : Effect) : Type 0 where
  pub no_item : e ≢ Wants
  pub no_choice : (ask : Ask) → e ≢ Chooses ask

-- what is there, or nothing
pub data Extends {X : Type 0} : Option X → Option X → Type 0 where
  Later : (o : Option X) → Extends None o
  Kept : (x : X) → Extends (Some x) (Some x)

-- an element by its number, in a longer list
pub extends_longer : {X : Type 0} (xs ys : List X) (i : ℕ) → Extends (slice_get xs i) (slice_get (xs ++ ys) i)
extends_longer [] ys i = Later _
extends_longer (x ∷ xs) ys zero = Kept x
extends_longer (x ∷ xs) ys (suc i) = extends_longer xs ys i

-- what a recv does with an item it does however many come behind
takes_more : (m : Machine) (item other : Option Item) (e : Effect) → Extends item other → takes m item ≡ e → IsSettled e → takes m other ≡ e
takes_more m _ _ e (Later o) was settled = absurd (settled.no_item (sym was))
takes_more m _ _ e (Kept item) was settled = was

-- what an ask does with an answer it does however many come behind
chooses_more : (ask : Ask) (m : Machine) (choice other : Option Choice) (e : Effect) → Extends choice other → chooses ask m choice ≡ e → IsSettled e → chooses ask m other ≡ e
chooses_more ask m _ _ e (Later o) was settled = absurd (settled.no_choice ask (sym was))
chooses_more ask m _ _ e (Kept choice) was settled = was

-- a settled effect stays as it is when the next item, or the next answer of the allocator, comes
pub does_more : (m : Machine) (item other : Option Item) (choice choice' : Option Choice) (e : Effect) → Extends item other → Extends choice choice'
    → does item choice m ≡ e → IsSettled e → does other choice' m ≡ e
does_more m item other choice choice' e items choices was settled = of_shape (does_shape m)
  where
    of_shape : Shape m (λ item choice. does item choice m) → does other choice' m ≡ e
    of_shape (Same same _ is) = is other choice' ∙ sym (is item choice) ∙ was
    of_shape (Takes may is) = is other choice' ∙ takes_more m item other e items (sym (is item choice) ∙ was) settled
    of_shape (Picks ask good is) = is other choice' ∙ chooses_more ask m choice choice' e choices (sym (is item choice) ∙ was) settled

-- so does one of lists, as others come behind
pub effect_longer : (items more : List Item) (choices others : List Choice) (m : Machine) (e : Effect) → effect items choices m ≡ e → IsSettled e → effect (items ++ more) (choices ++ others) m ≡ e
effect_longer items more choices others m e was settled =
    does_more m _ _ _ _ e (extends_longer items more m.taken) (extends_longer choices others m.allocations) was settled

-- what comes after a state that hasn't ended is what comes after its effect
pub next_after : (items : List Item) (choices : List Choice) (s : State) (e : Effect) → s.ended ≡ None → effect items choices s.machine ≡ e → next items choices s ≡ after s e
unfolding next
next_after items choices s e lives does = rw (lives, does) refl

-- an effect after which something comes is settled
pub settled_after : (s t : State) (e : Effect) → after s e ≡ Some t → IsSettled e
settled_after s t (Goes m) h = record { no_item = (λ e. cc); no_choice = (λ ask e. cc) }
settled_after s t (Emits conn bytes m) h = record { no_item = (λ e. cc); no_choice = (λ ask e. cc) }
settled_after s t (Ends code) h = record { no_item = (λ e. cc); no_choice = (λ ask e. cc) }
settled_after s t Wants h = absurd (none-some t h)
settled_after s t (Chooses ask) h = absurd (none-some t h)
settled_after s t (Fails cause) h = absurd (none-some t h)

-- a state after which something comes hasn't ended, and this is what comes after its effect
pub next_parts : (items : List Item) (choices : List Choice) (s t : State) → next items choices s ≡ Some t → (s.ended ≡ None) × (after s (effect items choices s.machine) ≡ Some t)
unfolding next
next_parts items choices s t goes =
    let lives = not_ended s.ended refl in
    (lives, sym (next_after items choices s (effect items choices s.machine) lives refl) ∙ goes)
  where
    not_ended : (ended : Option ℕ) → s.ended ≡ ended → s.ended ≡ None
    not_ended None is = is
    not_ended (Some code) is = absurd (none-some t (rw is at goes))

-- one instruction is unchanged by more items and answers of the allocator behind
pub next_more : (items more : List Item) (choices others : List Choice) (s t : State) → next items choices s ≡ Some t → next (items ++ more) (choices ++ others) s ≡ Some t
next_more items more choices others s t goes =
    let parts = next_parts items choices s t goes in
    let settled = settled_after s t (effect items choices s.machine) parts.1 in
    let longer = effect_longer items more choices others s.machine (effect items choices s.machine) refl settled in
    next_after (items ++ more) (choices ++ others) s (effect items choices s.machine) parts.0 longer ∙ parts.1

-- a run is unchanged by more items and answers of the allocator behind
pub run_more : (items more : List Item) (choices others : List Choice) (s t : State) (n : ℕ) → run items choices s n ≡ Some t → run (items ++ more) (choices ++ others) s n ≡ Some t
run_more items more choices others s t n ran =
    repeated_as (next items choices) (next (items ++ more) (choices ++ others)) (λ x y goes. next_more items more choices others x y goes) n s t ran

-- n + m instructions do what m do from where n ended
pub run_from : (items : List Item) (choices : List Choice) (s t : State) (n m : ℕ) → run items choices s n ≡ Some t → run items choices s (n + m) ≡ run items choices t m
run_from items choices s t n m first = repeated_from (next items choices) s t n m first

-- a run, and another one from where it ends
pub run_join : (items : List Item) (choices : List Choice) (s t u : State) (n m : ℕ) → run items choices s n ≡ Some t → run items choices t m ≡ Some u → run items choices s (n + m) ≡ Some u
run_join items choices s t u n m first second = repeated_join (next items choices) s t u n m first second

-- a run, and one instruction more
pub run_one : (items : List Item) (choices : List Choice) (s t u : State) (n : ℕ) → run items choices s n ≡ Some t → next items choices t ≡ Some u → run items choices s (n + 1) ≡ Some u
run_one items choices s t u n first second = repeated_one (next items choices) s t u n first second

-- what is known of an effect that needs neither an item nor an answer of the allocator
pub alone_is : (m : Machine) (e : Effect) → does None None m ≡ e → IsSettled e → Alone m e
alone_is m e acts settled = of_shape (does_shape m)
  where
    of_shape : Shape m (λ item choice. does item choice m) → Alone m e
    of_shape (Same same alone is) = rw (sym acts ∙ is None None) alone
    of_shape (Takes may is) = absurd (settled.no_item (sym acts ∙ is None None))
    of_shape (Picks ask good is) = absurd (settled.no_choice ask (sym acts ∙ is None None))

-- a send sends some bytes, not too many, to a connection that may be sent to
pub emits_may : (m new : Machine) (conn : ℕ) (bytes : List ℕ) → does None None m ≡ Emits conn bytes new → MaySend m conn bytes
emits_may m new conn bytes acts =
    (alone_is m (Emits conn bytes new) acts (record { no_item = (λ e. cc); no_choice = (λ ask e. cc) })).1

-- what is there extends itself
pub extends_same : {X : Type 0} (o : Option X) → Extends o o
extends_same None = Later None
extends_same (Some x) = Kept x

-- one instruction is unchanged by more answers of the allocator behind
pub next_chosen : (items : List Item) (choices others : List Choice) (s t : State) → next items choices s ≡ Some t → next items (choices ++ others) s ≡ Some t
next_chosen items choices others s t goes =
    let parts = next_parts items choices s t goes in
    let settled = settled_after s t (effect items choices s.machine) parts.1 in
    let longer = does_more s.machine _ _ _ _ (effect items choices s.machine) (extends_same (slice_get items s.machine.taken)) (extends_longer choices others s.machine.allocations) refl settled in
    next_after items (choices ++ others) s (effect items choices s.machine) parts.0 longer ∙ parts.1

-- a run is unchanged by more answers of the allocator behind
pub run_chosen : (items : List Item) (choices others : List Choice) (s t : State) (n : ℕ) → run items choices s n ≡ Some t → run items (choices ++ others) s n ≡ Some t
run_chosen items choices others s t n ran =
    repeated_as (next items choices) (next items (choices ++ others)) (λ x y goes. next_chosen items choices others x y goes) n s t ran

-- what a recv that took an item changes, and what it keeps
pub record Receives (item : Item) (m new : Machine) : Type 0 where
  pub heap_start : new.heap_start ≡ m.heap_start
  pub heap_end : new.heap_end ≡ m.heap_end
  pub blocks : new.blocks ≡ m.blocks
  pub allocations : new.allocations ≡ m.allocations
  pub taken : new.taken ≡ m.taken + 1
  pub connections : new.connections ≡ connections_after item m.connections
  pub since : new.since ≡ 0
  pub registers : length new.registers ≡ length m.registers

-- the machine that received an item is one
pub received_keeps : (item : Item) (m : Machine) → Receives item m (received item m)
unfolding received
received_keeps item m =
    record {
      heap_start = refl;
      heap_end = refl;
      blocks = refl;
      allocations = refl;
      taken = refl;
      connections = refl;
      since = refl;
      registers =
          length-with_register 10 (length item.bytes) (with_register 11 item.conn (with_register 12 item.kind m.registers))
          ∙ length-with_register 11 item.conn (with_register 12 item.kind m.registers)
          ∙ length-with_register 12 item.kind m.registers;
    }

-- what an ask that was answered changes, and what it keeps
pub record Allocates (m new : Machine) : Type 0 where
  pub heap_start : new.heap_start ≡ m.heap_start
  pub heap_end : new.heap_end ≡ m.heap_end
  pub allocations : new.allocations ≡ m.allocations + 1
  pub taken : new.taken ≡ m.taken
  pub connections : new.connections ≡ m.connections
  pub since : new.since ≡ m.since + 1
  pub registers : length new.registers ≡ length m.registers

pub allocated_keeps : (choice : Choice) (m : Machine) → Allocates m (allocated choice m)
unfolding allocated
allocated_keeps choice m =
    record {
      heap_start = refl;
      heap_end = refl;
      allocations = refl;
      taken = refl;
      connections = refl;
      since = refl;
      registers = length-with_register 10 choice.at m.registers;
    }

-- as many bytes are set from a new block's first on as are counted
pub length-set_bytes : (m : Machine) (choice : Choice) → length (set_bytes m choice) ≡ set_count m.blocks choice
unfolding set_bytes
length-set_bytes m choice = of_null (eqb choice.at 0)
  where
    size : ℕ
    size = bytes_asked choice.ask

    came : ℕ
    came = moved_count m.blocks choice (replaced choice.ask)

    length-moved : (over : Option ℕ) → length (moved_bytes m choice over) ≡ moved_count m.blocks choice over
    length-moved None = refl
    length-moved (Some old) = length-bytes_at read m.memory old (moved_count m.blocks choice (Some old))

    of_zeroed : (zeroed : Bool) → length (moved_bytes m choice (replaced choice.ask) ++ cond zeroed (replicate (size - came) 0) []) ≡ cond zeroed (max size came) came
    of_zeroed true =
        length-append (moved_bytes m choice (replaced choice.ask)) (replicate (size - came) 0)
        ∙ (let a = length-moved (replaced choice.ask) in let b = length-replicate {A = ℕ} (size - came) 0 in omega (arith, a, b))
    of_zeroed false = length-append (moved_bytes m choice (replaced choice.ask)) [] ∙ (let a = length-moved (replaced choice.ask) in omega (arith, a))

    of_null : (null : Bool) → length (cond null [] (moved_bytes m choice (replaced choice.ask) ++ cond choice.zeroed (replicate (size - came) 0) [])) ≡ cond null 0 (cond choice.zeroed (max size came) came)
    of_null true = refl
    of_null false = of_zeroed choice.zeroed
