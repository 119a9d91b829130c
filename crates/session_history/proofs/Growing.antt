-- What a run adds: sends, each with a number of items taken between those of its ends.
use Rattle.block_book.specs.Answer.{is_allowed}
use Rattle.block_book.specs.declared.choice.Ask.{Ask}
use Rattle.run_history.specs.Machine.{Ends}
use Rattle.run_history.specs.Call.{received}
use Rattle.run_history.proofs.Shapes.{Alone, Picks, Same, Shape, Takes, does_shape}
use Rattle.session_history.proofs.Terms.{Bool, List, None, Option, Some, [], ap, append-nil, append_assoc, arith, cond, false, refl, subst, sym, true, ℕ, ◌++◌, ◌∙◌, ◌∷◌, ◌≡◌, ◌≤◌, none-some, same_Some, slice_get, Item, Send, Choice, repeated_keeps, allocated_keeps, next_parts, received_keeps, allocated, chooses, takes, Chooses, Effect, Emits, Fails, Goes, Machine, State, Wants, after, does, next, run, AreBetween}

-- the second state is the first with more sends
pub record Grows (first second : State) : Type 0 where
  pub more : List Send
  pub sends : second.sends ≡ first.sends ++ more
  pub taken : first.machine.taken ≤ second.machine.taken
  pub between : AreBetween first.machine.taken second.machine.taken more

pub between_wider : (low high lower higher : ℕ) (sends : List Send) → lower ≤ low → high ≤ higher → AreBetween low high sends → AreBetween lower higher sends
between_wider low high lower higher [] l h are = tt
between_wider low high lower higher (send ∷ sends) l h are = (omega (arith, l, are.0), omega (arith, h, are.1), between_wider low high lower higher sends l h are.2)

pub between_append : (low high : ℕ) (sends more : List Send) → AreBetween low high sends → AreBetween low high more → AreBetween low high (sends ++ more)
between_append low high [] more are others = others
between_append low high (send ∷ sends) more are others = (are.0, are.1, between_append low high sends more are.2 others)

pub grows_same : (s : State) → Grows s s
grows_same s = record { more = []; sends = sym (append-nil s.sends); taken = omega arith; between = tt }

pub grows_on : (s t u : State) → Grows s t → Grows t u → Grows s u
grows_on s t u one other = record {
  more = one.more ++ other.more;
  sends = other.sends ∙ ap (λ sends. sends ++ other.more) one.sends ∙ append_assoc s.sends one.more other.more;
  taken = omega (arith, one.taken, other.taken);
  between =
      between_append s.machine.taken u.machine.taken one.more other.more
      (between_wider s.machine.taken t.machine.taken s.machine.taken u.machine.taken one.more (omega arith) other.taken one.between)
      (between_wider t.machine.taken u.machine.taken s.machine.taken u.machine.taken other.more one.taken (omega arith) other.between);
}

-- a machine that took no fewer items, and the same sends
grows_by : (s : State) (m : Machine) → s.machine.taken ≤ m.taken → Grows s (record s { machine = m })
grows_by s m later = record { more = []; sends = sym (append-nil s.sends); taken = later; between = tt }

grows_send : (s : State) (conn : ℕ) (bytes : List ℕ) (m : Machine) → m.taken ≡ s.machine.taken
    → Grows s (record s { machine = m; sends = s.sends ++ record { conn = conn; bytes = bytes; taken = s.machine.taken } ∷ [] })
grows_send s conn bytes m same = record { more = record { conn = conn; bytes = bytes; taken = s.machine.taken } ∷ []; sends = refl; taken = omega (arith, same); between = (omega arith, omega (arith, same), tt) }

-- what one instruction made of a state: it needed nothing, or sent, or ended the program; or it took the next item; or its ask was answered
pub data Moved (s t : State) (item : Option Item) (choice : Option Choice) : Type 0 where
  ByItself : (m : Machine) → Alone s.machine (Goes m) → record s { machine = m } ≡ t → Moved s t item choice
  BySend : (conn : ℕ) (bytes : List ℕ) (m : Machine) → Alone s.machine (Emits conn bytes m)
      → record s { machine = m; sends = s.sends ++ record { conn = conn; bytes = bytes; taken = s.machine.taken } ∷ [] } ≡ t → Moved s t item choice
  ByEnd : (code : ℕ) → record s { ended = Some code } ≡ t → Moved s t item choice
  ByItem : (it : Item) → item ≡ Some it → record s { machine = received it s.machine } ≡ t → Moved s t item choice
  ByChoice : (ask : Ask) (it : Choice) → choice ≡ Some it → is_allowed s.machine.heap_start s.machine.heap_end s.machine.blocks ask it ≡ true
      → record s { machine = allocated it s.machine } ≡ t → Moved s t item choice

pub moved : (s t : State) (item : Option Item) (choice : Option Choice) → after s (does item choice s.machine) ≡ Some t → Moved s t item choice
moved s t item choice goes = of_shape (does_shape s.machine)
  where
    of_alone : (e : Effect) → Alone s.machine e → after s e ≡ Some t → Moved s t item choice
    of_alone (Goes m) alone h = ByItself m alone (same_Some _ t h)
    of_alone (Emits conn bytes m) alone h = BySend conn bytes m alone (same_Some _ t h)
    of_alone (Ends code) alone h = ByEnd code (same_Some _ t h)
    of_alone Wants alone h = absurd alone
    of_alone (Chooses ask) alone h = absurd alone
    of_alone (Fails cause) alone h = absurd (none-some t h)

    of_next : (found : Option Item) → item ≡ found → after s (takes s.machine found) ≡ Some t → Moved s t item choice
    of_next None is h = absurd (none-some t h)
    of_next (Some it) is h = ByItem it is (same_Some _ t h)

    of_test : (ask : Ask) (it : Choice) (b : Bool) → choice ≡ Some it → is_allowed s.machine.heap_start s.machine.heap_end s.machine.blocks ask it ≡ b
        → after s (cond b (Goes (allocated it s.machine)) (Chooses ask)) ≡ Some t → Moved s t item choice
    of_test ask it true is may h = ByChoice ask it is may (same_Some _ t h)
    of_test ask it false is may h = absurd (none-some t h)

    of_choice : (ask : Ask) (found : Option Choice) → choice ≡ found → after s (chooses ask s.machine found) ≡ Some t → Moved s t item choice
    of_choice ask None is h = absurd (none-some t h)
    of_choice ask (Some it) is h = of_test ask it (is_allowed s.machine.heap_start s.machine.heap_end s.machine.blocks ask it) is refl h

    of_shape : Shape s.machine (λ item choice. does item choice s.machine) → Moved s t item choice
    of_shape (Same e alone is) = of_alone e alone (ap (after s) (sym (is item choice)) ∙ goes)
    of_shape (Takes may is) = of_next item refl (ap (after s) (sym (is item choice)) ∙ goes)
    of_shape (Picks ask good is) = of_choice ask choice refl (ap (after s) (sym (is item choice)) ∙ goes)

after_grows : (s t : State) (item : Option Item) (choice : Option Choice) → after s (does item choice s.machine) ≡ Some t → Grows s t
after_grows s t item choice goes = by (moved s t item choice goes)
  where
    by : Moved s t item choice → Grows s t
    by (ByItself m alone is) = subst (Grows s) is (grows_by s m (omega (arith, alone.taken)))
    by (BySend conn bytes m alone is) = subst (Grows s) is (grows_send s conn bytes m alone.0.taken)
    by (ByEnd code is) = subst (Grows s) is (record { more = []; sends = sym (append-nil s.sends); taken = omega arith; between = tt })
    by (ByItem it at is) = subst (Grows s) is (grows_by s (received it s.machine) (omega (arith, (received_keeps it s.machine).taken)))
    by (ByChoice ask it at may is) = subst (Grows s) is (grows_by s (allocated it s.machine) (omega (arith, (allocated_keeps it s.machine).taken)))

-- a run
pub run_grows : (items : List Item) (choices : List Choice) (s t : State) (n : ℕ) → run items choices s n ≡ Some t → Grows s t
run_grows items choices s t n ran =
    repeated_keeps (next items choices) Grows grows_same grows_on
    (λ a b goes. after_grows a b (slice_get items a.machine.taken) (slice_get choices a.machine.allocations) (next_parts items choices a b goes).1) n s t ran
