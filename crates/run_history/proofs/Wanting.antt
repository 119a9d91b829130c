-- What is known where a machine wants an item.
use Rattle.run_history.proofs.Terms.{Bool, None, Option, Some, cond, false, subst, sym, true, ◌∙◌, ◌≡◌, Item, Ask, Choice, is_allowed, is_defined, BadFree, Chooses, Fails, Goes, Machine, Wants, allocated, allocation, chooses, takes, does}
use Rattle.run_history.proofs.Shapes.{Alone, Shape, Same, Takes, Picks, does_shape}

-- no ask wants an item
pub never_wants : (ask : Ask) (m : Machine) (choice : Option Choice) → chooses ask m choice ≡ Wants → ⊥
never_wants ask m None h = cc
never_wants ask m (Some choice) h = of_test (is_allowed m.heap_start m.heap_end m.blocks ask choice) h
  where
    of_test : (b : Bool) → cond b (Goes (allocated choice m)) (Chooses ask) ≡ Wants → ⊥
    of_test true is = cc
    of_test false is = cc

pub never_allocates : (ask : Ask) (m : Machine) (choice : Option Choice) → allocation ask choice m ≡ Wants → ⊥
never_allocates ask m choice h = of_test (is_defined m.blocks ask) h
  where
    of_test : (b : Bool) → cond b (chooses ask m choice) (Fails BadFree) ≡ Wants → ⊥
    of_test true is = never_wants ask m choice is
    of_test false is = cc

-- an instruction that wants an item takes the one that is next
pub wants_takes : (m : Machine) (chosen : Option Choice) → does None chosen m ≡ Wants → (item : Option Item) (choice : Option Choice) → does item choice m ≡ takes m item
wants_takes m chosen wants item choice = of_shape (does_shape m)
  where
    of_shape : Shape m (λ item choice. does item choice m) → does item choice m ≡ takes m item
    of_shape (Same e alone is) = absurd (subst (Alone m) (sym (is None chosen) ∙ wants) alone)
    of_shape (Takes may is) = is item choice
    of_shape (Picks ask good is) = absurd (never_wants ask m chosen (sym (is None chosen) ∙ wants))
