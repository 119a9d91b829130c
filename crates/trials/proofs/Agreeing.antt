-- Fronts of what a run emits agree with what was passed, and a byte that differs stays.
use Rattle.std.proofs.lemmas.List.Elements.{filter-append}
use Rattle.trials.proofs.Terms.{Bool, List, [], ap, append-nil, arith, eqb, false, refl, subst, sym, true, ℕ, ◌&&◌, ◌++◌, ◌<◌, ◌∙◌, ◌∷◌, ◌≡◌, eq-eqb, Prefix, Send, sent_to, agree, prefix_sent, State, output, served_grows, Grows, none_until, until, CheckpointUnharmed}

-- two fronts of one list agree
fronts_agree : (xs ys r s : List ℕ) → xs ++ r ≡ ys ++ s → agree xs ys ≡ true
unfolding agree
fronts_agree [] ys r s h = refl
fronts_agree (x ∷ xs) [] r s h = refl
fronts_agree (x ∷ xs) (y ∷ ys) r s h =
    let first : x ≡ y = cc in
    let rest : xs ++ r ≡ ys ++ s = cc in
    ap (λ (b : Bool). b && agree xs ys) (eq-eqb x y first) ∙ fronts_agree xs ys r s rest

pub agree-fronts : (xs ys zs : List ℕ) → Prefix xs zs → Prefix ys zs → agree xs ys ≡ true
agree-fronts xs ys zs one other = fronts_agree xs ys one.0 other.0 (one.1 ∙ sym other.1)

-- a byte that differs differs however many come behind
pub agree-more : (xs more ys : List ℕ) → agree xs ys ≡ false → agree (xs ++ more) ys ≡ false
unfolding agree
agree-more [] more ys h = absurd (cc)
agree-more (x ∷ xs) more [] h = absurd (cc)
agree-more (x ∷ xs) more (y ∷ ys) h = of_first (eqb x y) (agree-more xs more ys) h
  where
    of_first : (same : Bool) → (agree xs ys ≡ false → agree (xs ++ more) ys ≡ false) → same && agree xs ys ≡ false → same && agree (xs ++ more) ys ≡ false
    of_first true by rest = by rest
    of_first false by rest = refl

pub differs_on : (xs zs ys : List ℕ) → Prefix xs zs → agree xs ys ≡ false → agree zs ys ≡ false
differs_on xs zs ys front differs = subst (λ (l : List ℕ). agree l ys ≡ false) front.1 (agree-more xs front.0 ys differs)

-- a run that went on has made those sends in time that it had when it had taken more items
pub until_still : (item : ℕ) (s t : State) → Grows s t → item < s.machine.taken → until item t.sends ≡ until item s.sends
until_still item s t grows low =
    ap (until item) grows.sends ∙ filter-append _ s.sends grows.more ∙ ap (λ more. until item s.sends ++ more) (none_until item s.machine.taken t.machine.taken grows.more low grows.between) ∙ append-nil (until item s.sends)

-- each connection's output begins that of a run that goes on
pub output_on : (s t : State) (conn : ℕ) → Grows s t → Prefix (output s conn) (output t conn)
output_on s t conn grows = prefix_sent conn s.sends t.sends (grows.more, sym grows.sends)

pub checkpoint_unharmed : CheckpointUnharmed
checkpoint_unharmed limits items plan checkpoint failed pieces timed served covers feasible =
    let grows = served_grows limits items plan checkpoint failed served in
    record {
      agrees = λ conn. agree-fronts (output checkpoint.state conn) (sent_to conn pieces) (output failed.state conn) (output_on checkpoint.state failed.state conn grows) (covers conn);
      feasible = λ item low conn.
          subst (λ (sends : List Send). Prefix (sent_to conn (until item pieces)) (sent_to conn sends)) (until_still item checkpoint.state failed.state grows low) (feasible item (omega (arith, low, grows.taken)) conn);
      early = grows.taken;
    }
