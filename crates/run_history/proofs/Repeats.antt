-- Laws of steps that are repeated.
use Rattle.run_history.proofs.Terms.{None, Option, Some, add-one, add-suc, add-zero, ap, refl, subst, suc, sym, zero, ℕ, ◌+◌, ◌∙◌, ◌≡◌, option_and_then_some, same_Some, option_and_then, repeated}

-- to go on by nothing changes nothing
pub and_then_same : {X : Type 0} (o : Option X) → option_and_then (λ x. Some x) o ≡ o
and_then_same None = refl
and_then_same (Some x) = refl

-- to go on twice is to go on by both, one after the other
pub and_then_twice : {X Y Z : Type 0} (f : X → Option Y) (g : Y → Option Z) (o : Option X) → option_and_then g (option_and_then f o) ≡ option_and_then (λ x. option_and_then g (f x)) o
and_then_twice f g None = refl
and_then_twice f g (Some x) = refl

-- n + m steps are m steps after n
pub repeated_add : {X : Type 0} (step : X → Option X) (x : X) (n m : ℕ) → repeated step (n + m) x ≡ option_and_then (λ y. repeated step m y) (repeated step n x)
repeated_add step x n zero = rw add-zero (sym (and_then_same (repeated step n x)))
repeated_add step x n (suc m) =
    rw add-suc
    (ap (option_and_then step) (repeated_add step x n m) ∙ and_then_twice (λ y. repeated step m y) step (repeated step n x))

-- n + m steps do what m steps do from where n ended
pub repeated_from : {X : Type 0} (step : X → Option X) (x y : X) (n m : ℕ) → repeated step n x ≡ Some y → repeated step (n + m) x ≡ repeated step m y
repeated_from step x y n m first = repeated_add step x n m ∙ ap (option_and_then (λ z. repeated step m z)) first

-- n steps, and m more from where they end
pub repeated_join : {X : Type 0} (step : X → Option X) (x y z : X) (n m : ℕ) → repeated step n x ≡ Some y → repeated step m y ≡ Some z → repeated step (n + m) x ≡ Some z
repeated_join step x y z n m first second = repeated_from step x y n m first ∙ second

-- n steps, and one more
pub repeated_one : {X : Type 0} (step : X → Option X) (x y z : X) (n : ℕ) → repeated step n x ≡ Some y → step y ≡ Some z → repeated step (n + 1) x ≡ Some z
repeated_one step x y z n first second = rw add-one (ap (option_and_then step) first ∙ second)

-- where each step of one kind is one of another, so are n steps
pub repeated_as : {X : Type 0} (f g : X → Option X) → ((x next : X) → f x ≡ Some next → g x ≡ Some next)
    → (n : ℕ) (x last : X) → repeated f n x ≡ Some last → repeated g n x ≡ Some last
repeated_as f g step zero x last ran = ran
repeated_as f g step (suc n) x last ran =
    option_and_then_some f (repeated f n x) last ran (λ mid before goes.
    ap (option_and_then g) (repeated_as f g step n x mid before) ∙ step mid last goes)

-- what each step keeps, n steps keep
pub repeated_keeps : {X : Type 0} (step : X → Option X) (R : X → X → Type 0)
    → ((x : X) → R x x) → ((x y z : X) → R x y → R y z → R x z) → ((x y : X) → step x ≡ Some y → R x y)
    → (n : ℕ) (x last : X) → repeated step n x ≡ Some last → R x last
repeated_keeps step R same join one zero x last ran = subst (λ v. R x v) (same_Some x last ran) (same x)
repeated_keeps step R same join one (suc n) x last ran =
    option_and_then_some step (repeated step n x) last ran (λ mid before goes.
    join x mid last (repeated_keeps step R same join one n x mid before) (one mid last goes))
