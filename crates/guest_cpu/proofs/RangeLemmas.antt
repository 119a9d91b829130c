-- Fewer bytes of flat memory.
use Rattle.guest_space.proofs.FlatLemmas.{permitted-within, permitted-near}
use Rattle.guest_cpu.proofs.Terms.{List, None, arith, inl, inr, refl, subst, suc, sym, true, zero, ℕ, ◌+◌, ◌^◌, ◌∙◌, ◌≡◌, ◌≤◌, and_parts, cases_lt, Area, each_covered, permitted, write, Alone, Picks, Same, Shape, Takes, does_shape, Chooses, Effect, Emits, Ends, Fails, Goes, Machine, Wants, register, does}

each_covered-fewer : (flag : ℕ) (memory : List Area) (at n count : ℕ) → n ≤ count → each_covered flag memory at count ≡ true → each_covered flag memory at n ≡ true
each_covered-fewer flag memory at n zero fewer h =
    let e : n ≡ 0 = omega arith in
    subst (λ k. each_covered flag memory at k ≡ true) (sym e) refl
each_covered-fewer flag memory at n (suc count) fewer h =
    elim (cases_lt count n) as (λ _. each_covered flag memory at n ≡ true) [
      | inl all ↦
          let e : suc count ≡ n = omega arith in
          subst (λ k. each_covered flag memory at k ≡ true) e h
      | inr less ↦ each_covered-fewer flag memory at n count less (and_parts _ _ h).0
    ]

-- fewer bytes may be touched too
pub permitted-fewer : (flag : ℕ) (memory : List Area) (at n count : ℕ) → n ≤ count → permitted flag memory at count ≡ true → permitted flag memory at n ≡ true
permitted-fewer flag memory at n count fewer h =
    let near : at + count ≤ 2 ^ 32 = permitted-within flag memory at count h in
    let nearer : at + n ≤ 2 ^ 32 = omega arith in
    permitted-near flag memory at n nearer
    ∙ each_covered-fewer flag memory at n count fewer (sym (permitted-near flag memory at count near) ∙ h)

-- a machine that wants an item stands at a recv whose buffer may be written
pub wants_permitted : (m : Machine) → does None None m ≡ Wants → permitted write m.memory (register m 10) (register m 11) ≡ true
wants_permitted m wants = of_shape (does_shape m)
  where
    of_alone : (e : Effect) → Alone m e → e ≡ Wants → ⊥
    of_alone (Goes new) alone e = cc
    of_alone (Emits conn bytes new) alone e = cc
    of_alone (Ends code) alone e = cc
    of_alone Wants alone e = alone
    of_alone (Chooses ask) alone e = alone
    of_alone (Fails cause) alone e = cc

    of_shape : Shape m (λ item choice. does item choice m) → permitted write m.memory (register m 10) (register m 11) ≡ true
    of_shape (Same e alone is) = absurd (of_alone e alone (sym (is None None) ∙ wants))
    of_shape (Takes may is) = may
    of_shape (Picks ask defined is) = let chooses : Chooses ask ≡ Wants = sym (is None None) ∙ wants in cc
