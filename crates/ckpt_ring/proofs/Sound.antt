-- A store that was just made has a line, and the slots of a line are sound.
use Rattle.ckpt_ring.proofs.Terms.{Contains, IfSome, IsSome, List, None, Option, Some, [], ap, ap₂, arith, get_or, inl, inr, length, nat_eq, refl, replicate, slice_get, suc, zero, ℕ, ◌*◌, ◌-◌, ◌<◌, ◌∙◌, ◌∷◌, ◌≡◌, ◌≤◌, eqb-true, All-contains, length-le_from_distinct_below, Contains-from_any, IsDistinct, IsMade, Pages, Space, slot_at, IsLine, Line, checkpoints_in, count_true, line_of, slots_of, written_since, AreSound, Checkpoint, oldest_of}
use Rattle.ckpt_ring.proofs.Same.{length-checkpoints_in, emptied}
use Rattle.ckpt_ring.proofs.Flags.{count_true-all}

none_in_blank : (n k : ℕ) → get_or (replicate {A = Option Space} n None) k None ≡ None
none_in_blank zero k = refl
none_in_blank (suc n) zero = refl
none_in_blank (suc n) (suc k) = none_in_blank n k

distinct-none : IsDistinct nat_eq []
unfolding IsDistinct
distinct-none = tt

pub line_starts : (pages slots frames : ℕ) (store : Pages) → IsMade pages slots frames store → 2 * pages ≤ frames → IsLine store (line_of [] 0)
line_starts pages slots frames store made enough = record {
  distinct = distinct-none;
  each_saved = λ k d less. absurd (omega arith);
  all_saved = λ slot some. absurd (emptied (slot_at store slot) (ap (λ xs. get_or xs slot None) made.empty ∙ none_in_blank slots slot) some);
  base = inr (refl, refl);
  fresh = tt;
  live = λ page less written. refl;
  frames = omega (arith, made.pages_are, made.frames_are, enough);
}

-- a slot that isn't in the line is empty
pub line_hasnt : (store : Pages) (line : Line) (slot : ℕ) → IsLine store line → ¬ Contains line.order slot → slot_at store slot ≡ None
line_hasnt store line slot so absent = nothing (slot_at store slot) (λ some. absent (so.all_saved slot some)) where
  nothing : (o : Option Space) → (IsSome o → ⊥) → o ≡ None
  nothing None none = refl
  nothing (Some space) none = absurd (none refl)

module _ {State : Type 0} (state_in : ℕ → State) where
  oldest_whole : (store : Pages) (order : List ℕ) → IfSome (oldest_of (checkpoints_in state_in store order)) (λ one. one.pages ≡ store.pages)
  oldest_whole store [] = tt
  oldest_whole store (slot ∷ []) = count_true-all store.pages
  oldest_whole store (slot ∷ next ∷ older) =
      let list : List (Checkpoint State) = checkpoints_in state_in store (next ∷ older) in
      let place : length (checkpoints_in state_in store (slot ∷ next ∷ older)) - 1 ≡ suc (length list - 1) = omega arith in
      rw place (oldest_whole store (next ∷ older))

  pub line_sound : (live : State) (store : Pages) (line : Line) → IsLine store line → AreSound (slots_of state_in live store line)
  line_sound live store line so =
      let long : length (checkpoints_in state_in store line.order) ≡ length line.order = length-checkpoints_in state_in store line.order in
      let few : length line.order ≤ length store.slots =
      length-le_from_distinct_below line.order (length store.slots) so.distinct
      (λ n any. (All-contains (λ slot. (slot < length store.slots) × IsSome (slot_at store slot)) line.order n so.each_saved (Contains-from_any eqb-true n line.order any)).0) in
      record {
        few = omega arith;
        oldest = oldest_whole store line.order;
        stands = elim so.base [
          | inl less ↦ inl (omega (arith, less))
          | inr none ↦
              inr (
                ap (checkpoints_in state_in store) none.0,
                none.1,
                ap (λ o. count_true (written_since store o store.live.numbers)) (ap₂ slice_get none.0 none.1) ∙ count_true-all store.pages,
              )
        ];
        frames = so.frames;
      }
