-- What a free leaves.
use Rattle.std.specs.List.{find, list_any}
use Rattle.block_book.specs.declared.block.Block.{Block}
use Rattle.block_book.proofs.Searches.{IsAbout, at-is-about, any-above}
use Rattle.alloc_env.proofs.Terms.{Bool, List, None, Option, Some, [], ap, cond, eqb, false, if◌then◌else◌, inl, inr, not, refl, subst, sym, true, ℕ, ◌&&◌, ◌||◌, ◌∙◌, ◌∷◌, ◌≡◌, and_parts, cases_Bool, eq-eqb, eqb-true, ne_eqb, or_parts, same_Some, Site, Standing, Delayed, Live, Nothing, kept-front, live-delayed, live-front, live-front_delayed, live-without, sound-delayed, sound-filter, live_blocks, without_live, extent_end, Heap, IsHeap, StandWithin, is_live_at, live_at, remembering, standing_at, standing_of, with_delayed, without_block, Env, treatment_of, freed, freed_by, served_free, Follows}

-- a live block of that address stands among blocks
abbrev is_live : ℕ → Block → Bool
is_live at block = (eqb block.at at) && not block.delayed

-- where no live block stands at an address, taking it away changes nothing
without-none : (at : ℕ) (blocks : List Block) → list_any (is_live at) blocks ≡ false → without_live at (live_blocks blocks) ≡ live_blocks blocks
without-none at [] h = refl
without-none at (block ∷ blocks) h =
    let p = or_parts (is_live at block) (list_any (is_live at) blocks) h in
    let rest = without-none at blocks p.1 in
    elim (cases_Bool block.delayed) [
      | inl d ↦ ap (without_live at) (live-front_delayed block blocks d) ∙ rest ∙ sym (live-front_delayed block blocks d)
      | inr l ↦
          let other : eqb block.at at ≡ false = left-false (eqb block.at at) block.delayed p.0 l in
          ap (without_live at) (live-front block blocks l)
          ∙ kept-front at block.size block.at (live_blocks blocks) other
          ∙ ap (λ live. (block.at, block.size) ∷ live) rest
          ∙ sym (live-front block blocks l)
    ]
  where
    left-false : (here delayed : Bool) → (here && not delayed) ≡ false → delayed ≡ false → here ≡ false
    left-false false delayed h l = refl
    left-false true false h l = h
    left-false true true h l = l

live-is-about : (at : ℕ) → IsAbout at (is_live at)
live-is-about at block h = at-is-about at block (and_parts (eqb block.at at) (not block.delayed) h).0

-- a delayed block that is found is the only one there
delayed-alone : (at from : ℕ) (blocks : List Block) (to : ℕ) (found : Block) → StandWithin from blocks to → find (λ block. eqb block.at at) blocks ≡ Some found → found.delayed ≡ true → list_any (is_live at) blocks ≡ false
delayed-alone at from [] to found h is d = refl
delayed-alone at from (block ∷ blocks) to found h is d =
    elim (cases_Bool (eqb block.at at)) [
      | inl here ↦
          let same : block ≡ found = same_Some block found (sym (ap (λ b. cond b (Some block) (find (λ block. eqb block.at at) blocks)) here) ∙ is) in
          let delayed : block.delayed ≡ true = ap (λ (b : Block). b.delayed) same ∙ d in
          let inside = at-is-about at block here in
          ap (λ b. (eqb block.at at && not b) || list_any (is_live at) blocks) delayed
          ∙ ap (λ b. (b && false) || list_any (is_live at) blocks) here
          ∙ any-above at (is_live at) (live-is-about at) (extent_end block) blocks to h.2 inside.1
      | inr other ↦
          ap (λ b. (b && not block.delayed) || list_any (is_live at) blocks) other
          ∙ delayed-alone at (extent_end block) blocks to found h.2 (sym (ap (λ b. cond b (Some block) (find (λ block. eqb block.at at) blocks)) other) ∙ is) d
    ]

-- a block that is found and isn't delayed is live
found-live : (at : ℕ) (blocks : List Block) (found : Block) → find (λ block. eqb block.at at) blocks ≡ Some found → found.delayed ≡ false → list_any (is_live at) blocks ≡ true
found-live at [] found is l = absurd (cc is)
found-live at (block ∷ blocks) found is l =
    elim (cases_Bool (eqb block.at at)) [
      | inl here ↦
          let same : block ≡ found = same_Some block found (sym (ap (λ b. cond b (Some block) (find (λ block. eqb block.at at) blocks)) here) ∙ is) in
          let live : block.delayed ≡ false = ap (λ (b : Block). b.delayed) same ∙ l in
          ap (λ b. (eqb block.at at && not b) || list_any (is_live at) blocks) live
          ∙ ap (λ b. (b && true) || list_any (is_live at) blocks) here
      | inr other ↦
          ap (λ b. (b && not block.delayed) || list_any (is_live at) blocks) other
          ∙ found-live at blocks found (sym (ap (λ b. cond b (Some block) (find (λ block. eqb block.at at) blocks)) other) ∙ is) l
    ]

-- what stands at an address says whether a live block does
pub live-standing : (heap : Heap) (at size : ℕ) → standing_at heap at ≡ Live size → is_live_at heap at ≡ true
live-standing heap at size is = by-found (find (λ block. eqb block.at at) heap.blocks) refl is
  where
    by-delayed : (block : Block) (d : Bool) → block.delayed ≡ d → find (λ block. eqb block.at at) heap.blocks ≡ Some block → (if d then Delayed block.size else Live block.size) ≡ Live size → is_live_at heap at ≡ true
    by-delayed block true d e h = absurd (cc h)
    by-delayed block false d e h = found-live at heap.blocks block e d

    by-found : (o : Option Block) → find (λ block. eqb block.at at) heap.blocks ≡ o → standing_of o ≡ Live size → is_live_at heap at ≡ true
    by-found None e h = absurd (cc h)
    by-found (Some block) e h = by-delayed block block.delayed refl e h

pub delayed-standing : (heap : Heap) (at size : ℕ) → IsHeap heap → standing_at heap at ≡ Delayed size → is_live_at heap at ≡ false
delayed-standing heap at size sound is = by-found (find (λ block. eqb block.at at) heap.blocks) refl is
  where
    by-delayed : (block : Block) (d : Bool) → block.delayed ≡ d → find (λ block. eqb block.at at) heap.blocks ≡ Some block → (if d then Delayed block.size else Live block.size) ≡ Delayed size → is_live_at heap at ≡ false
    by-delayed block true d e h = delayed-alone at heap.start heap.blocks heap.end block sound.standing e d
    by-delayed block false d e h = absurd (cc h)

    by-found : (o : Option Block) → find (λ block. eqb block.at at) heap.blocks ≡ o → standing_of o ≡ Delayed size → is_live_at heap at ≡ false
    by-found None e h = absurd (cc h)
    by-found (Some block) e h = by-delayed block block.delayed refl e h

-- where nothing begins no live block stands
pub nothing-standing : (heap : Heap) (at : ℕ) → standing_at heap at ≡ Nothing → is_live_at heap at ≡ false
nothing-standing heap at is = among heap.blocks is
  where
    never : (block : Block) (d : Bool) → (if d then Delayed block.size else Live block.size) ≡ Nothing → ⊥
    never block true h = cc h
    never block false h = cc h

    among : (blocks : List Block) → standing_of (find (λ block. eqb block.at at) blocks) ≡ Nothing → list_any (is_live at) blocks ≡ false
    among [] h = refl
    among (block ∷ blocks) h =
        elim (cases_Bool (eqb block.at at)) [
          | inl here ↦ absurd (never block block.delayed (sym (ap (λ b. standing_of (cond b (Some block) (find (λ block. eqb block.at at) blocks))) here) ∙ h))
          | inr other ↦
              ap (λ b. (b && not block.delayed) || list_any (is_live at) blocks) other
              ∙ among blocks (sym (ap (λ b. standing_of (cond b (Some block) (find (λ block. eqb block.at at) blocks))) other) ∙ h)
        ]

-- the heap stays, and no live block stands there
stays : (heap : Heap) (at : ℕ) → IsHeap heap → is_live_at heap at ≡ false → Follows heap at heap
stays heap at sound none = record { sound = sound; start = refl; end = refl; live = sym (without-none at heap.blocks none) }

pub freed-follows : (env : Env) (heap : Heap) (site : Site) (at : ℕ) → IsHeap heap → Follows heap at (freed env heap site at)
freed-follows env heap site at sound = by-delays (treatment_of env).delays
  where
    by-delays : (b : Bool) → Follows heap at (if b then with_delayed heap at site else without_block heap at site)
    by-delays true = record { sound = sound-delayed heap at (remembering (live_at heap at) site heap.freed) sound; start = refl; end = refl; live = live-delayed at heap.blocks }
    by-delays false = record { sound = sound-filter (λ block. not (eqb block.at at)) heap (remembering (live_at heap at) site heap.freed) sound; start = refl; end = refl; live = live-without at heap.blocks }

pub null-follows : (heap : Heap) → IsHeap heap → Follows heap 0 heap
null-follows heap sound = stays heap 0 sound (any-above 0 (is_live 0) (live-is-about 0) heap.start heap.blocks heap.end sound.standing sound.above_null)

pub delayed-follows : (heap : Heap) (at size : ℕ) → IsHeap heap → standing_at heap at ≡ Delayed size → Follows heap at heap
delayed-follows heap at size sound is = stays heap at sound (delayed-standing heap at size sound is)

pub free-follows : (env : Env) (heap after : Heap) (site : Site) (at : ℕ) → IsHeap heap → served_free env heap site at ≡ Some after → Follows heap at after
unfolding served_free
free-follows env heap after site at sound = by-null (eqb at 0) refl
  where
    by-delays : (size : ℕ) → standing_at heap at ≡ Delayed size → (b : Bool) → (if b then Some heap else None) ≡ Some after → Follows heap at after
    by-delays size e true h = subst (Follows heap at) (same_Some heap after h) (delayed-follows heap at size sound e)
    by-delays size e false h = absurd (cc h)

    by-standing : (s : Standing) → standing_at heap at ≡ s → freed_by env heap site at s ≡ Some after → Follows heap at after
    by-standing Nothing e h = absurd (cc h)
    by-standing (Live size) e h = subst (Follows heap at) (same_Some (freed env heap site at) after h) (freed-follows env heap site at sound)
    by-standing (Delayed size) e h = by-delays size e (treatment_of env).delays h

    by-null : (b : Bool) → eqb at 0 ≡ b → (if b then Some heap else freed_by env heap site at (standing_at heap at)) ≡ Some after → Follows heap at after
    by-null true e h = subst (Follows heap at) (same_Some heap after h) (subst (λ n. Follows heap n heap) (sym (eqb-true at 0 e)) (null-follows heap sound))
    by-null false e h = by-standing (standing_at heap at) refl h

-- what free answers
pub free-null : (env : Env) (heap : Heap) (site : Site) (at : ℕ) → at ≡ 0 → served_free env heap site at ≡ Some heap
unfolding served_free
free-null env heap site at is = ap (λ b. if b then Some heap else freed_by env heap site at (standing_at heap at)) (eq-eqb at 0 is)

pub free-standing : (env : Env) (heap : Heap) (site : Site) (at : ℕ) (s : Standing) → (at ≡ 0 → ⊥) → standing_at heap at ≡ s → served_free env heap site at ≡ freed_by env heap site at s
unfolding served_free
free-standing env heap site at s named is =
    ap (λ b. if b then Some heap else freed_by env heap site at (standing_at heap at)) (ne_eqb at 0 named) ∙ ap (freed_by env heap site at) is

pub keeps-delayed : (env : Env) (heap : Heap) (site : Site) (at size : ℕ) → (treatment_of env).delays ≡ true → freed_by env heap site at (Delayed size) ≡ Some heap
keeps-delayed env heap site at size h = ap (λ b. if b then Some heap else None) h

pub refuses-delayed : (env : Env) (heap : Heap) (site : Site) (at size : ℕ) → (treatment_of env).delays ≡ false → freed_by env heap site at (Delayed size) ≡ None
refuses-delayed env heap site at size h = ap (λ b. if b then Some heap else None) h
