-- What asks and their answers say of the live blocks.
use Rattle.block_book.proofs.Terms.{Bool, List, None, Option, Some, [], ap, arith, cond, eqb, false, if◌then◌else◌, inl, inr, nat_lt, not, refl, slice_get, subst, sym, true, ℕ, ◌%◌, ◌&&◌, ◌+◌, ◌||◌, ◌∙◌, ◌∷◌, ◌≡◌, ◌≤◌, and_parts, cases_Bool, eq-eqb, eqb-true, same_Some, find, list_all, list_any, option_map, is_some, Block, Ask, Calloc, Malloc, Realloc, Delayed, Live, extent_end, is_apart, lies_in, touched, Heap, IsHeap, StandWithin, standing_at, standing_of, insert_live, is_clear, live_blocks, same_ask, size_at, passed}
use Rattle.block_book.proofs.Live.{live-front, live-front_delayed}
use Rattle.block_book.proofs.Rising.{extent-rises, stand-ordered}
use Rattle.block_book.proofs.Sizes.{reserved-touched}
use Rattle.block_book.proofs.Searches.{IsAbout, at-is-about, any-none, any-some, find-no_block, find-some}

-- an ask is the same as itself
pub same-self : (ask : Ask) → same_ask ask ask ≡ true
same-self (Malloc size) = eq-eqb size size refl
same-self (Calloc count size) = ap (λ b. b && eqb size size) (eq-eqb count count refl) ∙ eq-eqb size size refl
same-self (Realloc old size) = ap (λ b. b && eqb size size) (eq-eqb old old refl) ∙ eq-eqb size size refl

-- and as no other
pub same-is : (ask other : Ask) → same_ask ask other ≡ true → ask ≡ other
same-is (Malloc size) (Malloc wanted) h = ap Malloc (eqb-true size wanted h)
same-is (Calloc count size) (Calloc times wanted) h =
    let p = and_parts (eqb count times) (eqb size wanted) h in
    ap (λ n. Calloc n size) (eqb-true count times p.0) ∙ ap (Calloc times) (eqb-true size wanted p.1)
same-is (Realloc old size) (Realloc at wanted) h =
    let p = and_parts (eqb old at) (eqb size wanted) h in
    ap (λ n. Realloc n size) (eqb-true old at p.0) ∙ ap (Realloc at) (eqb-true size wanted p.1)
same-is (Malloc size) (Calloc times wanted) h = absurd (cc h)
same-is (Malloc size) (Realloc at wanted) h = absurd (cc h)
same-is (Calloc count size) (Malloc wanted) h = absurd (cc h)
same-is (Calloc count size) (Realloc at wanted) h = absurd (cc h)
same-is (Realloc old size) (Malloc wanted) h = absurd (cc h)
same-is (Realloc old size) (Calloc times wanted) h = absurd (cc h)

-- the size of the live block at an address, by the block at the front
size-here : (at begins size : ℕ) (live : List (ℕ × ℕ)) → eqb begins at ≡ true → size_at at ((begins, size) ∷ live) ≡ Some size
size-here at begins size live e = ap (λ b. option_map (λ (block : ℕ × ℕ). block.1) (cond b (Some (begins, size)) (find (λ (block : ℕ × ℕ). eqb block.0 at) live))) e

size-behind : (at begins size : ℕ) (live : List (ℕ × ℕ)) → eqb begins at ≡ false → size_at at ((begins, size) ∷ live) ≡ size_at at live
size-behind at begins size live e = ap (λ b. option_map (λ (block : ℕ × ℕ). block.1) (cond b (Some (begins, size)) (find (λ (block : ℕ × ℕ). eqb block.0 at) live))) e

-- a live block stands at an address of the heap exactly where it is among the live ones
pub size-live : (at : ℕ) (blocks : List Block) → is_some (size_at at (live_blocks blocks)) ≡ list_any (λ block. (eqb block.at at) && not block.delayed) blocks
size-live at [] = refl
size-live at (block ∷ blocks) =
    let rest = size-live at blocks in
    elim (cases_Bool block.delayed) [
      | inl d ↦
          ap (λ live. is_some (size_at at live)) (live-front_delayed block blocks d) ∙ rest
          ∙ sym (ap (λ b. (eqb block.at at && not b) || list_any (λ block. (eqb block.at at) && not block.delayed) blocks) d
          ∙ ap (λ b. b || list_any (λ block. (eqb block.at at) && not block.delayed) blocks) (and-false (eqb block.at at)))
      | inr l ↦
          ap (λ live. is_some (size_at at live)) (live-front block blocks l)
          ∙ sym (ap (λ b. (eqb block.at at && not b) || list_any (λ block. (eqb block.at at) && not block.delayed) blocks) l ∙ sym (of_front (eqb block.at at) refl rest))
    ]
  where
    and-false : (b : Bool) → (b && false) ≡ false
    and-false true = refl
    and-false false = refl

    of_front : (b : Bool) → eqb block.at at ≡ b → is_some (size_at at (live_blocks blocks)) ≡ list_any (λ block. (eqb block.at at) && not block.delayed) blocks
        → is_some (size_at at ((block.at, block.size) ∷ live_blocks blocks)) ≡ ((b && true) || list_any (λ block. (eqb block.at at) && not block.delayed) blocks)
    of_front true e rest = ap is_some (size-here at block.at block.size (live_blocks blocks) e)
    of_front false e rest = ap is_some (size-behind at block.at block.size (live_blocks blocks) e) ∙ rest

-- the size of the live block at an address, by the first of the blocks that is it
pub size-found : (at : ℕ) (blocks : List Block) → size_at at (live_blocks blocks) ≡ option_map (λ block. block.size) (find (λ block. (eqb block.at at) && not block.delayed) blocks)
size-found at [] = refl
size-found at (block ∷ blocks) = of_block (size-found at blocks) (eqb block.at at) block.delayed refl refl
  where
    behind : Option Block
    behind = find (λ block. (eqb block.at at) && not block.delayed) blocks

    of_block : size_at at (live_blocks blocks) ≡ option_map (λ block. block.size) behind → (here delayed : Bool) → eqb block.at at ≡ here → block.delayed ≡ delayed
        → size_at at (live_blocks (block ∷ blocks)) ≡ option_map (λ (block : Block). block.size) (cond (eqb block.at at && not block.delayed) (Some block) behind)
    of_block rest true true e d =
        ap (size_at at) (live-front_delayed block blocks d) ∙ rest ∙ sym (ap (λ b. option_map (λ (block : Block). block.size) (cond (eqb block.at at && not b) (Some block) behind)) d
        ∙ ap (λ b. option_map (λ (block : Block). block.size) (cond (b && false) (Some block) behind)) e)
    of_block rest true false e d =
        ap (size_at at) (live-front block blocks d) ∙ size-here at block.at block.size (live_blocks blocks) e
        ∙ sym (ap (λ b. option_map (λ (block : Block). block.size) (cond (eqb block.at at && not b) (Some block) behind)) d
        ∙ ap (λ b. option_map (λ (block : Block). block.size) (cond (b && true) (Some block) behind)) e)
    of_block rest false true e d =
        ap (size_at at) (live-front_delayed block blocks d) ∙ rest ∙ sym (ap (λ b. option_map (λ (block : Block). block.size) (cond (b && not block.delayed) (Some block) behind)) e)
    of_block rest false false e d =
        ap (size_at at) (live-front block blocks d) ∙ size-behind at block.at block.size (live_blocks blocks) e ∙ rest
        ∙ sym (ap (λ b. option_map (λ (block : Block). block.size) (cond (b && not block.delayed) (Some block) behind)) e)

pub live-is-about : (at : ℕ) → IsAbout at (λ block. (eqb block.at at) && not block.delayed)
live-is-about at block h = at-is-about at block (and_parts (eqb block.at at) (not block.delayed) h).0

-- where the search for an address stops is the live block there, if there is one
pub size-reached : (heap : Heap) (at : ℕ) (found : Block) → Some found ≡ slice_get heap.blocks (passed heap.blocks at) → ((eqb found.at at) && not found.delayed) ≡ true → size_at at (live_blocks heap.blocks) ≡ Some found.size
size-reached heap at found is live =
    size-found at heap.blocks ∙ ap (option_map (λ block. block.size)) (find-some at (λ block. (eqb block.at at) && not block.delayed) (live-is-about at) heap.blocks found (sym is) live)

pub size-missed : (heap : Heap) (at : ℕ) (found : Block) → IsHeap heap → Some found ≡ slice_get heap.blocks (passed heap.blocks at) → ((eqb found.at at) && not found.delayed) ≡ false → size_at at (live_blocks heap.blocks) ≡ None
size-missed heap at found sound is other =
    size-found at heap.blocks
    ∙ ap (option_map (λ block. block.size)) (find-no_block (λ block. (eqb block.at at) && not block.delayed) heap.blocks
    (any-some at (λ block. (eqb block.at at) && not block.delayed) (live-is-about at) heap.start heap.blocks heap.end found sound.standing (sym is) ∙ other))

pub size-none : (heap : Heap) (at : ℕ) → IsHeap heap → None ≡ slice_get heap.blocks (passed heap.blocks at) → size_at at (live_blocks heap.blocks) ≡ None
size-none heap at sound is =
    size-found at heap.blocks
    ∙ ap (option_map (λ block. block.size)) (find-no_block (λ block. (eqb block.at at) && not block.delayed) heap.blocks
    (any-none at (λ block. (eqb block.at at) && not block.delayed) (live-is-about at) heap.start heap.blocks heap.end sound.standing (sym is)))

-- what stands at an address says how large the live block there is
pub size-standing : (heap : Heap) (at size : ℕ) → standing_at heap at ≡ Live size → size_at at (live_blocks heap.blocks) ≡ Some size
size-standing heap at size is = among heap.blocks is
  where
    here : (block : Block) (blocks : List Block) (d : Bool) → block.delayed ≡ d → eqb block.at at ≡ true → (if d then Delayed block.size else Live block.size) ≡ Live size → size_at at (live_blocks (block ∷ blocks)) ≡ Some size
    here block blocks true d e h = absurd (cc h)
    here block blocks false d e h =
        let same : block.size ≡ size = cc h in
        ap (size_at at) (live-front block blocks d) ∙ size-here at block.at block.size (live_blocks blocks) e ∙ ap Some same

    among : (blocks : List Block) → standing_of (find (λ block. eqb block.at at) blocks) ≡ Live size → size_at at (live_blocks blocks) ≡ Some size
    among [] h = absurd (cc h)
    among (block ∷ blocks) h =
        elim (cases_Bool (eqb block.at at)) [
          | inl e ↦ here block blocks block.delayed refl e (sym (ap (λ b. standing_of (cond b (Some block) (find (λ block. eqb block.at at) blocks))) e) ∙ h)
          | inr e ↦
              let rest = among blocks (sym (ap (λ b. standing_of (cond b (Some block) (find (λ block. eqb block.at at) blocks))) e) ∙ h) in
              elim (cases_Bool block.delayed) [
                | inl d ↦ ap (size_at at) (live-front_delayed block blocks d) ∙ rest
                | inr l ↦ ap (size_at at) (live-front block blocks l) ∙ size-behind at block.at block.size (live_blocks blocks) e ∙ rest
              ]
        ]

-- a block that is live stays so where another one is added
pub size-inserted : (at begins size : ℕ) (live : List (ℕ × ℕ)) → is_some (size_at at live) ≡ true → is_some (size_at at (insert_live (begins, size) live)) ≡ true
size-inserted at begins size [] h = absurd (cc h)
size-inserted at begins size (block ∷ live) h =
    elim (cases_Bool (nat_lt begins block.0)) [
      | inl low ↦
          ap (λ b. is_some (size_at at (if b then (begins, size) ∷ (block ∷ live) else block ∷ insert_live (begins, size) live))) low
          ∙ of_new (eqb begins at) refl
      | inr high ↦
          ap (λ b. is_some (size_at at (if b then (begins, size) ∷ (block ∷ live) else block ∷ insert_live (begins, size) live))) high
          ∙ of_front (λ e. size-inserted at begins size live (sym (ap is_some (size-behind at block.0 block.1 live e)) ∙ h)) (eqb block.0 at) refl
    ]
  where
    of_new : (b : Bool) → eqb begins at ≡ b → is_some (size_at at ((begins, size) ∷ (block ∷ live))) ≡ true
    of_new true e = ap is_some (size-here at begins size (block ∷ live) e)
    of_new false e = ap is_some (size-behind at begins size (block ∷ live) e) ∙ h

    of_front : (eqb block.0 at ≡ false → is_some (size_at at (insert_live (begins, size) live)) ≡ true) → (b : Bool) → eqb block.0 at ≡ b → is_some (size_at at (block ∷ insert_live (begins, size) live)) ≡ true
    of_front rest true e = ap is_some (size-here at block.0 block.1 (insert_live (begins, size) live) e)
    of_front rest false e = ap is_some (size-behind at block.0 block.1 (insert_live (begins, size) live) e) ∙ rest e

-- a block that is clear of all live ones is apart from the one at an address
pub apart-of_clear : (start end at size old count : ℕ) (live : List (ℕ × ℕ)) → is_clear start end live at size ≡ true → size_at old live ≡ Some count → is_apart at (touched size) old (old + touched count) ≡ true
unfolding is_clear
apart-of_clear start end at size old count live clear is =
    among live (and_parts (eqb (at % 16) 0 && lies_in at (touched size) start end) (list_all (λ (block : ℕ × ℕ). is_apart at (touched size) block.0 (block.0 + touched block.1)) live) clear).1 is
  where
    among : (live : List (ℕ × ℕ)) → list_all (λ (block : ℕ × ℕ). is_apart at (touched size) block.0 (block.0 + touched block.1)) live ≡ true → size_at old live ≡ Some count → is_apart at (touched size) old (old + touched count) ≡ true
    among [] all h = absurd (cc h)
    among (block ∷ live) all h =
        let p = and_parts (is_apart at (touched size) block.0 (block.0 + touched block.1)) (list_all (λ (block : ℕ × ℕ). is_apart at (touched size) block.0 (block.0 + touched block.1)) live) all in
        elim (cases_Bool (eqb block.0 old)) [
          | inl e ↦
              let begins = eqb-true block.0 old e in
              let same : block.1 ≡ count = same_Some block.1 count (sym (size-here old block.0 block.1 live e) ∙ h) in
              subst (λ n. is_apart at (touched size) n (n + touched count) ≡ true) begins
              (subst (λ n. is_apart at (touched size) block.0 (block.0 + touched n) ≡ true) same p.0)
          | inr e ↦ among live p.1 (sym (size-behind old block.0 block.1 live e) ∙ h)
        ]

-- the live block at an address lies in the heap
pub size-within : (heap : Heap) (at size : ℕ) → IsHeap heap → size_at at (live_blocks heap.blocks) ≡ Some size → (heap.start ≤ at) × (at + size ≤ heap.end)
size-within heap at size sound is = among heap.start heap.blocks heap.end sound.standing is
  where
    among : (from : ℕ) (blocks : List Block) (to : ℕ) → StandWithin from blocks to → size_at at (live_blocks blocks) ≡ Some size → (from ≤ at) × (at + size ≤ to)
    among from [] to h is = absurd (cc is)
    among from (block ∷ blocks) to h is =
        let rises = extent-rises block in
        let holds = reserved-touched block.size in
        let starts = h.1 in
        let ends = stand-ordered (extent_end block) blocks to h.2 in
        elim (cases_Bool block.delayed) [
          | inl d ↦
              let p = among (extent_end block) blocks to h.2 (sym (ap (size_at at) (live-front_delayed block blocks d)) ∙ is) in
              (omega (arith, p.0, rises, starts), p.1)
          | inr l ↦
              let front = sym (ap (size_at at) (live-front block blocks l)) ∙ is in
              elim (cases_Bool (eqb block.at at)) [
                | inl e ↦
                    let begins = eqb-true block.at at e in
                    let same : block.size ≡ size = same_Some block.size size (sym (size-here at block.at block.size (live_blocks blocks) e) ∙ front) in
                    (omega (arith, begins, starts), omega (arith, begins, same, holds, ends))
                | inr e ↦
                    let p = among (extent_end block) blocks to h.2 (sym (size-behind at block.at block.size (live_blocks blocks) e) ∙ front) in
                    (omega (arith, p.0, rises, starts), p.1)
              ]
        ]
