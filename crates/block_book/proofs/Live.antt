-- The live blocks of a heap, and what a placement is to them.
use Rattle.block_book.proofs.Terms.{List, None, Option, Some, [], ap, arith, cond, eqb, false, filter, if◌then◌else◌, inl, inr, length, map, nat_le, nat_lt, not, refl, subst, sym, true, ℕ, ◌%◌, ◌&&◌, ◌*◌, ◌+◌, ◌<◌, ◌∙◌, ◌∷◌, ◌≡◌, ◌≤◌, and_from, and_parts, cases_Bool, cases_lt, eq-eqb, le-leb, leb-true, lt-ltb, ltb-true, or_cases, or_left, or_right, same_Some, list_all, option_map, Block, Site, extent_end, extent_start, is_apart, lies_in, live_block, reserved_size, touched, Heap, IsHeap, StandWithin, delayed_at, insert_block, most_blocks, with_block, fit, placement, insert_live, is_clear, live_blocks, without_live}
use Rattle.block_book.proofs.Sizes.{reserved-least, reserved-touched}
use Rattle.block_book.proofs.Rising.{extent-rises}
use Rattle.block_book.proofs.Fitting.{FitsAt, fit-fits}
use Rattle.block_book.proofs.Sound.{sound-with}
use Rattle.block_book.proofs.Rooms.{clear_of, clear-is, place-room, placement-full, placement-fit}

-- what a placement says: its extent begins at e
pub record PlacedAt (heap : Heap) (size side from at : ℕ) : Type 0 where
  pub extent : ℕ
  pub few : length heap.blocks < most_blocks
  pub begins : at ≡ extent + side
  pub fitting : FitsAt heap (reserved_size size + 2 * side) from extent

pub placed-at : (heap : Heap) (size side from at : ℕ) → placement heap size side from ≡ Some at → PlacedAt heap size side from at
placed-at heap size side from at is =
    elim (cases_lt (length heap.blocks) most_blocks) [
      | inl few ↦ by-fit few (fit heap (reserved_size size + 2 * side) from) refl (sym (placement-fit heap size side from few) ∙ is)
      | inr full ↦ absurd (none-is (sym (placement-full heap size side from full) ∙ is))
    ]
  where
    none-is : {P : Type 0} → ◌≡◌ {A = Option ℕ} None (Some at) → P
    none-is h = absurd (cc h)

    by-fit : length heap.blocks < most_blocks → (o : Option ℕ) → fit heap (reserved_size size + 2 * side) from ≡ o → option_map (λ extent. extent + side) o ≡ Some at → PlacedAt heap size side from at
    by-fit few None e h = none-is h
    by-fit few (Some extent) e h = record {
      extent = extent;
      few = few;
      begins = sym (same_Some (extent + side) at h);
      fitting = fit-fits heap (reserved_size size + 2 * side) from extent e;
    }

-- bytes inside of a range that is apart from all extents meet those of no live block
fitting-clear_of : (extent count at size : ℕ) (blocks : List Block) → extent ≤ at → at + touched size ≤ extent + count → list_all (λ block. is_apart extent count (extent_start block) (extent_end block)) blocks ≡ true → list_all (clear_of at size) blocks ≡ true
fitting-clear_of extent count at size [] starts ends h = refl
fitting-clear_of extent count at size (block ∷ blocks) starts ends h =
    let p = and_parts (is_apart extent count (extent_start block) (extent_end block)) (list_all (λ block. is_apart extent count (extent_start block) (extent_end block)) blocks) h in
    let holds = reserved-touched block.size in
    and_from (clear_of at size block) (list_all (clear_of at size) blocks)
    (or_right block.delayed (is_apart at (touched size) block.at (block.at + touched block.size))
    (elim (or_cases (nat_le (extent + count) (extent_start block)) (nat_le (extent_end block) extent) p.0) [
      | inl l ↦
          let le = leb-true (extent + count) (extent_start block) l in
          or_left (nat_le (at + touched size) block.at) (nat_le (block.at + touched block.size) at) (le-leb (at + touched size) block.at (omega arith))
      | inr r ↦
          let le = leb-true (extent_end block) extent r in
          or_right (nat_le (at + touched size) block.at) (nat_le (block.at + touched block.size) at) (le-leb (block.at + touched block.size) at (omega arith))
    ]))
    (fitting-clear_of extent count at size blocks starts ends p.1)

-- so many bytes from a placed block's address on as its extent has there are clear of all live blocks
pub placement-roomy : (heap : Heap) (size side from at count : ℕ) → side % 16 ≡ 0 → placement heap size side from ≡ Some at → count ≤ reserved_size size + side → is_clear heap.start heap.end (live_blocks heap.blocks) at count ≡ true
placement-roomy heap size side from at count even is few =
    let p = placed-at heap size side from at is in
    let f = p.fitting in
    let multiple = f.multiple in
    let starts = f.starts in
    let ends = f.ends in
    let begins = p.begins in
    let least = reserved-least size in
    clear-is heap.start heap.end heap.blocks at count
    ∙ and_from ((eqb (at % 16) 0) && lies_in at (touched count) heap.start heap.end) (list_all (clear_of at count) heap.blocks)
    (and_from (eqb (at % 16) 0) (lies_in at (touched count) heap.start heap.end) (eq-eqb (at % 16) 0 (omega arith))
    (and_from (nat_le heap.start at) (nat_le (at + touched count) heap.end) (le-leb heap.start at (omega arith)) (le-leb (at + touched count) heap.end (omega arith))))
    (fitting-clear_of p.extent (reserved_size size + 2 * side) at count heap.blocks (omega arith) (omega arith) f.apart)

pub placement-clear : (heap : Heap) (size side from at : ℕ) → side % 16 ≡ 0 → placement heap size side from ≡ Some at → is_clear heap.start heap.end (live_blocks heap.blocks) at size ≡ true
placement-clear heap size side from at even is = let holds = reserved-touched size in placement-roomy heap size side from at size even is (omega arith)

pub placement-sound : (heap : Heap) (size side from at : ℕ) (made : Site) → IsHeap heap → side % 16 ≡ 0 → side ≤ 256 → placement heap size side from ≡ Some at → IsHeap (with_block heap (live_block at size side made))
placement-sound heap size side from at made sound even small is =
    let p = placed-at heap size side from at is in
    subst (λ n. IsHeap (with_block heap (live_block n size side made))) (sym p.begins)
    (sound-with heap (live_block (p.extent + side) size side made) sound (place-room heap size side from p.extent made p.few even small p.fitting))

pub placement-positive : (heap : Heap) (size side from at : ℕ) → IsHeap heap → placement heap size side from ≡ Some at → 0 < at
placement-positive heap size side from at sound is =
    let p = placed-at heap size side from at is in
    let starts = p.fitting.starts in
    let begins = p.begins in
    let above = sound.above_null in
    omega arith

-- a block below all live ones comes first
insert_live-first : (at size from : ℕ) (blocks : List Block) (to : ℕ) → StandWithin from blocks to → at < from → insert_live (at, size) (live_blocks blocks) ≡ (at, size) ∷ live_blocks blocks
insert_live-first at size from [] to h below = refl
insert_live-first at size from (block ∷ blocks) to h below =
    let rises = extent-rises block in
    let starts = h.1 in
    let lower : nat_lt at block.at ≡ true = lt-ltb at block.at (omega arith) in
    elim (block.delayed) as (λ d. insert_live (at, size) (map (λ (b : Block). (b.at, b.size)) (cond (not d) (block ∷ filter (λ b. not b.delayed) blocks) (filter (λ b. not b.delayed) blocks))) ≡ (at, size) ∷ map (λ (b : Block). (b.at, b.size)) (cond (not d) (block ∷ filter (λ b. not b.delayed) blocks) (filter (λ b. not b.delayed) blocks))) [
      | true ↦ insert_live-first at size (extent_end block) blocks to h.2 (omega arith)
      | false ↦ ap (λ b. if b then (at, size) ∷ ((block.at, block.size) ∷ live_blocks blocks) else (block.at, block.size) ∷ insert_live (at, size) (live_blocks blocks)) lower
    ]

pub live-insert_block : (at size side from : ℕ) (made : Site) (blocks : List Block) (to : ℕ) → StandWithin from blocks to → live_blocks (insert_block (live_block at size side made) blocks) ≡ insert_live (at, size) (live_blocks blocks)
live-insert_block at size side from made [] to h = refl
live-insert_block at size side from made (block ∷ blocks) to h =
    let least = reserved-least block.size in
    elim (cases_Bool (nat_lt at block.at)) [
      | inl lower ↦
          let below = ltb-true at block.at lower in
          ap (λ b. live_blocks (if b then live_block at size side made ∷ (block ∷ blocks) else block ∷ insert_block (live_block at size side made) blocks)) lower
          ∙ elim (block.delayed) as (λ d. (at, size) ∷ map (λ (b : Block). (b.at, b.size)) (cond (not d) (block ∷ filter (λ b. not b.delayed) blocks) (filter (λ b. not b.delayed) blocks)) ≡ insert_live (at, size) (map (λ (b : Block). (b.at, b.size)) (cond (not d) (block ∷ filter (λ b. not b.delayed) blocks) (filter (λ b. not b.delayed) blocks)))) [
            | true ↦ sym (insert_live-first at size (extent_end block) blocks to h.2 (omega arith))
            | false ↦ sym (ap (λ b. if b then (at, size) ∷ ((block.at, block.size) ∷ live_blocks blocks) else (block.at, block.size) ∷ insert_live (at, size) (live_blocks blocks)) lower)
          ]
      | inr higher ↦
          let rest = live-insert_block at size side (extent_end block) made blocks to h.2 in
          ap (λ b. live_blocks (if b then live_block at size side made ∷ (block ∷ blocks) else block ∷ insert_block (live_block at size side made) blocks)) higher
          ∙ elim (block.delayed) as (λ d. map (λ (b : Block). (b.at, b.size)) (cond (not d) (block ∷ filter (λ b. not b.delayed) (insert_block (live_block at size side made) blocks)) (filter (λ b. not b.delayed) (insert_block (live_block at size side made) blocks))) ≡ insert_live (at, size) (map (λ (b : Block). (b.at, b.size)) (cond (not d) (block ∷ filter (λ b. not b.delayed) blocks) (filter (λ b. not b.delayed) blocks)))) [
            | true ↦ rest
            | false ↦
                ap (λ xs. (block.at, block.size) ∷ xs) rest
                ∙ sym (ap (λ b. if b then (at, size) ∷ ((block.at, block.size) ∷ live_blocks blocks) else (block.at, block.size) ∷ insert_live (at, size) (live_blocks blocks)) higher)
          ]
    ]

-- a block at the front, by what is known of it
pub live-front_delayed : (block : Block) (blocks : List Block) → block.delayed ≡ true → live_blocks (block ∷ blocks) ≡ live_blocks blocks
live-front_delayed block blocks d = ap (λ b. map (λ (b : Block). (b.at, b.size)) (cond (not b) (block ∷ filter (λ b. not b.delayed) blocks) (filter (λ b. not b.delayed) blocks))) d

pub live-front : (block : Block) (blocks : List Block) → block.delayed ≡ false → live_blocks (block ∷ blocks) ≡ (block.at, block.size) ∷ live_blocks blocks
live-front block blocks d = ap (λ b. map (λ (b : Block). (b.at, b.size)) (cond (not b) (block ∷ filter (λ b. not b.delayed) blocks) (filter (λ b. not b.delayed) blocks))) d

gone-front : (at size : ℕ) (begins : ℕ) (live : List (ℕ × ℕ)) → eqb begins at ≡ true → without_live at ((begins, size) ∷ live) ≡ without_live at live
gone-front at size begins live e = ap (λ b. cond (not b) ((begins, size) ∷ without_live at live) (without_live at live)) e

pub kept-front : (at size : ℕ) (begins : ℕ) (live : List (ℕ × ℕ)) → eqb begins at ≡ false → without_live at ((begins, size) ∷ live) ≡ (begins, size) ∷ without_live at live
kept-front at size begins live e = ap (λ b. cond (not b) ((begins, size) ∷ without_live at live) (without_live at live)) e

-- what a block at the front becomes, and its live blocks
live-step : (at : ℕ) (block : Block) (blocks kept : List Block) → live_blocks kept ≡ without_live at (live_blocks blocks) → (xs : List Block) → (eqb block.at at ≡ true → live_blocks xs ≡ live_blocks kept) → (eqb block.at at ≡ false → xs ≡ block ∷ kept) → live_blocks xs ≡ without_live at (live_blocks (block ∷ blocks))
live-step at block blocks kept rest xs gone stays =
    elim (cases_Bool (eqb block.at at)) [
      | inl here ↦
          gone here ∙ rest
          ∙ sym (elim (cases_Bool block.delayed) as (λ _. without_live at (live_blocks (block ∷ blocks)) ≡ without_live at (live_blocks blocks)) [
            | inl d ↦ ap (without_live at) (live-front_delayed block blocks d)
            | inr l ↦ ap (without_live at) (live-front block blocks l) ∙ gone-front at block.size block.at (live_blocks blocks) here
          ])
      | inr other ↦
          ap live_blocks (stays other)
          ∙ elim (cases_Bool block.delayed) as (λ _. live_blocks (block ∷ kept) ≡ without_live at (live_blocks (block ∷ blocks))) [
            | inl d ↦ live-front_delayed block kept d ∙ rest ∙ sym (ap (without_live at) (live-front_delayed block blocks d))
            | inr l ↦
                live-front block kept l
                ∙ ap (λ live. (block.at, block.size) ∷ live) rest
                ∙ sym (ap (without_live at) (live-front block blocks l) ∙ kept-front at block.size block.at (live_blocks blocks) other)
          ]
    ]

pub live-without : (at : ℕ) (blocks : List Block) → live_blocks (filter (λ block. not (eqb block.at at)) blocks) ≡ without_live at (live_blocks blocks)
live-without at [] = refl
live-without at (block ∷ blocks) =
    live-step at block blocks (filter (λ block. not (eqb block.at at)) blocks) (live-without at blocks) (filter (λ block. not (eqb block.at at)) (block ∷ blocks))
    (λ here. ap (λ b. live_blocks (cond (not b) (block ∷ filter (λ block. not (eqb block.at at)) blocks) (filter (λ block. not (eqb block.at at)) blocks))) here)
    (λ other. ap (λ b. cond (not b) (block ∷ filter (λ block. not (eqb block.at at)) blocks) (filter (λ block. not (eqb block.at at)) blocks)) other)

pub live-delayed : (at : ℕ) (blocks : List Block) → live_blocks (map (delayed_at at) blocks) ≡ without_live at (live_blocks blocks)
live-delayed at [] = refl
live-delayed at (block ∷ blocks) =
    live-step at block blocks (map (delayed_at at) blocks) (live-delayed at blocks) (map (delayed_at at) (block ∷ blocks))
    (λ here. ap (λ b. live_blocks ((if b then record block { delayed = true } else block) ∷ map (delayed_at at) blocks)) here)
    (λ other. ap (λ b. (if b then record block { delayed = true } else block) ∷ map (delayed_at at) blocks) other)

pub live-recycled : (blocks : List Block) → live_blocks (filter (λ block. not block.delayed) blocks) ≡ live_blocks blocks
live-recycled [] = refl
live-recycled (block ∷ blocks) = grind (arith, live-recycled blocks)
