-- Blocks that stand in rising order.
use Rattle.block_book.proofs.Terms.{Bool, List, [], ap, arith, cond, eqb, false, filter, get_or, if◌then◌else◌, inl, inr, length, map, nat_le, nat_lt, refl, subst, suc, sym, true, zero, ℕ, ◌+◌, ◌-◌, ◌<◌, ◌∷◌, ◌≡◌, ◌≤◌, and_parts, cases_Bool, leb-true, ltb-false, ltb-true, or_cases, list_all, IsNonDecreasingBy, Block, IsAligned, extent_end, extent_start, is_apart, StandWithin, delayed_at, insert_block}
use Rattle.block_book.proofs.Sizes.{reserved-least}

-- an extent has at least 16 bytes
pub extent-rises : (block : Block) → extent_start block + 16 ≤ extent_end block
extent-rises block = omega (arith, reserved-least block.size)

pub stand-ordered : (from : ℕ) (blocks : List Block) (to : ℕ) → StandWithin from blocks to → from ≤ to
stand-ordered from [] to h = h
stand-ordered from (block ∷ blocks) to h =
    let rest = stand-ordered (extent_end block) blocks to h.2 in
    let rises = extent-rises block in
    omega arith

-- the same from a lower address on
pub stand-lower : (low from : ℕ) (blocks : List Block) (to : ℕ) → low ≤ from → StandWithin from blocks to → StandWithin low blocks to
stand-lower low from [] to le h = omega arith
stand-lower low from (block ∷ blocks) to le h = (h.0, (omega arith), h.2)

-- each extent begins at `from` or above
pub stand-starts : (from : ℕ) (blocks : List Block) (to : ℕ) → StandWithin from blocks to → (k : ℕ) (d : Block) → k < length blocks → from ≤ extent_start (get_or blocks k d)
stand-starts from [] to h k d below = absurd (omega arith)
stand-starts from (block ∷ blocks) to h zero d below = h.1
stand-starts from (block ∷ blocks) to h (suc k) d below =
    let later = stand-starts (extent_end block) blocks to h.2 k d (omega arith) in
    let rises = extent-rises block in
    omega arith

-- and ends at `to` or below
pub stand-ends : (from : ℕ) (blocks : List Block) (to : ℕ) → StandWithin from blocks to → (k : ℕ) (d : Block) → k < length blocks → extent_end (get_or blocks k d) ≤ to
stand-ends from [] to h k d below = absurd (omega arith)
stand-ends from (block ∷ blocks) to h zero d below = stand-ordered (extent_end block) blocks to h.2
stand-ends from (block ∷ blocks) to h (suc k) d below = stand-ends (extent_end block) blocks to h.2 k d (omega arith)

pub stand-aligned : (from : ℕ) (blocks : List Block) (to : ℕ) → StandWithin from blocks to → (k : ℕ) (d : Block) → k < length blocks → IsAligned (get_or blocks k d)
stand-aligned from [] to h k d below = absurd (omega arith)
stand-aligned from (block ∷ blocks) to h zero d below = h.0
stand-aligned from (block ∷ blocks) to h (suc k) d below = stand-aligned (extent_end block) blocks to h.2 k d (omega arith)

-- extents end in rising order
pub stand-rising : (from : ℕ) (blocks : List Block) (to : ℕ) → StandWithin from blocks to → IsNonDecreasingBy extent_end blocks
stand-rising from [] to h i j d le below = absurd (omega arith)
stand-rising from (block ∷ blocks) to h zero zero d le below = omega arith
stand-rising from (block ∷ blocks) to h zero (suc j) d le below =
    let later = stand-starts (extent_end block) blocks to h.2 j d (omega arith) in
    let rises = extent-rises (get_or blocks j d) in
    omega arith
stand-rising from (block ∷ blocks) to h (suc i) zero d le below = absurd (omega arith)
stand-rising from (block ∷ blocks) to h (suc i) (suc j) d le below = stand-rising (extent_end block) blocks to h.2 i j d (omega arith) (omega arith)

-- some of the blocks
pub stand-filter : (test : Block → Bool) (from : ℕ) (blocks : List Block) (to : ℕ) → StandWithin from blocks to → StandWithin from (filter test blocks) to
stand-filter test from [] to h = h
stand-filter test from (block ∷ blocks) to h =
    let rest = stand-filter test (extent_end block) blocks to h.2 in
    let rises = extent-rises block in
    elim (test block) as (λ b. StandWithin from (cond b (block ∷ filter test blocks) (filter test blocks)) to) [
      | true ↦ (h.0, h.1, rest)
      | false ↦ stand-lower from (extent_end block) (filter test blocks) to (omega arith) rest
    ]

-- the block at an address delayed
pub stand-delayed : (at from : ℕ) (blocks : List Block) (to : ℕ) → StandWithin from blocks to → StandWithin from (map (delayed_at at) blocks) to
stand-delayed at from [] to h = h
stand-delayed at from (block ∷ blocks) to h =
    let rest = stand-delayed at (extent_end block) blocks to h.2 in
    elim (eqb block.at at) as (λ b. StandWithin from ((if b then record block { delayed = true } else block) ∷ map (delayed_at at) blocks) to) [
      | true ↦ (record { at_multiple = h.0.at_multiple; side_multiple = h.0.side_multiple; side_small = h.0.side_small; side_within = h.0.side_within }, h.1, rest)
      | false ↦ (h.0, h.1, rest)
    ]

-- what is apart from an extent
apart-sides : (at count from to : ℕ) (P : Type 0) → is_apart at count from to ≡ true → (at + count ≤ from → P) → (to ≤ at → P) → P
apart-sides at count from to P h below above =
    elim (or_cases (nat_le (at + count) from) (nat_le to at) h) [
      | inl l ↦ below (leb-true (at + count) from l)
      | inr r ↦ above (leb-true to at r)
    ]

-- a block whose extent is apart from all others, in its place
pub stand-insert : (new : Block) (from : ℕ) (blocks : List Block) (to : ℕ) → StandWithin from blocks to → IsAligned new → from ≤ extent_start new → extent_end new ≤ to → list_all (λ block. is_apart (extent_start new) (extent_end new - extent_start new) (extent_start block) (extent_end block)) blocks ≡ true → StandWithin from (insert_block new blocks) to
stand-insert new from [] to h aligned starts ends apart = (aligned, starts, ends)
stand-insert new from (block ∷ blocks) to h aligned starts ends apart =
    let least = reserved-least new.size in
    let least' = reserved-least block.size in
    let side = aligned.side_within in
    let side' = h.0.side_within in
    let here = (and_parts (is_apart (extent_start new) (extent_end new - extent_start new) (extent_start block) (extent_end block)) (list_all (λ block. is_apart (extent_start new) (extent_end new - extent_start new) (extent_start block) (extent_end block)) blocks) apart).0 in
    let later = (and_parts (is_apart (extent_start new) (extent_end new - extent_start new) (extent_start block) (extent_end block)) (list_all (λ block. is_apart (extent_start new) (extent_end new - extent_start new) (extent_start block) (extent_end block)) blocks) apart).1 in
    elim (cases_Bool (nat_lt new.at block.at)) [
      | inl lower ↦
          let less : new.at < block.at = ltb-true new.at block.at lower in
          subst (λ b. StandWithin from (if b then new ∷ (block ∷ blocks) else block ∷ insert_block new blocks) to) (sym lower)
          (aligned, starts, (h.0, apart-sides (extent_start new) (extent_end new - extent_start new) (extent_start block) (extent_end block) (extent_end new ≤ extent_start block) here (λ l. omega arith) (λ r. absurd (omega arith)), h.2))
      | inr higher ↦
          let more : block.at ≤ new.at = ltb-false new.at block.at higher in
          subst (λ b. StandWithin from (if b then new ∷ (block ∷ blocks) else block ∷ insert_block new blocks) to) (sym higher) (
            h.0,
            h.1,
            stand-insert new (extent_end block) blocks to h.2 aligned
                (apart-sides (extent_start new) (extent_end new - extent_start new) (extent_start block) (extent_end block) (extent_end block ≤ extent_start new) here (λ l. absurd (omega arith)) (λ r. r))
                ends later,
          )
    ]

pub length-insert_block : (new : Block) (blocks : List Block) → length (insert_block new blocks) ≡ suc (length blocks)
length-insert_block new [] = refl
length-insert_block new (block ∷ blocks) =
    elim (nat_lt new.at block.at) as (λ b. length (if b then new ∷ (block ∷ blocks) else block ∷ insert_block new blocks) ≡ suc (length (block ∷ blocks))) [
      | true ↦ refl
      | false ↦ ap suc (length-insert_block new blocks)
    ]
