-- A block that is to be added has room among the others.
use Rattle.block_book.proofs.Terms.{Bool, List, None, [], ap, arith, cond, eqb, false, filter, if◌then◌else◌, inl, inr, length, map, nat_le, nat_lt, not, refl, subst, sym, true, ℕ, ◌%◌, ◌&&◌, ◌*◌, ◌+◌, ◌-◌, ◌<◌, ◌||◌, ◌∙◌, ◌∷◌, ◌≡◌, ◌≤◌, and_from, and_parts, eqb-true, le-leb, le-ltb, leb-true, lt-ltb, or_cases, or_left, or_right, All-filter, AllPass-from_list_all, list_all-from_AllPass, list_all, option_map, Block, Site, extent_end, extent_start, is_apart, lies_in, live_block, reserved_size, touched, Heap, IsHeap, StandWithin, insert_block, is_bare, most_blocks, fit, placement, is_clear, live_blocks, HasRoom}
use Rattle.block_book.proofs.Sizes.{reserved-within}
use Rattle.block_book.proofs.Fitting.{FitsAt}

-- a test of all live blocks is one of all blocks
pub live-all : (test : ℕ × ℕ → Bool) (blocks : List Block) → list_all (λ block. block.delayed || test (block.at, block.size)) blocks ≡ list_all test (live_blocks blocks)
live-all test [] = refl
live-all test (block ∷ blocks) =
    elim (block.delayed) as (λ d. ((d || test (block.at, block.size)) && list_all (λ block. block.delayed || test (block.at, block.size)) blocks) ≡ list_all test (map (λ (b : Block). (b.at, b.size)) (cond (not d) (block ∷ filter (λ b. not b.delayed) blocks) (filter (λ b. not b.delayed) blocks)))) [
      | true ↦ live-all test blocks
      | false ↦ ap (λ b. test (block.at, block.size) && b) (live-all test blocks)
    ]

abbrev pub clear_of : ℕ → ℕ → Block → Bool
clear_of at size block = block.delayed || is_apart at (touched size) block.at (block.at + touched block.size)

pub clear-is : (start end : ℕ) (blocks : List Block) (at size : ℕ) → is_clear start end (live_blocks blocks) at size ≡ (((eqb (at % 16) 0) && lies_in at (touched size) start end) && list_all (clear_of at size) blocks)
unfolding is_clear
clear-is start end blocks at size =
    ap (λ b. ((eqb (at % 16) 0) && lies_in at (touched size) start end) && b) (sym (live-all (λ block. is_apart at (touched size) block.0 (block.0 + touched block.1)) blocks))

-- where no block is padded or delayed, bytes that no live block may touch are apart from all extents
bare-apart : (at size from : ℕ) (blocks : List Block) (to : ℕ) → at % 16 ≡ 0 → StandWithin from blocks to → list_all (λ block. (eqb block.side 0) && not block.delayed) blocks ≡ true → list_all (clear_of at size) blocks ≡ true → list_all (λ other. is_apart at (reserved_size size) (extent_start other) (extent_end other)) blocks ≡ true
bare-apart at size from [] to even h bare clear = refl
bare-apart at size from (block ∷ blocks) to even h bare clear =
    let b = and_parts ((eqb block.side 0) && not block.delayed) (list_all (λ block. (eqb block.side 0) && not block.delayed) blocks) bare in
    let c = and_parts (clear_of at size block) (list_all (clear_of at size) blocks) clear in
    let d = and_parts (eqb block.side 0) (not block.delayed) b.0 in
    let flat = eqb-true block.side 0 d.0 in
    let even' = h.0.at_multiple in
    and_from (is_apart at (reserved_size size) (extent_start block) (extent_end block)) (list_all (λ other. is_apart at (reserved_size size) (extent_start other) (extent_end other)) blocks)
    (elim (or_cases (nat_le (at + touched size) block.at) (nat_le (block.at + touched block.size) at) (live-clear_of block.delayed (is_apart at (touched size) block.at (block.at + touched block.size)) d.1 c.0)) [
      | inl below ↦
          let le = reserved-within at size block.at even even' (leb-true (at + touched size) block.at below) in
          or_left (nat_le (at + reserved_size size) (extent_start block)) (nat_le (extent_end block) at) (le-leb (at + reserved_size size) (extent_start block) (omega arith))
      | inr above ↦
          let le = reserved-within block.at block.size at even' even (leb-true (block.at + touched block.size) at above) in
          or_right (nat_le (at + reserved_size size) (extent_start block)) (nat_le (extent_end block) at) (le-leb (extent_end block) at (omega arith))
    ])
    (bare-apart at size (extent_end block) blocks to even h.2 b.1 c.1)
  where
    live-clear_of : (d : Bool) (t : Bool) → not d ≡ true → (d || t) ≡ true → t ≡ true
    live-clear_of true t p q = absurd (cc p)
    live-clear_of false t p q = q

-- the same range written otherwise
same-apart : (blocks : List Block) (at count at' count' : ℕ) → at ≡ at' → count ≡ count' → list_all (λ other. is_apart at count (extent_start other) (extent_end other)) blocks ≡ true → list_all (λ other. is_apart at' count' (extent_start other) (extent_end other)) blocks ≡ true
same-apart blocks at count at' count' a c h =
    subst (λ n. list_all (λ other. is_apart at' n (extent_start other) (extent_end other)) blocks ≡ true) c
    (subst (λ n. list_all (λ other. is_apart n count (extent_start other) (extent_end other)) blocks ≡ true) a h)

pub put-room : (heap : Heap) (at size : ℕ) (made : Site) → IsHeap heap → is_bare heap ≡ true → length heap.blocks < most_blocks → is_clear heap.start heap.end (live_blocks heap.blocks) at size ≡ true → HasRoom heap (live_block at size 0 made)
put-room heap at size made sound bare few clear =
    let p = and_parts ((eqb (at % 16) 0) && lies_in at (touched size) heap.start heap.end) (list_all (clear_of at size) heap.blocks) (sym (clear-is heap.start heap.end heap.blocks at size) ∙ clear) in
    let q = and_parts (eqb (at % 16) 0) (lies_in at (touched size) heap.start heap.end) p.0 in
    let r = and_parts (nat_le heap.start at) (nat_le (at + touched size) heap.end) q.1 in
    let even = eqb-true (at % 16) 0 q.0 in
    let starts = leb-true heap.start at r.0 in
    let ends = reserved-within at size heap.end even sound.end_multiple (leb-true (at + touched size) heap.end r.1) in
    let apart = bare-apart at size heap.start heap.blocks heap.end even sound.standing bare p.1 in
    record {
      few = few;
      aligned = record { at_multiple = even; side_multiple = refl; side_small = omega arith; side_within = omega arith };
      starts = omega arith;
      ends = omega arith;
      apart = same-apart heap.blocks at (reserved_size size) (at - 0) (at + reserved_size size + 0 - (at - 0)) (omega arith) (omega arith) apart;
    }

pub place-room : (heap : Heap) (size side from extent : ℕ) (made : Site) → length heap.blocks < most_blocks → side % 16 ≡ 0 → side ≤ 256 → FitsAt heap (reserved_size size + 2 * side) from extent → HasRoom heap (live_block (extent + side) size side made)
place-room heap size side from extent made few even small h =
    let multiple = h.multiple in
    let starts = h.starts in
    let ends = h.ends in
    record {
      few = few;
      aligned = record { at_multiple = omega arith; side_multiple = even; side_small = small; side_within = omega arith };
      starts = omega arith;
      ends = omega arith;
      apart = same-apart heap.blocks extent (reserved_size size + 2 * side) (extent + side - side) (extent + side + reserved_size size + side - (extent + side - side)) (omega arith) (omega arith) h.apart;
    }

-- what `placement` answers
pub placement-full : (heap : Heap) (size side from : ℕ) → most_blocks ≤ length heap.blocks → placement heap size side from ≡ None
unfolding placement
placement-full heap size side from full =
    ap (λ b. if b then option_map (λ extent. extent + side) (fit heap (reserved_size size + 2 * side) from) else None) (le-ltb (length heap.blocks) most_blocks full)

pub placement-fit : (heap : Heap) (size side from : ℕ) → length heap.blocks < most_blocks → placement heap size side from ≡ option_map (λ extent. extent + side) (fit heap (reserved_size size + 2 * side) from)
unfolding placement
placement-fit heap size side from few =
    ap (λ b. if b then option_map (λ extent. extent + side) (fit heap (reserved_size size + 2 * side) from) else None) (lt-ltb (length heap.blocks) most_blocks few)

-- no block is padded or delayed
pub bare-insert : (at size : ℕ) (made : Site) (blocks : List Block) → list_all (λ block. (eqb block.side 0) && not block.delayed) blocks ≡ true → list_all (λ block. (eqb block.side 0) && not block.delayed) (insert_block (live_block at size 0 made) blocks) ≡ true
bare-insert at size made [] h = refl
bare-insert at size made (block ∷ blocks) h =
    let p = and_parts ((eqb block.side 0) && not block.delayed) (list_all (λ block. (eqb block.side 0) && not block.delayed) blocks) h in
    elim (nat_lt at block.at) as (λ b. list_all (λ block. (eqb block.side 0) && not block.delayed) (if b then live_block at size 0 made ∷ (block ∷ blocks) else block ∷ insert_block (live_block at size 0 made) blocks) ≡ true) [
      | true ↦ h
      | false ↦ and_from ((eqb block.side 0) && not block.delayed) (list_all (λ block. (eqb block.side 0) && not block.delayed) (insert_block (live_block at size 0 made) blocks)) p.0 (bare-insert at size made blocks p.1)
    ]

pub bare-filter : (test : Block → Bool) (blocks : List Block) → list_all (λ block. (eqb block.side 0) && not block.delayed) blocks ≡ true → list_all (λ block. (eqb block.side 0) && not block.delayed) (filter test blocks) ≡ true
bare-filter test blocks h =
    let bare : Block → Bool = λ block. (eqb block.side 0) && not block.delayed in
    list_all-from_AllPass bare (filter test blocks) (All-filter test (λ block. bare block ≡ true) blocks (AllPass-from_list_all bare blocks h))
