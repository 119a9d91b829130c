-- What a search says of the whole heap.
use Rattle.block_book.proofs.Terms.{List, None, Some, [], ap, arith, eqb, false, leb, length, nat_le, not, slice_get, subst, suc, sym, true, zero, ℕ, ◌&&◌, ◌+◌, ◌<◌, ◌^◌, ◌∙◌, ◌∷◌, ◌≡◌, ◌≤◌, and_parts, and_right, eq-eqb, eqb-true, leb-true, lt-leb, ne_eqb, prefix_len_is, slice_get_within, AllWithin, Block, extent_end, extent_start, lies_in, reserved_size, Heap, IsHeap, StandWithin, is_held, is_live_at, is_reserved, live_at, starting_at, FindsLive, passed}
use Rattle.block_book.proofs.Rising.{stand-ordered}
use Rattle.block_book.proofs.Searches.{IsAbout, at-is-about, any-some, any-none, find-some, find-no_block}

-- what a binary search answers is the number of blocks passed
pub passed-is : (blocks : List Block) (at n : ℕ) → n ≤ length blocks → AllWithin (λ block. leb (extent_end block) at ≡ true) blocks 0 n → AllWithin (λ block. leb (extent_end block) at ≡ false) blocks n (length blocks) → n ≡ passed blocks at
passed-is [] at n within below above = omega arith
passed-is (block ∷ blocks) at n within below above =
    sym (prefix_len_is (λ b. leb (extent_end b) at) (block ∷ blocks) n block within (λ k less. below k block (omega arith) less) (λ less. above n block (omega arith) less))

pub stand-ends-at : (from : ℕ) (blocks : List Block) (to n : ℕ) (found : Block) → StandWithin from blocks to → slice_get blocks n ≡ Some found → extent_end found ≤ to
stand-ends-at from [] to n found h is = absurd (cc is)
stand-ends-at from (block ∷ blocks) to zero found h is =
    let same : block ≡ found = cc is in
    subst (λ b. extent_end b ≤ to) same (stand-ordered (extent_end block) blocks to h.2)
stand-ends-at from (block ∷ blocks) to (suc n) found h is = stand-ends-at (extent_end block) blocks to n found h.2 is

-- the block at an address is found
pub starts-at : (heap : Heap) (at : ℕ) (found : Block) → slice_get heap.blocks (passed heap.blocks at) ≡ Some found → found.at ≡ at → starting_at heap at ≡ Some found
starts-at heap at found is begins = find-some at (λ block. eqb block.at at) (at-is-about at) heap.blocks found is (eq-eqb found.at at begins)

pub starts-elsewhere : (heap : Heap) (at : ℕ) (found : Block) → IsHeap heap → slice_get heap.blocks (passed heap.blocks at) ≡ Some found → (found.at ≡ at → ⊥) → starting_at heap at ≡ None
starts-elsewhere heap at found sound is other =
    find-no_block (λ block. eqb block.at at) heap.blocks
    (any-some at (λ block. eqb block.at at) (at-is-about at) heap.start heap.blocks heap.end found sound.standing is ∙ ne_eqb found.at at other)

pub starts-nowhere : (heap : Heap) (at : ℕ) → IsHeap heap → slice_get heap.blocks (passed heap.blocks at) ≡ None → starting_at heap at ≡ None
starts-nowhere heap at sound is =
    find-no_block (λ block. eqb block.at at) heap.blocks
    (any-none at (λ block. eqb block.at at) (at-is-about at) heap.start heap.blocks heap.end sound.standing is)

-- bytes in a block
pub in-is-about : (at len : ℕ) → 1 ≤ len → IsAbout at (λ block. lies_in at len (extent_start block) (extent_end block))
in-is-about at len some block h =
    let p = and_parts (nat_le (extent_start block) at) (nat_le (at + len) (extent_end block)) h in
    let starts = leb-true (extent_start block) at p.0 in
    let ends = leb-true (at + len) (extent_end block) p.1 in
    ((omega arith), (omega arith))

reserved-is-about : (at len : ℕ) → 1 ≤ len → IsAbout at (λ block. not block.delayed && lies_in at len block.at (block.at + reserved_size block.size))
reserved-is-about at len some block h =
    let q = and_parts (not block.delayed) (lies_in at len block.at (block.at + reserved_size block.size)) h in
    let p = and_parts (nat_le block.at at) (nat_le (at + len) (block.at + reserved_size block.size)) q.1 in
    let starts = leb-true block.at at p.0 in
    let ends = leb-true (at + len) (block.at + reserved_size block.size) p.1 in
    ((omega arith), (omega arith))

pub held-some : (heap : Heap) (at len : ℕ) (found : Block) → IsHeap heap → 1 ≤ len → slice_get heap.blocks (passed heap.blocks at) ≡ Some found → is_held heap at len ≡ lies_in at len (extent_start found) (extent_end found)
held-some heap at len found sound some is =
    any-some at (λ block. lies_in at len (extent_start block) (extent_end block)) (in-is-about at len some) heap.start heap.blocks heap.end found sound.standing is

pub held-none : (heap : Heap) (at len : ℕ) → IsHeap heap → 1 ≤ len → slice_get heap.blocks (passed heap.blocks at) ≡ None → is_held heap at len ≡ false
held-none heap at len sound some is =
    any-none at (λ block. lies_in at len (extent_start block) (extent_end block)) (in-is-about at len some) heap.start heap.blocks heap.end sound.standing is

pub reserved-some : (heap : Heap) (at len : ℕ) (found : Block) → IsHeap heap → 1 ≤ len → slice_get heap.blocks (passed heap.blocks at) ≡ Some found → is_reserved heap at len ≡ (not found.delayed && lies_in at len found.at (found.at + reserved_size found.size))
reserved-some heap at len found sound some is =
    any-some at (λ block. not block.delayed && lies_in at len block.at (block.at + reserved_size block.size)) (reserved-is-about at len some) heap.start heap.blocks heap.end found sound.standing is

pub reserved-none : (heap : Heap) (at len : ℕ) → IsHeap heap → 1 ≤ len → slice_get heap.blocks (passed heap.blocks at) ≡ None → is_reserved heap at len ≡ false
reserved-none heap at len sound some is =
    any-none at (λ block. not block.delayed && lies_in at len block.at (block.at + reserved_size block.size)) (reserved-is-about at len some) heap.start heap.blocks heap.end sound.standing is

-- bytes that pass 2 ^ 32 are in no block
pub held-past : (heap : Heap) (at len : ℕ) (found : Block) → IsHeap heap → heap.end < 2 ^ 32 → slice_get heap.blocks (passed heap.blocks at) ≡ Some found → 2 ^ 32 < at + len → lies_in at len (extent_start found) (extent_end found) ≡ false
held-past heap at len found sound end is past =
    let ends = stand-ends-at heap.start heap.blocks heap.end (passed heap.blocks at) found sound.standing is in
    and_right (nat_le (extent_start found) at) (nat_le (at + len) (extent_end found)) (lt-leb (at + len) (extent_end found) (omega arith))

pub reserved-past : (heap : Heap) (at len : ℕ) (found : Block) → IsHeap heap → heap.end < 2 ^ 32 → slice_get heap.blocks (passed heap.blocks at) ≡ Some found → 2 ^ 32 < at + len → (not found.delayed && lies_in at len found.at (found.at + reserved_size found.size)) ≡ false
reserved-past heap at len found sound end is past =
    let ends = stand-ends-at heap.start heap.blocks heap.end (passed heap.blocks at) found sound.standing is in
    and_right (not found.delayed) (lies_in at len found.at (found.at + reserved_size found.size))
    (and_right (nat_le found.at at) (nat_le (at + len) (found.at + reserved_size found.size)) (lt-leb (at + len) (found.at + reserved_size found.size) (omega arith)))

-- a live block at an address
live-is-about : (at : ℕ) → IsAbout at (λ block. eqb block.at at && not block.delayed)
live-is-about at block h = at-is-about at block (and_parts (eqb block.at at) (not block.delayed) h).0

live-some : (heap : Heap) (at : ℕ) (found : Block) → IsHeap heap → slice_get heap.blocks (passed heap.blocks at) ≡ Some found → is_live_at heap at ≡ (eqb found.at at && not found.delayed)
live-some heap at found sound is =
    any-some at (λ block. eqb block.at at && not block.delayed) (live-is-about at) heap.start heap.blocks heap.end found sound.standing is

pub finds-live : (heap : Heap) (at place : ℕ) (found : Block) → IsHeap heap → place ≡ passed heap.blocks at → slice_get heap.blocks (passed heap.blocks at) ≡ Some found → (eqb found.at at && not found.delayed) ≡ true → FindsLive heap at (Some place)
finds-live heap at place found sound where' is live = (
  live-some heap at found sound is ∙ live,
  subst (λ n. n < length heap.blocks) (sym where') (slice_get_within heap.blocks (passed heap.blocks at) found is),
  where',
  (found, is, eqb-true found.at at (and_parts (eqb found.at at) (not found.delayed) live).0),
)

pub finds-other : (heap : Heap) (at : ℕ) (found : Block) → IsHeap heap → slice_get heap.blocks (passed heap.blocks at) ≡ Some found → (eqb found.at at && not found.delayed) ≡ false → FindsLive heap at None
finds-other heap at found sound is other = live-some heap at found sound is ∙ other

pub finds-nothing : (heap : Heap) (at : ℕ) → IsHeap heap → slice_get heap.blocks (passed heap.blocks at) ≡ None → FindsLive heap at None
finds-nothing heap at sound is = any-none at (λ block. eqb block.at at && not block.delayed) (live-is-about at) heap.start heap.blocks heap.end sound.standing is

-- where the live block at an address is found, it is the one that the heap has there
pub live-found : (heap : Heap) (at place : ℕ) (block : Block) → IsHeap heap → FindsLive heap at (Some place) → slice_get heap.blocks place ≡ Some block → live_at heap at ≡ Some block
live-found heap at place block sound found is =
    let here : slice_get heap.blocks (passed heap.blocks at) ≡ Some block = subst (λ n. slice_get heap.blocks n ≡ Some block) found.2 is in
    find-some at (λ block. eqb block.at at && not block.delayed) (live-is-about at) heap.blocks block here (sym (live-some heap at block sound here) ∙ found.0)
