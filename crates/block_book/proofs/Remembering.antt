-- What a block says of the heap that stands at a place which was remembered.
use Rattle.block_book.proofs.Terms.{Bool, List, Some, [], ap, arith, false, nat_le, not, slice_get, subst, suc, sym, true, zero, ℕ, ◌&&◌, ◌+◌, ◌<◌, ◌^◌, ◌∙◌, ◌∷◌, ◌≡◌, ◌≤◌, and_from, and_parts, le-leb, leb-true, lt-leb, or_left, or_right, list_any, Block, extent_end, extent_start, lies_in, reserved_size, Heap, IsHeap, StandWithin, is_held, is_reserved, passed}
use Rattle.block_book.proofs.Sizes.{reserved-touched}
use Rattle.block_book.proofs.Rising.{extent-rises}
use Rattle.block_book.proofs.Searches.{passed-more, passed-none}
use Rattle.block_book.proofs.Finding.{stand-ends-at, in-is-about}

stand-starts-at : (from : ℕ) (blocks : List Block) (to n : ℕ) (found : Block) → StandWithin from blocks to → slice_get blocks n ≡ Some found → from ≤ extent_start found
stand-starts-at from [] to n found h is = absurd (cc is)
stand-starts-at from (block ∷ blocks) to zero found h is =
    let same : block ≡ found = cc is in
    subst (λ b. from ≤ extent_start b) same h.1
stand-starts-at from (block ∷ blocks) to (suc n) found h is =
    let later = stand-starts-at (extent_end block) blocks to n found h.2 is in
    let begins = h.1 in
    let rises = extent-rises block in
    omega arith

-- a block with an address in its extent is the one at which a search stops
passed-at : (at from : ℕ) (blocks : List Block) (to n : ℕ) (found : Block) → StandWithin from blocks to → slice_get blocks n ≡ Some found → extent_start found ≤ at → at < extent_end found → slice_get blocks (passed blocks at) ≡ Some found
passed-at at from [] to n found h is starts ends = absurd (cc is)
passed-at at from (block ∷ blocks) to zero found h is starts ends =
    let same : block ≡ found = cc is in
    let stops : nat_le (extent_end block) at ≡ false = subst (λ b. nat_le (extent_end b) at ≡ false) (sym same) (lt-leb (extent_end found) at ends) in
    subst (λ m. slice_get (block ∷ blocks) m ≡ Some found) (sym (passed-none at block blocks stops)) is
passed-at at from (block ∷ blocks) to (suc n) found h is starts ends =
    let before = stand-starts-at (extent_end block) blocks to n found h.2 is in
    let past : nat_le (extent_end block) at ≡ true = le-leb (extent_end block) at (omega arith) in
    subst (λ m. slice_get (block ∷ blocks) m ≡ Some found) (sym (passed-more at block blocks past))
    (passed-at at (extent_end block) blocks to n found h.2 is starts ends)

pub reached-at : (heap : Heap) (at n : ℕ) (found : Block) → IsHeap heap → slice_get heap.blocks n ≡ Some found → lies_in at 1 (extent_start found) (extent_end found) ≡ true → slice_get heap.blocks (passed heap.blocks at) ≡ Some found
reached-at heap at n found sound is here =
    let inside = in-is-about at 1 (omega arith) found here in
    passed-at at heap.start heap.blocks heap.end n found sound.standing is inside.0 inside.1

-- its bytes lie below 2 ^ 32
pub bytes-within : (heap : Heap) (n : ℕ) (found : Block) → IsHeap heap → heap.end < 2 ^ 32 → slice_get heap.blocks n ≡ Some found → found.at + found.size ≤ 2 ^ 32
bytes-within heap n found sound end is =
    let ends = stand-ends-at heap.start heap.blocks heap.end n found sound.standing is in
    let least = reserved-touched found.size in
    omega arith

-- a test that one block passes
any-at : (test : Block → Bool) (blocks : List Block) (n : ℕ) (found : Block) → slice_get blocks n ≡ Some found → test found ≡ true → list_any test blocks ≡ true
any-at test [] n found is good = absurd (cc is)
any-at test (block ∷ blocks) zero found is good =
    let same : block ≡ found = cc is in
    or_left (test block) (list_any test blocks) (ap test same ∙ good)
any-at test (block ∷ blocks) (suc n) found is good = or_right (test block) (list_any test blocks) (any-at test blocks n found is good)

-- what was asked for with a live block lies in its extent, and is reserved
pub owned-held : (heap : Heap) (at len n : ℕ) (found : Block) → slice_get heap.blocks n ≡ Some found → (not found.delayed && lies_in at len found.at (found.at + found.size)) ≡ true → is_held heap at len ≡ true
owned-held heap at len n found is owned =
    let live = and_parts (not found.delayed) (lies_in at len found.at (found.at + found.size)) owned in
    let inside = and_parts (nat_le found.at at) (nat_le (at + len) (found.at + found.size)) live.1 in
    let starts = leb-true found.at at inside.0 in
    let ends = leb-true (at + len) (found.at + found.size) inside.1 in
    let least = reserved-touched found.size in
    any-at (λ block. lies_in at len (extent_start block) (extent_end block)) heap.blocks n found is
    (and_from (nat_le (extent_start found) at) (nat_le (at + len) (extent_end found)) (le-leb (extent_start found) at (omega arith)) (le-leb (at + len) (extent_end found) (omega arith)))

pub owned-reserved : (heap : Heap) (at len n : ℕ) (found : Block) → slice_get heap.blocks n ≡ Some found → (not found.delayed && lies_in at len found.at (found.at + found.size)) ≡ true → is_reserved heap at len ≡ true
owned-reserved heap at len n found is owned =
    let live = and_parts (not found.delayed) (lies_in at len found.at (found.at + found.size)) owned in
    let inside = and_parts (nat_le found.at at) (nat_le (at + len) (found.at + found.size)) live.1 in
    let ends = leb-true (at + len) (found.at + found.size) inside.1 in
    let least = reserved-touched found.size in
    any-at (λ block. not block.delayed && lies_in at len block.at (block.at + reserved_size block.size)) heap.blocks n found is
    (and_from (not found.delayed) (lies_in at len found.at (found.at + reserved_size found.size)) live.0
    (and_from (nat_le found.at at) (nat_le (at + len) (found.at + reserved_size found.size)) inside.0 (le-leb (at + len) (found.at + reserved_size found.size) (omega arith))))
