-- How far the extent of a live block reaches, and what a placement is to it.
use Rattle.block_book.proofs.Terms.{Bool, List, None, Some, [], ap, arith, cond, eqb, false, filter, inl, inr, nat_le, not, refl, slice_get, sym, true, ℕ, ◌&&◌, ◌*◌, ◌+◌, ◌||◌, ◌∙◌, ◌∷◌, ◌≡◌, ◌≤◌, and_parts, cases_Bool, eqb-true, le-leb, leb-true, or_cases, or_left, or_right, same_Some, find, list_all, list_any, option_map, Block, extent_end, extent_start, is_apart, reach, reserved_size, Heap, IsHeap, StandWithin, is_live_at, reach_at, recycled, placement, live_blocks, size_at, passed}
use Rattle.block_book.proofs.Rising.{extent-rises, stand-ordered}
use Rattle.block_book.proofs.Searches.{any-none, any-some, find-no_block, find-some}
use Rattle.block_book.proofs.Live.{placed-at}
use Rattle.block_book.proofs.Asks.{live-is-about, size-found}

-- a live block that begins at an address
abbrev lives : ℕ → Block → Bool
lives at block = (eqb block.at at) && not block.delayed

-- where the search for an address stops is the live block there, if there is one
pub reach-reached : (heap : Heap) (at : ℕ) (found : Block) → Some found ≡ slice_get heap.blocks (passed heap.blocks at) → ((eqb found.at at) && not found.delayed) ≡ true → reach_at heap at ≡ Some (reach found)
reach-reached heap at found is live = ap (option_map reach) (find-some at (lives at) (live-is-about at) heap.blocks found (sym is) live)

pub reach-missed : (heap : Heap) (at : ℕ) (found : Block) → IsHeap heap → Some found ≡ slice_get heap.blocks (passed heap.blocks at) → ((eqb found.at at) && not found.delayed) ≡ false → reach_at heap at ≡ None
reach-missed heap at found sound is other =
    ap (option_map reach) (find-no_block (lives at) heap.blocks (any-some at (lives at) (live-is-about at) heap.start heap.blocks heap.end found sound.standing (sym is) ∙ other))

pub reach-none : (heap : Heap) (at : ℕ) → IsHeap heap → None ≡ slice_get heap.blocks (passed heap.blocks at) → reach_at heap at ≡ None
reach-none heap at sound is =
    ap (option_map reach) (find-no_block (lives at) heap.blocks (any-none at (lives at) (live-is-about at) heap.start heap.blocks heap.end sound.standing (sym is)))

-- the live block at an address: its size, and how far its extent reaches
pub record HasLive (heap : Heap) (at : ℕ) : Type 0 where
  pub block : Block
  pub size : size_at at (live_blocks heap.blocks) ≡ Some block.size
  pub reaches : reach_at heap at ≡ Some (reach block)

find-any : (test : Block → Bool) (blocks : List Block) → list_any test blocks ≡ true → (block : Block) × (find test blocks ≡ Some block)
find-any test [] h = absurd (cc h)
find-any test (block ∷ blocks) h =
    elim (cases_Bool (test block)) [
      | inl here ↦ (block, ap (λ b. cond b (Some block) (find test blocks)) here)
      | inr other ↦
          let rest = find-any test blocks (sym (ap (λ b. b || list_any test blocks) other) ∙ h) in
          (rest.0, ap (λ b. cond b (Some block) (find test blocks)) other ∙ rest.1)
    ]

pub has_live : (heap : Heap) (at : ℕ) → is_live_at heap at ≡ true → HasLive heap at
has_live heap at lives_there =
    let found = find-any (lives at) heap.blocks lives_there in
    record {
      block = found.0;
      size = size-found at heap.blocks ∙ ap (option_map (λ (block : Block). block.size)) found.1;
      reaches = ap (option_map reach) found.1;
    }

-- the bytes of its extent from its address on lie in the heap
pub reach-within : (heap : Heap) (at reaches : ℕ) → IsHeap heap → reach_at heap at ≡ Some reaches → (heap.start ≤ at) × (at + reaches ≤ heap.end)
reach-within heap at reaches sound is = among heap.start heap.blocks heap.end sound.standing is
  where
    among : (from : ℕ) (blocks : List Block) (to : ℕ) → StandWithin from blocks to → option_map reach (find (lives at) blocks) ≡ Some reaches → (from ≤ at) × (at + reaches ≤ to)
    among from [] to h is = absurd (cc is)
    among from (block ∷ blocks) to h is =
        let rises = extent-rises block in
        let starts = h.1 in
        let ends = stand-ordered (extent_end block) blocks to h.2 in
        elim (cases_Bool (lives at block)) [
          | inl here ↦
              let begins = eqb-true block.at at (and_parts (eqb block.at at) (not block.delayed) here).0 in
              let same : reach block ≡ reaches = same_Some (reach block) reaches (sym (ap (λ b. option_map reach (cond b (Some block) (find (lives at) blocks))) here) ∙ is) in
              (omega (arith, begins, starts), omega (arith, begins, same, ends))
          | inr other ↦
              let p = among (extent_end block) blocks to h.2 (sym (ap (λ b. option_map reach (cond b (Some block) (find (lives at) blocks))) other) ∙ is) in
              (omega (arith, p.0, rises, starts), p.1)
        ]

-- delayed blocks don't matter to it
pub reach-recycled : (heap : Heap) (at : ℕ) → reach_at (recycled heap) at ≡ reach_at heap at
reach-recycled heap at = ap (option_map reach) (among heap.blocks)
  where
    and-false : (b : Bool) → (b && false) ≡ false
    and-false true = refl
    and-false false = refl

    among : (blocks : List Block) → find (lives at) (filter (λ block. not block.delayed) blocks) ≡ find (lives at) blocks
    among [] = refl
    among (block ∷ blocks) =
        let rest = among blocks in
        elim (cases_Bool block.delayed) [
          | inl d ↦
              ap (λ b. find (lives at) (cond (not b) (block ∷ filter (λ block. not block.delayed) blocks) (filter (λ block. not block.delayed) blocks))) d
              ∙ rest
              ∙ sym (ap (λ b. cond (eqb block.at at && not b) (Some block) (find (lives at) blocks)) d ∙ ap (λ b. cond b (Some block) (find (lives at) blocks)) (and-false (eqb block.at at)))
          | inr l ↦
              ap (λ b. find (lives at) (cond (not b) (block ∷ filter (λ block. not block.delayed) blocks) (filter (λ block. not block.delayed) blocks))) l
              ∙ ap (λ o. cond (lives at block) (Some block) o) rest
        ]

-- bytes inside of a range that is apart from all extents are apart from those of a live block's extent
fitting-apart : (extent total at count old reaches : ℕ) (blocks : List Block) → extent ≤ at → at + count ≤ extent + total → count ≤ reaches → list_all (λ block. is_apart extent total (extent_start block) (extent_end block)) blocks ≡ true
    → option_map reach (find (lives old) blocks) ≡ Some reaches → is_apart old count at (at + count) ≡ true
fitting-apart extent total at count old reaches [] starts ends few h is = absurd (cc is)
fitting-apart extent total at count old reaches (block ∷ blocks) starts ends few h is =
    let p = and_parts (is_apart extent total (extent_start block) (extent_end block)) (list_all (λ block. is_apart extent total (extent_start block) (extent_end block)) blocks) h in
    elim (cases_Bool (lives old block)) [
      | inl here ↦
          let begins = eqb-true block.at old (and_parts (eqb block.at old) (not block.delayed) here).0 in
          let same : reach block ≡ reaches = same_Some (reach block) reaches (sym (ap (λ b. option_map reach (cond b (Some block) (find (lives old) blocks))) here) ∙ is) in
          elim (or_cases (nat_le (extent + total) (extent_start block)) (nat_le (extent_end block) extent) p.0) [
            | inl l ↦
                let le = leb-true (extent + total) (extent_start block) l in
                or_right (nat_le (old + count) at) (nat_le (at + count) old) (le-leb (at + count) old (omega (arith, begins, le, ends)))
            | inr r ↦
                let le = leb-true (extent_end block) extent r in
                or_left (nat_le (old + count) at) (nat_le (at + count) old) (le-leb (old + count) at (omega (arith, begins, le, starts, same, few)))
          ]
      | inr other ↦
          fitting-apart extent total at count old reaches blocks starts ends few p.1 (sym (ap (λ b. option_map reach (cond b (Some block) (find (lives old) blocks))) other) ∙ is)
    ]

-- as many bytes from a live block's address on as its extent has there are apart from as many of a placed one's
pub placement-apart : (heap : Heap) (size side from at old reaches count : ℕ) → placement heap size side from ≡ Some at → reach_at heap old ≡ Some reaches → count ≤ reaches → count ≤ reserved_size size + side → is_apart old count at (at + count) ≡ true
placement-apart heap size side from at old reaches count is there few small =
    let p = placed-at heap size side from at is in
    let begins = p.begins in
    fitting-apart p.extent (reserved_size size + 2 * side) at count old reaches heap.blocks (omega arith) (omega arith) few p.fitting.apart there
