-- Every change of a heap's blocks leaves a heap.
use Rattle.block_book.proofs.Terms.{Bool, List, Some, [], ap, arith, eqb, filter, length, map, not, refl, set, slice_get, subst, suc, sym, true, ℕ, ◌∙◌, ◌∷◌, ◌≡◌, count_by-le-length, length-filter, same_Some, insert, remove, Block, Freed, Site, Heap, IsHeap, delayed_at, insert_block, with_block, with_delayed, FindsLive, HasRoom, passed}
use Rattle.block_book.proofs.Rising.{stand-filter, stand-delayed, stand-insert, length-insert_block}
use Rattle.block_book.proofs.Searches.{insert-passed, remove-found, set-found}

-- some of the blocks
pub sound-filter : (test : Block → Bool) (heap : Heap) (freed : List Freed) → IsHeap heap → IsHeap (record heap { blocks = filter test heap.blocks; freed = freed })
sound-filter test heap freed sound = record {
  start_multiple = sound.start_multiple;
  end_multiple = sound.end_multiple;
  above_null = sound.above_null;
  ordered = sound.ordered;
  standing = stand-filter test heap.start heap.blocks heap.end sound.standing;
  few = let few = sound.few in omega (arith, length-filter test heap.blocks, count_by-le-length test heap.blocks);
}

pub sound-delayed : (heap : Heap) (at : ℕ) (freed : List Freed) → IsHeap heap → IsHeap (record heap { blocks = map (delayed_at at) heap.blocks; freed = freed })
sound-delayed heap at freed sound = record {
  start_multiple = sound.start_multiple;
  end_multiple = sound.end_multiple;
  above_null = sound.above_null;
  ordered = sound.ordered;
  standing = stand-delayed at heap.start heap.blocks heap.end sound.standing;
  few = let few = sound.few in omega (arith, length-delayed at heap.blocks);
}
  where
    length-delayed : (at : ℕ) (blocks : List Block) → length (map (delayed_at at) blocks) ≡ length blocks
    length-delayed at [] = refl
    length-delayed at (block ∷ blocks) = ap suc (length-delayed at blocks)

pub sound-with : (heap : Heap) (block : Block) → IsHeap heap → HasRoom heap block → IsHeap (with_block heap block)
sound-with heap block sound room = record {
  start_multiple = sound.start_multiple;
  end_multiple = sound.end_multiple;
  above_null = sound.above_null;
  ordered = sound.ordered;
  standing = stand-insert block heap.start heap.blocks heap.end sound.standing room.aligned room.starts room.ends room.apart;
  few = let few = room.few in omega (arith, length-insert_block block heap.blocks);
}

-- what the code does to the list of blocks
pub inserted : (heap : Heap) (block : Block) (place : ℕ) → IsHeap heap → HasRoom heap block → place ≡ passed heap.blocks block.at → insert heap.blocks place block ≡ insert_block block heap.blocks
inserted heap block place sound room is = ap (λ n. insert heap.blocks n block) is ∙ insert-passed block heap.start heap.blocks heap.end sound.standing room.aligned room.apart

pub removed : (heap : Heap) (at place : ℕ) → IsHeap heap → FindsLive heap at (Some place) → remove heap.blocks place ≡ filter (λ block. not (eqb block.at at)) heap.blocks
removed heap at place sound found =
    ap (remove heap.blocks) found.2 ∙ remove-found at heap.start heap.blocks heap.end found.3.0 sound.standing found.3.1 found.3.2

pub put_off : (heap : Heap) (at place : ℕ) (block : Block) → IsHeap heap → FindsLive heap at (Some place) → slice_get heap.blocks place ≡ Some block → set heap.blocks place (record block { delayed = true }) ≡ map (delayed_at at) heap.blocks
put_off heap at place block sound found is =
    let here : slice_get heap.blocks (passed heap.blocks at) ≡ Some block = subst (λ n. slice_get heap.blocks n ≡ Some block) found.2 is in
    let same : found.3.0 ≡ block = same_Some found.3.0 block (sym found.3.1 ∙ here) in
    let begins : block.at ≡ at = ap (λ (b : Block). b.at) (sym same) ∙ found.3.2 in
    ap (λ n. set heap.blocks n (record block { delayed = true })) found.2 ∙ set-found at heap.start heap.blocks heap.end block sound.standing here begins
