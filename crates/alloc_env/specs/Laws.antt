-- What holds of the answers in every environment.
use Rattle.std.specs.Prelude.{◌≡◌, ℕ, true, not, ◌&&◌, ◌||◌, Some, ◌==◌}
use Rattle.alloc_env.specs.Terms.{Ask, Site, is_allowed, is_calloc, live_blocks, live_with, without_live, Heap, IsHeap}
use Rattle.alloc_env.specs.declared.env.Env.{Env}
use Rattle.alloc_env.specs.Treatment.{treatment_of}
use Rattle.alloc_env.specs.Serving.{Served, served_ask, served_free}

-- what is so of an answer to an ask, and of the heap after it
pub record Serves (env : Env) (heap : Heap) (ask : Ask) (served : Served) : Type 0 where
  -- it is one to that ask
  pub asked : served.choice.ask ≡ ask
  -- C allows it
  pub allowed : is_allowed heap.start heap.end (live_blocks heap.blocks) ask served.choice ≡ true
  -- it is zeroed exactly where the environment zeroes or calloc asked, and it isn't null
  pub zeroed : served.choice.zeroed ≡ (((treatment_of env).zeroes || is_calloc ask) && not (served.choice.at == 0))
  -- it carries nothing where the environment doesn't pad
  pub carried : (treatment_of env).side ≡ 0 → served.choice.carried ≡ 0
  -- the heap is one, and has its ends
  pub sound : IsHeap served.heap
  pub start : served.heap.start ≡ heap.start
  pub end : served.heap.end ≡ heap.end
  -- the block is live from now on, the one that it replaces isn't any more, and nothing else changes among the live ones
  pub live : live_blocks served.heap.blocks ≡ live_with served.choice (live_blocks heap.blocks)

-- that is so of each ask that is answered, in each environment and in each heap
abbrev pub AskServes : Type 0
AskServes = (env : Env) (heap : Heap) (site : Site) (ask : Ask) (served : Served) → IsHeap heap → served_ask env heap site ask ≡ Some served → Serves env heap ask served

-- what is so of a heap after a free
pub record Follows (heap : Heap) (at : ℕ) (after : Heap) : Type 0 where
  pub sound : IsHeap after
  pub start : after.start ≡ heap.start
  pub end : after.end ≡ heap.end
  -- the block isn't live any more, if it was
  pub live : live_blocks after.blocks ≡ without_live at (live_blocks heap.blocks)

-- that is so of each free that isn't refused
abbrev pub FreeFollows : Type 0
FreeFollows = (env : Env) (heap after : Heap) (site : Site) (at : ℕ) → IsHeap heap → served_free env heap site at ≡ Some after → Follows heap at after
