-- A served run under a guard touches of the heap what the guard's mode permits.
use Rattle.std.proofs.Common.{Bool, List, Option, Some, [], ap, arith, cond, false, filter, map, not, refl, subst, sym, true, ℕ, ◌&&◌, ◌+◌, ◌-◌, ◌||◌, ◌∙◌, ◌∷◌, ◌≡◌}
use Rattle.std.proofs.lemmas.Bool.{not-false}
use Rattle.std.proofs.lemmas.Option.{option_and_then_some, same_Some}
use Rattle.block_book.specs.declared.block.Block.{Block}
use Rattle.block_book.specs.Answer.{live_blocks}
use Rattle.run_history.specs.Repeating.{repeated}
use Rattle.run_history.proofs.Repeats.{repeated_add}
use Rattle.run_history.proofs.Runs.{run_chosen}
use Rattle.run_history.proofs.Serves.{Follows, serves_to, served_follows}
use Rattle.heap_guard.specs.Terms.{list_any, Item, lies_in, reserved_size, is_reserved, Image, State, start, start_machine, run, IsLaidOut, Limits, Override, Path, Served, env_at, guest_of, is_refused, origin, planned_next, serve, Range, touched}
use Rattle.heap_guard.specs.declared.guard.GuardMode.{GuardMode}
use Rattle.heap_guard.specs.declared.guard.GuardMode.TheVariants as mode
use Rattle.heap_guard.specs.Guard.{has_byte_of, is_in_block, permits}
use Rattle.heap_guard.specs.Guarded.{KeepsToExtents, KeepsToLiveBlocks, TouchesHeap, is_in_live}
use Rattle.heap_guard.proofs.Laying.{laid_out}

-- what one test needs where the other fails
needed : (a b : Bool) → (not a || b) ≡ true → a ≡ true → b ≡ true
needed true b either is = either
needed false b either is = cc

-- steps of which there are so many have a place behind the first few of them
place_on_way : {X : Type 0} (step : X → Option X) (x z : X) (n m : ℕ) → repeated step (n + m) x ≡ Some z → (y : X) × (repeated step n x ≡ Some y) × (repeated step m y ≡ Some z)
place_on_way step x z n m ran =
    option_and_then_some (λ y. repeated step m y) (repeated step n x) z (sym (repeated_add step x n m) ∙ ran) (λ y first second. (y, first, second))

-- what an instruction touches of the heap lies in one block as the mode wants it
pub step_keeps : (guard : GuardMode) (limits : Limits) (items : List Item) (plan : List Override) (path next : Path) (range : Range) → limits.permits ≡ permits guard
    → planned_next limits items plan path ≡ Some next → touched path.state.machine ≡ Some range → has_byte_of path.heap.start path.heap.end range.at range.count ≡ true
    → is_in_block guard path.heap range.at range.count ≡ true
unfolding permits
step_keeps guard limits items plan path next range guards goes touches heap =
    let parts = serves_to limits items (env_at limits.base plan path.state.machine.taken) path next goes in
    let kept : not (limits.permits path.heap range.at range.count) ≡ false = subst (λ (o : Option Range). is_refused limits path.heap o ≡ false) touches parts.kept_rule in
    let may : permits guard path.heap range.at range.count ≡ true = sym (ap (λ rule. rule path.heap range.at range.count) guards) ∙ not-false (limits.permits path.heap range.at range.count) kept in
    needed (has_byte_of path.heap.start path.heap.end range.at range.count) (is_in_block guard path.heap range.at range.count) may heap

-- the bytes that a live block of a heap reserves are those of a pair of the live blocks
reserved_live : (blocks : List Block) (range : Range)
    → list_any (λ (block : Block). not block.delayed && lies_in range.at range.count block.at (block.at + reserved_size block.size)) blocks ≡ is_in_live (live_blocks blocks) range
reserved_live [] range = refl
reserved_live (block ∷ blocks) range = of block.delayed (reserved_live blocks range)
  where
    test : Block → Bool
    test block = not block.delayed && lies_in range.at range.count block.at (block.at + reserved_size block.size)

    here : Bool
    here = lies_in range.at range.count block.at (block.at + reserved_size block.size)

    of : (delayed : Bool) → list_any test blocks ≡ is_in_live (live_blocks blocks) range
        → ((not delayed && here) || list_any test blocks) ≡ is_in_live (map (λ (b : Block). (b.at, b.size)) (cond (not delayed) (block ∷ filter (λ (b : Block). not b.delayed) blocks) (filter (λ (b : Block). not b.delayed) blocks))) range
    of true later = later
    of false later = ap (λ b. here || b) later

-- what touches the heap of a machine touches that of its layout
touches_layout : (path : Path) (range : Range) → IsLaidOut (guest_of path) → TouchesHeap path.state.machine range → has_byte_of path.heap.start path.heap.end range.at range.count ≡ true
touches_layout path range out touches =
    subst (λ start. has_byte_of start path.heap.end range.at range.count ≡ true) out.start
    (subst (λ end. has_byte_of path.state.machine.heap_start end range.at range.count ≡ true) out.end touches.heap)

-- a run from the start used all of its answers of the allocator
follows : (limits : Limits) (items : List Item) (plan : List Override) (image : Image) (path : Path) (n : ℕ) → serve limits items plan (origin image) n ≡ Some path → Follows items (origin image) path n
unfolding start start_machine
follows limits items plan image path n ran = served_follows limits items plan (origin image) path n refl ran

-- under a guard of mode Extent, what a served run touches of the heap lies in one extent
pub keeps_to_extents : (limits : Limits) (items : List Item) (plan : List Override) (image : Image) (now : Path)
    → limits.permits ≡ permits mode.Extent → KeepsToExtents limits items plan image now
keeps_to_extents limits items plan image now guards way range before after early touches =
    let so_far = follows limits items plan image way before.more before.ran in
    let later = served_follows limits items plan way now after.more so_far.used after.ran in
    let some : after.more ≡ 1 + (after.more - 1) = let counted = later.counted in omega arith in
    let next = place_on_way (planned_next limits items plan) way now 1 (after.more - 1) (subst (λ n. serve limits items plan way n ≡ Some now) some after.ran) in
    step_keeps mode.Extent limits items plan way next.0 range guards next.1 touches.touches
    (touches_layout way range (laid_out limits items plan image way before.more before.ran) touches)

-- under a guard of mode Block, what a run touches of the heap is reserved by one live block
pub keeps_to_live : (limits : Limits) (items : List Item) (plan : List Override) (image : Image) (now : Path)
    → limits.permits ≡ permits mode.Block → Served limits items plan (origin image) now → KeepsToLiveBlocks image items now.choices now.steps
keeps_to_live limits items plan image now guards served n s range early ran touches =
    let whole = follows limits items plan image now served.more served.ran in
    let count : served.more ≡ n + (1 + (now.steps - n - 1)) = let counted = whole.counted in omega arith in
    let there = place_on_way (planned_next limits items plan) (origin image) now n (1 + (now.steps - n - 1)) (subst (λ m. serve limits items plan (origin image) m ≡ Some now) count served.ran) in
    at_place there.0 there.1 there.2
  where
    at_place : (way : Path) → serve limits items plan (origin image) n ≡ Some way → serve limits items plan way (1 + (now.steps - n - 1)) ≡ Some now → is_in_live s.machine.blocks range ≡ true
    at_place way before after =
        let so_far = follows limits items plan image way n before in
        let later = served_follows limits items plan way now (1 + (now.steps - n - 1)) so_far.used after in
        let same : way.state ≡ s =
        same_Some way.state s
        (sym (run_chosen items way.choices later.others (start image) way.state n so_far.ran) ∙ sym (ap (λ cs. run items cs (start image) n) later.chose) ∙ ran) in
        let touches_way : TouchesHeap way.state.machine range = subst (λ (t : State). TouchesHeap t.machine range) (sym same) touches in
        let out = laid_out limits items plan image way n before in
        let next = place_on_way (planned_next limits items plan) way now 1 (now.steps - n - 1) after in
        let kept : is_reserved way.heap range.at range.count ≡ true = step_keeps mode.Block limits items plan way next.0 range guards next.1 touches_way.touches (touches_layout way range out touches_way) in
        let live : is_in_live way.state.machine.blocks range ≡ true = ap (λ blocks. is_in_live blocks range) out.live ∙ sym (reserved_live way.heap.blocks range) ∙ kept in
        subst (λ (t : State). is_in_live t.machine.blocks range ≡ true) same live
