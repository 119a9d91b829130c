-- Along a served run the live blocks of the machine are those of the layout of its heap, so each ask is answered.
use Rattle.alloc_env.proofs.Mallocs.{ask-serves}
use Rattle.alloc_env.proofs.Frees.{free-follows}
use Rattle.run_history.proofs.Terms.{Bool, List, Some, ap, cond, false, refl, subst, sym, true, ℕ, ◌∙◌, ◌≡◌, none-some, same_Some, slice_get, Item, Ask, Choice, live_blocks, live_with, without_live, Heap, IsHeap, Env, Served, Chooses, Effect, Emits, Ends, Fails, Goes, Machine, State, Wants, register, allocated, allocation, free, freed, after, does, instruction_at, Allocate, Free, Grant, IsLaidOut, Limits, Nothing, Path, Request, grant, granted, guest_of, request_of, site_of}
use Rattle.run_history.proofs.Serves.{ServesTo, allocates, chosen_after, map_some}
use Rattle.run_history.proofs.Blocks.{SameHeap, LeavesHeap, does_leaves, frees, requested_address}

-- where nothing was asked of the allocator, the machine's heap is as it was
left_after : (s t : State) (e : Effect) → LeavesHeap s.machine e → after s e ≡ Some t → SameHeap s.machine t.machine
left_after s t (Goes new) leaves h = let same = ap (λ (v : State). v.machine) (same_Some _ t h) in rw (← same) leaves
left_after s t (Emits conn bytes new) leaves h = let same = ap (λ (v : State). v.machine) (same_Some _ t h) in rw (← same) leaves
left_after s t (Ends code) leaves h = let same = ap (λ (v : State). v.machine) (same_Some _ t h) in rw (← same) (record { blocks = refl; start = refl; end = refl })
left_after s t Wants leaves h = absurd (none-some t h)
left_after s t (Chooses ask) leaves h = absurd leaves
left_after s t (Fails cause) leaves h = absurd (none-some t h)

-- a machine with this heap is laid out so
laid : (m : Machine) (heap : Heap) (live : List (ℕ × ℕ)) → IsHeap heap → m.heap_start ≡ heap.start → m.heap_end ≡ heap.end → m.blocks ≡ live → live_blocks heap.blocks ≡ live
    → IsLaidOut (record { machine = m; heap = heap })
laid m heap live sound start end blocks is = record { sound = sound; start = start; end = end; live = blocks ∙ sym is }

-- where an ask was answered, the block is live, and the one that it replaces isn't any more
allocated_after : (s t : State) (ask : Ask) (choice : Choice) → after s (allocation ask (Some choice) s.machine) ≡ Some t
    → (t.machine.blocks ≡ live_with choice s.machine.blocks) × (t.machine.heap_start ≡ s.machine.heap_start) × (t.machine.heap_end ≡ s.machine.heap_end)
unfolding allocated
allocated_after s t ask choice h =
    let same = chosen_after s t ask choice h in
    (ap (λ (m : Machine). m.blocks) same, ap (λ (m : Machine). m.heap_start) same, ap (λ (m : Machine). m.heap_end) same)

-- where a block was freed, it isn't live any more
freed_after : (s t : State) → after s (free s.machine) ≡ Some t
    → (t.machine.blocks ≡ without_live (register s.machine 10) s.machine.blocks) × (t.machine.heap_start ≡ s.machine.heap_start) × (t.machine.heap_end ≡ s.machine.heap_end)
unfolding freed
freed_after s t e =
    let same = ap (λ (v : State). v.machine) (same_Some _ t e) in
    (sym (ap (λ (m : Machine). m.blocks) same), sym (ap (λ (m : Machine). m.heap_start) same), sym (ap (λ (m : Machine). m.heap_end) same))

-- each instruction of a served run keeps the layout
pub laid_out_next : (limits : Limits) (items : List Item) (env : Env) (path to : Path) → IsLaidOut (guest_of path) → ServesTo limits items env path to → IsLaidOut (guest_of to)
unfolding grant
laid_out_next limits items env path to out parts = of_request (request_of (instruction_at path.state.machine) path.state.machine) refl parts.granted_by
  where
    m : Machine
    m = path.state.machine

    with_heap : (heap : Heap) → parts.given.heap ≡ heap → IsLaidOut (record { machine = to.state.machine; heap = heap }) → IsLaidOut (guest_of to)
    with_heap heap is out = subst (λ h. IsLaidOut (record { machine = to.state.machine; heap = h })) (sym (parts.heap ∙ is)) out

    of_request : (request : Request) → request_of (instruction_at path.state.machine) path.state.machine ≡ request → granted env path.heap (site_of path.state.machine) request ≡ Some parts.given → IsLaidOut (guest_of to)
    of_request Nothing asked given =
        let same = same_Some _ parts.given given in
        let kept = left_after path.state to.state _ (does_leaves path.state.machine (slice_get items path.state.machine.taken) parts.given.chosen asked) parts.goes in
        with_heap path.heap (sym (ap (λ (g : Grant). g.heap) same))
        (laid to.state.machine path.heap path.state.machine.blocks out.sound (kept.start ∙ out.start) (kept.end ∙ out.end) kept.blocks (sym out.live))
    of_request (Allocate ask) asked given =
        let found = map_some _ _ parts.given given in
        let served : Served = found.0 in
        let law = ask-serves env path.heap (site_of path.state.machine) ask served out.sound found.1 in
        let chosen : parts.given.chosen ≡ Some served.choice = sym (ap (λ (g : Grant). g.chosen) found.2) in
        let goes : after path.state (allocation ask (Some served.choice) path.state.machine) ≡ Some to.state =
        ap (after path.state) (sym (allocates path.state.machine ask asked (slice_get items path.state.machine.taken) (Some served.choice)))
        ∙ ap (λ c. after path.state (does (slice_get items path.state.machine.taken) c path.state.machine)) (sym chosen)
        ∙ parts.goes in
        let kept = allocated_after path.state to.state ask served.choice goes in
        with_heap served.heap (sym (ap (λ (g : Grant). g.heap) found.2))
        (laid to.state.machine served.heap (live_with served.choice (live_blocks path.heap.blocks)) law.sound (kept.1 ∙ out.start ∙ sym law.start) (kept.2 ∙ out.end ∙ sym law.end)
        (kept.0 ∙ ap (live_with served.choice) out.live) law.live)
    of_request (Free at) asked given =
        let found = map_some _ _ parts.given given in
        let law = free-follows env path.heap found.0 (site_of path.state.machine) at out.sound found.1 in
        let goes : after path.state (free path.state.machine) ≡ Some to.state =
        ap (after path.state) (sym (frees path.state.machine at asked (slice_get items path.state.machine.taken) parts.given.chosen)) ∙ parts.goes in
        let kept = freed_after path.state to.state goes in
        let here : register path.state.machine 10 ≡ at = sym (requested_address path.state.machine at asked) in
        with_heap found.0 (sym (ap (λ (g : Grant). g.heap) found.2))
        (laid to.state.machine found.0 (without_live at (live_blocks path.heap.blocks)) law.sound (kept.1 ∙ out.start ∙ sym law.start) (kept.2 ∙ out.end ∙ sym law.end)
        (kept.0 ∙ ap (λ n. without_live n path.state.machine.blocks) here ∙ ap (without_live at) out.live) law.live)
