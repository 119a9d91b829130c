-- What calls leave of what a guest has beside its memory, as turns.
use Rattle.guest_cpu.proofs.Terms.{Bool, List, None, Option, Some, arith, cond, eqb, false, ltb, refl, subst, true, ℕ, ◌+◌, ◌<◌, ◌∙◌, ◌≡◌, ◌≢◌, ◌≤◌, none-some, is_some, slice_get, slice_index, unwrap_or, Ask, Choice, Site, size-live, bytes_asked, has_replaced, is_allowed, is_defined, live_blocks, live_with, replaced, size_at, without_live, Heap, SameEnds, is_live_at, Env, Served, in_place_of, served_ask, served_block, served_free, served_over, Ecall, Area, bytes_at, put_bytes, read, BadFree, allocated, freed, set_bytes, Core, answering, core_site, going_on, machine_of, set_range, standing, turn_to, meeting_of, sends, allocating, freeing}
use Rattle.guest_cpu.specs.declared.event.Event.TheVariants as event
use Rattle.guest_cpu.specs.declared.event.Met.TheVariants as met

-- a block was freed
pub freed_turn : (env : Env) (core new : Core) (heap : Heap) (site : Site) (at : ℕ) (memory : List Area) → site ≡ core_site core → at ≡ slice_index core.regs.x 10 → served_free env core.book site at ≡ Some heap
    → live_blocks heap.blocks ≡ without_live at (live_blocks core.book.blocks) → SameEnds core.book heap → new ≡ going_on (record core { book = heap })
    → freeing env (standing core memory) at ≡ Some (turn_to None (standing new memory) None)
unfolding freed
freed_turn env core new heap site at memory there asked served live ends is =
    let here : served_free env core.book (core_site core) at ≡ Some heap = subst (λ s. served_free env core.book s at ≡ Some heap) there served in
    rw (here, is, live, ends.0, ends.1, asked) refl

-- an ask that is answered is one that C defines
defined_served : (env : Env) (heap : Heap) (site : Site) (ask : Ask) (served : Served) → served_ask env heap site ask ≡ Some served → is_defined (live_blocks heap.blocks) ask ≡ true
unfolding served_ask
defined_served env heap site ask served is = of_replaced (replaced ask) is
  where
    of_live : (old : ℕ) (live : Bool) → is_live_at heap old ≡ live → cond live (Some (in_place_of env heap site old (bytes_asked ask) (served_block env heap site ask))) None ≡ Some served → is_some (size_at old (live_blocks heap.blocks)) ≡ true
    of_live old true e h = size-live old heap.blocks ∙ e
    of_live old false e h = absurd (none-some served h)

    of_replaced : (over : Option ℕ) → served_over env heap site ask over ≡ Some served → has_replaced (live_blocks heap.blocks) over ≡ true
    of_replaced None h = refl
    of_replaced (Some old) h = of_live old (is_live_at heap old) refl h

-- an ask was answered
pub allocated_turn : (env : Env) (core answered : Core) (heap : Heap) (site : Site) (choice : Choice) (ask : Ask) (memory new_memory : List Area)
    → site ≡ core_site core
    → served_ask env core.book site ask ≡ Some (record { choice = choice; heap = heap })
    → is_allowed core.book.start core.book.end (live_blocks core.book.blocks) ask choice ≡ true
    → live_blocks heap.blocks ≡ live_with choice (live_blocks core.book.blocks) → SameEnds core.book heap
    → new_memory ≡ put_bytes memory choice.at (set_bytes (machine_of core memory) choice)
    → answered ≡ answering choice.at (record core { book = heap })
    → allocating env (standing core memory) ask ≡ Some (turn_to (Some (event.Chooses choice)) (standing (record answered { marks = record answered.marks { choices = answered.marks.choices + 1 } }) new_memory) (set_range (live_blocks core.book.blocks) choice))
unfolding allocated
allocated_turn env core answered heap site choice ask memory new_memory there served may live ends memory_is is =
    let defined = defined_served env core.book site ask _ served in
    let here : served_ask env core.book (core_site core) ask ≡ Some (record { choice = choice; heap = heap }) = subst (λ s. served_ask env core.book s ask ≡ Some (record { choice = choice; heap = heap })) there served in
    rw (here, defined, may, is, memory_is, live, ends.0, ends.1) refl

-- an ask was bad
pub bad_turn : (env : Env) (core : Core) (heap : Heap) (site : Site) (ask : Ask) (memory : List Area) → site ≡ core_site core → (served_ask env core.book site ask ≡ None) × (heap ≡ core.book)
    → allocating env (standing core memory) ask ≡ Some (turn_to (Some (event.Failed BadFree)) (standing (record core { book = heap }) memory) None)
bad_turn env core heap site ask memory there (served, same) =
    let here : served_ask env core.book (core_site core) ask ≡ None = subst (λ s. served_ask env core.book s ask ≡ None) there served in rw (here, same) refl

-- a send, by its answer
pub sent_long : (core new : Core) (conn at len : ℕ) (memory : List Area) → 65535 < len → new ≡ answering 2 core
    → meeting_of (Some Ecall) (standing core memory) (sends (machine_of core memory) conn at len) ≡ Some (turn_to None (standing new memory) None)
sent_long core new conn at len memory long is =
    let test : ltb 65535 len ≡ true = grind arith in rw (test, is) refl

pub sent_closed : (core new : Core) (conn at len : ℕ) (memory : List Area) → len ≤ 65535 → unwrap_or (slice_get core.connections conn) false ≡ false → new ≡ answering 1 core
    → meeting_of (Some Ecall) (standing core memory) (sends (machine_of core memory) conn at len) ≡ Some (turn_to None (standing new memory) None)
sent_closed core new conn at len memory short closed is =
    let test : ltb 65535 len ≡ false = grind arith in rw (test, closed, is) refl

pub sent_empty : (core new : Core) (conn at len : ℕ) (memory : List Area) → len ≤ 65535 → unwrap_or (slice_get core.connections conn) false ≡ true → len ≡ 0 → new ≡ answering 0 core
    → meeting_of (Some Ecall) (standing core memory) (sends (machine_of core memory) conn at len) ≡ Some (turn_to None (standing new memory) None)
sent_empty core new conn at len memory short open_one none is =
    let test : ltb 65535 len ≡ false = grind arith in
    let empty : eqb len 0 ≡ true = grind arith in rw (test, open_one, empty, is) refl

pub sent_bytes : (core answered : Core) (conn at len : ℕ) (memory : List Area) (bytes : List ℕ) → len ≤ 65535 → unwrap_or (slice_get core.connections conn) false ≡ true → len ≢ 0
    → bytes ≡ bytes_at read memory at len → answered ≡ answering 0 core
    → meeting_of (Some Ecall) (standing core memory) (sends (machine_of core memory) conn at len)
    ≡ Some (turn_to (Some (met.Emits conn bytes)) (standing (record answered { marks = record answered.marks { sends = answered.marks.sends + 1 } }) memory) None)
sent_bytes core answered conn at len memory bytes short open_one some bytes_are is =
    let test : ltb 65535 len ≡ false = grind arith in
    let filled : eqb len 0 ≡ false = grind arith in rw (test, open_one, filled, bytes_are, is) refl
