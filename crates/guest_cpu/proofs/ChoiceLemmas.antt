-- An ask that is answered as recorded.
use Rattle.guest_cpu.proofs.Terms.{Bool, List, ap, arith, eqb, false, refl, subst, sym, true, ℕ, ◌&&◌, ◌+◌, ◌||◌, ◌∙◌, ◌≡◌, ◌≢◌, Ask, Choice, Site, live-insert_block, bytes_asked, insert_live, is_allowed, live_blocks, live_with, replaced, without_replaced, live_block, Heap, IsHeap, SameEnds, with_block, Area, put_bytes, allocated, set_bytes, Core, answering, core_site, machine_of, standing, chosen_standing, heap_with, released_over}
use Rattle.guest_cpu.proofs.PlaceLemmas.{allowed_asked}
use Rattle.guest_cpu.proofs.RecordTurns.{released_over_live}

-- an answer that C allows to an ask is one that it allows to its own
pub allowed_own : (start end : ℕ) (live : List (ℕ × ℕ)) (wanted : Ask) (choice : Choice) → is_allowed start end live wanted choice ≡ true → is_allowed start end live choice.ask choice ≡ true
allowed_own start end live wanted choice ok =
    subst (λ (ask : Ask). is_allowed start end live ask choice ≡ true) (sym (allowed_asked start end live wanted choice ok)) ok

-- whether it has room
pub room_is : (room clear answer : Bool) → answer ≡ (room && clear) → clear ≡ true → answer ≡ room
room_is true clear answer h is = h ∙ is
room_is false clear answer h is = h

pub room_answer : (at : ℕ) (room answer : Bool) → at ≢ 0 → answer ≡ room → answer ≡ (eqb at 0 || room)
room_answer at room answer some h = let test : eqb at 0 ≡ false = grind arith in rw test h

-- the live blocks with one in place of another
pub placed_live : (heap put new : Heap) (site : Site) (choice : Choice) (size : ℕ) → IsHeap heap → choice.at ≢ 0 → size ≡ bytes_asked choice.ask → put ≡ with_block heap (live_block choice.at size 0 site)
    → new ≡ released_over (replaced choice.ask) site put → live_blocks new.blocks ≡ live_with choice (live_blocks heap.blocks)
placed_live heap put new site choice size sound some asked puts gone =
    let test : eqb choice.at 0 ≡ false = grind arith in
    rw test
    (ap (λ (h : Heap). live_blocks h.blocks) gone
    ∙ released_over_live (replaced choice.ask) site put
    ∙ ap (λ (h : Heap). without_replaced (replaced choice.ask) (live_blocks h.blocks)) puts
    ∙ ap (without_replaced (replaced choice.ask)) (live-insert_block choice.at size 0 heap.start site heap.blocks heap.end sound.standing)
    ∙ ap (λ n. without_replaced (replaced choice.ask) (insert_live (choice.at, n) (live_blocks heap.blocks))) asked)

-- an ask was answered
pub chose : (core answered : Core) (heap : Heap) (choice : Choice) (memory new_memory : List Area) → heap ≡ heap_with choice (core_site core) core.book
    → live_blocks heap.blocks ≡ live_with choice (live_blocks core.book.blocks) → SameEnds core.book heap
    → new_memory ≡ put_bytes memory choice.at (set_bytes (machine_of core memory) choice) → answered ≡ answering choice.at (record core { book = heap })
    → standing (record answered { marks = record answered.marks { choices = answered.marks.choices + 1 } }) new_memory ≡ chosen_standing choice (standing core memory)
unfolding allocated
chose core answered heap choice memory new_memory heap_is live ends memory_is is =
    let its_live = rw heap_is at live in
    let start = rw heap_is at ends.0 in
    let end = rw heap_is at ends.1 in
    rw (is, heap_is, memory_is, its_live, start, end) refl
