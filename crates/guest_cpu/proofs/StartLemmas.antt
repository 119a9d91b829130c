-- A guest at the start of its program.
use Rattle.ckpt_ring.proofs.Flags.{count_true-all}
use Rattle.guest_image.specs.declared.segment.Segment.{Segment}
use Rattle.std.specs.Prelude.{◌-◌}
use Rattle.guest_image.specs.Layout.{executable}
use Rattle.guest_image.proofs.Valid.{segments_below, entry_executable, heap_has_page}
use Rattle.guest_image.specs.declared.layout.TheConstants.{STACK}
use Rattle.guest_cpu.proofs.Terms.{All, Contains, List, None, Option, [], ap, arith, eqb, inl, inr, leb, length, ltb, refl, replicate, sym, true, ℕ, ◌%◌, ◌&&◌, ◌*◌, ◌++◌, ◌+◌, ◌/◌, ◌<◌, ◌∙◌, ◌∷◌, ◌≡◌, ◌≤◌, cases_Bool, nat_tests, length-replicate, All-head, All-tail, All-weaker, Contains-append_right, map, SameEnds, PAGE, MAX_SLOTS, IsMade, Pages, Space, line_starts, IsLine, Line, line_of, Image, heap_end, heap_start, stack_top, IsStart, GuestPages, blank_span, segment_span, Core, AreCounted, standing, IsCpu, IsFreshCpu, IsStartCore, cpu_state}

-- an address of a segment lies below what is at or above each segment's end
within : (segments : List Segment) (at limit : ℕ) → All (λ (segment : Segment). segment.vaddr + segment.memsz ≤ limit) segments → executable segments at ≡ true → at < limit
within [] at limit below h = cc
within (segment ∷ segments) at limit below h =
    let ends = All-head (λ (one : Segment). one.vaddr + one.memsz ≤ limit) segment segments below in
    elim (cases_Bool ((eqb (segment.flags % 2) 1 && leb segment.vaddr at) && ltb at (segment.vaddr + segment.memsz))) [
      | inl here ↦ near here ends
      | inr not_here ↦ within segments at limit (All-tail (λ (one : Segment). one.vaddr + one.memsz ≤ limit) segment segments below) (rw not_here at h)
    ]
  where
    near : ((eqb (segment.flags % 2) 1 && leb segment.vaddr at) && ltb at (segment.vaddr + segment.memsz)) ≡ true → segment.vaddr + segment.memsz ≤ limit → at < limit
    near test ends = let below_end : at < segment.vaddr + segment.memsz = grind (arith, nat_tests) in omega (arith, below_end, ends)

-- the heap begins above address 0
pub heap_above_null : (image : Image) → 0 < heap_start image
heap_above_null image =
    let inside = within image.segments image.entry (heap_start image) (segments_below image) (entry_executable image).1 in
    omega (arith, inside)

pub heap_ordered : (image : Image) → heap_start image ≤ heap_end image
heap_ordered image = omega (arith, heap_has_page image)

-- an element between others
contains_mid : {X : Type 0} (xs zs : List X) (y : X) → Contains (xs ++ y ∷ zs) y
contains_mid xs zs y = Contains-append_right xs (y ∷ zs) y (0, omega arith, refl)

-- nothing is saved in the memory of a start
line_at_start : (image : Image) (slots frames : ℕ) (space : GuestPages) → IsStart image (image.window / PAGE) slots frames space → 2 * (image.window / PAGE) ≤ frames → IsLine space.store (line_of [] 0)
line_at_start image slots frames space start enough =
    let blank : Pages = record space.store { live = record space.store.live { bytes = replicate (PAGE * (image.window / PAGE)) 0 } } in
    let made : IsMade (image.window / PAGE) slots frames blank = record { pages_are = start.pages_are; frames_are = start.frames_are; zeros = refl; empty = start.empty; used = start.used } in
    let line = line_starts (image.window / PAGE) slots frames blank made enough in
    record {
      distinct = line.distinct;
      each_saved = line.each_saved;
      all_saved = line.all_saved;
      base = line.base;
      fresh = line.fresh;
      live = line.live;
      frames = line.frames;
    }

-- a guest that was just made
pub fresh_cpu : {R : Type 0} (rule : R) (image : Image) (slots frames : ℕ) (core : Core) (space : GuestPages) (cores : List Core) (line : Line)
    → IsStartCore image core → IsStart image (image.window / PAGE) slots frames space → All (IsStartCore image) cores → length cores ≡ slots → line ≡ line_of [] 0
    → 2 * (image.window / PAGE) ≤ frames → slots ≤ MAX_SLOTS → IsCpu core space cores line × IsFreshCpu image slots frames rule (cpu_state rule core space cores line)
fresh_cpu rule image slots frames core space cores line begins start each many line_is enough few =
    let count : length space.store.slots ≡ slots = ap length start.empty ∙ length-replicate {A = Option Space} slots None in
    rw line_is (
      record {
        line_is = line_at_start image slots frames space start enough;
        heap = rw (start.spans_are, begins.start_is, begins.end_is) (contains_mid (map segment_span image.segments) (blank_span (stack_top image - STACK) (stack_top image) ∷ []) (blank_span (heap_start image) (heap_end image)));
        counts = begins.counts;
        each_slot = many ∙ sym count;
        same = All-weaker (IsStartCore image) (λ (other : Core). SameEnds core.book other.book × AreCounted other.marks)
            (λ other its. ((its.start_is ∙ sym begins.start_is, its.end_is ∙ sym begins.end_is), its.counts)) cores each;
        few = omega (arith, few, count);
      },
      record {
        rule_is = refl;
        base_is = start.base_is;
        live_is = ap (standing core) start.memory ∙ begins.standing_is;
        none_saved = refl;
        stands = refl;
        all_written = ap (λ n. replicate n true) start.pages_are;
        written_is = count_true-all space.store.pages ∙ start.pages_are;
        count_is = count;
        pages_are = start.pages_are;
        frames_are = start.frames_are;
      },
    )
