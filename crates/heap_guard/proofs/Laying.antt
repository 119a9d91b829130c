-- Wherever a served run stands, its machine has the live blocks of the layout of its heap.
use Rattle.std.proofs.Common.{List, Some, [], arith, eqb, inl, inr, leb, ltb, refl, subst, suc, true, zero, ℕ, ◌%◌, ◌&&◌, ◌+◌, ◌<◌, ◌∷◌, ◌≡◌, ◌≤◌}
use Rattle.std.proofs.lemmas.Bool.{cases_Bool}
use Rattle.std.proofs.lemmas.Bool.Decides.{nat_tests}
use Rattle.std.proofs.lemmas.List.Elements.{All-head, All-tail}
use Rattle.std.proofs.lemmas.Option.{option_and_then_some, same_Some}
use Rattle.guest_image.specs.declared.segment.Segment.{Segment}
use Rattle.guest_image.specs.Image.{heap_end, heap_start}
use Rattle.guest_image.specs.Layout.{executable}
use Rattle.guest_image.proofs.Valid.{segments_below, entry_executable, heap_has_page}
use Rattle.run_history.proofs.Layouts.{laid_out_next}
use Rattle.run_history.proofs.Serves.{serves_to}
use Rattle.heap_guard.specs.Terms.{All, Item, IsHeap, empty_heap, Image, start, start_machine, IsLaidOut, Limits, Override, Path, env_at, guest_of, origin, planned_next, serve}

-- an address of a segment that may be executed lies below what is at or above each segment's end
within : (segments : List Segment) (at limit : ℕ) → All (λ (segment : Segment). segment.vaddr + segment.memsz ≤ limit) segments → executable segments at ≡ true → at < limit
within [] at limit below h = cc
within (segment ∷ segments) at limit below h =
    let ends = All-head (λ (one : Segment). one.vaddr + one.memsz ≤ limit) segment segments below in
    elim (cases_Bool ((eqb (segment.flags % 2) 1 && leb segment.vaddr at) && ltb at (segment.vaddr + segment.memsz))) [
      | inl here ↦ near here ends
      | inr not_here ↦ within segments at limit (All-tail (λ (one : Segment). one.vaddr + one.memsz ≤ limit) segment segments below) (rw not_here at h)
    ]
  where
    near : ((eqb (segment.flags % 2) 1 && leb segment.vaddr at) && ltb at (segment.vaddr + segment.memsz)) ≡ true → segment.vaddr + segment.memsz ≤ limit → at < limit
    near test ends = let below_end : at < segment.vaddr + segment.memsz = grind (arith, nat_tests) in omega (arith, below_end, ends)

-- the empty heap of an image is one
begins_empty : (image : Image) → IsHeap (empty_heap (heap_start image) (heap_end image))
begins_empty image =
    let least = image.in_window.least in
    let whole = image.in_window.whole in
    let page = heap_has_page image in
    let ordered : heap_start image ≤ heap_end image = omega (arith, page) in
    let inside = within image.segments image.entry (heap_start image) (segments_below image) (entry_executable image).1 in
    record {
      start_multiple = omega arith;
      end_multiple = omega arith;
      above_null = omega (arith, inside);
      ordered = ordered;
      standing = ordered;
      few = omega arith;
    }

-- a run is laid out so at its start
begins_laid_out : (image : Image) → IsLaidOut (guest_of (origin image))
unfolding start start_machine
begins_laid_out image = record { sound = begins_empty image; start = refl; end = refl; live = refl }

-- each instruction keeps the layout
laid_out_behind : (limits : Limits) (items : List Item) (plan : List Override) (first second : Path) (count : ℕ) → IsLaidOut (guest_of first) → serve limits items plan first count ≡ Some second → IsLaidOut (guest_of second)
laid_out_behind limits items plan first second zero out ran = subst (λ (p : Path). IsLaidOut (guest_of p)) (same_Some first second ran) out
laid_out_behind limits items plan first second (suc count) out ran =
    option_and_then_some (planned_next limits items plan) (serve limits items plan first count) second ran (λ mid before goes.
    laid_out_next limits items (env_at limits.base plan mid.state.machine.taken) mid second (laid_out_behind limits items plan first mid count out before) (serves_to limits items (env_at limits.base plan mid.state.machine.taken) mid second goes))

-- so it is laid out wherever it stands
pub laid_out : (limits : Limits) (items : List Item) (plan : List Override) (image : Image) (path : Path) (count : ℕ) → serve limits items plan (origin image) count ≡ Some path → IsLaidOut (guest_of path)
laid_out limits items plan image path count ran = laid_out_behind limits items plan (origin image) path count (begins_laid_out image) ran
