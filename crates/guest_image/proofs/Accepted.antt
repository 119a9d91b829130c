-- What follows of segments that give a program.
use Rattle.guest_image.proofs.Terms.{List, None, arith, false, ℕ, ◌+◌, ◌-◌, ◌<◌, ◌^◌, ◌≡◌, ◌≤◌, leb-false, ltb-false, or_parts, nat_tests, PAGE, STACK_AND_GUARD, Segment, heap_floor, layout_refusal, too_large, window_start}

-- the window ends below 2 ^ 32, and a page fits between the segments and the heap's end
large_unrefused : (entry window : ℕ) (segments : List Segment) → layout_refusal entry window segments ≡ None → too_large window segments ≡ false
unfolding layout_refusal
large_unrefused entry window segments h = grind (arith, nat_tests)

pub top_below : (entry window : ℕ) (segments : List Segment) → layout_refusal entry window segments ≡ None → window_start segments + window < 2 ^ 32
unfolding too_large
top_below entry window segments h = leb-false _ _ (or_parts _ _ (large_unrefused entry window segments h)).0

pub page_fits : (entry window : ℕ) (segments : List Segment) → layout_refusal entry window segments ≡ None → heap_floor segments + PAGE ≤ window_start segments + window - STACK_AND_GUARD
unfolding too_large
page_fits entry window segments h = ltb-false _ _ (or_parts _ _ (large_unrefused entry window segments h)).1
