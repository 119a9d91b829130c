-- The words and lemmas that this crate's proofs are written in: those of crates below, and its own words.
pub use Rattle.std.proofs.Common.{Bool, List, None, Some, [], ap, ap₂, arith, drop, false, get_or, length, lit<, lit≤, map, max, min, nat_lt, refl, replicate, rules, suc, sym, take, true, ℕ, ⊎_elim, ◌%◌, ◌++◌, ◌+◌, ◌-◌, ◌<◌, ◌^◌, ◌||◌, ◌∙◌, ◌∷◌, ◌≡◌, ◌≤◌}
pub use Rattle.std.proofs.lemmas.Bool.{cases_lt, le-ltb, leb-false, lt-ltb, ltb-false, or_from, or_parts}
pub use Rattle.std.proofs.lemmas.Bool.Decides.{nat_tests}
pub use Rattle.std.proofs.lemmas.List.{at_drop_all, at_drop_more, get_or-map, length-map}
pub use Rattle.std.proofs.lemmas.List.Elements.{All-cons, All-head, All-map, All-nil, All-same, All-tail, All-weaker}
pub use Rattle.std.proofs.lemmas.List.Sorted.{All-permutation, IsNonDecreasingBy-drop, IsNonDecreasingBy-from_sort_by_key, IsPermutation-sym}
pub use Rattle.std.proofs.lemmas.Map.Keys.{IsDistinct-IsPermutation, apart_from_distinct}
pub use Rattle.std.specs.List.{All, AllByRecursion, AllPairs, list_any}
unfoldable pub use Rattle.std.specs.List.{IsDistinct}
pub use Rattle.guest_image.specs.declared.image.Image.{Image}
pub use Rattle.guest_image.specs.declared.layout.TheConstants.{PAGE, STACK_AND_GUARD}
pub use Rattle.guest_image.specs.declared.overlap.Extent.{Extent}
pub use Rattle.guest_image.specs.declared.segment.Segment.{Segment}
pub use Rattle.guest_image.specs.Memory.{Area, byte_at, bytes_at, execute, put_bytes, read, write}
unfoldable pub use Rattle.guest_image.specs.Memory.{permitted}
pub use Rattle.guest_image.specs.Layout.{HasBytes, IsPlaced, IsWindow, executable, heap_floor, highest, lowest, share_byte, window_start}
unfoldable pub use Rattle.guest_image.specs.Layout.{bad_entry, layout_refusal, no_load, overlap, too_large}
pub use Rattle.guest_image.specs.Extents.{extent_of, meet, meets_from, some_meet}
pub use Rattle.guest_image.specs.Image.{base, heap_end, heap_start, memory_of, stack_top}
unfoldable pub use Rattle.guest_image.specs.Image.{zeros}
