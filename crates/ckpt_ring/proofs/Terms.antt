-- The words and lemmas that this crate's proofs are written in: those of crates below, and its own words.
pub use Rattle.std.proofs.Common.{All, Bool, Contains, IfSome, IsSome, IsSomeAnd, List, None, Option, Some, [], ap, ap₂, arith, cond, drop, eqb, false, get_or, inl, inr, is_some, length, length-drop, length-take-le, nat_eq, not, refl, replicate, rules, set, slice_get, subst, suc, sym, take, true, zero, ℕ, ⊎_elim, ◌&&◌, ◌*◌, ◌++◌, ◌+◌, ◌-◌, ◌<◌, ◌==◌, ◌||◌, ◌∙◌, ◌∷◌, ◌≡◌, ◌≢◌, ◌≤◌, ◌⊎◌}
pub use Rattle.std.proofs.lemmas.Bool.{and_parts, cases_Bool, cases_eq, cases_lt, eq-eqb, eqb-true, false≢true, le-leb, leb-true, lt-leb, ne_eqb, or_cases, or_from, or_parts, or_right, true≢false}
pub use Rattle.std.proofs.lemmas.Bool.Decides.{Decides-eqb}
pub use Rattle.std.proofs.lemmas.List.{drop-drop, get_or-replicate, get_or-set_other, get_or-set_same, get_or-take, length-replicate, length-set, take-map, take-take}
pub use Rattle.std.proofs.lemmas.List.Elements.{All-cons, All-contains, All-contains_itself, All-head, All-tail, All-take, Contains-get_or}
pub use Rattle.std.proofs.lemmas.List.Sums.{sum_by-cons, sum_by-take-le}
pub use Rattle.std.proofs.lemmas.Map.Made.{AllPairs-from_IsDistinct, IsDistinct-from_AllPairs}
pub use Rattle.std.proofs.lemmas.Map.Steps.{le-length_from_below, length-le_from_distinct_below}
pub use Rattle.std.proofs.lemmas.Map.Views.{Contains-from_any, list_any-from_Contains}
pub use Rattle.std.proofs.lemmas.Option.{get_or_from_slice_get, slice_get_within}
pub use Rattle.std.specs.List.{AllPairs, list_any}
unfoldable pub use Rattle.std.specs.List.{IsDistinct}
pub use Rattle.std.specs.Prelude.{if◌then◌else◌, nat_le, sum}
pub use Rattle.cow_pages.proofs.Counting.{different-le, has-append, has-get_or, has-nowhere}
pub use Rattle.cow_pages.proofs.Frames.{IsOnce}
pub use Rattle.cow_pages.specs.Pages.{IsLawful, IsMade, Pages, Space, different, has, saved_numbers, slot_at, used_of}
pub use Rattle.cow_pages.specs.Writes.{NumberAfter, Writes, is_shared, reaches}
pub use Rattle.ckpt_ring.specs.Line.{AreFresh, IsFresh, IsLine, Line, base_of, checkpoints_in, count_true, differ, frames_in, frames_of, frames_of_all, line_of, slots_of, with_reached, with_reached_from, written_pages, written_since}
pub use Rattle.ckpt_ring.specs.Rings.{has_room, largest, room_for, saved_in_ring}
pub use Rattle.ckpt_ring.specs.Slots.{AreSound, Checkpoint, Slots, all_numbers, oldest_of, page_numbers, restored, used_pages, with_newest, with_saved, with_whole_oldest, without_newer, without_oldest}
