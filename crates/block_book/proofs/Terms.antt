-- The words and lemmas that this crate's proofs are written in: those of crates below, and its own words.
pub use Rattle.std.proofs.Common.{Bool, List, None, Option, Some, [], ap, arith, cond, drop, eqb, false, filter, get_or, if◌then◌else◌, inl, inr, leb, length, map, max, nat_le, nat_lt, not, of_calls, refl, rules, set, slice_get, subst, suc, sym, true, zero, ℕ, ◌%◌, ◌&&◌, ◌*◌, ◌++◌, ◌+◌, ◌-◌, ◌/◌, ◌<◌, ◌^◌, ◌||◌, ◌∙◌, ◌∷◌, ◌≡◌, ◌≤◌, ◌⊎◌}
pub use Rattle.std.proofs.lemmas.Bool.{and_from, and_parts, and_right, both_ways, cases_Bool, cases_lt, cases_order, eq-eqb, eqb-true, false_from_ne_true, le-leb, le-ltb, leb-false, leb-true, lt-leb, lt-ltb, ltb-false, ltb-true, ne_eqb, or_cases, or_left, or_parts, or_right}
pub use Rattle.std.proofs.lemmas.List.{get_or_default, length-append}
pub use Rattle.std.proofs.lemmas.List.Elements.{All-filter, filter_from_retain}
pub use Rattle.std.proofs.lemmas.List.Sums.{AllPass-from_list_all, count_by-le-length, length-filter, list_all-from_AllPass, prefix_len_is}
pub use Rattle.std.proofs.lemmas.Option.{MatchOption-at_some, same_Some, slice_get-get_or, slice_get_within}
pub use Rattle.std.specs.List.{AllWithin, find, insert, list_all, list_any, range_with_len, remove}
pub use Rattle.std.specs.List.Sorted.{IsNonDecreasingBy}
pub use Rattle.std.specs.Option.{MatchOption, option_map}
pub use Rattle.std.specs.Prelude.{is_some}
pub use Rattle.circular_buffer.specs.Buffer.{Buffer, buffer, keep_last}
pub use Rattle.block_book.specs.declared.block.Block.{Block}
pub use Rattle.block_book.specs.declared.choice.Ask.{Ask}
pub use Rattle.block_book.specs.declared.choice.Ask.TheVariants.{Calloc, Malloc, Realloc}
pub use Rattle.block_book.specs.declared.site.Freed.{Freed}
pub use Rattle.block_book.specs.declared.site.Site.{Site}
pub use Rattle.block_book.specs.declared.standing.Standing.TheVariants.{Delayed, Live}
pub use Rattle.block_book.specs.Block.{IsAligned, extent_end, extent_start, is_apart, lies_in, live_block, reach, touched}
unfoldable pub use Rattle.block_book.specs.Block.{reserved_size}
pub use Rattle.block_book.specs.Heap.{Heap, IsHeap, StandWithin, delayed_at, freed_at, heap_of, insert_block, is_bare, is_held, is_live_at, is_reserved, live_at, most_blocks, reach_at, recycled, remembering, standing_at, standing_of, starting_at, with_block, with_delayed, without_block}
unfoldable pub use Rattle.block_book.specs.Placement.{fit, fits, placement}
pub use Rattle.block_book.specs.Answer.{insert_live, live_blocks, same_ask, size_at, without_live}
unfoldable pub use Rattle.block_book.specs.Answer.{is_clear}
pub use Rattle.block_book.specs.Search.{FindsLive, HasRoom, passed}
