-- The words and lemmas that this crate's proofs are written in: those of crates below, and its own words.
pub use Rattle.std.proofs.Common.{Bool, List, None, Option, Some, [], ap, arith, cond, eqb, false, if◌then◌else◌, inl, inr, min, nat_le, nat_lt, not, refl, subst, sym, true, ℕ, ◌%◌, ◌&&◌, ◌+◌, ◌-◌, ◌<◌, ◌^◌, ◌||◌, ◌∙◌, ◌∷◌, ◌≡◌, ◌≤◌}
pub use Rattle.std.proofs.lemmas.Bool.{and_from, and_parts, cases_Bool, eq-eqb, eqb-true, le-leb, le-ltb, lt-ltb, ne_eqb, not-false, not-true, or_left, or_parts, or_right}
pub use Rattle.std.proofs.lemmas.Option.{same_Some}
pub use Rattle.std.specs.Prelude.{is_some, unwrap_or}
pub use Rattle.block_book.proofs.Live.{kept-front, live-delayed, live-front, live-front_delayed, live-insert_block, live-recycled, live-without, placement-clear, placement-positive, placement-roomy, placement-sound}
pub use Rattle.block_book.proofs.Sound.{sound-delayed, sound-filter}
pub use Rattle.alloc_env.specs.Terms.{Ask, Calloc, Choice, Delayed, Heap, IsHeap, Live, Malloc, Nothing, Realloc, Site, StandWithin, Standing, Treatment, bytes_asked, extent_end, insert_live, is_apart, is_calloc, is_live_at, kept_count, lies_in, live_at, live_block, live_blocks, live_with, moved_count, option_map_or, option_or, reach, reach_at, recycled, remembering, replaced, same_ask, size_at, standing_at, standing_of, with_block, with_delayed, without_block, without_live, without_replaced}
unfoldable pub use Rattle.alloc_env.specs.Terms.{is_allowed, is_block, is_clear, may_carry, placement, reserved_size}
pub use Rattle.alloc_env.specs.declared.env.Env.{Env}
pub use Rattle.alloc_env.specs.declared.env.Env.TheVariants.{All, Delay, Isolate, Pad, Plain, Zero}
pub use Rattle.alloc_env.specs.Treatment.{treatment_of}
pub use Rattle.alloc_env.specs.Serving.{Served, freed, freed_by, in_place_of, middle, served_at, served_in, served_null, served_over}
unfoldable pub use Rattle.alloc_env.specs.Serving.{carried_over, served_ask, served_block, served_free, spot}
pub use Rattle.alloc_env.specs.Laws.{Follows, Serves}
