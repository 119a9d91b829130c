-- The words and lemmas that this crate's proofs are written in: those of crates below, and its own words.
pub use Rattle.std.proofs.Common.{All, Bool, IsSome, List, None, Option, Some, [], ap, append_assoc, arith, cond, drop, false, get_or, inl, inr, length, map, nat_lt, refl, replicate, set, slice_get, subst, suc, sym, take, true, vec_capacity, zero, ℕ, ◌%◌, ◌&&◌, ◌*◌, ◌++◌, ◌+◌, ◌-◌, ◌/◌, ◌<◌, ◌==◌, ◌||◌, ◌∙◌, ◌∷◌, ◌≡◌, ◌≤◌, ◌⊎◌}
pub use Rattle.std.proofs.Math.Bool.{or_assoc, or_comm}
pub use Rattle.std.proofs.Math.Seq.{drop-append-add, take-add}
pub use Rattle.std.proofs.lemmas.Bool.{and_parts, cases_Bool, cases_eq, cases_lt, eqb-true, false_from_ne_true, false≢true, le-ltb, lt-ltb, ltb-false, ltb-true, ne_eqb, or_cases, or_left, or_parts, or_right}
pub use Rattle.std.proofs.lemmas.Bool.Decides.{nat_tests}
pub use Rattle.std.proofs.lemmas.Grind.{common_steps, same_number_lists}
pub use Rattle.std.proofs.lemmas.List.{append-nil, drop-drop, drop-take, drop_all, drop_more, ext_get_or, get_or-append_right, get_or-drop, get_or-map, get_or-replicate, get_or-set_other, get_or-set_same, get_or-take, get_or_append_left, get_or_default, get_or_past, get_or_push, get_or_read, length-append, length-drop, length-map, length-replicate, length-set, length-take-le, map-set, replicate-append-replicate, set_split, take-append-drop, take-take, take_all, take_at, take_more}
pub use Rattle.std.proofs.lemmas.List.Elements.{All-cons, All-get_or, All-head, All-nil, All-push, All-set, All-tail, All-weaker}
pub use Rattle.std.proofs.lemmas.Option.{cond_some, slice_get-get_or}
pub use Rattle.std.specs.Vec.{with_items}
pub use Rattle.cow_pages.specs.declared.frame_copy.TheConstants.{PAGE}
pub use Rattle.cow_pages.specs.declared.moves.TheConstants.{MOST, RECENT}
pub use Rattle.cow_pages.specs.declared.slot.Slot.{Slot}
pub use Rattle.cow_pages.specs.declared.store.TheConstants.{MAX_FRAMES_PER_PAGE, MAX_PAGES, MAX_SLOTS}
pub use Rattle.cow_pages.specs.Pages.{Agree, IsLawful, IsMade, IsSpace, Pages, Space, Stands, different, has, held_of, page_of, saved_numbers, slot_at, used_of}
pub use Rattle.cow_pages.specs.Writes.{IsFree, NumberAfter, Owns, Writes, copied_pages, is_shared, put_at, reaches}
pub use Rattle.cow_pages.specs.Little.{little_bytes, little_number}
pub use Rattle.cow_pages.specs.Pool.{AreBlank, AreInside, AreLogged, CanCount, CanGiveUp, CanUncount, Counts, IsKept, IsLogged, IsLoggedSince, IsRenewed, IsRow, IsSlot, IsSound, IsStack, IsTable, Parts, Recounts, SameUpTo, StandFrom, StaySame, contents, pages_of, places, slot_numbers, slot_space, space_of, table_numbers}
