-- The words and lemmas that this crate's proofs are written in: those of crates below, and its own words.
pub use Rattle.std.proofs.Common.{Bool, Err, IfOk, IfSome, IsSome, List, MatchBool, None, Ok, Option, Result, Some, [], add-one, add-zero, ap, ap₂, arith, cond, drop, false, get_or, if◌then◌else◌, inl, inr, is_some, length, map, nat_le, nat_lt, refl, replicate, rules, set, slice_get, slice_set, subst, suc, sym, take, true, unwrap_or, zero, ℕ, ◌%◌, ◌&&◌, ◌*◌, ◌++◌, ◌+◌, ◌-◌, ◌/◌, ◌<◌, ◌==◌, ◌^◌, ◌||◌, ◌∙◌, ◌∷◌, ◌≡◌, ◌≤◌, ◌⊎◌}
pub use Rattle.std.proofs.lemmas.Bool.{and_parts, cases_Bool, cases_eq, cases_lt, false≢true, le-leb, le-ltb, leb-true, lt-leb, lt-ltb, or_cases, or_parts}
pub use Rattle.std.proofs.lemmas.Bool.Decides.{nat_tests}
pub use Rattle.std.proofs.lemmas.List.{append-nil, append_assoc, at_drop_all, at_drop_more, drop-drop, drop-replicate, drop-set-add, drop-set-lt, drop-take, get_or-append_right, get_or-drop, get_or-map, get_or-replicate, get_or-take, get_or_append_left, get_or_default, get_or_past, length-append, length-drop, length-map, length-replicate, length-set, length-take-le, map-append, take-append-drop, take-replicate, take-set-le, take-take, take_more, take_more_set}
pub use Rattle.std.proofs.lemmas.List.Elements.{All-append, All-cons, All-head, All-map, All-nil, All-push, All-replicate, All-tail, All-weaker}
pub use Rattle.std.proofs.lemmas.Option.{get_or_from_slice_get, slice_get-get_or, slice_get_within}
pub use Rattle.std.specs.Prelude.{slice_index}
pub use Rattle.cow_pages.proofs.RunSteps.{shared_after, writes_more, writes_nothing}
pub use Rattle.cow_pages.proofs.Runs.{reaches-here, reaches-other, refill}
pub use Rattle.guest_space.specs.Terms.{All, AllPairs, Area, Image, IsLawful, IsMade, IsPlaced, IsTableOf, NumberAfter, PAGE, Pages, STACK, Segment, Space, StandsAt, Table, Writes, base, blank_area, byte_at, bytes_at, copied_pages, covers, each_covered, has, heap_end, heap_start, is_shared, little_bytes, little_number, memory_of, put_at, put_byte, put_bytes, reaches, saved_numbers, segment_area, share_byte, slot_at, stack_top, used_of, word_in}
unfoldable pub use Rattle.guest_space.specs.Terms.{permitted, zeros}
pub use Rattle.guest_space.specs.declared.stretch.Stretch.{Stretch}
pub use Rattle.guest_space.specs.declared.window.RegisterWindows.{RegisterWindows}
pub use Rattle.guest_space.specs.declared.window.Window.{Window}
pub use Rattle.guest_space.specs.declared.window.Windows.{Windows}
pub use Rattle.guest_space.specs.Space.{AreApart, GuestPages, IsLawfulSpace, LiesIn, Span, area_of, blank_span, flat, guest_pages, meet, segment_span, spans_of}
unfoldable pub use Rattle.guest_space.specs.Space.{flat_of}
pub use Rattle.guest_space.specs.Access.{IsStart, Puts, Reads, Releases}
pub use Rattle.guest_space.specs.Ranges.{AreHeld, IsCode, has_address, has_range, some_has}
pub use Rattle.guest_space.specs.Code.{HasCode, KeepsCode, code_bytes, word_count}
pub use Rattle.guest_space.specs.Filling.{FilesIn, Fills, IsFilled, filled_bytes}
pub use Rattle.guest_space.specs.Stretches.{IsIn, IsOpen}
pub use Rattle.guest_space.specs.Windows.{AreWindows, EachIs, IsLoadWindow, IsOfPage, IsStoreWindow, IsWindow, WritesPage, follow, followed, load_window, window_of}
