-- The words and lemmas that this crate's proofs are written in: those of crates below, and its own words.
pub use Rattle.std.proofs.Common.{Bool, List, None, Option, Some, [], add-zero, ap, append_assoc, ap₂, arith, cond, drop, drop-cons, false, get_or, length, length-append, length-drop, length-take, map, max, min, nat_le, nat_lt, not, refl, rules, slice_index, subst, suc, sym, take, true, zero, ℕ, ⊎_elim, ◌%◌, ◌&&◌, ◌*◌, ◌++◌, ◌+◌, ◌-◌, ◌/◌, ◌<◌, ◌==◌, ◌^◌, ◌||◌, ◌∙◌, ◌∷◌, ◌≡◌, ◌≤◌}
pub use Rattle.std.proofs.lemmas.Bool.{and_right, cases_lt, eq-eqb, le-leb, le-ltb, leb-false, lt-leb, lt-ltb, ltb-false, or_from, or_left, or_parts, or_right}
pub use Rattle.std.proofs.lemmas.Bool.Decides.{nat_tests}
pub use Rattle.std.proofs.lemmas.List.{at_drop_more, drop-drop, drop_at, length-map, take_all, take_at}
pub use Rattle.std.proofs.lemmas.List.Elements.{All-cons, All-head, All-more, All-nil, All-same, All-tail}
pub use Rattle.std.specs.Prelude.{is_some, position}
pub use Rattle.guest_image.proofs.Valid.{entry_executable, heap_ends, heap_has_page, no_overlap, segments_above, segments_below, stack_top_below}
pub use Rattle.elf_file.specs.Terms.{All, HasBytes, HasWordFlags, Image, IsPlaced, IsWindow, PAGE, STACK_AND_GUARD, Segment, executable, filter, heap_floor, highest, list_any, little_bytes, little_number, lowest, option_map, position_or_len, share_byte, window_start}
unfoldable pub use Rattle.elf_file.specs.Terms.{bad_entry, layout_refusal, no_load, overlap, too_large}
pub use Rattle.elf_file.specs.declared.program_header.ProgramHeader.{ProgramHeader}
pub use Rattle.elf_file.specs.declared.refused_field.RefusedField.{RefusedField}
pub use Rattle.elf_file.specs.Written.{file_bytes, file_header, program_header, written}
pub use Rattle.elf_file.specs.ProgramFile.{e_entry, e_phentsize, e_phnum, e_phoff, headers_from, is_loaded, place_of, segment_of}
unfoldable pub use Rattle.elf_file.specs.ProgramFile.{header_at, number_at, program_headers, segments_of}
pub use Rattle.elf_file.specs.Refusals.{IsImage, is_bad}
unfoldable pub use Rattle.elf_file.specs.Refusals.{bad_flags, bad_segment, bad_table, dynamic, header_refusal, not_class_32, not_elf, not_exec, not_little, not_riscv, refusal, short, table_refusal, thread_local}
pub use Rattle.elf_file.specs.RefusedFields.{HasTable, IsFirstWrong, Place, field_place, first_places}
unfoldable pub use Rattle.elf_file.specs.RefusedFields.{header_place}
