-- The words and lemmas that this crate's proofs are written in: those of crates below, and its own words.
pub use Rattle.std.proofs.Common.{Bool, Err, List, None, Ok, Option, Some, [], ap, append-nil, append_assoc, arith, cond, drop, false, length, length-append, refl, subst, suc, sym, true, zero, ℕ, ◌&&◌, ◌++◌, ◌+◌, ◌<◌, ◌^◌, ◌∙◌, ◌∷◌, ◌≡◌, ◌≤◌}
pub use Rattle.std.proofs.lemmas.Bool.Decides.{nat_tests}
pub use Rattle.std.specs.Fmt.{decimal}
pub use Rattle.std.specs.Prelude.{All, AllPairs, Contains, bytes_eq, is_some, map, nat_le, nat_lt, slice_index_or, ◌==◌, ◌≢◌}
pub use Rattle.rx_base.specs.declared.item.TheConstants.{CONNECTIONS}
pub use Rattle.text_lines.proofs.Lines.{first-behind, is_line-decimal, joined, lines_is, lines_of-line, no_bytes}
pub use Rattle.text_lines.specs.Lines.{behind_line, first_line, is_line, lines_of}
pub use Rattle.text_lines.specs.Numbers.{clipped, first_number, second_number}
pub use Rattle.counts_file.specs.declared.counts.CountsRefusal.TheVariants.{Refused}
pub use Rattle.counts_file.specs.Answers.{ReadsCounts}
pub use Rattle.counts_file.specs.Counts.{AreCounts, IsBelow, IsCount, IsReading, count_of}
pub use Rattle.counts_file.specs.Lines.{text_of, written_count}
unfoldable pub use Rattle.counts_file.specs.Lines.{count_line}
pub use Rattle.counts_file.specs.Refusals.{refused_from, refused_line}
pub use Rattle.counts_file.specs.Steps.{AreAllLines, AreFrom, IsBehind, next_from}
pub use Rattle.counts_file.specs.Telling.{count_told, is_count}
unfoldable pub use Rattle.counts_file.specs.Telling.{count_in}
