-- The words and lemmas that this crate's proofs are written in: those of crates below, and its own words.
pub use Rattle.std.proofs.Common.{List, None, Option, Some, [], ap, append_assoc, arith, drop, eqb, false, get_or, inl, inr, leb, length, length-append, length-drop, length-take-le, ltb, min, not, refl, rules, suc, sym, take, true, ℕ, ◌++◌, ◌+◌, ◌-◌, ◌<◌, ◌==◌, ◌∙◌, ◌∷◌, ◌≡◌, ◌≢◌, ◌≤◌}
pub use Rattle.std.proofs.lemmas.Bool.{cases_Bool, cases_lt, cond-false, cond-true, cond_both, le-leb, le-ltb, leb-false, lt-leb, lt-ltb, ltb-false, ltb-true}
pub use Rattle.std.proofs.lemmas.List.{append-nil, drop-append-le, drop_all, drop_more, take-append-drop, take-append-le, take_all, take_more}
pub use Rattle.std.specs.List.{All, concat, position, position_or_len}
pub use Rattle.msg_frame.specs.declared.ends.End.TheVariants.{Within}
pub use Rattle.msg_frame.specs.declared.framing.Framing.{Framing}
pub use Rattle.msg_frame.specs.declared.framing.Framing.TheVariants.{Length, Line, Whole}
pub use Rattle.msg_frame.specs.declared.framing.TheConstants.{LINE_FEED, MAX_MESSAGE, NUMBER_BYTES}
pub use Rattle.msg_frame.specs.Messages.{Parts, announced, behind, cut_all, length_byte, little_number, no_message, one_message, then_cut}
unfoldable pub use Rattle.msg_frame.specs.Messages.{announced_parts, cut, cut_bytes, cut_whole, line_byte}
pub use Rattle.msg_frame.specs.Feeding.{IsRest}
pub use Rattle.msg_frame.specs.Skipped.{skipped}
pub use Rattle.msg_frame.specs.Takes.{left_of}
pub use Rattle.msg_frame.specs.Laws.{BytesDecide, CutsAgree, MessagesAreShort, PiecesJoin}
