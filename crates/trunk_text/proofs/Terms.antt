-- The words and lemmas that this crate's proofs are written in: those of crates below, and its own words.
pub use Rattle.std.proofs.Common.{Bool, Err, List, None, Ok, Option, Result, Some, [], ap, append-nil, append_assoc, arith, bytes_eq, drop, false, flat_map, if◌then◌else◌, inl, inr, length, length-append, nat_le, nat_lt, not, refl, subst, sym, take, true, vec_len, ℕ, ◌%◌, ◌&&◌, ◌*◌, ◌++◌, ◌+◌, ◌-◌, ◌/◌, ◌<◌, ◌==◌, ◌^◌, ◌∙◌, ◌∷◌, ◌≡◌, ◌≤◌, ◌⊎◌}
pub use Rattle.std.proofs.lemmas.Bool.Decides.{nat_tests}
pub use Rattle.std.proofs.lemmas.List.{append_cancel_left, nil_from_length}
pub use Rattle.std.proofs.lemmas.List.Elements.{All-cons, All-head, All-nil, All-push, All-tail}
pub use Rattle.std.specs.Prelude.{All, ⊤}
pub use Rattle.rx_base.proofs.Composing.{gave_more, gave_nothing, took_more, took_nothing}
pub use Rattle.trunk_wire.proofs.GrammarLemmas.{two_bytes_back}
pub use Rattle.trunk_text.specs.Terms.{Appends, BYTES, CLOSE, Closes, Cut, FitsTwoBytes, Flaw, Form, Header, IoFault, IsDrained, Kind, Line, LongLine, LongPiece, Nothing, OPEN, Opens, Payload, Piece, SETTLE, Settles, Stream, Took, frame, from_two_bytes, header_bytes, header_of, high_byte, is_extra, is_known, list_all, low_byte}
pub use Rattle.trunk_text.specs.declared.escapes.Before.TheVariants.{Whole}
pub use Rattle.trunk_text.specs.declared.framing.TheConstants.{MAX_LINE}
pub use Rattle.trunk_text.specs.declared.turning.Ended.{Ended}
pub use Rattle.trunk_text.specs.declared.turning.Ended.TheVariants.{Finished, Limit, Memory, ReadFault, Refused, WriteFault}
pub use Rattle.trunk_text.specs.declared.turning.Turn.{Turn}
pub use Rattle.trunk_text.specs.declared.turning.Turn.TheVariants.{Ends, More}
pub use Rattle.trunk_text.specs.declared.unframing.Read.{Read}
pub use Rattle.trunk_text.specs.declared.unframing.Read.TheVariants.{End, Wrong}
pub use Rattle.trunk_text.specs.Numbers.{begins_with_digit, decimal, digit, digits_from, five_digits, is_digit, number}
pub use Rattle.trunk_text.specs.Escapes.{IsSmall, escaped, hex_digit, hex_value, is_control, piece_text, spelled, spelled_from}
pub use Rattle.trunk_text.specs.Lines.{is_arrow, line_of, lone, numbered, piece_of, settle, signed, text_of}
pub use Rattle.trunk_text.specs.Frames.{IsFrame, IsFrameOf, frame_of}
pub use Rattle.trunk_text.specs.Turns.{Breaks, EndsBy, Goes, IsGiven, Loses, Moved, Pair, Turned, TurnsBy, Way}
pub use Rattle.trunk_text.specs.Framing.{Frames, FramesFed, GivesFront, GivesLine, IsBadLine, IsLine, framing, is_bare}
pub use Rattle.trunk_text.specs.Unframing.{GivesSome, GivesText, IsBadFrame, IsCut, TakesFrame, Unframes, header_flaw, says_of, unframing}
pub use Rattle.trunk_text.specs.Laws.{CallsRun, FramesAreTaken, FramesComeBack, IsSound, LinesAreTaken, LinesComeBack, LinesReadBack, PlainComeBack, Reframes, Respells, Runs, reframing, respelling, spelling}
