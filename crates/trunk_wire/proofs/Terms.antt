-- The words and lemmas that this crate's proofs are written in: those of crates below, and its own words.
pub use Rattle.std.proofs.Common.{Bool, Err, IfSome, List, None, Ok, Option, Result, Some, [], ap, append-nil, append_assoc, arith, drop, false, if◌then◌else◌, inl, inr, is_ok, length, length-append, nat_le, nat_lt, not, option_map, refl, rules, subst, suc, sym, take, true, zero, ℕ, ◌&&◌, ◌++◌, ◌+◌, ◌-◌, ◌<◌, ◌==◌, ◌^◌, ◌∙◌, ◌∷◌, ◌≡◌, ◌≤◌}
pub use Rattle.std.proofs.Math.Seq.{drop-length, take-append-add, take-append_seam}
pub use Rattle.std.proofs.lemmas.Bool.{and_parts, cases_lt, eqb-true, le-leb, leb-true, lt-ltb, ltb-true}
pub use Rattle.std.proofs.lemmas.Bool.Decides.{nat_tests}
pub use Rattle.std.proofs.lemmas.List.{drop-append-le, length-take-le, nil_from_length, take-append-drop, take-append-le, take_all}
pub use Rattle.std.proofs.lemmas.List.Elements.{All-cons, All-head, All-nil, All-tail}
pub use Rattle.links.proofs.Growing.{grew_nothing}
pub use Rattle.trunk_wire.specs.Terms.{All, Appends, CONNECTIONS, Closed, Comes, Coming, Cuts, Enters, Entry, Given, Gives, GoesBy, Gone, Grew, IoFault, IsDrained, IsFresh, IsInOrder, LinkEvent, LinkFault, Memory, Nexts, Open, Phase, Phases, Piece, Prefix, ReadFault, Refused, Refuses, Stream, Tells, Took, Unopened, WriteFault, cut_entries, events_in, phases_after, phases_in, pieces_in, with_phase}
pub use Rattle.trunk_wire.specs.declared.header.Header.{Header}
pub use Rattle.trunk_wire.specs.declared.header.TheConstants.{BYTES, CLOSE, OPEN, SETTLE}
pub use Rattle.trunk_wire.specs.declared.refusal.Refusal.{Refusal}
pub use Rattle.trunk_wire.specs.Frames.{FitsTwoBytes, IsFrame, IsFrameOf, frame, frames, from_two_bytes, header_bytes, header_of, high_byte, low_byte, piece_frame}
pub use Rattle.trunk_wire.specs.Grammar.{Bad, Part, Whole, coming_of, event_at, event_of, front, front_accepted, front_behind, front_by, header_refusal, is_extra, is_known, is_not_open, is_reopened}
pub use Rattle.trunk_wire.specs.Parts.{Progress, Reader, last_bytes, put_byte, put_bytes, put_part}
pub use Rattle.trunk_wire.specs.Pieces.{cut_piece, event_reader, events, fresh, piece_reader, pieces, read_from, whole_event, whole_piece, written}
pub use Rattle.trunk_wire.specs.Calls.{Behind, Brings, HasOffset, IsRefused, Reads, TakesBy, Writes, WritesAll, WritesBy, count_after, read_fault, write_fault}
pub use Rattle.trunk_wire.specs.CallLaws.{count_nothing, reads_more, reads_nothing, writes_more}
pub use Rattle.trunk_wire.specs.Tellings.{is_empty, is_in_step, is_whole, refusal_in, same_phase, told_coming, told_events, told_nothing, told_pieces, trunk_told}
unfoldable pub use Rattle.trunk_wire.specs.Tellings.{same_phases}
pub use Rattle.trunk_wire.specs.Going.{Intake, IsCut, IsFramed, IsTail, Output, TookFrames, WroteFrames}
pub use Rattle.trunk_wire.specs.TrunkLinks.{intake_of, output_of}
pub use Rattle.trunk_wire.specs.GoingLaws.{gives_same, takes_same}
