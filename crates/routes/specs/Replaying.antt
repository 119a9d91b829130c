-- What a replay over a trunk leaves: the bytes that its source lost, and those that its sink gained.
use Rattle.std.specs.Prelude.{◌≡◌, ℕ, List, length, map, false, Option, None, Some}
use Rattle.run_history.specs.declared.answer.Answer.TheVariants as answer
use Rattle.routes.specs.Terms.{Appends, IsDrained, Stream, Prefix, Send, Entry, Coming, HasEnded, Piece, events_in, pieces_in, frames, Image, Answer, Run, items_in, Recorded, Difference, TellsDifference, piece_of, AreAsked, AreOfLines, EndsBy, IsAsking, IsReplay, Replay, bounds_of}
use Rattle.routes.specs.Trunk.{TakesTrunk, TookWhole, TookRefused, WritesTrunk, BreaksTrunk}

-- each send as one whole piece
abbrev pub sent_pieces : List Send → List Piece
sent_pieces sends = map (λ (send : Send). piece_of send.conn send.bytes false) sends

-- the frames of these sends were written, and no byte more, where the sink tells its bytes
abbrev pub WritesSends : Option (List ℕ) → Option (List ℕ) → List Send → Type 0
WritesSends None new sends = Unit {0}
WritesSends (Some old) new sends = Appends (Some old) new (frames (sent_pieces sends))

-- a first part of these bytes was written, perhaps none of them, perhaps all, where the sink tells its bytes
abbrev pub WritesFirst : Option (List ℕ) → Option (List ℕ) → List ℕ → Type 0
WritesFirst None new bytes = Unit {0}
WritesFirst (Some old) new bytes = (written : List ℕ) × Prefix written bytes × Appends (Some old) new written

-- what was written is a first part of the frames of these sends
abbrev pub WritesFront : Option (List ℕ) → Option (List ℕ) → List Send → Type 0
WritesFront old new sends = WritesFirst old new (frames (sent_pieces sends))

-- What was written where a replay has ended: the frames of the sends of its run. At a fault of writing and want of memory it is a first part of
-- them, and so of no other frame.
abbrev pub WritesReplay : Option (List ℕ) → Option (List ℕ) → List Send → Answer → Type 0
WritesReplay old new sends answer.WriteFault = WritesFront old new sends
WritesReplay old new sends answer.Memory = WritesFront old new sends
WritesReplay old new sends end = WritesSends old new sends

-- What was taken there: the frames of events. At a refusal what is refused was taken too; at a fault of reading and want of memory perhaps a part of
-- one frame more. At each other answer not one byte more was. At Mismatch no byte is left where the link has ended.
abbrev pub TookReplay : Option Stream → Option Stream → List Entry → Answer → Type 0
TookReplay old new entries (answer.Mismatch step) = TookWhole old new (events_in entries) × (HasEnded entries → IsDrained new)
TookReplay old new entries (answer.InputRefused kind offset) = TookRefused old new (events_in entries) kind offset
TookReplay old new entries answer.ReadFault = Unit {0}
TookReplay old new entries answer.Memory = Unit {0}
TookReplay old new entries end = TookWhole old new (events_in entries)

-- where the source tells its bytes
abbrev pub TakesReplay : Option Stream → Option Stream → List Entry → Answer → Type 0
TakesReplay None new entries end = Unit {0}
TakesReplay (Some old) new entries end = TookReplay (Some old) new entries end

-- at Finished there is the whole run that the record tells of, with an answer of the allocator for each of its lines
abbrev pub IsRecordedRun : Image → Recorded → List Entry → Replay → Answer → Type 0
IsRecordedRun image recorded entries replay answer.Finished =
    Run image (items_in (bounds_of recorded) entries) replay.choices recorded.steps replay.state × AreOfLines recorded.lines replay.choices
    × (length replay.choices ≡ length recorded.lines) × (replay.state.machine.taken ≡ recorded.taken)
IsRecordedRun image recorded entries replay end = Unit {0}

-- What a replay leaves that was done over a source and a sink: one account of it, what stands behind its answer, and its count of instructions. The bytes
-- that the source lost are the frames of the account's events; a part of one more frame was asked for by the run. Those that the sink gained are
-- the frames of its pieces, of which a last one may be cut; and they are the frames of its sends, or at a fault of writing and want of memory a first
-- part of these. A frame was broken off on one side at most.
pub record ReplaysTrunk (image : Image) (recorded : Recorded) (source source_later : Option Stream) (sink sink_later : Option (List ℕ)) (end : Answer) (counted : ℕ) : Type 0 where
  pub entries : List Entry
  pub replay : Replay
  pub coming : Option Coming
  pub asked : AreAsked image recorded entries
  pub is : IsReplay image recorded entries replay
  pub ends : EndsBy image recorded entries coming replay end
  pub whole : IsRecordedRun image recorded entries replay end
  pub all_counted : replay.steps ≡ counted
  pub took : TakesTrunk source source_later (events_in entries) coming (IsAsking image recorded entries replay)
  pub takes : TakesReplay source source_later entries end
  pub wrote : WritesTrunk sink sink_later (pieces_in entries)
  pub writes : WritesReplay sink sink_later replay.state.sends end
  pub breaks : BreaksTrunk source source_later sink sink_later (events_in entries) (pieces_in entries) end

-- The same, and what differs from the record.
pub record ComparesTrunk (image : Image) (recorded : Recorded) (source source_later : Option Stream) (sink sink_later : Option (List ℕ)) (end : Answer) (found : Option Difference) (counted : ℕ) : Type 0 where
  pub replays : ReplaysTrunk image recorded source source_later sink sink_later end counted
  pub differs : TellsDifference recorded replays.entries replays.replay end found
