-- A recorded run that is followed over a trunk, and served on: the bytes that the source lost, and those that the sink gained.
use Rattle.std.specs.Prelude.{◌≡◌, ℕ, ◌+◌, ◌≤◌, List, [], ◌++◌, length, Option, None, Some, Result, Ok, Err}
use Rattle.counts_file.specs.Counts.{count_of}
use Rattle.run_history.specs.declared.answer.Answer.TheVariants as answer
use Rattle.standby.specs.Serving.{EndsBy}
use Rattle.standby.specs.declared.following.Unfollowed.{Unfollowed}
use Rattle.routes.specs.Terms.{Appends, IsDrained, Stream, Send, sent_to, Entry, LinkEvent, Coming, Piece, events_in, pieces_in, IsFreshLink, Seen, Choice, TrunkLink, given_to, payload, told_nothing, seen_of, told_of, Image, Answer, Path, items_in, Recorded, Difference, TellsDifference, IsReplay, Replay, bounds_of, Follower, AreFollowed, BreaksBy, HasCaughtUp, WasFollowed, AllGiven, PartGiven, AreServed, AreTold, IsFollowed, WasServed}
use Rattle.routes.specs.Trunk.{TakesTrunk, TookWhole, TookRefused, WritesTrunk, WritesWhole, BreaksTrunk}
use Rattle.routes.specs.Replaying.{IsRecordedRun}

-- a trunk of which no call was made yet
pub record IsNewTrunk {S K : Type 0} (source_told : S → Option Stream) (source_faults : S → ℕ) (sink_told : K → Option (List ℕ)) (sink_faults : K → ℕ) (link : TrunkLink S K) : Type 0 where
  pub shows : IsFreshLink (seen_of source_told source_faults sink_told sink_faults link)
  pub took : link.took ≡ 0
  pub wrote : link.wrote ≡ 0
  pub told : told_of source_told sink_told link ≡ told_nothing (source_told link.source) (sink_told link.sink)

-- ---- a record is followed

-- the frames of these events were taken, and no byte more, where the source tells its bytes
abbrev pub TakesWhole : Option Stream → Option Stream → List LinkEvent → Type 0
TakesWhole None new events = Unit {0}
TakesWhole (Some old) new events = TookWhole (Some old) new events

-- What was taken where following broke off: the frames of the events. At a refusal what is refused was taken too; at a fault of reading and want of memory
-- perhaps a part of one frame more. At each other answer not one byte more was.
abbrev pub TookFollowed : Option Stream → Option Stream → List LinkEvent → Answer → Type 0
TookFollowed old new events (answer.InputRefused kind offset) = TookRefused old new events kind offset
TookFollowed old new events answer.ReadFault = Unit {0}
TookFollowed old new events answer.Memory = Unit {0}
TookFollowed old new events end = TookWhole old new events

-- where the source tells its bytes
abbrev pub TakesFollowed : Option Stream → Option Stream → List LinkEvent → Answer → Type 0
TakesFollowed None new events end = Unit {0}
TakesFollowed (Some old) new events end = TookFollowed (Some old) new events end

-- A record was followed to its end: its whole run, by one account of events. The source lost their frames and no byte more, and the sink gained none.
pub record FollowsTrunk (image : Image) (recorded : Recorded) (source source_later : Option Stream) (sink sink_later : Option (List ℕ)) (entries : List Entry) (sends : List Send) : Type 0 where
  pub replay : Replay
  pub asked : AreFollowed image recorded entries
  pub is : IsReplay image recorded entries replay
  pub whole : IsRecordedRun image recorded entries replay answer.Finished
  pub sends_are : replay.state.sends ≡ sends
  pub takes : TakesWhole source source_later (events_in entries)
  pub wrote : WritesWhole sink sink_later []

-- Following broke off: the recorded run so far, by one account of events, and what differs at Mismatch. The bytes that the source lost are the frames
-- of the events; a part of one more frame was asked for by the run. The sink gained none.
pub record BreaksOffTrunk (image : Image) (recorded : Recorded) (source source_later : Option Stream) (sink sink_later : Option (List ℕ)) (end : Answer) (found : Option Difference) (counted : ℕ) : Type 0 where
  pub entries : List Entry
  pub replay : Replay
  pub seen : Seen
  pub asked : AreFollowed image recorded entries
  pub is : IsReplay image recorded entries replay
  pub ends : BreaksBy image recorded seen entries replay end
  pub differs : TellsDifference recorded entries replay end found
  pub all_counted : replay.steps ≡ counted
  pub took : TakesTrunk source source_later (events_in entries) seen.coming (WasFollowed image recorded entries)
  pub takes : TakesFollowed source source_later (events_in entries) end
  pub wrote : WritesWhole sink sink_later []

-- a follower stands at the record's end over a trunk, as the link shows it, and as the bytes do
pub record IsUpTrunk {S K : Type 0} (source_told : S → Option Stream) (source_faults : S → ℕ) (sink_told : K → Option (List ℕ)) (sink_faults : K → ℕ) (image : Image) (recorded : Recorded) (made link : TrunkLink S K) (follower : Follower) : Type 0 where
  pub up : HasCaughtUp image recorded (told_of source_told sink_told made) (seen_of source_told source_faults sink_told sink_faults link) follower
  pub follows : FollowsTrunk image recorded (source_told made.source) (source_told link.source) (sink_told made.sink) (sink_told link.sink) up.entries up.sends

-- what following leaves, by its answer
abbrev pub CatchesUpTrunk : {S K : Type 0} → (S → Option Stream) → (S → ℕ) → (K → Option (List ℕ)) → (K → ℕ) → Image → Recorded → TrunkLink S K → TrunkLink S K → ℕ → ℕ → Result Follower Unfollowed → Type 0
CatchesUpTrunk source_told source_faults sink_told sink_faults image recorded made link before after (Ok follower) =
    IsUpTrunk source_told source_faults sink_told sink_faults image recorded made link follower × (after ≡ before + recorded.steps)
CatchesUpTrunk source_told source_faults sink_told sink_faults image recorded made link before after (Err broken) =
    (counted : ℕ) → after ≡ before + counted → BreaksOffTrunk image recorded (source_told made.source) (source_told link.source) (sink_told made.sink) (sink_told link.sink) broken.answer broken.difference counted

-- ---- and served on

-- What was taken where serving has ended: as where following broke off, and at Finished no byte is left.
abbrev pub TookServed : Option Stream → Option Stream → List LinkEvent → Answer → Type 0
TookServed old new events answer.Finished = TookWhole old new events × IsDrained new
TookServed old new events end = TookFollowed old new events end

-- where the source tells its bytes
abbrev pub TakesServed : Option Stream → Option Stream → List LinkEvent → Answer → Type 0
TakesServed None new events end = Unit {0}
TakesServed (Some old) new events end = TookServed (Some old) new events end

-- the payload of the bytes that were written, a last frame that is cut short included, is for each connection what some pieces have for it
pub record CarriedPieces (old new : Option (List ℕ)) (pieces : List Piece) : Type 0 where
  pub written : List ℕ
  pub wrote : Appends old new written
  pub payload_is : (conn : ℕ) → payload conn written ≡ given_to conn pieces

-- where the sink tells its bytes
abbrev pub CarriesPieces : Option (List ℕ) → Option (List ℕ) → List Piece → Type 0
CarriesPieces None new pieces = Unit {0}
CarriesPieces (Some old) new pieces = CarriedPieces (Some old) new pieces

-- What is left of a record that was followed over a trunk, and then served on: one run, which followed the record, by one account whose first entries came
-- while it did; its answers of the allocator, instructions and items; and what stands behind its answer. The bytes that the source lost are the frames of the
-- account's events; a part of one more was asked for by the run. Those that the sink gained are the frames of its pieces, of which a last one may be cut.
-- These are what clients missed where the record ended, and each send of the run since; no client has more by its count than the recorded run sent. A frame
-- was broken off on one side at most.
pub record ServesOnTrunk (image : Image) (recorded : Recorded) (budget : ℕ) (counts : List (ℕ × ℕ)) (from : List Entry) (source source_later : Option Stream) (sink sink_later : Option (List ℕ)) (end : Answer) (choices : List Choice) (steps taken : ℕ) : Type 0 where
  pub entries : List Entry
  pub since : List Entry
  pub path : Path
  pub coming : Option Coming
  pub behind : entries ≡ from ++ since
  pub followed : IsFollowed image recorded budget (items_in (bounds_of recorded) entries) path
  pub few : (conn : ℕ) → count_of counts conn ≤ length (sent_to conn followed.seam.state.sends)
  pub choices_are : AreTold end choices path.choices
  pub steps_are : steps ≡ path.steps
  pub taken_are : taken ≡ path.state.machine.taken
  pub asked : AreServed image recorded budget counts from entries
  pub ends : EndsBy recorded budget entries path coming (AllGiven counts (events_in from) followed.seam path (pieces_in entries)) (WasServed image recorded budget counts from entries) end
  pub took : TakesTrunk source source_later (events_in entries) coming (WasServed image recorded budget counts from entries)
  pub takes : TakesServed source source_later (events_in entries) end
  pub wrote : WritesTrunk sink sink_later (pieces_in entries)
  pub given : PartGiven counts (events_in from) followed.seam path (pieces_in entries)
  pub carries : CarriesPieces sink sink_later (pieces_in entries)
  pub breaks : BreaksTrunk source source_later sink sink_later (events_in entries) (pieces_in entries) end
