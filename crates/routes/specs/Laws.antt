-- What holds of a session over a trunk, and of a replay of its record over the same bytes.
use Rattle.std.specs.Prelude.{◌≡◌, ℕ, ◌≤◌, List, Option, Some, Result, Ok, Err}
use Rattle.run_history.specs.declared.answer.Answer.TheVariants as answer
use Rattle.routes.specs.Terms.{Stream, Image, Answer, Bounds, Rules, Noted, Keeping, Recorded, VERSION, IsRecord, text_of, Outcome, HasSession, bounds_of}
use Rattle.routes.specs.Serving.{Serves, Trunk}
use Rattle.routes.specs.Replaying.{ReplaysTrunk, WritesSends}
use Rattle.routes.specs.Converting.{ConvertsTrunk, converted}

-- a session receives no more items and no more events than a replay may
pub record IsWithin (session replay : Bounds) : Type 0 where
  pub items : session.max_items ≤ replay.max_items
  pub events : session.max_events ≤ replay.max_events

-- a replay came to its record's end, or reading or writing failed, or memory ran out
abbrev pub IsAsRecorded : Answer → Type 0
IsAsRecorded answer.Finished = Unit {0}
IsAsRecorded answer.ReadFault = Unit {0}
IsAsRecorded answer.WriteFault = Unit {0}
IsAsRecorded answer.Memory = Unit {0}
IsAsRecorded _ = ⊥

-- The record of a session is replayed over the bytes that the session had. No answer says that the run doesn't go on as recorded, nor that the
-- input is refused. At Finished the frames of the sends of the session's run were written, and no byte more.
abbrev pub SameBytesAreReplayed : Type 0
SameBytesAreReplayed =
    (rules : Rules) (keeping : Keeping) (image : Image) (input again : Stream) (input_later again_later : Option Stream) (output output_later written written_later : Option (List ℕ)) (outcome : Outcome) (answered : Answer)
    (noted_before noted_now : Noted) (counted counted_again : ℕ) (recorded : Recorded)
    (served : Serves (Trunk (Some input) input_later output output_later) rules keeping image outcome noted_before noted_now counted)
    (replayed : ReplaysTrunk image recorded (Some again) again_later written written_later answered counted_again) →
    HasSession rules served.telling.account recorded → IsWithin rules.bounds (bounds_of recorded) → again.left ≡ input.left →
    IsAsRecorded answered × (answered ≡ answer.Finished → WritesSends written written_later served.telling.account.survivor.now.state.sends)

-- A record of version 2 is converted to its own text.
abbrev pub ConvertsToItself : Type 0
ConvertsToItself =
    (image : Image) (recorded : Recorded) (source source_later : Option Stream) (text : List ℕ) (counted : ℕ) →
    ConvertsTrunk image recorded source source_later (Ok text) counted → IsRecord recorded → recorded.version ≡ VERSION → text ≡ text_of recorded

-- a conversion answers a text; or reading failed, or memory ran out
abbrev pub IsConverted : Result (List ℕ) Answer → Type 0
IsConverted (Ok text) = Unit {0}
IsConverted (Err answer.ReadFault) = Unit {0}
IsConverted (Err answer.Memory) = Unit {0}
IsConverted (Err _) = ⊥

-- A session's record, in either version, is converted over the bytes that the session had to the text of the session's run, with what it asked of
-- the allocator. Each other answer is a fault of reading, or want of memory.
abbrev pub SessionIsConverted : Type 0
SessionIsConverted =
    (rules : Rules) (keeping : Keeping) (image : Image) (input again : Stream) (input_later again_later : Option Stream) (output output_later : Option (List ℕ)) (outcome : Outcome) (result : Result (List ℕ) Answer)
    (noted_before noted_now : Noted) (counted counted_again : ℕ) (recorded : Recorded)
    (served : Serves (Trunk (Some input) input_later output output_later) rules keeping image outcome noted_before noted_now counted)
    (converts : ConvertsTrunk image recorded (Some again) again_later result counted_again) →
    HasSession rules served.telling.account recorded → IsWithin rules.bounds (bounds_of recorded) → again.left ≡ input.left →
    IsConverted result × ((text : List ℕ) → result ≡ Ok text → text ≡ converted recorded served.telling.account.survivor.now.choices)
