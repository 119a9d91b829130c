-- What a session that served a trunk took from the source and wrote to the sink.
use Rattle.std.specs.Prelude.{◌≡◌, ◌≢◌, ◌⊎◌, ℕ, List, [], ◌++◌, All, length, drop, Option, None, Some, IfSome}
use Rattle.run_history.specs.declared.answer.Answer.TheVariants as answer
use Rattle.session_history.specs.declared.ends.SessionEnd.TheVariants as session_end
use Rattle.routes.specs.Terms.{Appends, IsDrained, Stream, Took, Prefix, sent_to, Entry, LinkEvent, Coming, Phases, Piece, Refuses, cut_entries, pieces_in, IsRefused, AreFramesOf, frames, piece_frame, AreInOrder, IsFramed, phases_behind, Part, event_at, front, fresh, payload, Answer, SessionEnd, Bounds, passed_in}

-- What was taken behind whole frames, so many bytes of them, and what comes there. Nothing was taken, and what comes is the grammar's
-- at what is left. Or a part of a frame was, and nothing is told of what comes. Or what is refused was, and its refusal comes.
abbrev pub IsBehind : Phases → ℕ → Option Stream → List ℕ → Option Coming → Type 0
IsBehind phases at source tail coming = ((tail ≡ []) × IfSome source (λ stream. coming ≡ Some (event_at phases at stream.left)))
    ⊎ (((front phases tail ≡ Part) × (coming ≡ None)) ⊎ ((kind : ℕ) × IsRefused phases (IsDrained source) kind tail × (coming ≡ Some (Refuses kind at))))

-- The frames of these events were taken, and a tail behind them. No byte of a tail is taken unless a next event was asked for.
pub record TookTrunk (old new : Option Stream) (events : List LinkEvent) (coming : Option Coming) (Asked : Type 0) : Type 0 where
  pub whole : List ℕ
  pub tail : List ℕ
  pub order : AreInOrder fresh events
  pub are : AreFramesOf events whole
  pub took : Took old new (whole ++ tail)
  pub behind : IsBehind (phases_behind events fresh) (length whole) new tail coming
  pub asked : tail ≢ [] → Asked

-- where the source tells its bytes
abbrev pub TakesTrunk : Option Stream → Option Stream → List LinkEvent → Option Coming → Type 0 → Type 0
TakesTrunk None new events coming Asked = Unit {0}
TakesTrunk (Some old) new events coming Asked = TookTrunk (Some old) new events coming Asked

-- the frames of these events were taken, and no byte more
pub record TookWhole (old new : Option Stream) (events : List LinkEvent) : Type 0 where
  pub whole : List ℕ
  pub are : AreFramesOf events whole
  pub took : Took old new whole

-- The frames of these events were taken, and behind them what is refused by this kind, at the offset where they end.
pub record TookRefused (old new : Option Stream) (events : List LinkEvent) (kind offset : ℕ) : Type 0 where
  pub whole : List ℕ
  pub tail : List ℕ
  pub are : AreFramesOf events whole
  pub took : Took old new (whole ++ tail)
  pub refused : IsRefused (phases_behind events fresh) (IsDrained new) kind tail
  pub offset_is : offset ≡ length whole

-- What was taken where a session came to an end: the frames of its events. At Finished no byte is left; at InputRefused what is
-- refused was taken too. At each other end not one byte more was.
abbrev pub StopsAt : Option Stream → Option Stream → List LinkEvent → SessionEnd → Type 0
StopsAt old new events session_end.Finished = TookWhole old new events × IsDrained new
StopsAt old new events (session_end.InputRefused kind offset) = TookRefused old new events kind offset
StopsAt old new events end = TookWhole old new events

-- where the source tells its bytes
abbrev pub StopsTrunk : Option Stream → Option Stream → List LinkEvent → SessionEnd → Type 0
StopsTrunk None new events end = Unit {0}
StopsTrunk (Some old) new events end = StopsAt (Some old) new events end

-- The frames of pieces were written, and behind them a first part of one more, perhaps none of it, perhaps all. What that has of its
-- payload is the last of the pieces; there is none where it has nothing of it.
pub record WroteTrunk (old new : Option (List ℕ)) (pieces : List Piece) : Type 0 where
  pub whole : List Piece
  pub framed : All IsFramed whole
  pub cut : Piece
  pub cut_framed : IsFramed cut
  pub tail : List ℕ
  pub first : Prefix tail (piece_frame cut.conn cut.bytes)
  pub wrote : Appends old new (frames whole ++ tail)
  pub pieces_are : pieces ≡ whole ++ pieces_in (cut_entries cut.conn (drop 5 tail))

-- where the sink tells its bytes
abbrev pub WritesTrunk : Option (List ℕ) → Option (List ℕ) → List Piece → Type 0
WritesTrunk None new pieces = Unit {0}
WritesTrunk (Some old) new pieces = WroteTrunk (Some old) new pieces

-- the frames of these pieces were written, and no byte more
pub record WroteWhole (old new : Option (List ℕ)) (pieces : List Piece) : Type 0 where
  pub framed : All IsFramed pieces
  pub wrote : Appends old new (frames pieces)

-- where the sink tells its bytes
abbrev pub WritesWhole : Option (List ℕ) → Option (List ℕ) → List Piece → Type 0
WritesWhole None new pieces = Unit {0}
WritesWhole (Some old) new pieces = WroteWhole (Some old) new pieces

-- no part of a frame was taken: behind the frames of these events stands no byte, or what is refused
abbrev pub TookNoPart : Option Stream → Option Stream → List LinkEvent → Type 0
TookNoPart old new events = TookWhole old new events ⊎ ((kind : ℕ) × (offset : ℕ) × TookRefused old new events kind offset)

-- where the source tells its bytes
abbrev pub TakesNoPart : Option Stream → Option Stream → List LinkEvent → Type 0
TakesNoPart None new events = Unit {0}
TakesNoPart (Some old) new events = TookNoPart (Some old) new events

-- Where a session was broken off: at a fault of writing no part of a frame was taken, at a fault of reading no part of one was
-- written, at one of the notes neither, and at want of memory not both.
abbrev pub BreaksTrunk : Option Stream → Option Stream → Option (List ℕ) → Option (List ℕ) → List LinkEvent → List Piece → Answer → Type 0
BreaksTrunk source source_later sink sink_later events pieces answer.WriteFault = TakesNoPart source source_later events
BreaksTrunk source source_later sink sink_later events pieces answer.ReadFault = WritesWhole sink sink_later pieces
BreaksTrunk source source_later sink sink_later events pieces answer.FileFault = TakesNoPart source source_later events × WritesWhole sink sink_later pieces
BreaksTrunk source source_later sink sink_later events pieces answer.Memory = TakesNoPart source source_later events ⊎ WritesWhole sink sink_later pieces
BreaksTrunk source source_later sink sink_later events pieces _ = Unit {0}

-- The payload of the bytes that were written, a last frame that is cut short included, is for each connection what was passed to it, behind what it had before.
pub record Carried (bounds : Bounds) (old new : Option (List ℕ)) (entries : List Entry) : Type 0 where
  pub written : List ℕ
  pub wrote : Appends old new written
  pub payload_is : (conn : ℕ) → sent_to conn bounds.before.had ++ payload conn written ≡ sent_to conn (passed_in bounds entries)

-- where the sink tells its bytes
abbrev pub Carries : Bounds → Option (List ℕ) → Option (List ℕ) → List Entry → Type 0
Carries bounds None new entries = Unit {0}
Carries bounds (Some old) new entries = Carried bounds (Some old) new entries
