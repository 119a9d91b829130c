-- What came and went in a session over a trunk.
use Rattle.std.specs.Prelude.{◌≡◌, ◌≢◌, ℕ, List, [], length, Option, None, Some, IfSome, is_some}
use Rattle.session_history.specs.declared.ends.SessionBreak.TheVariants as session_break
use Rattle.routes.specs.Terms.{Stream, Prefix, Coming, Counts, cut_entries, pieces_in, SessionBreak, Stop, Session, after_ending, journal_of, AtBreak, AtEnd, WasAsked, answer_of, events_of, IsWholePiece, Rules}
use Rattle.routes.specs.Trunk.{TakesTrunk, StopsTrunk, WritesTrunk, WritesWhole, BreaksTrunk, Carries, WroteTrunk}

-- how often a source and a sink have failed, as a link over both counts it
abbrev pub trunk_counts : ℕ → ℕ → Counts
trunk_counts source sink = record { takes = source; gives = sink; gones = 0 }

-- The frame that is cut is headed as that of all that was left of one send that was due, behind all that had been passed. What broke off in the account
-- are some first bytes of that, perhaps none.
pub record HeadsDue (rules : Rules) (session : Session) (sink sink_later : Option (List ℕ)) : Type 0 where
  pub wrote : WroteTrunk sink sink_later (pieces_in (journal_of session))
  pub conn : ℕ
  pub bytes : List ℕ
  pub whole : IsWholePiece rules session.survivor.now.state.sends (after_ending session (is_some session.came)) conn bytes
  pub front : List ℕ
  pub first : Prefix front bytes
  pub broken_is : session.broken ≡ cut_entries conn front
  pub conn_is : wrote.cut.conn ≡ conn
  pub length_is : length wrote.cut.bytes ≡ length bytes

-- where the sink tells its bytes
abbrev pub HeadsTrunk : Rules → Session → Option (List ℕ) → Option (List ℕ) → Type 0
HeadsTrunk rules session None new = Unit {0}
HeadsTrunk rules session (Some old) new = HeadsDue rules session (Some old) new

-- so it is at a fault of writing, and at want of memory where a piece broke off
abbrev pub HeadsAt : Rules → Session → Option (List ℕ) → Option (List ℕ) → SessionBreak → Type 0
HeadsAt rules session sink sink_later session_break.ReadFault = Unit {0}
HeadsAt rules session sink sink_later session_break.WriteFault = HeadsTrunk rules session sink sink_later
HeadsAt rules session sink sink_later session_break.FileFault = Unit {0}
HeadsAt rules session sink sink_later session_break.Memory = session.broken ≢ [] → HeadsTrunk rules session sink sink_later

-- The bytes of a session over a trunk, by its account. Those that the source lost are the frames of all events, of those before the session and those of
-- its journal; a part of a frame behind them was asked for; and where the session came to an end, no more was taken than that end says, whatever was answered
-- then. Those that the sink gained are the frames of the journal's pieces, of which a last one may be cut, but not at an end; and for each connection they
-- carry, behind what it had before, what was passed to it. The cut frame's header is that of a send that was due. A frame was broken off on one side at most.
pub record GoesOverTrunk (rules : Rules) (source source_later : Option Stream) (sink sink_later : Option (List ℕ)) (coming : Option Coming) (session : Session) (why : Stop) : Type 0 where
  pub took : TakesTrunk source source_later (events_of rules.bounds (journal_of session)) coming (WasAsked rules session)
  pub stops : IfSome session.came (StopsTrunk source source_later (events_of rules.bounds (journal_of session)))
  pub wrote : WritesTrunk sink sink_later (pieces_in (journal_of session))
  pub wrote_whole : AtEnd why (λ end. WritesWhole sink sink_later (pieces_in (journal_of session)))
  pub breaks : BreaksTrunk source source_later sink sink_later (events_of rules.bounds (journal_of session)) (pieces_in (journal_of session)) (answer_of why)
  pub heads : AtBreak why (HeadsAt rules session sink sink_later)
  pub carried : Carries rules.bounds sink sink_later (journal_of session)
