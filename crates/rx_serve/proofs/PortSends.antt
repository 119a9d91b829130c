-- At an end of a session over a port without a recovery the gives took all that its run sends.
use Rattle.std.proofs.Common.{◌==◌, if◌then◌else◌}
use Rattle.links.specs.declared.journal.Entry.TheVariants as entry
use Rattle.session_history.specs.declared.ends.SessionBreak.TheVariants as session_break
use Rattle.session_history.specs.declared.ends.Stop.TheVariants as stop
use Rattle.session_history.specs.Ends.{EndsBy}
use Rattle.links.proofs.Moved.{gave}
use Rattle.routes.proofs.PortCallLemmas.{given_is}
use Rattle.rx_serve.proofs.Terms.{List, Some, [], ap, false, map, refl, subst, sym, ℕ, ◌++◌, ◌∙◌, ◌∷◌, ◌≡◌, flat_map, Send, sent_to, Entry, ComesUntold, Piece, events_in, pieces_in, PortEntry, PortLimits, Image, output, Stop, at_its_end, Session, journal_of, OpensOnce, PassesAtOnce, SentIsPassed, piece_of, IsEnd, IsEnded, OwesNothingAtEnd, answer_of, nothing_before, Rules, is_gone, CalledPort, given_to}
use Rattle.rx_serve.proofs.PortOrder.{opens_once}

abbrev piece_for : ℕ → Piece → List ℕ
piece_for conn piece = if piece.conn == conn then piece.bytes else []

gave_pieces : (conn : ℕ) (entries : List Entry) → gave conn entries ≡ flat_map (piece_for conn) (pieces_in entries)
gave_pieces conn [] = refl
gave_pieces conn (entry.Took event ∷ entries) = gave_pieces conn entries
gave_pieces conn (entry.Gave to bytes gone ∷ entries) = ap (λ (l : List ℕ). (if to == conn then bytes else []) ++ l) (gave_pieces conn entries)

sends_pieces : (conn : ℕ) (sends : List Send) → flat_map (piece_for conn) (map piece_of sends) ≡ sent_to conn sends
sends_pieces conn [] = refl
sends_pieces conn (send ∷ sends) = ap (λ (l : List ℕ). (if send.conn == conn then send.bytes else []) ++ l) (sends_pieces conn sends)

-- at an end nothing is owed
at_end : (rules : Rules) (session : Session) (why : Stop) → IsEnd (answer_of why) → EndsBy rules session why → OwesNothingAtEnd rules session × (session.broken ≡ [])
at_end rules session (stop.Ends end) is ends = let its = at_its_end rules session end ends in (its.owes_nothing, its.unbroken)
at_end rules session (stop.Breaks session_break.ReadFault) is ends = absurd is
at_end rules session (stop.Breaks session_break.WriteFault) is ends = absurd is
at_end rules session (stop.Breaks session_break.FileFault) is ends = absurd is
at_end rules session (stop.Breaks session_break.Memory) is ends = absurd is

-- what pieces gave of a session whose journal opens each connection once
all_passed : SentIsPassed → (rules : Rules) (image : Image) (why : Stop) (session : Session) → OpensOnce (events_in (journal_of session)) → rules.bounds.before ≡ nothing_before → IsEnd (answer_of why) → IsEnded rules image (Some ComesUntold) session why → rules.hold ≡ 0 → session.earlier ≡ []
    → ((conn : ℕ) → is_gone conn (journal_of session) ≡ false) → (conn : ℕ) → gave conn (journal_of session) ≡ output session.survivor.now.state conn
all_passed law rules image why session once alone end is holds first none conn =
    gave_pieces conn (journal_of session) ∙ ap (λ (pieces : List Piece). flat_map (piece_for conn) pieces) (law rules image session passes) ∙ sends_pieces conn session.survivor.now.state.sends
  where
    passes : PassesAtOnce rules image session
    passes =
        let ended = at_end rules session why end is.ends in
        record {
          account = is.account;
          alone = alone;
          first = first;
          given = is.pieces;
          unbroken = ended.1;
          owes_nothing = ended.0;
          holds_nothing = holds;
          none_gone = none;
          opens_once = once;
        }

pub all_given : SentIsPassed → (limits : PortLimits) (rules : Rules) (image : Image) (why : Stop) (old new : List PortEntry) (session : Session) (called : CalledPort limits rules old new session)
    → rules.bounds.before ≡ nothing_before → IsEnd (answer_of why) → IsEnded rules image (Some ComesUntold) session why → rules.hold ≡ 0 → session.earlier ≡ [] → ((conn : ℕ) → is_gone conn (journal_of session) ≡ false)
    → (conn : ℕ) → given_to conn called.calls ≡ output session.survivor.now.state conn
all_given law limits rules image why old new session called alone end is holds first none conn =
    given_is limits conn called.made.ends called.calls called.are ∙ ap (gave conn) (sym called.made.entries_are) ∙ all_passed law rules image why session once alone end is holds first none conn
  where
    once : OpensOnce (events_in (journal_of session))
    once = subst (λ (entries : List Entry). OpensOnce (events_in entries)) (sym called.made.entries_are) (opens_once limits called.made.ends called.calls called.are)
