-- Each end has a cause of its own.
use Rattle.links.specs.declared.journal.Entry.TheVariants as entry
use Rattle.links.specs.declared.journal.LinkEvent.TheVariants as event
use Rattle.session_history.proofs.Terms.{List, Option, Some, [], ap, refl, subst, sym, ℕ, ◌++◌, ◌∙◌, ◌∷◌, ◌≡◌, ◌≢◌, same_from_push, none-some, same_Some, unwrap_or, Entry, LinkEvent, Comes, ComesUntold, Coming, HasEnded, IsNext, Refuses, last_taken, IsPieceOf, Fails, Wants, FailsBy, SessionEnd, Bounds, Unheeded, events_of, refusal, Rules, Survivor, IsLastRefused, IsLastTooLong, IsWaiting, StandsAt, OneEnd}
use Rattle.session_history.specs.declared.ends.SessionEnd.TheVariants as session_end
use Rattle.run_history.specs.declared.answer.Cause.{Cause}
use Rattle.session_history.specs.Heeding as unheeded
use Rattle.session_history.proofs.Refused.{none_refused}

same_event : (one other : LinkEvent) → entry.Took one ≡ entry.Took other → one ≡ other
same_event one other same = cc

-- the last event is one event
last_event : (bounds : Bounds) (entries : List Entry) (cause because : Unheeded) (one : IsLastRefused bounds entries cause) (other : IsLastRefused bounds entries because) → one.event ≡ other.event
last_event bounds entries cause because one other =
    same_event one.event other.event (same_from_push one.before other.before (entry.Took one.event) (entry.Took other.event) (sym one.last ∙ other.last)).1

-- it is refused for one cause
one_cause : (bounds : Bounds) (entries : List Entry) (cause because : Unheeded) → IsLastRefused bounds entries cause → IsLastRefused bounds entries because → cause ≡ because
one_cause bounds entries cause because one other =
    let before = (same_from_push one.before other.before (entry.Took one.event) (entry.Took other.event) (sym one.last ∙ other.last)).0 in
    same_Some cause because
    (sym one.refused ∙ ap (λ es. refusal bounds (events_of bounds es) one.event) before ∙ ap (refusal bounds (events_of bounds other.before)) (last_event bounds entries cause because one other) ∙ other.refused)

one_piece : (event : LinkEvent) (conn of : ℕ) → IsPieceOf event conn → IsPieceOf event of → conn ≡ of
one_piece (event.Piece to bytes) conn of one other = sym one ∙ other
one_piece (event.Opens to) conn of one other = absurd one
one_piece (event.Closes to) conn of one other = absurd one
one_piece event.Settles conn of one other = absurd one
one_piece event.Ends conn of one other = absurd one

one_long : (bounds : Bounds) (entries : List Entry) (conn of : ℕ) → IsLastTooLong bounds entries conn → IsLastTooLong bounds entries of → conn ≡ of
one_long bounds entries conn of one other =
    one_piece other.refused.event conn of (subst (λ e. IsPieceOf e conn) (last_event bounds entries unheeded.TooLong unheeded.TooLong one.refused other.refused) one.piece) other.piece

-- a survivor that waits hasn't ended itself, and doesn't fail
no_exit : (rules : Rules) (entries : List Entry) (survivor : Survivor) (code : ℕ) → IsWaiting rules entries survivor → survivor.now.state.ended ≡ Some code → ⊥
no_exit rules entries survivor code waits ended = none-some code (sym waits.lives ∙ ended)

no_failure : (rules : Rules) (entries : List Entry) (survivor : Survivor) (cause : Cause) → IsWaiting rules entries survivor → FailsBy rules.limits survivor.plan survivor.now cause → ⊥
no_failure rules entries survivor cause waits fails = let h : Wants ≡ Fails cause = sym waits.asks ∙ fails.fails in cc

same_failure : (cause because : Cause) → Fails cause ≡ Fails because → cause ≡ because
same_failure cause because same = cc

same_refusal : (kind of offset place : ℕ) → Refuses kind offset ≡ Refuses of place → session_end.InputRefused kind offset ≡ session_end.InputRefused of place
same_refusal kind of offset place same = cc

-- a link that refuses tells so, and nothing else comes
not_untold : (kind offset : ℕ) → Refuses kind offset ≢ ComesUntold
not_untold kind offset same = cc

no_coming : (next : Coming) (kind offset : ℕ) → IsNext next event.Ends → next ≡ Refuses kind offset → ⊥
no_coming next kind offset one other =
    let h : Comes event.Ends ≡ Refuses kind offset = sym (one (λ untold. not_untold kind offset (sym other ∙ untold))) ∙ other in cc

no_items : unheeded.TooLong ≡ unheeded.LimitItems → ⊥
no_items h = cc

no_events : unheeded.TooLong ≡ unheeded.LimitEvents → ⊥
no_events h = cc

no_both : unheeded.LimitItems ≡ unheeded.LimitEvents → ⊥
no_both h = cc

-- behind Ends no event was refused last
pub last_taken-append : (entries : List Entry) (event : LinkEvent) → last_taken (entries ++ entry.Took event ∷ []) ≡ Some event
last_taken-append [] event = refl
last_taken-append (entry.Gave conn bytes gone ∷ entries) event = last_taken-append entries event
last_taken-append (entry.Took first ∷ entries) event = ap (λ (found : Option LinkEvent). Some (unwrap_or found first)) (last_taken-append entries event)

not_ended : {bounds : Bounds} {entries : List Entry} → HasEnded entries → (cause : Unheeded) → IsLastRefused bounds entries cause → ⊥
not_ended ended cause last = last.no_end (same_Some last.event event.Ends (sym (ap last_taken last.last ∙ last_taken-append last.before last.event) ∙ ended))

-- an end, and any other
module _ (rules : Rules) (entries : List Entry) (next : Coming) (survivor : Survivor) where
  finished : (other : SessionEnd) → StandsAt rules entries (Some next) survivor session_end.Finished → StandsAt rules entries (Some next) survivor other → session_end.Finished ≡ other
  finished session_end.Finished one stands = refl
  finished (session_end.Exited code) one stands = absurd (no_exit rules entries survivor code one.0 stands)
  finished (session_end.GaveUp point cause) one stands = absurd (no_failure rules entries survivor cause one.0 stands.0)
  finished (session_end.InputRefused kind offset) one stands = absurd (no_coming next kind offset one.2 stands.2)
  finished (session_end.MessageTooLong conn) one stands = absurd (not_ended one.1 unheeded.TooLong stands.1.refused)
  finished session_end.LimitItems one stands = absurd (not_ended one.1 unheeded.LimitItems stands.1)
  finished session_end.LimitEvents one stands = absurd (not_ended one.1 unheeded.LimitEvents stands.1)

  exited : (code : ℕ) (other : SessionEnd) → StandsAt rules entries (Some next) survivor (session_end.Exited code) → StandsAt rules entries (Some next) survivor other → session_end.Exited code ≡ other
  exited code session_end.Finished one stands = absurd (no_exit rules entries survivor code stands.0 one)
  exited code (session_end.Exited other) one stands = ap session_end.Exited (same_Some code other (sym one ∙ stands))
  exited code (session_end.GaveUp point cause) one stands = absurd (none-some code (sym stands.0.lives ∙ one))
  exited code (session_end.InputRefused kind offset) one stands = absurd (no_exit rules entries survivor code stands.0 one)
  exited code (session_end.MessageTooLong conn) one stands = absurd (no_exit rules entries survivor code stands.0 one)
  exited code session_end.LimitItems one stands = absurd (no_exit rules entries survivor code stands.0 one)
  exited code session_end.LimitEvents one stands = absurd (no_exit rules entries survivor code stands.0 one)

  gave_up : (point : ℕ) (cause : Cause) (other : SessionEnd) → StandsAt rules entries (Some next) survivor (session_end.GaveUp point cause) → StandsAt rules entries (Some next) survivor other → session_end.GaveUp point cause ≡ other
  gave_up point cause session_end.Finished one stands = absurd (no_failure rules entries survivor cause stands.0 one.0)
  gave_up point cause (session_end.Exited code) one stands = absurd (none-some code (sym one.0.lives ∙ stands))
  gave_up point cause (session_end.GaveUp place because) one stands =
      ap (λ n. session_end.GaveUp n cause) (sym one.1 ∙ stands.1) ∙ ap (session_end.GaveUp place) (same_failure cause because (sym one.0.fails ∙ stands.0.fails))
  gave_up point cause (session_end.InputRefused kind offset) one stands = absurd (no_failure rules entries survivor cause stands.0 one.0)
  gave_up point cause (session_end.MessageTooLong conn) one stands = absurd (no_failure rules entries survivor cause stands.0 one.0)
  gave_up point cause session_end.LimitItems one stands = absurd (no_failure rules entries survivor cause stands.0 one.0)
  gave_up point cause session_end.LimitEvents one stands = absurd (no_failure rules entries survivor cause stands.0 one.0)

  refused : (kind offset : ℕ) (other : SessionEnd) → StandsAt rules entries (Some next) survivor (session_end.InputRefused kind offset) → StandsAt rules entries (Some next) survivor other → session_end.InputRefused kind offset ≡ other
  refused kind offset session_end.Finished one stands = absurd (no_coming next kind offset stands.2 one.2)
  refused kind offset (session_end.Exited code) one stands = absurd (no_exit rules entries survivor code one.0 stands)
  refused kind offset (session_end.GaveUp point cause) one stands = absurd (no_failure rules entries survivor cause one.0 stands.0)
  refused kind offset (session_end.InputRefused of place) one stands = same_refusal kind of offset place (sym one.2 ∙ stands.2)
  refused kind offset (session_end.MessageTooLong conn) one stands = absurd (none_refused rules.bounds entries unheeded.TooLong one.1 stands.1.refused)
  refused kind offset session_end.LimitItems one stands = absurd (none_refused rules.bounds entries unheeded.LimitItems one.1 stands.1)
  refused kind offset session_end.LimitEvents one stands = absurd (none_refused rules.bounds entries unheeded.LimitEvents one.1 stands.1)

  too_long : (conn : ℕ) (other : SessionEnd) → StandsAt rules entries (Some next) survivor (session_end.MessageTooLong conn) → StandsAt rules entries (Some next) survivor other → session_end.MessageTooLong conn ≡ other
  too_long conn session_end.Finished one stands = absurd (not_ended stands.1 unheeded.TooLong one.1.refused)
  too_long conn (session_end.Exited code) one stands = absurd (no_exit rules entries survivor code one.0 stands)
  too_long conn (session_end.GaveUp point cause) one stands = absurd (no_failure rules entries survivor cause one.0 stands.0)
  too_long conn (session_end.InputRefused kind offset) one stands = absurd (none_refused rules.bounds entries unheeded.TooLong stands.1 one.1.refused)
  too_long conn (session_end.MessageTooLong of) one stands = ap session_end.MessageTooLong (one_long rules.bounds entries conn of one.1 stands.1)
  too_long conn session_end.LimitItems one stands = absurd (no_items (one_cause rules.bounds entries unheeded.TooLong unheeded.LimitItems one.1.refused stands.1))
  too_long conn session_end.LimitEvents one stands = absurd (no_events (one_cause rules.bounds entries unheeded.TooLong unheeded.LimitEvents one.1.refused stands.1))

  most_items : (other : SessionEnd) → StandsAt rules entries (Some next) survivor session_end.LimitItems → StandsAt rules entries (Some next) survivor other → session_end.LimitItems ≡ other
  most_items session_end.Finished one stands = absurd (not_ended stands.1 unheeded.LimitItems one.1)
  most_items (session_end.Exited code) one stands = absurd (no_exit rules entries survivor code one.0 stands)
  most_items (session_end.GaveUp point cause) one stands = absurd (no_failure rules entries survivor cause one.0 stands.0)
  most_items (session_end.InputRefused kind offset) one stands = absurd (none_refused rules.bounds entries unheeded.LimitItems stands.1 one.1)
  most_items (session_end.MessageTooLong of) one stands = absurd (no_items (one_cause rules.bounds entries unheeded.TooLong unheeded.LimitItems stands.1.refused one.1))
  most_items session_end.LimitItems one stands = refl
  most_items session_end.LimitEvents one stands = absurd (no_both (one_cause rules.bounds entries unheeded.LimitItems unheeded.LimitEvents one.1 stands.1))

  most_events : (other : SessionEnd) → StandsAt rules entries (Some next) survivor session_end.LimitEvents → StandsAt rules entries (Some next) survivor other → session_end.LimitEvents ≡ other
  most_events session_end.Finished one stands = absurd (not_ended stands.1 unheeded.LimitEvents one.1)
  most_events (session_end.Exited code) one stands = absurd (no_exit rules entries survivor code one.0 stands)
  most_events (session_end.GaveUp point cause) one stands = absurd (no_failure rules entries survivor cause one.0 stands.0)
  most_events (session_end.InputRefused kind offset) one stands = absurd (none_refused rules.bounds entries unheeded.LimitEvents stands.1 one.1)
  most_events (session_end.MessageTooLong of) one stands = absurd (no_events (one_cause rules.bounds entries unheeded.TooLong unheeded.LimitEvents stands.1.refused one.1))
  most_events session_end.LimitItems one stands = absurd (no_both (one_cause rules.bounds entries unheeded.LimitItems unheeded.LimitEvents stands.1 one.1))
  most_events session_end.LimitEvents one stands = refl

pub one_end : OneEnd
one_end rules entries next survivor session_end.Finished other one stands = finished rules entries next survivor other one stands
one_end rules entries next survivor (session_end.Exited code) other one stands = exited rules entries next survivor code other one stands
one_end rules entries next survivor (session_end.GaveUp point cause) other one stands = gave_up rules entries next survivor point cause other one stands
one_end rules entries next survivor (session_end.InputRefused kind offset) other one stands = refused rules entries next survivor kind offset other one stands
one_end rules entries next survivor (session_end.MessageTooLong conn) other one stands = too_long rules entries next survivor conn other one stands
one_end rules entries next survivor session_end.LimitItems other one stands = most_items rules entries next survivor other one stands
one_end rules entries next survivor session_end.LimitEvents other one stands = most_events rules entries next survivor other one stands
