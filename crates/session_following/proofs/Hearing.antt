-- What a call that heard its link makes of a session that follows.
use Rattle.item_log.specs.Log as logs
use Rattle.links.specs.declared.journal.Entry.TheVariants as entry
use Rattle.links.specs.declared.journal.LinkEvent.TheVariants as event
use Rattle.session_following.proofs.Terms.{List, None, Option, [], arith, subst, ℕ, ◌++◌, ◌∷◌, ◌≡◌, ◌≤◌, LinkEvent, Phases, Seen, Log, Ledger, closed_connection, with_change, Image, AsksFor, Path, closing_of, nothing_before, received, KeepsReplies, Rules, closed_keeps, Handed, plan_of, HeardEvent, closes_closed, run_of, with_heard, received_is, SessionState, Since, plan_up_to, IsNotReached, IsFollowing, rules_following}
use Rattle.session_following.proofs.Following.{heard_following}

module _ {R : Type 0} where
  -- all that came was taken
  all_taken : {rules : Rules} {image : Image} {handed : Handed} {events : List LinkEvent} {now : Path} {began : Since} {phases : Phases} {old : SessionState R} → IsFollowing rules image handed events now began phases old → logs.received old.log ≤ old.taken
      → received (rules_following rules handed events now).bounds [] ≤ now.state.machine.taken
  all_taken f none_left = omega (arith, none_left, received_is f.stands.goes.items, f.stands.answers.taken)

  -- an event was heard that closes nothing: the log and the ledger know it, and nothing is passed
  pub event_following : {rules : Rules} {image : Image} {handed : Handed} {events : List LinkEvent} {now : Path} {began : Since} {was seen : Seen} {old : SessionState R} {log : Log} {ledger : Ledger} {count : ℕ} (e : LinkEvent) → rules.bounds.before ≡ nothing_before
      → IsFollowing rules image handed events now began was.phases old → IsNotReached rules.limits handed now → AsksFor rules.limits (plan_up_to rules.limits.base (plan_of rules.limits.keep handed.episodes) now.state.machine.taken) now now.state.machine.taken → logs.received old.log ≤ old.taken
      → closing_of e ≡ None → HeardEvent (rules_following rules handed events now).bounds [] now.state.sends was seen log ledger count e → log.first ≡ old.log.first → ledger.first ≡ old.replies.first → ledger.trial ≡ None
      → IsFollowing rules image handed (events ++ e ∷ []) now began seen.phases (with_heard old log ledger count)
  event_following {rules = rules} {handed = handed} {events = events} {now = now} {was = was} {old = old} {log = log} {ledger = ledger} {count = count} e alone f not_yet asks none_left quiet h kept first no_trial =
      heard_following e h.heard.more alone f not_yet asks (all_taken f none_left) (run_of {old = old} {log = log} {ledger = ledger} {events = count} kept) first h.heard.brings h.heard.items h.phases h.counted
      (subst (λ (closing : Option ℕ). KeepsReplies (rules_following rules handed events now).bounds (entry.Took e ∷ []) closing now.state.sends ledger) quiet h.heard.replies) no_trial

  -- a close was heard, and is marked
  pub close_following : {rules : Rules} {image : Image} {handed : Handed} {events : List LinkEvent} {now : Path} {began : Since} {was seen : Seen} {old : SessionState R} {log : Log} {ledger : Ledger} {count : ℕ} (conn : ℕ) → rules.bounds.before ≡ nothing_before
      → IsFollowing rules image handed events now began was.phases old → IsNotReached rules.limits handed now → AsksFor rules.limits (plan_up_to rules.limits.base (plan_of rules.limits.keep handed.episodes) now.state.machine.taken) now now.state.machine.taken → logs.received old.log ≤ old.taken
      → HeardEvent (rules_following rules handed events now).bounds [] now.state.sends was seen log ledger count (event.Closes conn) → log.first ≡ old.log.first → ledger.first ≡ old.replies.first → ledger.trial ≡ None
      → IsFollowing rules image handed (events ++ event.Closes conn ∷ []) now began seen.phases (with_heard old log (with_change ledger conn closed_connection) count)
  close_following {rules = rules} {handed = handed} {events = events} {now = now} {was = was} {old = old} {log = log} {ledger = ledger} {count = count} conn alone f not_yet asks none_left h kept first no_trial =
      heard_following (event.Closes conn) h.heard.more alone f not_yet asks (all_taken f none_left) (run_of {old = old} {log = log} {ledger = with_change ledger conn closed_connection} {events = count} kept) first h.heard.brings h.heard.items h.phases h.counted
      (closed_keeps (rules_following rules handed events now).bounds (entry.Took (event.Closes conn) ∷ []) now.state.sends ledger conn h.heard.replies (closes_closed [] conn h.heard.items)) no_trial
