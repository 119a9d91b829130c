-- A session whose recoverable part is another one.
use Rattle.links.specs.declared.journal.Entry.{Entry}
use Rattle.recovery.specs.declared.recovering.Recovered.{Recovered}
use Rattle.recovery.specs.Recoverables.{HoldsRing, KeepsHeld, KeepsUnsaved, held_of}
use Rattle.recovery.specs.Recovering.{HasToRecover}
use Rattle.rx_engine.proofs.Terms.{AllocError, List, ap, subst, sym, ℕ, ◌+◌, ◌^◌, ◌≡◌, ◌≤◌, Bool, Result, MAX_ITEMS, Seen, Heap, Env, oldest_of, Log, Image, Cause, Override, Path, Rules, Recoverable, KeepsRing, Held, KeepsBeside, failure_of, to_recover, walked, KeepsOldest, AdoptsBy, rules_by, SessionState, held_in, IsFailing, Since}
use Rattle.rx_engine.specs.declared.session.Session.TheInside.{Inside}

module _ {R : Type 0} where
  -- what a session shows of its fields
  abbrev pub session_of : Inside R → SessionState R
  session_of s =
      record { options = s.options; cpu = s.held.cpu; log = s.held.log; replies = s.held.replies; events = s.events; recorded = s.held.recorded; choices = s.held.choices.items; taken = s.taken; steps = s.steps; env = s.env; until = s.until; before = s.past.before; hold = s.hold }

  -- so it shows a part that is the same
  pub held_as : (inside : Inside R) {mid new : Recoverable R} → new ≡ mid → session_of (record inside { held = mid }) ≡ session_of (record inside { held = new })
  held_as inside same = ap (λ (held : Recoverable R). session_of (record inside { held = held })) (sym same)

  -- A save leaves items and replies.
  pub ring_as : {rules : Rules} {image : Image} {entries : List Entry} {plan : List Override} {now : Path} {paths : List Path} {old new : Recoverable R} → KeepsUnsaved old new → HoldsRing rules image entries plan now paths new → KeepsRing rules image entries plan now paths new.cpu old.log old.replies
  ring_as {rules = rules} {image = image} {entries = entries} {plan = plan} {now = now} {paths = paths} kept = subst (λ (held : Recoverable R). HoldsRing rules image entries plan now paths held) kept.rest

  -- A recovery leaves items and what is recorded.
  pub beside : (inside : Inside R) {new : Recoverable R} → KeepsHeld inside.held new → KeepsBeside (session_of inside) (held_of new)
  beside inside kept = record { log = ap (λ (held : Recoverable R). held.log) kept.rest; recorded = ap (λ (held : Recoverable R). held.recorded) kept.rest; keeping = kept.keeping inside.options.every }

  pub left_oldest : {old : SessionState R} {new : Held R} {taken steps until : ℕ} {env : Env} → KeepsBeside old new → oldest_of new.cpu.slots.saved ≡ oldest_of old.cpu.slots.saved → new.replies.first ≡ old.replies.first
      → KeepsOldest old (record (walked old new) { taken = taken; steps = steps; env = env; until = until })
  left_oldest rest oldest sends = record { oldest = oldest; first = ap (λ (log : Log). log.first) rest.log; recorded = rest.recorded; sends = sends; keeping = rest.keeping }

  -- a session that fails, seen in another way
  pub fails_as : (permits : R → Heap → ℕ → ℕ → Bool) {image : Image} {began : Since} {seen : Seen} {cause : Cause} {s t : SessionState R} → s ≡ t → IsFailing (rules_by permits s) image began seen cause s → IsFailing (rules_by permits t) image began seen cause t
  fails_as permits {image = image} {began = began} {seen = seen} {cause = cause} same = subst (λ (s : SessionState R). IsFailing (rules_by permits s) image began seen cause s) same

  -- what its recovery asks for, where its guest stands so
  pub recovers_at : {rules : Rules} {image : Image} {began : Since} {seen : Seen} {cause : Cause} {old : SessionState R} {pc : ℕ} (f : IsFailing rules image began seen cause old) → rules.limits.budget ≤ 2 ^ 36 → 1 ≤ rules.limits.keep → rules.bounds.max_items ≤ MAX_ITEMS → pc ≡ old.cpu.slots.live.guest.machine.pc
      → HasToRecover (record { point = old.taken; cause = cause; pc = pc }) (failure_of f) (held_in old)
  recovers_at {cause = cause} {old = old} f budget keep items is = subst (λ n. HasToRecover (record { point = old.taken; cause = cause; pc = n }) (failure_of f) (held_in old)) (sym is) (to_recover f budget keep items)

  -- what comes of it, where so many instructions were counted
  abbrev pub AdoptsFrom : (R → Heap → ℕ → ℕ → Bool) → Image → Since → Since → Seen → ℕ → ℕ → Cause → SessionState R → Result Recovered AllocError → SessionState R → Type 0
  AdoptsFrom permits image began since seen before after cause new result old =
      IsFailing (rules_by permits old) image began seen cause old → since.lost + new.steps + before ≡ began.lost + old.steps + after → AdoptsBy (rules_by permits old) image since seen old.taken cause new result
