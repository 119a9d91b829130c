-- What a request leaves of a session that follows.
use Rattle.session_history.specs.declared.ends.SessionEnd.TheVariants as session_end
use Rattle.session_history.specs.declared.ends.Stop.TheVariants as stop
use Rattle.session_following.specs.declared.turned.Turned.TheVariants as turned
use Rattle.session_following.specs.declared.unfollowed.Unfollowed.TheVariants as unfollowed
use Rattle.rx_engine.proofs.Terms.{Err, List, Ok, ap, arith, refl, subst, sym, ℕ, ◌+◌, ◌∙◌, ◌≡◌, Told, Seen, oldest_of, Ledger, Image, Standing, Stop, Rules, Noted, Shown, Handed, known_same, asking_notes, noting_serves, serves_well, unnoted_serves, gives_same, trimmed_still, IsTrimmed, KeepsOldest, keeping_of, IsCounted, IsUnnoted, LinkServes, MayServe, NotesServe, SessionState, Unfollowed, UnnotedBy, stop_as, AsksOn, KeepsTurning, KeepsHandling, KeepsHeard}
use Rattle.rx_engine.proofs.RequestLemmas.{asks_counted}
use Rattle.rx_engine.proofs.UnnotedLemmas.{none_failed}

-- it was found to be another run, or short, and neither link nor notes were called
pub finished_serves : {seen : Seen} {ledger : Ledger} → MayServe seen ledger → LinkServes {X = Unit {0}} seen seen ledger (Err (stop.Ends session_end.Finished))
finished_serves may = record {
  takes = may.takes;
  gives = may.gives;
  known = known_same refl;
  once = tt;
  cause = record { takes = omega arith; gives = omega arith; read_fault = λ is. absurd (let never : ⊥ = cc in never); write_fault = λ is. absurd (let never : ⊥ = cc in never) };
}

module _ {R : Type 0} where
  pub heard_oldest : {old new : SessionState R} → KeepsHeard old new → KeepsOldest old new
  heard_oldest k = record {
    oldest = ap (λ (s : SessionState R). oldest_of s.cpu.slots.saved) k.same;
    first = k.first;
    recorded = ap (λ (s : SessionState R). s.recorded) k.same;
    sends = k.sends;
    keeping = ap (λ (s : SessionState R). keeping_of s) k.same;
  }

  -- noting failed
  pub noting_keeps : {seen : Seen} {shown now : Shown} {old new : SessionState R} (why : Stop) → MayServe seen old.replies → KeepsHandling shown now old new (Err why) → KeepsTurning seen seen shown now old new (Err (unfollowed.Stops why))
  noting_keeps why may k = record {
    link = noting_serves why (record { takes = may.takes; gives = gives_same k.opened may.gives }) k.broken;
    notes = k.notes;
    unnoted = k.unnoted;
    options = ap (λ (s : SessionState R). s.options) k.same;
    rule = k.rule;
    keeping = k.keeping;
    trimmed = λ any. tt;
    marked = tt;
    later = tt;
  }

  -- its link was heard behind that, and stopped it
  pub hearing_keeps : {before seen : Seen} {shown now : Shown} {old mid new : SessionState R} {done : Unit {0}} (why : Stop) → KeepsHandling shown now old mid (Ok done) → KeepsHeard mid new → LinkServes {X = Unit {0}} before seen new.replies (Err why) → IsUnnoted (Err why)
      → KeepsTurning before seen shown now old new (Err (unfollowed.Stops why))
  hearing_keeps {new = new} why k heard link unnoted = record {
    link = link;
    notes = asking_notes (Err why) k.notes unnoted;
    unnoted = none_failed new.choices (Err why) unnoted k.unnoted;
    options = ap (λ (s : SessionState R). s.options) heard.same ∙ ap (λ (s : SessionState R). s.options) k.same;
    rule = ap (λ (s : SessionState R). s.cpu.rule) heard.same ∙ k.rule;
    keeping = ap (λ (s : SessionState R). keeping_of s) heard.same ∙ k.keeping;
    trimmed = λ any. tt;
    marked = tt;
    later = tt;
  }

  -- it has ended
  pub end_keeps : {before seen : Seen} {shown now : Shown} {old mid new : SessionState R} {done : Unit {0}} (why : Unfollowed) → stop_as why ≡ stop.Ends session_end.Finished → KeepsHandling shown now old mid (Ok done) → KeepsHeard mid new
      → LinkServes {X = Unit {0}} before seen new.replies (Err (stop.Ends session_end.Finished)) → KeepsTurning before seen shown now old new (Err why)
  end_keeps {before = before} {seen = seen} {shown = shown} {now = now} {new = new} why is k heard link = record {
    link = subst (λ (w : Stop). LinkServes {X = Unit {0}} before seen new.replies (Err w)) (sym is) link;
    notes = subst (λ (w : Stop). NotesServe shown now (Err w)) (sym is) (asking_notes (Err (stop.Ends session_end.Finished)) k.notes tt);
    unnoted = subst (λ (w : Stop). UnnotedBy shown.told.unnoted now.told.unnoted new.choices (Err w)) (sym is) k.unnoted;
    options = ap (λ (s : SessionState R). s.options) heard.same ∙ ap (λ (s : SessionState R). s.options) k.same;
    rule = ap (λ (s : SessionState R). s.cpu.rule) heard.same ∙ k.rule;
    keeping = ap (λ (s : SessionState R). keeping_of s) heard.same ∙ k.keeping;
    trimmed = λ any. tt;
    marked = tt;
    later = tt;
  }

  -- the item came, and was taken
  pub item_keeps : {before seen : Seen} {shown now : Shown} {old mid late new : SessionState R} {done : Unit {0}} → KeepsHandling shown now old mid (Ok done) → KeepsHeard mid late → LinkServes {X = Unit {0}} before seen late.replies (Ok tt) → KeepsOldest late new → new.options ≡ late.options → new.cpu.rule ≡ late.cpu.rule
      → new.replies ≡ late.replies → IsCounted new → new.cpu.slots.live.steps ≡ late.cpu.slots.live.steps + 1 → KeepsTurning before seen shown now old new (Ok turned.GoesOn)
  item_keeps {before = before} {seen = seen} {old = old} {mid = mid} {late = late} {new = new} k heard link oldest options rule replies counted one = record {
    link = subst (λ (l : Ledger). LinkServes {X = Unit {0}} before seen l (Ok tt)) (sym replies) link;
    notes = k.notes;
    unnoted = k.unnoted;
    options = options ∙ (ap (λ (s : SessionState R). s.options) heard.same ∙ ap (λ (s : SessionState R). s.options) k.same);
    rule = rule ∙ (ap (λ (s : SessionState R). s.cpu.rule) heard.same ∙ k.rule);
    keeping = oldest.keeping ∙ (ap (λ (s : SessionState R). keeping_of s) heard.same ∙ k.keeping);
    trimmed = λ any. trimmed_still oldest (trimmed_still (heard_oldest heard) k.trimmed);
    marked = counted;
    later = let came = ap (λ (s : SessionState R). s.cpu.slots.live.steps) heard.same in let live : mid.cpu.slots.live.steps ≡ old.cpu.slots.live.steps = ap (λ (s : Standing). s.steps) k.live in omega (arith, one, came, live);
  }

  -- it is judged at its request, and stops there
  pub judged_keeps : {seen : Seen} {shown : Shown} {session : SessionState R} (why : Unfollowed) → stop_as why ≡ stop.Ends session_end.Finished → MayServe seen session.replies → KeepsTurning seen seen shown shown session session (Err why)
  judged_keeps {seen = seen} {shown = shown} {session = session} why is may = record {
    link = subst (λ (w : Stop). LinkServes {X = Unit {0}} seen seen session.replies (Err w)) (sym is) (finished_serves may);
    notes = subst (λ (w : Stop). NotesServe shown shown (Err w)) (sym is) (unnoted_serves (Err (stop.Ends session_end.Finished)) tt);
    unnoted = subst (λ (w : Stop). UnnotedBy shown.told.unnoted shown.told.unnoted session.choices (Err w)) (sym is) refl;
    options = refl;
    rule = refl;
    keeping = refl;
    trimmed = λ any. tt;
    marked = tt;
    later = tt;
  }

  -- or is released
  pub release_keeps : {seen : Seen} {shown : Shown} {old new : SessionState R} → MayServe seen old.replies → IsCounted old → new ≡ record old { env = new.env; until = new.until; before = new.before; hold = new.hold } → KeepsTurning seen seen shown shown old new (Ok turned.Released)
  release_keeps {seen = seen} {old = old} may counted same = record {
    link = subst (λ (l : Ledger). LinkServes {X = Unit {0}} seen seen l (Ok tt)) (sym (ap (λ (s : SessionState R). s.replies) same)) (serves_well may (known_same refl) (omega arith) (omega arith));
    notes = unnoted_serves (Ok tt) tt;
    unnoted = refl;
    options = ap (λ (s : SessionState R). s.options) same;
    rule = ap (λ (s : SessionState R). s.cpu.rule) same;
    keeping = ap (λ (s : SessionState R). keeping_of s) same;
    trimmed = λ trimmed. subst (λ (s : SessionState R). IsTrimmed s) (sym same) (record { items = trimmed.items; recorded = trimmed.recorded; sends = trimmed.sends });
    marked = subst (λ (s : SessionState R). IsCounted s) (sym same) (record { taken = counted.taken; steps = counted.steps });
    later = tt;
  }

  -- the counts of one that asks are its guest's
  pub asks_marked : {rules here : Rules} {image : Image} {handed : Handed} {told : Told} {seen : Seen} {before noted : Noted} {missing : List ℕ} {session : SessionState R} → AsksOn rules here image handed told seen before noted missing session → IsCounted session
  asks_marked a = record {
    taken = a.stands.follows.stands.answers.taken ∙ sym (ap (λ (s : Standing). s.guest.machine.taken) a.stands.follows.stands.goes.guest);
    steps = sym (asks_counted a);
  }
