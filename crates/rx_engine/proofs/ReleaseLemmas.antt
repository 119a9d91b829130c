-- A session that was released has served on.
use Rattle.session_history.specs.declared.ends.Stop.TheVariants as stop
use Rattle.rx_engine.proofs.Terms.{Err, List, Option, arith, refl, subst, ℕ, ◌+◌, ◌∙◌, ◌≡◌, ◌≤◌, Bool, true, rose_later, Coming, Told, Seen, Heap, Ledger, Image, Stop, AtBreak, AtEnd, StaysKnown, Rules, Try, Noted, Shown, rules_behind, Handed, Keeping, known_same, known_then, once_at, unnoted_passing, answers_broken, notes_broken, passing_serves, unnoted_serves, same_rules, LeavesBy, keeping_of, HasWatched, BreaksAt, BreaksPassing, HasSameFrame, LinkAnswers, LinkPasses, NotesAnswer, outcome_of, rules_by, SessionState, TookOver, IsReleased}

-- the link failed as pieces were passed, or memory ran out
pub passing_answers : {before new : Seen} {ledger : Ledger} (why : Stop) → before.takes ≡ true → LinkPasses before new ledger (Err why) → LinkAnswers before new why
passing_answers (stop.Ends end) still passes = absurd passes.broken
passing_answers {before = before} {new = new} {ledger = ledger} (stop.Breaks why) still passes =
    answers_broken {old = before} {mid = before} {new = new} {ledger = ledger} (known_same refl) (omega arith) (omega arith) refl (passing_serves (Err (stop.Breaks why)) still passes)

pub passing_notes : {shown : Shown} (why : Stop) → BreaksPassing (Err why) → NotesAnswer shown shown why
passing_notes (stop.Ends end) broken = absurd broken
passing_notes (stop.Breaks why) broken = notes_broken (omega arith) refl (unnoted_serves (Err (stop.Breaks why)) (unnoted_passing (Err (stop.Breaks why)) broken))

-- what a link shows where a session stopped, since earlier
known_at_end : (old mid new : Option Coming) (why : Stop) → StaysKnown old mid → AtEnd why (λ end. StaysKnown mid new) → AtEnd why (λ end. StaysKnown old new)
known_at_end old mid new (stop.Ends end) known then = known_then old mid new known then
known_at_end old mid new (stop.Breaks why) known then = tt

once_at_break : (old mid new : Option Coming) (gives : Bool) (why : Stop) → StaysKnown old mid → AtBreak why (BreaksAt mid new gives) → AtBreak why (BreaksAt old new gives)
once_at_break old mid new gives (stop.Ends end) known once = tt
once_at_break old mid new gives (stop.Breaks why) known once = once_at old mid new gives why known once

pub answers_later : {old mid new : Seen} {why : Stop} → StaysKnown old.coming mid.coming → old.counts.takes ≤ mid.counts.takes → old.counts.gives ≤ mid.counts.gives → LinkAnswers mid new why → LinkAnswers old new why
answers_later {old = old} {mid = mid} {new = new} {why = why} known takes gives l = record {
  takes = l.takes;
  gives = l.gives;
  known = known_at_end old.coming mid.coming new.coming why known l.known;
  once = once_at_break old.coming mid.coming new.coming new.gives why known l.once;
  cause = record {
    takes = let more = l.cause.takes in omega (arith, takes, more);
    gives = let more = l.cause.gives in omega (arith, gives, more);
    read_fault = λ is. rose_later old.counts.takes mid.counts.takes new.counts.takes takes (l.cause.read_fault is);
    write_fault = λ is. rose_later old.counts.gives mid.counts.gives new.counts.gives gives (l.cause.write_fault is);
  };
}

module _ {R : Type 0} where
  -- what it has served since it was released, told by what it allowed then
  pub took_on_served : (permits : R → Heap → ℕ → ℕ → Bool) {rules : Rules} {image : Image} {handed : Handed} {told : Told} {there seen : Seen} {noted_before noted now : Noted} {counted count : ℕ} {tables_before tables : Option (List (List Try))} {old mid new : SessionState R} (why : Stop)
      → (r : IsReleased rules (rules_by permits old) image handed told there noted_before noted old) → HasSameFrame old mid → keeping_of mid ≡ keeping_of old → count ≡ counted
      → (watched : HasWatched (rules_by permits mid) image (keeping_of mid) there seen (outcome_of why new) noted_before now (0 + count) tables_before tables) × LeavesBy (rules_by permits mid) image noted_before.unnoted now.unnoted watched.recovered.telling new why
      → TookOver rules image handed (keeping_of old) told there seen noted_before now counted tables_before tables new why
  took_on_served permits {rules = rules} {image = image} {handed = handed} {there = there} {seen = seen} {noted_before = noted_before} {now = now} {counted = counted} {count = count} {tables_before = tables_before} {tables = tables} {old = old} {mid = mid} {new = new} why r frame keeping same both =
      let next : Rules = rules_behind rules handed r.events r.released in
      let is : rules_by permits mid ≡ next = same_rules permits frame ∙ r.here_is in
      let first = subst (λ (x : Rules). (watched : HasWatched x image (keeping_of mid) there seen (outcome_of why new) noted_before now (0 + count) tables_before tables) × LeavesBy x image noted_before.unnoted now.unnoted watched.recovered.telling new why) is both in
      let second = subst (λ (k : Keeping). (watched : HasWatched next image k there seen (outcome_of why new) noted_before now (0 + count) tables_before tables) × LeavesBy next image noted_before.unnoted now.unnoted watched.recovered.telling new why) keeping first in
      let third = subst (λ (n : ℕ). (watched : HasWatched next image (keeping_of old) there seen (outcome_of why new) noted_before now n tables_before tables) × LeavesBy next image noted_before.unnoted now.unnoted watched.recovered.telling new why)
      (let none : 0 + count ≡ counted = omega (arith, same) in none) second in
      record { events = r.events; released = r.released; followed = r.followed; heard = r.heard; watched = third.0; leaves = third.1 }
