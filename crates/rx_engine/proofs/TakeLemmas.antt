-- How far a session has come that takes over: it follows still. And what it comes to: it wasn't released, or it was, and served on.
use Rattle.run_history.specs.declared.answer.Answer.TheVariants as answer
use Rattle.run_history.specs.declared.answer.Answer.{Answer}
use Rattle.session_following.specs.declared.unfollowed.Unfollowed.TheVariants as unfollowed
use Rattle.session_history.specs.Answering.{MayBegin}
use Rattle.session_history.specs.declared.ends.SessionBreak.TheVariants as session_break
use Rattle.session_history.specs.declared.ends.SessionEnd.{SessionEnd}
use Rattle.session_history.specs.declared.ends.SessionEnd.TheVariants as session_end
use Rattle.session_history.specs.declared.ends.Stop.TheVariants as stop
use Rattle.session_state.specs.Serving.{StaysKnown}
use Rattle.std.specs.Prelude.{List}
use Rattle.rx_engine.proofs.Terms.{Err, Ok, Option, ap, arith, inl, refl, subst, sym, ℕ, ◌+◌, ◌-◌, ◌<◌, ◌∙◌, ◌≡◌, ◌≤◌, Bool, false, true, rose_later, Told, Seen, Heap, Ledger, Image, Stop, answer_of, Rules, CanGive, Try, Noted, Shown, AsksForMore, rules_behind, Handed, AreWellPlaced, Keeping, known_same, known_then, answers_broken, answers_finished, exited_serves, memory_serves, notes_broken, notes_finished, serves_may, unnoted_serves, begun_keeping, starts_at, starts_giving, cause_then, still_takes, IsTrimmed, LeavesBy, keeping_of, AreInRange, keeping_for, HasWatched, Finishes, IsCounted, IsFinishing, LinkAnswers, LinkFinishes, LinkServes, MayServe, NotesAnswer, NotesServe, outcome_of, rules_by, IsBegun, SessionState, IsEnding, Since, told_since, Turned, Unfollowed, nothing_followed, NoPlan, HasNotTakenOver, HasTakenOver, IsUnfollowed, TookOver, UnnotedBy, stop_as, CanRelease, Follows, HasServedReleased, IsReleased, IsReleasedAtExit, KeepsTurning}
use Rattle.rx_engine.proofs.ReleaseLemmas.{answers_later}
use Rattle.rx_engine.proofs.TurnFollowed.{follows_counted, follows_fits}

module _ {R : Type 0} where
  -- All went well so far: it allows the same and keeps as many checkpoints; its counts are those of its guest, which did all instructions that were
  -- counted; what its link has next is told still; no count of failed calls fell, and none of notes failed; and it may be served on.
  pub record HasGoneWell (Outside : Type 0) (before seen : Seen) (shown now : Shown) (first last : ℕ) (old new : SessionState R) : Type 0 where
    pub may : MayServe seen new.replies
    pub options : new.options ≡ old.options
    pub rule : new.cpu.rule ≡ old.cpu.rule
    pub keeping : keeping_of new ≡ keeping_for old.options
    pub trimmed : IsTrimmed new
    pub marked : IsCounted new
    pub known : StaysKnown before.coming seen.coming
    pub counted : last ≡ first + new.cpu.slots.live.steps
    pub no_takes_fell : before.counts.takes ≤ seen.counts.takes
    pub no_gives_fell : before.counts.gives ≤ seen.counts.gives
    pub no_faults_fell : shown.faults ≤ now.faults
    pub unnoted : now.told.unnoted ≡ shown.told.unnoted
    pub outside : Outside

  -- and it follows, since it was begun; and it can be released
  pub record HasTurnedOn (Outside : Type 0) (permits : R → Heap → ℕ → ℕ → Bool) (handed : Handed) (before seen : Seen) (shown now : Shown) (missing : List ℕ) (first last : ℕ) (old new : SessionState R) : Type 0 where
    pub stands : (image : Image) → IsBegun image old.options old.cpu.rule old → Follows (rules_by permits old) (rules_by permits new) image handed before.told seen shown.told now.told missing new
    pub can : CanRelease handed
    pub well : HasGoneWell Outside before seen shown now first last old new

  -- at its begin, by what it keeps of a session that was begun
  pub begins_well : {Outside : Type 0} (permits : R → Heap → ℕ → ℕ → Bool) {image : Image} {handed : Handed} {seen : Seen} {shown : Shown} {missing : List ℕ} {first : ℕ} {old new : SessionState R} → IsBegun image old.options old.cpu.rule old → MayBegin seen
      → Follows (rules_by permits old) (rules_by permits new) image handed seen.told seen shown.told shown.told missing new
      → new.options ≡ old.options → new.cpu.rule ≡ old.cpu.rule → new.replies ≡ old.replies → keeping_of new ≡ keeping_of old → new.cpu.slots.live ≡ old.cpu.slots.live → IsTrimmed new → Outside → HasGoneWell Outside seen seen shown shown first first old new
  begins_well permits {seen = seen} {new = new} begun may follows options rule replies keeping live trimmed outside = record {
    may = record { takes = may.takes; gives = subst (λ (ledger : Ledger). CanGive seen ledger) (sym replies) (starts_giving begun may.gives) };
    options = options;
    rule = rule;
    keeping = keeping ∙ begun_keeping begun;
    trimmed = trimmed;
    marked = follows_counted follows;
    known = known_same refl;
    counted = let none : new.cpu.slots.live.steps ≡ 0 = ap (λ s. s.steps) (live ∙ starts_at begun) in omega (arith, none);
    no_takes_fell = omega arith;
    no_gives_fell = omega arith;
    no_faults_fell = omega arith;
    unnoted = refl;
    outside = outside;
  }

  -- one turn more that went well
  pub well_then : {Outside Then : Type 0} {before there seen : Seen} {shown noted now : Shown} {first last next : ℕ} {old mid new : SessionState R} (turned : Turned) → HasGoneWell Outside before there shown noted first last old mid
      → KeepsTurning there seen noted now mid new (Ok turned) → next + mid.cpu.slots.live.steps ≡ last + new.cpu.slots.live.steps → Then → HasGoneWell Then before seen shown now first next old new
  well_then {before = before} {there = there} {seen = seen} turned w k counted outside =
      let cause = cause_then {before = before.counts} w.no_takes_fell w.no_gives_fell k.link.cause in
      record {
        may = serves_may k.link;
        options = k.options ∙ w.options;
        rule = k.rule ∙ w.rule;
        keeping = k.keeping ∙ w.keeping;
        trimmed = k.trimmed w.trimmed;
        marked = k.marked;
        known = known_then before.coming there.coming seen.coming w.known k.link.known;
        counted = let was = w.counted in omega (arith, was, counted);
        no_takes_fell = cause.takes;
        no_gives_fell = cause.gives;
        no_faults_fell = let fell = w.no_faults_fell in let more = k.notes.cause.later in omega (arith, fell, more);
        unnoted = k.unnoted ∙ w.unnoted;
        outside = outside;
      }

  -- what is left to do gets less: its guest does few instructions
  pub follows_smaller : (permits : R → Heap → ℕ → ℕ → Bool) {rules : Rules} {image : Image} {handed : Handed} {told : Told} {seen : Seen} {before noted : Noted} {missing : List ℕ} {session : SessionState R} {then : ℕ} → AreInRange session.options
      → Follows rules (rules_by permits session) image handed told seen before noted missing session → session.cpu.slots.live.steps < then → 1152921504606846976 - then < 1152921504606846976 - session.cpu.slots.live.steps
  follows_smaller permits {session = session} ranges follows later =
      let fits : session.cpu.slots.live.steps < 1152921504606846976 = follows_fits {here = rules_by permits session} ranges.few_budget ranges.few_items follows in
      omega (arith, fits, later)

-- so many were counted behind a release, of all that were counted
pub counted_beyond : (began ran later mine first last live done : ℕ) → ran ≡ began → done ≡ live → last ≡ first + live → (ran + mine + done) - (later + last) ≡ (began + mine) - (later + first)
counted_beyond began ran later mine first last live done same marked counted = omega (arith, same, marked, counted)

-- an end is no fault of the link
record LinkEnds (end : SessionEnd) : Type 0 where
  pub read : answer_of (stop.Ends end) ≡ answer.ReadFault → ⊥
  pub write : answer_of (stop.Ends end) ≡ answer.WriteFault → ⊥

is_end : (end : SessionEnd) → LinkEnds end
is_end (session_end.InputRefused kind offset) = record { read = λ is. let no : ⊥ = cc in no; write = λ is. let no : ⊥ = cc in no }
is_end session_end.Finished = record { read = λ is. let no : ⊥ = cc in no; write = λ is. let no : ⊥ = cc in no }
is_end (session_end.Exited code) = record { read = λ is. let no : ⊥ = cc in no; write = λ is. let no : ⊥ = cc in no }
is_end (session_end.GaveUp point cause) = record { read = λ is. let no : ⊥ = cc in no; write = λ is. let no : ⊥ = cc in no }
is_end (session_end.MessageTooLong conn) = record { read = λ is. let no : ⊥ = cc in no; write = λ is. let no : ⊥ = cc in no }
is_end session_end.LimitItems = record { read = λ is. let no : ⊥ = cc in no; write = λ is. let no : ⊥ = cc in no }
is_end session_end.LimitEvents = record { read = λ is. let no : ⊥ = cc in no; write = λ is. let no : ⊥ = cc in no }

-- an end at which nothing is passed
ends_still : {seen : Seen} (end : SessionEnd) → seen.gives ≡ true → LinkFinishes seen seen end (stop.Ends end)
ends_still end gives = record {
  takes = λ still. still;
  gives = gives;
  rest = refl;
  once = tt;
  cause = record { takes = omega arith; gives = omega arith; read_fault = λ is. absurd ((is_end end).read is); write_fault = λ is. absurd ((is_end end).write is) };
}

-- where a session stopped, behind turns that went well
answers_stopped : {old mid new : Seen} {ledger : Ledger} (why : Stop) → StaysKnown old.coming mid.coming → old.counts.takes ≤ mid.counts.takes → old.counts.gives ≤ mid.counts.gives → LinkServes {X = Unit {0}} mid new ledger (Err why) → LinkAnswers old new why
answers_stopped {old = old} {mid = mid} {new = new} {ledger = ledger} (stop.Breaks why) known takes gives serves = answers_broken {old = old} {mid = mid} {new = new} {ledger = ledger} known takes gives refl serves
answers_stopped {old = old} {mid = mid} {new = new} {ledger = ledger} (stop.Ends end) known takes gives serves =
    answers_finished {old = old} {mid = mid} {now = new} {new = new} {ledger = ledger} known takes gives refl serves (ends_still end serves.gives.gives_still)

notes_stopped : {old mid new : Shown} (why : Stop) → old.faults ≤ mid.faults → NotesServe mid new (Err why) → NotesAnswer old new why
notes_stopped (stop.Breaks why) later notes = notes_broken later refl notes
notes_stopped {new = new} (stop.Ends end) later notes = notes_finished later refl notes (record { cause = record { later = omega arith; file_fault = λ is. absurd (let never : ⊥ = cc in never) } })

-- what notes show where a session stopped, since earlier
notes_later : {old mid new : Shown} {why : Stop} → old.faults ≤ mid.faults → NotesAnswer mid new why → NotesAnswer old new why
notes_later {old = old} {mid = mid} {new = new} later notes = record {
  cause = record {
    later = let more = notes.cause.later in omega (arith, later, more);
    file_fault = λ is. rose_later old.faults mid.faults new.faults later (notes.cause.file_fault is);
  };
}

module _ {R : Type 0} (permits : R → Heap → ℕ → ℕ → Bool) where
  -- Nothing was followed: memory ran out, or the report is of no session.
  pub nothing_taken : {handed : Handed} {seen : Seen} {shown : Shown} {counted : ℕ} {tables : Option (List (List Try))} {session : SessionState R} → MayBegin seen → counted ≡ 0
      → HasNotTakenOver (rules_by permits session) handed seen seen shown shown counted tables tables session session (unfollowed.Stops (stop.Breaks session_break.Memory))
  nothing_taken {seen = seen} {session = session} may none = record {
    takes = λ any. may.takes;
    unfollowed = λ image begun. nothing_followed (unfollowed.Stops (stop.Breaks session_break.Memory)) begun none (inl refl);
    failed = λ image begun fell. still_takes _ may.takes fell;
    gives = may.gives;
    unnoted = inl refl;
    tables_same = refl;
    link = answers_broken {old = seen} {mid = seen} {new = seen} {ledger = session.replies} (known_same refl) (omega arith) (omega arith) refl (memory_serves may.gives);
    notes = notes_broken (omega arith) refl (unnoted_serves (Err (stop.Breaks session_break.Memory)) tt);
  }

  pub nothing_planned : {handed : Handed} {seen : Seen} {shown : Shown} {counted : ℕ} {tables : Option (List (List Try))} {session : SessionState R} → MayBegin seen → counted ≡ 0 → ¬ AreWellPlaced handed.episodes
      → HasNotTakenOver (rules_by permits session) handed seen seen shown shown counted tables tables session session (unfollowed.Mismatch 0)
  nothing_planned {seen = seen} {session = session} may none unplaced = record {
    takes = λ any. may.takes;
    unfollowed = λ image begun. nothing_followed (unfollowed.Mismatch 0) begun none (NoPlan unplaced, (refl, refl, refl, refl));
    failed = λ image begun fell. still_takes _ may.takes fell;
    gives = may.gives;
    unnoted = refl;
    tables_same = refl;
    link = record {
      takes = may.takes;
      gives = may.gives;
      known = known_same refl;
      once = tt;
      cause = record { takes = omega arith; gives = omega arith; read_fault = λ is. absurd ((is_end session_end.Finished).read is); write_fault = λ is. absurd ((is_end session_end.Finished).write is) };
    };
    notes = record { cause = record { later = omega arith; file_fault = λ is. absurd (let never : ⊥ = cc in never) } };
  }

  -- It wasn't released, behind turns that went well.
  pub not_taken : {Outside : Type 0} {handed : Handed} {before there seen : Seen} {shown noted now : Shown} {first last counted : ℕ} {tables_before tables : Option (List (List Try))} {old mid new : SessionState R} {why : Unfollowed} → HasGoneWell Outside before there shown noted first last old mid
      → KeepsTurning there seen noted now mid new (Err why) → seen.gives ≡ true → (why ≡ unfollowed.Stops (stop.Breaks session_break.FileFault) → seen.takes ≡ true)
      → ((image : Image) → IsBegun image old.options old.cpu.rule old
      → (u : IsUnfollowed (rules_by permits old) image handed before.told seen shown.told now.told new.cpu.slots.live.steps new why) × (seen.takes ≡ false → AsksForMore (rules_by permits old) image handed u.events))
      → new.cpu.slots.live.steps ≡ counted → tables ≡ tables_before → HasNotTakenOver (rules_by permits old) handed before seen shown now counted tables_before tables old new why
  not_taken {handed = handed} {before = before} {there = there} {seen = seen} {shown = shown} {noted = noted} {now = now} {counted = counted} {old = old} {new = new} {why = why} w k gives takes stops same tables_same = record {
    takes = takes;
    unfollowed = λ image begun. (by image begun).0;
    failed = λ image begun. (by image begun).1;
    gives = gives;
    unnoted = subst (λ u. UnnotedBy u now.told.unnoted new.choices (Err (stop_as why))) w.unnoted k.unnoted;
    tables_same = tables_same;
    link = answers_stopped {old = before} {mid = there} {new = seen} {ledger = new.replies} (stop_as why) w.known w.no_takes_fell w.no_gives_fell k.link;
    notes = notes_stopped {old = shown} {mid = noted} {new = now} (stop_as why) w.no_faults_fell k.notes;
  }
    where
      by : (image : Image) → IsBegun image old.options old.cpu.rule old
          → (u : IsUnfollowed (rules_by permits old) image handed before.told seen shown.told now.told counted new why) × (seen.takes ≡ false → AsksForMore (rules_by permits old) image handed u.events)
      by image begun =
          subst (λ (n : ℕ). (u : IsUnfollowed (rules_by permits old) image handed before.told seen shown.told now.told n new why) × (seen.takes ≡ false → AsksForMore (rules_by permits old) image handed u.events)) same (stops image begun)

  -- It was released, and has served on.
  took_served : {Outside : Type 0} {handed : Handed} {before there seen : Seen} {shown noted now : Shown} {first last beyond counted : ℕ} {tables_before tables : Option (List (List Try))} {old mid new : SessionState R} {answered : Answer}
      → HasGoneWell Outside before there shown noted first last old mid
      → ((image : Image) → IsBegun image old.options old.cpu.rule old → IsReleased (rules_by permits old) (rules_by permits mid) image handed before.told there shown.told noted.told mid)
      → HasServedReleased (rules_by permits mid) there seen noted now beyond tables_before tables mid new answered → beyond ≡ counted → HasTakenOver (rules_by permits old) handed before seen shown now counted tables_before tables old new answered
  took_served {handed = handed} {before = before} {there = there} {seen = seen} {shown = shown} {now = now} {beyond = beyond} {tables_before = tables_before} {tables = tables} {old = old} {new = new} w released h same = record {
    why = h.why;
    is = h.is;
    there = there;
    known = w.known;
    served = λ image begun.
        subst (λ (n : ℕ). TookOver (rules_by permits old) image handed (keeping_for old.options) before.told there seen shown.told now.told n tables_before tables new h.why) same
        (subst (λ (k : Keeping). TookOver (rules_by permits old) image handed k before.told there seen shown.told now.told beyond tables_before tables new h.why) w.keeping
        (h.served (rules_by permits old) image handed before.told shown.told (released image begun)));
    keeping = h.keeping ∙ w.keeping;
    link = answers_later {old = before} {mid = there} {new = seen} {why = h.why} w.known w.no_takes_fell w.no_gives_fell h.link;
    notes = notes_later w.no_faults_fell h.notes;
  }

  pub took_released : {Outside : Type 0} {handed : Handed} {before there seen : Seen} {shown noted now : Shown} {first last beyond counted : ℕ} {tables_before tables_there tables : Option (List (List Try))} {old mid new : SessionState R} {answered : Answer}
      → HasGoneWell Outside before there shown noted first last old mid
      → ((image : Image) → IsBegun image old.options old.cpu.rule old → IsReleased (rules_by permits old) (rules_by permits mid) image handed before.told there shown.told noted.told mid)
      → tables_there ≡ tables_before → HasServedReleased (rules_by permits mid) there seen noted now beyond tables_there tables mid new answered → beyond ≡ counted
      → HasTakenOver (rules_by permits old) handed before seen shown now counted tables_before tables old new answered
  took_released {there = there} {seen = seen} {noted = noted} {now = now} {beyond = beyond} {tables = tables} {mid = mid} {new = new} {answered = answered} w released told h same =
      took_served w released (subst (λ (t : Option (List (List Try))). HasServedReleased (rules_by permits mid) there seen noted now beyond t tables mid new answered) told h) same

  -- where its guest ended itself
  pub exit_is : {rules : Rules} {image : Image} {handed : Handed} {told : Told} {there : Seen} {before noted : Noted} {code : ℕ} {mid : SessionState R} (tables : Option (List (List Try))) → (r : IsReleasedAtExit rules (rules_by permits mid) image handed told there before noted code mid)
      → IsEnding (rules_by permits mid) image (told_since there.told before noted tables tables 0) there mid (session_end.Exited code)
  exit_is {image = image} {there = there} {before = before} {noted = noted} {code = code} {mid = mid} tables r =
      subst (λ (x : Rules). IsEnding x image (told_since there.told before noted tables tables 0) there mid (session_end.Exited code)) (sym r.here_is) (r.ends tables)

  -- It was released where its guest ended itself, and that end was finished.
  pub took_exit : {Outside : Type 0} {handed : Handed} {before there seen : Seen} {shown noted now : Shown} {first last counted code : ℕ} {tables_before tables : Option (List (List Try))} {old mid new : SessionState R} {answered : Answer} (why : Stop)
      → HasGoneWell Outside before there shown noted first last old mid
      → ((image : Image) → IsBegun image old.options old.cpu.rule old → IsReleasedAtExit (rules_by permits old) (rules_by permits mid) image handed before.told there shown.told noted.told code mid)
      → ((image : Image) (began : Since) (began_at : Seen) (ending : IsEnding (rules_by permits mid) image (record began { told = began_at.told; noted = noted.told }) there mid (session_end.Exited code))
      → IsFinishing (rules_by permits mid) began_at there ending.story (session_end.Exited code) → IsTrimmed mid
      → (watched : HasWatched (rules_by permits mid) image (keeping_of new) began_at seen (outcome_of why new) began.noted_before now.told (began.lost + mid.steps) began.tables_before began.tables)
      × LeavesBy (rules_by permits mid) image began.noted_before.unnoted now.told.unnoted watched.recovered.telling new why)
      → Finishes there seen noted now (session_end.Exited code) why → keeping_of new ≡ keeping_of mid → 0 + mid.steps ≡ counted → answered ≡ answer_of why → tables ≡ tables_before
      → HasTakenOver (rules_by permits old) handed before seen shown now counted tables_before tables old new answered
  took_exit {handed = handed} {before = before} {there = there} {seen = seen} {shown = shown} {noted = noted} {now = now} {counted = counted} {code = code} {tables_before = tables_before} {tables = tables} {old = old} {mid = mid} {new = new} why w exits finishes shows keeps same is told = record {
    why = why;
    is = is;
    there = there;
    known = w.known;
    served = by;
    keeping = keeps ∙ w.keeping;
    link =
        answers_finished {old = before} {mid = there} {now = there} {new = seen} {ledger = mid.replies} w.known w.no_takes_fell w.no_gives_fell refl
        (exited_serves code w.may) shows.link;
    notes = notes_finished w.no_faults_fell refl (unnoted_serves (Err (stop.Ends (session_end.Exited code))) tt) shows.notes;
  }
    where
      by : (image : Image) → IsBegun image old.options old.cpu.rule old → TookOver (rules_by permits old) image handed (keeping_for old.options) before.told there seen shown.told now.told counted tables_before tables new why
      by image begun =
          let r = exits image begun in
          let next : Rules = rules_behind (rules_by permits old) handed r.events r.released in
          let ending = exit_is tables r in
          let both = finishes image (told_since there.told shown.told noted.told tables tables 0) there ending (record { asked = λ fell. still_takes _ w.may.takes fell; takes = w.may.takes; known = known_same refl }) w.trimmed in
          let under = subst (λ (x : Rules). (watched : HasWatched x image (keeping_of new) there seen (outcome_of why new) shown.told now.told (0 + mid.steps) tables tables) × LeavesBy x image shown.told.unnoted now.told.unnoted watched.recovered.telling new why) r.here_is both in
          let kept = subst (λ (k : Keeping). (watched : HasWatched next image k there seen (outcome_of why new) shown.told now.told (0 + mid.steps) tables tables) × LeavesBy next image shown.told.unnoted now.told.unnoted watched.recovered.telling new why) (keeps ∙ w.keeping) under in
          let all = subst (λ (n : ℕ). (watched : HasWatched next image (keeping_for old.options) there seen (outcome_of why new) shown.told now.told n tables tables) × LeavesBy next image shown.told.unnoted now.told.unnoted watched.recovered.telling new why) same kept in
          subst (λ (t : Option (List (List Try))). TookOver (rules_by permits old) image handed (keeping_for old.options) before.told there seen shown.told now.told counted t tables new why) told
          (record { events = r.events; released = r.released; followed = r.followed; heard = r.heard; watched = all.0; leaves = all.1 })
