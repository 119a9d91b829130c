-- The journal at a failure is the shortest.
use Rattle.links.specs.declared.journal.Entry.TheVariants as entry
use Rattle.session_history.specs.Heeding as heeding
use Rattle.session_history.proofs.Due.{behind_all}
use Rattle.session_history.proofs.Owing.{owed_later, latest_stands, due_at}
use Rattle.session_history.proofs.Endings.{fronts_same, given_broken, received_at_end}
use Rattle.trials.proofs.Terms.{Bool, List, None, Option, Some, [], ap, append-nil, append_assoc, arith, false, inl, inr, length, refl, subst, sym, ℕ, ◌++◌, ◌<◌, ◌∙◌, ◌∷◌, ◌≡◌, ◌≢◌, ◌≤◌, slice_get_within, MatchOption, is_some, slice_get, Item, Prefix, Send, sent_to, Entry, Choice, Image, Cause, repeated_keeps, allocated_keeps, received_keeps, serves_to, State, start, start_machine, after, does, AsksFor, FailsBy, Limits, Override, Path, Served, env_at, origin, planned_next, later_of, served_grows, ByChoice, ByEnd, ByItem, ByItself, BySend, Moved, moved, piece_due, after_ending, journal_of, AreGiven, items_in, AreDue, AreLawful, Chapter, IsDue, IsDueEvent, IsDuePiece, LeavesNothing, Rules, Survivor, entries_of, Latest, Place, Stands, latest, moment_at, passed_in, first_survivor, Trial, survivor_in, AreRecovered, IsRecovery, Recovery, adopted_by}
use Rattle.trials.specs.Shortest.{IsShortest, RecoveriesAreShortest, FailureIsShortest}
use Rattle.trials.proofs.Chained.{chained_from}
use Rattle.trials.proofs.Results.{asks_on, apart_asks_fails}

-- one instruction takes no item but the one that is there
after_within : (s t : State) (items : List Item) (choice : Option Choice) → after s (does (slice_get items s.machine.taken) choice s.machine) ≡ Some t → s.machine.taken ≤ length items → t.machine.taken ≤ length items
after_within s t items choice goes low = by (moved s t (slice_get items s.machine.taken) choice goes)
  where
    within : (u : State) → u ≡ t → u.machine.taken ≤ length items → t.machine.taken ≤ length items
    within u is few = subst (λ (v : State). v.machine.taken ≤ length items) is few

    by : Moved s t (slice_get items s.machine.taken) choice → t.machine.taken ≤ length items
    by (ByItself m alone is) = within _ is (omega (arith, low, alone.taken))
    by (BySend conn bytes m alone is) = within _ is (omega (arith, low, alone.0.taken))
    by (ByEnd code is) = within _ is low
    by (ByItem it at is) = within _ is (omega (arith, slice_get_within items s.machine.taken it at, (received_keeps it s.machine).taken))
    by (ByChoice ask it at may is) = within _ is (omega (arith, low, (allocated_keeps it s.machine).taken))

-- so does a run
taken_within : (limits : Limits) (items : List Item) (plan : List Override) (first second : Path) → Served limits items plan first second → first.state.machine.taken ≤ length items → second.state.machine.taken ≤ length items
taken_within limits items plan first second served =
    repeated_keeps (planned_next limits items plan) (λ a b. a.state.machine.taken ≤ length items → b.state.machine.taken ≤ length items) (λ a low. low) (λ a b c one other low. other (one low))
    (λ a b goes low. let parts = serves_to limits items (env_at limits.base plan a.state.machine.taken) a b goes in after_within a.state b.state items parts.given.chosen parts.goes low) served.more first second served.ran

-- a run that asked for an item, and fails later, took it
asked_took : (limits : Limits) (items : List Item) (plan : List Override) (path failed : Path) (item : ℕ) (cause : Cause) → AsksFor limits plan path item → Served limits items plan path failed → FailsBy limits plan failed cause
    → item < failed.state.machine.taken
asked_took limits items plan path failed item cause asks on fails =
    elim (later_of limits items plan path failed on) [
      | inl same ↦ absurd (apart_asks_fails limits plan path item cause asks (subst (λ (p : Path). FailsBy limits plan p cause) (sym same) fails))
      | inr later ↦ asks_on limits items plan path failed item asks later
    ]

-- where a survivor began
abbrev behind_start : List Entry → Place
behind_start start = record { start = start; since = []; at_end = false }

-- the last event brought an item that was taken
last_needed : (rules : Rules) (items : List Item) (start since : List Entry) (survivor : Survivor) (cause : Cause) → AreDue rules items survivor (behind_start start) since → FailsBy rules.limits survivor.plan survivor.now cause
    → (last : Latest) → latest since ≡ Some last → heeding.received rules.bounds (start ++ last.before) < survivor.now.state.machine.taken
last_needed rules items start since survivor cause due fails last is =
    let there = latest_stands since last is in
    let at = due_at rules items survivor (behind_start start) last.before (entry.Took last.event) there.after (subst (AreDue rules items survivor (behind_start start)) there.split due) in
    let asked : IsDueEvent rules survivor.plan at.way.path (moment_at (behind_all (behind_start start) last.before) at.way.path.state.machine.taken) = at.due in
    asked_took rules.limits items survivor.plan at.way.path survivor.now (heeding.received rules.bounds (start ++ last.before)) cause asked.asks at.way.on fails

-- a piece passed some of what the survivor owes there, where it stands now
piece_needed : (rules : Rules) (items : List Item) (start front : List Entry) (survivor : Survivor) (conn : ℕ) (bytes : List ℕ) (gone : Bool) → IsDue rules items survivor (record { start = start; since = front; at_end = false }) (entry.Gave conn bytes gone)
    → LeavesNothing rules start front survivor → ⊥
piece_needed rules items start front survivor conn bytes gone at leaves =
    let here : Place = record { start = start; since = front; at_end = false } in
    let due : IsDuePiece rules at.way.path.state.sends (moment_at here at.way.path.state.machine.taken) conn bytes = piece_due rules survivor.plan at.way.path (moment_at here at.way.path.state.machine.taken) conn bytes gone at.due in
    let grows = served_grows rules.limits items survivor.plan at.way.path survivor.now at.way.on in
    let stands : Stands survivor.now.state.sends due.send = record {
      earlier = due.stands.earlier;
      later = due.stands.later ++ grows.more;
      split = grows.sends ∙ ap (λ (l : List Send). l ++ grows.more) due.stands.split ∙ append_assoc due.stands.earlier (due.send ∷ due.stands.later) grows.more;
    } in
    let passed : List ℕ = sent_to conn (passed_in rules.bounds (start ++ front)) in
    let sent : List ℕ = sent_to conn (due.stands.earlier ++ due.send ∷ []) in
    let owed = owed_later rules.bounds rules.hold here at.way.path.state.machine.taken survivor.now.state.machine.taken due.send grows.taken due.owed in
    let all : Prefix sent passed =
    subst (λ (c : ℕ). Prefix (sent_to c (due.stands.earlier ++ due.send ∷ [])) (sent_to c (passed_in rules.bounds (start ++ front)))) due.to (leaves due.send stands owed) in
    let part : Prefix passed sent = (bytes ++ due.part.0, sym (append_assoc passed bytes due.part.0) ∙ due.part.1) in
    due.left (fronts_same passed sent part all)

pieces_needed : (rules : Rules) (items : List Item) (start front more : List Entry) (survivor : Survivor) → AreDue rules items survivor (behind_start start) (front ++ more) → more ≢ [] → AreGiven more → LeavesNothing rules start front survivor → ⊥
pieces_needed rules items start front [] survivor due some given leaves = some refl
pieces_needed rules items start front (entry.Took event ∷ more) survivor due some given leaves = given
pieces_needed rules items start front (entry.Gave conn bytes gone ∷ more) survivor due some given leaves =
    piece_needed rules items start front survivor conn bytes gone (due_at rules items survivor (behind_start start) front (entry.Gave conn bytes gone) more due) leaves

-- so the entries of its time are the shortest
are_shortest : (rules : Rules) (items : List Item) (start since : List Entry) (survivor : Survivor) (cause : Cause) → AreDue rules items survivor (behind_start start) since → LeavesNothing rules start since survivor
    → FailsBy rules.limits survivor.plan survivor.now cause → survivor.now.state.machine.taken ≤ heeding.received rules.bounds (start ++ since) → IsShortest rules start since survivor
are_shortest rules items start since survivor cause due leaves fails enough = record {
  enough = enough;
  fewest = last_needed rules items start since survivor cause due fails;
  owes_nothing = leaves;
  shortest = (λ front more split some given left.
      pieces_needed rules items start front more survivor (subst (AreDue rules items survivor (behind_start start)) split due) some given left);
}

-- what follows from each trial that may be there
of_trial : (o : Option Trial) (P : Trial → Type 0) (Q : Type 0) → ((trial : Trial) → P trial → Q) → MatchOption o ⊥ P → Q
of_trial None P Q so holds = absurd holds
of_trial (Some trial) P Q so holds = so trial holds

-- a survivor that was recovered took no more than it received
pub recovered_within : (rules : Rules) (image : Image) (entries : List Entry) (recovery : Recovery) → IsRecovery rules image entries recovery → recovery.survivor.now.state.machine.taken ≤ heeding.received rules.bounds entries
unfolding start start_machine
recovered_within rules image entries recovery was =
    let items : List Item = items_in rules.bounds entries in
    taken_within rules.limits items recovery.survivor.plan (origin image) recovery.survivor.now
    (chained_from rules.limits items recovery.survivor.plan image recovery.survivor.now recovery.ring was.chained) (omega arith)

chapter_shortest : (rules : Rules) (image : Image) (items : List Item) (before : List Entry) (chapter : Chapter) (recovery : Recovery) → AreDue rules items chapter.survivor (behind_start before) chapter.entries
    → LeavesNothing rules before chapter.entries chapter.survivor → recovery.survivor ≡ chapter.survivor → IsRecovery rules image (before ++ chapter.entries) recovery → IsShortest rules before chapter.entries chapter.survivor
chapter_shortest rules image items before chapter recovery due leaves same was =
    are_shortest rules items before chapter.entries chapter.survivor recovery.cause due leaves
    (subst (λ (s : Survivor). FailsBy rules.limits s.plan s.now recovery.cause) same was.fails)
    (subst (λ (s : Survivor). s.now.state.machine.taken ≤ heeding.received rules.bounds (before ++ chapter.entries)) same (recovered_within rules image (before ++ chapter.entries) recovery was))

chapters_shortest : (rules : Rules) (image : Image) (items : List Item) (before : List Entry) (first : Survivor) (front : List Chapter) (chapter : Chapter) (back : List Chapter) (recoveries : List Recovery) (now : Survivor)
    → AreLawful rules items before (front ++ chapter ∷ back) → AreRecovered rules image before first (front ++ chapter ∷ back) recoveries now → IsShortest rules (before ++ entries_of front) chapter.entries chapter.survivor
chapters_shortest rules image items before first [] chapter back [] now lawful are = absurd are
chapters_shortest rules image items before first [] chapter back (recovery ∷ recoveries) now lawful are =
    subst (λ (start : List Entry). IsShortest rules start chapter.entries chapter.survivor) (sym (append-nil before)) (chapter_shortest rules image items before chapter recovery lawful.0 lawful.1 are.1 are.2)
chapters_shortest rules image items before first (earlier ∷ front) chapter back [] now lawful are = absurd are
chapters_shortest rules image items before first (earlier ∷ front) chapter back (recovery ∷ recoveries) now lawful are =
    subst (λ (start : List Entry). IsShortest rules start chapter.entries chapter.survivor) (append_assoc before earlier.entries (entries_of front))
    (of_trial (survivor_in recovery.trials) (λ trial. AreRecovered rules image (before ++ earlier.entries) (adopted_by rules recovery trial) (front ++ chapter ∷ back) recoveries now)
    (IsShortest rules ((before ++ earlier.entries) ++ entries_of front) chapter.entries chapter.survivor)
    (λ trial rest. chapters_shortest rules image items (before ++ earlier.entries) (adopted_by rules recovery trial) front chapter back recoveries now lawful.2 rest) are.3)

pub recoveries_are_shortest : RecoveriesAreShortest
recoveries_are_shortest rules image session recoveries front chapter back account are split =
    chapters_shortest rules image (items_in rules.bounds (journal_of session)) [] (first_survivor rules image) front chapter back recoveries session.survivor (subst (AreLawful rules (items_in rules.bounds (journal_of session)) []) split account.earlier)
    (subst (λ (chapters : List Chapter). AreRecovered rules image [] (first_survivor rules image) chapters recoveries session.survivor) split are)

pub failure_is_shortest : FailureIsShortest
failure_is_shortest rules image session cause account given fails owes =
    are_shortest rules (items_in rules.bounds (journal_of session)) (entries_of session.earlier) session.since session.survivor cause account.since owes fails
    (subst (λ (items : List Item). session.survivor.now.state.machine.taken ≤ length items)
    (received_at_end rules.bounds session given (given_broken rules session.survivor.now.state.sends (after_ending session (is_some session.came)) session.broken account.broken)) account.taken)
