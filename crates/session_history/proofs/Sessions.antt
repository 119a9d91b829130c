-- One lemma for each event of a session: what it makes of the account.
use Rattle.links.specs.declared.journal.Entry.TheVariants as entry
use Rattle.session_history.proofs.Terms.{Bool, List, Option, [], ap, append-nil, append_assoc, false, refl, subst, sym, true, ℕ, ◌++◌, ◌∙◌, ◌∷◌, ◌≡◌, ◌≤◌, is_some, Item, Entry, LinkEvent, Image, start, start_machine, Override, Path, Served, origin, SessionEnd, items_in, received, Covers, IsFeasible, passed_in, Moment, AreDue, AreLawful, Chapter, IsDueAt, IsDueEvent, IsDuePiece, IsPrompt, IsWholePiece, LeavesNothing, Rules, Survivor, entries_of, from_there, gone_on, place_of, IsAccount, Carries, IsSoundBefore, Serving, first_survivor, moment_of}
use Rattle.session_history.proofs.Passing.{timed_on}
use Rattle.session_history.proofs.Accounts.{went, carries_on, carries_event, carries_piece, carries_run}
use Rattle.session_history.proofs.Paths.{served_with}
use Rattle.session_history.proofs.Prompt.{prompt_none}
use Rattle.session_history.proofs.Heeding.{items_in-gave}
use Rattle.session_history.proofs.Due.{are_due_on, are_due_with, are_due_then, are_lawful_with}

pub serving_first : (rules : Rules) (image : Image) → IsSoundBefore rules image → Serving rules image [] (first_survivor rules image) []
serving_first rules image sound = record { carries = sound.carries; begins = sound.carries.served; before = tt; due = prompt_none rules (items_in rules.bounds []) (first_survivor rules image) (place_of [] [] false) }

-- the survivor goes on where it owes nothing, to any run that took received items alone
pub serving_on : (rules : Rules) (image : Image) (earlier : List Chapter) (survivor : Survivor) (since : List Entry) (to : Path) → Serving rules image earlier survivor since
    → IsPrompt rules (items_in rules.bounds (entries_of earlier ++ since)) (gone_on (from_there survivor survivor.now) to) (place_of earlier since false) → to.state.machine.taken ≤ received rules.bounds (entries_of earlier ++ since)
    → Serving rules image earlier (gone_on survivor to) since
serving_on rules image earlier survivor since to serving on taken = record {
  carries = carries_on rules image (entries_of earlier ++ since) survivor.plan survivor.now to serving.carries on.ran taken;
  begins = serving.begins;
  before = serving.before;
  due = are_due_on rules (items_in rules.bounds (entries_of earlier ++ since)) survivor to (place_of earlier [] false) since on serving.due;
}

-- an event that is due where the survivor stands is taken: with the items that it brings, or none where it is refused
pub serving_event : (rules : Rules) (image : Image) (earlier : List Chapter) (survivor : Survivor) (since : List Entry) (event : LinkEvent) (more : List Item) → Serving rules image earlier survivor since
    → IsDueEvent rules survivor.plan survivor.now (moment_of earlier since survivor.now.state.machine.taken)
    → items_in rules.bounds ((entries_of earlier ++ since) ++ entry.Took event ∷ []) ≡ items_in rules.bounds (entries_of earlier ++ since) ++ more
    → Serving rules image earlier survivor (since ++ entry.Took event ∷ [])
serving_event rules image earlier survivor since event more serving due brings =
    let entries : List Entry = entries_of earlier ++ since in
    let items : List Item = items_in rules.bounds entries in
    let same : entries ++ entry.Took event ∷ [] ≡ entries_of earlier ++ (since ++ entry.Took event ∷ []) = append_assoc (entries_of earlier) since (entry.Took event ∷ []) in
    let grown : items ++ more ≡ items_in rules.bounds (entries_of earlier ++ (since ++ entry.Took event ∷ [])) = sym brings ∙ ap (items_in rules.bounds) same in
    record {
      carries = subst (λ es. Carries rules image es survivor.plan survivor.now) same (carries_event rules image entries event more survivor.plan survivor.now serving.carries brings);
      begins = subst (λ its. Served rules.limits its survivor.plan (origin image) survivor.begun) grown (served_with rules.limits items more survivor.plan (origin image) survivor.begun serving.begins);
      before = subst (λ its. AreLawful rules its [] earlier) grown (are_lawful_with rules items more [] earlier serving.before);
      due =
          subst (λ its. AreDue rules its survivor (place_of earlier [] false) (since ++ entry.Took event ∷ [])) grown
          (are_due_then rules (items ++ more) survivor (place_of earlier [] false) since (entry.Took event) (are_due_with rules items more survivor (place_of earlier [] false) since serving.due)
          (record { early = serving.carries.taken; due = due }));
    }

-- a piece that is due is passed, whole, or in part to a connection that is gone
pub piece_due : (rules : Rules) (plan : List Override) (path : Path) (moment : Moment) (conn : ℕ) (bytes : List ℕ) (gone : Bool) → IsDueAt rules plan path moment (entry.Gave conn bytes gone) → IsDuePiece rules path.state.sends moment conn bytes
piece_due rules plan path moment conn bytes true due = due
piece_due rules plan path moment conn bytes false due = let whole : IsWholePiece rules path.state.sends moment conn bytes = due in whole.due

pub serving_piece : (rules : Rules) (image : Image) (earlier : List Chapter) (survivor : Survivor) (since : List Entry) (conn : ℕ) (bytes : List ℕ) (gone : Bool) → Serving rules image earlier survivor since
    → IsDueAt rules survivor.plan survivor.now (moment_of earlier since survivor.now.state.machine.taken) (entry.Gave conn bytes gone)
    → Serving rules image earlier survivor (since ++ entry.Gave conn bytes gone ∷ [])
serving_piece rules image earlier survivor since conn bytes gone serving due =
    let entries : List Entry = entries_of earlier ++ since in
    let items : List Item = items_in rules.bounds entries in
    let same : entries ++ entry.Gave conn bytes gone ∷ [] ≡ entries_of earlier ++ (since ++ entry.Gave conn bytes gone ∷ []) = append_assoc (entries_of earlier) since (entry.Gave conn bytes gone ∷ []) in
    let kept : items ≡ items_in rules.bounds (entries_of earlier ++ (since ++ entry.Gave conn bytes gone ∷ [])) = sym (items_in-gave rules.bounds entries conn bytes gone) ∙ ap (items_in rules.bounds) same in
    record {
      carries =
          subst (λ es. Carries rules image es survivor.plan survivor.now) same
          (carries_piece rules image (moment_of earlier since survivor.now.state.machine.taken) conn bytes gone survivor.plan survivor.now serving.carries
          (piece_due rules survivor.plan survivor.now (moment_of earlier since survivor.now.state.machine.taken) conn bytes gone due));
      begins = subst (λ its. Served rules.limits its survivor.plan (origin image) survivor.begun) kept serving.begins;
      before = subst (λ its. AreLawful rules its [] earlier) kept serving.before;
      due =
          subst (λ its. AreDue rules its survivor (place_of earlier [] false) (since ++ entry.Gave conn bytes gone ∷ [])) kept
          (are_due_then rules items survivor (place_of earlier [] false) since (entry.Gave conn bytes gone) serving.due (record { early = serving.carries.taken; due = due }));
    }

-- a session that serves has an account
pub serving_account : (rules : Rules) (image : Image) (earlier : List Chapter) (survivor : Survivor) (since : List Entry) (came : Option SessionEnd) → Serving rules image earlier survivor since
    → IsAccount rules image (record { earlier = earlier; survivor = survivor; since = since; came = came; ending = []; broken = [] })
serving_account rules image earlier survivor since came serving =
    let entries : List Entry = entries_of earlier ++ since in
    let none : entries ≡ entries_of earlier ++ (since ++ []) = ap (λ es. entries_of earlier ++ es) (sym (append-nil since)) in
    let items : items_in rules.bounds entries ≡ items_in rules.bounds (entries_of earlier ++ (since ++ [])) = ap (items_in rules.bounds) none in
    let carries : Carries rules image (entries_of earlier ++ (since ++ [])) survivor.plan survivor.now = subst (λ es. Carries rules image es survivor.plan survivor.now) none serving.carries in
    record {
      ran = carries_run rules image (entries_of earlier ++ (since ++ [])) survivor.plan survivor.now carries;
      served = carries.served;
      begins = subst (λ its. Served rules.limits its survivor.plan (origin image) survivor.begun) items serving.begins;
      taken = carries.taken;
      passed = carries.covers;
      feasible = carries.feasible;
      ordered = carries.ordered;
      earlier = subst (λ its. AreLawful rules its [] earlier) items serving.before;
      since = subst (λ its. AreDue rules its survivor (place_of earlier [] false) since) items serving.due;
      ending = prompt_none rules (items_in rules.bounds (entries_of earlier ++ (since ++ []))) survivor (place_of earlier since (is_some came));
      broken = tt;
    }

-- the entries of some chapters, and of one more
pub entries_of-then : (chapters : List Chapter) (chapter : Chapter) → entries_of (chapters ++ chapter ∷ []) ≡ entries_of chapters ++ chapter.entries
entries_of-then [] chapter = append-nil chapter.entries
entries_of-then (first ∷ chapters) chapter = ap (λ es. first.entries ++ es) (entries_of-then chapters chapter) ∙ sym (append_assoc first.entries (entries_of chapters) chapter.entries)

-- one more chapter that is lawful behind those that are
are_lawful_then : (rules : Rules) (items : List Item) (before : List Entry) (chapters : List Chapter) (chapter : Chapter) → AreLawful rules items before chapters
    → AreDue rules items chapter.survivor (record { start = before ++ entries_of chapters; since = []; at_end = false }) chapter.entries → LeavesNothing rules (before ++ entries_of chapters) chapter.entries chapter.survivor
    → AreLawful rules items before (chapters ++ chapter ∷ [])
are_lawful_then rules items before [] chapter are due leaves = (
  subst (λ start. AreDue rules items chapter.survivor (record { start = start; since = []; at_end = false }) chapter.entries) (append-nil before) due,
  subst (λ start. LeavesNothing rules start chapter.entries chapter.survivor) (append-nil before) leaves,
  tt,
)
are_lawful_then rules items before (first ∷ chapters) chapter are due leaves =
    let same : before ++ (first.entries ++ entries_of chapters) ≡ (before ++ first.entries) ++ entries_of chapters = sym (append_assoc before first.entries (entries_of chapters)) in (
      are.0,
      are.1,
      are_lawful_then rules items (before ++ first.entries) chapters chapter are.2
          (subst (λ start. AreDue rules items chapter.survivor (record { start = start; since = []; at_end = false }) chapter.entries) same due)
          (subst (λ start. LeavesNothing rules start chapter.entries chapter.survivor) same leaves),
    )

-- another survivor is adopted where this one owes nothing: a run from the start under its plan, which emits what was passed, and in time
pub serving_adopts : (rules : Rules) (image : Image) (earlier : List Chapter) (survivor : Survivor) (since : List Entry) (plan : List Override) (to : Path) → Serving rules image earlier survivor since → LeavesNothing rules (entries_of earlier) since survivor
    → Served rules.limits (items_in rules.bounds (entries_of earlier ++ since)) plan (origin image) to → to.state.machine.taken ≤ received rules.bounds (entries_of earlier ++ since)
    → Covers (passed_in rules.bounds (entries_of earlier ++ since)) to.state → IsFeasible (passed_in rules.bounds (entries_of earlier ++ since)) to.state
    → Serving rules image (earlier ++ record { survivor = survivor; entries = since } ∷ []) (record { plan = plan; begun = to; now = to }) []
unfolding start start_machine
serving_adopts rules image earlier survivor since plan to serving leaves ran taken covers feasible =
    let entries : List Entry = entries_of earlier ++ since in
    let items : List Item = items_in rules.bounds entries in
    let chapter : Chapter = record { survivor = survivor; entries = since } in
    let same : entries ≡ entries_of (earlier ++ chapter ∷ []) ++ [] = sym (entries_of-then earlier chapter) ∙ sym (append-nil (entries_of (earlier ++ chapter ∷ []))) in
    let carries : Carries rules image entries plan to = record {
      served = ran;
      taken = taken;
      covers = covers;
      feasible = feasible;
      ordered = serving.carries.ordered;
      timed = timed_on (origin image).state to.state (went rules.limits items plan (origin image) to refl ran).grows tt;
    } in
    record {
      carries = subst (λ es. Carries rules image es plan to) same carries;
      begins = subst (λ es. Served rules.limits (items_in rules.bounds es) plan (origin image) to) same ran;
      before = subst (λ es. AreLawful rules (items_in rules.bounds es) [] (earlier ++ chapter ∷ [])) same (are_lawful_then rules items [] earlier chapter serving.before serving.due leaves);
      due = prompt_none rules (items_in rules.bounds (entries_of (earlier ++ chapter ∷ []) ++ [])) (record { plan = plan; begun = to; now = to }) (place_of (earlier ++ chapter ∷ []) [] false);
    }
