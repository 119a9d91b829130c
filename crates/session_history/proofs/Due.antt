-- Entries that were due stay so while the survivor goes on and more items come, and one more entry comes behind them.
use Rattle.session_history.proofs.Terms.{List, [], append-nil, append_assoc, false, subst, sym, ◌++◌, ◌∷◌, ◌≤◌, Item, Entry, Override, Path, Served, received, Place, moment_at, AreDue, AreLawful, Chapter, IsDue, IsDueAt, IsPrompt, Rules, Survivor, from_there, gone_on, then_place}
use Rattle.session_history.proofs.Paths.{served_same, served_on, served_with}
use Rattle.session_history.proofs.Prompt.{prompt_none, prompt_on, prompt_with}

-- an entry that was due stays so while the survivor goes on
abbrev pub due_on : (rules : Rules) (items : List Item) (survivor : Survivor) (to : Path) (place : Place) (entry : Entry) → Served rules.limits items survivor.plan survivor.now to → IsDue rules items survivor place entry
    → IsDue rules items (gone_on survivor to) place entry
due_on rules items survivor to place entry on due = record {
  way = record { path = due.way.path; from = due.way.from; on = served_on rules.limits items survivor.plan due.way.path survivor.now to due.way.on on };
  early = due.early;
  due = due.due;
}

-- and while more items come
abbrev pub due_with : (rules : Rules) (items more : List Item) (survivor : Survivor) (place : Place) (entry : Entry) → IsDue rules items survivor place entry → IsDue rules (items ++ more) survivor place entry
due_with rules items more survivor place entry due = record {
  way = record {
    path = due.way.path;
    from = served_with rules.limits items more survivor.plan survivor.begun due.way.path due.way.from;
    on = served_with rules.limits items more survivor.plan due.way.path survivor.now due.way.on;
  };
  early = due.early;
  due = due.due;
}

-- and seen from an earlier place
due_from : (rules : Rules) (items : List Item) (survivor : Survivor) (path : Path) (place : Place) (entry : Entry) → Served rules.limits items survivor.plan survivor.begun path → IsDue rules items (from_there survivor path) place entry
    → IsDue rules items survivor place entry
due_from rules items survivor path place entry from due = record {
  way = record { path = due.way.path; from = served_on rules.limits items survivor.plan survivor.begun path due.way.path from due.way.from; on = due.way.on };
  early = due.early;
  due = due.due;
}

-- a place behind some entries
abbrev pub behind_all : Place → List Entry → Place
behind_all place entries = record place { since = place.since ++ entries }

-- all of them, where the survivor went on only where it owed nothing
pub are_due_on : (rules : Rules) (items : List Item) (survivor : Survivor) (to : Path) (place : Place) (entries : List Entry) → IsPrompt rules items (gone_on (from_there survivor survivor.now) to) (behind_all place entries)
    → AreDue rules items survivor place entries → AreDue rules items (gone_on survivor to) place entries
are_due_on rules items survivor to place [] on are =
    prompt_on rules items survivor to place are (subst (λ since. IsPrompt rules items (gone_on (from_there survivor survivor.now) to) (record place { since = since })) (append-nil place.since) on)
are_due_on rules items survivor to place (e ∷ entries) on are = (
  due_on rules items survivor to place e on.ran are.0,
  are.1,
  are_due_on rules items (from_there survivor are.0.way.path) to (then_place place e) entries
      (subst (λ since. IsPrompt rules items (gone_on (from_there survivor survivor.now) to) (record place { since = since })) (sym (append_assoc place.since (e ∷ []) entries)) on) are.2,
)

pub are_due_with : (rules : Rules) (items more : List Item) (survivor : Survivor) (place : Place) (entries : List Entry) → AreDue rules items survivor place entries → AreDue rules (items ++ more) survivor place entries
are_due_with rules items more survivor place [] are = prompt_with rules items more survivor place are
are_due_with rules items more survivor place (e ∷ entries) are = (
  due_with rules items more survivor place e are.0,
  prompt_with rules items more (gone_on survivor are.0.way.path) place are.1,
  are_due_with rules items more (from_there survivor are.0.way.path) (then_place place e) entries are.2,
)

pub are_lawful_with : (rules : Rules) (items more : List Item) (before : List Entry) (chapters : List Chapter) → AreLawful rules items before chapters → AreLawful rules (items ++ more) before chapters
are_lawful_with rules items more before [] are = are
are_lawful_with rules items more before (chapter ∷ chapters) are =
    (are_due_with rules items more chapter.survivor (record { start = before; since = []; at_end = false }) chapter.entries are.0, are.1, are_lawful_with rules items more (before ++ chapter.entries) chapters are.2)

-- what comes where the survivor stands
pub record IsDueHere (rules : Rules) (plan : List Override) (now : Path) (place : Place) (e : Entry) : Type 0 where
  pub early : now.state.machine.taken ≤ received rules.bounds (place.start ++ place.since)
  pub due : IsDueAt rules plan now (moment_at place now.state.machine.taken) e

-- it comes behind those that were due
pub are_due_then : (rules : Rules) (items : List Item) (survivor : Survivor) (place : Place) (entries : List Entry) (e : Entry) → AreDue rules items survivor place entries
    → IsDueHere rules survivor.plan survivor.now (behind_all place entries) e → AreDue rules items survivor place (entries ++ e ∷ [])
are_due_then rules items survivor place [] e are due =
    let here : IsDueHere rules survivor.plan survivor.now place e = subst (λ since. IsDueHere rules survivor.plan survivor.now (record place { since = since }) e) (append-nil place.since) due in (
      record { way = record { path = survivor.now; from = are.ran; on = served_same rules.limits items survivor.plan survivor.now }; early = here.early; due = here.due },
      are,
      prompt_none rules items survivor (then_place place e),
    )
are_due_then rules items survivor place (first ∷ entries) e are due = (
  are.0,
  are.1,
  are_due_then rules items (from_there survivor are.0.way.path) (then_place place first) entries e are.2
      (subst (λ since. IsDueHere rules survivor.plan survivor.now (record place { since = since }) e) (sym (append_assoc place.since (first ∷ []) entries)) due),
)

-- where the survivor stands now it went from where it began
pub due_ran : (rules : Rules) (items : List Item) (survivor : Survivor) (place : Place) (entries : List Entry) → AreDue rules items survivor place entries → Served rules.limits items survivor.plan survivor.begun survivor.now
due_ran rules items survivor place [] are = are.ran
due_ran rules items survivor place (e ∷ entries) are = served_on rules.limits items survivor.plan survivor.begun are.0.way.path survivor.now are.0.way.from are.0.way.on

-- each of some entries was due, seen from where the survivor began
abbrev pub EachDue : Rules → List Item → Survivor → Place → List Entry → Type 0
EachDue rules items survivor place [] = Unit {0}
EachDue rules items survivor place (e ∷ entries) = IsDue rules items survivor place e × EachDue rules items survivor (then_place place e) entries

pub each_due : (rules : Rules) (items : List Item) (survivor : Survivor) (path : Path) (place : Place) (entries : List Entry) → Served rules.limits items survivor.plan survivor.begun path
    → AreDue rules items (from_there survivor path) place entries → EachDue rules items survivor place entries
each_due rules items survivor path place [] from are = tt
each_due rules items survivor path place (e ∷ entries) from are =
    let due : IsDue rules items survivor place e = due_from rules items survivor path place e from are.0 in
    (due, each_due rules items survivor are.0.way.path (then_place place e) entries (served_on rules.limits items survivor.plan survivor.begun path are.0.way.path from are.0.way.from) are.2)
