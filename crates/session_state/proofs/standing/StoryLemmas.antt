-- A story goes on: its survivor, or its entries.
use Rattle.session_history.proofs.Prompt.{prompt_one}
use Rattle.session_state.proofs.Terms.{Bool, None, [], ap, append-nil, arith, false, inl, inr, length, length-append, sym, true, ◌++◌, ◌+◌, ◌∙◌, ◌∷◌, ◌≡◌, ◌≤◌, true≢false, Send, Told, Image, Path, Served, served_on, serving_on, Session, journal_of, items_in, received, Rules, entries_of, gone_on, moves, place_of, IsOwed, IsPassed, OwesNothing, first_survivor, recovered_on, HasPassedDue, IsLatestDone, IsTold, Since, Story, entries, moment, sends}

-- the story with its survivor at another path
abbrev pub on_story : Story → Path → Story
on_story story to = record story { survivor = gone_on story.survivor to }

-- the story as a session that was broken off where it stood
abbrev pub account_of : Story → Session
account_of story = record { earlier = story.earlier; survivor = story.survivor; since = story.since; came = None; ending = []; broken = [] }

-- an event that may be taken still didn't fail
pub still_takes : {takes : Bool} (P : Type 0) → takes ≡ true → takes ≡ false → P
still_takes P still none = absurd (true≢false (sym still ∙ none))

pub journal_of_story : (story : Story) → journal_of (account_of story) ≡ entries story
journal_of_story story = ap (λ es. entries_of story.earlier ++ es) (append-nil story.since)

-- where what was due was passed, and so was what the latest event makes owed, nothing is owed
pub owes_nothing : (rules : Rules) (story : Story) → HasPassedDue rules story → IsLatestDone rules (moment story) (sends story)
    → OwesNothing rules.bounds rules.hold (moment story) (sends story)
owes_nothing rules story due done send stands owed = of owed
  where
    of : IsOwed rules.bounds rules.hold (moment story) send → IsPassed rules.bounds (entries story) (sends story) send stands
    of (inl (still, inl early)) = due send stands still early
    of (inl (still, inr ended)) = absurd (let no : ⊥ = cc in no)
    of (inr made) = done send stands made

-- no move was made, or one: no item was taken, and nothing sent; or a send was made; or an item was taken
pub moves_none : (first second : Path) → second.state.machine.taken ≡ first.state.machine.taken → second.state.sends ≡ first.state.sends → moves second ≤ moves first + 1
moves_none first second taken same = let count = ap length same in omega (arith, taken, count)

pub moves_sent : (first second : Path) (send : Send) → second.state.machine.taken ≡ first.state.machine.taken → second.state.sends ≡ first.state.sends ++ send ∷ [] → moves second ≤ moves first + 1
moves_sent first second send taken same = let count = ap length same ∙ length-append first.state.sends (send ∷ []) in omega (arith, taken, count)

pub moves_took : (first second : Path) → second.state.machine.taken ≡ first.state.machine.taken + 1 → second.state.sends ≡ first.state.sends → moves second ≤ moves first + 1
moves_took first second taken same = let count = ap length same in omega (arith, taken, count)

-- its survivor goes on by a move at most, from where all that is owed was passed
pub told_on : {rules : Rules} {image : Image} {began : Since} {now : Told} {story : Story} {to : Path} → IsTold rules image began now story → HasPassedDue rules story → IsLatestDone rules (moment story) (sends story)
    → Served rules.limits (items_in rules.bounds (entries story)) story.survivor.plan story.survivor.now to → moves to ≤ moves story.survivor.now + 1 → to.state.machine.taken ≤ received rules.bounds (entries story)
    → IsTold rules image began now (on_story story to)
told_on {rules = rules} {image = image} {story = story} {to = to} told due done on few taken = record {
  serving =
      serving_on rules image story.earlier story.survivor story.since to told.serving
      (prompt_one rules (items_in rules.bounds (entries story)) story.survivor to (place_of story.earlier story.since false) on few (owes_nothing rules story due done)) taken;
  way = served_on rules.limits (items_in rules.bounds (entries story)) story.survivor.plan story.survivor.begun story.survivor.now to told.way on;
  tells = told.tells;
  recovered = recovered_on rules image [] (first_survivor rules image) story.earlier story.recoveries story.survivor to told.recovered;
  counted = told.counted;
  episodes = told.episodes;
  tables = told.tables;
}
