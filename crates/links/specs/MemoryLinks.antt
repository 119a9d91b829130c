-- The link in memory: a list of events that it plays, with the calls that are to fail and the gives that find their
-- connection gone.
use Rattle.std.specs.Prelude.{ℕ, ◌+◌, ◌≤◌, min, nat_lt, ◌==◌, true, false, List, [], ◌∷◌, ◌++◌, length, take, drop, Option, None, Some, Result, Ok, Err, IsOk, if◌then◌else◌, ◌≡◌}
use Rattle.links.specs.Terms.{Plan, after_call, fails_next, first_plan, one_more, Prefix, Entry, Given, All, Gone, LinkEvent, LinkFault, Memory, ReadFault, Refused, WriteFault}
use Rattle.links.specs.ConnectionTables.{phases_in, is_in_order}
use Rattle.links.specs.LinkForms.{told_by, handed_by, gives_below_4096}
use Rattle.links.specs.Links.{Phases, Coming, Comes, Refuses, Counts}
use Rattle.links.specs.Seen.{Seen}
use Rattle.links.specs.declared.journal.Entry.TheVariants as entry
use Rattle.links.specs.declared.journal.LinkEvent.TheVariants as event
use Rattle.links.specs.declared.memory_link.MemoryLink.{MemoryLink}
use Rattle.links.specs.declared.memory_link.LinkCounts.{LinkCounts}

-- the events to play and how many of them were taken, the calls that are to fail, and the numbers of the calls that find
-- their connection gone, each with how many bytes go out before
pub record Script : Type 0 where
  pub events : List LinkEvent
  pub taken : ℕ
  pub plan : Plan
  pub gones : List (ℕ × ℕ)

-- a script of which nothing was played yet
abbrev pub first_script : List LinkEvent → List ℕ → List (ℕ × ℕ) → Script
first_script events fails gones = record { events = events; taken = 0; plan = first_plan fails; gones = gones }

-- the first event, or Ends where there is none
abbrev pub event_or_ends : List LinkEvent → LinkEvent
event_or_ends [] = event.Ends
event_or_ends (first ∷ events) = first

-- the event that a take is to answer
abbrev pub next_event : Script → LinkEvent
next_event script = event_or_ends (drop script.taken script.events)

-- the next event comes if it is in order; else it is refused by kind 4 with its place in the list
abbrev pub next_coming : Phases → Script → Coming
next_coming phases script = if is_in_order phases (next_event script) then Comes (next_event script) else Refuses 4 script.taken

-- an event that comes is answered, and one that is refused is a fault
abbrev pub next_answer : Phases → Script → Result LinkEvent LinkFault
next_answer phases script = if is_in_order phases (next_event script) then Ok (next_event script) else Err (Refused 4 script.taken)

-- what a call of `next` is to answer
abbrev pub planned_next : Phases → Script → Result LinkEvent LinkFault
planned_next phases script = if fails_next script.plan then Err ReadFault else next_answer phases script

-- how many bytes go out before the connection is gone, if the call with this number is to find it so
abbrev pub gone_at : ℕ → List (ℕ × ℕ) → Option ℕ
gone_at call [] = None
gone_at call (gone ∷ gones) = if gone.0 == call then Some gone.1 else gone_at call gones

-- all of a piece of this length is given, or what goes out of it before its connection is gone
abbrev pub given_of : ℕ → Option ℕ → Given
given_of length None = All
given_of length (Some count) = Gone (min count length)

-- no more bytes go out than a piece of this length has
abbrev pub IsWithin : ℕ → Given → Type 0
IsWithin length All = Unit {0}
IsWithin length (Gone count) = count ≤ length

-- what a call of `give` is to answer
abbrev pub planned_give : ℕ → Script → Result Given LinkFault
planned_give length script = if fails_next script.plan then Err WriteFault else Ok (given_of length (gone_at (one_more script.plan.calls) script.gones))

-- the answer is the one that was planned; where that is an event or a piece, memory may run out
abbrev pub AnswersAs : {T : Type 0} → Result T LinkFault → Result T LinkFault → Type 0
AnswersAs planned (Ok answer) = planned ≡ Ok answer
AnswersAs planned (Err Memory) = IsOk planned
AnswersAs planned (Err fault) = planned ≡ Err fault

-- a call was made
abbrev pub after_script_call : Script → Script
after_script_call script = record script { plan = after_call script.plan }

-- Of a list of this length one more event was taken, if `next` answered one. An Ends isn't gone past, in the list or behind it.
abbrev pub taken_after : ℕ → ℕ → Result LinkEvent LinkFault → ℕ
taken_after length taken (Ok event.Ends) = taken
taken_after length taken (Ok other) = if nat_lt taken length then taken + 1 else taken
taken_after length taken (Err fault) = taken

-- a take was made; where it answered an event, one more was taken
abbrev pub after_next : Script → Result LinkEvent LinkFault → Script
after_next script result = record (after_script_call script) { taken = taken_after (length script.events) script.taken result }

-- `ReadFault` raises the count of failed takes, and nothing else raises a count
abbrev pub counts_after_next : Counts → Result LinkEvent LinkFault → Counts
counts_after_next counts (Err ReadFault) = record counts { takes = one_more counts.takes }
counts_after_next counts _ = counts

-- `WriteFault` raises the count of failed gives, `Gone` its own, and nothing else raises a count
abbrev pub counts_after_give : Counts → Result Given LinkFault → Counts
counts_after_give counts (Err WriteFault) = record counts { gives = one_more counts.gives }
counts_after_give counts (Ok (Gone count)) = record counts { gones = one_more counts.gones }
counts_after_give counts _ = counts

-- the journal's entry of a piece: all its bytes, or those that went out before its connection was gone
abbrev pub given_entry : ℕ → List ℕ → Given → Entry
given_entry conn bytes All = entry.Gave conn bytes false
given_entry conn bytes (Gone count) = entry.Gave conn (take count bytes) true

-- an event that was taken, or a piece that was given, is one more entry; without one there is none
abbrev pub after_taking : List Entry → Result LinkEvent LinkFault → List Entry
after_taking entries (Ok event) = entries ++ entry.Took event ∷ []
after_taking entries (Err fault) = entries

abbrev pub after_giving : ℕ → List ℕ → List Entry → Result Given LinkFault → List Entry
after_giving conn bytes entries (Ok given) = entries ++ given_entry conn bytes given ∷ []
after_giving conn bytes entries (Err fault) = entries

-- what a link has still to play
abbrev pub link_script : MemoryLink → Script
link_script link = record { events = link.events.items; taken = link.taken; plan = link.fails; gones = link.gones.items }

-- what a link took and gave, in order
abbrev pub link_journal : MemoryLink → List Entry
link_journal link = link.journal.items

-- whether each connection of a link never opened, is open, or closed
abbrev pub link_phases : MemoryLink → Phases
link_phases link = phases_in link.table

-- what the next take of a link comes to
abbrev pub link_coming : MemoryLink → Coming
link_coming link = next_coming (link_phases link) (link_script link)

-- how often takes and gives failed, and how often a give found its connection gone
abbrev pub counts_in : LinkCounts → Counts
counts_in counts = record { takes = counts.takes; gives = counts.gives; gones = counts.gones }

-- those numbers of a link
abbrev pub link_counts : MemoryLink → Counts
link_counts link = counts_in link.counts

-- what the link shows: it tells its whole journal, and gives to each connection below 4096 at all times
abbrev pub seen_in : MemoryLink → Seen
seen_in link = record {
  told = told_by (link_journal link);
  phases = link_phases link;
  coming = Some (link_coming link);
  handed = handed_by link.handed;
  gives_to = gives_below_4096;
  takes = link.takes;
  gives = link.gives;
  counts = link_counts link;
}

-- the events to play stay, and the journal grew at its end
pub record MemoryWent (old new : MemoryLink) : Type 0 where
  pub played : new.events.items ≡ old.events.items
  pub grew : Prefix (link_journal old) (link_journal new)

-- a take went as planned, unless memory ran out: its answer, and what it left to play, noted and counted
pub record PlaysNext (old new : MemoryLink) (result : Result LinkEvent LinkFault) : Type 0 where
  pub answer : AnswersAs (planned_next (link_phases old) (link_script old)) result
  pub script : link_script new ≡ after_next (link_script old) result
  pub journal : link_journal new ≡ after_taking (link_journal old) result
  pub counts : link_counts new ≡ counts_after_next (link_counts old) result

-- a give went as planned, unless memory ran out: its answer, and what it left to play, noted and counted
pub record PlaysGive (old new : MemoryLink) (conn : ℕ) (bytes : List ℕ) (result : Result Given LinkFault) : Type 0 where
  pub answer : AnswersAs (planned_give (length bytes) (link_script old)) result
  pub script : link_script new ≡ after_script_call (link_script old)
  pub journal : link_journal new ≡ after_giving conn bytes (link_journal old) result
  pub counts : link_counts new ≡ counts_after_give (link_counts old) result
