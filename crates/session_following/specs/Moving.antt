-- What came before a session that follows, behind each of its steps: what its code has at hand tells it.
use Rattle.std.specs.Prelude.{ℕ, ◌+◌, List, [], ◌∷◌, ◌++◌, option_map, take}
use Rattle.links.specs.declared.journal.Entry.TheVariants as entry
use Rattle.session_following.specs.Terms.{Send, LinkEvent, events_in, Choice, Env, Image, Override, Path, origin, Standing, Before}
use Rattle.session_following.specs.Following.{came_before}

-- a run by where its guest stands, its sends and the answers of the allocator that it used
abbrev pub path_at : Standing → List Send → List Choice → Path
path_at standing sends choices = record {
  state = record { machine = standing.guest.machine; sends = sends; ended = standing.ended };
  heap = standing.guest.heap;
  choices = choices;
  steps = standing.steps;
}

-- a run that went on to there, and sent this and used these answers more
abbrev pub moved_on : Standing → List Send → List Choice → Path → Path
moved_on standing sends choices path = path_at standing (path.state.sends ++ sends) (path.choices ++ choices)

-- the run went on, and sent nothing
abbrev pub before_moved : Before → Standing → List Choice → Before
before_moved before standing choices = record before { stood = option_map (moved_on standing [] choices) before.stood }

-- it sent, and clients have so many bytes of that
abbrev pub before_sent : Before → Standing → Send → ℕ → Before
before_sent before standing send count = record before { had = before.had ++ record send { bytes = take count send.bytes } ∷ []; stood = option_map (moved_on standing (send ∷ []) []) before.stood }

-- it took an item, behind which it is in this environment up to the next one
abbrev pub before_took : Before → Standing → Env → Before
before_took before standing env =
    record before { plan = record { low = standing.guest.machine.taken; until = standing.guest.machine.taken + 1; env = env } ∷ before.plan; stood = option_map (moved_on standing [] []) before.stood }

-- an event was heard
abbrev pub before_heard : Before → LinkEvent → Before
before_heard before event = record before { events = before.events ++ events_in (entry.Took event ∷ []) }

-- it begins, in an environment up to its first item
abbrev pub before_start : Image → Env → Before
before_start image env = came_before [] [] (record { low = 0; until = 1; env = env } ∷ []) (origin image)

-- the same, by where its guest stands then
abbrev pub before_begun : Standing → Env → Before
before_begun standing env = came_before [] [] (record { low = 0; until = 1; env = env } ∷ []) (path_at standing [] [])

-- it is released, under the plan of the report
abbrev pub before_released : Before → List Override → Before
before_released before plan = record before { plan = plan }
