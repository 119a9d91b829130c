-- A served run: malloc, calloc, realloc and free are answered by the environment in force, an access rule is asked for each byte that is
-- touched, and a budget bounds the instructions between two items.
use Rattle.std.specs.Prelude.{◌≡◌, ℕ, ◌+◌, Bool, false, not, List, [], ◌∷◌, ◌++◌, Option, Some, None, is_some, option_map, slice_get, nat_le, nat_lt, if◌then◌else◌, ◌==◌}
use Rattle.block_book.specs.declared.site.Site.{Site}
use Rattle.run_history.specs.Terms.{Item, Ask, Calloc, Malloc, Realloc, Choice, live_blocks, Heap, IsHeap, empty_heap, Env, served_ask, served_free, Instr, Ecall, Image, heap_end, heap_start, Cause, BadAccess, BadFree, Hang}
use Rattle.run_history.specs.Machine.{Machine, State, register, start, Effect, Wants, Fails}
use Rattle.run_history.specs.Run.{does, after}
use Rattle.run_history.specs.Repeating.{repeated}
use Rattle.run_history.specs.Touching.{Range, instruction_at, touched}

-- What a session allows: so many instructions between two items, and by a rule, which looks at the blocks of the heap, each range of bytes that is
-- touched; for how many items behind a failure the environment of the trial that is adopted stays in force; and which one is in force where none does.
pub record Limits : Type 0 where
  pub budget : ℕ
  pub permits : Heap → ℕ → ℕ → Bool
  pub keep : ℕ
  pub base : Env

-- a machine, and the layout of its heap
pub record Guest : Type 0 where
  pub machine : Machine
  pub heap : Heap

-- the layout is that of a heap, and the machine has its ends and its live blocks
pub record IsLaidOut (guest : Guest) : Type 0 where
  pub sound : IsHeap guest.heap
  pub start : guest.machine.heap_start ≡ guest.heap.start
  pub end : guest.machine.heap_end ≡ guest.heap.end
  pub live : guest.machine.blocks ≡ live_blocks guest.heap.blocks

-- what an instruction asks of the allocator: a block, to free the one at an address, or nothing
pub data Request : Type 0 where
  Allocate : Ask → Request
  Free : ℕ → Request
  Nothing : Request

-- calls 3, 4, 7 and 8 are those that ask of the allocator
abbrev pub call_request : ℕ → Machine → Request
call_request number m =
    if number == 3 then Allocate (Malloc (register m 10)) else
    if number == 4 then Free (register m 10) else
    if number == 7 then Allocate (Calloc (register m 10) (register m 11)) else
    if number == 8 then Allocate (Realloc (register m 10) (register m 11)) else
    Nothing

abbrev pub request_of : Option Instr → Machine → Request
request_of (Some Ecall) m = call_request (register m 17) m
request_of _ m = Nothing

-- where a machine stands that asks: its instruction, what it has in x1 (RISC-V ELF psABI, "Integer Register Convention": the address that a function
-- returns to), and how many items it has taken
abbrev pub site_of : Machine → Site
site_of m = record { pc = m.pc; caller = register m 1; taken = m.taken }

-- what the allocator answers: a choice where a block was asked for, and the layout after it
pub record Grant : Type 0 where
  pub chosen : Option Choice
  pub heap : Heap

-- the answer of an environment to a request from a site; none to a free that it refuses, nor to a realloc of what is no live block
abbrev pub granted : Env → Heap → Site → Request → Option Grant
granted env heap site (Allocate ask) = option_map (λ served. record { chosen = Some served.choice; heap = served.heap }) (served_ask env heap site ask)
granted env heap site (Free at) = option_map (λ after. record { chosen = None; heap = after }) (served_free env heap site at)
granted env heap site Nothing = Some (record { chosen = None; heap = heap })

-- what an environment answers to the instruction at which a guest stands
unfoldable pub grant : Env → Guest → Option Grant
grant env guest = granted env guest.heap (site_of guest.machine) (request_of (instruction_at guest.machine) guest.machine)

-- the rule refuses a range
abbrev pub is_refused : Limits → Heap → Option Range → Bool
is_refused limits heap None = false
is_refused limits heap (Some range) = not (limits.permits heap range.at range.count)

-- what the instruction does with the answer of the allocator
abbrev pub does_with : Option Grant → Option Item → Machine → Effect
does_with None item m = Fails BadFree
does_with (Some grant) item m = does item grant.chosen m

-- What a guest does next in an environment: Hang is tested first, and then the rule.
unfoldable pub serves : Limits → Env → Option Item → Guest → Effect
serves limits env item guest =
    if nat_le limits.budget guest.machine.since then Fails Hang else
    if is_refused limits guest.heap (touched guest.machine) then Fails BadAccess else
    does_with (grant env guest) item guest.machine

-- A run as data: where it stands, the layout of its heap there, the answers of the allocator that it used, and how many
-- instructions it has.
pub record Path : Type 0 where
  pub state : State
  pub heap : Heap
  pub choices : List Choice
  pub steps : ℕ

-- the run of no instruction
abbrev pub origin : Image → Path
origin image = record { state = start image; heap = empty_heap (heap_start image) (heap_end image); choices = []; steps = 0 }

-- the machine and its heap where a run has come to
abbrev pub guest_of : Path → Guest
guest_of path = record { machine = path.state.machine; heap = path.heap }

-- the answers of the allocator that an instruction had: one or none
abbrev pub listed : Option Choice → List Choice
listed None = []
listed (Some choice) = choice ∷ []

-- a run with one more instruction, of which the state and the answer of the allocator are these
abbrev pub longer : Path → Option Grant → State → Path
longer path None state = record path { state = state; steps = path.steps + 1 }
longer path (Some grant) state = record { state = state; heap = grant.heap; choices = path.choices ++ listed grant.chosen; steps = path.steps + 1 }

-- one more instruction of a run in an environment
unfoldable pub served_next : Limits → List Item → Env → Path → Option Path
served_next limits items env path =
    if is_some path.state.ended then None else
    option_map (longer path (grant env (guest_of path))) (after path.state (serves limits env (slice_get items path.state.machine.taken) (guest_of path)))

-- A plan of environments, the latest first: each has its environment for the counts of items taken from one count up to
-- another, which isn't one of them, and the base from there on. Before its first count the earlier ones are in force.
pub record Override : Type 0 where
  pub low : ℕ
  pub until : ℕ
  pub env : Env

-- the environment that is in force at a count of items taken: the base where the plan has none
abbrev pub env_at : Env → List Override → ℕ → Env
env_at base [] count = base
env_at base (override ∷ plan) count =
    if nat_lt count override.low then env_at base plan count else
    if nat_lt count override.until then override.env else
    base

-- one more instruction of a run under a plan
abbrev pub planned_next : Limits → List Item → List Override → Path → Option Path
planned_next limits items plan path = served_next limits items (env_at limits.base plan path.state.machine.taken) path

-- so many more instructions of a run under a plan
abbrev pub serve : Limits → List Item → List Override → Path → ℕ → Option Path
serve limits items plan path steps = repeated (planned_next limits items plan) steps path

-- under a plan, the second run is the first with more instructions
pub record Served (limits : Limits) (items : List Item) (plan : List Override) (first second : Path) : Type 0 where
  pub more : ℕ
  pub ran : serve limits items plan first more ≡ Some second

-- a run fails by this cause at its next instruction
pub record FailsBy (limits : Limits) (plan : List Override) (path : Path) (cause : Cause) : Type 0 where
  pub lives : path.state.ended ≡ None
  pub fails : serves limits (env_at limits.base plan path.state.machine.taken) None (guest_of path) ≡ Fails cause

-- a run stands at its request for the item of a number
pub record AsksFor (limits : Limits) (plan : List Override) (path : Path) (item : ℕ) : Type 0 where
  pub lives : path.state.ended ≡ None
  pub taken : path.state.machine.taken ≡ item
  pub asks : serves limits (env_at limits.base plan path.state.machine.taken) None (guest_of path) ≡ Wants
