-- A run that stands at its request for an item asks nothing of the allocator there, so that no environment matters.
use Rattle.run_history.proofs.Blocks.{frees}
use Rattle.run_history.proofs.Wanting.{never_allocates}
use Rattle.trials.proofs.Terms.{List, None, Option, Some, ap, cond, leb, refl, sym, ℕ, ◌∙◌, ◌≡◌, is_some, option_map, slice_get, Item, Choice, Env, BadAccess, Hang, allocates, freed, Effect, Fails, Goes, Wants, register, after, does, Allocate, AsksFor, Free, Grant, Guest, Limits, Nothing, Override, Path, Request, does_with, env_at, grant, granted, guest_of, is_refused, longer, planned_next, request_of, served_next, serves, site_of, instruction_at, touched, waits_of, AsksUnderAll}

-- the request of the guest's instruction
abbrev request_at : Guest → Request
request_at guest = request_of (instruction_at guest.machine) guest.machine

-- it asks nothing of the allocator
asks_nothing : (guest : Guest) (choice : Option Choice) (request : Request) → request_at guest ≡ request → does None choice guest.machine ≡ Wants → request ≡ Nothing
asks_nothing guest choice (Allocate ask) asks wants = absurd (never_allocates ask guest.machine choice (sym (allocates guest.machine ask asks None choice) ∙ wants))
asks_nothing guest choice (Free place) asks wants =
    let never : Goes (freed (register guest.machine 10) guest.machine) ≡ Wants = sym (frees guest.machine place asks None choice) ∙ wants in absurd (cc)
asks_nothing guest choice Nothing asks wants = refl

pub idle : (limits : Limits) (env : Env) (guest : Guest) → serves limits env None guest ≡ Wants → request_at guest ≡ Nothing
idle limits env guest asks =
    let waits = waits_of limits env guest asks in asks_nothing guest waits.given.chosen (request_at guest) refl waits.wants

-- where nothing is asked of it, each environment answers the same
pub granted_idle : (env : Env) (guest : Guest) → request_at guest ≡ Nothing → grant env guest ≡ Some (record { chosen = None; heap = guest.heap })
unfolding grant
granted_idle env guest none = ap (granted env guest.heap (site_of guest.machine)) none

pub grants_same : (env other : Env) (guest : Guest) → request_at guest ≡ Nothing → grant env guest ≡ grant other guest
grants_same env other guest none = granted_idle env guest none ∙ sym (granted_idle other guest none)

pub serves_same : (limits : Limits) (env other : Env) (item : Option Item) (guest : Guest) → request_at guest ≡ Nothing → serves limits env item guest ≡ serves limits other item guest
unfolding serves
serves_same limits env other item guest none =
    ap (λ (given : Option Grant). cond (leb limits.budget guest.machine.since) (Fails Hang) (cond (is_refused limits guest.heap (touched guest.machine)) (Fails BadAccess) (does_with given item guest.machine)))
    (grants_same env other guest none)

pub served_next_same : (limits : Limits) (items : List Item) (env other : Env) (path : Path) → request_at (guest_of path) ≡ Nothing → served_next limits items env path ≡ served_next limits items other path
unfolding served_next
served_next_same limits items env other path none =
    ap (λ (given : Option Grant). cond (is_some path.state.ended) None (option_map (longer path given) (after path.state (serves limits env (slice_get items path.state.machine.taken) (guest_of path))))) (grants_same env other (guest_of path) none)
    ∙ ap (λ (e : Effect). cond (is_some path.state.ended) None (option_map (longer path (grant other (guest_of path))) (after path.state e))) (serves_same limits env other (slice_get items path.state.machine.taken) (guest_of path) none)

-- a run asks for an item under all plans
pub asks_under_all : AsksUnderAll
asks_under_all limits plan other path item asks = record {
  lives = asks.lives;
  taken = asks.taken;
  asks =
      serves_same limits (env_at limits.base other path.state.machine.taken) (env_at limits.base plan path.state.machine.taken) None (guest_of path) (idle limits (env_at limits.base plan path.state.machine.taken) (guest_of path) asks.asks)
      ∙ asks.asks;
}

-- so its next instruction is the same
pub asks_next : (limits : Limits) (items : List Item) (plan other : List Override) (path : Path) (item : ℕ) → AsksFor limits plan path item → planned_next limits items plan path ≡ planned_next limits items other path
asks_next limits items plan other path item asks =
    served_next_same limits items (env_at limits.base plan path.state.machine.taken) (env_at limits.base other path.state.machine.taken) path (idle limits (env_at limits.base plan path.state.machine.taken) (guest_of path) asks.asks)
