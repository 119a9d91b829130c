-- A run that stands at its request for an item takes it.
use Rattle.run_history.proofs.Wanting.{never_allocates, wants_takes}
use Rattle.guest_cpu.proofs.Terms.{List, None, Option, Some, [], ap, append-nil, arith, false, leb, refl, sym, ℕ, ◌*◌, ◌+◌, ◌∙◌, ◌≡◌, ◌≤◌, same_Some, option_map, slice_get, Item, Env, frees, received_keeps, allocates, freed, received, Effect, Goes, Wants, register, after, does, Allocate, Free, Grant, Guest, Limits, Nothing, Path, Request, env_at, grant, granted, guest_of, is_refused, longer, request_of, served_next, serves, site_of, Range, instruction_at, touched, with_range, IsBounded, AsksWants, TakesServe, TakesWrite}
use Rattle.guest_cpu.proofs.TurnEvents.{served_does}
use Rattle.guest_cpu.proofs.WritingLemmas.{writes_none, writes_then, writes_taken}

-- and asks nothing of the allocator
idle_of : (env : Env) (guest : Guest) (given : Grant) (request : Request) → request_of (instruction_at guest.machine) guest.machine ≡ request → granted env guest.heap (site_of guest.machine) request ≡ Some given
    → does None given.chosen guest.machine ≡ Wants → given ≡ record { chosen = None; heap = guest.heap }
idle_of env guest given (Allocate ask) asks gives wants =
    absurd (never_allocates ask guest.machine given.chosen (sym (allocates guest.machine ask asks None given.chosen) ∙ wants))
idle_of env guest given (Free place) asks gives wants = let never : Goes (freed (register guest.machine 10) guest.machine) ≡ Wants = sym (frees guest.machine place asks None given.chosen) ∙ wants in absurd (cc)
idle_of env guest given Nothing asks gives wants = sym (same_Some _ given gives)

idle : (env : Env) (guest : Guest) (given : Grant) → grant env guest ≡ Some given → does None given.chosen guest.machine ≡ Wants → given ≡ record { chosen = None; heap = guest.heap }
unfolding grant
idle env guest given gives wants = idle_of env guest given (request_of (instruction_at guest.machine) guest.machine) refl gives wants

-- what is served with an item, by what the instruction does
serves_by : (limits : Limits) (env : Env) (item : Option Item) (guest : Guest) (given : Grant) → leb limits.budget guest.machine.since ≡ false → is_refused limits guest.heap (touched guest.machine) ≡ false → grant env guest ≡ Some given
    → serves limits env item guest ≡ does item given.chosen guest.machine
unfolding serves
serves_by limits env item guest given early rule gives = rw (early, rule, gives) refl

-- one more instruction with an item
next_by : (limits : Limits) (items : List Item) (env : Env) (path : Path) (item : Item) (given : Grant) (e : Effect) → path.state.ended ≡ None → slice_get items path.state.machine.taken ≡ Some item
    → grant env (guest_of path) ≡ Some given → serves limits env (Some item) (guest_of path) ≡ e → served_next limits items env path ≡ option_map (longer path (Some given)) (after path.state e)
unfolding served_next
next_by limits items env path item given e lives here gives does_so = rw (lives, here, gives, does_so) refl

-- the run with one more instruction, which took an item
abbrev with_item : Path → Item → Path
with_item path item = longer path (Some (record { chosen = None; heap = path.heap })) (record path.state { machine = received item path.state.machine })

takes_next : (limits : Limits) (items : List Item) (env : Env) (path : Path) (item : Item) → path.state.ended ≡ None → serves limits env None (guest_of path) ≡ Wants → slice_get items path.state.machine.taken ≡ Some item
    → served_next limits items env path ≡ Some (with_item path item)
takes_next limits items env path item lives asks here =
    let parts = served_does limits env (guest_of path) Wants (λ cause e. cc) asks in
    let given : grant env (guest_of path) ≡ Some (record { chosen = None; heap = path.heap }) = parts.1 ∙ ap (λ (g : Grant). Some g) (idle env (guest_of path) parts.0 parts.1 parts.2) in
    let takes_it = wants_takes path.state.machine parts.0.chosen parts.2 (Some item) None in
    let served = serves_by limits env (Some item) (guest_of path) (record { chosen = None; heap = path.heap }) parts.3 parts.4 given ∙ takes_it in
    next_by limits items env path item (record { chosen = None; heap = path.heap }) (Goes (received item path.state.machine)) lives here given served

-- the steps of a run that takes an item stay bounded
bounded_more : (budget taken since steps later after : ℕ) → later ≡ taken + 1 → after ≡ 0 → since ≤ budget → steps ≤ taken * (budget + 1) + since → steps + 1 ≤ later * (budget + 1) + after
bounded_more budget taken since steps later after same none few bound = rw (same, none) (omega arith)

bounded_taken : (budget : ℕ) (path : Path) (item : Item) → IsBounded budget path → IsBounded budget (with_item path item)
bounded_taken budget path item bound =
    let keeps = received_keeps item path.state.machine in
    record {
      since = omega (arith, keeps.since);
      steps = bounded_more budget path.state.machine.taken path.state.machine.since path.steps (received item path.state.machine).taken (received item path.state.machine).since keeps.taken keeps.since bound.since bound.steps;
    }

pub takes_write : TakesWrite
takes_write limits items plan base first before item asks here =
    let keeps = received_keeps item first.state.machine in
    let env = env_at limits.base plan first.state.machine.taken in
    let next = takes_next limits items env first item asks.lives asks.asks here in
    record {
      took = record {
        now = with_item first item;
        stands = refl;
        served = record { more = 1; ran = next };
        silent = record { choices = append-nil first.choices; sends = refl };
        lives = asks.lives;
        taken = keeps.taken;
        connections = keeps.connections;
        steps = refl;
        bounded = bounded_taken limits.budget first item;
      };
      wrote = writes_then limits items base env first before first before (with_item first item) _ (writes_none limits items base first before) next
          (ap (λ (r : Option Range). with_range base r before) (sym (writes_taken limits items env first item asks.asks here)));
    }

pub takes_serve : TakesServe
takes_serve limits items plan first item asks here = (takes_write limits items plan 0 first [] item asks here).took

pub asks_wants : AsksWants
asks_wants limits plan path number asks =
    let parts = served_does limits (env_at limits.base plan path.state.machine.taken) (guest_of path) Wants (λ cause e. cc) asks.asks in
    wants_takes path.state.machine parts.0.chosen parts.2 None None
