-- Runs that write pages: of no instruction, of one, one run after another, and with more items behind.
use Rattle.guest_cpu.proofs.Terms.{Bool, List, None, Option, Some, [], ap, refl, subst, sym, ℕ, ◌++◌, ◌∙◌, ◌∷◌, ◌≡◌, none-some, same_Some, slice_get, Item, Env, slice_get_longer, served_next_more, serves_to, Chooses, Effect, Emits, Ends, Fails, Goes, Machine, Wants, after, does, Grant, Limits, Path, grant, guest_of, served_next, serves, Range, with_range, received_range, Writes, WritesIn, writes, written_by}
use Rattle.guest_cpu.proofs.TurnEvents.{served_does}

-- a run of no instruction writes nothing
pub writes_none : (limits : Limits) (items : List Item) (base : ℕ) (path : Path) (flags : List Bool) → Writes limits items base path flags path flags
writes_none limits items base path flags = record { envs = []; goes = (refl, refl) }

-- one run after another, by their environments
in_on : (limits : Limits) (items : List Item) (base : ℕ) (envs others : List Env) (first : Path) (before : List Bool) (second : Path) (after : List Bool) (third : Path) (last : List Bool)
    → WritesIn limits items base envs first before second after → WritesIn limits items base others second after third last → WritesIn limits items base (envs ++ others) first before third last
in_on limits items base [] others first before second after third last one other =
    subst (λ (path : Path). WritesIn limits items base others path before third last) one.0 (subst (λ (flags : List Bool). WritesIn limits items base others second flags third last) one.1 other)
in_on limits items base (env ∷ envs) others first before second after third last one other =
    (one.0, one.1, in_on limits items base envs others one.0 (with_range base (writes limits items env first) before) second after third last one.2 other)

pub writes_on : (limits : Limits) (items : List Item) (base : ℕ) (first : Path) (before : List Bool) (second : Path) (after : List Bool) (third : Path) (last : List Bool) → Writes limits items base first before second after
    → Writes limits items base second after third last → Writes limits items base first before third last
writes_on limits items base first before second after third last one other = record {
  envs = one.envs ++ other.envs;
  goes = in_on limits items base one.envs other.envs first before second after third last one.goes other.goes;
}

-- and then one instruction
pub writes_then : (limits : Limits) (items : List Item) (base : ℕ) (env : Env) (first : Path) (before : List Bool) (second : Path) (after : List Bool) (next : Path) (last : List Bool) → Writes limits items base first before second after
    → served_next limits items env second ≡ Some next → last ≡ with_range base (writes limits items env second) after → Writes limits items base first before next last
writes_then limits items base env first before second after next last wrote goes is =
    writes_on limits items base first before second after next last wrote (record { envs = env ∷ []; goes = (next, goes, (refl, is)) })

-- what an instruction writes is told without an item, unless it wants one
written_alike : (e : Effect) (one other : Option Item) (given : Option Grant) (m : Machine) → (e ≡ Wants → one ≡ other) → written_by e one given m ≡ written_by e other given m
written_alike Wants one other given m same = ap (λ (item : Option Item). written_by Wants item given m) (same refl)
written_alike (Goes new) one other None m same = refl
written_alike (Goes new) one other (Some given) m same = refl
written_alike (Emits conn bytes new) one other given m same = refl
written_alike (Ends code) one other given m same = refl
written_alike (Chooses ask) one other given m same = refl
written_alike (Fails cause) one other given m same = refl

-- an instruction that wanted an item, and was done, has one
wanted : (limits : Limits) (items : List Item) (env : Env) (path next : Path) → served_next limits items env path ≡ Some next → serves limits env None (guest_of path) ≡ Wants
    → (item : Item) × (slice_get items path.state.machine.taken ≡ Some item)
wanted limits items env path next goes wants = of_item (slice_get items path.state.machine.taken) refl
  where
    of_item : (found : Option Item) → slice_get items path.state.machine.taken ≡ found → (item : Item) × (slice_get items path.state.machine.taken ≡ Some item)
    of_item (Some item) is = (item, is)
    of_item None is =
        let parts = serves_to limits items env path next goes in
        let without = served_does limits env (guest_of path) Wants (λ cause e. cc) wants in
        let same : parts.given ≡ without.0 = same_Some parts.given without.0 (sym parts.granted_by ∙ without.1) in
        let acts : does (slice_get items path.state.machine.taken) parts.given.chosen path.state.machine ≡ Wants =
        ap (λ (item : Option Item). does item parts.given.chosen path.state.machine) is ∙ (ap (λ (given : Grant). does None given.chosen path.state.machine) same ∙ without.2) in
        absurd (none-some next.state (ap (after path.state) (sym acts) ∙ parts.goes))

-- with more items an instruction that was done writes the same
pub writes_same : (limits : Limits) (items more : List Item) (env : Env) (path next : Path) → served_next limits items env path ≡ Some next → writes limits items env path ≡ writes limits (items ++ more) env path
writes_same limits items more env path next goes =
    written_alike (serves limits env None (guest_of path)) (slice_get items path.state.machine.taken) (slice_get (items ++ more) path.state.machine.taken) (grant env (guest_of path)) path.state.machine (λ wants.
    let found = wanted limits items env path next goes wants in found.1 ∙ sym (slice_get_longer items more path.state.machine.taken found.0 found.1))

in_more : (limits : Limits) (items more : List Item) (base : ℕ) (envs : List Env) (first : Path) (before : List Bool) (second : Path) (after : List Bool) → WritesIn limits items base envs first before second after
    → WritesIn limits (items ++ more) base envs first before second after
in_more limits items more base [] first before second after wrote = wrote
in_more limits items more base (env ∷ envs) first before second after wrote = (
  wrote.0,
  served_next_more limits items more env first wrote.0 wrote.1,
  in_more limits items more base envs wrote.0 (with_range base (writes limits (items ++ more) env first) before) second after
      (subst (λ (range : Option Range). WritesIn limits items base envs wrote.0 (with_range base range before) second after) (writes_same limits items more env first wrote.0 wrote.1) wrote.2),
)

-- and so does a run
pub writes_more : (limits : Limits) (items more : List Item) (base : ℕ) (first : Path) (before : List Bool) (second : Path) (after : List Bool) → Writes limits items base first before second after
    → Writes limits (items ++ more) base first before second after
writes_more limits items more base first before second after wrote = record { envs = wrote.envs; goes = in_more limits items more base wrote.envs first before second after wrote.goes }

-- an instruction that takes an item writes its bytes
pub writes_taken : (limits : Limits) (items : List Item) (env : Env) (path : Path) (item : Item) → serves limits env None (guest_of path) ≡ Wants → slice_get items path.state.machine.taken ≡ Some item
    → writes limits items env path ≡ received_range item path.state.machine
writes_taken limits items env path item wants here =
    ap (λ (e : Effect). written_by e (slice_get items path.state.machine.taken) (grant env (guest_of path)) path.state.machine) wants
    ∙ ap (λ (found : Option Item). written_by Wants found (grant env (guest_of path)) path.state.machine) here
