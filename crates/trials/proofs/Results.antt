-- What came of a trial is one, and is found in one place.
use Rattle.run_history.proofs.Runs.{Later as Missing}
use Rattle.session_notes.specs.declared.episode.Tried.TheVariants as tried
use Rattle.trials.proofs.Terms.{List, None, Option, Some, ap, arith, false, inl, inr, leb, refl, subst, sym, true, ℕ, ◌<◌, ◌∙◌, ◌≡◌, ◌≤◌, ◌⊎◌, lt-leb, none-some, same_Some, IsSome, is_some, slice_get, Item, Prefix, Send, sent_to, Env, agree, Cause, does_more, extends_same, serves_to, Fails, Wants, after, does, output, AsksFor, FailsBy, Guest, Limits, Override, Path, Served, does_with, env_at, grant, guest_of, is_refused, planned_next, serves, touched, Later, asks_takes, served_grows, all_until, timed_on, served_same, AreBetween, Covers, until, Tried, ComesTo, IsBehindAt, IsPast, IsUnharmed, OneResult}
use Rattle.trials.proofs.Going.{taken_later, steps_later, later_served, later_steps, Compared, Equal, Before, Behind, compare, same_next}
use Rattle.trials.proofs.Agreeing.{differs_on, until_still, output_on}

-- where a trial has a result it was unharmed still, there or one instruction before, with the same items
record Reached (limits : Limits) (items : List Item) (plan : List Override) (checkpoint : Path) (pieces : List Send) (point : ℕ) (path : Path) : Type 0 where
  last : Path
  from : Served limits items plan checkpoint last
  unharmed : IsUnharmed pieces point last.state
  taken : last.state.machine.taken ≡ path.state.machine.taken
  leads : (last ≡ path) ⊎ (planned_next limits items plan last ≡ Some path)

reached_there : (limits : Limits) (items : List Item) (plan : List Override) (checkpoint : Path) (pieces : List Send) (point : ℕ) (path : Path) → Served limits items plan checkpoint path → IsUnharmed pieces point path.state
    → Reached limits items plan checkpoint pieces point path
reached_there limits items plan checkpoint pieces point path from unharmed = record { last = path; from = from; unharmed = unharmed; taken = refl; leads = inl refl }

reached : (limits : Limits) (items : List Item) (plan : List Override) (checkpoint : Path) (pieces : List Send) (point : ℕ) (path : Path) (result : Tried) → Served limits items plan checkpoint path
    → ComesTo limits items plan checkpoint pieces point path result → Reached limits items plan checkpoint pieces point path
reached limits items plan checkpoint pieces point path tried.Asks from comes = reached_there limits items plan checkpoint pieces point path from comes.0
reached limits items plan checkpoint pieces point path (tried.Exits code) from comes = reached_there limits items plan checkpoint pieces point path from comes.0
reached limits items plan checkpoint pieces point path (tried.Failed cause) from comes = reached_there limits items plan checkpoint pieces point path from comes.0
reached limits items plan checkpoint pieces point path tried.Contradicts from comes = record { last = comes.before; from = comes.from; unharmed = comes.unharmed; taken = sym comes.no_item; leads = inr comes.next }
reached limits items plan checkpoint pieces point path tried.Behind from comes = reached_there limits items plan checkpoint pieces point path from comes.0

-- a run that asks for an item and goes on took it
pub asks_on : (limits : Limits) (items : List Item) (plan : List Override) (first second : Path) (item : ℕ) → AsksFor limits plan first item → Later limits items plan first second → item < second.state.machine.taken
asks_on limits items plan first second item asks later =
    omega (arith, asks.taken, (asks_takes limits items plan first later.next item asks later.goes).taken, taken_later limits items plan later.next second later.on)

-- one that has ended doesn't go on
pub ended_on : (limits : Limits) (items : List Item) (plan : List Override) (first second : Path) → IsSome first.state.ended → Later limits items plan first second → ⊥
ended_on limits items plan first second ended later =
    let never : false ≡ true = subst (λ (o : Option ℕ). IsSome o) (serves_to limits items (env_at limits.base plan first.state.machine.taken) first later.next later.goes).lives ended in absurd (cc)

-- nor does one that fails
serves_there : (limits : Limits) (env : Env) (guest : Guest) → leb limits.budget guest.machine.since ≡ false → is_refused limits guest.heap (touched guest.machine) ≡ false → serves limits env None guest ≡ does_with (grant env guest) None guest.machine
unfolding serves
serves_there limits env guest early rule = rw (early, rule) refl

pub fails_on : (limits : Limits) (items : List Item) (plan : List Override) (first second : Path) (cause : Cause) → FailsBy limits plan first cause → Later limits items plan first second → ⊥
fails_on limits items plan first second cause fails later =
    let env = env_at limits.base plan first.state.machine.taken in
    let item = slice_get items first.state.machine.taken in
    let parts = serves_to limits items env first later.next later.goes in
    let same = serves_there limits env (guest_of first) (lt-leb limits.budget first.state.machine.since parts.early) parts.kept_rule in
    let was : does None parts.given.chosen first.state.machine ≡ Fails cause = sym (same ∙ ap (λ given. does_with given None first.state.machine) parts.granted_by) ∙ fails.fails in
    let is = does_more first.state.machine None item parts.given.chosen parts.given.chosen (Fails cause) (Missing item) (extends_same parts.given.chosen) was (record { no_item = (λ e. cc); no_choice = (λ size e. cc) }) in
    absurd (none-some later.next.state (ap (after first.state) (sym is) ∙ parts.goes))

-- nor to where it is unharmed, once a byte differs
differs_stays : (limits : Limits) (items : List Item) (plan : List Override) (first last : Path) (pieces : List Send) (point conn : ℕ) → agree (output first.state conn) (sent_to conn pieces) ≡ false → Served limits items plan first last
    → IsUnharmed pieces point last.state → ⊥
differs_stays limits items plan first last pieces point conn differs on unharmed =
    let still : agree (output last.state conn) (sent_to conn pieces) ≡ false =
    differs_on (output first.state conn) (output last.state conn) (sent_to conn pieces) (output_on first.state last.state conn (served_grows limits items plan first last on)) differs in
    let never : true ≡ false = sym (unharmed.agrees conn) ∙ still in absurd (cc)

contradicted_on : (limits : Limits) (items : List Item) (plan : List Override) (checkpoint first second : Path) (pieces : List Send) (point conn : ℕ) → Served limits items plan checkpoint first
    → agree (output first.state conn) (sent_to conn pieces) ≡ false → Reached limits items plan checkpoint pieces point second → Later limits items plan first second → ⊥
contradicted_on limits items plan checkpoint first second pieces point conn from differs other later = of_leads other.leads
  where
    of_leads : (other.last ≡ second) ⊎ (planned_next limits items plan other.last ≡ Some second) → ⊥
    of_leads (inl same) =
        differs_stays limits items plan first other.last pieces point conn differs (subst (λ (p : Path). Served limits items plan first p) (sym same) (later_served limits items plan first second later)) other.unharmed
    of_leads (inr goes) = of_compared (compare limits items plan checkpoint first other.last from other.from)
      where
        of_compared : Compared limits items plan first other.last → ⊥
        of_compared (Equal same) = differs_stays limits items plan first other.last pieces point conn differs (subst (λ (p : Path). Served limits items plan first p) same (served_same limits items plan first)) other.unharmed
        of_compared (Before on) = differs_stays limits items plan first other.last pieces point conn differs (later_served limits items plan first other.last on) other.unharmed
        of_compared (Behind back) =
            omega (arith, later_steps limits items plan first second later, steps_later limits items plan second first (same_next limits items plan other.last first second back goes))

-- one that asks too early doesn't go on to take the item
behind_on : (limits : Limits) (items : List Item) (plan : List Override) (checkpoint first second : Path) (pieces : List Send) (point item : ℕ) → AreBetween 0 checkpoint.state.machine.taken checkpoint.state.sends
    → Served limits items plan checkpoint first → IsBehindAt limits plan pieces point first item → Reached limits items plan checkpoint pieces point second → Later limits items plan first second → ⊥
behind_on limits items plan checkpoint first second pieces point item timed from behind other later = of_compared (compare limits items plan checkpoint first other.last from other.from)
  where
    past : item < other.last.state.machine.taken
    past = omega (arith, asks_on limits items plan first second item behind.asks later, other.taken)

    of_compared : Compared limits items plan first other.last → ⊥
    of_compared (Equal same) =
        let taken : first.state.machine.taken ≡ other.last.state.machine.taken = ap (λ (p : Path). p.state.machine.taken) same in
        omega (arith, past, taken, behind.asks.taken)
    of_compared (Behind back) = omega (arith, past, behind.asks.taken, taken_later limits items plan other.last first (later_served limits items plan other.last first back))
    of_compared (Before on) =
        let took = asks_takes limits items plan first on.next item behind.asks on.goes in
        let still = until_still item on.next.state other.last.state (served_grows limits items plan on.next other.last on.on) (omega (arith, took.taken, behind.asks.taken)) in
        let all = all_until item 0 first.state.machine.taken first.state.sends (omega (arith, behind.asks.taken)) (timed_on checkpoint.state first.state (served_grows limits items plan checkpoint first from) timed) in
        let same : until item other.last.state.sends ≡ first.state.sends = still ∙ ap (until item) took.sends ∙ all in
        behind.behind (λ conn. subst (λ (sends : List Send). Prefix (sent_to conn (until item pieces)) (sent_to conn sends)) same (other.unharmed.feasible item past conn))

past_on : (limits : Limits) (items : List Item) (plan : List Override) (first second : Path) (point : ℕ) → IsPast limits plan point first → second.state.machine.taken ≤ point → Later limits items plan first second → ⊥
past_on limits items plan first second point (inl asks) low later = omega (arith, low, asks_on limits items plan first second point asks later)
past_on limits items plan first second point (inr ended) low later = ended_on limits items plan first second ended later

-- A trial that has come to a result doesn't come to another one later.
stops : (limits : Limits) (items : List Item) (plan : List Override) (checkpoint first second : Path) (pieces : List Send) (point : ℕ) (result : Tried) → AreBetween 0 checkpoint.state.machine.taken checkpoint.state.sends
    → Served limits items plan checkpoint first → ComesTo limits items plan checkpoint pieces point first result → Reached limits items plan checkpoint pieces point second → Later limits items plan first second → ⊥
stops limits items plan checkpoint first second pieces point tried.Asks timed from comes other later =
    past_on limits items plan first second point (inl comes.1) (omega (arith, other.taken, other.unharmed.early)) later
stops limits items plan checkpoint first second pieces point (tried.Exits code) timed from comes other later = ended_on limits items plan first second (ap is_some comes.1) later
stops limits items plan checkpoint first second pieces point (tried.Failed cause) timed from comes other later = fails_on limits items plan first second cause comes.1 later
stops limits items plan checkpoint first second pieces point tried.Contradicts timed from comes other later =
    contradicted_on limits items plan checkpoint first second pieces point comes.conn from comes.differs other later
stops limits items plan checkpoint first second pieces point tried.Behind timed from comes other later = of_either comes.1
  where
    of_either : ((item : ℕ) × IsBehindAt limits plan pieces point first item) ⊎ (IsPast limits plan point first × (¬ Covers pieces first.state)) → ⊥
    of_either (inl behind) = behind_on limits items plan checkpoint first second pieces point behind.0 timed from behind.1 other later
    of_either (inr past) = past_on limits items plan first second point past.0 (omega (arith, other.taken, other.unharmed.early)) later

-- What is known of a result, where the trial stands: no two of them can be.
pub apart_asks_fails : (limits : Limits) (plan : List Override) (path : Path) (item : ℕ) (cause : Cause) → AsksFor limits plan path item → FailsBy limits plan path cause → ⊥
apart_asks_fails limits plan path item cause asks fails =
    let never : Wants ≡ Fails cause = sym asks.asks ∙ fails.fails in absurd (cc)

pub apart_ended : (path : Path) → path.state.ended ≡ None → IsSome path.state.ended → ⊥
apart_ended path lives ended =
    let never : false ≡ true = subst (λ (o : Option ℕ). IsSome o) lives ended in absurd (cc)

apart_differs : (pieces : List Send) (point conn : ℕ) (path : Path) → IsUnharmed pieces point path.state → agree (output path.state conn) (sent_to conn pieces) ≡ false → ⊥
apart_differs pieces point conn path unharmed differs =
    let never : true ≡ false = sym (unharmed.agrees conn) ∙ differs in absurd (cc)

-- what a trial that is behind doesn't have
abbrev IsLate : Limits → List Override → List Send → ℕ → Path → Type 0
IsLate limits plan pieces point path = ((item : ℕ) × IsBehindAt limits plan pieces point path item) ⊎ (IsPast limits plan point path × (¬ Covers pieces path.state))

late_covers : (limits : Limits) (plan : List Override) (pieces : List Send) (point : ℕ) (path : Path) → IsPast limits plan point path → Covers pieces path.state → IsLate limits plan pieces point path → ⊥
late_covers limits plan pieces point path past covers (inr late) = late.1 covers
late_covers limits plan pieces point path (inl asks) covers (inl late) = omega (arith, asks.taken, late.1.asks.taken, late.1.early)
late_covers limits plan pieces point path (inr ended) covers (inl late) = apart_ended path late.1.asks.lives ended

late_fails : (limits : Limits) (plan : List Override) (pieces : List Send) (point : ℕ) (path : Path) (cause : Cause) → FailsBy limits plan path cause → IsLate limits plan pieces point path → ⊥
late_fails limits plan pieces point path cause fails (inl late) = apart_asks_fails limits plan path late.0 cause late.1.asks fails
late_fails limits plan pieces point path cause fails (inr (inl asks, rest)) = apart_asks_fails limits plan path point cause asks fails
late_fails limits plan pieces point path cause fails (inr (inr ended, rest)) = apart_ended path fails.lives ended

-- one place has one result
pub one_here : (limits : Limits) (items : List Item) (plan : List Override) (checkpoint : Path) (pieces : List Send) (point : ℕ) (path : Path) (result other : Tried) → ComesTo limits items plan checkpoint pieces point path result
    → ComesTo limits items plan checkpoint pieces point path other → result ≡ other
one_here limits items plan checkpoint pieces point path tried.Asks tried.Asks one two = refl
one_here limits items plan checkpoint pieces point path tried.Asks (tried.Exits code) one two = absurd (apart_ended path one.1.lives (ap is_some two.1))
one_here limits items plan checkpoint pieces point path tried.Asks (tried.Failed cause) one two = absurd (apart_asks_fails limits plan path point cause one.1 two.1)
one_here limits items plan checkpoint pieces point path tried.Asks tried.Contradicts one two = absurd (apart_differs pieces point two.conn path one.0 two.differs)
one_here limits items plan checkpoint pieces point path tried.Asks tried.Behind one two = absurd (late_covers limits plan pieces point path (inl one.1) one.2 two.1)
one_here limits items plan checkpoint pieces point path (tried.Exits code) tried.Asks one two = absurd (apart_ended path two.1.lives (ap is_some one.1))
one_here limits items plan checkpoint pieces point path (tried.Exits code) (tried.Exits another) one two = ap (λ (n : ℕ). tried.Exits n) (same_Some code another (sym one.1 ∙ two.1))
one_here limits items plan checkpoint pieces point path (tried.Exits code) (tried.Failed cause) one two = absurd (apart_ended path two.1.lives (ap is_some one.1))
one_here limits items plan checkpoint pieces point path (tried.Exits code) tried.Contradicts one two = absurd (apart_differs pieces point two.conn path one.0 two.differs)
one_here limits items plan checkpoint pieces point path (tried.Exits code) tried.Behind one two = absurd (late_covers limits plan pieces point path (inr (ap is_some one.1)) one.2 two.1)
one_here limits items plan checkpoint pieces point path (tried.Failed cause) tried.Asks one two = absurd (apart_asks_fails limits plan path point cause two.1 one.1)
one_here limits items plan checkpoint pieces point path (tried.Failed cause) (tried.Exits code) one two = absurd (apart_ended path one.1.lives (ap is_some two.1))
one_here limits items plan checkpoint pieces point path (tried.Failed cause) (tried.Failed another) one two =
    let same : Fails cause ≡ Fails another = sym one.1.fails ∙ two.1.fails in
    let is : cause ≡ another = cc in ap (λ (c : Cause). tried.Failed c) is
one_here limits items plan checkpoint pieces point path (tried.Failed cause) tried.Contradicts one two = absurd (apart_differs pieces point two.conn path one.0 two.differs)
one_here limits items plan checkpoint pieces point path (tried.Failed cause) tried.Behind one two = absurd (late_fails limits plan pieces point path cause one.1 two.1)
one_here limits items plan checkpoint pieces point path tried.Contradicts tried.Asks one two = absurd (apart_differs pieces point one.conn path two.0 one.differs)
one_here limits items plan checkpoint pieces point path tried.Contradicts (tried.Exits code) one two = absurd (apart_differs pieces point one.conn path two.0 one.differs)
one_here limits items plan checkpoint pieces point path tried.Contradicts (tried.Failed cause) one two = absurd (apart_differs pieces point one.conn path two.0 one.differs)
one_here limits items plan checkpoint pieces point path tried.Contradicts tried.Contradicts one two = refl
one_here limits items plan checkpoint pieces point path tried.Contradicts tried.Behind one two = absurd (apart_differs pieces point one.conn path two.0 one.differs)
one_here limits items plan checkpoint pieces point path tried.Behind tried.Asks one two = absurd (late_covers limits plan pieces point path (inl two.1) two.2 one.1)
one_here limits items plan checkpoint pieces point path tried.Behind (tried.Exits code) one two = absurd (late_covers limits plan pieces point path (inr (ap is_some two.1)) two.2 one.1)
one_here limits items plan checkpoint pieces point path tried.Behind (tried.Failed cause) one two = absurd (late_fails limits plan pieces point path cause two.1 one.1)
one_here limits items plan checkpoint pieces point path tried.Behind tried.Contradicts one two = absurd (apart_differs pieces point two.conn path one.0 two.differs)
one_here limits items plan checkpoint pieces point path tried.Behind tried.Behind one two = refl

pub one_result : OneResult
one_result limits items plan checkpoint first second pieces point result other timed one two = of_compared (compare limits items plan checkpoint first second one.from two.from)
  where
    of_compared : Compared limits items plan first second → (first ≡ second) × (result ≡ other)
    of_compared (Equal same) = (
      same,
      one_here limits items plan checkpoint pieces point first result other one.comes (subst (λ (p : Path). ComesTo limits items plan checkpoint pieces point p other) (sym same) two.comes),
    )
    of_compared (Before later) =
        absurd (stops limits items plan checkpoint first second pieces point result timed one.from one.comes (reached limits items plan checkpoint pieces point second other two.from two.comes) later)
    of_compared (Behind later) =
        absurd (stops limits items plan checkpoint second first pieces point other timed two.from two.comes (reached limits items plan checkpoint pieces point first result one.from one.comes) later)
