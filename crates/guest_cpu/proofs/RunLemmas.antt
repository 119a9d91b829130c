-- A guest that runs to its next event is a run that goes on.
use Rattle.rx_base.specs.Sends.{Send}
use Rattle.guest_cpu.proofs.Terms.{Bool, List, None, Option, Some, [], ap, arith, false, refl, subst, sym, ℕ, ◌++◌, ◌<◌, ◌∙◌, ◌∷◌, ◌≡◌, Err, Ok, slice_get, unwrap_or, Item, Choice, Env, Cause, served_next_more, start, start_machine, Limits, Override, Path, env_at, guest_of, served_next, serves, Range, Event, Live, Standing, Turn, live_after, turn, with_range, Adds, standing_of, GoesOn, IsSilent, RunsWriting, Writes, writes, RunsServe, RunsStart, RunsWrite}
use Rattle.guest_cpu.specs.declared.event.Event.TheVariants as event
use Rattle.guest_cpu.proofs.ServingLemmas.{turns_serve}
use Rattle.guest_cpu.proofs.OneMore.{one_more}
use Rattle.guest_cpu.proofs.TurnEvents.{Means, turn_means}
use Rattle.guest_cpu.proofs.TurnWrites.{WritesAs, turn_writes}
use Rattle.guest_cpu.proofs.WritingLemmas.{writes_then}
use Rattle.guest_cpu.proofs.QuietRuns.{goes_one, goes_on, ComesWriting, comes_writing}

pub runs_start : RunsStart
unfolding start start_machine
runs_start image budget = record {
  stands = refl;
  lives = refl;
  bounded = record { since = omega arith; steps = omega arith };
}

-- where a run has come to quietly, and the turn there, which is an event
record Last (limits : Limits) (items : List Item) (plan : List Override) (env : Env) (base : ℕ) (first : Path) (before : List Bool) (event : Event) (new : Live) : Type 0 where
  now : Path
  lives : now.state.ended ≡ None
  in_force : env_at limits.base plan now.state.machine.taken ≡ env
  goes : GoesOn limits items plan first now
  silent : IsSilent first now
  next : Path
  adds : Adds limits env now (Some event) next
  stands : standing_of next ≡ new.standing
  means : Means limits env (standing_of now) (Some event) new.standing
  flags : List Bool
  wrote : Writes limits items base first before now flags
  range : Option Range
  written : WritesAs (Some event) range (writes limits items env now)
  left : new.written ≡ with_range base range flags

module _ (limits : Limits) (items : List Item) (plan : List Override) (env : Env) (base : ℕ) (first : Path) (before : List Bool) (new : Live) where
  -- a turn that is an instruction goes on
  goes_next : (now next : Path) → now.state.ended ≡ None → env_at limits.base plan now.state.machine.taken ≡ env → GoesOn limits items plan first now → served_next limits [] env now ≡ Some next → GoesOn limits items plan first next
  goes_next now next lives in_force goes adds = goes_on limits items plan first now next goes (goes_one limits items plan env now next in_force adds) lives

  -- and counts one more
  counts_next : (now next : Path) → GoesOn limits items plan first now → served_next limits [] env now ≡ Some next → first.steps < next.steps
  counts_next now next goes adds = omega (arith, goes.later, (one_more limits env now next adds).steps)

  -- a guest that hasn't ended
  lives_next : (now next : Path) → now.state.ended ≡ None → standing_of next ≡ new.standing → new.standing.ended ≡ now.state.ended → next.state.ended ≡ None
  lives_next now next lives stands same = ap (λ (s : Standing). s.ended) stands ∙ same ∙ lives

  -- what it wrote: nothing more where it stands
  wrote_here : (now : Path) (flags : List Bool) (range : Option Range) → Writes limits items base first before now flags → range ≡ None → new.written ≡ with_range base range flags → Writes limits items base first before now new.written
  wrote_here now flags range wrote none left = subst (λ (all : List Bool). Writes limits items base first before now all) (sym (left ∙ ap (λ (r : Option Range). with_range base r flags) none)) wrote

  -- and behind one more instruction what that writes
  wrote_next : (now next : Path) (flags : List Bool) (range : Option Range) → Writes limits items base first before now flags → served_next limits [] env now ≡ Some next → range ≡ writes limits items env now → new.written ≡ with_range base range flags
      → Writes limits items base first before next new.written
  wrote_next now next flags range wrote adds is left =
      writes_then limits items base env first before now flags next new.written wrote (served_next_more limits [] items env now next adds) (left ∙ ap (λ (r : Option Range). with_range base r flags) is)

  asks_last : Last limits items plan env base first before event.Asks new → RunsWriting limits items plan base first before (Ok event.Asks) new
  asks_last last = record {
    ran = record {
      now = last.now;
      stands = ap standing_of (sym last.adds) ∙ last.stands;
      goes = last.goes;
      comes = (last.silent, record { lives = last.lives; taken = last.goes.taken; asks = ap (λ (e : Env). serves limits e None (guest_of last.now)) last.in_force ∙ last.means });
    };
    wrote = wrote_here last.now last.flags last.range last.wrote last.written last.left;
  }

  fails_last : (cause : Cause) → Last limits items plan env base first before (event.Failed cause) new → RunsWriting limits items plan base first before (Ok (event.Failed cause)) new
  fails_last cause last = record {
    ran = record {
      now = last.now;
      stands = ap standing_of (sym last.adds) ∙ last.stands;
      goes = last.goes;
      comes = (last.silent, record { lives = last.lives; fails = ap (λ (e : Env). serves limits e None (guest_of last.now)) last.in_force ∙ last.means });
    };
    wrote = wrote_here last.now last.flags last.range last.wrote last.written last.left;
  }

  emits_last : (conn : ℕ) (bytes : List ℕ) → Last limits items plan env base first before (event.Emits conn bytes) new → RunsWriting limits items plan base first before (Ok (event.Emits conn bytes)) new
  emits_last conn bytes last = record {
    ran = record {
      now = last.next;
      stands = last.stands;
      goes = goes_next last.now last.next last.lives last.in_force last.goes last.adds.0;
      comes = (
        last.adds.1 ∙ last.silent.choices,
        last.adds.2
            ∙ ap (λ (sends : List Send). sends ++ record { conn = conn; bytes = bytes; taken = last.now.state.machine.taken } ∷ []) last.silent.sends
            ∙ ap (λ (n : ℕ). first.state.sends ++ record { conn = conn; bytes = bytes; taken = n } ∷ []) last.goes.taken,
        ap (λ (connections : List Bool). unwrap_or (slice_get connections conn) false) (sym last.goes.connections) ∙ last.means.0.allowed,
        last.means.0.some,
        last.means.0.few,
        lives_next last.now last.next last.lives last.stands last.means.1,
        counts_next last.now last.next last.goes last.adds.0,
      );
    };
    wrote = wrote_next last.now last.next last.flags last.range last.wrote last.adds.0 last.written last.left;
  }

  chooses_last : (choice : Choice) → Last limits items plan env base first before (event.Chooses choice) new → RunsWriting limits items plan base first before (Ok (event.Chooses choice)) new
  chooses_last choice last = record {
    ran = record {
      now = last.next;
      stands = last.stands;
      goes = goes_next last.now last.next last.lives last.in_force last.goes last.adds.0;
      comes = (
        last.adds.1 ∙ ap (λ (choices : List Choice). choices ++ choice ∷ []) last.silent.choices,
        last.adds.2 ∙ last.silent.sends,
        lives_next last.now last.next last.lives last.stands last.means,
        counts_next last.now last.next last.goes last.adds.0,
      );
    };
    wrote = wrote_next last.now last.next last.flags last.range last.wrote last.adds.0 last.written last.left;
  }

  exits_last : (code : ℕ) → Last limits items plan env base first before (event.Exits code) new → RunsWriting limits items plan base first before (Ok (event.Exits code)) new
  exits_last code last = record {
    ran = record {
      now = last.next;
      stands = last.stands;
      goes = goes_next last.now last.next last.lives last.in_force last.goes last.adds.0;
      comes = (record { choices = last.adds.1 ∙ last.silent.choices; sends = last.adds.2 ∙ last.silent.sends }, ap (λ (s : Standing). s.ended) last.stands ∙ last.means);
    };
    wrote = wrote_next last.now last.next last.flags last.range last.wrote last.adds.0 last.written last.left;
  }

  -- an event behind quiet turns
  event_last : (event : Event) → Last limits items plan env base first before event new → RunsWriting limits items plan base first before (Ok event) new
  event_last event.Asks last = asks_last last
  event_last (event.Emits conn bytes) last = emits_last conn bytes last
  event_last (event.Chooses choice) last = chooses_last choice last
  event_last (event.Exits code) last = exits_last code last
  event_last (event.Failed cause) last = fails_last cause last

-- the turn that a run has come to
last_of : (limits : Limits) (items : List Item) (plan : List Override) (env : Env) (base : ℕ) (first : Path) (flags : List Bool) (event : Event) (before new : Live) (t : Turn Event) → env_at limits.base plan first.state.machine.taken ≡ env
    → ComesWriting limits items plan base first flags before → turn limits env before.standing ≡ Some t → t.event ≡ Some event → new ≡ live_after base before t → Last limits items plan env base first flags event new
last_of limits items plan env base first flags event before new t in_force came turns is left =
    let comes = came.comes in
    let here : turn limits env (standing_of comes.now) ≡ Some t = ap (turn limits env) comes.stands ∙ turns in
    let follows = turns_serve limits env comes.now t comes.lives here in
    let stands : new.standing ≡ t.standing = ap (λ (l : Live). l.standing) left in
    record {
      now = comes.now;
      lives = comes.lives;
      in_force = ap (env_at limits.base plan) comes.goes.taken ∙ in_force;
      goes = comes.goes;
      silent = comes.silent;
      next = follows.next;
      adds = subst (λ (e : Option Event). Adds limits env comes.now e follows.next) is follows.adds;
      stands = follows.stands ∙ sym stands;
      means = subst (λ (s : Standing). Means limits env (standing_of comes.now) (Some event) s) (sym stands)
          (subst (λ (e : Option Event). Means limits env (standing_of comes.now) e t.standing) is (turn_means limits env (standing_of comes.now) t here));
      flags = before.written;
      wrote = came.wrote;
      range = t.written;
      written = subst (λ (e : Option Event). WritesAs e t.written (writes limits items env comes.now)) is (turn_writes limits items env comes.now t here);
      left = ap (λ (l : Live). l.written) left;
    }

pub runs_write : RunsWrite
runs_write limits items plan env base first old new (Ok event) lives in_force stands runs =
    event_last limits items plan env base first old.written new event
    (last_of limits items plan env base first old.written event runs.before new runs.last in_force (comes_writing limits items plan env base first old runs.before runs.count lives in_force stands runs.quiet) runs.turns runs.is_event runs.left)
runs_write limits items plan env base first old new (Err fault) lives in_force stands runs =
    let came = comes_writing limits items plan env base first old new runs.count lives in_force stands runs.quiet in
    let comes = came.comes in
    record { ran = record { now = comes.now; stands = comes.stands; goes = comes.goes; comes = (comes.silent, comes.lives) }; wrote = came.wrote }

pub runs_serve : RunsServe
runs_serve limits items plan env base first old new result lives in_force stands runs = (runs_write limits items plan env base first old new result lives in_force stands runs).ran
