-- A run goes on by quiet turns.
use Rattle.guest_cpu.proofs.Terms.{Bool, List, None, Option, Some, [], ap, arith, refl, subst, suc, sym, zero, ℕ, ◌*◌, ◌+◌, ◌∙◌, ◌≡◌, ◌≤◌, none-some, option_and_then_some, same_Some, Item, Env, repeated_join, served_next_more, repeated, Limits, Override, Path, env_at, planned_next, served_next, Range, Event, Live, Standing, Turn, live_after, quiet_next, quietly, turn, unless_event, with_range, Adds, Follows, standing_of, GoesOn, IsBounded, IsSilent, Writes, writes}
use Rattle.guest_cpu.proofs.ServingLemmas.{turns_serve}
use Rattle.guest_cpu.proofs.OneMore.{OneMore, one_more}
use Rattle.guest_cpu.proofs.TurnEvents.{Means, turn_means}
use Rattle.guest_cpu.proofs.TurnWrites.{WritesAs, turn_writes}
use Rattle.guest_cpu.proofs.WritingLemmas.{writes_none, writes_then}

-- a run goes on as itself
pub goes_same : (limits : Limits) (items : List Item) (plan : List Override) (path : Path) → GoesOn limits items plan path path
goes_same limits items plan path = record {
  served = record { more = 0; ran = refl };
  taken = refl;
  connections = refl;
  later = omega arith;
  bounded = λ lives bound. bound;
}

-- and on from where it hasn't ended
pub goes_on : (limits : Limits) (items : List Item) (plan : List Override) (first second third : Path) → GoesOn limits items plan first second → GoesOn limits items plan second third → second.state.ended ≡ None
    → GoesOn limits items plan first third
goes_on limits items plan first second third one other lives = record {
  served = record {
    more = one.served.more + other.served.more;
    ran = repeated_join (planned_next limits items plan) first second third one.served.more other.served.more one.served.ran other.served.ran;
  };
  taken = other.taken ∙ one.taken;
  connections = other.connections ∙ one.connections;
  later = omega (arith, one.later, other.later);
  bounded = λ last bound. other.bounded last (one.bounded lives bound);
}

-- one more instruction of a bounded run
pub bounded_more : (budget taken later since after steps more : ℕ) → later ≡ taken → after ≡ since + 1 → more ≡ steps + 1 → steps ≤ taken * (budget + 1) + since → more ≤ later * (budget + 1) + after
bounded_more budget taken later since after steps more same rises counts bound = rw same (omega arith)

bounded_one : (limits : Limits) (path next : Path) → OneMore limits path next → next.state.ended ≡ None → IsBounded limits.budget path → IsBounded limits.budget next
bounded_one limits path next one lives bound = record {
  since = omega (arith, one.moves.since lives, one.early);
  steps = bounded_more limits.budget path.state.machine.taken next.state.machine.taken path.state.machine.since next.state.machine.since path.steps next.steps
      one.moves.taken (one.moves.since lives) one.steps bound.steps;
}

-- an instruction without items is one with any
pub goes_one : (limits : Limits) (items : List Item) (plan : List Override) (env : Env) (path next : Path) → env_at limits.base plan path.state.machine.taken ≡ env → served_next limits [] env path ≡ Some next
    → GoesOn limits items plan path next
goes_one limits items plan env path next in_force goes =
    let one = one_more limits env path next goes in
    record {
      served = record { more = 1; ran = ap (λ (e : Env). served_next limits items e path) in_force ∙ served_next_more limits [] items env path next goes };
      taken = one.moves.taken;
      connections = one.moves.connections;
      later = omega (arith, one.steps);
      bounded = bounded_one limits path next one;
    }

-- a run that goes on quietly, and hasn't ended, has come to where a guest stands
pub record Comes (limits : Limits) (items : List Item) (plan : List Override) (first : Path) (standing : Standing) : Type 0 where
  pub now : Path
  pub stands : standing_of now ≡ standing
  pub lives : now.state.ended ≡ None
  pub goes : GoesOn limits items plan first now
  pub silent : IsSilent first now

-- and the guest's flags are those of the pages that it wrote
pub record ComesWriting (limits : Limits) (items : List Item) (plan : List Override) (base : ℕ) (first : Path) (before : List Bool) (new : Live) : Type 0 where
  pub comes : Comes limits items plan first new.standing
  pub wrote : Writes limits items base first before comes.now new.written

-- a quiet turn, by its parts
record IsQuiet (limits : Limits) (env : Env) (base : ℕ) (old new : Live) : Type 0 where
  last : Turn Event
  turns : turn limits env old.standing ≡ Some last
  none : last.event ≡ None
  left : new ≡ live_after base old last

quiet_parts : (limits : Limits) (env : Env) (base : ℕ) (old new : Live) → quiet_next (turn limits env) base old ≡ Some new → IsQuiet limits env base old new
unfolding quiet_next
quiet_parts limits env base old new goes = option_and_then_some (quietly base old) (turn limits env old.standing) new goes (λ t turns quiet. of_event t turns t.event refl quiet)
  where
    of_event : (t : Turn Event) → turn limits env old.standing ≡ Some t → (event : Option Event) → t.event ≡ event → unless_event event (live_after base old t) ≡ Some new → IsQuiet limits env base old new
    of_event t turns None is quiet = record { last = t; turns = turns; none = is; left = sym (same_Some _ new quiet) }
    of_event t turns (Some event) is quiet = absurd (none-some new quiet)

-- one quiet turn more
comes_more : (limits : Limits) (items : List Item) (plan : List Override) (env : Env) (base : ℕ) (first : Path) (before : List Bool) (old new : Live) → env_at limits.base plan first.state.machine.taken ≡ env
    → ComesWriting limits items plan base first before old → IsQuiet limits env base old new → ComesWriting limits items plan base first before new
comes_more limits items plan env base first before old new in_force came quiet =
    of_follows
    (turns_serve limits env came.comes.now quiet.last came.comes.lives here)
    (turn_means limits env old.standing quiet.last quiet.turns)
    (turn_writes limits items env came.comes.now quiet.last here)
  where
    here : turn limits env (standing_of came.comes.now) ≡ Some quiet.last
    here = ap (turn limits env) came.comes.stands ∙ quiet.turns

    of_follows : Follows limits env came.comes.now quiet.last → Means limits env old.standing quiet.last.event quiet.last.standing → WritesAs quiet.last.event quiet.last.written (writes limits items env came.comes.now)
        → ComesWriting limits items plan base first before new
    of_follows follows means written =
        let comes = came.comes in
        let adds = subst (λ (e : Option Event). Adds limits env comes.now e follows.next) quiet.none follows.adds in
        let same = subst (λ (e : Option Event). Means limits env old.standing e quiet.last.standing) quiet.none means in
        let range = subst (λ (e : Option Event). WritesAs e quiet.last.written (writes limits items env comes.now)) quiet.none written in
        let ended : follows.next.state.ended ≡ None = ap (λ (s : Standing). s.ended) follows.stands ∙ same ∙ ap (λ (s : Standing). s.ended) (sym comes.stands) ∙ comes.lives in
        record {
          comes = record {
            now = follows.next;
            stands = follows.stands ∙ sym (ap (λ (l : Live). l.standing) quiet.left);
            lives = ended;
            goes = goes_on limits items plan first comes.now follows.next comes.goes (goes_one limits items plan env comes.now follows.next (ap (env_at limits.base plan) comes.goes.taken ∙ in_force) adds.0) comes.lives;
            silent = record { choices = adds.1 ∙ comes.silent.choices; sends = adds.2 ∙ comes.silent.sends };
          };
          wrote = writes_then limits items base env first before comes.now old.written follows.next new.written came.wrote (served_next_more limits [] items env comes.now follows.next adds.0)
              (ap (λ (l : Live). l.written) quiet.left ∙ ap (λ (r : Option Range). with_range base r old.written) range);
        }

-- so many of them
pub comes_writing : (limits : Limits) (items : List Item) (plan : List Override) (env : Env) (base : ℕ) (first : Path) (old new : Live) (count : ℕ) → first.state.ended ≡ None → env_at limits.base plan first.state.machine.taken ≡ env
    → old.standing ≡ standing_of first → repeated (quiet_next (turn limits env) base) count old ≡ Some new → ComesWriting limits items plan base first old.written new
comes_writing limits items plan env base first old new zero lives in_force stands ran =
    subst (ComesWriting limits items plan base first old.written) (same_Some old new ran) (record {
      comes = record {
        now = first;
        stands = sym stands;
        lives = lives;
        goes = goes_same limits items plan first;
        silent = record { choices = refl; sends = refl };
      };
      wrote = writes_none limits items base first old.written;
    })
comes_writing limits items plan env base first old new (suc count) lives in_force stands ran =
    option_and_then_some (quiet_next (turn limits env) base) (repeated (quiet_next (turn limits env) base) count old) new ran (λ mid earlier goes.
    comes_more limits items plan env base first old.written mid new in_force (comes_writing limits items plan env base first old mid count lives in_force stands earlier) (quiet_parts limits env base mid new goes))
