-- Instructions that are no calls, as turns of a guest.
use Rattle.std.proofs.Common.{Ok}
use Rattle.rv_exec.proofs.QuickLemmas.{ran_none}
use Rattle.guest_cpu.proofs.Terms.{Bool, List, None, Option, add-zero, ap, arith, refl, subst, suc, sym, zero, ℕ, ◌+◌, ◌-◌, ◌<◌, ◌≡◌, ◌≤◌, Heap, Env, Line, Regs, GuestPages, flat, IsStep, Ran, limits_of, Core, AreCounted, Standing, Turn, counting, machine_of, standing, turn, Keeps, Turned, recorded}
use Rattle.guest_cpu.specs.Quiet.{core_after, RanOn}
use Rattle.guest_cpu.proofs.CpuLemmas.{Goes, goes_on}
use Rattle.guest_cpu.proofs.StepTurns.{stepped, with_regs}
use Rattle.guest_cpu.proofs.TurnLemmas.{turned_in}
use Rattle.guest_cpu.proofs.RecordTurns.{mapped, turned_as}

-- one more instruction
more : (count : ℕ) (regs mid_regs : Regs) (core : Core) → core_after (suc count) regs core ≡ counting (with_regs (core_after count mid_regs core) regs)
more count regs mid_regs core =
    let since : core.marks.since + suc count ≡ core.marks.since + count + 1 = omega arith in
    let steps : core.marks.steps + suc count ≡ core.marks.steps + count + 1 = omega arith in
    rw (since, steps) refl

keeps_on : (count : ℕ) (regs mid_regs : Regs) (core : Core) → AreCounted core.marks → Keeps (core_after count mid_regs core) (core_after (suc count) regs core)
keeps_on count regs mid_regs core counts =
    let taken = counts.taken in
    let since = counts.since in
    let choices = counts.choices in
    let sends = counts.sends in
    record {
      ends = (refl, refl);
      counted = record { taken = omega arith; since = omega arith; choices = omega arith; sends = omega arith };
      later = omega arith;
      one = omega arith;
    }

-- what a guest does next includes the instructions that are no calls, as long as its counts are below these
abbrev pub DoesEach : {E : Type 0} → (Heap → ℕ → ℕ → Bool) → ℕ → ℕ → (Standing → Option (Turn E)) → Type 0
DoesEach asks since steps next =
    (now : Core) (regs : Regs) (old new : GuestPages) → now.marks.since < since → now.marks.steps < steps → IsStep asks now.book now.regs old regs new
    → Turned (next (standing now (flat old))) None (standing (counting (with_regs now regs)) (flat new)) old new

pub ran_goes : {R E : Type 0} (next : Standing → Option (Turn E)) (rule : R) (asks : Heap → ℕ → ℕ → Bool) (since steps : ℕ) (first core : Core) (before space : GuestPages) (saved : List Core) (line : Line)
    → DoesEach asks since steps next → Goes next rule first core before space saved line
    → (count : ℕ) (regs : Regs) (new_space : GuestPages) → count ≤ since - core.marks.since → count ≤ steps - core.marks.steps
    → Ran asks core.book count core.regs space regs new_space → Goes next rule first (core_after count regs core) before new_space saved line
unfolding Ran
ran_goes next rule asks since steps first core before space saved line does goes zero regs new_space early late ran =
    rw (ran.0, ran.1, add-zero, add-zero) goes
ran_goes next rule asks since steps first core before space saved line does goes (suc count) regs new_space early late (mid_regs, mid_space, ran, one) =
    let mid = ran_goes next rule asks since steps first core before space saved line does goes count mid_regs mid_space (omega arith) (omega arith) ran in
    goes_on next rule first (core_after count mid_regs core) (core_after (suc count) regs core) before mid_space new_space saved line mid
    (subst (λ (after : Core). Turned (next (standing (core_after count mid_regs core) (flat mid_space))) None (standing after (flat new_space)) mid_space new_space) (sym (more count regs mid_regs core))
    (does (core_after count mid_regs core) regs mid_space new_space (omega arith) (omega arith) one))
    (keeps_on count regs mid_regs core goes.fits.counts)

-- in an environment, within a budget
pub turns_each : (budget steps : ℕ) (env : Env) (asks : Heap → ℕ → ℕ → Bool) → DoesEach asks budget steps (turn (limits_of budget asks) env)
turns_each budget steps env asks = λ now regs old new early late one.
    turned_in _ _ _ early (stepped asks one.instr now (counting (with_regs now regs)) regs old new (Ok tt) one.is one.no_call refl (one.done (machine_of now (flat old)) 0) one.leaves refl) (λ written wrote. record { written = written; turns = refl; wrote = wrote })

-- as recorded, up to so many instructions
pub records_each : (since until : ℕ) → DoesEach mapped since until (recorded until)
records_each since until = λ now regs old new early late one.
    turned_as _ _ late (stepped mapped one.instr now (counting (with_regs now regs)) regs old new (Ok tt) one.is one.no_call refl (one.done (machine_of now (flat old)) 0) one.leaves refl) (λ written wrote. record { written = written; turns = refl; wrote = wrote })

-- none is done
pub ran_nothing : (asks : Heap → ℕ → ℕ → Bool) (most : ℕ) (core : Core) (space : GuestPages) → RanOn asks most core space core space
ran_nothing asks most core space = record {
  count = 0;
  few = omega arith;
  ran = ran_none asks core.book core.regs space;
  is = rw (add-zero, add-zero) refl;
}

-- a guest on its way goes on
pub ran_on : {R E : Type 0} (next : Standing → Option (Turn E)) (rule : R) (asks : Heap → ℕ → ℕ → Bool) (since steps most : ℕ) (first core new : Core) (before space new_space : GuestPages) (saved : List Core) (line : Line)
    → DoesEach asks since steps next → Goes next rule first core before space saved line → RanOn asks most core space new new_space → most ≤ since - core.marks.since → most ≤ steps - core.marks.steps
    → Goes next rule first new before new_space saved line
ran_on next rule asks since steps most first core new before space new_space saved line does goes ran early late =
    let few = ran.few in
    subst (λ (after : Core). Goes next rule first after before new_space saved line) (sym ran.is)
    (ran_goes next rule asks since steps first core before space saved line does goes ran.count new.regs new_space (omega arith) (omega arith) ran.ran)

pub goes_within : {R : Type 0} (budget most : ℕ) (env : Env) (asks : Heap → ℕ → ℕ → Bool) (rule : R) (first core new : Core) (before space new_space : GuestPages) (saved : List Core) (line : Line)
    → Goes (turn (limits_of budget asks) env) rule first core before space saved line → RanOn asks most core space new new_space → most ≡ budget - core.marks.since
    → Goes (turn (limits_of budget asks) env) rule first new before new_space saved line
goes_within budget most env asks rule first core new before space new_space saved line goes ran some =
    ran_on (turn (limits_of budget asks) env) rule asks budget (core.marks.steps + most) most first core new before space new_space saved line (turns_each budget (core.marks.steps + most) env asks) goes ran (omega arith) (omega arith)

pub goes_recorded : {R : Type 0} (until most : ℕ) (rule : R) (first core new : Core) (before space new_space : GuestPages) (saved : List Core) (line : Line)
    → Goes (recorded until) rule first core before space saved line → RanOn mapped most core space new new_space → most ≡ until - core.marks.steps
    → Goes (recorded until) rule first new before new_space saved line
goes_recorded until most rule first core new before space new_space saved line goes ran some =
    ran_on (recorded until) rule mapped (core.marks.since + most) until most first core new before space new_space saved line (records_each (core.marks.since + most) until) goes ran (omega arith) (omega arith)

-- what its counts are then
pub record Counts (most : ℕ) (old new : Core) : Type 0 where
  pub count : ℕ
  pub few : count ≤ most
  pub since : new.marks.since ≡ old.marks.since + count
  pub steps : new.marks.steps ≡ old.marks.steps + count
  pub ended : new.ended ≡ old.ended

pub ran_counts : (asks : Heap → ℕ → ℕ → Bool) (most : ℕ) (old new : Core) (old_space new_space : GuestPages) → RanOn asks most old old_space new new_space → Counts most old new
ran_counts asks most old new old_space new_space ran = record {
  count = ran.count;
  few = ran.few;
  since = ap (λ (core : Core). core.marks.since) ran.is;
  steps = ap (λ (core : Core). core.marks.steps) ran.is;
  ended = ap (λ (core : Core). core.ended) ran.is;
}
