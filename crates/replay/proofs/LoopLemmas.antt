-- What the loops of a replay keep.
use Rattle.rx_base.proofs.Composing.{rose_later}
use Rattle.replay.proofs.Terms.{None, arith, sym, true, ℕ, ◌+◌, ◌∙◌, ◌≡◌, ◌≤◌, IsSome, Ok, Result, Counts, Told, Seen, Image, Answer, Recorded, Player, HasCause, IsBetween, IsWaiting, LinkHears, LinkTurns, stage_of}
use Rattle.replay.proofs.LeavingLemmas.{leaves_after}

-- no call of a link has failed so far
pub record HasGoneOn (before now : Seen) : Type 0 where
  pub gave : before.gives ≡ true
  pub takes : now.takes ≡ true
  pub gives : now.gives ≡ true
  pub known : IsSome before.coming → IsSome now.coming
  pub no_takes_fell : before.counts.takes ≤ now.counts.takes
  pub no_gives_fell : before.counts.gives ≤ now.counts.gives

-- a player that hears until its item is there
pub record HasAwaited (Went : Type 0) (before now : Seen) (old new : Player) : Type 0 where
  pub hears : (image : Image) (recording : Recorded) (began : Told) → IsWaiting image recording began before (stage_of old) → IsWaiting image recording began now (stage_of new)
  pub cpu : new.cpu ≡ old.cpu
  pub same : new.difference ≡ old.difference
  pub link : HasGoneOn before now
  pub went : Went

-- a player that turns
pub record HasTurned (Went : Type 0) (image : Image) (recording : Recorded) (before now : Seen) (counter later : ℕ) (player : Player) : Type 0 where
  pub between : IsBetween image recording before.told now (stage_of player)
  pub link : HasGoneOn before now
  pub steps : later ≡ counter + player.cpu.slots.live.steps
  pub none : player.difference ≡ None
  pub went : Went

pub gone_nowhere : {seen : Seen} → seen.takes ≡ true → seen.gives ≡ true → HasGoneOn seen seen
gone_nowhere takes gives = record { gave = gives; takes = takes; gives = gives; known = λ some. some; no_takes_fell = omega arith; no_gives_fell = omega arith }

-- where no count fell before a call, its cause is one of both
cause_then : {X : Type 0} {before mid now : Counts} {result : Result X Answer} → before.takes ≤ mid.takes → before.gives ≤ mid.gives → HasCause mid now result → HasCause before now result
cause_then {before = before} {mid = mid} {now = now} takes gives cause = record {
  takes = let later = cause.takes in omega (arith, takes, later);
  gives = let later = cause.gives in omega (arith, gives, later);
  read_fault = λ is. rose_later before.takes mid.takes now.takes takes (cause.read_fault is);
  write_fault = λ is. rose_later before.gives mid.gives now.gives gives (cause.write_fault is);
}

-- a turn behind that
pub turns_then : {before mid now : Seen} {result : Result (Unit {0}) Answer} → HasGoneOn before mid → LinkTurns mid now result → LinkTurns before now result
turns_then {before = before} {mid = mid} {now = now} {result = result} gone turns = record {
  leaves = leaves_after before mid now result gone.known turns.leaves;
  cause = cause_then gone.no_takes_fell gone.no_gives_fell turns.cause;
}

pub gone_turning : {before mid now : Seen} → HasGoneOn before mid → LinkTurns mid now (Ok tt) → HasGoneOn before now
gone_turning gone turns =
    let all = turns_then gone turns in
    record { gave = gone.gave; takes = all.leaves.0; gives = all.leaves.1; known = all.leaves.2; no_takes_fell = all.cause.takes; no_gives_fell = all.cause.gives }

-- so it is where pieces aren't given
pub hears_turning : {before now : Seen} {result : Result (Unit {0}) Answer} → LinkHears before now result → LinkTurns before now result
hears_turning hears = record { leaves = hears.leaves; cause = hears.cause }

pub hears_then : {before mid now : Seen} {result : Result (Unit {0}) Answer} → HasGoneOn before mid → LinkHears mid now result → LinkHears before now result
hears_then gone hears =
    let all = turns_then gone (hears_turning hears) in
    record { leaves = all.leaves; cause = all.cause; gives = hears.gives ∙ gone.gives ∙ sym gone.gave }

pub gone_hears : {before now : Seen} → HasGoneOn before now → LinkHears before now (Ok tt)
gone_hears gone = record {
  leaves = (gone.takes, gone.gives, gone.known);
  cause = record { takes = gone.no_takes_fell; gives = gone.no_gives_fell; read_fault = λ is. absurd (let never : ⊥ = cc in never); write_fault = λ is. absurd (let never : ⊥ = cc in never) };
  gives = gone.gives ∙ sym gone.gave;
}
