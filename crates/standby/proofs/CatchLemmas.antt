-- A follower at its start, and where it has caught up or following broke off.
use Rattle.item_log.specs.Log as logs
use Rattle.run_history.specs.declared.answer.Answer.TheVariants as answer
use Rattle.run_history.proofs.Connections.{no_connections_may}
use Rattle.replay.specs.Making.{IsMade}
use Rattle.replay.specs.declared.player.Player.{Player}
use Rattle.standby.proofs.Terms.{List, None, Option, Some, [], ap, arith, drop, false, length, refl, subst, sym, true≢false, ℕ, ◌+◌, ◌^◌, ◌∙◌, ◌∷◌, ◌≡◌, both_ways, length-replicate, Err, Result, MAX_ITEMS, Send, Entry, tells_nothing, IsFresh, Phases, Seen, Choice, items_from, items_of, Log, Image, Answer, no_connections, start_machine, start_standing, Standing, HasAnswerCause, MayBegin, Bounds, heeded, heeded_behind, items_in, Recorded, Difference, differs_after, found_is, HasGoneOn, replay_start, DiffersBy, HasFound, TellsDifference, AreOpen, AreOpenThen, LinkHears, Stage, has, replay_of, stage_of, LeavesLink, bounds_of, Follower, Unfollowed, AreFollowed, BreaksBy, CatchesUp, EndsAs, FollowsBy, HasBroken, IsBroken, IsFollowing, IsUnderWay, LinkCatches, kept_to}

-- a follower that turns
pub record HasTurned (Went : Type 0) (image : Image) (recording : Recorded) (before now : Seen) (counter later : ℕ) (follower : Follower) : Type 0 where
  pub under : IsUnderWay image recording before.told now follower
  pub link : HasGoneOn before now
  pub steps : later ≡ counter + follower.player.cpu.slots.live.steps
  pub none : follower.player.difference ≡ None
  pub went : Went

-- nothing is received at the start
none_heeded : (bounds : Bounds) → heeded bounds [] ≡ []
unfolding heeded_behind
none_heeded bounds = refl

none_received : (recording : Recorded) → items_in (bounds_of recording) [] ≡ []
unfolding items_from
none_received recording = ap (items_of recording.frame) (none_heeded (bounds_of recording))

none_open : (phases : Phases) → AreOpen phases no_connections
none_open phases conn may_be = absurd (both_ways (has no_connections conn) (no_connections_may conn) may_be)

all_places : length no_connections ≡ 4096
unfolding no_connections
all_places = length-replicate 4096 false

none_followed : {image : Image} {recording : Recorded} → AreFollowed image recording []
none_followed [] after event same = absurd (cc)
none_followed (b ∷ before) after event same = absurd (cc)

-- the stage of a player that was just made
abbrev start_stage : Image → Log → Stage
start_stage image log = record { live = start_standing image; log = log; events = 0; gone = no_connections; choices = [] }

starts : {image : Image} {recording : Recorded} {seen : Seen} {log : Log} → IsFresh seen.phases → logs.Shows recording.frame [] log → log ≡ logs.empty_log recording.frame MAX_ITEMS → IsFollowing image recording seen.told seen [] [] (start_stage image log)
unfolding start_machine
starts {recording = recording} {seen = seen} fresh shows is = record {
  heard = record {
    tells = tells_nothing _;
    items = record { all_heeded = none_heeded (bounds_of recording); shows = shows; most = ap (λ (l : Log). l.max_items) is };
    goes_on = λ ended. absurd (let no : ⊥ = cc in no);
    first = ap (λ (l : Log). l.first) is;
    events = refl;
    phases_are = fresh;
    closed = λ conn closed. absurd (true≢false (sym closed));
    gone = no_connections_may;
    places = all_places;
    taken = omega arith;
    connected = subst (λ items. AreOpenThen seen.phases (drop 0 items) no_connections) (sym (none_received recording)) (none_open seen.phases);
  };
  no_pieces = refl;
  asked = none_followed;
  is = replay_start;
  sent = refl;
  bare = refl;
}

start_open : (image : Image) (phases : Phases) → AreOpen phases (start_standing image).guest.machine.connections
unfolding start_machine
start_open image phases = none_open phases

pub starts_under : {image : Image} {recording : Recorded} {seen : Seen} {follower : Follower} → IsFresh seen.phases → IsMade image recording.frame follower.player → follower.kept.items ≡ [] → follower.exited ≡ None
    → IsUnderWay image recording seen.told seen follower
starts_under {image = image} {recording = recording} {seen = seen} {follower = follower} fresh made kept exited =
    let player = follower.player in
    let same : start_stage image player.log ≡ stage_of player = λ i. record { live = (sym made.live) i; log = player.log; events = (sym made.events) i; gone = (sym made.gone) i; choices = (sym made.choices) i } in
    record {
      entries = [];
      sends = [];
      follows = subst (IsFollowing image recording seen.told seen [] []) same (starts fresh made.shows made.log);
      kept = λ conn. ap (kept_to conn) kept;
      opened = subst (λ (s : Standing). AreOpen seen.phases s.guest.machine.connections) (sym made.live) (start_open image seen.phases);
      lives = ap (λ (s : Standing). s.ended) made.live;
      exited = exited;
    }

pub starts_at : (image : Image) (player : Player) → player.cpu.slots.live ≡ start_standing image → player.cpu.slots.live.steps ≡ 0
starts_at image player is = ap (λ (s : Standing). s.steps) is

-- what was found to differ where following broke off
tells_found : (image : Image) (recording : Recorded) (now : Seen) (entries : List Entry) (choices : List Choice) (sends : List Send) (s : Standing) (found : Option Difference) (end : Answer)
    → s.guest.machine.allocations ≡ length choices → BreaksBy image recording now entries (replay_of choices sends s) end → DiffersBy (HasFound recording s) None found (Err end) → TellsDifference recording entries (replay_of choices sends s) end found
tells_found image recording now entries choices sends s None (answer.Mismatch step) used ends differs = differs
tells_found image recording now entries choices sends s (Some found) (answer.Mismatch step) used ends differs = found_is recording entries (replay_of choices sends s) used found ends.1 differs
tells_found image recording now entries choices sends s found _ used ends differs = differs

pub broken_by : {image : Image} {recording : Recorded} {began now : Seen} {stage : Stage} (end : Answer) {was : Option Difference} (found : Option Difference) {before after : ℕ} → was ≡ None → IsBroken image recording began.told now stage end
    → DiffersBy (HasFound recording stage.live) was found (Err end) → after ≡ before + stage.live.steps → HasBroken image recording began now end found before after
broken_by {image = image} {recording = recording} {now = now} {stage = stage} end found none is differs counted = record {
  entries = is.entries;
  replay = replay_of stage.choices is.sends stage.live;
  tells = is.tells;
  no_pieces = is.no_pieces;
  asked = is.asked;
  is = is.is;
  ends = is.ends;
  failed = is.failed;
  differs = tells_found image recording now is.entries stage.choices is.sends stage.live found end is.is.ran.used is.ends (differs_after (HasFound recording stage.live) found (Err end) none differs);
  counted = counted;
}

-- memory ran out for a player
pub broken_none : {image : Image} {recording : Recorded} {seen : Seen} {steps : ℕ} → MayBegin seen → HasBroken image recording seen seen answer.Memory None steps steps
broken_none {image = image} {seen = seen} may = record {
  entries = [];
  replay = replay_of [] [] (start_standing image);
  tells = tells_nothing _;
  no_pieces = refl;
  asked = none_followed;
  is = replay_start;
  ends = tt;
  failed = λ no. absurd (both_ways seen.takes no may.takes);
  differs = refl;
  counted = omega arith;
}

-- what the link shows then, by the turn that ended it
pub catches_link : {before now : Seen} {end : Answer} → LinkHears before now (Err end) → (now.gives ≡ before.gives) × LeavesLink before now end × HasAnswerCause before.counts now.counts end
catches_link hears = (
  hears.gives,
  hears.leaves,
  record { takes = hears.cause.takes; gives = hears.cause.gives; read_fault = λ is. hears.cause.read_fault (ap (λ (a : Answer). Err a) is); write_fault = λ is. hears.cause.write_fault (ap (λ (a : Answer). Err a) is) },
)

-- following has ended
pub catches_by : (image : Image) (recording : Recorded) (began now : Seen) (follower : Follower) (end : Answer) (result : Result Follower Unfollowed) {was : Option Difference} (before after : ℕ) → was ≡ None → FollowsBy image recording began.told now follower (Err end)
    → DiffersBy (HasFound recording follower.player.cpu.slots.live) was follower.player.difference (Err end) → after ≡ before + follower.player.cpu.slots.live.steps → EndsAs end follower result → CatchesUp image recording began now before after result
catches_by image recording began now follower answer.Finished result before after none follows differs counted ends =
    subst (CatchesUp image recording began now before after) (sym ends) (follows, counted ∙ ap (λ (n : ℕ). before + n) follows.at_end)
catches_by image recording began now follower end result before after none follows differs counted ends =
    subst (CatchesUp image recording began now before after) (sym ends) (broken_by end follower.player.difference none follows differs counted)

pub links_by : {before now : Seen} (follower : Follower) (end : Answer) (result : Result Follower Unfollowed) → LinkHears before now (Err end) → EndsAs end follower result → LinkCatches before now result
links_by {before = before} {now = now} follower answer.Finished result hears ends = subst (LinkCatches before now) (sym ends) (catches_link hears)
links_by {before = before} {now = now} follower end result hears ends = subst (LinkCatches before now) (sym ends) (catches_link hears)
