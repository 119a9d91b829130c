-- A replay at its start, and at its end.
use Rattle.item_log.specs.Log as logs
use Rattle.run_history.specs.declared.answer.Answer.TheVariants as answer
use Rattle.replay.proofs.Terms.{List, None, Option, [], ap, arith, drop, false, length, refl, subst, sym, true, ℕ, ◌+◌, ◌^◌, ◌≡◌, both_ways, length-replicate, Err, MAX_ITEMS, Send, tells_nothing, IsFresh, Phases, Seen, Choice, items_from, items_of, Log, Image, Answer, no_connections_may, no_connections, start_machine, start_standing, Standing, MayBegin, Bounds, heeded, heeded_behind, items_in, Recorded, Difference, Player, BreaksOff, IsLastSend, HasReplayedBy, LinkAnswers, bounds_of, DiffersBy, HasFilledBy, HasFound, AreOpen, AreOpenThen, IsBetween, IsEnd, LinkTurns, Stage, has, replay_of, stage_of}
use Rattle.replay.specs.Giving as giving
use Rattle.replay.specs.Making.{IsMade}
use Rattle.replay.proofs.DifferLemmas.{differs_after, tells_found}
use Rattle.replay.proofs.ReplayLemmas.{replay_start}
use Rattle.replay.proofs.JournalLemmas.{asked_none}

-- nothing is received at the start
none_heeded : (bounds : Bounds) → heeded bounds [] ≡ []
unfolding heeded_behind
none_heeded bounds = refl

none_received : (recording : Recorded) → items_in (bounds_of recording) [] ≡ []
unfolding items_from
none_received recording = ap (items_of recording.frame) (none_heeded (bounds_of recording))

none_open : (phases : Phases) → AreOpen phases no_connections
none_open phases conn may_be = absurd (both_ways (has no_connections conn) (no_connections_may conn) may_be)

all_places : length no_connections ≡ 4096
unfolding no_connections
all_places = length-replicate 4096 false

-- the stage of a player that was just made
abbrev start_stage : Image → Log → Stage
start_stage image log = record { live = start_standing image; log = log; events = 0; gone = no_connections; choices = [] }

starts : {image : Image} {recording : Recorded} {seen : Seen} {log : Log} → IsFresh seen.phases → logs.Shows recording.frame [] log → log ≡ logs.empty_log recording.frame MAX_ITEMS
    → IsBetween image recording seen.told seen (start_stage image log)
unfolding start_machine
starts {recording = recording} {seen = seen} fresh shows is = record {
  playing = record {
    entries = [];
    sends = [];
    base = record {
      tells = tells_nothing _;
      asked = asked_none;
      is = replay_start;
      items = record { all_heeded = none_heeded (bounds_of recording); shows = shows; most = ap (λ (l : Log). l.max_items) is };
      goes_on = λ ended. cc;
      first = ap (λ (l : Log). l.first) is;
      events = refl;
      phases_are = fresh;
      gone = no_connections_may;
      places = all_places;
      taken = omega arith;
      connected = subst (λ items. AreOpenThen seen.phases (drop 0 items) no_connections) (sym (none_received recording)) (none_open seen.phases);
      bare = refl;
    };
    given = giving.Nothing;
  };
  opened = none_open seen.phases;
  lives = refl;
}

pub starts_between : {image : Image} {recording : Recorded} {seen : Seen} {player : Player} → IsFresh seen.phases → IsMade image recording.frame player → IsBetween image recording seen.told seen (stage_of player)
starts_between {image = image} {recording = recording} {seen = seen} {player = player} fresh made =
    let same : start_stage image player.log ≡ stage_of player = λ i. record { live = (sym made.live) i; log = player.log; events = (sym made.events) i; gone = (sym made.gone) i; choices = (sym made.choices) i } in
    subst (IsBetween image recording seen.told seen) same
    (starts fresh made.shows made.log)

-- no instruction was executed yet
pub starts_at : (image : Image) (player : Player) → player.cpu.slots.live ≡ start_standing image → player.cpu.slots.live.steps ≡ 0
starts_at image player is = ap (λ (s : Standing). s.steps) is

-- memory ran out for a player
abbrev replayed_none : {image : Image} {recording : Recorded} {seen : Seen} (Last : List Send → Type 0) {steps : ℕ} → MayBegin seen → HasReplayedBy image recording seen seen Last answer.Memory steps steps
replayed_none {image = image} {seen = seen} Last may = record {
  replayed = record {
    entries = [];
    replay = replay_of [] [] (start_standing image);
    tells = tells_nothing _;
    asked = asked_none;
    is = replay_start;
    ends = giving.All [] [] giving.Nothing;
    failed = λ no. absurd (both_ways seen.takes no may.takes);
    counted = omega arith;
  };
  given = λ _. giving.Nothing;
  last = λ no. absurd (both_ways seen.gives no may.gives);
}

pub filled_none : {image : Image} {recording : Recorded} {seen : Seen} {choices : List Choice} (Last : List Send → Type 0) {steps : ℕ} → MayBegin seen → choices ≡ [] → HasFilledBy image recording seen seen Last answer.Memory None choices steps steps
filled_none Last may none = record { by = replayed_none Last may; differs = refl; choices_are = none }

-- A replay has ended. Where giving broke off it was in one call, behind which the link had gone on so far.
abbrev replayed_by : {K : Type 0} (seen : K → Seen) (Went : K → K → Type 0) (Gave : K → K → ℕ → List ℕ → Type 0) (began mid later : K) {image : Image} {recording : Recorded} {stage : Stage} {end : Answer} {before after : ℕ}
    → Went began mid → (seen mid).gives ≡ true → after ≡ before + stage.live.steps → IsEnd image recording (seen began).told (seen later) (IsLastSend (seen began).told (seen mid).told (Gave mid later)) stage end
    → HasReplayedBy image recording (seen began) (seen later) (BreaksOff seen Went Gave began later) end before after
replayed_by seen Went Gave began mid later {stage = stage} went still counted is = record {
  replayed = record {
    entries = is.entries;
    replay = replay_of stage.choices is.sends stage.live;
    tells = is.tells;
    asked = is.asked;
    is = is.is;
    ends = is.ends;
    failed = is.failed;
    counted = counted;
  };
  given = is.given;
  last = λ no. record { mid = mid; went = went; gives_still = still; last = is.last no };
}

pub filled_by : {K : Type 0} (seen : K → Seen) (Went : K → K → Type 0) (Gave : K → K → ℕ → List ℕ → Type 0) (began mid later : K) {image : Image} {recording : Recorded} {stage : Stage} {end : Answer} {choices : List Choice} {before after : ℕ}
    → Went began mid → (seen mid).gives ≡ true → after ≡ before + stage.live.steps → IsEnd image recording (seen began).told (seen later) (IsLastSend (seen began).told (seen mid).told (Gave mid later)) stage end → choices ≡ stage.choices
    → (was found : Option Difference) → was ≡ None → DiffersBy (HasFound recording stage.live) was found (Err end)
    → HasFilledBy image recording (seen began) (seen later) (BreaksOff seen Went Gave began later) end found choices before after
filled_by seen Went Gave began mid later {image = image} {recording = recording} {stage = stage} {end = end} went still counted is all was found none differs = record {
  by = replayed_by seen Went Gave began mid later went still counted is;
  differs = tells_found image recording is.entries (seen later).coming stage.choices is.sends stage.live found end is.is.ran.used is.ends
      (differs_after (HasFound recording stage.live) found (Err end) none differs);
  choices_are = all;
}

-- what the link shows then, by the turn that ended it
pub answers_link : {before now : Seen} {end : Answer} → LinkTurns before now (Err end) → LinkAnswers before now end
answers_link turns = record {
  leaves = turns.leaves;
  cause = record { takes = turns.cause.takes; gives = turns.cause.gives; read_fault = λ is. turns.cause.read_fault (ap (λ (a : Answer). Err a) is); write_fault = λ is. turns.cause.write_fault (ap (λ (a : Answer). Err a) is) };
}
