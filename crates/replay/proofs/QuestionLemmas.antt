-- Where a replay stands behind each question of its guest.
use Rattle.run_history.specs.declared.answer.Answer.TheVariants as answer
use Rattle.guest_cpu.specs.declared.event.Question.TheVariants as question
use Rattle.replay.proofs.Terms.{Bool, List, None, Some, ap, arith, cond, drop, false, length, refl, subst, sym, true, ℕ, ◌<◌, ◌∙◌, ◌≡◌, ◌≤◌, both_ways, eqb-false, eqb-true, ltb-false, ltb-true, Err, IfOk, Ok, Result, is_some, nat_lt, ◌==◌, Send, Entry, Told, pieces_in, Seen, Ask, Image, Answer, Cause, Question, recorded, RunsBy, Live, Standing, items_in, Recorded, Ended, EndsBy, Failed, Untaken, Unused, bounds_of, AreOpen, AreOpenThen, GoesOnBy, IsBase, IsBetween, IsEnd, IsPlaying, IsSending, IsWaiting, IsWanting, IsWholeEnd, Stage, TurnsBy, has, replay_of, ended_apart, judged, left_over}
use Rattle.replay.specs.Giving as giving
use Rattle.replay.specs.declared.difference.Difference.TheVariants as difference
use Rattle.replay.proofs.RunLemmas.{Ran, same_sends, with_send, ComesTo, comes_by}
use Rattle.replay.proofs.ReplayLemmas.{replay_ran}
use Rattle.replay.proofs.LineLemmas.{few_lines}

-- what holds at any time holds where the guest goes on
base_ran : {image : Image} {recording : Recorded} {began : Told} {seen : Seen} {entries : List Entry} {sends : List Send} {stage : Stage} {later : Standing} (before after : List Send → List Send)
    → Ran recording.steps stage.live later before after → IsBase image recording began seen entries (before sends) stage → IsBase image recording began seen entries (after sends) (record stage { live = later })
base_ran {recording = recording} {seen = seen} {entries = entries} {stage = stage} {later = later} before after ran base =
    let items = items_in (bounds_of recording) entries in
    record {
      tells = base.tells;
      asked = base.asked;
      is = replay_ran before after ran base.is;
      items = base.items;
      goes_on = base.goes_on;
      first = base.first;
      events = base.events;
      phases_are = base.phases_are;
      gone = base.gone;
      places = base.places;
      taken = omega (arith, base.taken, ran.taken);
      connected = subst (λ (n : ℕ). AreOpenThen seen.phases (drop n items) later.guest.machine.connections) (sym ran.taken)
          (subst (λ (connections : List Bool). AreOpenThen seen.phases (drop stage.live.guest.machine.taken items) connections) (sym ran.connections) base.connected);
      bare = ran.bare base.bare;
    }

playing_ran : {image : Image} {recording : Recorded} {began : Told} {seen : Seen} {stage : Stage} {later : Standing} → Ran recording.steps stage.live later same_sends same_sends → IsPlaying image recording began seen stage
    → IsPlaying image recording began seen (record stage { live = later })
playing_ran ran playing = record {
  entries = playing.entries;
  sends = playing.sends;
  base = base_ran same_sends same_sends ran playing.base;
  given = playing.given;
}

module _ {image : Image} {recording : Recorded} {began : Told} {seen : Seen} {stage : Stage} where
  -- a replay at an end, by an answer of which the facts hold
  ended_by : seen.takes ≡ true → (playing : IsPlaying image recording began seen stage) (end : Answer) → EndsBy image recording playing.entries seen.coming (replay_of stage.choices playing.sends stage.live) end → IsWholeEnd image recording began seen stage end
  ended_by still playing end ends = record { entries = playing.entries; sends = playing.sends; tells = playing.base.tells; asked = playing.base.asked; is = playing.base.is; ends = ends; failed = λ no. absurd (both_ways seen.takes no still); given = playing.given }

  -- what stands behind the answer at the record's end, by two tests
  ends_left : (playing : IsPlaying image recording began seen stage) → stage.live.steps ≡ recording.steps → (used taken : Bool)
      → (stage.live.guest.machine.allocations == length recording.lines) ≡ used → (stage.live.guest.machine.taken == recording.taken) ≡ taken
      → EndsBy image recording playing.entries seen.coming (replay_of stage.choices playing.sends stage.live)
      (judged (cond used (cond taken None (Some (difference.ItemsApart stage.live.guest.machine.taken recording.taken))) (Some (difference.LinesLeft stage.live.guest.machine.allocations (length recording.lines)))) stage.live.steps)
  ends_left playing at_end true true u t = (at_end, sym playing.base.is.ran.used ∙ eqb-true stage.live.guest.machine.allocations (length recording.lines) u, eqb-true stage.live.guest.machine.taken recording.taken t, playing.given)
  ends_left playing at_end true false u t = (refl, Untaken at_end (eqb-false stage.live.guest.machine.taken recording.taken t), playing.given, λ ended. absurd (playing.base.goes_on ended))
  ends_left playing at_end false taken u t =
      let apart = eqb-false stage.live.guest.machine.allocations (length recording.lines) u in
      (refl, Unused at_end (omega (arith, apart, playing.base.is.ran.used, few_lines recording.lines stage.choices playing.base.is.lines)), playing.given, λ ended. absurd (playing.base.goes_on ended))

  -- the guest has come to the record's end
  left_end : seen.takes ≡ true → IsPlaying image recording began seen stage → stage.live.steps ≡ recording.steps → IsWholeEnd image recording began seen stage (judged (left_over recording stage.live) stage.live.steps)
  left_end still playing at_end =
      ended_by still playing (judged (left_over recording stage.live) stage.live.steps)
      (ends_left playing at_end (stage.live.guest.machine.allocations == length recording.lines) (stage.live.guest.machine.taken == recording.taken) refl refl)

  -- it has ended itself, there or before
  ended_end : seen.takes ≡ true → IsPlaying image recording began seen stage → (code : ℕ) → stage.live.ended ≡ Some code → IsWholeEnd image recording began seen stage (judged (ended_apart recording code stage.live) stage.live.steps)
  ended_end still playing code is = by (nat_lt stage.live.steps recording.steps) refl
    where
      by : (early : Bool) → nat_lt stage.live.steps recording.steps ≡ early → IsWholeEnd image recording began seen stage (judged (cond early (Some (difference.Ended code)) (left_over recording stage.live)) stage.live.steps)
      by true early = ended_by still playing (answer.Mismatch stage.live.steps) (refl, Ended (ltb-true stage.live.steps recording.steps early) (ap is_some is), playing.given, λ ended. absurd (playing.base.goes_on ended))
      by false early = left_end still playing (omega (arith, ltb-false stage.live.steps recording.steps early, playing.base.is.steps))

module _ {image : Image} {recording : Recorded} {began : Told} {seen : Seen} {stage : Stage} {later : Standing} (between : IsBetween image recording began seen stage) where
  -- where the guest has come to the record's end
  pub comes_at_end : ComesTo recording.steps stage.live question.Reached later → later.steps ≡ recording.steps
  comes_at_end comes = let within : later.steps ≤ recording.steps = comes.0.within between.playing.base.is.steps in omega (arith, within, comes.1)

  -- no more of the record's lines are used there than it has
  pub few_used : Ran recording.steps stage.live later same_sends same_sends → later.guest.machine.allocations ≤ length recording.lines
  few_used ran =
      let is = between.playing.base.is in
      omega (arith, ran.allocations, is.ran.used, few_lines recording.lines stage.choices is.lines)

  pub reached_end : seen.takes ≡ true → ComesTo recording.steps stage.live question.Reached later → IsWholeEnd image recording began seen (record stage { live = later }) (judged (left_over recording later) later.steps)
  reached_end still comes = left_end still (playing_ran comes.0 between.playing) (comes_at_end comes)

  pub exits_end : seen.takes ≡ true → (code : ℕ) → ComesTo recording.steps stage.live (question.Exits code) later → IsWholeEnd image recording began seen (record stage { live = later }) (judged (ended_apart recording code later) later.steps)
  exits_end still code comes = ended_end still (playing_ran comes.0 between.playing) code comes.1

  pub failed_end : seen.takes ≡ true → (cause : Cause) → ComesTo recording.steps stage.live (question.Failed cause) later → IsWholeEnd image recording began seen (record stage { live = later }) (answer.Mismatch later.steps)
  failed_end still cause comes =
      let playing = playing_ran comes.0 between.playing in
      record {
        entries = playing.entries;
        sends = playing.sends;
        tells = playing.base.tells;
        asked = playing.base.asked;
        is = playing.base.is;
        ends = (refl, Failed cause comes.1 comes.2 comes.3, playing.given, λ ended. absurd (playing.base.goes_on ended));
        failed = λ no. absurd (both_ways seen.takes no still);
        given = playing.given;
      }

  pub memory_end : seen.takes ≡ true → Ran recording.steps stage.live later same_sends same_sends → IsWholeEnd image recording began seen (record stage { live = later }) answer.Memory
  memory_end still ran =
      let playing = playing_ran ran between.playing in
      record {
        entries = playing.entries;
        sends = playing.sends;
        tells = playing.base.tells;
        asked = playing.base.asked;
        is = playing.base.is;
        ends = giving.All playing.sends (pieces_in playing.entries) playing.given;
        failed = λ no. absurd (both_ways seen.takes no still);
        given = playing.given;
      }

  pub asks_waiting : ComesTo recording.steps stage.live question.Asks later → IsWaiting image recording began seen (record stage { live = later })
  asks_waiting comes = record {
    playing = playing_ran comes.0 between.playing;
    lives = comes.2;
    shorter = comes.1;
    asks = comes.3;
  }

  pub wants_wanting : {ask : Ask} → ComesTo recording.steps stage.live (question.Wants ask) later → IsWanting image recording began seen ask (record stage { live = later })
  wants_wanting comes = record {
    between = record {
      playing = playing_ran comes.0 between.playing;
      opened = subst (AreOpen seen.phases) (sym comes.0.connections) between.opened;
      lives = comes.2;
    };
    shorter = comes.1;
    wants = comes.3;
  }

  pub emits_sending : {conn : ℕ} {bytes : List ℕ} → ComesTo recording.steps stage.live (question.Emits conn bytes) later → IsSending image recording began seen conn bytes (record stage { live = later })
  emits_sending {conn = conn} {bytes = bytes} comes = record {
    entries = between.playing.entries;
    sends = between.playing.sends;
    stamp = stage.live.guest.machine.taken;
    base = base_ran same_sends (with_send (record { conn = conn; bytes = bytes; taken = stage.live.guest.machine.taken })) comes.0 between.playing.base;
    given = between.playing.given;
    opened = subst (AreOpen seen.phases) (sym comes.0.connections) between.opened;
    lives = comes.1;
    here = between.opened conn (ap (λ (connections : List Bool). has connections conn) (sym comes.2.1) ∙ comes.2.2.allowed);
    some = comes.2.2.some;
    few = comes.2.2.few;
  }

-- where a guest that lives has run to a question
pub comes_to : (until : ℕ) {base : ℕ} {old new : Live} {found asked : Question} → old.standing.ended ≡ None → found ≡ asked → RunsBy question.Emits (recorded until) base old (Ok found) new → ComesTo until old.standing asked new.standing
comes_to until {base = base} {old = old} {new = new} {found = found} lives is runs = subst (λ (q : Question). ComesTo until old.standing q new.standing) is (comes_by until base old new (Ok found) lives runs)

-- what rose behind a question rose since before it
pub rises_behind : {until : ℕ} {old new : Standing} (before after : List Send → List Send) {later : ℕ} → Ran until old new before after → new.steps < later → old.steps < later
rises_behind before after ran low = omega (arith, ran.steps, low)

pub ok_always : {X E : Type 0} (result : Result X E) (P : Type 0) → P → IfOk result (λ _. P)
ok_always (Ok done) P holds = holds
ok_always (Err why) P holds = tt

-- where the link gives still, whatever is said of a last send
pub whole_end : {image : Image} {recording : Recorded} {began : Told} {seen : Seen} (Last : List Send → Type 0) {stage : Stage} {end : Answer} → seen.gives ≡ true → IsWholeEnd image recording began seen stage end
    → IsEnd image recording began seen Last stage end
whole_end {seen = seen} Last still is = record {
  entries = is.entries;
  sends = is.sends;
  tells = is.tells;
  asked = is.asked;
  is = is.is;
  ends = is.ends;
  failed = is.failed;
  given = λ _. is.given;
  last = λ no. absurd (both_ways seen.gives no still);
}

pub whole_goes : (image : Image) (recording : Recorded) (began : Told) (seen : Seen) (Last : List Send → Type 0) (stage : Stage) (result : Result (Unit {0}) Answer) → seen.gives ≡ true → GoesOnBy image recording began seen stage result
    → TurnsBy image recording began seen Last stage result
whole_goes image recording began seen Last stage (Ok done) still goes = goes
whole_goes image recording began seen Last stage (Err end) still goes = whole_end Last still goes
