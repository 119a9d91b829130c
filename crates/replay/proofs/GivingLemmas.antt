-- A send of the guest is given to its connection.
use Rattle.links.specs.declared.journal.Entry.TheVariants as entry
use Rattle.item_log.specs.Log as logs
use Rattle.session_history.proofs.Heeding.{events_in-gave, items_in-gave}
use Rattle.replay.proofs.Terms.{Bool, List, [], ap, arith, drop, false, length, length-set, refl, set, subst, sym, take, true, ℕ, ◌++◌, ◌<◌, ◌∙◌, ◌∷◌, ◌≡◌, both_ways, eqb-false, eqb-true, get_or-set_other, get_or-set_same, take-append-drop, unwrap_or-slice_get, Err, slice_set, ◌&&◌, ◌==◌, ◌||◌, Prefix, Send, Entry, LinkFault, Memory, ReadFault, Refused, WriteFault, tells_then, Gives, Phases, Tells, Told, cut_entries, pieces_in, Seen, Image, Answer, heeded, items_in, phase_after, Recorded, AreGiven, AreGivenInPart, IsLastSend, found_gone, AreAsked, EndsBy, IsReplay, bounds_of, AreOpen, AreOpenThen, IsBase, IsBetween, IsEnd, IsSending, Stage, has, replay_of, answer_of}
use Rattle.replay.specs.Giving as giving
use Rattle.replay.proofs.ReplayLemmas.{replay_same}
use Rattle.replay.proofs.JournalLemmas.{asked_gave, tells_still, last_taken-gave, pieces_in-gave, found_gone-more}

-- a set with one more connection
pub has_more : (connections : List Bool) {conn : ℕ} (other : ℕ) → conn < length connections → has (slice_set connections conn true) other ≡ (has connections other || ((conn == other) && true))
has_more connections {conn = conn} other low = by (conn == other) refl
  where
    or_true : (b : Bool) → (b || true) ≡ true
    or_true true = refl
    or_true false = refl

    or_false : (b : Bool) → (b || false) ≡ b
    or_false true = refl
    or_false false = refl

    by : (b : Bool) → conn == other ≡ b → has (slice_set connections conn true) other ≡ (has connections other || (b && true))
    by true is =
        ap (λ (n : ℕ). has (slice_set connections conn true) n) (sym (eqb-true conn other is))
        ∙ unwrap_or-slice_get (set connections conn true) conn false ∙ get_or-set_same connections conn true false low
        ∙ sym (or_true (has connections other))
    by false is =
        unwrap_or-slice_get (set connections conn true) other false
        ∙ get_or-set_other connections conn other true false (λ same. eqb-false conn other is (sym same))
        ∙ sym (unwrap_or-slice_get connections other false)
        ∙ sym (or_false (has connections other))

pub no_more : (found here : Bool) → found ≡ (found || (here && false))
no_more true here = refl
no_more false true = refl
no_more false false = refl

module _ (image : Image) (recording : Recorded) (began : Told) (seen later : Seen) (entries : List Entry) where
  -- a piece is one more entry
  base_gave : {sends : List Send} {stage : Stage} {conn : ℕ} {bytes : List ℕ} {gone : Bool} {connections : List Bool} → IsBase image recording began seen entries sends stage → Tells seen.told later.told (entry.Gave conn bytes gone ∷ [])
      → later.phases ≡ seen.phases → ((other : ℕ) → has connections other ≡ (has stage.gone other || ((conn == other) && gone))) → length connections ≡ 4096
      → IsBase image recording began later (entries ++ entry.Gave conn bytes gone ∷ []) sends (record stage { gone = connections })
  base_gave {stage = stage} {conn = conn} {bytes = bytes} {gone = gone} base tells same with_it places =
      let events = events_in-gave entries conn bytes gone in
      let items = items_in-gave (bounds_of recording) entries conn bytes gone in
      record {
        tells = tells_then _ _ _ _ _ base.tells tells;
        asked = asked_gave conn bytes gone base.asked;
        is = replay_same items base.is;
        items = record {
          all_heeded = ap (heeded (bounds_of recording)) events ∙ base.items.all_heeded ∙ sym events;
          shows = subst (λ events. logs.Shows recording.frame events stage.log) (sym events) base.items.shows;
          most = base.items.most;
        };
        goes_on = λ ended. base.goes_on (sym (last_taken-gave entries conn bytes gone) ∙ ended);
        first = base.first;
        events = base.events ∙ ap length (sym events);
        phases_are = λ other. ap (λ (phases : Phases). phases other) same ∙ base.phases_are other ∙ ap (phase_after other) (sym events);
        gone = λ other. with_it other ∙ ap (λ (b : Bool). b || ((conn == other) && gone)) (base.gone other) ∙ sym (found_gone-more other (pieces_in entries) conn bytes gone)
            ∙ ap (found_gone other) (sym (pieces_in-gave entries conn bytes gone));
        places = places;
        taken = omega (arith, base.taken, ap length items);
        connected = subst (λ items. AreOpenThen later.phases (drop stage.live.guest.machine.taken items) stage.live.guest.machine.connections) (sym items)
            (subst (λ (phases : Phases). AreOpenThen phases (drop stage.live.guest.machine.taken (items_in (bounds_of recording) entries)) stage.live.guest.machine.connections) (sym same) base.connected);
        bare = base.bare;
      }

module _ {image : Image} {recording : Recorded} {began : Told} {seen : Seen} {conn : ℕ} {bytes : List ℕ} {stage : Stage} (sending : IsSending image recording began seen conn bytes stage) where
  -- nothing is given to a connection that was found gone
  pub sends_none : has stage.gone conn ≡ true → IsBetween image recording began seen stage
  sends_none is = record {
    playing = record {
      entries = sending.entries;
      sends = sending.sends ++ record { conn = conn; bytes = bytes; taken = sending.stamp } ∷ [];
      base = sending.base;
      given = giving.Gone sending.sends (pieces_in sending.entries) (record { conn = conn; bytes = bytes; taken = sending.stamp }) sending.given (sym (sending.base.gone conn) ∙ is);
    };
    opened = sending.opened;
    lives = sending.lives;
  }

  -- a whole piece is given
  pub sends_whole : {later : Seen} → has stage.gone conn ≡ false → Tells seen.told later.told (entry.Gave conn bytes false ∷ []) → later.phases ≡ seen.phases
      → IsBetween image recording began later stage
  sends_whole {later = later} is tells same = record {
    playing = record {
      entries = sending.entries ++ entry.Gave conn bytes false ∷ [];
      sends = sending.sends ++ record { conn = conn; bytes = bytes; taken = sending.stamp } ∷ [];
      base = base_gave image recording began seen later sending.entries sending.base tells same
          (λ other. no_more (has stage.gone other) (conn == other)) sending.base.places;
      given = subst (AreGiven (sending.sends ++ record { conn = conn; bytes = bytes; taken = sending.stamp } ∷ [])) (sym (pieces_in-gave sending.entries conn bytes false))
          (giving.Whole sending.sends (pieces_in sending.entries) (record { conn = conn; bytes = bytes; taken = sending.stamp }) sending.given (sym (sending.base.gone conn) ∙ is));
    };
    opened = subst (λ (phases : Phases). AreOpen phases stage.live.guest.machine.connections) (sym same) sending.opened;
    lives = sending.lives;
  }

  -- some first bytes of it went out, and its connection was found gone
  pub sends_cut : {later : Seen} (count : ℕ) → conn < 4096 → has stage.gone conn ≡ false → Tells seen.told later.told (entry.Gave conn (take count bytes) true ∷ []) → later.phases ≡ seen.phases
      → IsBetween image recording began later (record stage { gone = slice_set stage.gone conn true })
  sends_cut {later = later} count low is tells same = record {
    playing = record {
      entries = sending.entries ++ entry.Gave conn (take count bytes) true ∷ [];
      sends = sending.sends ++ record { conn = conn; bytes = bytes; taken = sending.stamp } ∷ [];
      base = base_gave image recording began seen later sending.entries
          sending.base tells same (λ other. has_more stage.gone other (omega (arith, low, sending.base.places))) (length-set stage.gone conn true ∙ sending.base.places);
      given = subst (AreGiven (sending.sends ++ record { conn = conn; bytes = bytes; taken = sending.stamp } ∷ [])) (sym (pieces_in-gave sending.entries conn (take count bytes) true))
          (giving.Cut sending.sends (pieces_in sending.entries) (record { conn = conn; bytes = bytes; taken = sending.stamp }) (take count bytes) sending.given (sym (sending.base.gone conn) ∙ is)
          (drop count bytes, take-append-drop count bytes));
    };
    opened = subst (λ (phases : Phases). AreOpen phases stage.live.guest.machine.connections) (sym same) sending.opened;
    lives = sending.lives;
  }

  -- the journal where giving breaks off
  cut_parts : (later : Seen) (front : List ℕ) → has stage.gone conn ≡ false → Prefix front bytes → Tells seen.told later.told (cut_entries conn front)
      → (entries : List Entry) × Tells began later.told entries × IsReplay image recording entries (replay_of stage.choices (sending.sends ++ record { conn = conn; bytes = bytes; taken = sending.stamp } ∷ []) stage.live)
      × AreAsked image recording entries × AreGivenInPart (sending.sends ++ record { conn = conn; bytes = bytes; taken = sending.stamp } ∷ []) (pieces_in entries)
  cut_parts later [] is front tells = (
    sending.entries,
    tells_still sending.base.tells tells,
    sending.base.is,
    sending.base.asked,
    giving.Unbegun sending.sends (pieces_in sending.entries) (record { conn = conn; bytes = bytes; taken = sending.stamp }) sending.given,
  )
  cut_parts later (byte ∷ more) is front tells = (
    sending.entries ++ entry.Gave conn (byte ∷ more) false ∷ [],
    tells_then _ _ _ _ _ sending.base.tells tells,
    replay_same
        (items_in-gave (bounds_of recording) sending.entries conn (byte ∷ more) false) sending.base.is,
    asked_gave conn (byte ∷ more) false sending.base.asked,
    subst (AreGivenInPart (sending.sends ++ record { conn = conn; bytes = bytes; taken = sending.stamp } ∷ [])) (sym (pieces_in-gave sending.entries conn (byte ∷ more) false))
        (giving.Begun sending.sends (pieces_in sending.entries) (record { conn = conn; bytes = bytes; taken = sending.stamp }) (byte ∷ more) sending.given (sym (sending.base.gone conn) ∙ is) front),
  )

  -- giving failed, or memory ran out
  broken : {later : Seen} (front : List ℕ) {end : Answer} (Gave : ℕ → List ℕ → Type 0) → later.takes ≡ true → later.gives ≡ false → has stage.gone conn ≡ false → Prefix front bytes → Tells seen.told later.told (cut_entries conn front) → Gave conn bytes
      → ((sends : List Send) (entries : List Entry) → AreGivenInPart sends (pieces_in entries) → EndsBy image recording entries later.coming (replay_of stage.choices sends stage.live) end)
      → IsEnd image recording began later (IsLastSend began seen.told Gave) stage end
  broken {later = later} front Gave take give is whole tells gave ends =
      let parts = cut_parts later front is whole tells in
      record {
        entries = parts.0;
        sends = sending.sends ++ record { conn = conn; bytes = bytes; taken = sending.stamp } ∷ [];
        tells = parts.1;
        asked = parts.3;
        is = parts.2;
        ends = ends (sending.sends ++ record { conn = conn; bytes = bytes; taken = sending.stamp } ∷ []) parts.0 parts.4;
        failed = λ no. absurd (both_ways later.takes no take);
        given = λ yes. absurd (both_ways later.gives give yes);
        last = λ _. record {
          before = sending.sends;
          last = record { conn = conn; bytes = bytes; taken = sending.stamp };
          are = refl;
          entries = sending.entries;
          tells = sending.base.tells;
          given = sending.given;
          gave = gave;
        };
      }

  pub sends_broken : {later : Seen} (why : LinkFault) (Gave : ℕ → List ℕ → Type 0) → later.takes ≡ true → later.gives ≡ false → has stage.gone conn ≡ false → Gives seen.told later.told conn bytes (Err why) → Gave conn bytes
      → IsEnd image recording began later (IsLastSend began seen.told Gave) stage (answer_of why)
  sends_broken (Refused kind offset) Gave take give is gives gave = absurd gives
  sends_broken ReadFault Gave take give is gives gave = absurd gives
  sends_broken WriteFault Gave take give is gives gave = broken gives.0 Gave take give is gives.1 gives.2 gave (λ sends entries part. part)
  sends_broken Memory Gave take give is gives gave = broken gives.0 Gave take give is gives.1 gives.2 gave (λ sends entries part. part)
