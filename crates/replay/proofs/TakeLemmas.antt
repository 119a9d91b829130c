-- The guest takes the item that it asks for.
use Rattle.replay.proofs.Terms.{Bool, List, Some, ap, arith, drop, length, subst, sym, ℕ, ◌+◌, ◌<◌, ◌^◌, ◌∙◌, ◌≡◌, slice_get_within, slice_get, Item, Told, events_in, Seen, is_bare, IsItemOf, Image, received_keeps, connections_after, taken_standing, Standing, items_in, item_fits, item_is, Recorded, IsReplay, bounds_of, IsBetween, IsWaiting, Stage, StayOpen, replay_of}
use Rattle.replay.proofs.ReplayLemmas.{replay_takes}
use Rattle.replay.proofs.OpenLemmas.{takes_open, stays_then, stays_now}

module _ {image : Image} {recording : Recorded} {began : Told} {seen : Seen} {stage : Stage} (waiting : IsWaiting image recording began seen stage) where
  -- the item of a log is that of the journal, and no longer than a guest can be told
  item_here : {item : Item} → IsItemOf stage.log stage.live.guest.machine.taken item → slice_get (items_in (bounds_of recording) waiting.playing.entries) stage.live.guest.machine.taken ≡ Some item
  item_here {item = item} is = item_is (bounds_of recording) waiting.playing.entries stage.log stage.live.guest.machine.taken item waiting.playing.base.items is

  pub item_short : {item : Item} → IsItemOf stage.log stage.live.guest.machine.taken item → length item.bytes < 2 ^ 32
  item_short {item = item} is =
      item_fits recording.frame (events_in waiting.playing.entries) stage.live.guest.machine.taken item (is recording.frame (events_in waiting.playing.entries) waiting.playing.base.items.shows)

  pub takes_item : {item : Item} {later : Standing} → IsItemOf stage.log stage.live.guest.machine.taken item → later ≡ taken_standing item stage.live → IsBetween image recording began seen (record stage { live = later })
  takes_item {item = item} {later = later} is left =
      let base = waiting.playing.base in
      let items = items_in (bounds_of recording) waiting.playing.entries in
      let n = stage.live.guest.machine.taken in
      let here = item_here is in
      let keeps = received_keeps item stage.live.guest.machine in
      let taken : later.guest.machine.taken ≡ n + 1 = ap (λ (s : Standing). s.guest.machine.taken) left ∙ keeps.taken in
      let connections : later.guest.machine.connections ≡ connections_after item stage.live.guest.machine.connections = ap (λ (s : Standing). s.guest.machine.connections) left ∙ keeps.connections in
      let opened : StayOpen seen.phases (drop (n + 1) items) (connections_after item stage.live.guest.machine.connections) = takes_open seen.phases items n stage.live.guest.machine.connections here base.connected in
      let stays : StayOpen seen.phases (drop later.guest.machine.taken items) later.guest.machine.connections =
      subst (λ (k : ℕ). StayOpen seen.phases (drop k items) later.guest.machine.connections) (sym taken)
      (subst (λ (connections : List Bool). StayOpen seen.phases (drop (n + 1) items) connections) (sym connections) opened) in
      record {
        playing = record {
          entries = waiting.playing.entries;
          sends = waiting.playing.sends;
          base = record {
            tells = base.tells;
            asked = base.asked;
            is = subst (λ (s : Standing). IsReplay image recording waiting.playing.entries (replay_of stage.choices waiting.playing.sends s)) (sym left)
                (replay_takes stage.live waiting.lives waiting.shorter waiting.asks here base.is);
            items = base.items;
            goes_on = base.goes_on;
            first = base.first;
            events = base.events;
            phases_are = base.phases_are;
            gone = base.gone;
            places = base.places;
            taken = omega (arith, taken, slice_get_within items n item here);
            connected = stays_then seen.phases (drop later.guest.machine.taken items) later.guest.machine.connections stays;
            bare = ap (λ (s : Standing). is_bare s.guest.heap) left ∙ base.bare;
          };
          given = waiting.playing.given;
        };
        opened = stays_now seen.phases (drop later.guest.machine.taken items) later.guest.machine.connections stays;
        lives = ap (λ (s : Standing). s.ended) left ∙ waiting.lives;
      }
