-- What the guest's next item is, and that it may be taken.
use Rattle.item_log.specs.Log as logs
use Rattle.link_gate.proofs.ItemLemmas.{item_fits, item_is, opened_items}
use Rattle.recovery.proofs.Few.{few_items}
use Rattle.session_state.proofs.Lemmas.{received_is, takes_going}
use Rattle.session_state.proofs.Terms.{None, Some, ap, arith, length, refl, subst, sym, ◌<◌, ◌^◌, ◌∙◌, ◌≡◌, ◌≤◌, slice_get, Item, Seen, IsItemOf, Image, Wants, does, asks_wants, CpuState, live_of, with_live, live_with_item, Standing, events_of, heeded, items_in, received, Rules, SessionState, IsHandled, IsGoing, IsWaitingFor, Since, entries}

module _ {R : Type 0} where
  -- its instruction is a recv whose buffer may be written
  pub waits_wants : {rules : Rules} {image : Image} {began : Since} {seen : Seen} {session : SessionState R} → IsWaitingFor rules image began seen session → does None None session.cpu.slots.live.guest.machine ≡ Wants
  waits_wants {rules = rules} w =
      let h = w.hearing in
      subst (λ (s : Standing). does None None s.guest.machine ≡ Wants) (sym h.goes.guest)
      (asks_wants rules.limits h.story.survivor.plan h.story.survivor.now h.story.survivor.now.state.machine.taken h.asks)

  -- the item of its number is short
  pub waits_short : {rules : Rules} {image : Image} {began : Since} {seen : Seen} {session : SessionState R} {item : Item} → IsWaitingFor rules image began seen session → IsItemOf session.log session.taken item → length item.bytes < 2 ^ 32
  waits_short {rules = rules} {session = session} {item = item} w is =
      let h = w.hearing in
      item_fits rules.bounds.framing (heeded rules.bounds (events_of rules.bounds (entries h.story))) session.taken item (item_is rules.bounds (entries h.story) session.log session.taken item h.goes.items is)

  -- it takes the item, and its counts are those of the guest
  pub taken_going : {rules : Rules} {image : Image} {began : Since} {seen : Seen} {item : Item} {old inside after : SessionState R} {cpu : CpuState R} → IsWaitingFor rules image began seen old → IsHandled old → inside ≡ old → IsItemOf inside.log inside.taken item
      → old.taken < logs.received old.log → cpu ≡ with_live (live_of cpu) inside.cpu → live_of cpu ≡ live_with_item inside.cpu.base item (live_of inside.cpu)
      → after ≡ record inside { cpu = cpu; taken = cpu.slots.live.guest.machine.taken; steps = cpu.slots.live.steps } → IsGoing rules image began seen after
  taken_going {rules = rules} {image = image} {began = began} {seen = seen} {item = item} {old = old} {cpu = cpu} w handled same is there kept live becomes =
      let h = w.hearing in
      let number : old.taken ≡ h.story.survivor.now.state.machine.taken = h.answers.taken in
      let count : logs.received old.log ≡ received rules.bounds (entries h.story) = received_is h.goes.items in
      let of_events : IsItemOf old.log old.taken item = subst (λ (s : SessionState R). IsItemOf s.log s.taken item) same is in
      let found : slice_get (items_in rules.bounds (entries h.story)) old.taken ≡ Some item = item_is rules.bounds (entries h.story) old.log old.taken item h.goes.items of_events in
      let few : received rules.bounds (entries h.story) ≤ rules.bounds.max_items = few_items rules.bounds (entries h.story) in
      subst (λ (s : SessionState R). IsGoing rules image began seen s) (sym becomes)
      (takes_going w
      (record {
        side = record {
          recorded = ap (λ (s : SessionState R). s.recorded) same;
          log = ap (λ (s : SessionState R). s.log) same;
          events = ap (λ (s : SessionState R). s.events) same;
          cpu = kept ∙ ap (λ (s : SessionState R). with_live (live_of cpu) s.cpu) same;
          env = ap (λ (s : SessionState R). s.env) same;
          until = ap (λ (s : SessionState R). s.until) same;
          options = ap (λ (s : SessionState R). s.options) same;
        };
        replies = ap (λ (s : SessionState R). s.replies) same;
      })
      (ap (λ (s : SessionState R). s.choices) same) (record { taken = refl; steps = refl }) (live ∙ ap (λ (s : SessionState R). live_with_item s.cpu.base item (live_of s.cpu)) same)
      (ap (slice_get (items_in rules.bounds (entries h.story))) (sym number) ∙ found) (omega (arith, number, count, there)) few (opened_items rules.bounds (entries h.story) old.taken item found) handled)
