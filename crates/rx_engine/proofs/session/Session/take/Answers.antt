use Rattle.run_history.specs.Run.{does}
use Rattle.session_state.proofs.guest.TakeLemmas.{waits_wants, waits_short, taken_going}
use Rattle.rx_engine.proofs.Terms.{None, subst, sym, ◌≡◌, ◌≤◌, IsItemOf, Wants, waits_whole, SessionState}
use Rattle.rx_engine.proofs.session.Session.take.Goals as goal

pub item-requires-clause-kept : goal.item-requires-clause-kept
item-requires-clause-kept g c = subst (λ (s : SessionState _). s.log.first ≤ s.taken) (sym c.self.view_is) (waits_whole c.requires.waits.waits.is)

pub take_item-requires-clause-asks : goal.take_item-requires-clause-asks
take_item-requires-clause-asks g c =
    subst (λ (s : SessionState _). does None None s.cpu.slots.live.guest.machine ≡ Wants) (sym c.self.view_is) (waits_wants c.requires.waits.waits.is)

pub take_item-requires-clause-short : goal.take_item-requires-clause-short
take_item-requires-clause-short g c =
    waits_short c.requires.waits.waits.is (subst (λ (s : SessionState _). IsItemOf s.log s.taken c.item.result.now) c.self.view_is c.item.ensures.of_events)

pub returns-clause-going : goal.returns-clause-going
returns-clause-going g c image began seen w =
    taken_going w c.requires.handled c.self.view_is c.item.ensures.of_events c.requires.there
    c.take_item.ensures.kept c.take_item.ensures.live c.count_run.ensures
