use Rattle.rx_engine.proofs.Terms.{ap, rules, subst, sym, ◌∙◌, ◌≡◌, false, slice_get, handle, is_far, keeping_by, stands_of, CanSave, SavesIf, moved, behind_saved, saves_keeping, waits_asks, waits_counted, waits_goes, waits_live, waits_saved, waits_whole, keeping_of, rules_by, SessionState, entries}
use Rattle.rx_engine.proofs.HeldLemmas.{held_as, ring_as}
use Rattle.rx_engine.proofs.session.Session.save.Goals as goal

pub returns-clause-waits : goal.returns-clause-waits
returns-clause-waits g c image began seen waits =
    let the_rules = rules_by g.R.AccessRule.rule c.args.self.now in
    let w = moved (sym c.self.view_is) waits in
    let story = w.hearing.story in
    let can = subst (λ n. CanSave the_rules image (entries story) story.survivor.plan story.survivor.now w.hearing.saved.paths c.self.inside.held.cpu c.self.inside.held.log c.self.inside.held.replies n) (sym (waits_live w))
    (record { ring = w.hearing.saved.ring; live = w.hearing.goes.guest; asks = waits_asks w; goes = waits_goes w; items = waits_whole w; sends = waits_counted w }) in
    moved (held_as c.self.inside c.save.ensures.kept.rest)
    (waits_saved w c.save.ensures.kept.guest.live
    (ring_as c.save.ensures.kept (c.save.ensures.keeps the_rules image (entries story) story.survivor.plan story.survivor.now w.hearing.saved.paths can c.self.invariant.some_every))
    (behind_saved _ _ story.survivor.now w.hearing.saved.paths w.hearing.answers.low w.hearing.saved.early)
    (saves_keeping _ c.self.inside.held.cpu c.save.new.self.cpu c.save.ensures.saved)
    c.save.ensures.counted
    (c.save.ensures.handles ∙ ap (λ n. handle (keeping_by c.self.inside.options.every c.self.inside.held.cpu.slots) n c.self.inside.held.cpu.slots.written (stands_of c.self.inside.held.cpu.slots.saved)) (waits_live w))
    (subst (λ n. is_far c.self.inside.options.every n (slice_get (stands_of c.save.new.self.cpu.slots.saved) 0) ≡ false) (waits_live w) (c.save.ensures.none_due c.self.invariant.some_every)))

pub returns-clause-handled : goal.returns-clause-handled
returns-clause-handled g c =
    subst (λ n. is_far c.self.inside.options.every n (slice_get (stands_of c.save.new.self.cpu.slots.saved) 0) ≡ false) (waits_live (moved (sym c.self.view_is) c.requires.waits.is)) (c.save.ensures.none_due c.self.invariant.some_every)

pub returns-clause-saved : goal.returns-clause-saved
returns-clause-saved g c =
    subst (λ (s : SessionState _). SavesIf (is_far s.options.every s.taken (slice_get (stands_of s.cpu.slots.saved) 0)) s.cpu c.save.new.self.cpu) c.self.view_is
    (subst (λ n. SavesIf (is_far c.self.inside.options.every n (slice_get (stands_of c.self.inside.held.cpu.slots.saved) 0)) c.self.inside.held.cpu c.save.new.self.cpu) (waits_live (moved (sym c.self.view_is) c.requires.waits.is)) c.save.ensures.saved)

pub returns-clause-keeps : goal.returns-clause-keeps
returns-clause-keeps g c = record {
  same = search rules;
  live = search rules;
  rule = search rules;
  keeping = saves_keeping _ c.self.inside.held.cpu c.save.new.self.cpu c.save.ensures.saved ∙ ap (λ (s : SessionState _). keeping_of s) c.self.view_is;
}
