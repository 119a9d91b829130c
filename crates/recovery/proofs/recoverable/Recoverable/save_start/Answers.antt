use Rattle.recovery.proofs.Terms.{ap, ◌∙◌, Slots, Standing}
use Rattle.recovery.proofs.Stands.{none_set, some_saved}
use Rattle.recovery.proofs.RingLemmas.{ring_begins}
use Rattle.recovery.proofs.recoverable.Recoverable.save_start.Goals as goal

pub returns-clause-keeps : goal.returns-clause-keeps
returns-clause-keeps g c rules image start =
    let saves = c.save.ensures.saved in
    ring_begins c.args.self.now.cpu c.requires.none start saves (some_saved c.args.self.now.cpu.slots saves c.requires.none.some c.save.ensures.sound.frames) (ap (λ p. p.1) c.save.ensures.fixed)
    (none_set c.save.new.t.written c.save.new.t.slots.pages (c.sound.ensures.written ∙ ap (λ (slots : Slots Standing). slots.written) saves) c.sound.ensures.pages)
