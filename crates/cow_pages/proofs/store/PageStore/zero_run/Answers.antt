use Rattle.cow_pages.proofs.Lemmas.{lawful, writes_nothing, zeros_more}
use Rattle.cow_pages.proofs.Terms.{arith, ◌+◌, ◌≤◌}
use Rattle.cow_pages.proofs.store.PageStore.zero_run.Goals as goal

pub pages-init : goal.pages-init
pages-init c = record { within = omega arith; writes = writes_nothing _ _; lawful = lawful c.self.invariant.sound c.self.view_is }

pub pages-preserved : goal.pages-preserved
pages-preserved c =
    let room : c.pages.done + c.min-part.result ≤ c.args.count = omega arith in
    record {
      within = room;
      writes = zeros_more _ _ _ _ _ _ c.pages.invariant.writes c.zero_within.ensures.writes (lawful c.self.invariant.sound c.self.view_is) c.pages.invariant.lawful (omega (arith, room, c.requires));
      lawful = c.zero_within.ensures.lawful;
    }
