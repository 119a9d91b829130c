use Rattle.cow_pages.proofs.Lemmas.{lawful, copies_more, writes_nothing}
use Rattle.cow_pages.proofs.Terms.{arith, ◌+◌, ◌≤◌}
use Rattle.cow_pages.proofs.store.PageStore.copy_run.Goals as goal

pub pages-init : goal.pages-init
pages-init c = record { within = omega arith; writes = writes_nothing _ _; lawful = lawful c.self.invariant.sound c.self.view_is }

pub pages-preserved : goal.pages-preserved
pages-preserved c =
    let room : c.pages.done + c.min-part.result ≤ c.args.count = omega arith in
    record {
      within = room;
      writes = copies_more _ _ _ c.args.from c.args.to c.pages.done c.min-part.result c.args.count c.pages.invariant.writes c.copy_between.ensures.writes (lawful c.self.invariant.sound c.self.view_is) c.pages.invariant.lawful room c.requires.source c.requires.target c.requires.apart;
      lawful = c.copy_between.ensures.lawful;
    }
