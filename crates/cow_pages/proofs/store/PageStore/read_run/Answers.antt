use Rattle.cow_pages.proofs.Lemmas.{lawful, part_is, stands_in, mid_size, read_more}
use Rattle.cow_pages.proofs.Terms.{ap, arith, drop, length, sym, take, ◌++◌, ◌+◌, ◌-◌, ◌∙◌, ◌≡◌, ◌≤◌, length-drop, length-take-le}
use Rattle.cow_pages.proofs.store.PageStore.read_run.Goals as goal

pub pages-preserved : goal.pages-preserved
pages-preserved c =
    let done = c.pages.done in
    let count = c.min-count.result in
    let wide : done + count - done ≡ count = omega arith in
    let room : done + count ≤ length c.pages.buf = omega arith in
    let size : length c.copy_from_slice.new.self ≡ count = c.copy_from_slice.ensures.len ∙ length-take-le _ _ (omega (arith, length-drop done c.pages.buf)) ∙ wide in
    let s = stands_in {at = c.args.at + done} c.self.invariant.sound c.self.view_is (omega (arith, c.requires, c.pages.auto.buf)) c.place_of-place.ensures in
    let part = part_is count s c.self.view_is (omega arith) c.deref.ensures.value (omega arith) c.copy_from_slice.ensures.after in
    record {
      within = omega (arith, mid_size c.pages.buf c.copy_from_slice.new.self done (done + count - done) (omega arith) (size ∙ sym wide));
      read = ap (λ n. take (done + count) (take done c.pages.buf ++ (c.copy_from_slice.new.self ++ drop n (drop done c.pages.buf)))) wide ∙ read_more _ _ _ _ _ _ c.pages.invariant.read part room size;
    }

pub returns-clause-lawful : goal.returns-clause-lawful
returns-clause-lawful c = lawful c.self.invariant.sound c.self.view_is
