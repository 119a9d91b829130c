use Rattle.cow_pages.proofs.Lemmas.{lawful, run_more, writes_nothing}
use Rattle.cow_pages.proofs.Terms.{arith, drop, length, subst, take, ◌+◌, ◌-◌, ◌≡◌, ◌≤◌, Writes}
use Rattle.cow_pages.proofs.store.PageStore.write_run.Goals as goal

pub pages-init : goal.pages-init
pages-init c = record { within = omega arith; writes = writes_nothing _ _; lawful = lawful c.self.invariant.sound c.self.view_is }

pub pages-preserved : goal.pages-preserved
pages-preserved c =
    let done = c.pages.done in
    let count = c.min-count.result in
    let wide : done + count - done ≡ count = omega arith in
    let room : done + count ≤ length c.args.bytes.now = omega arith in
    record {
      within = room;
      writes = run_more _ _ _ _ done count c.args.bytes.now c.pages.invariant.writes (subst (λ n. Writes c.pages.self c.put_within.new.self (c.args.at + done) (take n (drop done c.args.bytes.now))) wide c.put_within.ensures.writes) (lawful c.self.invariant.sound c.self.view_is) c.pages.invariant.lawful room c.requires;
      lawful = c.put_within.ensures.lawful;
    }
