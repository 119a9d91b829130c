use Rattle.cow_pages.proofs.Lemmas.{copied_done, owns_in, part_lawful, stands_in}
use Rattle.cow_pages.proofs.Terms.{arith}
use Rattle.cow_pages.proofs.store.PageStore.copy_between.Goals as goal

pub returns : goal.returns
returns c =
    let owns = c.own_place-target.ensures.owns in
    let o = owns_in c.self.invariant.sound c.self.view_is owns c.own_place-target.ensures.place c.requires.target.0 in
    let s = stands_in c.self.invariant.sound c.self.view_is (omega (arith, owns.pages, c.requires.source.0)) c.place_of-source.ensures in
    record {
      writes = copied_done o s c.requires.some c.requires.source.1 c.requires.target.1 c.self.inside.pool.ok.0 c.as_mut_slice.ensures.value c.copy_part.ensures;
      lawful = part_lawful _ c.self.invariant.sound c.self.inside.pool.ok.0;
    }
