use Rattle.cow_pages.proofs.Lemmas.{lawful, made_is, made_sound, logged_made}
use Rattle.cow_pages.proofs.Terms.{refl}
use Rattle.cow_pages.proofs.store.PageStore.make.Goals as goal

pub invariant_of-result : goal.invariant_of-result
invariant_of-result c = record {
  sound = made_sound c.requires.few c.requires.numbered c.requires.enough refl (c.in_ok-vec.ensures.items_if_clones_equal (λ x h. h)) c.in_ok-row.ensures.row (c.in_ok-vec-2.ensures.items_if_clones_equal (λ x h. h)) c.in_ok-row-2.ensures.row c.in_ok-row-2.ensures.room c.in_ok-blank_slots.ensures;
  logged = logged_made c.requires.few.0 c.in_ok-make.ensures.recent c.in_ok-blank_slots.ensures;
}

pub returns : goal.returns
returns c =
    let so = (invariant_of-result c).sound in
    record { made = made_is so (c.in_ok-vec.ensures.items_if_clones_equal (λ x h. h)) c.in_ok-row-2.ensures.row c.in_ok-blank_slots.ensures; lawful = lawful so refl }
