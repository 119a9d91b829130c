use Rattle.cow_pages.proofs.Lemmas.{part-put_at, owns_in, part_done, part_lawful, place_room}
use Rattle.cow_pages.proofs.Terms.{ap, arith, drop, length, replicate, sym, ℕ, ◌+◌, ◌-◌, ◌∙◌, ◌≡◌, ◌≤◌, length-drop, length-replicate, length-take-le}
use Rattle.cow_pages.proofs.store.PageStore.zero_within.Goals as goal

pub returns : goal.returns
returns c =
    let place = c.own_place-place.result in
    let many = c.args.count in
    let o = owns_in c.self.invariant.sound c.self.view_is c.own_place-place.ensures.owns c.own_place-place.ensures.place c.requires.inside in
    let size : length (replicate {A = ℕ} many 0) ≡ many = length-replicate many 0 in
    let count : place + many - place ≡ many = omega arith in
    let inside : place + many - place ≤ length (drop place c.deref_mut.result.now) = omega (arith, length-drop place c.deref_mut.result.now, ap length c.deref_mut.ensures.value, place_room many o.stands c.requires.within) in
    let zeros : c.fill.new.self ≡ replicate {A = ℕ} many 0 = c.fill.ensures.after (λ y h. h) ∙ ap (λ n. replicate {A = ℕ} n 0) (length-take-le (place + many - place) (drop place c.deref_mut.result.now) inside ∙ count) in
    let writes = part_done o (omega (arith, size, c.requires.some)) (omega (arith, size, c.requires.within)) c.self.inside.pool.ok.0 c.deref_mut.ensures.value (part-put_at _ _ (replicate {A = ℕ} many 0) zeros (count ∙ sym size)) in
    record { writes = writes; lawful = part_lawful _ c.self.invariant.sound c.self.inside.pool.ok.0 }
