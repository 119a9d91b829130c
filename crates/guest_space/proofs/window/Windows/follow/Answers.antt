use Rattle.guest_space.proofs.Terms.{ap, arith, length, refl, rules, ◌≡◌, slice_index}
use Rattle.guest_space.proofs.FollowLemmas.{windows_go, windows_rest, past_last}
use Rattle.guest_space.proofs.window.Windows.follow.Goals as goal

pub returns-then-from-to : goal.returns-then-from-to
returns-then-from-to c = λ old new at bytes wrote are. windows_rest old new at bytes c.args.from c.args.to c.args.self.now wrote c.if-from-to.true c.requires.to are

pub returns : goal.returns
returns c = λ old new at bytes wrote are.
    let starts : length c.args.self.now.loads.starts ≡ 40 = search rules in
    let counts : length c.args.self.now.loads.counts ≡ 40 = search rules in
    let places : length c.args.self.now.loads.places ≡ 40 = search rules in
    let places_after : length c.follow_places.new.places ≡ 40 = search rules in
    windows_go old new at bytes c.args.from c.args.to wrote c.args.self.now _ c.requires.to
    (λ register less. ap (λ n. record { start = slice_index c.args.self.now.loads.starts register; count = slice_index c.args.self.now.loads.counts register; place = n }) (c.follow_places.ensures register (omega (arith, less, places))))
    (λ register past. past_last _ register starts counts places_after past) refl are
