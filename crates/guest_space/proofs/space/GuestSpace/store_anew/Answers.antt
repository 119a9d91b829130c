use Rattle.guest_space.proofs.Terms.{arith, subst, ◌%◌, ◌+◌, ◌-◌, ◌≤◌, PAGE, little_bytes, GuestPages, IsLawfulSpace, AreWindows, IsStoreWindow}
use Rattle.guest_space.proofs.StretchLemmas.{parts_open}
use Rattle.guest_space.proofs.SpaceLemmas.{parts_place, length-little_bytes}
use Rattle.guest_space.proofs.FollowLemmas.{parts_page}
use Rattle.guest_space.proofs.WindowLemmas.{each_set, parts_stay, window_after}
use Rattle.guest_space.proofs.space.GuestSpace.store_anew.Goals as goal

pub overflow_sub-near : goal.overflow_sub-near
overflow_sub-near c = (parts_place 2 c.self.inside.base c.self.inside.spans.items c.self.inside.store c.self.inside.code.value c.args.self.now c.args.at 4 c.self.invariant c.self.view_is (omega arith) ((parts_open 2 c.self.inside.base c.self.inside.spans.items _ c.self.inside.store c.self.inside.code.value c.args.self.now _ c.self.view_is c.deref.ensures.value c.in-Some.ensures.open).held c.args.at c.in-Some.ensures.has.0 c.in-Some.ensures.has.1)).0

pub place-before-requires : goal.place-before-requires
place-before-requires c =
    let room = parts_place 2 c.self.inside.base c.self.inside.spans.items c.self.inside.store c.self.inside.code.value c.args.self.now c.args.at 4 c.self.invariant c.self.view_is (omega arith) ((parts_open 2 c.self.inside.base c.self.inside.spans.items _ c.self.inside.store c.self.inside.code.value c.args.self.now _ c.self.view_is c.deref.ensures.value c.in-Some.ensures.open).held c.args.at c.in-Some.ensures.has.0 c.in-Some.ensures.has.1) in
    omega arith

pub place-requires : goal.place-requires
place-requires c =
    let room = parts_place 2 c.self.inside.base c.self.inside.spans.items c.self.inside.store c.self.inside.code.value c.args.self.now c.args.at 4 c.self.invariant c.self.view_is (omega arith) ((parts_open 2 c.self.inside.base c.self.inside.spans.items _ c.self.inside.store c.self.inside.code.value c.args.self.now _ c.self.view_is c.deref.ensures.value c.in-Some.ensures.open).held c.args.at c.in-Some.ensures.has.0 c.in-Some.ensures.has.1) in
    let same = parts_stay c.args.self.now c.put_number.new.self c.self.inside.base c.self-2.inside.base c.self.inside.spans.items c.self-2.inside.spans.items c.self.inside.store c.self-2.inside.store c.self.inside.code.value c.self-2.inside.code.value c.self.view_is c.self-2.view_is c.args.at (little_bytes c.args.size c.args.value) c.if-not-put_number.ensures.1 in
    omega (arith, room, same)

pub returns-clause-holds : goal.returns-clause-holds
returns-clause-holds c =
    let so : IsLawfulSpace c.args.self.now = subst IsLawfulSpace c.self.view_is c.self.invariant in
    let put = c.if-not-put_number.ensures.1 in
    let many = length-little_bytes c.args.size c.args.value in
    let room = parts_place 2 c.self.inside.base c.self.inside.spans.items c.self.inside.store c.self.inside.code.value c.args.self.now c.args.at 4 c.self.invariant c.self.view_is (omega arith) ((parts_open 2 c.self.inside.base c.self.inside.spans.items _ c.self.inside.store c.self.inside.code.value c.args.self.now _ c.self.view_is c.deref.ensures.value c.in-Some.ensures.open).held c.args.at c.in-Some.ensures.has.0 c.in-Some.ensures.has.1) in
    let fits : (c.args.at - c.self.inside.base) % PAGE + c.args.size ≤ PAGE = omega arith in
    let within : (c.args.at - c.args.self.now.base) % PAGE + c.args.size ≤ PAGE = subst (λ (s : GuestPages). (c.args.at - s.base) % PAGE + c.args.size ≤ PAGE) c.self.view_is fits in
    let wrote = parts_page c.args.self.now c.put_number.new.self c.self.inside.base c.self-2.inside.base c.self.inside.spans.items c.self-2.inside.spans.items c.self.inside.store c.self-2.inside.store c.self.inside.code.value c.self-2.inside.code.value c.self.view_is c.self-2.view_is c.args.at (little_bytes c.args.size c.args.value) put c.self.invariant
    (omega (arith, fits, many)) (omega (arith, room)) c.place-before.result c.place.result c.place-before.ensures.place c.place.ensures.place in
    let after : AreWindows c.put_number.new.self c.follow.new.self = c.follow.ensures c.args.self.now c.put_number.new.self c.args.at (little_bytes c.args.size c.args.value) wrote c.requires.holds in
    let is : IsStoreWindow c.put_number.new.self c.window_in-window.result =
    window_after c.args.self.now c.put_number.new.self c.args.at c.args.size c.args.value c.window_in-window.result so put ((parts_open 2 c.self.inside.base c.self.inside.spans.items _ c.self.inside.store c.self.inside.code.value c.args.self.now _ c.self.view_is c.deref.ensures.value c.in-Some.ensures.open).held c.args.at c.in-Some.ensures.has.0 c.in-Some.ensures.has.1) (omega arith) within c.window_in-window.ensures.window c.window_in-window.ensures.page in
    record {
      loads = after.loads;
      stores = each_set (IsStoreWindow c.put_number.new.self) c.set.new.self _ _ c.window_in-window.result c.set-2.ensures is (each_set (IsStoreWindow c.put_number.new.self) c.follow.new.self.stores _ c.args.register c.window_in-window.result c.set.ensures is after.stores);
    }

pub follow-requires-clause-from : goal.follow-requires-clause-from
follow-requires-clause-from c =
    let place = c.place-before.ensures.place in
    omega (arith, place)
