use Rattle.guest_space.proofs.Terms.{arith, length, rules, subst, sym, ◌%◌, ◌+◌, ◌-◌, ◌<◌, ◌≡◌, ◌≤◌, PAGE, EachIs, IsStoreWindow, window_of}
use Rattle.guest_space.proofs.SpaceLemmas.{parts_run}
use Rattle.guest_space.proofs.WindowLemmas.{parts_stay, store_window_stays}
use Rattle.guest_space.proofs.FollowLemmas.{parts_page, windows_unwritten}
use Rattle.guest_space.proofs.space.GuestSpace.write_bytes_by.Goals as goal

pub returns-then-is_empty-clause-holds : goal.returns-then-is_empty-clause-holds
returns-then-is_empty-clause-holds c =
    let none : length c.args.bytes.now ≡ 0 = search rules in
    windows_unwritten c.args.self.now c.write_bytes.new.self c.args.at c.args.bytes.now c.args.windows.now c.write_bytes.ensures none c.requires.holds

pub overflow_sub-near : goal.overflow_sub-near
overflow_sub-near c =
    let some : 0 < length c.args.bytes.now = search rules in
    (parts_run 2 c.self.inside.base c.self.inside.spans.items c.self.inside.store c.self.inside.code.value c.args.self.now c.args.at (length c.args.bytes.now) c.self.invariant c.self.view_is some c.requires.permitted).0

pub returns-then-offset-bytes-clause-holds : goal.returns-then-offset-bytes-clause-holds
returns-then-offset-bytes-clause-holds c =
    let new = c.write_bytes-then-offset-bytes.new.self in
    record {
      loads = c.forget_loads.ensures.loads new;
      stores = subst (EachIs (IsStoreWindow new)) (sym c.forget_loads.ensures.stores) (λ register. store_window_stays c.args.self.now new c.args.at c.args.bytes.now c.write_bytes-then-offset-bytes.ensures (window_of c.args.windows.now.stores register) (c.requires.holds.stores register));
    }

pub place-before-requires : goal.place-before-requires
place-before-requires c =
    let some : 0 < length c.args.bytes.now = search rules in
    let room = parts_run 2 c.self.inside.base c.self.inside.spans.items c.self.inside.store c.self.inside.code.value c.args.self.now c.args.at (length c.args.bytes.now) c.self.invariant c.self.view_is some c.requires.permitted in
    omega (arith, room, some)

pub place-requires : goal.place-requires
place-requires c =
    let some : 0 < length c.args.bytes.now = search rules in
    let room = parts_run 2 c.self.inside.base c.self.inside.spans.items c.self.inside.store c.self.inside.code.value c.args.self.now c.args.at (length c.args.bytes.now) c.self.invariant c.self.view_is some c.requires.permitted in
    let same = parts_stay c.args.self.now c.write_bytes-2.new.self c.self.inside.base c.self-2.inside.base c.self.inside.spans.items c.self-2.inside.spans.items c.self.inside.store c.self-2.inside.store c.self.inside.code.value c.self-2.inside.code.value c.self.view_is c.self-2.view_is c.args.at c.args.bytes.now c.write_bytes-2.ensures in
    omega (arith, room, some, same)

pub returns-clause-holds : goal.returns-clause-holds
returns-clause-holds c =
    let some : 0 < length c.args.bytes.now = search rules in
    let room = parts_run 2 c.self.inside.base c.self.inside.spans.items c.self.inside.store c.self.inside.code.value c.args.self.now c.args.at (length c.args.bytes.now) c.self.invariant c.self.view_is some c.requires.permitted in
    let fits : (c.args.at - c.self.inside.base) % PAGE + length c.args.bytes.now ≤ PAGE = omega (arith, c.if-offset-bytes.false) in
    c.follow.ensures c.args.self.now c.write_bytes-2.new.self c.args.at c.args.bytes.now
    (parts_page c.args.self.now c.write_bytes-2.new.self c.self.inside.base c.self-2.inside.base c.self.inside.spans.items c.self-2.inside.spans.items c.self.inside.store c.self-2.inside.store c.self.inside.code.value c.self-2.inside.code.value c.self.view_is c.self-2.view_is c.args.at c.args.bytes.now c.write_bytes-2.ensures c.self.invariant
    fits (omega (arith, room, some)) c.place-before.result c.place.result c.place-before.ensures.place c.place.ensures.place) c.requires.holds

pub follow-requires-clause-from : goal.follow-requires-clause-from
follow-requires-clause-from c =
    let place = c.place-before.ensures.place in
    omega (arith, place)
