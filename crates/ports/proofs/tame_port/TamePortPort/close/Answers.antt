use Rattle.ports.proofs.Terms.{arith, false, sym, ◌∙◌, length-set, open_fewer}
use Rattle.ports.proofs.tame_port.TamePortPort.close.Goals as goal

pub push_reserved-requires : goal.push_reserved-requires
push_reserved-requires c =
    let fewer = open_fewer c.args.self.now.opened.items c.args.conn c.requires in
    let same = c.args.self.now.open_counted in
    let room = c.args.self.now.room_to_close in
    omega arith

pub overflow_sub-self : goal.overflow_sub-self
overflow_sub-self c =
    let fewer = open_fewer c.args.self.now.opened.items c.args.conn c.requires in
    let same = c.args.self.now.open_counted in
    omega arith

pub invariant_of-self : goal.invariant_of-self
invariant_of-self c =
    let self = c.args.self.now in
    let fewer = open_fewer self.opened.items c.args.conn c.requires in
    let size = length-set self.opened.items c.args.conn false in
    let same = self.open_counted in
    let few = self.few in
    let fewer_open = self.open_few in
    let room = self.room_to_close in
    let longer = c.push_reserved.ensures.len in
    let capacity = c.push_reserved.ensures.capacity in
    record {
      goes_on = self.goes_on;
      counted = self.counted;
      begun_each = self.begun_each ∙ sym size;
      few = omega arith;
      open_counted = omega arith;
      open_few = omega arith;
      room_to_close = omega arith;
    }
