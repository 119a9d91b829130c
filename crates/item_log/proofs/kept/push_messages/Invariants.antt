use Rattle.std.specs.VecDeque.{deque_capacity}
use Rattle.std.specs.Vec.Iter.{into_iter_items}
use Rattle.item_log.proofs.Terms.{map, ◌++◌, ◌≡◌, message_item}
use Rattle.item_log.proofs.kept.push_messages.Given as goal

abbrev pub invariant-loop-bytes : goal.invariant-loop-bytes
invariant-loop-bytes l =
    (goal.iterator-loop-bytes).can_next l.bytes-iterator ×
    (goal.iterator-loop-bytes).is_finite l.bytes-iterator ×
    (l.items.items ≡ l.fn.items.items ++ map (message_item l.conn) l.yielded) ×
    (l.yielded ++ into_iter_items l.bytes-iterator ≡ l.fn.messages.items) ×
    (deque_capacity l.items ≡ deque_capacity l.fn.items)
