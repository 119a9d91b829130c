use Rattle.item_log.proofs.Terms.{List, ap, arith, get_or, length, sym, take, ℕ, ◌+◌, ◌<◌, ◌∙◌, ◌≡◌, counted}
use Rattle.item_log.proofs.Counts.{count_fits, count_other, count_same, counted-none, number_at-is, number_at-past}
use Rattle.item_log.proofs.counting.number_at.Goals as goal

pub returns-then-conn-counts : goal.returns-then-conn-counts
returns-then-conn-counts c = sym (number_at-past c.args.counts.now c.args.items.now.items c.args.place c.index.result.now c.index.ensures c.requires.there c.if-conn-counts.true)

pub each-init : goal.each-init
each-init c = ap (λ (all : List ℕ). get_or all c.index.result.now.conn 0) (sym (counted-none c.args.counts.now))

pub each-preserved-then-item-conn : goal.each-preserved-then-item-conn
each-preserved-then-item-conn c =
    let lt : c.each.i < length c.args.items.now.items = omega (arith, c.each-test.true, c.requires.there) in
    c.each.invariant ∙ sym (count_other c.args.counts.now c.args.items.now.items c.each.i c.index-item.result.now c.index.result.now.conn c.index-item.ensures lt c.if-item-conn.true)

pub count_then-count-requires : goal.count_then-count-requires
count_then-count-requires c =
    count_fits 18446744073709551616 (c.args.place + 1) c.each.i c.index.result.now.conn c.each.count c.args.counts.now c.args.items.now.items c.requires.room c.each-test.true c.if-conn-counts.false c.each.invariant

pub each-preserved : goal.each-preserved
each-preserved c =
    let lt : c.each.i < length c.args.items.now.items = omega (arith, c.each-test.true, c.requires.there) in
    c.count_then-count.ensures
    ∙ count_same c.args.counts.now c.args.items.now.items c.each.i c.index-item.result.now c.index.result.now.conn c.each.count c.index-item.ensures lt c.if-conn-counts.false c.if-item-conn.false c.each.invariant

pub returns : goal.returns
returns c =
    let all : c.each.i ≡ c.args.place + 1 = omega (arith, c.each-test.false, c.each.auto.i-end) in
    c.each.invariant
    ∙ ap (λ (n : ℕ). get_or (counted c.args.counts.now (take n c.args.items.now.items)) c.index.result.now.conn 0) all
    ∙ sym (number_at-is c.args.counts.now c.args.items.now.items c.args.place c.index.result.now c.index.ensures c.requires.there)
