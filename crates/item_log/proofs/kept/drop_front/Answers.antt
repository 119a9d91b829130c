use Rattle.item_log.proofs.Terms.{List, ap, arith, drop, refl, subst, sym, ℕ, ◌+◌, ◌<◌, ◌∙◌, drop-drop, All, counted_one}
use Rattle.item_log.proofs.Counts.{counted-next, counted-none, room_left}
use Rattle.item_log.proofs.kept.drop_front.Goals as goal

pub loop-i-init : goal.loop-i-init
loop-i-init c = record { items = refl; counts = sym (counted-none c.args.counts.now) }

pub count_one-requires : goal.count_one-requires
count_one-requires c =
    subst (All (λ (n : ℕ). n + 1 < 18446744073709551616)) (sym c.loop-i.invariant.counts)
    (room_left 18446744073709551616 c.args.count c.loop-i._i 1 c.args.counts.now c.args.items.now.items c.requires.room (omega (arith, c.loop-i-test.true)))

pub loop-i-preserved : goal.loop-i-preserved
loop-i-preserved c = record {
  items = c.pop_front.ensures.rest ∙ ap (drop 1) c.loop-i.invariant.items ∙ drop-drop 1 c.loop-i._i c.args.items.now.items;
  counts = c.count_one.ensures ∙ ap (λ (all : List ℕ). counted_one all c.in-Some.item) c.loop-i.invariant.counts
      ∙ sym (counted-next c.args.counts.now c.args.items.now.items c.pop_front.new.self.items c.loop-i._i c.in-Some.item (sym c.loop-i.invariant.items ∙ c.in-Some.ensures.items));
}
