use Rattle.std.specs.Vec.{with_items}
use Rattle.item_log.proofs.Terms.{List, ap, arith, length, subst, sym, take, ℕ, ◌+◌, ◌-◌, ◌∙◌, ◌≡◌, ◌≤◌, length-drop, with_items_is, All, counted, Log, ShowsStill, item_at, received}
use Rattle.item_log.proofs.Counts.{length-counted, most_left}
use Rattle.item_log.proofs.Shown.{trimmed_is, trimmed_later, trimmed_none, trimmed_shows}
use Rattle.item_log.proofs.item_log.ItemLog.trim.Goals as goal

-- the counts afterwards
counts_are : (c : goal.After-self-then-self-before-1) → (with_items c.self.inside.counts c.drop_front.new.counts).items ≡ counted c.self.inside.counts.items (take (c.args.before - c.self.inside.first) c.self.inside.items.items)
counts_are c =
    let given = take (c.args.before - c.self.inside.first) c.self.inside.items.items in
    let new : c.drop_front.new.counts ≡ counted c.self.inside.counts.items given = c.drop_front.ensures.counts ∙ ap (λ (counts : List ℕ). counted counts given) c.as_mut_slice.ensures.value in
    with_items_is c.self.inside.counts c.drop_front.new.counts (ap length new ∙ length-counted c.self.inside.counts.items given ∙ sym c.self.inside.counts.ok.0) ∙ new

pub invariant_of-self : goal.invariant_of-self
invariant_of-self c =
    let whole : c.self.inside.first + length c.self.inside.items.items ≡ received c.args.self.now = ap received c.self.view_is in (
      omega (arith, c.self.invariant.0, ap length c.drop_front.ensures.items, length-drop (c.args.before - c.self.inside.first) c.self.inside.items.items, c.requires, whole, c.if-self-before.true),
      c.self.invariant.1,
      subst (All (λ (count : ℕ). count ≤ c.args.before)) (sym (counts_are c)) (most_left c.self.inside.first c.args.before c.self.inside.counts.items c.self.inside.items.items c.self.invariant.2 (omega (arith, c.if-self-before.true))),
    )

pub returns-then-self-before-clause-trimmed : goal.returns-then-self-before-clause-trimmed
returns-then-self-before-clause-trimmed c = rw (← c.self.view_is) (trimmed_is _ c.args.before c.drop_front.new.items.items _ c.if-self-before.true c.drop_front.ensures.items (counts_are c))

pub returns-then-self-before-clause-later : goal.returns-then-self-before-clause-later
returns-then-self-before-clause-later c =
    subst (λ (new : Log). (number : ℕ) → new.first ≤ number → item_at new number ≡ item_at c.args.self.now number) (sym (returns-then-self-before-clause-trimmed c)) (trimmed_later c.args.self.now c.args.before)

pub returns-then-self-before-clause-shows : goal.returns-then-self-before-clause-shows
returns-then-self-before-clause-shows c = subst (ShowsStill c.args.self.now) (sym (returns-then-self-before-clause-trimmed c)) (trimmed_shows c.args.self.now c.args.before c.requires)

pub returns-else-self-before-clause-trimmed : goal.returns-else-self-before-clause-trimmed
returns-else-self-before-clause-trimmed c = trimmed_none c.args.self.now c.args.before (omega (arith, c.if-self-before.false, ap (λ (log : Log). log.first) c.self.view_is))
