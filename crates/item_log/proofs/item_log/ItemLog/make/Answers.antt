use Rattle.item_log.proofs.Terms.{ap, arith, length, refl, subst, sym, ℕ, ◌≡◌, ◌≤◌, All, none_counted}
use Rattle.item_log.proofs.Counts.{none_most}
use Rattle.item_log.proofs.Shown.{shows_none}
use Rattle.item_log.proofs.item_log.ItemLog.make.Goals as goal

-- no connection has had a message
none_yet : (c : goal.In_ok-vec) → c.in_ok-vec.field-0.items ≡ none_counted
unfolding none_counted
none_yet c = c.in_ok-vec.ensures.items_if_clones_equal (λ x h. h)

pub invariant_of-result : goal.invariant_of-result
invariant_of-result c = (omega (arith, c.new.ensures.len, ap length c.new.ensures.items), omega (arith, c.ranges.max_items.fits), subst (All (λ (count : ℕ). count ≤ 0)) (sym (none_yet c)) none_most)

pub returns-clause-made : goal.returns-clause-made
returns-clause-made c = λ i. record { framing = c.in_ok-make.ensures.framing i; max_items = c.args.max_items; first = 0; kept = c.new.ensures.items i; rests = c.in_ok-make.ensures.rests i; counts = none_yet c i }

pub returns-clause-shows : goal.returns-clause-shows
returns-clause-shows c = shows_none c.args.framing _ c.in_ok-make.ensures.framing refl c.new.ensures.items c.in_ok-make.ensures.rests (none_yet c)
