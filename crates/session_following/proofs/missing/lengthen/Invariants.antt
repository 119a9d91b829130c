use Rattle.std.proofs.Common.{◌^◌}
use Rattle.session_following.proofs.Terms.{get_or, length, ℕ, ◌-◌, ◌≡◌, ◌≤◌}
use Rattle.session_following.proofs.missing.lengthen.Given as goal

-- what stands there is as before
abbrev pub invariant-numbers : goal.invariant-numbers
invariant-numbers l = record {
  same : (conn : ℕ) → get_or l.numbers.items conn 0 ≡ get_or l.initial.numbers.items conn 0;
  few : length l.initial.numbers.items ≤ 2 ^ 32 → length l.numbers.items ≤ 2 ^ 32;
}

abbrev pub decreases-numbers : goal.decreases-numbers
decreases-numbers l = l.count - length l.numbers.items
