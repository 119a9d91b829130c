use Rattle.session_following.proofs.Terms.{get_or, length, ℕ, ◌-◌, ◌<◌, ◌≡◌, ◌≤◌}
use Rattle.session_following.proofs.missing.first_from.Given as goal

abbrev pub invariant-numbers : goal.invariant-numbers
invariant-numbers l = record {
  inside : l.at ≤ length l.numbers;
  none : (conn : ℕ) → l.from ≤ conn → conn < l.at → get_or l.numbers conn 0 ≡ 0;
}

abbrev pub decreases-numbers : goal.decreases-numbers
decreases-numbers l = length l.numbers - l.at
