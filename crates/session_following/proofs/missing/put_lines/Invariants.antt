use Rattle.std.proofs.Common.{◌^◌}
use Rattle.session_following.proofs.Terms.{List, length, ℕ, ◌++◌, ◌≡◌, ◌≤◌, HasCounts}
use Rattle.session_following.proofs.missing.put_lines.Given as goal

-- the lines behind are those that were gone over
abbrev pub invariant-lines : goal.invariant-lines
invariant-lines l = record {
  behind : List (ℕ × ℕ);
  whole : l.rest ++ behind ≡ l.counts;
  few : length l.numbers.items ≤ 2 ^ 32;
  are : HasCounts l.numbers.items behind;
}

abbrev pub decreases-lines : goal.decreases-lines
decreases-lines l = length l.rest
