use Rattle.standby.proofs.Terms.{drop, length, nat_lt, ◌≡◌, kept_to}
use Rattle.standby.proofs.kept.passes.Given as goal

abbrev pub invariant-loop-one : goal.invariant-loop-one
invariant-loop-one l = nat_lt (length (kept_to l.conn (drop l.one-index l.kept))) l.left ≡ nat_lt (length (kept_to l.conn l.kept)) l.count
