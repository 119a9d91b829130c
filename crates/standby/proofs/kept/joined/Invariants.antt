use Rattle.standby.proofs.Terms.{drop, ◌++◌, ◌≡◌, kept_to}
use Rattle.standby.proofs.kept.joined.Given as goal

abbrev pub invariant-loop-one : goal.invariant-loop-one
invariant-loop-one l = l.all.items ++ kept_to l.conn (drop l.one-index l.kept) ≡ kept_to l.conn l.kept
