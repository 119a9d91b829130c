use Rattle.std.proofs.Common.{◌≡◌, true}
use Rattle.wire_tests.proofs.link_rows.answers_of.Given as goal

abbrev pub invariant-turns : goal.invariant-turns
invariant-turns g l = (g.L.Link.seen l.link).takes ≡ true
