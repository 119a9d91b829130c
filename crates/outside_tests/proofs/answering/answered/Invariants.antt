use Rattle.std.proofs.Common.{◌≡◌, true}
use Rattle.outside_tests.proofs.answering.answered.Given as goal

abbrev pub invariant-turns : goal.invariant-turns
invariant-turns g l = record {
  takes : (g.L.Link.seen l.link).takes ≡ true;
  gives : (g.L.Link.seen l.link).gives ≡ true;
}
