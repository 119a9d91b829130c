use Rattle.drill.proofs.Terms.{length, ◌*◌, ◌+◌, ◌^◌, ◌≡◌, ◌≤◌, passed_bytes}
use Rattle.drill.proofs.passing.passed_bytes.Given as goal

abbrev pub invariant-entries : goal.invariant-entries
invariant-entries l = record {
  counted : l.passed + passed_bytes l.rest ≡ passed_bytes l.journal;
  few : l.passed + length l.rest * 2 ^ 64 ≤ length l.journal * 2 ^ 64;
}

abbrev pub decreases-entries : goal.decreases-entries
decreases-entries l = length l.rest
