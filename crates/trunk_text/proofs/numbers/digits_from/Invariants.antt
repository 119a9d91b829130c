use Rattle.trunk_text.proofs.Terms.{length, ◌≡◌, ◌≤◌, digits_from}
use Rattle.trunk_text.proofs.numbers.digits_from.Given as goal

abbrev pub invariant-digits : goal.invariant-digits
invariant-digits l = record {
  within : l.number ≤ 65535;
  goes_on : digits_from l.number l.rest ≡ digits_from l.value l.bytes;
}

abbrev pub decreases-digits : goal.decreases-digits
decreases-digits l = length l.rest
