use Rattle.trunk_text.proofs.Terms.{length, ◌≡◌, IsSmall, spelled, spelled_from}
use Rattle.trunk_text.proofs.escapes.spelled.Given as goal

abbrev pub invariant-text : goal.invariant-text
invariant-text l = record {
  small : IsSmall l.before;
  goes_on : spelled_from l.rest l.before l.bytes.items ≡ spelled l.text;
}

abbrev pub decreases-text : goal.decreases-text
decreases-text l = length l.rest
