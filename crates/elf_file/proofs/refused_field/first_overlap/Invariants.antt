use Rattle.elf_file.proofs.Terms.{false, length, true, ◌-◌, ◌<◌, ◌≡◌, ◌≤◌, overlap, first_places}
use Rattle.elf_file.proofs.refused_field.first_overlap.Given as goal

abbrev pub invariant-halves : goal.invariant-halves
invariant-halves l = record {
  before : overlap (first_places l.low l.headers) ≡ false;
  reached : overlap (first_places l.high l.headers) ≡ true;
  order : l.low < l.high;
  within : l.high ≤ length l.headers;
}

abbrev pub decreases-halves : goal.decreases-halves
decreases-halves l = l.high - l.low
