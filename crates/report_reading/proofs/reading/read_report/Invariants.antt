use Rattle.report_reading.proofs.Terms.{Some, length, ◌+◌, ◌≡◌, ◌≤◌, outcome, read_on, so_far}
use Rattle.report_reading.proofs.reading.read_report.Given as goal

abbrev pub invariant-lines : goal.invariant-lines
invariant-lines l = record {
  read : outcome l.bytes ≡ read_on l.number (Some (so_far l.reading)) l.rest;
  few : l.number + length l.rest ≤ length l.bytes;
}

abbrev pub decreases-lines : goal.decreases-lines
decreases-lines l = length l.rest
