use Rattle.schedule_file.proofs.Terms.{length, IsBehind}
use Rattle.schedule_file.proofs.reading.take_lines.Given as goal

abbrev pub invariant-lines : goal.invariant-lines
invariant-lines l = IsBehind l.version l.text l.lines.items l.rest

abbrev pub decreases-lines : goal.decreases-lines
decreases-lines l = length l.rest
