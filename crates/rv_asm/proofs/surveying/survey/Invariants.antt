use Rattle.rv_asm.proofs.Terms.{length, ◌+◌, ◌≡◌, ◌≤◌, lines_of, after_lines, lines_fault, no_lines}
use Rattle.rv_asm.proofs.surveying.survey.Given as goal

abbrev pub invariant-lines : goal.invariant-lines
invariant-lines l = record {
  first : lines_fault l.layout (lines_of l.rest) ≡ lines_fault no_lines (lines_of l.text);
  after : after_lines l.layout (lines_of l.rest) ≡ after_lines no_lines (lines_of l.text);
  count : l.layout.lines + length l.rest ≤ length l.text;
}

abbrev pub decreases-lines : goal.decreases-lines
decreases-lines l = length l.rest
