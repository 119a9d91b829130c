use Rattle.file_notes.proofs.Terms.{take, ◌≡◌, choice_lines, AreAsks}
use Rattle.file_notes.proofs.adding.choice_bytes.Given as goal

abbrev pub invariant-choices : goal.invariant-choices
invariant-choices l = record {
  lines : l.bytes.items ≡ choice_lines (take l.choice-index l.list);
  asks : AreAsks (take l.choice-index l.list);
}
