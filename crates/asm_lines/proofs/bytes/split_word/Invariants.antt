use Rattle.asm_lines.proofs.Terms.{drop, take, ◌++◌, ◌≡◌, behind_word, first_word}
use Rattle.asm_lines.proofs.bytes.split_word.Given as goal

abbrev pub invariant-loop-i : goal.invariant-loop-i
invariant-loop-i l = record {
  word : take l.i l.bytes ++ first_word (drop l.i l.bytes) ≡ first_word l.bytes;
  rest : behind_word (drop l.i l.bytes) ≡ behind_word l.bytes;
}
