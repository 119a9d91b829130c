use Rattle.asm_lines.proofs.Terms.{arith}
use Rattle.asm_lines.proofs.Cutting.{lines_of-cut, lines_of-uncut, cut_length}
use Rattle.asm_lines.proofs.lines.split_line.Goals as goal

pub returns-in-Some-clause-lines : goal.returns-in-Some-clause-lines
returns-in-Some-clause-lines c = lines_of-cut c.args.text.now c.in-Some.parts.0.now c.in-Some.parts.1.now c.in-Some.ensures

pub returns-in-Some-clause-less : goal.returns-in-Some-clause-less
returns-in-Some-clause-less c = λ _. omega (arith, cut_length 10 c.args.text.now c.in-Some.parts.0.now c.in-Some.parts.1.now c.in-Some.ensures)

pub returns-in-None-clause-lines : goal.returns-in-None-clause-lines
returns-in-None-clause-lines c = lines_of-uncut c.args.text.now c.in-None.ensures
