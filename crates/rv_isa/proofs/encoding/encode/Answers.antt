use Rattle.std.proofs.Common.{arith}
use Rattle.rv_isa.proofs.Rows.{row_to}
use Rattle.rv_isa.proofs.OneWord.{one_word}
use Rattle.rv_isa.proofs.encoding.encode.Goals as goal

pub returns-clause-only : goal.returns-clause-only
returns-clause-only c word below is =
    one_word word c.word_of.result c.args.instr.now below (omega arith) (row_to word c.args.instr.now is) c.word_of.ensures
