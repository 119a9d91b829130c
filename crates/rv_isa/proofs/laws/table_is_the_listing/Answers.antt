use Rattle.rv_isa.proofs.Rows.{row_to, row_from, row_single}
use Rattle.rv_isa.proofs.laws.table_is_the_listing.Goals as goal

pub returns-clause-listed : goal.returns-clause-listed
returns-clause-listed c i = (row_to c.args.word i, row_from c.args.word i)

pub returns-clause-single : goal.returns-clause-single
returns-clause-single c = row_single c.args.word
