use Rattle.rv_asm.proofs.Terms.{subst, ℕ, WritesStatement}
use Rattle.rv_asm.proofs.Putting.{placed_in_text, placed_in_data}
use Rattle.rv_asm.proofs.writing.write_placed.Goals as goal

pub returns-in-Text : goal.returns-in-Text
returns-in-Text c =
    placed_in_text c.args.layout.now c.args.placed.now c.args.code.now.items c.write_statement.new.out.items c.args.variables.now.items c.write_statement.result c.in-Text.is
    (subst (λ (at : ℕ). WritesStatement c.args.layout.now at c.args.placed.now.statement c.args.code.now.items c.write_statement.new.out.items c.write_statement.result) c.address_at-at.ensures c.write_statement.ensures)

pub returns-in-Data : goal.returns-in-Data
returns-in-Data c =
    placed_in_data c.args.layout.now c.args.placed.now c.args.code.now.items c.args.variables.now.items c.write_statement-in-Data.new.out.items c.write_statement-in-Data.result c.in-Data.is
    (subst (λ (at : ℕ). WritesStatement c.args.layout.now at c.args.placed.now.statement c.args.variables.now.items c.write_statement-in-Data.new.out.items c.write_statement-in-Data.result) c.address_at-at.ensures c.write_statement-in-Data.ensures)
