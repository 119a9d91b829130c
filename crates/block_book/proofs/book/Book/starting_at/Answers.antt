use Rattle.block_book.proofs.Terms.{arith, sym, ◌∙◌}
use Rattle.block_book.proofs.Finding.{starts-at, starts-elsewhere, starts-nowhere}
use Rattle.block_book.proofs.book.Book.starting_at.Goals as goal

pub returns-in-Some : goal.returns-in-Some
returns-in-Some c = sym (starts-at c.args.self.now c.args.at c.in-Some.block (sym c.reached.ensures.value ∙ c.in-Some.is) (omega arith))

pub returns-in_default : goal.returns-in_default
returns-in_default c = sym (starts-elsewhere c.args.self.now c.args.at c.in-Some.block c.reached.ensures.heap (sym c.reached.ensures.value ∙ c.in-Some.is) (λ same. omega arith))

pub returns-in_default-2 : goal.returns-in_default-2
returns-in_default-2 c = sym (starts-nowhere c.args.self.now c.args.at c.reached.ensures.heap (sym c.reached.ensures.value ∙ c.in_default.is))
