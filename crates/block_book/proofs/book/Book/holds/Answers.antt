use Rattle.block_book.proofs.Terms.{sym, ◌∙◌}
use Rattle.block_book.proofs.Finding.{held-some, held-none, held-past}
use Rattle.block_book.proofs.book.Book.holds.Goals as goal

pub returns-in-Some-clause-value : goal.returns-in-Some-clause-value
returns-in-Some-clause-value c = c.holds.ensures ∙ sym (held-some c.args.self.now c.args.at c.args.len c.in-Some.block c.reached.ensures.heap c.requires (sym c.reached.ensures.value ∙ c.in-Some.is))

pub returns-in-Some-clause-past : goal.returns-in-Some-clause-past
returns-in-Some-clause-past c = λ past. c.holds.ensures ∙ held-past c.args.self.now c.args.at c.args.len c.in-Some.block c.reached.ensures.heap c.reached.ensures.within (sym c.reached.ensures.value ∙ c.in-Some.is) past

pub returns-in-None-clause-value : goal.returns-in-None-clause-value
returns-in-None-clause-value c = sym (held-none c.args.self.now c.args.at c.args.len c.reached.ensures.heap c.requires (sym c.reached.ensures.value ∙ c.in-None.is))
