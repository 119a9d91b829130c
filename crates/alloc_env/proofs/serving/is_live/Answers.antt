use Rattle.alloc_env.proofs.Terms.{sym, ◌∙◌}
use Rattle.alloc_env.proofs.Frees.{live-standing, delayed-standing, nothing-standing}
use Rattle.alloc_env.proofs.serving.is_live.Goals as goal

pub returns-in-Live : goal.returns-in-Live
returns-in-Live c = sym (live-standing c.args.book.now c.args.at c.in-Live.field-0 (sym c.find.ensures ∙ c.in-Live.is))

pub returns-in-Delayed : goal.returns-in-Delayed
returns-in-Delayed c = sym (delayed-standing c.args.book.now c.args.at c.in-Delayed.field-0 c.sound.ensures.heap (sym c.find.ensures ∙ c.in-Delayed.is))

pub returns-in-Nothing : goal.returns-in-Nothing
returns-in-Nothing c = sym (nothing-standing c.args.book.now c.args.at (sym c.find.ensures ∙ c.in-Nothing.is))
