use Rattle.alloc_env.proofs.Terms.{refl, Malloc}
use Rattle.alloc_env.proofs.Mallocs.{ask-serves, served-new}
use Rattle.alloc_env.proofs.serving.serve_malloc.Goals as goal

pub returns-clause-answer : goal.returns-clause-answer
returns-clause-answer c = served-new c.args.env c.args.book.now c.args.site (Malloc c.args.size) _ refl c.new_block.ensures.answer

pub returns-clause-allowed : goal.returns-clause-allowed
returns-clause-allowed c = (ask-serves c.args.env c.args.book.now c.args.site (Malloc c.args.size) _ c.new_block.ensures.heap (served-new c.args.env c.args.book.now c.args.site (Malloc c.args.size) _ refl c.new_block.ensures.answer)).allowed

pub returns-clause-live : goal.returns-clause-live
returns-clause-live c = (ask-serves c.args.env c.args.book.now c.args.site (Malloc c.args.size) _ c.new_block.ensures.heap (served-new c.args.env c.args.book.now c.args.site (Malloc c.args.size) _ refl c.new_block.ensures.answer)).live
