use Rattle.alloc_env.proofs.Terms.{refl, sym, ◌∙◌, Realloc}
use Rattle.alloc_env.proofs.Mallocs.{ask-serves, replaces, replaces-none, served-bad, served-in_place, served-new}
use Rattle.alloc_env.proofs.serving.serve_realloc.Goals as goal

pub returns-then-old-eq0-clause-answer : goal.returns-then-old-eq0-clause-answer
returns-then-old-eq0-clause-answer c = served-new c.args.env c.args.book.now c.args.site (Realloc c.args.old c.args.size) _ (replaces-none c.args.old c.args.size c.if-old-eq0.true) c.new_block.ensures.answer

pub returns-then-old-eq0-clause-allowed : goal.returns-then-old-eq0-clause-allowed
returns-then-old-eq0-clause-allowed c =
    (ask-serves c.args.env c.args.book.now c.args.site (Realloc c.args.old c.args.size) _ c.new_block.ensures.heap
    (served-new c.args.env c.args.book.now c.args.site (Realloc c.args.old c.args.size) _ (replaces-none c.args.old c.args.size c.if-old-eq0.true) c.new_block.ensures.answer)).allowed

pub returns-then-old-eq0-clause-live : goal.returns-then-old-eq0-clause-live
returns-then-old-eq0-clause-live c =
    (ask-serves c.args.env c.args.book.now c.args.site (Realloc c.args.old c.args.size) _ c.new_block.ensures.heap
    (served-new c.args.env c.args.book.now c.args.site (Realloc c.args.old c.args.size) _ (replaces-none c.args.old c.args.size c.if-old-eq0.true) c.new_block.ensures.answer)).live

pub returns-then-not-is_live-clause-answer : goal.returns-then-not-is_live-clause-answer
returns-then-not-is_live-clause-answer c =
    (served-bad c.args.env c.args.book.now c.args.site (Realloc c.args.old c.args.size) c.args.old (replaces c.args.old c.args.size c.if-old-eq0.false) (sym c.is_live.ensures ∙ c.if-not-is_live.true), refl)

pub returns-clause-answer : goal.returns-clause-answer
returns-clause-answer c = served-in_place c.args.env c.args.book.now c.args.site (Realloc c.args.old c.args.size) c.args.old _ (replaces c.args.old c.args.size c.if-old-eq0.false) (sym c.is_live.ensures ∙ c.if-not-is_live.false) c.block_in_place.ensures.answer

pub returns-clause-allowed : goal.returns-clause-allowed
returns-clause-allowed c =
    (ask-serves c.args.env c.args.book.now c.args.site (Realloc c.args.old c.args.size) _ c.block_in_place.ensures.heap
    (served-in_place c.args.env c.args.book.now c.args.site (Realloc c.args.old c.args.size) c.args.old _ (replaces c.args.old c.args.size c.if-old-eq0.false) (sym c.is_live.ensures ∙ c.if-not-is_live.false) c.block_in_place.ensures.answer)).allowed

pub returns-clause-live : goal.returns-clause-live
returns-clause-live c =
    (ask-serves c.args.env c.args.book.now c.args.site (Realloc c.args.old c.args.size) _ c.block_in_place.ensures.heap
    (served-in_place c.args.env c.args.book.now c.args.site (Realloc c.args.old c.args.size) c.args.old _ (replaces c.args.old c.args.size c.if-old-eq0.false) (sym c.is_live.ensures ∙ c.if-not-is_live.false) c.block_in_place.ensures.answer)).live
