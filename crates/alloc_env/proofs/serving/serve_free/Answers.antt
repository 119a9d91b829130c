use Rattle.alloc_env.proofs.Terms.{Some, ap, false, refl, subst, sym, true, ◌∙◌, ◌≡◌, live_blocks, Heap, Treatment, treatment_of, Follows}
use Rattle.alloc_env.proofs.Frees.{live-standing, freed-follows, null-follows, delayed-follows, free-null, free-standing, keeps-delayed, refuses-delayed}
use Rattle.alloc_env.proofs.serving.serve_free.Goals as goal

pub returns-then-at-eq0-clause-freed : goal.returns-then-at-eq0-clause-freed
returns-then-at-eq0-clause-freed c = free-null c.args.env c.args.book.now c.args.site c.args.at c.if-at-eq0.true

pub returns-then-at-eq0-clause-live : goal.returns-then-at-eq0-clause-live
returns-then-at-eq0-clause-live c = (subst (λ n. Follows c.args.book.now n c.args.book.now) (sym c.if-at-eq0.true) (null-follows c.args.book.now c.sound.ensures.heap)).live

pub free_live-requires : goal.free_live-requires
free_live-requires c = live-standing c.args.book.now c.args.at c.in-Live.field-0 (sym c.find.ensures ∙ c.in-Live.is)

pub returns-in-Nothing-clause-freed : goal.returns-in-Nothing-clause-freed
returns-in-Nothing-clause-freed c = (free-standing c.args.env c.args.book.now c.args.site c.args.at _ c.if-at-eq0.false (sym c.find.ensures ∙ c.in-Nothing.is), refl)

pub returns-in-Live-clause-freed : goal.returns-in-Live-clause-freed
returns-in-Live-clause-freed c = free-standing c.args.env c.args.book.now c.args.site c.args.at _ c.if-at-eq0.false (sym c.find.ensures ∙ c.in-Live.is) ∙ ap Some (sym c.free_live.ensures.freed)

pub returns-in-Live-clause-live : goal.returns-in-Live-clause-live
returns-in-Live-clause-live c =
    ap (λ (h : Heap). live_blocks h.blocks) c.free_live.ensures.freed ∙ (freed-follows c.args.env c.args.book.now c.args.site c.args.at c.sound.ensures.heap).live

pub returns-then-treatment-clause-freed : goal.returns-then-treatment-clause-freed
returns-then-treatment-clause-freed c =
    let delays : (treatment_of c.args.env).delays ≡ true = ap (λ (t : Treatment). t.delays) (sym c.treatment.ensures.value) ∙ c.if-treatment.true in
    free-standing c.args.env c.args.book.now c.args.site c.args.at _ c.if-at-eq0.false (sym c.find.ensures ∙ c.in-Delayed.is) ∙ keeps-delayed c.args.env c.args.book.now c.args.site c.args.at c.in-Delayed.field-0 delays

pub returns-then-treatment-clause-live : goal.returns-then-treatment-clause-live
returns-then-treatment-clause-live c = (delayed-follows c.args.book.now c.args.at c.in-Delayed.field-0 c.sound.ensures.heap (sym c.find.ensures ∙ c.in-Delayed.is)).live

pub returns-else-treatment-clause-freed : goal.returns-else-treatment-clause-freed
returns-else-treatment-clause-freed c =
    let delays : (treatment_of c.args.env).delays ≡ false = ap (λ (t : Treatment). t.delays) (sym c.treatment.ensures.value) ∙ c.if-treatment.false in (
      free-standing c.args.env c.args.book.now c.args.site c.args.at _ c.if-at-eq0.false (sym c.find.ensures ∙ c.in-Delayed.is) ∙ refuses-delayed c.args.env c.args.book.now c.args.site c.args.at c.in-Delayed.field-0 delays,
      refl,
    )
