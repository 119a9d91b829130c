use Rattle.asm_lines.proofs.Terms.{sym, ◌∙◌}
use Rattle.asm_lines.proofs.Cutting.{strip_blanks-last_blank, strip_blanks-last_other}
use Rattle.asm_lines.proofs.bytes.strip_blanks.Goals as goal

pub returns-then-not-is_blank : goal.returns-then-not-is_blank
returns-then-not-is_blank c = sym (strip_blanks-last_other c.blanks.rest.now c.in-len1-up.len_at_least (sym c.is_blank.ensures ∙ c.if-not-is_blank.true)) ∙ c.blanks.invariant

pub blanks-preserved : goal.blanks-preserved
blanks-preserved c = strip_blanks-last_blank c.blanks.rest.now c.in-len1-up.len_at_least (sym c.is_blank.ensures ∙ c.if-not-is_blank.false) ∙ c.blanks.invariant
