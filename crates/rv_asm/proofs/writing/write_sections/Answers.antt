use Rattle.asm_lines.specs.declared.form.Section.TheVariants as section
use Rattle.rv_asm.proofs.Terms.{rules, sym, ◌∙◌}
use Rattle.rv_asm.proofs.Putting.{are_in_more, linked_fault}
use Rattle.rv_asm.proofs.writing.write_sections.Goals as goal

pub statements-preserved : goal.statements-preserved
statements-preserved c =
    let puts = c.in_default.ensures in
    let layout = c.args.layout.now in
    record {
      first = sym (linked_fault layout layout.statements c.statements.placed-index c.placed-item.result (search rules) (search rules) puts.linked) ∙ c.statements.invariant.first;
      code_is = are_in_more section.Text layout layout.statements c.statements.placed-index c.placed-item.result _ _ (search rules) (search rules) c.statements.invariant.code_is puts.code_puts;
      variables_are = are_in_more section.Data layout layout.statements c.statements.placed-index c.placed-item.result _ _ (search rules) (search rules) c.statements.invariant.variables_are puts.variables_put;
    }
