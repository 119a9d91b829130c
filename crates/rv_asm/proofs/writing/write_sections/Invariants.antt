use Rattle.asm_lines.specs.declared.form.Section.TheVariants as section
use Rattle.rv_asm.proofs.Terms.{drop, take, ◌≡◌, AreBytes, labels_fault, section_cells}
use Rattle.rv_asm.proofs.writing.write_sections.Given as goal

abbrev pub invariant-statements : goal.invariant-statements
invariant-statements l = record {
  first : labels_fault l.layout (drop l.placed-index l.layout.statements) ≡ labels_fault l.layout l.layout.statements;
  code_is : AreBytes (section_cells section.Text l.layout (take l.placed-index l.layout.statements)) l.code.items;
  variables_are : AreBytes (section_cells section.Data l.layout (take l.placed-index l.layout.statements)) l.variables.items;
}
