use Rattle.elf_file.proofs.Terms.{sym, ◌∙◌}
use Rattle.elf_file.proofs.Numbers.{number_at-byte}
use Rattle.elf_file.proofs.refused_field.byte_field.Goals as goal

pub returns-clause-value : goal.returns-clause-value
returns-clause-value c = c.from.ensures ∙ sym (number_at-byte c.args.offset c.args.bytes.now c.requires)
