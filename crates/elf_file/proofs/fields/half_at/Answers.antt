use Rattle.elf_file.proofs.Numbers.{number_at-drop}
use Rattle.elf_file.proofs.fields.half_at.Goals as goal

pub returns : goal.returns
returns c = rw (c.read_u16.ensures, c.split_at.ensures.back) (number_at-drop _ _ _ c.requires)
