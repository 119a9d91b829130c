use Rattle.elf_file.proofs.Terms.{arith}
use Rattle.elf_file.proofs.Refusing.{header_lies, table_lies}
use Rattle.elf_file.proofs.reading.headers_of.Goals as goal

pub word_at-requires : goal.word_at-requires
word_at-requires c = omega (arith, header_lies _ c.requires)

pub half_at-requires : goal.half_at-requires
half_at-requires c = omega (arith, header_lies _ c.requires)

pub read_headers-requires : goal.read_headers-requires
read_headers-requires c = rw (c.half_at.ensures, c.word_at.ensures) (table_lies _ c.requires)
