use Rattle.elf_file.proofs.Written.{fields_more}
use Rattle.elf_file.proofs.writing.write_program_header.Goals as goal

pub returns-clause-value : goal.returns-clause-value
returns-clause-value c =
    fields_more c.args.file.now.items c.args.offset c.args.segment.now c.as_slice.result.now _ _ _ _ _ _ _ _ c.as_slice.ensures c.in_ok-write_word.ensures c.in_ok-write_word-2.ensures c.in_ok-write_word-3.ensures c.in_ok-write_word-4.ensures c.in_ok-write_word-5.ensures c.in_ok-write_word-6.ensures c.in_ok-write_word-7.ensures c.in_ok-write_word-8.ensures
