use Rattle.elf_file.proofs.Terms.{take, ◌++◌, ◌≡◌, file_bytes}
use Rattle.elf_file.proofs.writing.write_segments.Given as goal

abbrev pub invariant-segments : goal.invariant-segments
invariant-segments l = l.file.items ≡ l.fn.file.items ++ file_bytes (take l.segment-index l.segments)
