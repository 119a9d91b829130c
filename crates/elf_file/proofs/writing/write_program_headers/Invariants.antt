use Rattle.elf_file.proofs.Terms.{drop, length, take, ◌*◌, ◌++◌, ◌+◌, ◌≡◌, All, HasWordFlags, file_bytes}
use Rattle.elf_file.specs.Written.{program_headers}
use Rattle.elf_file.proofs.writing.write_program_headers.Given as goal

abbrev pub invariant-segments : goal.invariant-segments
invariant-segments l = record {
  rest : l.file.items ++ program_headers l.offset (drop l.segment-index l.segments) ≡ l.fn.file.items ++ program_headers (52 + 32 * length l.segments) l.segments;
  place : l.offset + length (file_bytes (drop l.segment-index l.segments)) ≡ 52 + 32 * length l.segments + length (file_bytes l.segments);
  flags : All HasWordFlags (take l.segment-index l.segments);
}
