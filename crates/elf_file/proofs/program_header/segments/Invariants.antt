use Rattle.elf_file.proofs.Terms.{map, take, ◌≡◌, filter, is_loaded, segment_of}
use Rattle.elf_file.proofs.program_header.segments.Given as goal

abbrev pub invariant-headers : goal.invariant-headers
invariant-headers l = l.segments.items ≡ map (segment_of l.bytes) (filter is_loaded (take l.header-index l.headers))
