use Rattle.elf_file.proofs.Terms.{◌≡◌, headers_from}
use Rattle.elf_file.proofs.program_header.read_headers.Given as goal

abbrev pub invariant-headers : goal.invariant-headers
invariant-headers l = l.headers.items ≡ headers_from l.offset l.i l.bytes
