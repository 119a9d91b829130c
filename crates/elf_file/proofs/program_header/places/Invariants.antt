use Rattle.elf_file.proofs.Terms.{map, take, ◌≡◌, filter, is_loaded, place_of}
use Rattle.elf_file.proofs.program_header.places.Given as goal

abbrev pub invariant-headers : goal.invariant-headers
invariant-headers l = l.places.items ≡ map place_of (filter is_loaded (take l.header-index l.headers))
