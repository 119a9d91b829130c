-- The fields of a program file, by the System V ABI: "ELF Header" and "Program Header", and the segments that they
-- describe. A file is a list of bytes; numbers stand in it with their lowest byte first.
use Rattle.std.specs.Prelude.{ℕ, zero, suc, ◌+◌, ◌*◌, Bool, not, ◌&&◌, List, [], ◌∷◌, ◌++◌, take, drop, map, ◌==◌}
use Rattle.elf_file.specs.Terms.{filter, little_number, Segment}
use Rattle.elf_file.specs.declared.program_header.ProgramHeader.{ProgramHeader}

-- the number in so many bytes from an offset on
unfoldable pub number_at : ℕ → ℕ → List ℕ → ℕ
number_at offset count bytes = little_number (take count (drop offset bytes))

-- the fields of the ELF header, which has 52 bytes
abbrev pub e_type : List ℕ → ℕ
e_type = number_at 16 2

abbrev pub e_machine : List ℕ → ℕ
e_machine = number_at 18 2

abbrev pub e_version : List ℕ → ℕ
e_version = number_at 20 4

abbrev pub e_entry : List ℕ → ℕ
e_entry = number_at 24 4

abbrev pub e_phoff : List ℕ → ℕ
e_phoff = number_at 28 4

abbrev pub e_flags : List ℕ → ℕ
e_flags = number_at 36 4

abbrev pub e_phentsize : List ℕ → ℕ
e_phentsize = number_at 42 2

abbrev pub e_phnum : List ℕ → ℕ
e_phnum = number_at 44 2

-- the program header of 32 bytes at an offset
unfoldable pub header_at : ℕ → List ℕ → ProgramHeader
header_at offset bytes = record {
  p_type = number_at offset 4 bytes;
  p_offset = number_at (offset + 4) 4 bytes;
  p_vaddr = number_at (offset + 8) 4 bytes;  -- and p_paddr at 12, which isn't looked at
  p_filesz = number_at (offset + 16) 4 bytes;
  p_memsz = number_at (offset + 20) 4 bytes;
  p_flags = number_at (offset + 24) 4 bytes;  -- and p_align at 28, which isn't looked at
}

-- so many program headers from an offset on
abbrev pub headers_from : ℕ → ℕ → List ℕ → List ProgramHeader
headers_from offset zero bytes = []
headers_from offset (suc count) bytes = headers_from offset count bytes ++ header_at (offset + 32 * count) bytes ∷ []

-- the program headers of a file
unfoldable pub program_headers : List ℕ → List ProgramHeader
program_headers bytes = headers_from (e_phoff bytes) (e_phnum bytes) bytes

-- a loadable segment (PT_LOAD, type 1); one that has no byte in the file and none in memory is passed over
abbrev pub is_loaded : ProgramHeader → Bool
is_loaded header = (header.p_type == 1) && not ((header.p_filesz == 0) && (header.p_memsz == 0))

-- the segment that a program header describes
abbrev pub segment_of : List ℕ → ProgramHeader → Segment
segment_of bytes header = record {
  vaddr = header.p_vaddr;
  flags = header.p_flags;
  memsz = header.p_memsz;
  filled = take header.p_filesz (drop header.p_offset bytes);
}

-- the same in memory alone, without the file's bytes
abbrev pub place_of : ProgramHeader → Segment
place_of header = record { vaddr = header.p_vaddr; flags = header.p_flags; memsz = header.p_memsz; filled = [] }

-- the segments of a file, in its order
unfoldable pub segments_of : List ℕ → List Segment
segments_of bytes = map (segment_of bytes) (filter is_loaded (program_headers bytes))
