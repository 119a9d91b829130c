-- The bytes of a program file that is written (System V ABI, "Object Files"; RISC-V ELF psABI).
use Rattle.std.specs.Prelude.{ℕ, ◌+◌, ◌*◌, List, [], ◌∷◌, ◌++◌, length, flat_map}
use Rattle.elf_file.specs.Terms.{little_bytes, Image, Segment}

-- the header of an executable that is written
abbrev pub file_header : Image → List ℕ
file_header image =
    0x7f ∷ 0x45 ∷ 0x4c ∷ 0x46 ∷ 1 ∷ 1 ∷ 1 ∷ 0 ∷ 0 ∷ 0 ∷ 0 ∷ 0 ∷ 0 ∷ 0 ∷ 0 ∷ 0 ∷ []  -- e_ident: ELF, 32 bits, little-endian
    ++ little_bytes 2 2 ++ little_bytes 2 243 ++ little_bytes 4 1  -- e_type ET_EXEC, e_machine RISC-V, e_version
    ++ little_bytes 4 image.entry ++ little_bytes 4 52 ++ little_bytes 4 0 ++ little_bytes 4 0  -- e_entry, e_phoff, e_shoff, e_flags
    ++ little_bytes 2 52 ++ little_bytes 2 32 ++ little_bytes 2 (length image.segments)  -- e_ehsize, e_phentsize, e_phnum
    ++ little_bytes 2 0 ++ little_bytes 2 0 ++ little_bytes 2 0  -- e_shentsize, e_shnum, e_shstrndx

-- the header of a segment whose bytes stand at an offset of the file
abbrev pub program_header : ℕ → Segment → List ℕ
program_header offset segment =
    little_bytes 4 1 ++ little_bytes 4 offset ++ little_bytes 4 segment.vaddr ++ little_bytes 4 segment.vaddr  -- PT_LOAD, p_offset, p_vaddr, p_paddr
    ++ little_bytes 4 (length segment.filled) ++ little_bytes 4 segment.memsz ++ little_bytes 4 segment.flags ++ little_bytes 4 1  -- p_filesz, p_memsz, p_flags, p_align

-- the headers of segments whose bytes stand one behind the other, from an offset of the file on
abbrev pub program_headers : ℕ → List Segment → List ℕ
program_headers offset [] = []
program_headers offset (segment ∷ segments) = program_header offset segment ++ program_headers (offset + length segment.filled) segments

-- the segments' bytes in a file, one after another
abbrev pub file_bytes : List Segment → List ℕ
file_bytes segments = flat_map (λ (segment : Segment). segment.filled) segments

-- the bytes of an executable that is written: the headers, and then the segments' bytes without gaps
abbrev pub written : Image → List ℕ
written image =
    file_header image ++ program_headers (52 + 32 * length image.segments) image.segments ++ file_bytes image.segments
