-- What a program file is refused for (System V ABI; RISC-V ELF psABI): fifteen tests, in the order of their numbers.
-- The first that holds is the refusal; the image of a file is what it says where none holds.
use Rattle.std.specs.Prelude.{◌≡◌, ℕ, ◌+◌, ◌*◌, ◌%◌, ◌^◌, Bool, not, ◌&&◌, ◌||◌, List, length, slice_index, Option, Some, None, nat_lt, if◌then◌else◌, ◌==◌}
use Rattle.elf_file.specs.Terms.{list_any, option_or, Image, layout_refusal}
use Rattle.elf_file.specs.declared.program_header.ProgramHeader.{ProgramHeader}
use Rattle.elf_file.specs.declared.elf_refusal.ElfRefusal.{ElfRefusal}
use Rattle.elf_file.specs.declared.elf_refusal.ElfRefusal.TheVariants.{Refused, Memory}
use Rattle.elf_file.specs.ProgramFile.{e_type, e_machine, e_version, e_entry, e_phoff, e_flags, e_phentsize, e_phnum, program_headers, is_loaded, segments_of}

-- Short: the file ends within the ELF header
unfoldable pub short : List ℕ → Bool
short bytes = nat_lt (length bytes) 52

-- NotElf: it doesn't begin with the magic number, 7f and ELF
unfoldable pub not_elf : List ℕ → Bool
not_elf bytes =
    not ((slice_index bytes 0 == 0x7f) && (slice_index bytes 1 == 0x45) && (slice_index bytes 2 == 0x4c) && (slice_index bytes 3 == 0x46))

-- NotClass32: EI_CLASS isn't ELFCLASS32
unfoldable pub not_class_32 : List ℕ → Bool
not_class_32 bytes = not (slice_index bytes 4 == 1)

-- NotLittle: EI_DATA isn't ELFDATA2LSB
unfoldable pub not_little : List ℕ → Bool
not_little bytes = not (slice_index bytes 5 == 1)

-- NotExec: e_type isn't ET_EXEC, or e_version isn't EV_CURRENT
unfoldable pub not_exec : List ℕ → Bool
not_exec bytes = not (e_type bytes == 2) || not (e_version bytes == 1)

-- NotRiscv: e_machine isn't EM_RISCV
unfoldable pub not_riscv : List ℕ → Bool
not_riscv bytes = not (e_machine bytes == 243)

-- Flags: one of the lowest four bits is set, which are RVC (0x1), the float ABI (0x6) and RVE (0x8)
unfoldable pub bad_flags : List ℕ → Bool
bad_flags bytes = not (e_flags bytes % 16 == 0)

-- Table: there are program headers, and they don't have 32 bytes each or pass the file's end
unfoldable pub bad_table : List ℕ → Bool
bad_table bytes =
    not (e_phnum bytes == 0) && (not (e_phentsize bytes == 32) || nat_lt (length bytes) (e_phoff bytes + 32 * e_phnum bytes))

-- the first of these that holds
unfoldable pub header_refusal : List ℕ → Option ℕ
header_refusal bytes =
    if short bytes then Some 1 else
    if not_elf bytes then Some 2 else
    if not_class_32 bytes then Some 3 else
    if not_little bytes then Some 4 else
    if not_exec bytes then Some 5 else
    if not_riscv bytes then Some 6 else
    if bad_flags bytes then Some 7 else
    if bad_table bytes then Some 8 else
    None

-- Dynamic: there is a program header PT_DYNAMIC (2) or PT_INTERP (3)
unfoldable pub dynamic : List ProgramHeader → Bool
dynamic = list_any (λ (header : ProgramHeader). (header.p_type == 2) || (header.p_type == 3))

-- Tls: there is one PT_TLS (7)
unfoldable pub thread_local : List ProgramHeader → Bool
thread_local = list_any (λ (header : ProgramHeader). header.p_type == 7)

-- a segment has more bytes in the file than in memory, its bytes pass the end of a file of so many bytes, or it passes
-- 2 ^ 32
abbrev pub is_bad : ℕ → ProgramHeader → Bool
is_bad size header =
    nat_lt header.p_memsz header.p_filesz
    || (nat_lt 0 header.p_filesz && nat_lt size (header.p_offset + header.p_filesz))
    || nat_lt (2 ^ 32) (header.p_vaddr + header.p_memsz)

-- Segment: a loadable segment is so
unfoldable pub bad_segment : ℕ → List ProgramHeader → Bool
bad_segment size = list_any (λ (header : ProgramHeader). is_loaded header && is_bad size header)

-- the first of these that holds
unfoldable pub table_refusal : ℕ → List ProgramHeader → Option ℕ
table_refusal size headers =
    if dynamic headers then Some 9 else
    if thread_local headers then Some 10 else
    if bad_segment size headers then Some 11 else
    None

-- the refusal of a file, in a window of so many bytes
unfoldable pub refusal : List ℕ → ℕ → Option ℕ
refusal bytes window =
    option_or (header_refusal bytes)
    (option_or (table_refusal (length bytes) (program_headers bytes)) (layout_refusal (e_entry bytes) window (segments_of bytes)))

-- the image of a file, in a window of so many bytes
pub record IsImage (bytes : List ℕ) (window : ℕ) (image : Image) : Type 0 where
  pub accepted : refusal bytes window ≡ None
  pub entry : image.entry ≡ e_entry bytes
  pub in_window : image.window ≡ window
  pub segments : image.segments ≡ segments_of bytes

-- why there is none: the refusal, by its number, or want of memory, which is free
abbrev pub IsReason : List ℕ → ℕ → ElfRefusal → Type 0
IsReason bytes window (Refused number) = refusal bytes window ≡ Some number
IsReason bytes window Memory = Unit {0}
