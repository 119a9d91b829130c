-- The fields for which a program file is refused (System V ABI, "ELF Header").
use Rattle.std.specs.Prelude.{◌≡◌, ℕ, ◌+◌, ◌*◌, ◌/◌, ◌<◌, ◌≤◌, true, false, List, length, slice_index, take, map, Bool, ◌&&◌, ◌||◌, Option, Some, None, IfSome, is_some, position, nat_lt, if◌then◌else◌, ◌==◌}
use Rattle.elf_file.specs.Terms.{filter, option_map, PAGE, Segment, overlap, too_large}
use Rattle.elf_file.specs.declared.program_header.ProgramHeader.{ProgramHeader}
use Rattle.elf_file.specs.declared.refused_field.RefusedField.{RefusedField}
use Rattle.elf_file.specs.ProgramFile.{number_at, e_type, e_phoff, e_phentsize, is_loaded, place_of}
use Rattle.elf_file.specs.Refusals.{is_bad, table_refusal}

-- the value is what stands in the file where the field is
abbrev pub StandsIn : List ℕ → RefusedField → Type 0
StandsIn bytes field = field.value ≡ number_at field.offset field.size bytes

-- the field begins at an offset and has so many bytes
pub record Place : Type 0 where
  pub offset : ℕ
  pub size : ℕ

-- where a field that a refusal names stands
abbrev pub field_place : RefusedField → Place
field_place field = record { offset = field.offset; size = field.size }

-- there is such a field, and it stands there
abbrev pub placed : ℕ → ℕ → Option Place
placed offset size = Some (record { offset = offset; size = size })

-- the first byte that isn't the magic number's, or else its last
abbrev pub magic_place : List ℕ → Option Place
magic_place bytes =
    if slice_index bytes 0 == 0x7f
    then (if slice_index bytes 1 == 0x45 then (if slice_index bytes 2 == 0x4c then placed 3 1 else placed 2 1) else placed 1 1)
    else placed 0 1

-- e_type, or e_version where e_type is ET_EXEC
abbrev pub type_place : List ℕ → Option Place
type_place bytes = if e_type bytes == 2 then placed 20 4 else placed 16 2

-- e_phentsize where it isn't 32; e_phoff where it is past the file's end; else e_phnum
abbrev pub table_place : List ℕ → Option Place
table_place bytes =
    if e_phentsize bytes == 32 then (if nat_lt (length bytes) (e_phoff bytes) then placed 28 4 else placed 44 2) else placed 42 2

-- the field of the ELF header that a refusal from 2 to 8, 13 or 14 is for
unfoldable pub header_place : List ℕ → ℕ → Option Place
header_place bytes number =
    if number == 2 then magic_place bytes else
    if number == 3 then placed 4 1 else  -- EI_CLASS
    if number == 4 then placed 5 1 else  -- EI_DATA
    if number == 5 then type_place bytes else
    if number == 6 then placed 18 2 else  -- e_machine
    if number == 7 then placed 36 4 else  -- e_flags
    if number == 8 then table_place bytes else
    if number == 13 then placed 44 2 else  -- e_phnum
    if number == 14 then placed 24 4 else  -- e_entry
    None

-- the ELF header and so many program headers lie in the file
pub record HasTable (bytes : List ℕ) (count : ℕ) : Type 0 where
  pub header : 52 ≤ length bytes
  pub table : 0 < count → e_phoff bytes + 32 * count ≤ length bytes

-- a field of four bytes at a place in a program header, by the header's number in the list
abbrev pub at_header : List ℕ → ℕ → ℕ → Place
at_header bytes place index = record { offset = e_phoff bytes + 32 * index + place; size = 4 }

-- a program header that asks for a dynamic linker, one of storage that each thread has, and one of a segment that doesn't
-- lie in a file of so many bytes, or not in memory
abbrev pub asks_for_linker : ProgramHeader → Bool
asks_for_linker header = (header.p_type == 2) || (header.p_type == 3)

abbrev pub asks_for_thread_local : ProgramHeader → Bool
asks_for_thread_local header = header.p_type == 7

abbrev pub is_misplaced : ℕ → ProgramHeader → Bool
is_misplaced size header = is_loaded header && is_bad size header

-- one of a segment that begins in the page at an address, and one of a segment that ends behind an address
abbrev pub begins_at : ℕ → ProgramHeader → Bool
begins_at start header = is_loaded header && (header.p_vaddr / PAGE * PAGE == start)

abbrev pub ends_behind : ℕ → ProgramHeader → Bool
ends_behind end header = is_loaded header && nat_lt end (header.p_vaddr + header.p_memsz)

-- the field is in the program header of this number
pub record IsInHeader (bytes : List ℕ) (index : ℕ) (field : RefusedField) : Type 0 where
  pub from : e_phoff bytes + 32 * index ≤ field.offset
  pub to : field.offset + field.size ≤ e_phoff bytes + 32 * index + 32

-- the segments of so many program headers, in memory alone
abbrev pub first_places : ℕ → List ProgramHeader → List Segment
first_places count headers = map place_of (filter is_loaded (take count headers))

-- with the program header of this number two segments share a byte, and with those before it alone none do
pub record IsFirstOverlap (headers : List ProgramHeader) (index : ℕ) : Type 0 where
  pub below : index < length headers
  pub before : overlap (first_places index headers) ≡ false
  pub reached : overlap (first_places (index + 1) headers) ≡ true

-- the field says where the segment of that program header begins
abbrev pub IsOverlapField : List ℕ → List ProgramHeader → RefusedField → Type 0
IsOverlapField bytes headers field = (index : ℕ) × IsFirstOverlap headers index × (field_place field ≡ at_header bytes 8 index)

-- what is found is the p_type of the first program header that the test holds for
abbrev pub IsFirstType : List ℕ → List ProgramHeader → (ProgramHeader → Bool) → Option RefusedField → Type 0
IsFirstType bytes headers test found = option_map field_place found ≡ option_map (at_header bytes 0) (position test headers)

-- what is found is a field of the first misplaced segment
pub record IsFirstMisplaced (bytes : List ℕ) (headers : List ProgramHeader) (found : Option RefusedField) : Type 0 where
  pub found_one : is_some found ≡ is_some (position (is_misplaced (length bytes)) headers)
  pub in_header : IfSome (position (is_misplaced (length bytes)) headers) (λ index. IfSome found (IsInHeader bytes index))

-- what is found, where two segments share a byte, says where the first one begins that shares a byte with one before it
pub record IsOverlapFound (bytes : List ℕ) (headers : List ProgramHeader) (found : Option RefusedField) : Type 0 where
  pub found_one : is_some found ≡ overlap (map place_of (filter is_loaded headers))
  pub begins : IfSome found (IsOverlapField bytes headers)

-- what is found for a refusal from 9 to 12 is in the first program header that is wrong, and for 15 something is found
-- where the segments don't fit the window
pub record IsFirstWrong (bytes : List ℕ) (headers : List ProgramHeader) (window number : ℕ) (found : Option RefusedField) : Type 0 where
  pub dynamic : number ≡ 9 → IsFirstType bytes headers asks_for_linker found
  pub thread_local : number ≡ 10 → IsFirstType bytes headers asks_for_thread_local found
  pub misplaced : number ≡ 11 → IsFirstMisplaced bytes headers found
  pub overlapping : number ≡ 12 → table_refusal (length bytes) headers ≡ None → IsOverlapFound bytes headers found
  pub large : number ≡ 15 → is_some found ≡ too_large window (map place_of (filter is_loaded headers))
