-- Flat memory: areas of bytes, each with its permissions. Reading and writing go byte by byte.
use Rattle.std.specs.Prelude.{ℕ, zero, suc, ◌+◌, ◌-◌, ◌/◌, ◌%◌, ◌^◌, Bool, true, ◌&&◌, List, [], ◌∷◌, ◌++◌, length, Option, None, is_some, unwrap_or, slice_get, slice_set, nat_le, nat_lt, if◌then◌else◌, ◌==◌}

-- Bytes from an address on, and what may be done with them: the flags of a program header (System V ABI,
-- "Segment Permissions").
pub record Area : Type 0 where
  pub start : ℕ
  pub flags : ℕ
  pub bytes : List ℕ

-- System V ABI, "Segment Permissions": PF_X, PF_W and PF_R
abbrev pub execute : ℕ
execute = 1

abbrev pub write : ℕ
write = 2

abbrev pub read : ℕ
read = 4

-- the area has the address, and permits this
abbrev pub covers : ℕ → Area → ℕ → Bool
covers flag area at = (area.flags / flag % 2 == 1) && nat_le area.start at && nat_lt at (area.start + length area.bytes)

-- the byte at an address, in the area that has it and permits this
abbrev pub byte_at : ℕ → List Area → ℕ → Option ℕ
byte_at flag [] at = None
byte_at flag (area ∷ areas) at = if covers flag area at then slice_get area.bytes (at - area.start) else byte_at flag areas at

-- each of so many bytes from an address on is in an area that permits this
abbrev pub each_covered : ℕ → List Area → ℕ → ℕ → Bool
each_covered flag memory at zero = true
each_covered flag memory at (suc count) = each_covered flag memory at count && is_some (byte_at flag memory (at + count))

-- so many bytes from an address on may be touched so: none lies past 2 ^ 32
unfoldable pub permitted : ℕ → List Area → ℕ → ℕ → Bool
permitted flag memory at count = nat_le (at + count) (2 ^ 32) && each_covered flag memory at count

-- so many bytes from an address on
abbrev pub bytes_at : ℕ → List Area → ℕ → ℕ → List ℕ
bytes_at flag memory at zero = []
bytes_at flag memory at (suc count) = bytes_at flag memory at count ++ unwrap_or (byte_at flag memory (at + count)) 0 ∷ []

-- memory with another byte at an address
abbrev pub put_byte : List Area → ℕ → ℕ → List Area
put_byte [] at byte = []
put_byte (area ∷ areas) at byte =
    if covers write area at
    then record area { bytes = slice_set area.bytes (at - area.start) byte } ∷ areas
    else area ∷ put_byte areas at byte

-- memory with these bytes from an address on
abbrev pub put_bytes : List Area → ℕ → List ℕ → List Area
put_bytes memory at [] = memory
put_bytes memory at (byte ∷ bytes) = put_bytes (put_byte memory at byte) (at + 1) bytes
