-- Words and their fields, as the RISC-V unprivileged manual writes them (RV32I base integer instruction set,
-- "Base Instruction Formats" and "Immediate Encoding Variants"). A word is a number below 2 ^ 32.
use Rattle.std.specs.Prelude.{ℕ, zero, suc, ◌+◌, ◌-◌, ◌*◌, ◌/◌, ◌%◌, ◌^◌, ℤ, pos, ◌-ℤ◌, List, [], ◌∷◌, nat_lt, if◌then◌else◌}

-- bits high to low of a word
abbrev pub field : ℕ → ℕ → ℕ → ℕ
field high low word = word / 2 ^ low % 2 ^ (high + 1 - low)

-- what a number of so many bits stands for in two's complement
abbrev pub signed : ℕ → ℕ → ℤ
signed bits n = if nat_lt n (2 ^ (bits - 1)) then pos n else pos n -ℤ pos (2 ^ bits)

-- the first so many bytes of a number, the lowest first
abbrev pub little_bytes : ℕ → ℕ → List ℕ
little_bytes zero n = []
little_bytes (suc count) n = n % 256 ∷ little_bytes count (n / 256)

-- the number of these bytes, the lowest first
abbrev pub little_number : List ℕ → ℕ
little_number [] = 0
little_number (byte ∷ bytes) = byte + 256 * little_number bytes

-- The fields of a word that name registers and operations.
unfoldable pub opcode : ℕ → ℕ
opcode word = field 6 0 word

unfoldable pub rd : ℕ → ℕ
rd word = field 11 7 word

unfoldable pub funct3 : ℕ → ℕ
funct3 word = field 14 12 word

unfoldable pub rs1 : ℕ → ℕ
rs1 word = field 19 15 word

unfoldable pub rs2 : ℕ → ℕ
rs2 word = field 24 20 word

unfoldable pub funct7 : ℕ → ℕ
funct7 word = field 31 25 word

-- The immediates of the five formats, each the sum of its fields at their places.
unfoldable pub imm_i : ℕ → ℤ
imm_i word = signed 12 (field 31 20 word)

unfoldable pub imm_s : ℕ → ℤ
imm_s word = signed 12 (field 31 25 word * 2 ^ 5 + field 11 7 word)

unfoldable pub imm_b : ℕ → ℤ
imm_b word = signed 13 (field 31 31 word * 2 ^ 12 + field 7 7 word * 2 ^ 11 + field 30 25 word * 2 ^ 5 + field 11 8 word * 2)

unfoldable pub imm_u : ℕ → ℤ
imm_u word = signed 32 (field 31 12 word * 2 ^ 12)

unfoldable pub imm_j : ℕ → ℤ
imm_j word = signed 21 (field 31 31 word * 2 ^ 20 + field 19 12 word * 2 ^ 12 + field 20 20 word * 2 ^ 11 + field 30 21 word * 2)
