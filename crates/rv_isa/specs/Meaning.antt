-- What each operation gives, on words as numbers below 2 ^ 32. RISC-V unprivileged manual, RV32I and the "M" standard
-- extension; at each definition the section that it states.
use Rattle.std.specs.Prelude.{ℕ, ◌+◌, ◌-◌, ◌*◌, ◌/◌, ◌%◌, ◌^◌, ◌==◌, nat_lt, Bool, not, if◌then◌else◌, ℤ, pos, negsuc, ◌-ℤ◌, ◌*ℤ◌, ◌+ℤ◌, int_lt, int_div, int_rem, bit_and, bit_or, bit_xor}
use Rattle.rv_isa.specs.Terms.{BranchOp, Beq, Bge, Bgeu, Blt, Bltu, Bne, ImmOp, Addi, Andi, Ori, Slli, Slti, Sltiu, Srai, Srli, Xori, LoadOp, Lb, Lbu, Lh, Lhu, Lw, RegOp, Add, And, Div, Divu, Mul, Mulh, Mulhsu, Mulhu, Or, Rem, Remu, Sll, Slt, Sltu, Sra, Srl, Sub, Xor, StoreOp, Sb, Sh, Sw}
use Rattle.rv_isa.specs.Words.{signed}

-- the word of a number, which is what is left of it modulo 2 ^ 32
abbrev pub to_word : ℤ → ℕ
to_word (pos n) = n % 2 ^ 32
to_word (negsuc n) = 2 ^ 32 - 1 - n % 2 ^ 32

-- a quotient rounded down, where `int_div` rounds towards zero
abbrev pub floor_div : ℤ → ℕ → ℤ
floor_div (pos n) d = pos (n / d)
floor_div (negsuc n) d = negsuc (n / d)

-- 1 where a comparison holds
abbrev pub flag : Bool → ℕ
flag holds = if holds then 1 else 0

-- RV32I, "Integer Register-Register Operations": sums and differences modulo 2 ^ 32; shifts by the low five bits of the
-- second operand, which multiply or divide by a power of two
unfoldable pub word_sum : ℕ → ℕ → ℕ
word_sum a b = (a + b) % 2 ^ 32

unfoldable pub word_difference : ℕ → ℕ → ℕ
word_difference a b = to_word (pos a -ℤ pos b)

unfoldable pub shifted_left : ℕ → ℕ → ℕ
shifted_left a b = a * 2 ^ (b % 32) % 2 ^ 32

unfoldable pub shifted_right : ℕ → ℕ → ℕ
shifted_right a b = a / 2 ^ (b % 32)

unfoldable pub shifted_right_signed : ℕ → ℕ → ℕ
shifted_right_signed a b = to_word (floor_div (signed 32 a) (2 ^ (b % 32)))

-- RV32I, SLT and SLTI: both words are compared as signed numbers
unfoldable pub is_less_signed : ℕ → ℕ → Bool
is_less_signed a b = int_lt (signed 32 a) (signed 32 b)

-- "M" standard extension, "Multiplication Operations": the low word of the product, and the high word of the product of
-- two signed numbers, of a signed and an unsigned one, and of two unsigned ones
unfoldable pub low_product : ℕ → ℕ → ℕ
low_product a b = a * b % 2 ^ 32

unfoldable pub high_signed : ℕ → ℕ → ℕ
high_signed a b = to_word (floor_div (signed 32 a *ℤ signed 32 b) (2 ^ 32))

unfoldable pub high_mixed : ℕ → ℕ → ℕ
high_mixed a b = to_word (floor_div (signed 32 a *ℤ pos b) (2 ^ 32))

unfoldable pub high_unsigned : ℕ → ℕ → ℕ
high_unsigned a b = a * b / 2 ^ 32

-- "M" standard extension, "Division Operations": rounded towards zero. By zero the quotient has all bits set and the
-- remainder is the dividend. The one signed quotient that overflows, of -2 ^ 31 by -1, is 2 ^ 31, whose word is that of
-- the dividend, with the remainder 0.
unfoldable pub quotient_signed : ℕ → ℕ → ℕ
quotient_signed a b = if b == 0 then 2 ^ 32 - 1 else to_word (int_div (signed 32 a) (signed 32 b))

unfoldable pub quotient : ℕ → ℕ → ℕ
quotient a b = if b == 0 then 2 ^ 32 - 1 else a / b

unfoldable pub remainder_signed : ℕ → ℕ → ℕ
remainder_signed a b = if b == 0 then a else to_word (int_rem (signed 32 a) (signed 32 b))

unfoldable pub remainder : ℕ → ℕ → ℕ
remainder a b = if b == 0 then a else a % b

-- what an operation on two registers writes, from the numbers in them
abbrev pub value_of : RegOp → ℕ → ℕ → ℕ
value_of Add a b = word_sum a b
value_of Sub a b = word_difference a b
value_of Sll a b = shifted_left a b
value_of Slt a b = flag (is_less_signed a b)
value_of Sltu a b = flag (nat_lt a b)
value_of Xor a b = bit_xor a b
value_of Srl a b = shifted_right a b
value_of Sra a b = shifted_right_signed a b
value_of Or a b = bit_or a b
value_of And a b = bit_and a b
value_of Mul a b = low_product a b
value_of Mulh a b = high_signed a b
value_of Mulhsu a b = high_mixed a b
value_of Mulhu a b = high_unsigned a b
value_of Div a b = quotient_signed a b
value_of Divu a b = quotient a b
value_of Rem a b = remainder_signed a b
value_of Remu a b = remainder a b

-- RV32I, "Integer Register-Immediate Instructions": the operation on two registers that one with an immediate does
abbrev pub register_form : ImmOp → RegOp
register_form Addi = Add
register_form Slti = Slt
register_form Sltiu = Sltu
register_form Xori = Xor
register_form Ori = Or
register_form Andi = And
register_form Slli = Sll
register_form Srli = Srl
register_form Srai = Sra

-- what an operation on a register and an immediate writes
abbrev pub imm_value_of : ImmOp → ℕ → ℤ → ℕ
imm_value_of op a imm = value_of (register_form op) a (to_word imm)

-- RV32I, "Conditional Branches": whether the branch is taken
abbrev pub is_taken : BranchOp → ℕ → ℕ → Bool
is_taken Beq a b = a == b
is_taken Bne a b = not (a == b)
is_taken Blt a b = is_less_signed a b
is_taken Bge a b = not (is_less_signed a b)
is_taken Bltu a b = nat_lt a b
is_taken Bgeu a b = not (nat_lt a b)

-- an address, or a target, so far from a base: RV32I, "Load and Store Instructions" and "Control Transfer Instructions"
unfoldable pub displaced : ℕ → ℤ → ℕ
displaced base imm = to_word (pos base +ℤ imm)

-- the target of the indirect jump, whose lowest bit is cleared: RV32I, "Unconditional Jumps"
unfoldable pub indirect_target : ℕ → ℤ → ℕ
indirect_target base imm = displaced base imm / 2 * 2

-- RV32I, "Load and Store Instructions": how many bytes are read, and what is written from the number that they are
abbrev pub load_size : LoadOp → ℕ
load_size Lb = 1
load_size Lh = 2
load_size Lw = 4
load_size Lbu = 1
load_size Lhu = 2

-- a number of so many bits, sign-extended to a word
unfoldable pub extended : ℕ → ℕ → ℕ
extended bits n = to_word (signed bits n)

-- what a load puts into rd, of the number that it has read
abbrev pub loaded : LoadOp → ℕ → ℕ
loaded Lb n = extended 8 n
loaded Lh n = extended 16 n
loaded Lw n = n
loaded Lbu n = n
loaded Lhu n = n

-- how many bytes of the register are stored, the lowest ones
abbrev pub store_size : StoreOp → ℕ
store_size Sb = 1
store_size Sh = 2
store_size Sw = 4
