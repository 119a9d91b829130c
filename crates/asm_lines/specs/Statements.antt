-- Statements: what a form and its operands come to. Where the operands' number or kind is wrong, it is BadOperand; else,
-- where a number is out of its range, Range.
use Rattle.std.specs.Prelude.{ℕ, ◌*◌, ◌%◌, ◌^◌, Bool, true, false, ◌&&◌, ◌||◌, List, [], ◌∷◌, length, map, Option, Some, None, Result, Ok, Err, ℤ, pos, negsuc, int_lt, nat_le, if◌then◌else◌, ◌==◌}
use Rattle.rv_isa.specs.declared.instr.BranchOp.{BranchOp}
use Rattle.rv_isa.specs.declared.instr.LoadOp.{LoadOp}
use Rattle.rv_isa.specs.declared.instr.StoreOp.{StoreOp}
use Rattle.rv_isa.specs.declared.instr.ImmOp.{ImmOp}
use Rattle.rv_isa.specs.declared.instr.ImmOp.TheVariants as imm
use Rattle.rv_isa.specs.declared.instr.RegOp.{RegOp}
use Rattle.rv_isa.specs.declared.instr.Instr.{Instr}
use Rattle.rv_isa.specs.declared.instr.Instr.TheVariants as instr
use Rattle.rv_isa.specs.Words.{signed}
use Rattle.rv_isa.specs.Meaning.{to_word}
use Rattle.asm_lines.specs.declared.flaw.Flaw.{Flaw}
use Rattle.asm_lines.specs.declared.flaw.Flaw.TheVariants.{BadOperand, Range}
use Rattle.asm_lines.specs.declared.form.Form.{Form}
use Rattle.asm_lines.specs.declared.form.Form.TheVariants as form
use Rattle.asm_lines.specs.declared.statement.Statement.{Statement}
use Rattle.asm_lines.specs.declared.statement.Statement.TheVariants as statement
use Rattle.asm_lines.specs.Bytes.{is_name, trimmed, cut, ended, onto}
use Rattle.asm_lines.specs.Numbers.{number_of}
use Rattle.asm_lines.specs.Registers.{register_of}

-- one step behind another; the first flaw is the answer
infixl 10 ◌>>=◌
abbrev pub ◌>>=◌ : {A B : Type 0} → Result A Flaw → (A → Result B Flaw) → Result B Flaw
Ok value >>= next = next value
Err flaw >>= next = Err flaw

abbrev pub operand : {A : Type 0} → Option A → Result A Flaw
operand None = Err BadOperand
operand (Some value) = Ok value

-- ---- the operands of a statement

-- the parts between commas
abbrev pub pieces : List ℕ → List (List ℕ)
pieces [] = [] ∷ []
pieces (byte ∷ bytes) = if byte == 44 then [] ∷ pieces bytes else onto byte (pieces bytes)

-- none where nothing is written; else those between commas, with blanks allowed round them
unfoldable pub operands_of : List ℕ → List (List ℕ)
operands_of [] = []
operands_of (byte ∷ bytes) = map trimmed (pieces (byte ∷ bytes))

-- exactly one, two or three operands
unfoldable pub one : List (List ℕ) → Result (List ℕ) Flaw
one (first ∷ []) = Ok first
one _ = Err BadOperand

unfoldable pub two : List (List ℕ) → Result (List ℕ × List ℕ) Flaw
two (first ∷ second ∷ []) = Ok (first, second)
two _ = Err BadOperand

unfoldable pub three : List (List ℕ) → Result (List ℕ × List ℕ × List ℕ) Flaw
three (first ∷ second ∷ third ∷ []) = Ok (first, second, third)
three _ = Err BadOperand

-- ---- operands of each kind

unfoldable pub register : List ℕ → Result ℕ Flaw
register bytes = operand (register_of bytes)

unfoldable pub label : List ℕ → Result (List ℕ) Flaw
label bytes = if is_name bytes then Ok bytes else Err BadOperand

-- a number from a least to a greatest one
abbrev pub ranged : ℤ → ℤ → ℤ → Result ℤ Flaw
ranged least greatest n = if int_lt n least || int_lt greatest n then Err Range else Ok n

unfoldable pub number : ℤ → ℤ → List ℕ → Result ℤ Flaw
number least greatest bytes = operand (number_of bytes) >>= ranged least greatest

-- `number(register)`: the text of the number, and the register
unfoldable pub address : List ℕ → Result (List ℕ × ℕ) Flaw
address bytes = do
  parts ← operand (cut 40 bytes)
  name ← operand (ended 41 parts.1)
  base ← register name
  Ok (parts.0, base)

-- a text in quotes: bytes from the space to `~` but `"` and `\`, and `\n` for a line feed. It stays as it is written here
abbrev pub is_plain : ℕ → Bool
is_plain byte = nat_le 32 byte && nat_le byte 126 && (if byte == 34 then false else if byte == 92 then false else true)

abbrev pub is_written : List ℕ → Bool
is_written [] = true
is_written (byte ∷ []) = is_plain byte
is_written (byte ∷ next ∷ bytes) = if (byte == 92) && (next == 110) then is_written bytes else is_plain byte && is_written (next ∷ bytes)

abbrev pub inside : List ℕ → Option (List ℕ)
inside [] = None
inside (byte ∷ bytes) = if byte == 34 then ended 34 bytes else None

abbrev pub written : List ℕ → Result (List ℕ) Flaw
written bytes = if is_written bytes then Ok bytes else Err BadOperand

unfoldable pub quoted : List ℕ → Result (List ℕ) Flaw
quoted bytes = operand (inside bytes) >>= written

-- what it stands for
abbrev pub characters : List ℕ → List ℕ
characters [] = []
characters (byte ∷ []) = byte ∷ []
characters (byte ∷ next ∷ bytes) = if (byte == 92) && (next == 110) then 10 ∷ characters bytes else byte ∷ characters (next ∷ bytes)

-- ---- the table: the statement of each form, by its operands

-- the immediate of an operation: the amount of a shift, or twelve bits with a sign
unfoldable pub immediate : ImmOp → List ℕ → Result ℤ Flaw
immediate imm.Slli bytes = number (pos 0) (pos 31) bytes
immediate imm.Srli bytes = number (pos 0) (pos 31) bytes
immediate imm.Srai bytes = number (pos 0) (pos 31) bytes
immediate _ bytes = number (negsuc 2047) (pos 2047) bytes

-- an offset from a register
unfoldable pub offset : List ℕ → Result ℤ Flaw
offset bytes = number (negsuc 2047) (pos 2047) bytes

-- a number in a word, and one in a byte: the lowest bits of two's complement
unfoldable pub any_word : List ℕ → Result ℕ Flaw
any_word bytes = number (negsuc 2147483647) (pos 4294967295) bytes >>= λ n. Ok (to_word n)

unfoldable pub any_byte : List ℕ → Result ℕ Flaw
any_byte bytes = number (negsuc 127) (pos 255) bytes >>= λ n. Ok (to_word n % 256)

-- the immediate of LUI and AUIPC, by its upper twenty bits
unfoldable pub upper : List ℕ → Result ℤ Flaw
upper bytes = number (pos 0) (pos 1048575) bytes >>= λ n. Ok (signed 32 (to_word n * 2 ^ 12))

-- rd, rs1, rs2
unfoldable pub op_statement : RegOp → List (List ℕ) → Result Statement Flaw
op_statement op operands = do
  parts ← three operands
  rd ← register parts.0
  rs1 ← register parts.1
  rs2 ← register parts.2
  Ok (statement.Instruction (instr.Op op rd rs1 rs2))

-- rd, rs1, number
unfoldable pub op_imm_statement : ImmOp → List (List ℕ) → Result Statement Flaw
op_imm_statement op operands = do
  parts ← three operands
  rd ← register parts.0
  rs1 ← register parts.1
  n ← immediate op parts.2
  Ok (statement.Instruction (instr.OpImm op rd rs1 n))

-- rd, number(rs1)
unfoldable pub load_statement : LoadOp → List (List ℕ) → Result Statement Flaw
load_statement op operands = do
  parts ← two operands
  rd ← register parts.0
  at ← address parts.1
  n ← offset at.0
  Ok (statement.Instruction (instr.Load op rd at.1 n))

unfoldable pub jalr_statement : List (List ℕ) → Result Statement Flaw
jalr_statement operands = do
  parts ← two operands
  rd ← register parts.0
  at ← address parts.1
  n ← offset at.0
  Ok (statement.Instruction (instr.Jalr rd at.1 n))

-- rs2, number(rs1)
unfoldable pub store_statement : StoreOp → List (List ℕ) → Result Statement Flaw
store_statement op operands = do
  parts ← two operands
  rs2 ← register parts.0
  at ← address parts.1
  n ← offset at.0
  Ok (statement.Instruction (instr.Store op at.1 rs2 n))

-- rs1, rs2, label
unfoldable pub branch_statement : BranchOp → List (List ℕ) → Result Statement Flaw
branch_statement op operands = do
  parts ← three operands
  rs1 ← register parts.0
  rs2 ← register parts.1
  name ← label parts.2
  Ok (statement.Branch op rs1 rs2 name)

-- rs, label: the other register is x0
unfoldable pub branch_zero_statement : BranchOp → List (List ℕ) → Result Statement Flaw
branch_zero_statement op operands = do
  parts ← two operands
  rs ← register parts.0
  name ← label parts.1
  Ok (statement.Branch op rs 0 name)

-- rd, label
unfoldable pub jal_statement : List (List ℕ) → Result Statement Flaw
jal_statement operands = do
  parts ← two operands
  rd ← register parts.0
  name ← label parts.1
  Ok (statement.Jump rd name)

unfoldable pub la_statement : List (List ℕ) → Result Statement Flaw
la_statement operands = do
  parts ← two operands
  rd ← register parts.0
  name ← label parts.1
  Ok (statement.LoadAddress rd name)

-- label
unfoldable pub jump_statement : ℕ → List (List ℕ) → Result Statement Flaw
jump_statement rd operands = do
  part ← one operands
  name ← label part
  Ok (statement.Jump rd name)

-- rd, number
unfoldable pub lui_statement : List (List ℕ) → Result Statement Flaw
lui_statement operands = do
  parts ← two operands
  rd ← register parts.0
  n ← upper parts.1
  Ok (statement.Instruction (instr.Lui rd n))

unfoldable pub auipc_statement : List (List ℕ) → Result Statement Flaw
auipc_statement operands = do
  parts ← two operands
  rd ← register parts.0
  n ← upper parts.1
  Ok (statement.Instruction (instr.Auipc rd n))

unfoldable pub li_statement : List (List ℕ) → Result Statement Flaw
li_statement operands = do
  parts ← two operands
  rd ← register parts.0
  value ← any_word parts.1
  Ok (statement.LoadNumber rd value)

-- rd, rs: addi rd, rs, 0
unfoldable pub mv_statement : List (List ℕ) → Result Statement Flaw
mv_statement operands = do
  parts ← two operands
  rd ← register parts.0
  rs ← register parts.1
  Ok (statement.Instruction (instr.OpImm imm.Addi rd rs (pos 0)))

-- no operands
unfoldable pub lone_statement : Statement → List (List ℕ) → Result Statement Flaw
lone_statement lone [] = Ok lone
lone_statement lone (operand ∷ operands) = Err BadOperand

-- a number, or else a label
abbrev pub word_or_address : List ℕ → Option ℤ → Result Statement Flaw
word_or_address bytes None = label bytes >>= λ name. Ok (statement.Address name)
word_or_address bytes (Some n) = any_word bytes >>= λ value. Ok (statement.Word value)

unfoldable pub word_statement : List (List ℕ) → Result Statement Flaw
word_statement operands = one operands >>= λ part. word_or_address part (number_of part)

unfoldable pub byte_statement : List (List ℕ) → Result Statement Flaw
byte_statement operands = do
  part ← one operands
  value ← any_byte part
  Ok (statement.Byte value)

unfoldable pub space_statement : List (List ℕ) → Result Statement Flaw
space_statement operands = do
  part ← one operands
  n ← number (pos 0) (pos 65536) part
  Ok (statement.Space (to_word n))

-- all that is written behind the mnemonic
unfoldable pub ascii_statement : List ℕ → Result Statement Flaw
ascii_statement bytes = quoted bytes >>= λ text. Ok (statement.Ascii text)

abbrev pub nop : Instr
nop = instr.OpImm imm.Addi 0 0 (pos 0)

-- jalr x0, 0(x1)
abbrev pub ret : Instr
ret = instr.Jalr 0 1 (pos 0)

-- the order of all memory and device accesses before all behind it
abbrev pub full_fence : Instr
full_fence = instr.Fence 0x0ff0000f

abbrev pub statement_of : Form → List ℕ → Result Statement Flaw
statement_of (form.Op op) bytes = op_statement op (operands_of bytes)
statement_of (form.OpImm op) bytes = op_imm_statement op (operands_of bytes)
statement_of (form.Load op) bytes = load_statement op (operands_of bytes)
statement_of (form.Store op) bytes = store_statement op (operands_of bytes)
statement_of (form.Branch op) bytes = branch_statement op (operands_of bytes)
statement_of (form.BranchZero op) bytes = branch_zero_statement op (operands_of bytes)
statement_of form.Jalr bytes = jalr_statement (operands_of bytes)
statement_of form.Jal bytes = jal_statement (operands_of bytes)
statement_of (form.Jump rd) bytes = jump_statement rd (operands_of bytes)
statement_of form.Lui bytes = lui_statement (operands_of bytes)
statement_of form.Auipc bytes = auipc_statement (operands_of bytes)
statement_of form.Mv bytes = mv_statement (operands_of bytes)
statement_of form.Li bytes = li_statement (operands_of bytes)
statement_of form.La bytes = la_statement (operands_of bytes)
statement_of form.Ecall bytes = lone_statement (statement.Instruction instr.Ecall) (operands_of bytes)
statement_of form.Ebreak bytes = lone_statement (statement.Instruction instr.Ebreak) (operands_of bytes)
statement_of form.Fence bytes = lone_statement (statement.Instruction full_fence) (operands_of bytes)
statement_of form.Nop bytes = lone_statement (statement.Instruction nop) (operands_of bytes)
statement_of form.Ret bytes = lone_statement (statement.Instruction ret) (operands_of bytes)
statement_of (form.Into section) bytes = lone_statement (statement.Into section) (operands_of bytes)
statement_of form.Word bytes = word_statement (operands_of bytes)
statement_of form.Byte bytes = byte_statement (operands_of bytes)
statement_of form.Space bytes = space_statement (operands_of bytes)
statement_of form.Ascii bytes = ascii_statement bytes

-- how many bytes a statement gives its section
abbrev pub size_of : Statement → ℕ
size_of (statement.Into section) = 0
size_of (statement.Instruction instr) = 4
size_of (statement.Branch op rs1 rs2 name) = 4
size_of (statement.Jump rd name) = 4
size_of (statement.LoadNumber rd value) = 8
size_of (statement.LoadAddress rd name) = 8
size_of (statement.Word value) = 4
size_of (statement.Address name) = 4
size_of (statement.Byte value) = 1
size_of (statement.Space count) = count
size_of (statement.Ascii text) = length (characters text)
