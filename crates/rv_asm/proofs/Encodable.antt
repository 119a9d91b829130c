-- What each form gives: a statement whose operands its words can hold.
use Rattle.std.proofs.Common.{pos}
use Rattle.std.proofs.lemmas.Int.{ints}
use Rattle.rv_isa.specs.declared.instr.BranchOp.{BranchOp}
use Rattle.rv_isa.specs.declared.instr.LoadOp.{LoadOp}
use Rattle.rv_isa.specs.declared.instr.StoreOp.{StoreOp}
use Rattle.rv_isa.specs.declared.instr.ImmOp.{ImmOp}
use Rattle.rv_isa.specs.declared.instr.ImmOp.TheVariants as imm
use Rattle.rv_isa.specs.declared.instr.RegOp.{RegOp}
use Rattle.rv_isa.specs.declared.instr.Instr.TheVariants as instr
use Rattle.asm_lines.specs.declared.flaw.Flaw.TheVariants.{Range}
use Rattle.asm_lines.specs.declared.form.Form.TheVariants as form
use Rattle.asm_lines.specs.declared.form.Section.TheVariants as section
use Rattle.asm_lines.specs.declared.statement.Statement.TheVariants as statement
use Rattle.rv_asm.proofs.Terms.{Bool, Err, List, None, Ok, Option, Result, Some, [], ap, arith, cond, false, lit<, nat_lt, negsuc, refl, subst, sym, true, ℕ, ℤ, ◌%◌, ◌*◌, ◌-ℤ◌, ◌<◌, ◌^◌, ◌||◌, ◌∙◌, ◌∷◌, ◌≡◌, ◌≤ℤ◌, ◌≤◌, and_parts, false≢true, ltb-false, ltb-true, or_parts, nat_tests, none-some, list_all, bytes_eq, int_lt, Instr, to_word, IsImmediate, IsInRange, IsOperand, IsRegister, IsShift, funct3, opcode, signed, Flaw, Form, Statement, cut, ended, look_up, form_of, gives_bytes, mnemonic_table, stands_in, number_of, register_of, register_table, address, any_byte, any_word, ascii_statement, auipc_statement, branch_statement, branch_zero_statement, byte_statement, full_fence, immediate, jal_statement, jalr_statement, jump_statement, la_statement, label, li_statement, load_statement, lone_statement, lui_statement, mv_statement, nop, number, offset, one, op_imm_statement, op_statement, operand, operands_of, quoted, ranged, register, ret, size_of, space_statement, statement_of, store_statement, three, two, upper, word_or_address, word_statement, ◌>>=◌, IsEncodable}

-- what holds of a value, if there is one
abbrev pub AllOk : {A : Type 0} → (A → Type 0) → Result A Flaw → Type 0
AllOk P (Ok value) = P value
AllOk P (Err flaw) = Unit {0}

pub all_bind : {A B : Type 0} (P : A → Type 0) (Q : B → Type 0) (reading : Result A Flaw) (next : A → Result B Flaw) → AllOk P reading → ((value : A) → P value → AllOk Q (next value)) → AllOk Q (reading >>= next)
all_bind P Q (Ok value) next h f = f value h
all_bind P Q (Err flaw) next h f = tt

abbrev Any : {A : Type 0} → A → Type 0
Any value = Unit {0}

any : {A : Type 0} (reading : Result A Flaw) → AllOk Any reading
any (Ok value) = tt
any (Err flaw) = tt

-- ---- tables

row_passes : {V : Type 0} (test : V → Bool) (b : Bool) (value : V) (rest : Option V) (found : V) → test value ≡ true → (rest ≡ Some found → test found ≡ true) → cond b (Some value) rest ≡ Some found → test found ≡ true
row_passes test true value rest found here later h = let same : value ≡ found = cc in ap test (sym same) ∙ here
row_passes test false value rest found here later h = later h

passing_row : {V : Type 0} (test : V → Bool) (rows : List (List ℕ × V)) (name : List ℕ) (found : V) → list_all (λ row. test row.1) rows ≡ true → look_up rows name ≡ Some found → test found ≡ true
passing_row test [] name found all h = absurd (none-some found h)
passing_row test (row ∷ rows) name found all h =
    let parts = and_parts (test row.1) (list_all (λ row. test row.1) rows) all in
    row_passes test (bytes_eq row.0 name) row.1 (look_up rows name) found parts.0 (passing_row test rows name found parts.1) h

register_below : (name : List ℕ) (found : ℕ) → register_of name ≡ Some found → nat_lt found 32 ≡ true
unfolding register_of register_table
register_below name found h = passing_row (λ n. nat_lt n 32) register_table name found refl h

operand_ok : {A : Type 0} (P : A → Type 0) (found : Option A) → ((value : A) → found ≡ Some value → P value) → AllOk P (operand found)
operand_ok P None h = tt
operand_ok P (Some value) h = h value refl

register_ok : (bytes : List ℕ) → AllOk IsRegister (register bytes)
unfolding register
register_ok bytes = operand_ok IsRegister (register_of bytes) (λ found h. ltb-true found 32 (register_below bytes found h))

-- a jump's register is x0 or x1
abbrev pub jumps_low : Form → Bool
jumps_low (form.Jump rd) = nat_lt rd 32
jumps_low _ = true

abbrev pub IsForm : Form → Type 0
IsForm form = jumps_low form ≡ true

pub form_is : (name : List ℕ) (found : Form) → form_of name ≡ Some found → IsForm found
unfolding form_of mnemonic_table
form_is name found h = passing_row jumps_low mnemonic_table name found refl h

jump_register : (rd : ℕ) → IsForm (form.Jump rd) → IsRegister rd
jump_register rd h = ltb-true rd 32 h

-- ---- numbers

pub record IsBetween (least greatest n : ℤ) : Type 0 where
  pub from_least : least ≤ℤ n
  pub to_greatest : n ≤ℤ greatest

not_less : (a b : ℤ) → int_lt a b ≡ false → b ≤ℤ a
not_less a b h = grind (arith, ints, nat_tests)

between : (least greatest n : ℤ) → (int_lt n least || int_lt greatest n) ≡ false → IsBetween least greatest n
between least greatest n h =
    let parts = or_parts (int_lt n least) (int_lt greatest n) h in
    record { from_least = not_less n least parts.0; to_greatest = not_less greatest n parts.1 }

ranged_by : (least greatest n : ℤ) (b : Bool) → (int_lt n least || int_lt greatest n) ≡ b → AllOk (IsBetween least greatest) (cond b (Err Range) (Ok n))
ranged_by least greatest n true h = tt
ranged_by least greatest n false h = between least greatest n h

number_ok : (least greatest : ℤ) (bytes : List ℕ) → AllOk (IsBetween least greatest) (number least greatest bytes)
unfolding number
number_ok least greatest bytes =
    all_bind Any (IsBetween least greatest) (operand (number_of bytes)) (ranged least greatest) (any (operand (number_of bytes)))
    (λ n _. ranged_by least greatest n (int_lt n least || int_lt greatest n) refl)

all_weaker : {A : Type 0} (P Q : A → Type 0) (reading : Result A Flaw) → AllOk P reading → ((value : A) → P value → Q value) → AllOk Q reading
all_weaker P Q (Ok value) h f = f value h
all_weaker P Q (Err flaw) h f = tt

twelve_bits : (n : ℤ) → IsBetween (negsuc 2047) (pos 2047) n → IsImmediate 12 1 n
twelve_bits n h = let low = h.from_least in let high = h.to_greatest in record { least = omega (arith, ints); below = omega (arith, ints); whole = omega (arith, ints) }

shift_amount : (n : ℤ) → IsBetween (pos 0) (pos 31) n → IsShift n
shift_amount n h = let low = h.from_least in let high = h.to_greatest in record { least = omega (arith, ints); below = omega (arith, ints) }

offset_ok : (bytes : List ℕ) → AllOk (IsImmediate 12 1) (offset bytes)
unfolding offset
offset_ok bytes = all_weaker (IsBetween (negsuc 2047) (pos 2047)) (IsImmediate 12 1) (number (negsuc 2047) (pos 2047) bytes) (number_ok (negsuc 2047) (pos 2047) bytes) twelve_bits

twelve_ok : (bytes : List ℕ) → AllOk (IsImmediate 12 1) (number (negsuc 2047) (pos 2047) bytes)
twelve_ok bytes = all_weaker (IsBetween (negsuc 2047) (pos 2047)) (IsImmediate 12 1) (number (negsuc 2047) (pos 2047) bytes) (number_ok (negsuc 2047) (pos 2047) bytes) twelve_bits

amount_ok : (bytes : List ℕ) → AllOk IsShift (number (pos 0) (pos 31) bytes)
amount_ok bytes = all_weaker (IsBetween (pos 0) (pos 31)) IsShift (number (pos 0) (pos 31) bytes) (number_ok (pos 0) (pos 31) bytes) shift_amount

immediate_ok : (op : ImmOp) (bytes : List ℕ) → AllOk (IsOperand op) (immediate op bytes)
unfolding immediate
immediate_ok imm.Addi bytes = twelve_ok bytes
immediate_ok imm.Slti bytes = twelve_ok bytes
immediate_ok imm.Sltiu bytes = twelve_ok bytes
immediate_ok imm.Xori bytes = twelve_ok bytes
immediate_ok imm.Ori bytes = twelve_ok bytes
immediate_ok imm.Andi bytes = twelve_ok bytes
immediate_ok imm.Slli bytes = amount_ok bytes
immediate_ok imm.Srli bytes = amount_ok bytes
immediate_ok imm.Srai bytes = amount_ok bytes

abbrev IsWordNumber : ℕ → Type 0
IsWordNumber value = value < 2 ^ 32

word_below : (n : ℤ) → to_word n < 2 ^ 32
word_below (pos n) = omega arith
word_below (negsuc n) = omega arith

any_word_ok : (bytes : List ℕ) → AllOk IsWordNumber (any_word bytes)
unfolding any_word
any_word_ok bytes = all_bind Any IsWordNumber (number (negsuc 2147483647) (pos 4294967295) bytes) (λ n. Ok (to_word n)) (any (number (negsuc 2147483647) (pos 4294967295) bytes)) (λ n _. word_below n)

upper_by : (k : ℕ) (b : Bool) → k ≤ 1048575 → nat_lt (k * 2 ^ 12) (2 ^ 31) ≡ b → IsImmediate 32 4096 (cond b (pos (k * 2 ^ 12)) (pos (k * 2 ^ 12) -ℤ pos (2 ^ 32)))
upper_by k true most h = let low = ltb-true _ _ h in record { least = omega (arith, ints); below = omega (arith, ints); whole = omega (arith, ints) }
upper_by k false most h = let high = ltb-false _ _ h in record { least = omega (arith, ints); below = omega (arith, ints); whole = omega (arith, ints) }

upper_nat : (k m : ℕ) → k ≤ 1048575 → m ≡ k → IsImmediate 32 4096 (signed 32 (m * 2 ^ 12))
upper_nat k m most same = subst (λ m. IsImmediate 32 4096 (signed 32 (m * 2 ^ 12))) (sym same) (upper_by k (nat_lt (k * 2 ^ 12) (2 ^ 31)) most refl)

upper_bits : (n : ℤ) → IsBetween (pos 0) (pos 1048575) n → IsImmediate 32 4096 (signed 32 (to_word n * 2 ^ 12))
upper_bits (pos k) h = let high = h.to_greatest in let most : k ≤ 1048575 = omega (arith, ints) in upper_nat k (k % 2 ^ 32) most (omega arith)
upper_bits (negsuc k) h = let low = h.from_least in absurd (omega (arith, ints))

upper_ok : (bytes : List ℕ) → AllOk (IsImmediate 32 4096) (upper bytes)
unfolding upper
upper_ok bytes = all_bind (IsBetween (pos 0) (pos 1048575)) (IsImmediate 32 4096) (number (pos 0) (pos 1048575) bytes) (λ n. Ok (signed 32 (to_word n * 2 ^ 12))) (number_ok (pos 0) (pos 1048575) bytes) upper_bits

-- ---- what a form means

-- instructions and words give text a multiple of 4 bytes, and 4 at least
pub record Means (form : Form) (statement : Statement) : Type 0 where
  pub encodable : IsEncodable statement
  pub whole : stands_in section.Text form ≡ true → size_of statement % 4 ≡ 0
  pub some : stands_in section.Text form ≡ true → gives_bytes form ≡ true → 4 ≤ size_of statement

in_four : (form : Form) (statement : Statement) → IsEncodable statement → size_of statement ≡ 4 → Means form statement
in_four form statement encodable four = record { encodable = encodable; whole = λ _. rw four refl; some = λ _ _. omega (arith, four) }

in_eight : (form : Form) (statement : Statement) → IsEncodable statement → size_of statement ≡ 8 → Means form statement
in_eight form statement encodable eight = record { encodable = encodable; whole = λ _. rw eight refl; some = λ _ _. omega (arith, eight) }

in_data : (form : Form) (statement : Statement) → IsEncodable statement → stands_in section.Text form ≡ false → Means form statement
in_data form statement encodable elsewhere = record {
  encodable = encodable;
  whole = λ here. absurd (false≢true (sym elsewhere ∙ here));
  some = λ here _. absurd (false≢true (sym elsewhere ∙ here));
}

op_ok : (op : RegOp) (operands : List (List ℕ)) → AllOk (Means (form.Op op)) (op_statement op operands)
unfolding op_statement
op_ok op operands =
    all_bind Any (Means (form.Op op)) (three operands) _ (any (three operands)) (λ parts _.
    all_bind IsRegister (Means (form.Op op)) (register parts.0) _ (register_ok parts.0) (λ rd rd_in.
    all_bind IsRegister (Means (form.Op op)) (register parts.1) _ (register_ok parts.1) (λ rs1 rs1_in.
    all_bind IsRegister (Means (form.Op op)) (register parts.2) _ (register_ok parts.2) (λ rs2 rs2_in.
    in_four (form.Op op) (statement.Instruction (instr.Op op rd rs1 rs2)) (rd_in, rs1_in, rs2_in) refl))))

abbrev IsAddress : List ℕ × ℕ → Type 0
IsAddress at = IsRegister at.1

address_ok : (bytes : List ℕ) → AllOk IsAddress (address bytes)
unfolding address
address_ok bytes =
    all_bind Any IsAddress (operand (cut 40 bytes)) _ (any (operand (cut 40 bytes))) (λ parts _.
    all_bind Any IsAddress (operand (ended 41 parts.1)) _ (any (operand (ended 41 parts.1))) (λ name _.
    all_bind IsRegister IsAddress (register name) _ (register_ok name) (λ base base_in. base_in)))

no_offset : IsImmediate 12 1 (pos 0)
no_offset = record { least = omega (arith, ints); below = omega (arith, ints); whole = refl }

op_imm_ok : (op : ImmOp) (operands : List (List ℕ)) → AllOk (Means (form.OpImm op)) (op_imm_statement op operands)
unfolding op_imm_statement
op_imm_ok op operands =
    all_bind Any (Means (form.OpImm op)) (three operands) _ (any (three operands)) (λ part _.
    all_bind IsRegister (Means (form.OpImm op)) (register part.0) _ (register_ok part.0) (λ rd rd_in.
    all_bind IsRegister (Means (form.OpImm op)) (register part.1) _ (register_ok part.1) (λ rs1 rs1_in.
    all_bind (IsOperand op) (Means (form.OpImm op)) (immediate op part.2) _ (immediate_ok op part.2) (λ n n_in.
    in_four (form.OpImm op) (statement.Instruction (instr.OpImm op rd rs1 n)) (rd_in, rs1_in, n_in) refl))))

load_ok : (op : LoadOp) (operands : List (List ℕ)) → AllOk (Means (form.Load op)) (load_statement op operands)
unfolding load_statement
load_ok op operands =
    all_bind Any (Means (form.Load op)) (two operands) _ (any (two operands)) (λ part _.
    all_bind IsRegister (Means (form.Load op)) (register part.0) _ (register_ok part.0) (λ rd rd_in.
    all_bind IsAddress (Means (form.Load op)) (address part.1) _ (address_ok part.1) (λ at at_in.
    all_bind (IsImmediate 12 1) (Means (form.Load op)) (offset at.0) _ (offset_ok at.0) (λ n n_in.
    in_four (form.Load op) (statement.Instruction (instr.Load op rd at.1 n)) (rd_in, at_in, n_in) refl))))

jalr_ok : (operands : List (List ℕ)) → AllOk (Means form.Jalr) (jalr_statement operands)
unfolding jalr_statement
jalr_ok operands =
    all_bind Any (Means form.Jalr) (two operands) _ (any (two operands)) (λ part _.
    all_bind IsRegister (Means form.Jalr) (register part.0) _ (register_ok part.0) (λ rd rd_in.
    all_bind IsAddress (Means form.Jalr) (address part.1) _ (address_ok part.1) (λ at at_in.
    all_bind (IsImmediate 12 1) (Means form.Jalr) (offset at.0) _ (offset_ok at.0) (λ n n_in.
    in_four form.Jalr (statement.Instruction (instr.Jalr rd at.1 n)) (rd_in, at_in, n_in) refl))))

store_ok : (op : StoreOp) (operands : List (List ℕ)) → AllOk (Means (form.Store op)) (store_statement op operands)
unfolding store_statement
store_ok op operands =
    all_bind Any (Means (form.Store op)) (two operands) _ (any (two operands)) (λ part _.
    all_bind IsRegister (Means (form.Store op)) (register part.0) _ (register_ok part.0) (λ rs2 rs2_in.
    all_bind IsAddress (Means (form.Store op)) (address part.1) _ (address_ok part.1) (λ at at_in.
    all_bind (IsImmediate 12 1) (Means (form.Store op)) (offset at.0) _ (offset_ok at.0) (λ n n_in.
    in_four (form.Store op) (statement.Instruction (instr.Store op at.1 rs2 n)) (at_in, rs2_in, n_in) refl))))

branch_ok : (op : BranchOp) (operands : List (List ℕ)) → AllOk (Means (form.Branch op)) (branch_statement op operands)
unfolding branch_statement
branch_ok op operands =
    all_bind Any (Means (form.Branch op)) (three operands) _ (any (three operands)) (λ part _.
    all_bind IsRegister (Means (form.Branch op)) (register part.0) _ (register_ok part.0) (λ rs1 rs1_in.
    all_bind IsRegister (Means (form.Branch op)) (register part.1) _ (register_ok part.1) (λ rs2 rs2_in.
    all_bind Any (Means (form.Branch op)) (label part.2) _ (any (label part.2)) (λ name name_in.
    in_four (form.Branch op) (statement.Branch op rs1 rs2 name) (rs1_in, rs2_in) refl))))

branch_zero_ok : (op : BranchOp) (operands : List (List ℕ)) → AllOk (Means (form.BranchZero op)) (branch_zero_statement op operands)
unfolding branch_zero_statement
branch_zero_ok op operands =
    all_bind Any (Means (form.BranchZero op)) (two operands) _ (any (two operands)) (λ part _.
    all_bind IsRegister (Means (form.BranchZero op)) (register part.0) _ (register_ok part.0) (λ rs rs_in.
    all_bind Any (Means (form.BranchZero op)) (label part.1) _ (any (label part.1)) (λ name name_in.
    in_four (form.BranchZero op) (statement.Branch op rs 0 name) (rs_in, lit< tt) refl)))

jal_ok : (operands : List (List ℕ)) → AllOk (Means form.Jal) (jal_statement operands)
unfolding jal_statement
jal_ok operands =
    all_bind Any (Means form.Jal) (two operands) _ (any (two operands)) (λ part _.
    all_bind IsRegister (Means form.Jal) (register part.0) _ (register_ok part.0) (λ rd rd_in.
    all_bind Any (Means form.Jal) (label part.1) _ (any (label part.1)) (λ name name_in.
    in_four form.Jal (statement.Jump rd name) rd_in refl)))

la_ok : (operands : List (List ℕ)) → AllOk (Means form.La) (la_statement operands)
unfolding la_statement
la_ok operands =
    all_bind Any (Means form.La) (two operands) _ (any (two operands)) (λ part _.
    all_bind IsRegister (Means form.La) (register part.0) _ (register_ok part.0) (λ rd rd_in.
    all_bind Any (Means form.La) (label part.1) _ (any (label part.1)) (λ name name_in.
    in_eight form.La (statement.LoadAddress rd name) rd_in refl)))

jump_ok : (rd : ℕ) (operands : List (List ℕ)) → IsForm (form.Jump rd) → AllOk (Means (form.Jump rd)) (jump_statement rd operands)
unfolding jump_statement
jump_ok rd operands known =
    all_bind Any (Means (form.Jump rd)) (one operands) _ (any (one operands)) (λ part _.
    all_bind Any (Means (form.Jump rd)) (label part) _ (any (label part)) (λ name name_in.
    in_four (form.Jump rd) (statement.Jump rd name) (jump_register rd known) refl))

lui_ok : (operands : List (List ℕ)) → AllOk (Means form.Lui) (lui_statement operands)
unfolding lui_statement
lui_ok operands =
    all_bind Any (Means form.Lui) (two operands) _ (any (two operands)) (λ part _.
    all_bind IsRegister (Means form.Lui) (register part.0) _ (register_ok part.0) (λ rd rd_in.
    all_bind (IsImmediate 32 4096) (Means form.Lui) (upper part.1) _ (upper_ok part.1) (λ n n_in.
    in_four form.Lui (statement.Instruction (instr.Lui rd n)) (rd_in, n_in) refl)))

auipc_ok : (operands : List (List ℕ)) → AllOk (Means form.Auipc) (auipc_statement operands)
unfolding auipc_statement
auipc_ok operands =
    all_bind Any (Means form.Auipc) (two operands) _ (any (two operands)) (λ part _.
    all_bind IsRegister (Means form.Auipc) (register part.0) _ (register_ok part.0) (λ rd rd_in.
    all_bind (IsImmediate 32 4096) (Means form.Auipc) (upper part.1) _ (upper_ok part.1) (λ n n_in.
    in_four form.Auipc (statement.Instruction (instr.Auipc rd n)) (rd_in, n_in) refl)))

li_ok : (operands : List (List ℕ)) → AllOk (Means form.Li) (li_statement operands)
unfolding li_statement
li_ok operands =
    all_bind Any (Means form.Li) (two operands) _ (any (two operands)) (λ part _.
    all_bind IsRegister (Means form.Li) (register part.0) _ (register_ok part.0) (λ rd rd_in.
    all_bind IsWordNumber (Means form.Li) (any_word part.1) _ (any_word_ok part.1) (λ n n_in.
    in_eight form.Li (statement.LoadNumber rd n) (rd_in, n_in) refl)))

mv_ok : (operands : List (List ℕ)) → AllOk (Means form.Mv) (mv_statement operands)
unfolding mv_statement
mv_ok operands =
    all_bind Any (Means form.Mv) (two operands) _ (any (two operands)) (λ part _.
    all_bind IsRegister (Means form.Mv) (register part.0) _ (register_ok part.0) (λ rd rd_in.
    all_bind IsRegister (Means form.Mv) (register part.1) _ (register_ok part.1) (λ rs rs_in.
    in_four form.Mv (statement.Instruction (instr.OpImm imm.Addi rd rs (pos 0))) (rd_in, rs_in, no_offset) refl)))

byte_ok : (operands : List (List ℕ)) → AllOk (Means form.Byte) (byte_statement operands)
unfolding byte_statement
byte_ok operands =
    all_bind Any (Means form.Byte) (one operands) _ (any (one operands)) (λ part _.
    all_bind Any (Means form.Byte) (any_byte part) _ (any (any_byte part)) (λ n n_in.
    in_data form.Byte (statement.Byte n) tt refl))

space_ok : (operands : List (List ℕ)) → AllOk (Means form.Space) (space_statement operands)
unfolding space_statement
space_ok operands =
    all_bind Any (Means form.Space) (one operands) _ (any (one operands)) (λ part _.
    all_bind Any (Means form.Space) (number (pos 0) (pos 65536) part) _ (any (number (pos 0) (pos 65536) part)) (λ n n_in.
    in_data form.Space (statement.Space (to_word n)) tt refl))

ascii_ok : (bytes : List ℕ) → AllOk (Means form.Ascii) (ascii_statement bytes)
unfolding ascii_statement
ascii_ok bytes = all_bind Any (Means form.Ascii) (quoted bytes) _ (any (quoted bytes)) (λ text _. in_data form.Ascii (statement.Ascii text) tt refl)

word_by : (part : List ℕ) (found : Option ℤ) → AllOk (Means form.Word) (word_or_address part found)
word_by part None = all_bind Any (Means form.Word) (label part) _ (any (label part)) (λ name _. in_four form.Word (statement.Address name) tt refl)
word_by part (Some n) = all_bind Any (Means form.Word) (any_word part) _ (any (any_word part)) (λ value _. in_four form.Word (statement.Word value) tt refl)

word_ok : (operands : List (List ℕ)) → AllOk (Means form.Word) (word_statement operands)
unfolding word_statement
word_ok operands = all_bind Any (Means form.Word) (one operands) _ (any (one operands)) (λ part _. word_by part (number_of part))

lone_ok : (form : Form) (lone : Statement) (operands : List (List ℕ)) → Means form lone → AllOk (Means form) (lone_statement lone operands)
unfolding lone_statement
lone_ok form lone [] means = means
lone_ok form lone (operand ∷ operands) means = tt

lone_instr : (form : Form) (instr : Instr) (operands : List (List ℕ)) → IsInRange instr → AllOk (Means form) (lone_statement (statement.Instruction instr) operands)
lone_instr form instr operands in_range = lone_ok form (statement.Instruction instr) operands (in_four form (statement.Instruction instr) in_range refl)

fence_fields : (opcode 0x0ff0000f ≡ 0b0001111) × (funct3 0x0ff0000f ≡ 0b000) × (0x0ff0000f < 2 ^ 32)
unfolding opcode funct3
fence_fields = (refl, refl, lit< tt)

-- each statement that a known form gives
pub means : (found : Form) (bytes : List ℕ) → IsForm found → AllOk (Means found) (statement_of found bytes)
means (form.Op op) bytes known = op_ok op (operands_of bytes)
means (form.OpImm op) bytes known = op_imm_ok op (operands_of bytes)
means (form.Load op) bytes known = load_ok op (operands_of bytes)
means (form.Store op) bytes known = store_ok op (operands_of bytes)
means (form.Branch op) bytes known = branch_ok op (operands_of bytes)
means (form.BranchZero op) bytes known = branch_zero_ok op (operands_of bytes)
means form.Jalr bytes known = jalr_ok (operands_of bytes)
means form.Jal bytes known = jal_ok (operands_of bytes)
means (form.Jump rd) bytes known = jump_ok rd (operands_of bytes) known
means form.Lui bytes known = lui_ok (operands_of bytes)
means form.Auipc bytes known = auipc_ok (operands_of bytes)
means form.Mv bytes known = mv_ok (operands_of bytes)
means form.Li bytes known = li_ok (operands_of bytes)
means form.La bytes known = la_ok (operands_of bytes)
means form.Ecall bytes known = lone_instr form.Ecall instr.Ecall (operands_of bytes) tt
means form.Ebreak bytes known = lone_instr form.Ebreak instr.Ebreak (operands_of bytes) tt
means form.Fence bytes known = lone_instr form.Fence full_fence (operands_of bytes) fence_fields
means form.Nop bytes known = lone_instr form.Nop nop (operands_of bytes) (lit< tt, lit< tt, no_offset)
means form.Ret bytes known = lone_instr form.Ret ret (operands_of bytes) (lit< tt, lit< tt, no_offset)
means (form.Into section) bytes known =
    lone_ok (form.Into section) (statement.Into section) (operands_of bytes) (record { encodable = tt; whole = λ _. refl; some = λ _ gives. absurd (false≢true gives) })
means form.Word bytes known = word_ok (operands_of bytes)
means form.Byte bytes known = byte_ok (operands_of bytes)
means form.Space bytes known = space_ok (operands_of bytes)
means form.Ascii bytes known = ascii_ok bytes
