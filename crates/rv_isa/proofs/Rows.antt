-- The table, as a function, against the listing, as a relation: each gives the other.
use Rattle.std.proofs.Common.{◌≡◌, ℕ, ℤ, pos, Option, Some, None, true, false, ◌||◌, inl, inr, refl, sym, ◌∙◌, subst, arith}
use Rattle.std.specs.Prelude.{option_map, ◌==◌, if◌then◌else◌}
use Rattle.std.proofs.lemmas.Bool.{eqb-true, cases_Bool}
use Rattle.std.proofs.lemmas.Bool.Decides.{nat_tests}
use Rattle.std.proofs.lemmas.Option.{same_Some, none-some}
use Rattle.rv_isa.specs.Terms.{BranchOp, Beq, Bge, Bgeu, Blt, Bltu, Bne, ImmOp, Addi, Andi, Ori, Slli, Slti, Sltiu, Srai, Srli, Xori, Instr, Auipc, Branch, Ebreak, Ecall, Fence, Jal, Jalr, Load, Lui, Op, OpImm, Store, LoadOp, Lb, Lbu, Lh, Lhu, Lw, RegOp, Add, And, Div, Divu, Mul, Mulh, Mulhsu, Mulhu, Or, Rem, Remu, Sll, Slt, Sltu, Sra, Srl, Sub, Xor, StoreOp, Sb, Sh, Sw}
use Rattle.rv_isa.specs.Words.{opcode, rd, funct3, rs1, rs2, funct7, imm_i}
use Rattle.rv_isa.specs.Table.{row, jalr_row, branch_op, branch_row, load_op, load_row, store_op, store_row, imm_op, shift_op, shift_row, imm_row, base_op, second_op, multiply_op, reg_op, op_row, fence_row, system_row}
use Rattle.rv_isa.specs.Listing.{IsFormatR, IsFormatI, IsFormatShift, branch_code, load_code, store_code, IsImmRow, IsRegRow, IsRow}

-- ---- lines of a table

-- a line of a table: its test holds and it answers, or a later line answers
line : {A P : Type 0} (n m : ℕ) (o rest : Option A) (v : A) → (n ≡ m → o ≡ Some v → P) → (rest ≡ Some v → P) → (if n == m then o else rest) ≡ Some v → P
line n m o rest v f g h = elim (cases_Bool (n == m)) [ inl e ↦ f (eqb-true n m e) (rw e at h) | inr e ↦ g (rw e at h) ]

-- the same, where the line answers one value
hit : {A : Type 0} (P : A → Type 0) (n m : ℕ) (o : A) (rest : Option A) (v : A) → (n ≡ m → P o) → (rest ≡ Some v → P v) → (if n == m then Some o else rest) ≡ Some v → P v
hit P n m o rest v f g h = line n m (Some o) rest v (λ e s. subst P (same_Some o v s) (f e)) g h

-- past the last line
miss : {A : Type 0} {P : Type 0} (v : A) → None ≡ Some v → P
miss v h = absurd (none-some v h)

-- what a mapped answer came from
mapped : {A B : Type 0} (P : B → Type 0) (f : A → B) (o : Option A) (v : B) → ((x : A) → o ≡ Some x → P (f x)) → option_map f o ≡ Some v → P v
mapped P f None v g h = absurd (none-some v h)
mapped P f (Some x) v g h = subst P (same_Some (f x) v h) (g x refl)

-- ---- from the table to the listing

branch_op-to : (three : ℕ) (op : BranchOp) → branch_op three ≡ Some op → three ≡ branch_code op
unfolding branch_op
branch_op-to three op h = grind (arith, nat_tests)

branch_op-from : (op : BranchOp) → branch_op (branch_code op) ≡ Some op
unfolding branch_op
branch_op-from Beq = refl
branch_op-from Bne = refl
branch_op-from Blt = refl
branch_op-from Bge = refl
branch_op-from Bltu = refl
branch_op-from Bgeu = refl

load_op-to : (three : ℕ) (op : LoadOp) → load_op three ≡ Some op → three ≡ load_code op
unfolding load_op
load_op-to three op h = grind (arith, nat_tests)

load_op-from : (op : LoadOp) → load_op (load_code op) ≡ Some op
unfolding load_op
load_op-from Lb = refl
load_op-from Lh = refl
load_op-from Lw = refl
load_op-from Lbu = refl
load_op-from Lhu = refl

store_op-to : (three : ℕ) (op : StoreOp) → store_op three ≡ Some op → three ≡ store_code op
unfolding store_op
store_op-to three op h = grind (arith, nat_tests)

store_op-from : (op : StoreOp) → store_op (store_code op) ≡ Some op
unfolding store_op
store_op-from Sb = refl
store_op-from Sh = refl
store_op-from Sw = refl

format_i : (word code three : ℕ) → opcode word ≡ code → funct3 word ≡ three → IsFormatI word code three (rd word) (rs1 word) (imm_i word)
format_i word code three c e = record { code_is = c; funct3_is = e; rd_is = refl; rs1_is = refl; imm_is = refl }

format_shift : (word code three seven : ℕ) → opcode word ≡ code → funct7 word ≡ seven → funct3 word ≡ three → IsFormatShift word code three seven (rd word) (rs1 word) (pos (rs2 word))
format_shift word code three seven c s e = record { code_is = c; funct3_is = e; funct7_is = s; rd_is = refl; rs1_is = refl; amount_is = refl }

format_r : (word code three seven : ℕ) → opcode word ≡ code → funct7 word ≡ seven → funct3 word ≡ three → IsFormatR word code three seven (rd word) (rs1 word) (rs2 word)
format_r word code three seven c s e = record { code_is = c; funct3_is = e; funct7_is = s; rd_is = refl; rs1_is = refl; rs2_is = refl }

imm_op-to : (word : ℕ) (op : ImmOp) → opcode word ≡ 0b0010011 → imm_op (funct3 word) ≡ Some op → IsImmRow word op (rd word) (rs1 word) (imm_i word)
unfolding imm_op
imm_op-to word op c =
    let P : ImmOp → Type 0 = λ o. IsImmRow word o (rd word) (rs1 word) (imm_i word) in
    let leaf = λ (three : ℕ) (e : funct3 word ≡ three). format_i word 0b0010011 three c e in
    hit P (funct3 word) 0b000 Addi _ op (leaf 0b000) (
    hit P (funct3 word) 0b010 Slti _ op (leaf 0b010) (
    hit P (funct3 word) 0b011 Sltiu _ op (leaf 0b011) (
    hit P (funct3 word) 0b100 Xori _ op (leaf 0b100) (
    hit P (funct3 word) 0b110 Ori _ op (leaf 0b110) (
    hit P (funct3 word) 0b111 Andi _ op (leaf 0b111) (miss op))))))

shift_op-to : (word : ℕ) (op : ImmOp) → opcode word ≡ 0b0010011 → shift_op (funct7 word) (funct3 word) ≡ Some op → IsImmRow word op (rd word) (rs1 word) (pos (rs2 word))
unfolding shift_op
shift_op-to word op c =
    let P : ImmOp → Type 0 = λ o. IsImmRow word o (rd word) (rs1 word) (pos (rs2 word)) in
    let leaf = λ (seven : ℕ) (s : funct7 word ≡ seven) (three : ℕ) (e : funct3 word ≡ three). format_shift word 0b0010011 three seven c s e in
    line (funct7 word) 0b0000000 _ _ op (λ s. hit P (funct3 word) 0b001 Slli _ op (leaf 0b0000000 s 0b001) (hit P (funct3 word) 0b101 Srli _ op (leaf 0b0000000 s 0b101) (miss op)))
    (line (funct7 word) 0b0100000 _ _ op (λ s. hit P (funct3 word) 0b101 Srai _ op (leaf 0b0100000 s 0b101) (miss op)) (miss op))

base_op-to : (word : ℕ) (op : RegOp) → opcode word ≡ 0b0110011 → funct7 word ≡ 0b0000000 → base_op (funct3 word) ≡ Some op → IsRegRow word op (rd word) (rs1 word) (rs2 word)
unfolding base_op
base_op-to word op c s =
    let P : RegOp → Type 0 = λ o. IsRegRow word o (rd word) (rs1 word) (rs2 word) in
    let leaf = λ (three : ℕ) (e : funct3 word ≡ three). format_r word 0b0110011 three 0b0000000 c s e in
    hit P (funct3 word) 0b000 Add _ op (leaf 0b000) (
    hit P (funct3 word) 0b001 Sll _ op (leaf 0b001) (
    hit P (funct3 word) 0b010 Slt _ op (leaf 0b010) (
    hit P (funct3 word) 0b011 Sltu _ op (leaf 0b011) (
    hit P (funct3 word) 0b100 Xor _ op (leaf 0b100) (
    hit P (funct3 word) 0b101 Srl _ op (leaf 0b101) (
    hit P (funct3 word) 0b110 Or _ op (leaf 0b110) (
    hit P (funct3 word) 0b111 And _ op (leaf 0b111) (miss op))))))))

second_op-to : (word : ℕ) (op : RegOp) → opcode word ≡ 0b0110011 → funct7 word ≡ 0b0100000 → second_op (funct3 word) ≡ Some op → IsRegRow word op (rd word) (rs1 word) (rs2 word)
unfolding second_op
second_op-to word op c s =
    let P : RegOp → Type 0 = λ o. IsRegRow word o (rd word) (rs1 word) (rs2 word) in
    let leaf = λ (three : ℕ) (e : funct3 word ≡ three). format_r word 0b0110011 three 0b0100000 c s e in
    hit P (funct3 word) 0b000 Sub _ op (leaf 0b000) (
    hit P (funct3 word) 0b101 Sra _ op (leaf 0b101) (miss op))

multiply_op-to : (word : ℕ) (op : RegOp) → opcode word ≡ 0b0110011 → funct7 word ≡ 0b0000001 → multiply_op (funct3 word) ≡ Some op → IsRegRow word op (rd word) (rs1 word) (rs2 word)
unfolding multiply_op
multiply_op-to word op c s =
    let P : RegOp → Type 0 = λ o. IsRegRow word o (rd word) (rs1 word) (rs2 word) in
    let leaf = λ (three : ℕ) (e : funct3 word ≡ three). format_r word 0b0110011 three 0b0000001 c s e in
    hit P (funct3 word) 0b000 Mul _ op (leaf 0b000) (
    hit P (funct3 word) 0b001 Mulh _ op (leaf 0b001) (
    hit P (funct3 word) 0b010 Mulhsu _ op (leaf 0b010) (
    hit P (funct3 word) 0b011 Mulhu _ op (leaf 0b011) (
    hit P (funct3 word) 0b100 Div _ op (leaf 0b100) (
    hit P (funct3 word) 0b101 Divu _ op (leaf 0b101) (
    hit P (funct3 word) 0b110 Rem _ op (leaf 0b110) (
    hit P (funct3 word) 0b111 Remu _ op (leaf 0b111) (miss op))))))))

reg_op-to : (word : ℕ) (op : RegOp) → opcode word ≡ 0b0110011 → reg_op (funct7 word) (funct3 word) ≡ Some op → IsRegRow word op (rd word) (rs1 word) (rs2 word)
unfolding reg_op
reg_op-to word op c =
    line (funct7 word) 0b0000000 _ _ op (base_op-to word op c)
    (line (funct7 word) 0b0100000 _ _ op (second_op-to word op c)
    (line (funct7 word) 0b0000001 _ _ op (multiply_op-to word op c) (miss op)))

jalr_row-to : (word : ℕ) (i : Instr) → opcode word ≡ 0b1100111 → jalr_row word ≡ Some i → IsRow word i
unfolding jalr_row
jalr_row-to word i c = hit (IsRow word) (funct3 word) 0b000 _ _ i (format_i word 0b1100111 0b000 c) (miss i)

branch_row-to : (word : ℕ) (i : Instr) → opcode word ≡ 0b1100011 → branch_row word ≡ Some i → IsRow word i
unfolding branch_row
branch_row-to word i c = mapped (IsRow word) _ _ i (λ op e. record { code_is = c; funct3_is = branch_op-to _ op e; rs1_is = refl; rs2_is = refl; imm_is = refl })

load_row-to : (word : ℕ) (i : Instr) → opcode word ≡ 0b0000011 → load_row word ≡ Some i → IsRow word i
unfolding load_row
load_row-to word i c = mapped (IsRow word) _ _ i (λ op e. format_i word 0b0000011 _ c (load_op-to _ op e))

store_row-to : (word : ℕ) (i : Instr) → opcode word ≡ 0b0100011 → store_row word ≡ Some i → IsRow word i
unfolding store_row
store_row-to word i c = mapped (IsRow word) _ _ i (λ op e. record { code_is = c; funct3_is = store_op-to _ op e; rs1_is = refl; rs2_is = refl; imm_is = refl })

shift_row-to : (word : ℕ) (i : Instr) → opcode word ≡ 0b0010011 → shift_row word ≡ Some i → IsRow word i
unfolding shift_row
shift_row-to word i c = mapped (IsRow word) _ _ i (λ op. shift_op-to word op c)

imm_row-to : (word : ℕ) (i : Instr) → opcode word ≡ 0b0010011 → imm_row word ≡ Some i → IsRow word i
unfolding imm_row
imm_row-to word i c h =
    elim (cases_Bool (funct3 word == 0b001 || funct3 word == 0b101)) [
      | inl e ↦ shift_row-to word i c (rw e at h)
      | inr e ↦ mapped (IsRow word) _ _ i (λ op. imm_op-to word op c) (rw e at h)
    ]

op_row-to : (word : ℕ) (i : Instr) → opcode word ≡ 0b0110011 → op_row word ≡ Some i → IsRow word i
unfolding op_row
op_row-to word i c = mapped (IsRow word) _ _ i (λ op. reg_op-to word op c)

fence_row-to : (word : ℕ) (i : Instr) → opcode word ≡ 0b0001111 → fence_row word ≡ Some i → IsRow word i
unfolding fence_row
fence_row-to word i c = hit (IsRow word) (funct3 word) 0b000 _ _ i (λ e. (c, e, refl)) (miss i)

system_row-to : (word : ℕ) (i : Instr) → system_row word ≡ Some i → IsRow word i
unfolding system_row
system_row-to word i = hit (IsRow word) word 0x00000073 Ecall _ i (λ e. e) (hit (IsRow word) word 0x00100073 Ebreak _ i (λ e. e) (miss i))

pub row_to : (word : ℕ) (i : Instr) → row word ≡ Some i → IsRow word i
unfolding row
row_to word i =
    let code = opcode word in
    hit (IsRow word) code 0b0110111 _ _ i (λ c. record { code_is = c; rd_is = refl; imm_is = refl })
    (hit (IsRow word) code 0b0010111 _ _ i (λ c. record { code_is = c; rd_is = refl; imm_is = refl })
    (hit (IsRow word) code 0b1101111 _ _ i (λ c. record { code_is = c; rd_is = refl; imm_is = refl })
    (line code 0b1100111 _ _ i (jalr_row-to word i)
    (line code 0b1100011 _ _ i (branch_row-to word i)
    (line code 0b0000011 _ _ i (load_row-to word i)
    (line code 0b0100011 _ _ i (store_row-to word i)
    (line code 0b0010011 _ _ i (imm_row-to word i)
    (line code 0b0110011 _ _ i (op_row-to word i)
    (line code 0b0001111 _ _ i (fence_row-to word i)
    (line code 0b1110011 _ _ i (λ c. system_row-to word i) (miss i)))))))))))

-- ---- from the listing to the table

-- an opcode leads to its group
op_row-at : (word : ℕ) → opcode word ≡ 0b0110011 → row word ≡ op_row word
unfolding row
op_row-at word c = rw c

imm_row-at : (word : ℕ) → opcode word ≡ 0b0010011 → row word ≡ imm_row word
unfolding row
imm_row-at word c = rw c

reg-from : (word : ℕ) (op : RegOp) (three seven d s1 s2 : ℕ) → reg_op seven three ≡ Some op → IsFormatR word 0b0110011 three seven d s1 s2 → row word ≡ Some (Op op d s1 s2)
unfolding op_row
reg-from word op three seven d s1 s2 e h =
    op_row-at word h.code_is ∙ rw (h.funct7_is, h.funct3_is, h.rd_is, h.rs1_is, h.rs2_is, e)

imm-from : (word : ℕ) (op : ImmOp) (three d s1 : ℕ) (imm : ℤ) → (three == 0b001 || three == 0b101) ≡ false → imm_op three ≡ Some op → IsFormatI word 0b0010011 three d s1 imm → row word ≡ Some (OpImm op d s1 imm)
unfolding imm_row
imm-from word op three d s1 imm shifts e h =
    imm_row-at word h.code_is ∙ rw (h.funct3_is, shifts, h.rd_is, h.rs1_is, h.imm_is, e)

shift-from : (word : ℕ) (op : ImmOp) (three seven d s1 : ℕ) (imm : ℤ) → (three == 0b001 || three == 0b101) ≡ true → shift_op seven three ≡ Some op → IsFormatShift word 0b0010011 three seven d s1 imm → row word ≡ Some (OpImm op d s1 imm)
unfolding imm_row shift_row
shift-from word op three seven d s1 imm shifts e h =
    imm_row-at word h.code_is ∙ rw (h.funct3_is, shifts, h.funct7_is, h.rd_is, h.rs1_is, h.amount_is, e)

reg_row-from : (word : ℕ) (op : RegOp) (d s1 s2 : ℕ) → IsRegRow word op d s1 s2 → row word ≡ Some (Op op d s1 s2)
unfolding reg_op base_op second_op multiply_op
reg_row-from word Add d s1 s2 h = reg-from word Add 0b000 0b0000000 d s1 s2 refl h
reg_row-from word Sub d s1 s2 h = reg-from word Sub 0b000 0b0100000 d s1 s2 refl h
reg_row-from word Sll d s1 s2 h = reg-from word Sll 0b001 0b0000000 d s1 s2 refl h
reg_row-from word Slt d s1 s2 h = reg-from word Slt 0b010 0b0000000 d s1 s2 refl h
reg_row-from word Sltu d s1 s2 h = reg-from word Sltu 0b011 0b0000000 d s1 s2 refl h
reg_row-from word Xor d s1 s2 h = reg-from word Xor 0b100 0b0000000 d s1 s2 refl h
reg_row-from word Srl d s1 s2 h = reg-from word Srl 0b101 0b0000000 d s1 s2 refl h
reg_row-from word Sra d s1 s2 h = reg-from word Sra 0b101 0b0100000 d s1 s2 refl h
reg_row-from word Or d s1 s2 h = reg-from word Or 0b110 0b0000000 d s1 s2 refl h
reg_row-from word And d s1 s2 h = reg-from word And 0b111 0b0000000 d s1 s2 refl h
reg_row-from word Mul d s1 s2 h = reg-from word Mul 0b000 0b0000001 d s1 s2 refl h
reg_row-from word Mulh d s1 s2 h = reg-from word Mulh 0b001 0b0000001 d s1 s2 refl h
reg_row-from word Mulhsu d s1 s2 h = reg-from word Mulhsu 0b010 0b0000001 d s1 s2 refl h
reg_row-from word Mulhu d s1 s2 h = reg-from word Mulhu 0b011 0b0000001 d s1 s2 refl h
reg_row-from word Div d s1 s2 h = reg-from word Div 0b100 0b0000001 d s1 s2 refl h
reg_row-from word Divu d s1 s2 h = reg-from word Divu 0b101 0b0000001 d s1 s2 refl h
reg_row-from word Rem d s1 s2 h = reg-from word Rem 0b110 0b0000001 d s1 s2 refl h
reg_row-from word Remu d s1 s2 h = reg-from word Remu 0b111 0b0000001 d s1 s2 refl h

imm_row-from : (word : ℕ) (op : ImmOp) (d s1 : ℕ) (imm : ℤ) → IsImmRow word op d s1 imm → row word ≡ Some (OpImm op d s1 imm)
unfolding imm_op shift_op
imm_row-from word Addi d s1 imm h = imm-from word Addi 0b000 d s1 imm refl refl h
imm_row-from word Slti d s1 imm h = imm-from word Slti 0b010 d s1 imm refl refl h
imm_row-from word Sltiu d s1 imm h = imm-from word Sltiu 0b011 d s1 imm refl refl h
imm_row-from word Xori d s1 imm h = imm-from word Xori 0b100 d s1 imm refl refl h
imm_row-from word Ori d s1 imm h = imm-from word Ori 0b110 d s1 imm refl refl h
imm_row-from word Andi d s1 imm h = imm-from word Andi 0b111 d s1 imm refl refl h
imm_row-from word Slli d s1 imm h = shift-from word Slli 0b001 0b0000000 d s1 imm refl refl h
imm_row-from word Srli d s1 imm h = shift-from word Srli 0b101 0b0000000 d s1 imm refl refl h
imm_row-from word Srai d s1 imm h = shift-from word Srai 0b101 0b0100000 d s1 imm refl refl h

pub row_from : (word : ℕ) (i : Instr) → IsRow word i → row word ≡ Some i
unfolding row opcode jalr_row branch_row load_row store_row fence_row system_row
row_from word (Lui d imm) h = rw (h.code_is, h.rd_is, h.imm_is)
row_from word (Auipc d imm) h = rw (h.code_is, h.rd_is, h.imm_is)
row_from word (Jal d imm) h = rw (h.code_is, h.rd_is, h.imm_is)
row_from word (Jalr d s1 imm) h = rw (h.code_is, h.funct3_is, h.rd_is, h.rs1_is, h.imm_is)
row_from word (Branch op s1 s2 imm) h = rw (h.code_is, h.funct3_is, h.rs1_is, h.rs2_is, h.imm_is, branch_op-from op)
row_from word (Load op d s1 imm) h = rw (h.code_is, h.funct3_is, h.rd_is, h.rs1_is, h.imm_is, load_op-from op)
row_from word (Store op s1 s2 imm) h = rw (h.code_is, h.funct3_is, h.rs1_is, h.rs2_is, h.imm_is, store_op-from op)
row_from word (OpImm op d s1 imm) h = imm_row-from word op d s1 imm h
row_from word (Op op d s1 s2) h = reg_row-from word op d s1 s2 h
row_from word (Fence whole) h = rw (h.0, h.1, h.2)
row_from word Ecall h = rw h
row_from word Ebreak h = rw h

-- no word is two instructions
pub row_single : (word : ℕ) (i j : Instr) → IsRow word i → IsRow word j → i ≡ j
row_single word i j p q = same_Some i j (sym (row_from word i p) ∙ row_from word j q)
