-- An instruction has one word: two words below 2 ^ 32 that the listing gives one instruction are the same.
use Rattle.std.proofs.Common.{◌≡◌, ℕ, ◌+◌, ◌*◌, ◌^◌, ◌<◌, ℤ, pos, sym, ◌∙◌, arith}
use Rattle.std.proofs.lemmas.Int.{ints}
use Rattle.std.proofs.lemmas.Bool.Decides.{nat_tests}
use Rattle.rv_isa.specs.Terms.{ImmOp, Addi, Andi, Ori, Slli, Slti, Sltiu, Srai, Srli, Xori, Instr, Auipc, Branch, Ebreak, Ecall, Fence, Jal, Jalr, Load, Lui, Op, OpImm, Store, RegOp, Add, And, Div, Divu, Mul, Mulh, Mulhsu, Mulhu, Or, Rem, Remu, Sll, Slt, Sltu, Sra, Srl, Sub, Xor}
use Rattle.rv_isa.specs.Listing.{IsFormatR, IsFormatI, IsFormatShift, IsFormatS, IsFormatB, IsFormatU, IsFormatJ, IsImmRow, IsRegRow, IsRow}
use Rattle.rv_isa.specs.Words.{field, signed, opcode, rd, funct3, rs1, rs2, funct7, imm_i, imm_s, imm_b, imm_u, imm_j}

-- a word is the sum of its fields
pub whole : (w : ℕ) → w < 2 ^ 32 → w ≡ opcode w + 2 ^ 7 * rd w + 2 ^ 12 * funct3 w + 2 ^ 15 * rs1 w + 2 ^ 20 * rs2 w + 2 ^ 25 * funct7 w
unfolding opcode rd funct3 rs1 rs2 funct7
whole w h = omega arith

pub whole_upper : (w : ℕ) → w < 2 ^ 32 → w ≡ opcode w + 2 ^ 7 * rd w + 2 ^ 12 * field 31 12 w
unfolding opcode rd
whole_upper w h = omega arith

-- the bits of a signed reading
pub same_12 : (m n : ℕ) → m < 2 ^ 12 → n < 2 ^ 12 → signed 12 m ≡ signed 12 n → m ≡ n
same_12 m n p q e = grind (arith, ints, nat_tests)

pub same_13 : (m n : ℕ) → m < 2 ^ 13 → n < 2 ^ 13 → signed 13 m ≡ signed 13 n → m ≡ n
same_13 m n p q e = grind (arith, ints, nat_tests)

pub same_21 : (m n : ℕ) → m < 2 ^ 21 → n < 2 ^ 21 → signed 21 m ≡ signed 21 n → m ≡ n
same_21 m n p q e = grind (arith, ints, nat_tests)

pub same_32 : (m n : ℕ) → m < 2 ^ 32 → n < 2 ^ 32 → signed 32 m ≡ signed 32 n → m ≡ n
same_32 m n p q e = grind (arith, ints, nat_tests)

-- the fields that an immediate stands in
i_parts : (w : ℕ) → w < 2 ^ 32 → field 31 20 w ≡ rs2 w + 2 ^ 5 * funct7 w
unfolding rs2 funct7
i_parts w h = omega arith

fits_5 : (w : ℕ) → rs2 w < 2 ^ 5
unfolding rs2
fits_5 w = omega arith

pub i_same : (v w : ℕ) → v < 2 ^ 32 → w < 2 ^ 32 → imm_i v ≡ imm_i w → (rs2 v ≡ rs2 w) × (funct7 v ≡ funct7 w)
unfolding imm_i
i_same v w p q e =
    let bits : field 31 20 v ≡ field 31 20 w = same_12 (field 31 20 v) (field 31 20 w) (omega arith) (omega arith) e in
    let a = i_parts v p in
    let b = i_parts w q in
    let c = fits_5 v in
    let d = fits_5 w in
    (omega arith, omega arith)

pub s_same : (v w : ℕ) → v < 2 ^ 32 → w < 2 ^ 32 → imm_s v ≡ imm_s w → (rd v ≡ rd w) × (funct7 v ≡ funct7 w)
unfolding imm_s rd funct7
s_same v w p q e =
    let bits : field 31 25 v * 2 ^ 5 + field 11 7 v ≡ field 31 25 w * 2 ^ 5 + field 11 7 w = same_12 _ _ (omega arith) (omega arith) e in
    (omega arith, omega arith)

pub u_same : (v w : ℕ) → v < 2 ^ 32 → w < 2 ^ 32 → imm_u v ≡ imm_u w → field 31 12 v ≡ field 31 12 w
unfolding imm_u
u_same v w p q e =
    let bits : field 31 12 v * 2 ^ 12 ≡ field 31 12 w * 2 ^ 12 = same_32 _ _ (omega arith) (omega arith) e in
    omega arith

-- the pieces of a branch's immediate, and how they make the two fields
b_seven : (w : ℕ) → w < 2 ^ 32 → funct7 w ≡ field 31 31 w * 2 ^ 6 + field 30 25 w
unfolding funct7
b_seven w h = omega arith

b_low : (w : ℕ) → rd w ≡ field 11 8 w * 2 + field 7 7 w
unfolding rd
b_low w = omega arith

-- two sums of the same pieces at the same places have the same pieces
b_pieces : (a b c d a' b' c' d' : ℕ) → b < 2 → c < 2 ^ 6 → d < 2 ^ 4 → b' < 2 → c' < 2 ^ 6 → d' < 2 ^ 4 → a * 2 ^ 12 + b * 2 ^ 11 + c * 2 ^ 5 + d * 2 ≡ a' * 2 ^ 12 + b' * 2 ^ 11 + c' * 2 ^ 5 + d' * 2 → (a ≡ a') × (b ≡ b') × (c ≡ c') × (d ≡ d')
b_pieces a b c d a' b' c' d' p q r s t u e = (omega arith, omega arith, omega arith, omega arith)

pub b_same : (v w : ℕ) → v < 2 ^ 32 → w < 2 ^ 32 → imm_b v ≡ imm_b w → (rd v ≡ rd w) × (funct7 v ≡ funct7 w)
unfolding imm_b
b_same v w p q e =
    let pieces = b_pieces (field 31 31 v) (field 7 7 v) (field 30 25 v) (field 11 8 v) (field 31 31 w) (field 7 7 w) (field 30 25 w) (field 11 8 w) (omega arith) (omega arith) (omega arith) (omega arith) (omega arith) (omega arith) (same_13 _ _ (omega arith) (omega arith) e) in
    (b_low v ∙ rw (pieces.1, pieces.3, b_low w), b_seven v p ∙ rw (pieces.0, pieces.2, b_seven w q))

j_parts : (w : ℕ) → w < 2 ^ 32 → field 31 12 w ≡ field 31 31 w * 2 ^ 19 + field 30 21 w * 2 ^ 9 + field 20 20 w * 2 ^ 8 + field 19 12 w
j_parts w h = omega arith

j_pieces : (a b c d a' b' c' d' : ℕ) → b < 2 ^ 8 → c < 2 → d < 2 ^ 10 → b' < 2 ^ 8 → c' < 2 → d' < 2 ^ 10 → a * 2 ^ 20 + b * 2 ^ 12 + c * 2 ^ 11 + d * 2 ≡ a' * 2 ^ 20 + b' * 2 ^ 12 + c' * 2 ^ 11 + d' * 2 → (a ≡ a') × (b ≡ b') × (c ≡ c') × (d ≡ d')
j_pieces a b c d a' b' c' d' p q r s t u e = (omega arith, omega arith, omega arith, omega arith)

pub j_same : (v w : ℕ) → v < 2 ^ 32 → w < 2 ^ 32 → imm_j v ≡ imm_j w → field 31 12 v ≡ field 31 12 w
unfolding imm_j
j_same v w p q e =
    let pieces = j_pieces (field 31 31 v) (field 19 12 v) (field 20 20 v) (field 30 21 v) (field 31 31 w) (field 19 12 w) (field 20 20 w) (field 30 21 w) (omega arith) (omega arith) (omega arith) (omega arith) (omega arith) (omega arith) (same_21 _ _ (omega arith) (omega arith) e) in
    j_parts v p ∙ rw (pieces.0, pieces.1, pieces.2, pieces.3, j_parts w q)

-- two words with the same fields
by_fields : (v w : ℕ) → v < 2 ^ 32 → w < 2 ^ 32 → opcode v ≡ opcode w → rd v ≡ rd w → funct3 v ≡ funct3 w → rs1 v ≡ rs1 w → rs2 v ≡ rs2 w → funct7 v ≡ funct7 w → v ≡ w
by_fields v w p q c d t s1 s2 s = whole v p ∙ rw (c, d, t, s1, s2, s) (sym (whole w q))

by_upper : (v w : ℕ) → v < 2 ^ 32 → w < 2 ^ 32 → opcode v ≡ opcode w → rd v ≡ rd w → field 31 12 v ≡ field 31 12 w → v ≡ w
by_upper v w p q c d u = whole_upper v p ∙ rw (c, d, u) (sym (whole_upper w q))

-- ---- one word for each format

word_r : (v w code three seven d s1 s2 : ℕ) → v < 2 ^ 32 → w < 2 ^ 32 → IsFormatR v code three seven d s1 s2 → IsFormatR w code three seven d s1 s2 → v ≡ w
word_r v w code three seven d s1 s2 p q f g =
    by_fields v w p q (f.code_is ∙ sym g.code_is) (f.rd_is ∙ sym g.rd_is) (f.funct3_is ∙ sym g.funct3_is) (f.rs1_is ∙ sym g.rs1_is) (f.rs2_is ∙ sym g.rs2_is) (f.funct7_is ∙ sym g.funct7_is)

word_i : (v w code three d s1 : ℕ) (imm : ℤ) → v < 2 ^ 32 → w < 2 ^ 32 → IsFormatI v code three d s1 imm → IsFormatI w code three d s1 imm → v ≡ w
word_i v w code three d s1 imm p q f g =
    let same = i_same v w p q (f.imm_is ∙ sym g.imm_is) in
    by_fields v w p q (f.code_is ∙ sym g.code_is) (f.rd_is ∙ sym g.rd_is) (f.funct3_is ∙ sym g.funct3_is) (f.rs1_is ∙ sym g.rs1_is) same.0 same.1

word_shift : (v w code three seven d s1 : ℕ) (amount : ℤ) → v < 2 ^ 32 → w < 2 ^ 32 → IsFormatShift v code three seven d s1 amount → IsFormatShift w code three seven d s1 amount → v ≡ w
word_shift v w code three seven d s1 amount p q f g =
    let both : pos (rs2 v) ≡ pos (rs2 w) = f.amount_is ∙ sym g.amount_is in
    by_fields v w p q (f.code_is ∙ sym g.code_is) (f.rd_is ∙ sym g.rd_is) (f.funct3_is ∙ sym g.funct3_is) (f.rs1_is ∙ sym g.rs1_is) (cc) (f.funct7_is ∙ sym g.funct7_is)

word_s : (v w code three s1 s2 : ℕ) (imm : ℤ) → v < 2 ^ 32 → w < 2 ^ 32 → IsFormatS v code three s1 s2 imm → IsFormatS w code three s1 s2 imm → v ≡ w
word_s v w code three s1 s2 imm p q f g =
    let same = s_same v w p q (f.imm_is ∙ sym g.imm_is) in
    by_fields v w p q (f.code_is ∙ sym g.code_is) same.0 (f.funct3_is ∙ sym g.funct3_is) (f.rs1_is ∙ sym g.rs1_is) (f.rs2_is ∙ sym g.rs2_is) same.1

word_b : (v w code three s1 s2 : ℕ) (imm : ℤ) → v < 2 ^ 32 → w < 2 ^ 32 → IsFormatB v code three s1 s2 imm → IsFormatB w code three s1 s2 imm → v ≡ w
word_b v w code three s1 s2 imm p q f g =
    let same = b_same v w p q (f.imm_is ∙ sym g.imm_is) in
    by_fields v w p q (f.code_is ∙ sym g.code_is) same.0 (f.funct3_is ∙ sym g.funct3_is) (f.rs1_is ∙ sym g.rs1_is) (f.rs2_is ∙ sym g.rs2_is) same.1

word_u : (v w code d : ℕ) (imm : ℤ) → v < 2 ^ 32 → w < 2 ^ 32 → IsFormatU v code d imm → IsFormatU w code d imm → v ≡ w
word_u v w code d imm p q f g =
    by_upper v w p q (f.code_is ∙ sym g.code_is) (f.rd_is ∙ sym g.rd_is) (u_same v w p q (f.imm_is ∙ sym g.imm_is))

word_j : (v w code d : ℕ) (imm : ℤ) → v < 2 ^ 32 → w < 2 ^ 32 → IsFormatJ v code d imm → IsFormatJ w code d imm → v ≡ w
word_j v w code d imm p q f g =
    by_upper v w p q (f.code_is ∙ sym g.code_is) (f.rd_is ∙ sym g.rd_is) (j_same v w p q (f.imm_is ∙ sym g.imm_is))

word_of_imm : (v w : ℕ) (op : ImmOp) (d s1 : ℕ) (imm : ℤ) → v < 2 ^ 32 → w < 2 ^ 32 → IsImmRow v op d s1 imm → IsImmRow w op d s1 imm → v ≡ w
word_of_imm v w Addi d s1 imm p q f g = word_i v w 0b0010011 0b000 d s1 imm p q f g
word_of_imm v w Slti d s1 imm p q f g = word_i v w 0b0010011 0b010 d s1 imm p q f g
word_of_imm v w Sltiu d s1 imm p q f g = word_i v w 0b0010011 0b011 d s1 imm p q f g
word_of_imm v w Xori d s1 imm p q f g = word_i v w 0b0010011 0b100 d s1 imm p q f g
word_of_imm v w Ori d s1 imm p q f g = word_i v w 0b0010011 0b110 d s1 imm p q f g
word_of_imm v w Andi d s1 imm p q f g = word_i v w 0b0010011 0b111 d s1 imm p q f g
word_of_imm v w Slli d s1 imm p q f g = word_shift v w 0b0010011 0b001 0b0000000 d s1 imm p q f g
word_of_imm v w Srli d s1 imm p q f g = word_shift v w 0b0010011 0b101 0b0000000 d s1 imm p q f g
word_of_imm v w Srai d s1 imm p q f g = word_shift v w 0b0010011 0b101 0b0100000 d s1 imm p q f g

word_of_reg : (v w : ℕ) (op : RegOp) (d s1 s2 : ℕ) → v < 2 ^ 32 → w < 2 ^ 32 → IsRegRow v op d s1 s2 → IsRegRow w op d s1 s2 → v ≡ w
word_of_reg v w Add d s1 s2 p q f g = word_r v w 0b0110011 0b000 0b0000000 d s1 s2 p q f g
word_of_reg v w Sub d s1 s2 p q f g = word_r v w 0b0110011 0b000 0b0100000 d s1 s2 p q f g
word_of_reg v w Sll d s1 s2 p q f g = word_r v w 0b0110011 0b001 0b0000000 d s1 s2 p q f g
word_of_reg v w Slt d s1 s2 p q f g = word_r v w 0b0110011 0b010 0b0000000 d s1 s2 p q f g
word_of_reg v w Sltu d s1 s2 p q f g = word_r v w 0b0110011 0b011 0b0000000 d s1 s2 p q f g
word_of_reg v w Xor d s1 s2 p q f g = word_r v w 0b0110011 0b100 0b0000000 d s1 s2 p q f g
word_of_reg v w Srl d s1 s2 p q f g = word_r v w 0b0110011 0b101 0b0000000 d s1 s2 p q f g
word_of_reg v w Sra d s1 s2 p q f g = word_r v w 0b0110011 0b101 0b0100000 d s1 s2 p q f g
word_of_reg v w Or d s1 s2 p q f g = word_r v w 0b0110011 0b110 0b0000000 d s1 s2 p q f g
word_of_reg v w And d s1 s2 p q f g = word_r v w 0b0110011 0b111 0b0000000 d s1 s2 p q f g
word_of_reg v w Mul d s1 s2 p q f g = word_r v w 0b0110011 0b000 0b0000001 d s1 s2 p q f g
word_of_reg v w Mulh d s1 s2 p q f g = word_r v w 0b0110011 0b001 0b0000001 d s1 s2 p q f g
word_of_reg v w Mulhsu d s1 s2 p q f g = word_r v w 0b0110011 0b010 0b0000001 d s1 s2 p q f g
word_of_reg v w Mulhu d s1 s2 p q f g = word_r v w 0b0110011 0b011 0b0000001 d s1 s2 p q f g
word_of_reg v w Div d s1 s2 p q f g = word_r v w 0b0110011 0b100 0b0000001 d s1 s2 p q f g
word_of_reg v w Divu d s1 s2 p q f g = word_r v w 0b0110011 0b101 0b0000001 d s1 s2 p q f g
word_of_reg v w Rem d s1 s2 p q f g = word_r v w 0b0110011 0b110 0b0000001 d s1 s2 p q f g
word_of_reg v w Remu d s1 s2 p q f g = word_r v w 0b0110011 0b111 0b0000001 d s1 s2 p q f g

-- no instruction is two words
pub one_word : (v w : ℕ) (i : Instr) → v < 2 ^ 32 → w < 2 ^ 32 → IsRow v i → IsRow w i → v ≡ w
one_word v w (Lui d imm) p q f g = word_u v w _ d imm p q f g
one_word v w (Auipc d imm) p q f g = word_u v w _ d imm p q f g
one_word v w (Jal d imm) p q f g = word_j v w _ d imm p q f g
one_word v w (Jalr d s1 imm) p q f g = word_i v w _ _ d s1 imm p q f g
one_word v w (Branch op s1 s2 imm) p q f g = word_b v w _ _ s1 s2 imm p q f g
one_word v w (Load op d s1 imm) p q f g = word_i v w _ _ d s1 imm p q f g
one_word v w (Store op s1 s2 imm) p q f g = word_s v w _ _ s1 s2 imm p q f g
one_word v w (OpImm op d s1 imm) p q f g = word_of_imm v w op d s1 imm p q f g
one_word v w (Op op d s1 s2) p q f g = word_of_reg v w op d s1 s2 p q f g
one_word v w (Fence word) p q f g = f.2 ∙ sym g.2
one_word v w Ecall p q f g = f ∙ sym g
one_word v w Ebreak p q f g = f ∙ sym g
