-- What a word's operation gives, by its row.
use Rattle.std.specs.Prelude.{ℕ, Bool, Option, option_map, pos, if◌then◌else◌, ◌==◌, ◌||◌}
use Rattle.rv_isa.specs.Words.{funct3, funct7, rs2, imm_i}
use Rattle.rv_isa.specs.Table.{branch_op, imm_op, shift_op, reg_op}
use Rattle.rv_isa.specs.Meaning.{value_of, imm_value_of, is_taken}

-- an operation on registers that have these words (opcode 0110011)
abbrev pub op_result : ℕ → ℕ → ℕ → Option ℕ
op_result word a b = option_map (λ op. value_of op a b) (reg_op (funct7 word) (funct3 word))

-- an operation on a register that has this word and an immediate (opcode 0010011)
abbrev pub imm_result : ℕ → ℕ → Option ℕ
imm_result word a =
    if funct3 word == 0b001 || funct3 word == 0b101
    then option_map (λ op. imm_value_of op a (pos (rs2 word))) (shift_op (funct7 word) (funct3 word))
    else option_map (λ op. imm_value_of op a (imm_i word)) (imm_op (funct3 word))

-- whether a branch is taken whose registers have these words (opcode 1100011)
abbrev pub branch_result : ℕ → ℕ → ℕ → Option Bool
branch_result word a b = option_map (λ op. is_taken op a b) (branch_op (funct3 word))
