-- Instructions that are decoded and done at once.
use Rattle.rv_exec.proofs.Terms.{Bool, List, None, Ok, Option, Some, add-one, ap, arith, eqb, false, inl, inr, refl, subst, sym, true, ℕ, ◌%◌, ◌+◌, ◌^◌, ◌∙◌, ◌≡◌, cases_Bool, IfSome, MatchBool, option_map, pos, suc, zero, ℤ, ◌==◌, ◌||◌, Heap, BranchOp, ImmOp, Auipc, Branch, Jal, Jalr, Load, Lui, Op, OpImm, Store, LoadOp, RegOp, StoreOp, branch_result, imm_result, op_result, displaced, imm_value_of, indirect_target, is_taken, load_size, loaded, store_size, to_word, value_of, branch_op, branch_row, imm_op, imm_row, jalr_row, load_op, load_row, op_row, reg_op, row, shift_op, shift_row, store_op, store_row, funct3, funct7, imm_b, imm_i, imm_j, imm_s, imm_u, little_bytes, little_number, opcode, rd, rs1, rs2, Area, bytes_at, permitted, Regs, with_register, instruction, Puts, Reads, GuestPages, flat, IsDone, IsStep, Ran, register_in, regs_of}

-- the program counter behind an instruction
abbrev behind : ℕ → ℕ
behind pc = (pc + 4) % 2 ^ 32

-- a register was written
pub put_is : (x new_x : List ℕ) (d e v w : ℕ) → new_x ≡ with_register d v x → d ≡ e → v ≡ w → new_x ≡ with_register e w x
put_is x new_x d e v w is one two = is ∙ ap (λ n. with_register n v x) one ∙ ap (λ n. with_register e n x) two

-- what registers gave
pub op_of : (word : ℕ) (x : List ℕ) (r1 r2 a b value : ℕ) (found : Option ℕ) → found ≡ op_result word a b → found ≡ Some value → a ≡ register_in x r1 → b ≡ register_in x r2 → r1 ≡ rs1 word → r2 ≡ rs2 word
    → op_result word (register_in x (rs1 word)) (register_in x (rs2 word)) ≡ Some value
op_of word x r1 r2 a b value found gives is one two first second =
    sym (ap (λ n. op_result word n b) (one ∙ ap (register_in x) first) ∙ ap (op_result word (register_in x (rs1 word))) (two ∙ ap (register_in x) second)) ∙ sym gives ∙ is

pub branch_of : (word : ℕ) (x : List ℕ) (r1 r2 a b : ℕ) (taken : Bool) (found : Option Bool) → found ≡ branch_result word a b → found ≡ Some taken → a ≡ register_in x r1 → b ≡ register_in x r2 → r1 ≡ rs1 word → r2 ≡ rs2 word
    → branch_result word (register_in x (rs1 word)) (register_in x (rs2 word)) ≡ Some taken
branch_of word x r1 r2 a b taken found gives is one two first second =
    sym (ap (λ n. branch_result word n b) (one ∙ ap (register_in x) first) ∙ ap (branch_result word (register_in x (rs1 word))) (two ∙ ap (register_in x) second)) ∙ sym gives ∙ is

-- where a load or a store touches memory
pub place_is : (x : List ℕ) (place a r s : ℕ) (imm other : ℤ) → place ≡ displaced a imm → a ≡ register_in x r → r ≡ s → imm ≡ other → place ≡ displaced (register_in x s) other
place_is x place a r s imm other is one first second =
    is ∙ ap (λ n. displaced n imm) (one ∙ ap (register_in x) first) ∙ ap (displaced (register_in x s)) second

pub target_is : (x : List ℕ) (place a r s : ℕ) (imm other : ℤ) → place ≡ indirect_target a imm → a ≡ register_in x r → r ≡ s → imm ≡ other → place ≡ indirect_target (register_in x s) other
target_is x place a r s imm other is one first second =
    is ∙ ap (λ n. indirect_target n imm) (one ∙ ap (register_in x) first) ∙ ap (indirect_target (register_in x s)) second

-- what a store wrote
pub stored_is : (b : Bool) (space new_space : GuestPages) (place size other value stored : ℕ) → b ≡ true
    → MatchBool b ((permitted 2 (flat space) place size ≡ true) × Puts space place (little_bytes size value) new_space) (new_space ≡ space) → size ≡ other → value ≡ stored
    → (permitted 2 (flat space) place other ≡ true) × Puts space place (little_bytes other stored) new_space
stored_is b space new_space place size other value stored done h one two =
    subst (λ n. (permitted 2 (flat space) place n ≡ true) × Puts space place (little_bytes n stored) new_space) one
    (subst (λ n. (permitted 2 (flat space) place size ≡ true) × Puts space place (little_bytes size n) new_space) two
    (subst (λ x. MatchBool x ((permitted 2 (flat space) place size ≡ true) × Puts space place (little_bytes size value) new_space) (new_space ≡ space)) done h))

module _ (rule : Heap → ℕ → ℕ → Bool) (heap : Heap) (word pc : ℕ) (x new_x : List ℕ) (space : GuestPages) where
  -- an instruction that writes a register
  abbrev pub Writes : ℕ → List ℕ → Type 0
  Writes next written = IsDone rule heap word (regs_of pc x) space (regs_of next written) space

  pub lui_done : opcode word ≡ 0b0110111 → new_x ≡ with_register (rd word) (to_word (imm_u word)) x → Writes (behind pc) new_x
  unfolding row instruction
  lui_done kind is = subst (Writes (behind pc)) (sym is) record {
    instr = Lui (rd word) (imm_u word);
    is = rw kind refl;
    no_call = λ h. cc;
    done = λ m budget. refl;
    leaves = refl;
  }

  pub auipc_done : opcode word ≡ 0b0010111 → new_x ≡ with_register (rd word) (displaced pc (imm_u word)) x → Writes (behind pc) new_x
  unfolding row instruction
  auipc_done kind is = subst (Writes (behind pc)) (sym is) record {
    instr = Auipc (rd word) (imm_u word);
    is = rw kind refl;
    no_call = λ h. cc;
    done = λ m budget. refl;
    leaves = refl;
  }

  pub jal_done : (target : ℕ) → opcode word ≡ 0b1101111 → target ≡ displaced pc (imm_j word) → target % 4 ≡ 0 → new_x ≡ with_register (rd word) (behind pc) x → Writes target new_x
  unfolding row instruction
  jal_done target kind to whole is =
      let test : eqb (displaced pc (imm_j word) % 4) 0 ≡ true = grind arith in
      subst (Writes target) (sym is) (subst (λ t. Writes t (with_register (rd word) (behind pc) x)) (sym to) record {
        instr = Jal (rd word) (imm_j word);
        is = rw kind refl;
        no_call = λ h. cc;
        done = λ m budget. rw test refl;
        leaves = refl;
      })

  pub jalr_done : (target : ℕ) → opcode word ≡ 0b1100111 → funct3 word ≡ 0 → target ≡ indirect_target (register_in x (rs1 word)) (imm_i word) → target % 4 ≡ 0 → new_x ≡ with_register (rd word) (behind pc) x → Writes target new_x
  unfolding row jalr_row instruction
  jalr_done target kind three to whole is =
      let test : eqb (indirect_target (register_in x (rs1 word)) (imm_i word) % 4) 0 ≡ true = grind arith in
      subst (Writes target) (sym is) (subst (λ t. Writes t (with_register (rd word) (behind pc) x)) (sym to) record {
        instr = Jalr (rd word) (rs1 word) (imm_i word);
        is = rw (kind, three) refl;
        no_call = λ h. cc;
        done = λ m budget. rw test refl;
        leaves = refl;
      })

  pub branch_passed : opcode word ≡ 0b1100011 → branch_result word (register_in x (rs1 word)) (register_in x (rs2 word)) ≡ Some false → Writes (behind pc) x
  unfolding row branch_row instruction
  branch_passed kind given = by_op (branch_op (funct3 word)) refl given
    where
      by_op : (found : Option BranchOp) → branch_op (funct3 word) ≡ found → option_map (λ op. is_taken op (register_in x (rs1 word)) (register_in x (rs2 word))) found ≡ Some false → Writes (behind pc) x
      by_op None is e = cc
      by_op (Some op) is e =
          let passed : is_taken op (register_in x (rs1 word)) (register_in x (rs2 word)) ≡ false = cc in
          record {
            instr = Branch op (rs1 word) (rs2 word) (imm_b word);
            is = rw (kind, is) refl;
            no_call = λ h. cc;
            done = λ m budget. rw passed refl;
            leaves = refl;
          }

  pub branch_done : (target : ℕ) → opcode word ≡ 0b1100011 → branch_result word (register_in x (rs1 word)) (register_in x (rs2 word)) ≡ Some true → target ≡ displaced pc (imm_b word) → target % 4 ≡ 0 → Writes target x
  unfolding row branch_row instruction
  branch_done target kind given to whole = subst (λ t. Writes t x) (sym to) (by_op (branch_op (funct3 word)) refl given)
    where
      by_op : (found : Option BranchOp) → branch_op (funct3 word) ≡ found → option_map (λ op. is_taken op (register_in x (rs1 word)) (register_in x (rs2 word))) found ≡ Some true → Writes (displaced pc (imm_b word)) x
      by_op None is e = cc
      by_op (Some op) is e =
          let taken : is_taken op (register_in x (rs1 word)) (register_in x (rs2 word)) ≡ true = cc in
          let test : eqb (displaced pc (imm_b word) % 4) 0 ≡ true = grind arith in
          record {
            instr = Branch op (rs1 word) (rs2 word) (imm_b word);
            is = rw (kind, is) refl;
            no_call = λ h. cc;
            done = λ m budget. rw (taken, test) refl;
            leaves = refl;
          }

  pub op_done : (value : ℕ) → opcode word ≡ 0b0110011 → op_result word (register_in x (rs1 word)) (register_in x (rs2 word)) ≡ Some value → new_x ≡ with_register (rd word) value x → Writes (behind pc) new_x
  unfolding row op_row instruction
  op_done value kind given wrote = subst (Writes (behind pc)) (sym wrote) (by_op (reg_op (funct7 word) (funct3 word)) refl given)
    where
      by_op : (found : Option RegOp) → reg_op (funct7 word) (funct3 word) ≡ found → option_map (λ op. value_of op (register_in x (rs1 word)) (register_in x (rs2 word))) found ≡ Some value
          → Writes (behind pc) (with_register (rd word) value x)
      by_op None is e = cc
      by_op (Some op) is e =
          let same : value_of op (register_in x (rs1 word)) (register_in x (rs2 word)) ≡ value = cc in
          subst (λ v. Writes (behind pc) (with_register (rd word) v x)) same record {
            instr = Op op (rd word) (rs1 word) (rs2 word);
            is = rw (kind, is) refl;
            no_call = λ h. cc;
            done = λ m budget. refl;
            leaves = refl;
          }

  pub op_imm_done : (value : ℕ) → opcode word ≡ 0b0010011 → imm_result word (register_in x (rs1 word)) ≡ Some value → new_x ≡ with_register (rd word) value x → Writes (behind pc) new_x
  unfolding row imm_row shift_row instruction
  op_imm_done value kind given wrote =
      subst (Writes (behind pc)) (sym wrote) (elim (cases_Bool ((funct3 word == 0b001) || (funct3 word == 0b101))) [
        | inl shifts ↦ by_shift shifts (shift_op (funct7 word) (funct3 word)) refl (rw shifts at given)
        | inr other ↦ by_imm other (imm_op (funct3 word)) refl (rw other at given)
      ])
    where
      by_shift : ((funct3 word == 0b001) || (funct3 word == 0b101)) ≡ true → (found : Option ImmOp) → shift_op (funct7 word) (funct3 word) ≡ found
          → option_map (λ op. imm_value_of op (register_in x (rs1 word)) (pos (rs2 word))) found ≡ Some value → Writes (behind pc) (with_register (rd word) value x)
      by_shift shifts None is e = cc
      by_shift shifts (Some op) is e =
          let same : imm_value_of op (register_in x (rs1 word)) (pos (rs2 word)) ≡ value = cc in
          subst (λ v. Writes (behind pc) (with_register (rd word) v x)) same record {
            instr = OpImm op (rd word) (rs1 word) (pos (rs2 word));
            is = rw (kind, shifts, is) refl;
            no_call = λ h. cc;
            done = λ m budget. refl;
            leaves = refl;
          }

      by_imm : ((funct3 word == 0b001) || (funct3 word == 0b101)) ≡ false → (found : Option ImmOp) → imm_op (funct3 word) ≡ found
          → option_map (λ op. imm_value_of op (register_in x (rs1 word)) (imm_i word)) found ≡ Some value → Writes (behind pc) (with_register (rd word) value x)
      by_imm other None is e = cc
      by_imm other (Some op) is e =
          let same : imm_value_of op (register_in x (rs1 word)) (imm_i word) ≡ value = cc in
          subst (λ v. Writes (behind pc) (with_register (rd word) v x)) same record {
            instr = OpImm op (rd word) (rs1 word) (imm_i word);
            is = rw (kind, other, is) refl;
            no_call = λ h. cc;
            done = λ m budget. refl;
            leaves = refl;
          }

  pub load_done : (op : LoadOp) (at value : ℕ) → opcode word ≡ 0b0000011 → load_op (funct3 word) ≡ Some op → at ≡ displaced (register_in x (rs1 word)) (imm_i word) → rule heap at (load_size op) ≡ true
      → Reads 4 (flat space) at (load_size op) (Ok value) → new_x ≡ with_register (rd word) (loaded op value) x → Writes (behind pc) new_x
  unfolding row load_row instruction
  load_done op address value kind is from allowed reads wrote =
      subst (Writes (behind pc)) (sym wrote) (subst (λ v. Writes (behind pc) (with_register (rd word) (loaded op v) x)) (sym reads.1)
      (elsewhere address from allowed reads.0))
    where
      elsewhere : (a : ℕ) → a ≡ displaced (register_in x (rs1 word)) (imm_i word) → rule heap a (load_size op) ≡ true → permitted 4 (flat space) a (load_size op) ≡ true
          → Writes (behind pc) (with_register (rd word) (loaded op (little_number (bytes_at 4 (flat space) a (load_size op)))) x)
      elsewhere a to asked may =
          let there : displaced (register_in x (rs1 word)) (imm_i word) ≡ a = sym to in
          record {
            instr = Load op (rd word) (rs1 word) (imm_i word);
            is = rw (kind, is) refl;
            no_call = λ h. cc;
            done = λ m budget. rw (there, asked, may) refl;
            leaves = refl;
          }

  pub store_done : (op : StoreOp) (at : ℕ) (new_space : GuestPages) → opcode word ≡ 0b0100011 → store_op (funct3 word) ≡ Some op → at ≡ displaced (register_in x (rs1 word)) (imm_s word) → rule heap at (store_size op) ≡ true
      → permitted 2 (flat space) at (store_size op) ≡ true → Puts space at (little_bytes (store_size op) (register_in x (rs2 word))) new_space
      → IsDone rule heap word (regs_of pc x) space (regs_of (behind pc) x) new_space
  unfolding row store_row instruction
  store_done op a new_space kind is to allowed may puts =
      let there : displaced (register_in x (rs1 word)) (imm_s word) ≡ a = sym to in
      record {
        instr = Store op (rs1 word) (rs2 word) (imm_s word);
        is = rw (kind, is) refl;
        no_call = λ h. cc;
        done = λ m budget. rw (there, allowed, may, puts.memory) refl;
        leaves = rw there puts;
      }

-- the word was fetched
pub fetched_is : (memory : List Area) (pc word : ℕ) (found : Option ℕ) → found ≡ Some word → IfSome found (λ w. Reads 1 memory pc 4 (Ok w)) → Reads 1 memory pc 4 (Ok word)
fetched_is memory pc word found is reads = subst (λ f. IfSome f (λ w. Reads 1 memory pc 4 (Ok w))) is reads

pub step_done : (rule : Heap → ℕ → ℕ → Bool) (heap : Heap) (word pc : ℕ) (x new_x : List ℕ) (space new_space : GuestPages) (next : ℕ) → Reads 1 (flat space) pc 4 (Ok word)
    → IsDone rule heap word (regs_of pc x) space (regs_of next new_x) new_space → IsStep rule heap (regs_of pc x) space (regs_of next new_x) new_space
step_done rule heap word pc x new_x space new_space next reads does = record {
  instr = does.instr;
  is = rw (reads.0, ← reads.1, does.is) refl;
  no_call = does.no_call;
  done = does.done;
  leaves = does.leaves;
}

-- none is done yet
pub ran_none : (rule : Heap → ℕ → ℕ → Bool) (heap : Heap) (regs : Regs) (space : GuestPages) → Ran rule heap 0 regs space regs space
unfolding Ran
ran_none rule heap regs space = (refl, refl)

-- one more
pub ran_more : (rule : Heap → ℕ → ℕ → Bool) (heap : Heap) (count : ℕ) (regs mid_regs new_regs : Regs) (space mid_space new_space : GuestPages)
    → Ran rule heap count regs space mid_regs mid_space → IsStep rule heap mid_regs mid_space new_regs new_space → Ran rule heap (count + 1) regs space new_regs new_space
unfolding Ran
ran_more rule heap count regs mid_regs new_regs space mid_space new_space ran one = rw add-one (mid_regs, mid_space, ran, one)

-- so many, and so many more
pub ran_join : (rule : Heap → ℕ → ℕ → Bool) (heap : Heap) (one other : ℕ) (regs mid_regs new_regs : Regs) (space mid_space new_space : GuestPages)
    → Ran rule heap one regs space mid_regs mid_space → Ran rule heap other mid_regs mid_space new_regs new_space → Ran rule heap (one + other) regs space new_regs new_space
unfolding Ran
ran_join rule heap one zero regs mid_regs new_regs space mid_space new_space first (r, s) =
    let e : one ≡ one + 0 = omega arith in subst (λ k. Ran rule heap k regs space new_regs new_space) e (rw (r, s) first)
ran_join rule heap one (suc n) regs mid_regs new_regs space mid_space new_space first (r, s, rest, step) =
    let e : one + n + 1 ≡ one + suc n = omega arith in
    subst (λ k. Ran rule heap k regs space new_regs new_space) e (ran_more rule heap (one + n) regs r new_regs space s new_space (ran_join rule heap one n regs mid_regs r space mid_space s first rest) step)
