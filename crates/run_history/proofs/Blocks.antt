-- The live blocks of a machine are those of the layout of its heap, and stay so along a served run.
use Rattle.run_history.proofs.Terms.{Bool, List, None, Option, Some, arith, cond, eqb, false, inl, inr, ltb, not, refl, subst, sym, true, ℕ, ◌≡◌, cases_Bool, cond_both, eqb-true, ℤ, Item, Calloc, Malloc, Realloc, Choice, BranchOp, Instr, Auipc, Branch, Ebreak, Ecall, Fence, Jal, Jalr, Load, Lui, Op, OpImm, Store, displaced, is_taken, row, Area, execute, permitted, read, AssertFailed, BadAccess, BadCall, BadJump, Chooses, Effect, Emits, Ends, Fails, Goes, Machine, Wants, next_pc, register, branch, goes_on, jumps, answered, call, free, may_send, received, recv, send, takes, does, executed, instruction, word_at, instruction_at, Allocate, Free, Nothing, call_request, request_of}

-- the live blocks and the ends of the heap are as they were
pub record SameHeap (m new : Machine) : Type 0 where
  pub blocks : new.blocks ≡ m.blocks
  pub start : new.heap_start ≡ m.heap_start
  pub end : new.heap_end ≡ m.heap_end

-- an effect leaves them so, and wants no answer of the allocator
abbrev pub LeavesHeap : Machine → Effect → Type 0
LeavesHeap m (Goes new) = SameHeap m new
LeavesHeap m (Emits conn bytes new) = SameHeap m new
LeavesHeap m (Ends code) = Unit {0}
LeavesHeap m Wants = Unit {0}
LeavesHeap m (Chooses ask) = ⊥
LeavesHeap m (Fails cause) = Unit {0}

goes_leaves : (pc : ℕ) (registers : List ℕ) (memory : List Area) (m : Machine) → LeavesHeap m (goes_on pc registers memory m)
goes_leaves pc registers memory m = record { blocks = refl; start = refl; end = refl }

answered_leaves : (value : ℕ) (m : Machine) → LeavesHeap m (Goes (answered value m))
answered_leaves value m = record { blocks = refl; start = refl; end = refl }

received_leaves : (item : Item) (m : Machine) → SameHeap m (received item m)
unfolding received
received_leaves item m = record { blocks = refl; start = refl; end = refl }

jumps_leaves : (target : ℕ) (registers : List ℕ) (m : Machine) → LeavesHeap m (jumps target registers m)
jumps_leaves target registers m =
    cond_both _ (goes_on target registers m.memory m) (Fails BadJump) (LeavesHeap m) (λ _. goes_leaves target registers m.memory m) (λ _. tt)

branch_leaves : (operation : BranchOp) (rs1 rs2 : ℕ) (imm : ℤ) (m : Machine) → LeavesHeap m (branch operation rs1 rs2 imm m)
branch_leaves operation rs1 rs2 imm m =
    cond_both (is_taken operation (register m rs1) (register m rs2)) (jumps (displaced m.pc imm) m.registers m) (goes_on (next_pc m) m.registers m.memory m) (LeavesHeap m)
    (λ _. jumps_leaves (displaced m.pc imm) m.registers m)
    (λ _. goes_leaves (next_pc m) m.registers m.memory m)

-- an instruction that goes on, or may not touch what it touches
may_leaves : (b : Bool) (pc : ℕ) (registers : List ℕ) (memory : List Area) (m : Machine) → LeavesHeap m (cond b (goes_on pc registers memory m) (Fails BadAccess))
may_leaves true pc registers memory m = goes_leaves pc registers memory m
may_leaves false pc registers memory m = tt

send_leaves : (m : Machine) → LeavesHeap m (send m)
send_leaves m =
    cond_both (ltb 65535 (register m 12)) (Goes (answered 2 m)) _ (LeavesHeap m) (λ _. answered_leaves 2 m) (λ _.
    cond_both (not (may_send m (register m 10))) (Goes (answered 1 m)) _ (LeavesHeap m) (λ _. answered_leaves 1 m) (λ _.
    cond_both (not (permitted read m.memory (register m 11) (register m 12))) (Fails BadAccess) _ (LeavesHeap m) (λ _. tt) (λ _.
    cond_both (eqb (register m 12) 0) (Goes (answered 0 m)) _ (LeavesHeap m) (λ _. answered_leaves 0 m) (λ _. answered_leaves 0 m))))

takes_leaves : (item : Option Item) (m : Machine) → LeavesHeap m (takes m item)
takes_leaves None m = tt
takes_leaves (Some item) m = received_leaves item m

recv_leaves : (item : Option Item) (m : Machine) → LeavesHeap m (recv item m)
recv_leaves item m =
    cond_both _ (takes m item) (Fails BadAccess) (LeavesHeap m) (λ _. takes_leaves item m) (λ _. tt)

-- a call that asks nothing of the allocator
call_leaves : (m : Machine) (number : ℕ) (item : Option Item) (choice : Option Choice) → eqb number 3 ≡ false → eqb number 4 ≡ false → eqb number 7 ≡ false → eqb number 8 ≡ false → LeavesHeap m (call number item choice m)
call_leaves m number item choice no_malloc no_free no_calloc no_realloc =
    rw (no_malloc, no_free, no_calloc, no_realloc)
    (cond_both (eqb number 1) (recv item m) _ (LeavesHeap m) (λ _. recv_leaves item m) (λ _.
    cond_both (eqb number 2) (send m) _ (LeavesHeap m) (λ _. send_leaves m) (λ _.
    cond_both (eqb number 5) (Ends (register m 10)) _ (LeavesHeap m) (λ _. tt) (λ _.
    cond_both (eqb number 6) (Fails (AssertFailed (register m 10))) (Fails BadCall) (LeavesHeap m) (λ _. tt) (λ _. tt)))))

-- a call of a number asks nothing of the allocator
record IsNothing (number : ℕ) : Type 0 where
  no_malloc : eqb number 3 ≡ false
  no_free : eqb number 4 ≡ false
  no_calloc : eqb number 7 ≡ false
  no_realloc : eqb number 8 ≡ false

nothing_number : (m : Machine) (number : ℕ) → call_request number m ≡ Nothing → IsNothing number
nothing_number m number h = of_tests (eqb number 3) (eqb number 4) (eqb number 7) (eqb number 8) refl refl refl refl h
  where
    of_tests : (first second third fourth : Bool) → eqb number 3 ≡ first → eqb number 4 ≡ second → eqb number 7 ≡ third → eqb number 8 ≡ fourth
        → cond first (Allocate (Malloc (register m 10))) (cond second (Free (register m 10)) (cond third (Allocate (Calloc (register m 10) (register m 11))) (cond fourth (Allocate (Realloc (register m 10) (register m 11))) Nothing))) ≡ Nothing
        → IsNothing number
    of_tests true second third fourth a b c d e = absurd (cc e)
    of_tests false true third fourth a b c d e = absurd (cc e)
    of_tests false false true fourth a b c d e = absurd (cc e)
    of_tests false false false true a b c d e = absurd (cc e)
    of_tests false false false false a b c d e = record { no_malloc = a; no_free = b; no_calloc = c; no_realloc = d }

-- an instruction that asks nothing of the allocator leaves the heap as it is
instruction_leaves : (instr : Instr) (m : Machine) (item : Option Item) (choice : Option Choice) → request_of (Some instr) m ≡ Nothing → LeavesHeap m (instruction instr item choice m)
unfolding instruction
instruction_leaves (Lui rd imm) m item choice h = goes_leaves _ _ _ m
instruction_leaves (Auipc rd imm) m item choice h = goes_leaves _ _ _ m
instruction_leaves (Jal rd imm) m item choice h = jumps_leaves _ _ m
instruction_leaves (Jalr rd rs1 imm) m item choice h = jumps_leaves _ _ m
instruction_leaves (Branch operation rs1 rs2 imm) m item choice h = branch_leaves operation rs1 rs2 imm m
instruction_leaves (Load operation rd rs1 imm) m item choice h = may_leaves _ _ _ _ m
instruction_leaves (Store operation rs1 rs2 imm) m item choice h = may_leaves _ _ _ _ m
instruction_leaves (OpImm operation rd rs1 imm) m item choice h = goes_leaves _ _ _ m
instruction_leaves (Op operation rd rs1 rs2) m item choice h = goes_leaves _ _ _ m
instruction_leaves (Fence word) m item choice h = goes_leaves _ _ _ m
instruction_leaves Ecall m item choice h = let n = nothing_number m (register m 17) h in call_leaves m (register m 17) item choice n.no_malloc n.no_free n.no_calloc n.no_realloc
instruction_leaves Ebreak m item choice h = tt

pub does_leaves : (m : Machine) (item : Option Item) (choice : Option Choice) → request_of (instruction_at m) m ≡ Nothing → LeavesHeap m (does item choice m)
unfolding does instruction_at
does_leaves m item choice h =
    elim (cases_Bool (permitted execute m.memory m.pc 4)) [
      | inl may ↦ rw may (of_row (row (word_at m)) (rw may at h))
      | inr not_may ↦ rw not_may tt
    ]
  where
    of_row : (found : Option Instr) → request_of found m ≡ Nothing → LeavesHeap m (executed found item choice m)
    of_row None e = tt
    of_row (Some instr) e = instruction_leaves instr m item choice e

-- a call that frees
pub call_frees : (m : Machine) (number at : ℕ) → call_request number m ≡ Free at → (item : Option Item) (choice : Option Choice) → call number item choice m ≡ free m
call_frees m number at h item choice =
    elim (cases_Bool (eqb number 4)) [
      | inl is ↦ subst (λ n. call n item choice m ≡ free m) (sym (eqb-true number 4 is)) refl
      | inr no_free ↦ absurd (of_tests (eqb number 3) (eqb number 7) (eqb number 8) (rw no_free at h))
    ]
  where
    of_tests : (first third fourth : Bool)
        → cond first (Allocate (Malloc (register m 10))) (cond third (Allocate (Calloc (register m 10) (register m 11))) (cond fourth (Allocate (Realloc (register m 10) (register m 11))) Nothing)) ≡ Free at → ⊥
    of_tests true third fourth e = cc
    of_tests false true fourth e = cc
    of_tests false false true e = cc
    of_tests false false false e = cc

-- an instruction that frees
pub frees : (m : Machine) (at : ℕ) → request_of (instruction_at m) m ≡ Free at → (item : Option Item) (choice : Option Choice) → does item choice m ≡ free m
unfolding does instruction_at instruction
frees m at h item choice =
    elim (cases_Bool (permitted execute m.memory m.pc 4)) [
      | inl may ↦ rw may (of_row (row (word_at m)) (rw may at h))
      | inr not_may ↦ absurd (never (rw not_may at h))
    ]
  where
    never : Nothing ≡ Free at → ⊥
    never e = cc

    of_row : (found : Option Instr) → request_of found m ≡ Free at → executed found item choice m ≡ free m
    of_row None e = absurd (never e)
    of_row (Some Ecall) e = call_frees m (register m 17) at e item choice
    of_row (Some _) e = absurd (never e)

-- what a free frees is at the address in register 10
pub requested_address : (m : Machine) (at : ℕ) → request_of (instruction_at m) m ≡ Free at → at ≡ register m 10
requested_address m at h = of_found (instruction_at m) h
  where
    of_tests : (first second third fourth : Bool)
        → cond first (Allocate (Malloc (register m 10))) (cond second (Free (register m 10)) (cond third (Allocate (Calloc (register m 10) (register m 11))) (cond fourth (Allocate (Realloc (register m 10) (register m 11))) Nothing))) ≡ Free at
        → at ≡ register m 10
    of_tests true second third fourth e = absurd (cc e)
    of_tests false true third fourth e = cc
    of_tests false false true fourth e = absurd (cc e)
    of_tests false false false true e = absurd (cc e)
    of_tests false false false false e = absurd (cc e)

    of_found : (found : Option Instr) → request_of found m ≡ Free at → at ≡ register m 10
    of_found None e = cc
    of_found (Some Ecall) e = of_tests (eqb (register m 17) 3) (eqb (register m 17) 4) (eqb (register m 17) 7) (eqb (register m 17) 8) e
    of_found (Some _) e = cc
