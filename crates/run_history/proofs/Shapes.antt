-- How what a machine does depends on the item and the answer of the allocator that are next, and what it keeps of the machine.
use Rattle.run_history.proofs.Terms.{List, None, Option, Some, arith, eqb, false, inl, inr, length, length-append, length-set, ltb, not, refl, set, subst, suc, sym, true, zero, ℕ, ◌+◌, ◌<◌, ◌∙◌, ◌≡◌, ◌≢◌, ◌≤◌, cases_Bool, cond_both, eqb-false, eqb-true, ltb-false, not-false, ℤ, Item, Ask, Calloc, Malloc, Realloc, Choice, is_defined, BranchOp, Instr, Auipc, Branch, Ebreak, Ecall, Fence, Jal, Jalr, Load, Lui, Op, OpImm, Store, LoadOp, StoreOp, displaced, is_taken, row, Area, bytes_at, execute, permitted, read, write, AssertFailed, BadAccess, BadCall, BadFree, BadInstruction, BadJump, Chooses, Effect, Emits, Ends, Fails, Goes, Machine, Wants, next_pc, register, with_register, branch, goes_on, jumps, load, store, writes, allocation, answered, call, chooses, free, freed, may_send, send, takes, does, executed, instruction, word_at}

-- what so many instructions that take no item and no answer of the allocator keep
pub record Keeps (m new : Machine) (steps : ℕ) : Type 0 where
  pub heap_start : new.heap_start ≡ m.heap_start
  pub heap_end : new.heap_end ≡ m.heap_end
  pub allocations : new.allocations ≡ m.allocations
  pub taken : new.taken ≡ m.taken
  pub connections : new.connections ≡ m.connections
  pub since : new.since ≡ m.since + steps
  pub registers : length new.registers ≡ length m.registers

-- a send that is one: some bytes, not too many, to a connection that may be sent to
pub record MaySend (m : Machine) (conn : ℕ) (bytes : List ℕ) : Type 0 where
  pub some : 0 < length bytes
  pub few : length bytes ≤ 65535
  pub allowed : may_send m conn ≡ true

-- an effect that needs neither
abbrev pub Alone : Machine → Effect → Type 0
Alone m (Goes new) = Keeps m new 1
Alone m (Emits conn bytes new) = Keeps m new 1 × MaySend m conn bytes
Alone m (Ends code) = Unit {0}
Alone m Wants = ⊥
Alone m (Chooses ask) = ⊥
Alone m (Fails cause) = Unit {0}

-- an effect is the same with all items and answers of malloc, or takes the item that is next, or that answer
pub data Shape (m : Machine) (acts : Option Item → Option Choice → Effect) : Type 0 where
  Same : (e : Effect) → Alone m e → ((item : Option Item) (choice : Option Choice) → acts item choice ≡ e) → Shape m acts
  Takes : permitted write m.memory (register m 10) (register m 11) ≡ true → ((item : Option Item) (choice : Option Choice) → acts item choice ≡ takes m item) → Shape m acts
  Picks : (ask : Ask) → is_defined m.blocks ask ≡ true → ((item : Option Item) (choice : Option Choice) → acts item choice ≡ chooses ask m choice) → Shape m acts

-- a write to a register keeps the number of registers
pub length-with_register : (n value : ℕ) (registers : List ℕ) → length (with_register n value registers) ≡ length registers
length-with_register n value registers =
    cond_both (eqb n 0) registers (set registers n value) (λ rs. length rs ≡ length registers) (λ _. refl) (λ _. length-set registers n value)

-- count bytes from memory are count bytes
pub length-bytes_at : (flag : ℕ) (memory : List Area) (at count : ℕ) → length (bytes_at flag memory at count) ≡ count
length-bytes_at flag memory at zero = refl
length-bytes_at flag memory at (suc count) =
    length-append (bytes_at flag memory at count) _ ∙ omega (arith, length-bytes_at flag memory at count)

-- the machine goes on with as many registers
goes_alone : (pc : ℕ) (registers : List ℕ) (memory : List Area) (m : Machine) → length registers ≡ length m.registers → Alone m (goes_on pc registers memory m)
goes_alone pc registers memory m e =
    record { heap_start = refl; heap_end = refl; allocations = refl; taken = refl; connections = refl; since = refl; registers = e }

writes_alone : (rd value : ℕ) (m : Machine) → Alone m (writes rd value m)
writes_alone rd value m = goes_alone (next_pc m) (with_register rd value m.registers) m.memory m (length-with_register rd value m.registers)

jumps_alone : (target : ℕ) (registers : List ℕ) (m : Machine) → length registers ≡ length m.registers → Alone m (jumps target registers m)
jumps_alone target registers m e =
    cond_both _ (goes_on target registers m.memory m) (Fails BadJump) (Alone m) (λ _. goes_alone target registers m.memory m e) (λ _. tt)

-- a call that answers goes on
answered_alone : (value : ℕ) (m : Machine) → Alone m (Goes (answered value m))
answered_alone value m =
    record { heap_start = refl; heap_end = refl; allocations = refl; taken = refl; connections = refl; since = refl; registers = length-with_register 10 value m.registers }

branch_alone : (operation : BranchOp) (rs1 rs2 : ℕ) (imm : ℤ) (m : Machine) → Alone m (branch operation rs1 rs2 imm m)
branch_alone operation rs1 rs2 imm m =
    cond_both (is_taken operation (register m rs1) (register m rs2)) (jumps (displaced m.pc imm) m.registers m) (goes_on (next_pc m) m.registers m.memory m) (Alone m)
    (λ _. jumps_alone (displaced m.pc imm) m.registers m refl)
    (λ _. goes_alone (next_pc m) m.registers m.memory m refl)

load_alone : (operation : LoadOp) (rd rs1 : ℕ) (imm : ℤ) (m : Machine) → Alone m (load operation rd rs1 imm m)
load_alone operation rd rs1 imm m =
    cond_both _ (writes rd _ m) (Fails BadAccess) (Alone m) (λ _. writes_alone rd _ m) (λ _. tt)

store_alone : (operation : StoreOp) (rs1 rs2 : ℕ) (imm : ℤ) (m : Machine) → Alone m (store operation rs1 rs2 imm m)
store_alone operation rs1 rs2 imm m =
    cond_both _ (goes_on (next_pc m) m.registers _ m) (Fails BadAccess) (Alone m) (λ _. goes_alone (next_pc m) m.registers _ m refl) (λ _. tt)

-- what a send emits
emits_alone : (m : Machine) → ltb 65535 (register m 12) ≡ false → not (may_send m (register m 10)) ≡ false → eqb (register m 12) 0 ≡ false → Alone m (Emits (register m 10) (bytes_at read m.memory (register m 11) (register m 12)) (answered 0 m))
emits_alone m few allowed some =
    let e = length-bytes_at read m.memory (register m 11) (register m 12) in
    let low = ltb-false 65535 (register m 12) few in
    let far = eqb-false (register m 12) 0 some in
    (answered_alone 0 m, record { some = omega arith; few = omega arith; allowed = not-false (may_send m (register m 10)) allowed })

send_alone : (m : Machine) → Alone m (send m)
send_alone m =
    cond_both (ltb 65535 (register m 12)) (Goes (answered 2 m)) _ (Alone m) (λ _. answered_alone 2 m) (λ few.
    cond_both (not (may_send m (register m 10))) (Goes (answered 1 m)) _ (Alone m) (λ _. answered_alone 1 m) (λ allowed.
    cond_both (not (permitted read m.memory (register m 11) (register m 12))) (Fails BadAccess) _ (Alone m) (λ _. tt) (λ _.
    cond_both (eqb (register m 12) 0) (Goes (answered 0 m)) _ (Alone m) (λ _. answered_alone 0 m) (λ some.
    emits_alone m few allowed some))))

free_alone : (m : Machine) → Alone m (free m)
unfolding freed
free_alone m =
    record { heap_start = refl; heap_end = refl; allocations = refl; taken = refl; connections = refl; since = refl; registers = refl }

-- a call other than recv and those that ask the allocator needs neither
call_alone : (m : Machine) (number : ℕ) → eqb number 1 ≡ false → eqb number 3 ≡ false → eqb number 7 ≡ false → eqb number 8 ≡ false → Alone m (call number None None m)
call_alone m number no_recv no_malloc no_calloc no_realloc =
    rw (no_recv, no_malloc, no_calloc, no_realloc)
    (cond_both (eqb number 2) (send m) _ (Alone m) (λ _. send_alone m) (λ _.
    cond_both (eqb number 4) (free m) _ (Alone m) (λ _. free_alone m) (λ _.
    cond_both (eqb number 5) (Ends (register m 10)) _ (Alone m) (λ _. tt) (λ _.
    cond_both (eqb number 6) (Fails (AssertFailed (register m 10))) (Fails BadCall) (Alone m) (λ _. tt) (λ _. tt)))))

recv_shape : (m : Machine) (number : ℕ) → eqb number 1 ≡ true → Shape m (λ item choice. call number item choice m)
recv_shape m number is =
    elim (cases_Bool (permitted write m.memory (register m 10) (register m 11))) [
      | inl may ↦ Takes may (λ item choice. rw (is, may) refl)
      | inr not_may ↦ Same (Fails BadAccess) tt (λ item choice. rw (is, not_may) refl)
    ]

-- a call that asks the allocator takes the answer, or is bad
allocation_shape : (m : Machine) (ask : Ask) → Shape m (λ item choice. allocation ask choice m)
allocation_shape m ask =
    elim (cases_Bool (is_defined m.blocks ask)) [
      | inl good ↦ Picks ask good (λ item choice. rw good refl)
      | inr bad ↦ Same (Fails BadFree) tt (λ item choice. rw bad refl)
    ]

-- a call of a number that is known
numbered_shape : (m : Machine) (number known : ℕ) → eqb number known ≡ true → Shape m (λ item choice. call known item choice m) → Shape m (λ item choice. call number item choice m)
numbered_shape m number known is shape = subst (λ n. Shape m (λ item choice. call n item choice m)) (sym (eqb-true number known is)) shape

-- a call takes the next item, or the next answer of the allocator, or needs neither
call_shape : (m : Machine) (number : ℕ) → Shape m (λ item choice. call number item choice m)
call_shape m number =
    elim (cases_Bool (eqb number 1)) [
      | inl is ↦ recv_shape m number is
      | inr no_recv ↦ elim (cases_Bool (eqb number 3)) [
        | inl is ↦ numbered_shape m number 3 is (allocation_shape m (Malloc (register m 10)))
        | inr no_malloc ↦ elim (cases_Bool (eqb number 7)) [
          | inl is ↦ numbered_shape m number 7 is (allocation_shape m (Calloc (register m 10) (register m 11)))
          | inr no_calloc ↦ elim (cases_Bool (eqb number 8)) [
            | inl is ↦ numbered_shape m number 8 is (allocation_shape m (Realloc (register m 10) (register m 11)))
            | inr no_realloc ↦ Same (call number None None m) (call_alone m number no_recv no_malloc no_calloc no_realloc) (λ item choice. rw (no_recv, no_malloc, no_calloc, no_realloc) refl)
          ]
        ]
      ]
    ]

-- an instruction takes the next item, or the next answer of the allocator, or needs neither
pub instruction_shape : (instr : Instr) (m : Machine) → Shape m (λ item choice. instruction instr item choice m)
unfolding instruction
instruction_shape (Lui rd imm) m = Same _ (writes_alone rd _ m) (λ item choice. refl)
instruction_shape (Auipc rd imm) m = Same _ (writes_alone rd _ m) (λ item choice. refl)
instruction_shape (Jal rd imm) m = Same _ (jumps_alone _ (with_register rd (next_pc m) m.registers) m (length-with_register rd _ m.registers)) (λ item choice. refl)
instruction_shape (Jalr rd rs1 imm) m = Same _ (jumps_alone _ (with_register rd (next_pc m) m.registers) m (length-with_register rd _ m.registers)) (λ item choice. refl)
instruction_shape (Branch operation rs1 rs2 imm) m = Same _ (branch_alone operation rs1 rs2 imm m) (λ item choice. refl)
instruction_shape (Load operation rd rs1 imm) m = Same _ (load_alone operation rd rs1 imm m) (λ item choice. refl)
instruction_shape (Store operation rs1 rs2 imm) m = Same _ (store_alone operation rs1 rs2 imm m) (λ item choice. refl)
instruction_shape (OpImm operation rd rs1 imm) m = Same _ (writes_alone rd _ m) (λ item choice. refl)
instruction_shape (Op operation rd rs1 rs2) m = Same _ (writes_alone rd _ m) (λ item choice. refl)
instruction_shape (Fence word) m = Same _ (goes_alone (next_pc m) m.registers m.memory m refl) (λ item choice. refl)
instruction_shape Ecall m = call_shape m (register m 17)
instruction_shape Ebreak m = Same _ tt (λ item choice. refl)

executed_shape : (found : Option Instr) (m : Machine) → Shape m (λ item choice. executed found item choice m)
executed_shape None m = Same (Fails BadInstruction) tt (λ item choice. refl)
executed_shape (Some instr) m = instruction_shape instr m

-- what the machine does next takes the next item, or the next answer of the allocator, or needs neither
pub does_shape : (m : Machine) → Shape m (λ item choice. does item choice m)
unfolding does
does_shape m =
    elim (cases_Bool (permitted execute m.memory m.pc 4)) [
      | inl may ↦ does_of may (executed_shape (row (word_at m)) m)
      | inr not_may ↦ Same (Fails BadAccess) tt (λ item choice. rw not_may refl)
    ]
  where
    does_of : permitted execute m.memory m.pc 4 ≡ true → Shape m (λ item choice. executed (row (word_at m)) item choice m) → Shape m (λ item choice. does item choice m)
    does_of may (Same e alone is) = Same e alone (λ item choice. rw may (is item choice))
    does_of may (Takes into is) = Takes into (λ item choice. rw may (is item choice))
    does_of may (Picks ask good is) = Picks ask good (λ item choice. rw may (is item choice))
