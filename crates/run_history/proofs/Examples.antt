-- The definitions at values that were worked out by hand from the RISC-V manual's formats and the ELF specification.
use Rattle.alloc_env.specs.declared.env.Env.TheVariants.{Delay, Pad, Plain}
use Rattle.rv_isa.specs.declared.instr.BranchOp.TheVariants.{Beq, Blt, Bgeu}
use Rattle.rv_isa.specs.declared.instr.LoadOp.TheVariants.{Lb, Lh, Lw, Lbu, Lhu}
use Rattle.rv_isa.specs.declared.instr.StoreOp.TheVariants.{Sb, Sh, Sw}
use Rattle.rv_isa.specs.declared.instr.ImmOp.TheVariants.{Addi, Srai}
use Rattle.rv_isa.specs.declared.instr.RegOp.TheVariants.{Add, Div}
use Rattle.guest_image.proofs.Examples.{echo_bytes, echo_image}
use Rattle.run_history.proofs.Terms.{Bool, List, None, Option, Some, [], false, map, refl, replicate, true, ℕ, ◌++◌, ◌∷◌, ◌≡◌, flat_map, negsuc, option_and_then, pos, Item, sent_to, Calloc, Malloc, Realloc, Choice, is_allowed, is_block, is_clear, may_carry, empty_heap, Branch, Ecall, Jal, Load, Lui, Op, OpImm, Store, displaced, extended, indirect_target, is_less_signed, quotient_signed, shifted_right_signed, word_sum, base_op, branch_op, branch_row, imm_op, imm_row, load_op, load_row, op_row, reg_op, row, store_op, store_row, system_row, funct3, funct7, imm_b, imm_i, imm_j, imm_s, imm_u, little_bytes, little_number, opcode, rd, rs1, rs2, base, heap_end, heap_start, zeros, Area, permitted, read, AssertFailed, BadAccess, BadCall, BadFree, BadJump, Hang, Chooses, Emits, Ends, Fails, Goes, Machine, State, register, start_machine, with_register, auipc, branch, ebreak, fence, jal, jalr, load, op, op_imm, store, allocated, answered, call, freed, received, send, set_bytes, does, instruction, next, run, Guest, Limits, Override, env_at, serves}

-- A program that sends back each message. Its words, as an assembler gives them:
abbrev pub echo : List ℕ
echo =
    0xfffff437
    ∷ 0x00810433
    ∷ 0x000014b7
    ∷ 0x00040513
    ∷ 0x00048593
    ∷ 0x00100893
    ∷ 0x00000073
    ∷ 0x00200293
    ∷ 0x00560463
    ∷ 0xfe9ff06f
    ∷ 0x00050313
    ∷ 0x00058513
    ∷ 0x00040593
    ∷ 0x00030613
    ∷ 0x00200893
    ∷ 0x00000073
    ∷ 0xfcdff06f
    ∷ []

-- and what they say:
pub echo_rows : map row echo ≡
    Some (Lui 8 (negsuc 4095))  -- lui x8, 0xfffff
    ∷ Some (Op Add 8 2 8)  -- add x8, x2, x8
    ∷ Some (Lui 9 (pos 4096))  -- lui x9, 1
    ∷ Some (OpImm Addi 10 8 (pos 0))  -- addi x10, x8, 0
    ∷ Some (OpImm Addi 11 9 (pos 0))  -- addi x11, x9, 0
    ∷ Some (OpImm Addi 17 0 (pos 1))  -- addi x17, x0, 1
    ∷ Some Ecall  -- ecall
    ∷ Some (OpImm Addi 5 0 (pos 2))  -- addi x5, x0, 2
    ∷ Some (Branch Beq 12 5 (pos 8))  -- beq x12, x5, 8
    ∷ Some (Jal 0 (negsuc 23))  -- jal x0, -24
    ∷ Some (OpImm Addi 6 10 (pos 0))  -- addi x6, x10, 0
    ∷ Some (OpImm Addi 10 11 (pos 0))  -- addi x10, x11, 0
    ∷ Some (OpImm Addi 11 8 (pos 0))  -- addi x11, x8, 0
    ∷ Some (OpImm Addi 12 6 (pos 0))  -- addi x12, x6, 0
    ∷ Some (OpImm Addi 17 0 (pos 2))  -- addi x17, x0, 2
    ∷ Some Ecall  -- ecall
    ∷ Some (Jal 0 (negsuc 51))  -- jal x0, -52
    ∷ []
unfolding row branch_row branch_op imm_row imm_op op_row reg_op base_op system_row opcode rd funct3 rs1 rs2 funct7 imm_i imm_b imm_u imm_j
echo_rows = refl

-- lw x7, -8(x2) and sw x5, -4(x2)
pub row_of_load : row 0xff812383 ≡ Some (Load Lw 7 2 (negsuc 7))
unfolding row load_row load_op opcode rd funct3 rs1 imm_i
row_of_load = refl

pub row_of_store : row 0xfe512e23 ≡ Some (Store Sw 2 5 (negsuc 3))
unfolding row store_row store_op opcode funct3 rs1 rs2 imm_s
row_of_store = refl

-- no instruction is all zeros or all ones
pub row_of_zeros : row 0x00000000 ≡ None
unfolding row opcode
row_of_zeros = refl

pub row_of_ones : row 0xffffffff ≡ None
unfolding row opcode
row_of_ones = refl

-- sub x5, x6, x7: the fields of the R format
pub fields_of_sub : opcode 0x407302b3 ∷ rd 0x407302b3 ∷ funct3 0x407302b3 ∷ rs1 0x407302b3 ∷ rs2 0x407302b3 ∷ funct7 0x407302b3 ∷ [] ≡ 0b0110011 ∷ 5 ∷ 0b000 ∷ 6 ∷ 7 ∷ 0b0100000 ∷ []
unfolding opcode rd funct3 rs1 rs2 funct7
fields_of_sub = refl

-- mulhu x31, x1, x16
pub fields_of_mulhu : opcode 0x0300bfb3 ∷ rd 0x0300bfb3 ∷ funct3 0x0300bfb3 ∷ rs1 0x0300bfb3 ∷ rs2 0x0300bfb3 ∷ funct7 0x0300bfb3 ∷ [] ≡ 0b0110011 ∷ 31 ∷ 0b011 ∷ 1 ∷ 16 ∷ 0b0000001 ∷ []
unfolding opcode rd funct3 rs1 rs2 funct7
fields_of_mulhu = refl

-- and x31, x31, x31
pub fields_of_and : opcode 0x01ffffb3 ∷ rd 0x01ffffb3 ∷ funct3 0x01ffffb3 ∷ rs1 0x01ffffb3 ∷ rs2 0x01ffffb3 ∷ funct7 0x01ffffb3 ∷ [] ≡ 0b0110011 ∷ 31 ∷ 0b111 ∷ 31 ∷ 31 ∷ 0 ∷ []
unfolding opcode rd funct3 rs1 rs2 funct7
fields_of_and = refl

-- immediates, the least and the greatest of each format: addi x5, x0, -1; -2048; 2047
pub immediates_i : imm_i 0xfff00293 ∷ imm_i 0x80000293 ∷ imm_i 0x7ff00293 ∷ [] ≡ negsuc 0 ∷ negsuc 2047 ∷ pos 2047 ∷ []
unfolding imm_i
immediates_i = refl

-- sw x5, -4(x2); -2048(x2); 2047(x2)
pub immediates_s : imm_s 0xfe512e23 ∷ imm_s 0x80512023 ∷ imm_s 0x7e512fa3 ∷ [] ≡ negsuc 3 ∷ negsuc 2047 ∷ pos 2047 ∷ []
unfolding imm_s
immediates_s = refl

-- beq x0, x0, -4096; 4094; 2048
pub immediates_b : imm_b 0x80000063 ∷ imm_b 0x7e000fe3 ∷ imm_b 0x000000e3 ∷ [] ≡ negsuc 4095 ∷ pos 4094 ∷ pos 2048 ∷ []
unfolding imm_b
immediates_b = refl

-- lui x9, 1; 0x80000; 0x7ffff
pub immediates_u : imm_u 0x000014b7 ∷ imm_u 0x800004b7 ∷ imm_u 0x7ffff4b7 ∷ [] ≡ pos 4096 ∷ negsuc 2147483647 ∷ pos 2147479552 ∷ []
unfolding imm_u
immediates_u = refl

-- jal x0, -1048576; 1048574; 2048; 4096
pub immediates_j : imm_j 0x8000006f ∷ imm_j 0x7ffff06f ∷ imm_j 0x0010006f ∷ imm_j 0x0000106f ∷ [] ≡ negsuc 1048575 ∷ pos 1048574 ∷ pos 2048 ∷ pos 4096 ∷ []
unfolding imm_j
immediates_j = refl

-- bytes of a number, the lowest first, and back
pub bytes_of_word : little_bytes 4 0xfffff437 ≡ 0x37 ∷ 0xf4 ∷ 0xff ∷ 0xff ∷ []
bytes_of_word = refl

pub low_bytes_of_word : little_bytes 2 0x12345678 ≡ 0x78 ∷ 0x56 ∷ []
low_bytes_of_word = refl

pub word_of_bytes : little_number (0x78 ∷ 0x56 ∷ 0x34 ∷ 0x12 ∷ []) ≡ 0x12345678
word_of_bytes = refl

pub echo_in_bytes : flat_map (little_bytes 4) echo ≡ echo_bytes
echo_in_bytes = refl

-- an address and an offset, modulo 2 ^ 32
pub offsets : displaced 0 (negsuc 3) ∷ displaced 4 (negsuc 3) ∷ displaced 4294967292 (pos 8) ∷ displaced 0x10040 (negsuc 51) ∷ displaced 0 (negsuc 4095) ∷ [] ≡ 0xfffffffc ∷ 0 ∷ 4 ∷ 0x1000c ∷ 0xfffff000 ∷ []
unfolding displaced
offsets = refl

-- A machine at the program's fourth word, with the program at 0 and a buffer of 8 bytes behind it. Connection 3 is
-- open; the list has something in place 0, which isn't seen.
abbrev pub waiting : Machine
waiting =
    record {
      pc = 12;
      registers =
          99 ∷ 0 ∷ 0 ∷ 0 ∷ 0 ∷ 0 ∷ 0 ∷ 0 ∷ 68 ∷ 8 ∷ 0 ∷ 0 ∷ 0 ∷ 0 ∷ 0 ∷ 0
          ∷ 0 ∷ 0 ∷ 0 ∷ 0 ∷ 0 ∷ 0 ∷ 0 ∷ 0 ∷ 0 ∷ 0 ∷ 0 ∷ 0 ∷ 0 ∷ 0 ∷ 0 ∷ 0
          ∷ [];
      memory = record { start = 0; flags = 5; bytes = echo_bytes } ∷ record { start = 68; flags = 6; bytes = 0 ∷ 0 ∷ 0 ∷ 0 ∷ 0 ∷ 0 ∷ 0 ∷ 0 ∷ [] } ∷ [];
      heap_start = 0x1000;
      heap_end = 0x2000;
      blocks = [];
      allocations = 0;
      taken = 0;
      connections = false ∷ false ∷ false ∷ true ∷ [];
      since = 0;
    }

pub register_zero : register waiting 0 ∷ register waiting 8 ∷ register waiting 9 ∷ [] ≡ 0 ∷ 68 ∷ 8 ∷ []
register_zero = refl

pub no_write_to_zero : with_register 0 5 (1 ∷ 2 ∷ 3 ∷ []) ≡ 1 ∷ 2 ∷ 3 ∷ []
no_write_to_zero = refl

pub write_to_two : with_register 2 5 (1 ∷ 2 ∷ 3 ∷ []) ≡ 1 ∷ 2 ∷ 5 ∷ []
write_to_two = refl

-- the start of the program: its entry, and the stack's top in x2
pub echo_start : (start_machine echo_image).pc ∷ register (start_machine echo_image) 1 ∷ register (start_machine echo_image) 2 ∷ register (start_machine echo_image) 31 ∷ [] ≡ 0x10000 ∷ 0 ∷ 0x410000 ∷ 0 ∷ []
unfolding start_machine
echo_start = refl

-- jumps: -12 from 12; 6 isn't a multiple of 4, which is a failure only if the branch is taken
pub jump_back : jal 0 (negsuc 11) waiting ≡ Goes (record waiting { pc = 0; since = 1 })
unfolding displaced
jump_back = refl

pub jump_below_zero : jal 0 (negsuc 15) waiting ≡ Goes (record waiting { pc = 0xfffffffc; since = 1 })
unfolding displaced
jump_below_zero = refl

pub jump_between : jal 1 (pos 6) waiting ≡ Fails BadJump
unfolding displaced
jump_between = refl

pub branch_between : branch Beq 0 1 (pos 6) waiting ≡ Fails BadJump
unfolding displaced
branch_between = refl

pub branch_not_taken : branch Beq 0 8 (pos 6) waiting ≡ Goes (record waiting { pc = 16; since = 1 })
branch_not_taken = refl

-- a branch on what it compares: 8 in x9 is less than 68 in x8
pub branch_taken : branch Blt 9 8 (negsuc 3) waiting ≡ Goes (record waiting { pc = 8; since = 1 })
unfolding displaced is_less_signed
branch_taken = refl

pub branch_passed : branch Bgeu 9 8 (negsuc 3) waiting ≡ Goes (record waiting { pc = 16; since = 1 })
branch_passed = refl

-- indirect jumps: bit 0 of the target is cleared, bit 1 isn't; the base is read before the return address is written
pub indirect_jump : jalr 8 8 (negsuc 2) waiting ≡ Goes (record waiting { pc = 64; registers = with_register 8 16 waiting.registers; since = 1 })
unfolding displaced indirect_target
indirect_jump = refl

pub indirect_jump_between : jalr 1 8 (pos 3) waiting ≡ Fails BadJump
unfolding displaced indirect_target
indirect_jump_between = refl

-- an upper immediate is added to the place of its own instruction
pub upper_to_pc : auipc 5 (negsuc 4095) waiting ≡ Goes (record waiting { pc = 16; registers = with_register 5 0xfffff00c waiting.registers; since = 1 })
unfolding displaced
upper_to_pc = refl

-- an ordering does nothing, and a breakpoint is a failed assertion
pub ordering : fence waiting ≡ Goes (record waiting { pc = 16; since = 1 })
ordering = refl

pub breakpoint : ebreak waiting ≡ Fails (AssertFailed 0)
breakpoint = refl

-- 68 divided by 0, and -256 shifted right with its sign
pub division_by_zero : op Div 5 8 0 waiting ≡ Goes (record waiting { pc = 16; registers = with_register 5 0xffffffff waiting.registers; since = 1 })
unfolding quotient_signed
division_by_zero = refl

pub shift_with_sign : op_imm Srai 5 9 (pos 4) (record waiting { registers = with_register 9 0xffffff00 waiting.registers }) ≡
    Goes (record waiting { pc = 16; registers = with_register 5 0xfffffff0 (with_register 9 0xffffff00 waiting.registers); since = 1 })
unfolding shifted_right_signed
shift_with_sign = refl

-- loads of the program's first word into x5 and into x0, and of the buffer's end
pub load_first : load Lw 5 0 (pos 0) waiting ≡ Goes (record waiting { pc = 16; registers = with_register 5 0xfffff437 waiting.registers; since = 1 })
unfolding permitted displaced
load_first = refl

pub load_into_zero : load Lw 0 0 (pos 0) waiting ≡ Goes (record waiting { pc = 16; since = 1 })
unfolding permitted displaced
load_into_zero = refl

pub load_past_the_end : load Lw 5 8 (pos 5) waiting ≡ Fails BadAccess
unfolding permitted displaced
load_past_the_end = refl

-- parts of the program's first word, 0xfffff437, with and without their signs
pub load_byte : load Lb 5 0 (pos 1) waiting ≡ Goes (record waiting { pc = 16; registers = with_register 5 0xfffffff4 waiting.registers; since = 1 })
unfolding permitted displaced extended
load_byte = refl

pub load_byte_unsigned : load Lbu 5 0 (pos 1) waiting ≡ Goes (record waiting { pc = 16; registers = with_register 5 0xf4 waiting.registers; since = 1 })
unfolding permitted displaced
load_byte_unsigned = refl

pub load_half : load Lh 5 0 (pos 0) waiting ≡ Goes (record waiting { pc = 16; registers = with_register 5 0xfffff437 waiting.registers; since = 1 })
unfolding permitted displaced extended
load_half = refl

-- across the seam between the program and the buffer
pub load_half_unsigned : load Lhu 5 8 (negsuc 0) waiting ≡ Goes (record waiting { pc = 16; registers = with_register 5 0xfc waiting.registers; since = 1 })
unfolding permitted displaced
load_half_unsigned = refl

-- stores into the buffer, and into the program
pub store_into_buffer : store Sw 8 9 (pos 4) waiting ≡
    Goes
    (record waiting {
      pc = 16;
      memory = record { start = 0; flags = 5; bytes = echo_bytes } ∷ record { start = 68; flags = 6; bytes = 0 ∷ 0 ∷ 0 ∷ 0 ∷ 8 ∷ 0 ∷ 0 ∷ 0 ∷ [] } ∷ [];
      since = 1;
    })
unfolding permitted displaced
store_into_buffer = refl

pub store_into_program : store Sw 0 8 (pos 0) waiting ≡ Fails BadAccess
unfolding permitted displaced
store_into_program = refl

-- the low bytes of a register, up to the buffer's end and past it
abbrev pub storing : Machine
storing = record waiting { registers = with_register 9 0x123456f8 waiting.registers }

pub store_byte : store Sb 8 9 (pos 7) storing ≡
    Goes
    (record storing {
      pc = 16;
      memory = record { start = 0; flags = 5; bytes = echo_bytes } ∷ record { start = 68; flags = 6; bytes = 0 ∷ 0 ∷ 0 ∷ 0 ∷ 0 ∷ 0 ∷ 0 ∷ 0xf8 ∷ [] } ∷ [];
      since = 1;
    })
unfolding permitted displaced
store_byte = refl

pub store_half : store Sh 8 9 (pos 6) storing ≡
    Goes
    (record storing {
      pc = 16;
      memory = record { start = 0; flags = 5; bytes = echo_bytes } ∷ record { start = 68; flags = 6; bytes = 0 ∷ 0 ∷ 0 ∷ 0 ∷ 0 ∷ 0 ∷ 0xf8 ∷ 0x56 ∷ [] } ∷ [];
      since = 1;
    })
unfolding permitted displaced
store_half = refl

pub store_half_past_the_end : store Sh 8 9 (pos 7) storing ≡ Fails BadAccess
unfolding permitted displaced
store_half_past_the_end = refl

-- sends: 65,536 bytes, a closed connection, one that isn't there, a buffer that isn't there, and no bytes
abbrev pub sending : ℕ → ℕ → ℕ → Machine
sending conn at count = record waiting { registers = with_register 10 conn (with_register 11 at (with_register 12 count waiting.registers)) }

pub send_too_long : send (sending 0 0 65536) ≡ Goes (answered 2 (sending 0 0 65536))
send_too_long = refl

pub send_to_closed : send (sending 0 0 65535) ≡ Goes (answered 1 (sending 0 0 65535))
send_to_closed = refl

pub send_to_absent : send (sending 5000 68 1) ≡ Goes (answered 1 (sending 5000 68 1))
send_to_absent = refl

pub send_past_the_end : send (sending 3 70 7) ≡ Fails BadAccess
unfolding permitted
send_past_the_end = refl

pub send_nothing : send (sending 3 5000 0) ≡ Goes (answered 0 (sending 3 5000 0))
unfolding permitted
send_nothing = refl

pub send_some : send (sending 3 64 5) ≡ Emits 3 (0x6f ∷ 0xf0 ∷ 0xdf ∷ 0xfc ∷ 0 ∷ []) (answered 0 (sending 3 64 5))
unfolding permitted
send_some = refl

-- a call with no such number, and an end
pub no_such_call : call 0 None None waiting ≡ Fails BadCall
no_such_call = refl

pub no_ninth_call : call 9 None None waiting ≡ Fails BadCall
no_ninth_call = refl

pub end_with_code : call 5 None None (sending 7 0 0) ≡ Ends 7
end_with_code = refl

pub failed_assertion : call 6 None None (sending 7 0 0) ≡ Fails (AssertFailed 7)
failed_assertion = refl

-- malloc of 20 bytes, with a block of 16 live at 0x1010: without an answer, and with null
abbrev pub asking : Machine
asking = record (sending 20 0 0) { blocks = (0x1010, 16) ∷ [] }

abbrev pub choosing : ℕ → Bool → Option Choice
choosing at zeroed = Some (record { ask = Malloc 20; at = at; zeroed = zeroed; carried = 0 })

pub malloc_unanswered : call 3 None None asking ≡ Chooses (Malloc 20)
malloc_unanswered = refl

pub malloc_null : call 3 None (choosing 0 false) asking ≡ Goes (record asking { pc = 16; registers = with_register 10 0 asking.registers; allocations = 1; since = 1 })
unfolding is_allowed is_block is_clear allocated set_bytes
malloc_null = refl

-- behind the live block, and in the first bytes of the heap, into which 20 bytes don't fit
pub malloc_behind : call 3 None (choosing 0x1020 false) asking ≡
    Goes (record asking { pc = 16; registers = with_register 10 0x1020 asking.registers; blocks = (0x1010, 16) ∷ (0x1020, 20) ∷ []; allocations = 1; since = 1 })
unfolding is_allowed is_block is_clear allocated set_bytes
malloc_behind = refl

pub malloc_overlaps : call 3 None (choosing 0x1000 false) asking ≡ Chooses (Malloc 20)
unfolding is_allowed is_block is_clear
malloc_overlaps = refl

-- no multiple of 16; past the end of the heap; null that is zeroed
pub malloc_unaligned : call 3 None (choosing 0x1028 false) asking ≡ Chooses (Malloc 20)
unfolding is_allowed is_block is_clear
malloc_unaligned = refl

pub malloc_past_the_end : call 3 None (choosing 0x1ff0 false) asking ≡ Chooses (Malloc 20)
unfolding is_allowed is_block is_clear
malloc_past_the_end = refl

pub malloc_zeroed_null : call 3 None (choosing 0 true) asking ≡ Chooses (Malloc 20)
unfolding is_allowed is_block is_clear
malloc_zeroed_null = refl

-- a calloc of 3 elements of 4 bytes, and a heap of 64 bytes that are 1, in which a block of 4 is live at 0x1010
abbrev heap_bytes : ℕ → ℕ → List ℕ → List ℕ → List Area
heap_bytes before behind old new = record { start = 0x1000; flags = 6; bytes = replicate 16 1 ++ old ++ replicate before 1 ++ new ++ replicate behind 1 } ∷ []

abbrev pub asking_again : ℕ → ℕ → Machine
asking_again first second = record asking {
  registers = with_register 10 first (with_register 11 second asking.registers);
  memory = heap_bytes 28 0 (1 ∷ 2 ∷ 3 ∷ 4 ∷ []) (replicate 16 1);
  heap_end = 0x1040;
  blocks = (0x1010, 4) ∷ [];
}

-- the machine once such a call was answered
abbrev pub answered_again : ℕ → ℕ → ℕ → List Area → List (ℕ × ℕ) → Machine
answered_again first second at memory blocks =
    record (asking_again first second) { pc = 16; registers = with_register 10 at (asking_again first second).registers; memory = memory; blocks = blocks; allocations = 1; since = 1 }

pub calloc_unanswered : call 7 None None (asking_again 3 4) ≡ Chooses (Calloc 3 4)
calloc_unanswered = refl

pub calloc_zeroes : call 7 None (Some (record { ask = Calloc 3 4; at = 0x1020; zeroed = true; carried = 0 })) (asking_again 3 4) ≡
    Goes (answered_again 3 4 0x1020 (heap_bytes 12 20 (1 ∷ 2 ∷ 3 ∷ 4 ∷ []) (replicate 12 0)) ((0x1010, 4) ∷ (0x1020, 12) ∷ []))
unfolding is_allowed is_block is_clear allocated set_bytes
calloc_zeroes = refl

pub calloc_unzeroed : call 7 None (Some (record { ask = Calloc 3 4; at = 0x1020; zeroed = false; carried = 0 })) (asking_again 3 4) ≡ Chooses (Calloc 3 4)
unfolding is_allowed is_block is_clear
calloc_unzeroed = refl

-- an answer whose numbers stand the other way round, and one to a malloc of as many bytes
pub calloc_swapped : call 7 None (Some (record { ask = Calloc 4 3; at = 0x1020; zeroed = true; carried = 0 })) (asking_again 3 4) ≡ Chooses (Calloc 3 4)
unfolding is_allowed
calloc_swapped = refl

pub calloc_as_malloc : call 7 None (Some (record { ask = Malloc 12; at = 0x1020; zeroed = true; carried = 0 })) (asking_again 3 4) ≡ Chooses (Calloc 3 4)
unfolding is_allowed
calloc_as_malloc = refl

-- a product that is 0 in 32 bits
pub calloc_too_many : call 7 None (Some (record { ask = Calloc 65536 65536; at = 0x1020; zeroed = true; carried = 0 })) (asking_again 65536 65536) ≡ Chooses (Calloc 65536 65536)
unfolding is_allowed is_block
calloc_too_many = refl

-- the block of 4 bytes becomes one of 6: its bytes are moved, and the two behind them stay; or are 0, where the answer is zeroed
pub realloc_grows : call 8 None (Some (record { ask = Realloc 0x1010 6; at = 0x1020; zeroed = false; carried = 0 })) (asking_again 0x1010 6) ≡
    Goes (answered_again 0x1010 6 0x1020 (heap_bytes 12 26 (1 ∷ 2 ∷ 3 ∷ 4 ∷ []) (1 ∷ 2 ∷ 3 ∷ 4 ∷ 1 ∷ 1 ∷ [])) ((0x1020, 6) ∷ []))
unfolding is_allowed is_block is_clear allocated set_bytes
realloc_grows = refl

pub realloc_zeroes : call 8 None (Some (record { ask = Realloc 0x1010 6; at = 0x1020; zeroed = true; carried = 0 })) (asking_again 0x1010 6) ≡
    Goes (answered_again 0x1010 6 0x1020 (heap_bytes 12 26 (1 ∷ 2 ∷ 3 ∷ 4 ∷ []) (1 ∷ 2 ∷ 3 ∷ 4 ∷ 0 ∷ 0 ∷ [])) ((0x1020, 6) ∷ []))
unfolding is_allowed is_block is_clear allocated set_bytes
realloc_zeroes = refl

-- one of 2; one of none
pub realloc_shrinks : call 8 None (Some (record { ask = Realloc 0x1010 2; at = 0x1020; zeroed = false; carried = 0 })) (asking_again 0x1010 2) ≡
    Goes (answered_again 0x1010 2 0x1020 (heap_bytes 12 30 (1 ∷ 2 ∷ 3 ∷ 4 ∷ []) (1 ∷ 2 ∷ [])) ((0x1020, 2) ∷ []))
unfolding is_allowed is_block is_clear allocated set_bytes
realloc_shrinks = refl

pub realloc_to_none : call 8 None (Some (record { ask = Realloc 0x1010 0; at = 0x1020; zeroed = false; carried = 0 })) (asking_again 0x1010 0) ≡
    Goes (answered_again 0x1010 0 0x1020 (heap_bytes 28 0 (1 ∷ 2 ∷ 3 ∷ 4 ∷ []) (replicate 16 1)) ((0x1020, 0) ∷ []))
unfolding is_allowed is_block is_clear allocated set_bytes
realloc_to_none = refl

-- the old block stands while the new one is placed, and stays where the answer is null
pub realloc_in_place : call 8 None (Some (record { ask = Realloc 0x1010 2; at = 0x1010; zeroed = false; carried = 0 })) (asking_again 0x1010 2) ≡ Chooses (Realloc 0x1010 2)
unfolding is_allowed is_block is_clear
realloc_in_place = refl

pub realloc_null : call 8 None (Some (record { ask = Realloc 0x1010 6; at = 0; zeroed = false; carried = 0 })) (asking_again 0x1010 6) ≡
    Goes (answered_again 0x1010 6 0 (heap_bytes 28 0 (1 ∷ 2 ∷ 3 ∷ 4 ∷ []) (replicate 16 1)) ((0x1010, 4) ∷ []))
unfolding is_allowed allocated set_bytes
realloc_null = refl

-- three bytes behind the four of the block are carried: they stand in the new one and behind it
abbrev pub asking_past : ℕ → Machine
asking_past size = record (asking_again 0x1010 size) { memory = heap_bytes 25 0 (1 ∷ 2 ∷ 3 ∷ 4 ∷ 5 ∷ 6 ∷ 7 ∷ []) (replicate 16 1) }

abbrev pub answered_past : ℕ → List Area → Machine
answered_past size memory =
    record (asking_past size) { pc = 16; registers = with_register 10 0x1020 (asking_past size).registers; memory = memory; blocks = (0x1020, size) ∷ []; allocations = 1; since = 1 }

abbrev pub carrying : ℕ → ℕ → ℕ → Bool → Option Choice
carrying size at carried zeroed = Some (record { ask = Realloc 0x1010 size; at = at; zeroed = zeroed; carried = carried })

pub realloc_carries : call 8 None (carrying 6 0x1020 3 false) (asking_past 6) ≡
    Goes (answered_past 6 (heap_bytes 9 25 (1 ∷ 2 ∷ 3 ∷ 4 ∷ 5 ∷ 6 ∷ 7 ∷ []) (1 ∷ 2 ∷ 3 ∷ 4 ∷ 5 ∷ 6 ∷ 7 ∷ [])))
unfolding is_allowed is_block is_clear may_carry allocated set_bytes
realloc_carries = refl

-- where the answer is zeroed, zeros stand behind what was carried, up to the block's end; or none, where that is past it
pub realloc_carries_zeroed : call 8 None (carrying 12 0x1020 3 true) (asking_past 12) ≡
    Goes (answered_past 12 (heap_bytes 9 20 (1 ∷ 2 ∷ 3 ∷ 4 ∷ 5 ∷ 6 ∷ 7 ∷ []) (1 ∷ 2 ∷ 3 ∷ 4 ∷ 5 ∷ 6 ∷ 7 ∷ 0 ∷ 0 ∷ 0 ∷ 0 ∷ 0 ∷ [])))
unfolding is_allowed is_block is_clear may_carry allocated set_bytes
realloc_carries_zeroed = refl

pub realloc_carries_past : call 8 None (carrying 2 0x1020 3 true) (asking_past 2) ≡
    Goes (answered_past 2 (heap_bytes 9 27 (1 ∷ 2 ∷ 3 ∷ 4 ∷ 5 ∷ 6 ∷ 7 ∷ []) (1 ∷ 2 ∷ 3 ∷ 4 ∷ 5 ∷ [])))
unfolding is_allowed is_block is_clear may_carry allocated set_bytes
realloc_carries_past = refl

-- no more may be carried than lie in the heap, nor any onto a live block, nor onto what is carried; and none beside null, nor by malloc
pub realloc_carries_too_many : call 8 None (carrying 6 0x1030 13 false) (asking_past 6) ≡ Chooses (Realloc 0x1010 6)
unfolding is_allowed is_block is_clear may_carry
realloc_carries_too_many = refl

pub realloc_carries_onto : call 8 None (carrying 6 0x1020 12 false) (record (asking_past 6) { blocks = (0x1010, 4) ∷ (0x102f, 1) ∷ [] }) ≡ Chooses (Realloc 0x1010 6)
unfolding is_allowed is_block is_clear may_carry
realloc_carries_onto = refl

pub realloc_carries_over : call 8 None (carrying 6 0x1020 13 false) (asking_past 6) ≡ Chooses (Realloc 0x1010 6)
unfolding is_allowed is_block is_clear may_carry
realloc_carries_over = refl

pub realloc_carries_null : call 8 None (carrying 6 0 3 false) (asking_past 6) ≡ Chooses (Realloc 0x1010 6)
unfolding is_allowed is_block is_clear
realloc_carries_null = refl

pub malloc_carries : call 3 None (Some (record { ask = Malloc 20; at = 0x1020; zeroed = false; carried = 1 })) asking ≡ Chooses (Malloc 20)
unfolding is_allowed is_block is_clear may_carry
malloc_carries = refl

-- of null it is as malloc; of what isn't live it is bad, answered or not
pub realloc_of_null : call 8 None (Some (record { ask = Realloc 0 6; at = 0x1020; zeroed = false; carried = 0 })) (asking_again 0 6) ≡
    Goes (answered_again 0 6 0x1020 (heap_bytes 28 0 (1 ∷ 2 ∷ 3 ∷ 4 ∷ []) (replicate 16 1)) ((0x1010, 4) ∷ (0x1020, 6) ∷ []))
unfolding is_allowed is_block is_clear allocated set_bytes
realloc_of_null = refl

pub realloc_of_none : call 8 None None (asking_again 0x1018 6) ≡ Fails BadFree
realloc_of_none = refl

-- free of a live block, and of an address at which none is live
pub free_live : call 4 None None (record asking { registers = with_register 10 0x1010 asking.registers }) ≡
    Goes (record asking { pc = 16; registers = with_register 10 0x1010 asking.registers; blocks = []; since = 1 })
unfolding freed
free_live = refl

pub free_nothing : call 4 None None asking ≡ Goes (record asking { pc = 16; since = 1 })
unfolding freed
free_nothing = refl

-- an empty budget is tested before all else, and the rule before the instruction is done; no word is fetched from where
-- none may be executed
abbrev pub forbidding : ℕ → Limits
forbidding budget = record { budget = budget; permits = λ heap at count. false; keep = 4; base = Plain }

abbrev pub guest : ℕ → Guest
guest pc = record { machine = record waiting { pc = pc }; heap = empty_heap 0x1000 0x2000 }

pub hang_first : serves (forbidding 0) Plain None (guest 5000) ≡ Fails Hang
unfolding serves
hang_first = refl

pub fetch_outside : does None None (record waiting { pc = 68 }) ≡ Fails BadAccess
unfolding does permitted
fetch_outside = refl

-- a plan: Pad from count 2 up to 7, after Delay from 4 up to 9
abbrev pub planned : List Override
planned = record { low = 4; until = 9; env = Delay } ∷ record { low = 2; until = 7; env = Pad } ∷ []

pub envs : map (env_at Plain planned) (0 ∷ 1 ∷ 2 ∷ 3 ∷ 4 ∷ 8 ∷ 9 ∷ []) ≡ Plain ∷ Plain ∷ Pad ∷ Pad ∷ Delay ∷ Delay ∷ Plain ∷ []
envs = refl

-- the sends of a connection, in their order
pub bytes_sent : sent_to 3 (record { conn = 3; bytes = 1 ∷ 2 ∷ []; taken = 1 } ∷ record { conn = 0; bytes = 9 ∷ []; taken = 1 } ∷ record { conn = 3; bytes = 3 ∷ []; taken = 2 } ∷ []) ≡ 1 ∷ 2 ∷ 3 ∷ []
bytes_sent = refl

pub none_sent : sent_to 1 (record { conn = 3; bytes = 1 ∷ 2 ∷ []; taken = 1 } ∷ []) ≡ []
none_sent = refl

-- the machine waits, and has received a message and sent it back
abbrev pub before : State
before = record { machine = waiting; sends = []; ended = None }

abbrev pub message : Item
message = record { kind = 2; conn = 3; bytes = 104 ∷ 105 ∷ [] }

-- three instructions, and then it wants an item
pub echo_waits : option_and_then (λ (s : State). Some s.machine.pc) (run [] [] before 3) ≡ Some 24
unfolding next does permitted instruction row branch_row branch_op imm_row imm_op op_row reg_op base_op system_row opcode rd funct3 rs1 rs2 funct7 imm_i imm_b imm_u imm_j received displaced word_sum
echo_waits = refl

pub echo_wants : run [] [] before 4 ≡ None
unfolding next does permitted instruction row branch_row branch_op imm_row imm_op op_row reg_op base_op system_row opcode rd funct3 rs1 rs2 funct7 imm_i imm_b imm_u imm_j received displaced word_sum
echo_wants = refl

-- with the message there, thirteen instructions send it back and are at the same place again
pub echo_answers : run (message ∷ []) [] before 13 ≡
    Some
    (record {
      machine =
          record {
            pc = 12;
            registers =
                99 ∷ 0 ∷ 0 ∷ 0 ∷ 0 ∷ 2 ∷ 2 ∷ 0 ∷ 68 ∷ 8 ∷ 0 ∷ 68 ∷ 2 ∷ 0 ∷ 0 ∷ 0
                ∷ 0 ∷ 2 ∷ 0 ∷ 0 ∷ 0 ∷ 0 ∷ 0 ∷ 0 ∷ 0 ∷ 0 ∷ 0 ∷ 0 ∷ 0 ∷ 0 ∷ 0 ∷ 0
                ∷ [];
            memory = record { start = 0; flags = 5; bytes = echo_bytes } ∷ record { start = 68; flags = 6; bytes = 104 ∷ 105 ∷ 0 ∷ 0 ∷ 0 ∷ 0 ∷ 0 ∷ 0 ∷ [] } ∷ [];
            heap_start = 0x1000;
            heap_end = 0x2000;
            blocks = [];
            allocations = 0;
            taken = 1;
            connections = false ∷ false ∷ false ∷ true ∷ [];
            since = 9;
          };
      sends = record { conn = 3; bytes = 104 ∷ 105 ∷ []; taken = 1 } ∷ [];
      ended = None;
    })
unfolding next does permitted instruction row branch_row branch_op imm_row imm_op op_row reg_op base_op system_row opcode rd funct3 rs1 rs2 funct7 imm_i imm_b imm_u imm_j received displaced word_sum
echo_answers = refl
