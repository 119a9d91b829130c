-- The definitions at values: a guest that sends back each message comes to its recv, takes a message, and comes to its send.
use Rattle.rv_isa.specs.Words.{opcode, rd, funct3, rs1, rs2, funct7, imm_i, imm_b, imm_u, imm_j}
use Rattle.alloc_env.specs.declared.env.Env.TheVariants.{Plain}
use Rattle.guest_image.proofs.Examples.{echo_bytes}
use Rattle.run_history.proofs.Examples.{waiting, before, message}
use Rattle.guest_cpu.proofs.Terms.{List, None, Some, [], arith, false, refl, true, ℕ, ◌∷◌, Ok, Item, empty_heap, displaced, word_sum, base_op, branch_op, branch_row, imm_op, imm_row, op_row, reg_op, row, system_row, permitted, Hang, received, Machine, with_register, does, instruction, AsksFor, Limits, Path, grant, serves, instruction_at, touched, Live, Standing, quiet_next, turn, turn_to, taken_standing, RunsBy, standing_of, IsBounded, RunsOn, TakesOn, TakesWriting}
use Rattle.guest_cpu.specs.declared.event.Event.TheVariants as event
use Rattle.guest_cpu.proofs.RunLemmas.{runs_serve}
use Rattle.guest_cpu.proofs.TakeLemmas.{takes_serve, takes_write}

-- every byte may be touched
abbrev allowing : ℕ → Limits
allowing budget = record { budget = budget; permits = λ heap place count. true; keep = 4; base = Plain }

abbrev live : Standing → Live
live standing = record { standing = standing; written = [] }

-- before the three instructions in front of the recv, and behind them
abbrev begun : Path
begun = record { state = before; heap = empty_heap 0x1000 0x2000; choices = []; steps = 0 }

abbrev at_recv : Machine
at_recv = record waiting { pc = 24; registers = with_register 17 1 (with_register 11 8 (with_register 10 68 waiting.registers)); since = 3 }

abbrev asked : Path
asked = record { state = record before { machine = at_recv }; heap = empty_heap 0x1000 0x2000; choices = []; steps = 3 }

waits : RunsBy event.Emits (turn (allowing 4) Plain) 0 (live (standing_of begun)) (Ok event.Asks) (live (standing_of asked))
unfolding turn quiet_next serves grant instruction_at touched does permitted instruction row branch_row branch_op imm_row imm_op op_row reg_op base_op system_row opcode rd funct3 rs1 rs2 funct7 imm_i imm_b imm_u imm_j received displaced word_sum
waits = record { count = 3; before = live (standing_of asked); quiet = refl; last = turn_to (Some event.Asks) (standing_of asked) None; turns = refl; is_event = refl; left = refl }

-- so the run goes on to its request for item 0, whatever items were received
waits_as_run : (items : List Item) → RunsOn (allowing 4) items [] begun (Ok event.Asks) (standing_of asked)
waits_as_run items = runs_serve (allowing 4) items [] Plain 0 begun (live (standing_of begun)) (live (standing_of asked)) (Ok event.Asks) refl refl refl waits

-- with a budget of three instructions the recv is one too many
hangs : RunsBy event.Emits (turn (allowing 3) Plain) 0 (live (standing_of begun)) (Ok (event.Failed Hang)) (live (standing_of asked))
unfolding turn quiet_next serves grant instruction_at touched does permitted instruction row branch_row branch_op imm_row imm_op op_row reg_op base_op system_row opcode rd funct3 rs1 rs2 funct7 imm_i imm_b imm_u imm_j received displaced word_sum
hangs = record { count = 3; before = live (standing_of asked); quiet = refl; last = turn_to (Some (event.Failed Hang)) (standing_of asked) None; turns = refl; is_event = refl; left = refl }

-- it stands at its request, and takes the message that is there
asks_first : AsksFor (allowing 8) [] asked 0
unfolding serves grant instruction_at touched does permitted instruction row branch_row branch_op imm_row imm_op op_row reg_op base_op system_row opcode rd funct3 rs1 rs2 funct7 imm_i imm_b imm_u imm_j received displaced word_sum
asks_first = record { lives = refl; taken = refl; asks = refl }

takes_first : TakesOn (allowing 8) (message ∷ []) [] asked message
takes_first = takes_serve (allowing 8) (message ∷ []) [] asked message asks_first refl

-- the two bytes are in the first of two pages
takes_page : TakesWriting (allowing 8) (message ∷ []) [] 0 asked (false ∷ false ∷ []) message (true ∷ false ∷ [])
takes_page = takes_write (allowing 8) (message ∷ []) [] 0 asked (false ∷ false ∷ []) message asks_first refl

-- seven instructions later it sends the two bytes back, to the connection from which they came
abbrev at_reply : Machine
at_reply =
    record waiting {
      pc = 64;
      registers =
          99 ∷ 0 ∷ 0 ∷ 0 ∷ 0 ∷ 2 ∷ 2 ∷ 0 ∷ 68 ∷ 8 ∷ 0 ∷ 68 ∷ 2 ∷ 0 ∷ 0 ∷ 0
          ∷ 0 ∷ 2 ∷ 0 ∷ 0 ∷ 0 ∷ 0 ∷ 0 ∷ 0 ∷ 0 ∷ 0 ∷ 0 ∷ 0 ∷ 0 ∷ 0 ∷ 0 ∷ 0
          ∷ [];
      memory = record { start = 0; flags = 5; bytes = echo_bytes } ∷ record { start = 68; flags = 6; bytes = 104 ∷ 105 ∷ 0 ∷ 0 ∷ 0 ∷ 0 ∷ 0 ∷ 0 ∷ [] } ∷ [];
      taken = 1;
      since = 8;
    }

abbrev replied : Standing
replied = record { guest = record { machine = at_reply; heap = empty_heap 0x1000 0x2000 }; sends = 1; steps = 12; ended = None }

abbrev before_reply : Standing
before_reply = record replied {
  guest = record {
    machine =
        record at_reply {
          pc = 60;
          registers =
              99 ∷ 0 ∷ 0 ∷ 0 ∷ 0 ∷ 2 ∷ 2 ∷ 0 ∷ 68 ∷ 8 ∷ 3 ∷ 68 ∷ 2 ∷ 0 ∷ 0 ∷ 0
              ∷ 0 ∷ 2 ∷ 0 ∷ 0 ∷ 0 ∷ 0 ∷ 0 ∷ 0 ∷ 0 ∷ 0 ∷ 0 ∷ 0 ∷ 0 ∷ 0 ∷ 0 ∷ 0
              ∷ [];
          since = 7;
        };
    heap = empty_heap 0x1000 0x2000;
  };
  sends = 0;
  steps = 11;
}

replies : RunsBy event.Emits (turn (allowing 8) Plain) 0 (live (taken_standing message (standing_of asked))) (Ok (event.Emits 3 (104 ∷ 105 ∷ []))) (live replied)
unfolding turn quiet_next serves grant instruction_at touched does permitted instruction row branch_row branch_op imm_row imm_op op_row reg_op base_op system_row opcode rd funct3 rs1 rs2 funct7 imm_i imm_b imm_u imm_j received displaced word_sum
replies = record { count = 7; before = live before_reply; quiet = refl; last = turn_to (Some (event.Emits 3 (104 ∷ 105 ∷ []))) replied None; turns = refl; is_event = refl; left = refl }

-- the bound of a run that took one item, and has done the two instructions since that its budget allows: five in all, and not six
abbrev counted : ℕ → Path
counted steps = record begun { state = record before { machine = record waiting { taken = 1; since = 2 } }; steps = steps }

bound_reached : IsBounded 2 (counted 5)
bound_reached = record { since = omega arith; steps = omega arith }

bound_passed : IsBounded 2 (counted 6) → ⊥
bound_passed bound = absurd (omega (arith, bound.steps))
