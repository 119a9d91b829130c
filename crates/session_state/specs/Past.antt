-- How the logic stores what proofs remember of the time before a session.
use Rattle.std.specs.Prelude.{ℕ, List, Option, Bool, refl}
use Rattle.std.specs.Coded.{Coded, code_by, coded_bool, coded_list, coded_option, coded_ℕ, coded×}
use Rattle.links.specs.contracts.journal.LinkEvent as link_event
use Rattle.block_book.specs.contracts.block.Block as block
use Rattle.block_book.specs.contracts.choice.Choice as choice
use Rattle.block_book.specs.contracts.site.Freed as freed
use Rattle.block_book.specs.declared.block.Block.{Block}
use Rattle.block_book.specs.declared.site.Freed.{Freed}
use Rattle.alloc_env.specs.contracts.env.Env as env
use Rattle.guest_image.specs.Memory.{Area}
use Rattle.session_state.specs.Terms.{Send, LinkEvent, Choice, Heap, Env, Machine, State, Override, Path, Before}

abbrev pub send_code : Coded Send
send_code = code_by (ℕ × (List ℕ × ℕ)) (coded× coded_ℕ (coded× (coded_list coded_ℕ) coded_ℕ)) (λ s. (s.conn, (s.bytes, s.taken))) (λ p. record { conn = p.0; bytes = p.1.0; taken = p.1.1 }) (λ _. refl)

abbrev pub override_code : Coded Override
override_code = code_by (ℕ × (ℕ × Env)) (coded× coded_ℕ (coded× coded_ℕ env.the_row.coded)) (λ o. (o.low, (o.until, o.env))) (λ p. record { low = p.0; until = p.1.0; env = p.1.1 }) (λ _. refl)

abbrev pub area_code : Coded Area
area_code = code_by (ℕ × (ℕ × List ℕ)) (coded× coded_ℕ (coded× coded_ℕ (coded_list coded_ℕ))) (λ a. (a.start, (a.flags, a.bytes))) (λ p. record { start = p.0; flags = p.1.0; bytes = p.1.1 }) (λ _. refl)

abbrev pub machine_code : Coded Machine
machine_code =
    code_by ((ℕ × (List ℕ × List Area)) × ((ℕ × (ℕ × List (ℕ × ℕ))) × ((ℕ × ℕ) × (List Bool × ℕ))))
    (coded× (coded× coded_ℕ (coded× (coded_list coded_ℕ) (coded_list area_code))) (coded× (coded× coded_ℕ (coded× coded_ℕ (coded_list (coded× coded_ℕ coded_ℕ)))) (coded× (coded× coded_ℕ coded_ℕ) (coded× (coded_list coded_bool) coded_ℕ))))
    (λ m. ((m.pc, (m.registers, m.memory)), ((m.heap_start, (m.heap_end, m.blocks)), ((m.allocations, m.taken), (m.connections, m.since)))))
    (λ p. record { pc = p.0.0; registers = p.0.1.0; memory = p.0.1.1; heap_start = p.1.0.0; heap_end = p.1.0.1.0; blocks = p.1.0.1.1; allocations = p.1.1.0.0; taken = p.1.1.0.1; connections = p.1.1.1.0; since = p.1.1.1.1 }) (λ _. refl)

abbrev pub state_code : Coded State
state_code = code_by (Machine × (List Send × Option ℕ)) (coded× machine_code (coded× (coded_list send_code) (coded_option coded_ℕ))) (λ s. (s.machine, (s.sends, s.ended))) (λ p. record { machine = p.0; sends = p.1.0; ended = p.1.1 }) (λ _. refl)

abbrev pub heap_code : Coded Heap
heap_code = code_by (ℕ × (ℕ × (List Block × List Freed))) (coded× coded_ℕ (coded× coded_ℕ (coded× (coded_list block.the_row.coded) (coded_list freed.the_row.coded)))) (λ h. (h.start, (h.end, (h.blocks, h.freed)))) (λ p. record { start = p.0; end = p.1.0; blocks = p.1.1.0; freed = p.1.1.1 }) (λ _. refl)

abbrev pub path_code : Coded Path
path_code = code_by (State × (Heap × (List Choice × ℕ))) (coded× state_code (coded× heap_code (coded× (coded_list choice.the_row.coded) coded_ℕ))) (λ p. (p.state, (p.heap, (p.choices, p.steps)))) (λ q. record { state = q.0; heap = q.1.0; choices = q.1.1.0; steps = q.1.1.1 }) (λ _. refl)

abbrev pub before_code : Coded Before
before_code = code_by (List LinkEvent × (List Send × (List Override × Option Path))) (coded× (coded_list link_event.the_row.coded) (coded× (coded_list send_code) (coded× (coded_list override_code) (coded_option path_code)))) (λ b. (b.events, (b.had, (b.plan, b.stood)))) (λ p. record { events = p.0; had = p.1.0; plan = p.1.1.0; stood = p.1.1.1 }) (λ _. refl)
