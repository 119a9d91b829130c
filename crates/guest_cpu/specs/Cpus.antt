-- What a contract sees of one guest with its checkpoints.
use Rattle.std.specs.Prelude.{◌≡◌, ℕ, ◌/◌, ◌≤◌, Bool, true, List, [], length, replicate, Option, Some, None, slice_get, All}
use Rattle.guest_cpu.specs.Terms.{SameEnds, empty_heap, PAGE, MAX_SLOTS, IsLine, Line, count_true, slots_of, written_pages, Slots, Image, base, heap_end, heap_start, memory_of, Area, start_machine, GuestPages, flat, saved_flat}
use Rattle.guest_cpu.specs.declared.guest_core.Core.{Core}
use Rattle.guest_cpu.specs.Standing.{Standing, standing, AreCounted, Live}
use Rattle.guest_cpu.specs.Turns.{HasHeap}

-- one guest: the rule of its accesses, where its window begins, its live state and those that are saved, and for each page
-- whether a byte of it was written since the checkpoint on which the live state stands
pub record CpuState (R : Type 0) : Type 0 where
  pub rule : R
  pub base : ℕ
  pub slots : Slots Standing
  pub written : List Bool

-- a guest at the start of its program
abbrev pub start_standing : Image → Standing
start_standing image = record {
  guest = record { machine = start_machine image; heap = empty_heap (heap_start image) (heap_end image) };
  sends = 0;
  steps = 0;
  ended = None;
}

-- what a guest has beside its memory at the start
pub record IsStartCore (image : Image) (core : Core) : Type 0 where
  pub standing_is : standing core (memory_of image) ≡ start_standing image
  pub start_is : core.book.start ≡ heap_start image
  pub end_is : core.book.end ≡ heap_end image
  pub counts : AreCounted core.marks

-- nothing is saved in a slot
abbrev pub nowhere : Standing
nowhere = record {
  guest = record {
    machine = record { pc = 0; registers = []; memory = []; heap_start = 0; heap_end = 0; blocks = []; allocations = 0; taken = 0; connections = []; since = 0 };
    heap = empty_heap 0 0;
  };
  sends = 0;
  steps = 0;
  ended = None;
}

-- where a guest stood when it was saved
abbrev pub saved_standing : Option Core → Option (List Area) → Standing
saved_standing (Some core) (Some memory) = standing core memory
saved_standing _ _ = nowhere

-- what is saved in a slot
abbrev pub state_in : GuestPages → List Core → ℕ → Standing
state_in space saved slot = saved_standing (slice_get saved slot) (saved_flat space slot)

module _ {R : Type 0} where
  -- what contracts see of a guest with its slots
  abbrev pub cpu_state : R → Core → GuestPages → List Core → Line → CpuState R
  cpu_state rule core space saved line = record {
    rule = rule;
    base = space.base;
    slots = slots_of (state_in space saved) (standing core (flat space)) space.store line;
    written = written_pages space.store line;
  }

  -- the live state of a guest
  abbrev pub live_of : CpuState R → Live
  live_of cpu = record { standing = cpu.slots.live; written = cpu.written }

  -- the guest with another live state, which stands on the same checkpoint
  abbrev pub with_live : Live → CpuState R → CpuState R
  with_live live cpu = record cpu { slots = record cpu.slots { live = live.standing; written = count_true live.written }; written = live.written }

  -- a guest that was just made: nothing is saved, and all pages count as written
  pub record IsFreshCpu (image : Image) (slots frames : ℕ) (rule : R) (cpu : CpuState R) : Type 0 where
    pub rule_is : cpu.rule ≡ rule
    pub base_is : cpu.base ≡ base image
    pub live_is : cpu.slots.live ≡ start_standing image
    pub none_saved : cpu.slots.saved ≡ []
    pub stands : cpu.slots.newer ≡ 0
    pub all_written : cpu.written ≡ replicate (image.window / PAGE) true
    pub written_is : cpu.slots.written ≡ image.window / PAGE
    pub count_is : cpu.slots.count ≡ slots
    pub pages_are : cpu.slots.pages ≡ image.window / PAGE
    pub frames_are : cpu.slots.frames ≡ frames

-- the parts of a guest fit together
pub record IsCpu (core : Core) (space : GuestPages) (saved : List Core) (line : Line) : Type 0 where
  pub line_is : IsLine space.store line
  pub heap : HasHeap core space
  pub counts : AreCounted core.marks
  pub each_slot : length saved ≡ length space.store.slots
  pub same : All (λ other. SameEnds core.book other.book × AreCounted other.marks) saved
  pub few : length space.store.slots ≤ MAX_SLOTS
