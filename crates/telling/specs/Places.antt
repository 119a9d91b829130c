-- What lies at an address of a guest.
use Rattle.std.specs.Prelude.{◌≡◌, ℕ, ◌-◌, ◌*◌, ◌/◌, ◌<◌, ◌≤◌, Bool, ◌&&◌, List, Option, Some, None, option_map, nat_le, nat_lt, if◌then◌else◌}
use Rattle.block_book.specs.declared.block.Block.{Block}
use Rattle.block_book.specs.declared.site.Freed.{Freed}
use Rattle.block_book.specs.Heap.{Heap, freed_at, starting_at}
use Rattle.guest_image.specs.Memory.{Area, permitted, read, write}
use Rattle.item_log.specs.Log.{Log}
use Rattle.telling.specs.declared.place.Gone.{Gone}
use Rattle.telling.specs.declared.place.Near.{Near}
use Rattle.telling.specs.declared.place.Place.{Place}
use Rattle.telling.specs.declared.place.TheConstants.{STEPS_DOWN}
use Rattle.telling.specs.declared.sighting.Access.{Access}
use Rattle.telling.specs.Items.{taken_last}

-- an address is one of the heap's
abbrev pub in_heap : Heap → ℕ → Bool
in_heap heap at = nat_le heap.start at && nat_lt at heap.end

-- Blocks begin at multiples of 16. This is the one at or below an address, or one so many multiples further down.
abbrev pub down_from : ℕ → ℕ → ℕ
down_from at back = 16 * (at / 16 - back)

-- a block begins so many multiples down, and none begins between there and the address
pub record IsFirstBelow (heap : Heap) (at : ℕ) (block : Block) : Type 0 where
  pub back : ℕ
  pub close : back < STEPS_DOWN
  pub within : back ≤ at / 16
  pub stands : starting_at heap (down_from at back) ≡ Some block
  pub none_nearer : (k : ℕ) → k < back → starting_at heap (down_from at k) ≡ None

-- The block that begins at an address or next below it; none where no block begins at any of so many multiples.
abbrev pub IsNearest : Heap → ℕ → Option Block → Type 0
IsNearest heap at None = (k : ℕ) → k < STEPS_DOWN → k ≤ at / 16 → starting_at heap (down_from at k) ≡ None
IsNearest heap at (Some block) = IsFirstBelow heap at block

-- a block, with the item that was taken last where it was asked for
abbrev pub near_of : Log → Block → Near
near_of log block = record { block = block; made_for = taken_last log block.made.taken }

-- a block that was freed, with the items that were taken last where it was asked for and where it was freed
abbrev pub gone_of : Log → Freed → Gone
gone_of log freed = record { freed = freed; made_for = taken_last log freed.block.made.taken; freed_for = taken_last log freed.by.taken }

-- the block that was freed last of those that had an address
abbrev pub gone_at : Heap → Log → ℕ → Option Gone
gone_at heap log at = option_map (gone_of log) (freed_at heap at)

-- what lies where an access goes
pub record IsPlace (memory : List Area) (heap : Heap) (log : Log) (access : Access) (place : Place) : Type 0 where
  pub allowed : place.allowed ≡ permitted (if access.write then write else read) memory access.at access.count
  pub within : place.in_heap ≡ in_heap heap access.at
  pub block : Option Block
  pub nearest : IsNearest heap access.at block
  pub below : place.below ≡ option_map (near_of log) block
  pub gone : place.gone ≡ gone_at heap log access.at
