-- Loads and stores of a guest's memory.
use Rattle.std.specs.Prelude.{◌≡◌, ℕ, ◌-◌, true, false, List, length, replicate, Some, None, IfSome, slice_set, Result, Ok, Err}
use Rattle.guest_space.specs.Terms.{held_of, slot_at, used_of, Writes, little_number, Image, base, memory_of, Area, bytes_at, permitted, put_bytes, write}
use Rattle.guest_space.specs.Space.{GuestPages, flat, saved_flat, spans_of, IsLawfulSpace}
use Rattle.guest_space.specs.declared.bad_access.BadAccess.{BadAccess}

-- a space as a program begins: the memory of its image, with nothing saved
pub record IsStart (image : Image) (pages slots frames : ℕ) (space : GuestPages) : Type 0 where
  pub base_is : space.base ≡ base image
  pub spans_are : space.spans ≡ spans_of image
  pub pages_are : space.store.pages ≡ pages
  pub frames_are : space.store.frames ≡ frames
  pub memory : flat space ≡ memory_of image
  pub empty : space.store.slots ≡ replicate slots None
  pub used : used_of space.store ≡ pages

-- the number of so many bytes was read, or they may not be read so
abbrev pub Reads : ℕ → List Area → ℕ → ℕ → Result ℕ BadAccess → Type 0
Reads flag memory at size (Ok value) = (permitted flag memory at size ≡ true) × (value ≡ little_number (bytes_at flag memory at size))
Reads flag memory at size (Err e) = permitted flag memory at size ≡ false

-- these bytes were written from an address on: into the flat memory, and on no other page than those that they touch
pub record Puts (old : GuestPages) (at : ℕ) (bytes : List ℕ) (new : GuestPages) : Type 0 where
  pub base_stays : new.base ≡ old.base
  pub spans_stay : new.spans ≡ old.spans
  pub code_stays : new.code ≡ old.code
  pub memory : flat new ≡ put_bytes (flat old) at bytes
  pub pages : Writes old.store new.store (at - old.base) bytes
  pub lawful : IsLawfulSpace new

-- bytes were written, or they may not be, and then nothing changed
abbrev pub Stores : GuestPages → ℕ → List ℕ → Result (Unit {0}) BadAccess → GuestPages → Type 0
Stores old at bytes (Ok done) new = (permitted write (flat old) at (length bytes) ≡ true) × Puts old at bytes new
Stores old at bytes (Err e) new = (permitted write (flat old) at (length bytes) ≡ false) × (new ≡ old)

-- the memory was saved in a slot
pub record Saves (old : GuestPages) (slot : ℕ) (new : GuestPages) : Type 0 where
  pub store_is : new ≡ record old { store = record old.store { slots = slice_set old.store.slots slot (Some old.store.live) } }
  pub used : used_of new.store ≡ used_of old.store
  pub held : held_of new.store ≡ used_of old.store
  pub lawful : IsLawfulSpace new

-- what was saved in a slot was given up, and the memory was saved there
pub record SavesOver (old : GuestPages) (slot : ℕ) (new : GuestPages) : Type 0 where
  pub store_is : new ≡ record old { store = record old.store { slots = slice_set old.store.slots slot (Some old.store.live) } }
  pub held : held_of new.store ≡ used_of new.store
  pub lawful : IsLawfulSpace new

-- what was saved in a slot was given up
pub record Releases (old : GuestPages) (slot : ℕ) (new : GuestPages) : Type 0 where
  pub store_is : new ≡ record old { store = record old.store { slots = slice_set old.store.slots slot None } }
  pub lawful : IsLawfulSpace new

-- the memory became what was saved in a slot
pub record Restores (old : GuestPages) (slot : ℕ) (new : GuestPages) : Type 0 where
  pub store_is : IfSome (slot_at old.store slot) (λ space. new ≡ record old { store = record old.store { live = space } })
  pub memory : Some (flat new) ≡ saved_flat old slot
  pub lawful : IsLawfulSpace new
