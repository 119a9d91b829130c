-- Which checkpoints stand after a save.
use Rattle.std.specs.Prelude.{ℕ, zero, suc, ◌+◌, ◌-◌, ◌&&◌, Bool, List, ◌∷◌, length, sum, take, nat_le, if◌then◌else◌}
use Rattle.ckpt_ring.specs.Slots.{Slots, all_numbers, with_whole_oldest}

-- Whether checkpoints have room before which these numbers of pages were written, the newest first: there are no more of them than can stand, and the
-- frames hold all pages of the oldest, those written between it and the newest, and all pages once more.
abbrev pub has_room : ℕ → ℕ → ℕ → List ℕ → Bool
has_room count pages frames numbers = nat_le (length numbers) count && nat_le (pages + sum (take (length numbers - 1) numbers) + pages) frames

-- the largest number up to this one that passes a test; 0 where none does
abbrev pub largest : (ℕ → Bool) → ℕ → ℕ
largest test zero = zero
largest test (suc number) = if test (suc number) then suc number else largest test number

-- how many of such checkpoints stand: of the newest ones as many as have room
abbrev pub room_for : ℕ → ℕ → ℕ → List ℕ → ℕ
room_for count pages frames numbers = largest (λ number. has_room count pages frames (take number numbers)) (length numbers)

module _ {State : Type 0} where
  -- After a save: of the live state and the checkpoints behind it those stand that have room, the oldest of them with all pages as its number. The live
  -- state stands on the newest.
  abbrev pub saved_in_ring : Slots State → Slots State
  saved_in_ring slots = record slots {
    saved =
        with_whole_oldest slots.pages
        (take (room_for slots.count slots.pages slots.frames (all_numbers slots)) (record { state = slots.live; pages = slots.written } ∷ slots.saved));
    newer = 0;
    written = 0;
  }
