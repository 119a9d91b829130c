-- How the pages of a store stand in its pool of frames.
use Rattle.std.specs.Prelude.{◌≡◌, ℕ, ◌+◌, ◌-◌, ◌*◌, ◌%◌, ◌<◌, ◌≤◌, true, false, ◌||◌, ◌==◌, nat_lt, if◌then◌else◌, Option, Some, None, List, [], ◌∷◌, ◌++◌, length, take, drop, map, All, slice_index}
use Rattle.cow_pages.specs.Pages.{Space, Pages, has, different}
use Rattle.cow_pages.specs.declared.slot.Slot.{Slot}
use Rattle.cow_pages.specs.declared.frame_copy.TheConstants.{PAGE}
use Rattle.cow_pages.specs.declared.moves.TheConstants.{MOST, RECENT}
use Rattle.cow_pages.specs.declared.store.TheConstants.{MAX_FRAMES_PER_PAGE, MAX_PAGES, MAX_SLOTS}

-- the bytes of frames, one after the other
abbrev pub contents : List ℕ → List ℕ → List ℕ
contents pool [] = []
contents pool (n ∷ numbers) = take PAGE (drop (PAGE * n) pool) ++ contents pool numbers

-- the space whose pages stand in these frames
abbrev pub space_of : List ℕ → List ℕ → Space
space_of pool numbers = record { numbers = numbers; bytes = contents pool numbers }

-- what is saved in a slot
abbrev pub slot_space : List ℕ → Slot → Option Space
slot_space pool slot = if slot.saved then Some (space_of pool slot.table.items) else None

-- what the fields of a store hold: reserved is how many free frames there is room for
pub record Parts : Type 0 where
  pub pages : ℕ
  pub frames : ℕ
  pub held : ℕ
  pub pool : List ℕ
  pub live : List ℕ
  pub counts : List ℕ
  pub free : List ℕ
  pub reserved : ℕ
  pub slots : List Slot

abbrev pub parts_of : (pages frames held : ℕ) (pool live counts free : List ℕ) (reserved : ℕ) (slots : List Slot) → Parts
parts_of pages frames held pool live counts free reserved slots = record {
  pages = pages;
  frames = frames;
  held = held;
  pool = pool;
  live = live;
  counts = counts;
  free = free;
  reserved = reserved;
  slots = slots;
}

-- what they are seen as
abbrev pub pages_of : Parts → Pages
pages_of parts = record {
  pages = parts.pages;
  frames = parts.frames;
  live = space_of parts.pool parts.live;
  slots = map (slot_space parts.pool) parts.slots;
}

-- the numbers that a slot keeps from use
abbrev pub slot_numbers : Slot → List ℕ
slot_numbers slot = if slot.saved then slot.table.items else []

-- those of all slots
abbrev pub table_numbers : List Slot → List ℕ
table_numbers [] = []
table_numbers (slot ∷ slots) = slot_numbers slot ++ table_numbers slots

-- how many times a number stands in a list
abbrev pub places : ℕ → List ℕ → ℕ
places n [] = 0
places n (x ∷ xs) = (if x == n then 1 else 0) + places n xs

-- the counts say of each number how many times a list has it, and none is past their end
pub record Counts (counts numbers : List ℕ) : Type 0 where
  pub each : (n : ℕ) → slice_index counts n ≡ places n numbers

-- the free frames: each stands once, no other one stands, and none has a count or is live
pub record IsStack (counts live free : List ℕ) : Type 0 where
  pub below : (k : ℕ) → k < length free → slice_index free k < length counts
  pub each : (n : ℕ) → n < length counts → places n free ≡ (if nat_lt 0 (slice_index counts n) || has n live then 0 else 1)

-- a table has a frame for each page, and each frame is that of one page in all tables
pub record IsTable (pages : ℕ) (homes table : List ℕ) : Type 0 where
  pub size : length table ≡ pages
  pub below : (page : ℕ) → page < pages → slice_index table page < length homes
  pub home : (page : ℕ) → page < pages → slice_index homes (slice_index table page) ≡ page

-- a table that can be counted once more: the counts are those of some numbers, and have room
pub record CanCount (counts table : List ℕ) : Type 0 where
  pub below : (k : ℕ) → k < length table → slice_index table k < length counts
  pub numbers : List ℕ
  pub counted : Counts counts numbers
  pub few : (n : ℕ) → places n table + places n numbers < 256

-- a live table and free frames that fit counts: each frame is that of one page
pub record CanGiveUp (counts live free : List ℕ) : Type 0 where
  pub homes : List ℕ
  pub many : length homes ≡ length counts
  pub live_is : IsTable (length live) homes live
  pub stack : IsStack counts live free

-- a table that counts are those of, beside other numbers, with a live one: a frame is that of one page in both
pub record CanUncount (counts table live free : List ℕ) : Type 0 where
  pub gives : CanGiveUp counts live free
  pub table_is : IsTable (length live) gives.homes table
  pub numbers : List ℕ
  pub counted : Counts counts (table ++ numbers)

-- the same where a frame of the live table can be counted once more beside the other numbers
pub record IsRenewed (counts table live free : List ℕ) : Type 0 where
  pub fits : CanUncount counts table live free
  pub few : (n : ℕ) → places n fits.numbers < 255

-- the first so many entries of a table are the live ones
abbrev pub SameUpTo : ℕ → List ℕ → List ℕ → Type 0
SameUpTo count table live = (k : ℕ) → k < count → slice_index table k ≡ slice_index live k

-- entries of a table that are the live ones stay so
abbrev pub StaySame : List ℕ → List ℕ → List ℕ → Type 0
StaySame old new live = (k : ℕ) → slice_index old k ≡ slice_index live k → slice_index new k ≡ slice_index live k

-- the pages at which a table isn't the live one are those of moves from one on, up to another one
abbrev pub StandFrom : ℕ → ℕ → List ℕ → List ℕ → List ℕ → Type 0
StandFrom from end recent table live = (k : ℕ) → k < length live → (slice_index table k ≡ slice_index live k → ⊥) → (n : ℕ) × (from ≤ n) × (n < end) × (slice_index recent (n % RECENT) ≡ k)

-- where the moves since a table was the live one are kept, they are those of the pages at which it isn't
abbrev pub AreMoved : ℕ → List ℕ → ℕ → List ℕ → List ℕ → Type 0
AreMoved count recent seen table live = count < MOST → count ≤ seen + RECENT → StandFrom seen count recent table live

-- the last moves are kept, and each is that of a page
pub record AreInside (pages : ℕ) (recent : List ℕ) : Type 0 where
  pub size : length recent ≡ RECENT
  pub below : (k : ℕ) → k < length recent → slice_index recent k < pages

-- The moves since a table was the live one: they are counted from then on, and where they are kept, they are those of the pages at which it isn't.
pub record IsLoggedSince (seen count : ℕ) (recent table live : List ℕ) : Type 0 where
  pub inside : AreInside (length table) recent
  pub order : seen ≤ count
  pub moved : AreMoved count recent seen table live

-- two places of a list of this length, the first at or before the second
pub record AreInOrder (start end size : ℕ) : Type 0 where
  pub order : start ≤ end
  pub inside : end ≤ size

-- counts became those of another table, whatever numbers they count beside it: so many numbers have a count that had none,
-- and so many have none that had one
pub record Recounts (counts table after next : List ℕ) (added removed : ℕ) : Type 0 where
  pub counted : (numbers : List ℕ) → Counts counts (table ++ numbers) → Counts after (next ++ numbers)
  pub turn : (numbers : List ℕ) → Counts counts (table ++ numbers) → added + different (table ++ numbers) ≡ removed + different (next ++ numbers)

-- a slot has room for a table, and where it is saved it has one
pub record IsSlot (pages : ℕ) (homes : List ℕ) (slot : Slot) : Type 0 where
  pub size : length slot.table.items ≡ pages
  pub table : slot.saved ≡ true → IsTable pages homes slot.table.items

-- pages and frames are as many as there may be
pub record AreBounded (pages frames : ℕ) : Type 0 where
  pub few : (1 ≤ pages) × (pages ≤ MAX_PAGES)
  pub enough : (2 * pages ≤ frames) × (frames ≤ MAX_FRAMES_PER_PAGE * pages)

-- the tables of the live space and of the slots: each frame is that of one page in all
pub record AreTables (pages frames : ℕ) (live : List ℕ) (slots : List Slot) : Type 0 where
  pub numbered : (1 ≤ length slots) × (length slots ≤ MAX_SLOTS)
  pub homes : List ℕ
  pub homes_size : length homes ≡ frames
  pub live_table : IsTable pages homes live
  pub slot_tables : All (IsSlot pages homes) slots

-- the counts are those of the numbers of all slots, which leave a frame for each page
pub record AreCounted (pages frames held : ℕ) (counts : List ℕ) (slots : List Slot) : Type 0 where
  pub counts_size : length counts ≡ frames
  pub counted : Counts counts (table_numbers slots)
  pub held_count : held ≡ different (table_numbers slots)
  pub room : held + pages ≤ frames

-- the tables, counts and free frames fit together
pub record IsSound (parts : Parts) : Type 0 where
  pub bounds : AreBounded parts.pages parts.frames
  pub pool_size : length parts.pool ≡ PAGE * parts.frames
  pub tables : AreTables parts.pages parts.frames parts.live parts.slots
  pub accounts : AreCounted parts.pages parts.frames parts.held parts.counts parts.slots
  pub reserved_room : parts.frames ≤ parts.reserved
  pub stack : IsStack parts.counts parts.live parts.free

-- a saved slot knows since which move its table is behind the live one
pub record IsLogged (count : ℕ) (recent live : List ℕ) (slot : Slot) : Type 0 where
  pub seen : slot.saved ≡ true → slot.seen ≤ count
  pub moved : slot.saved ≡ true → AreMoved count recent slot.seen slot.table.items live

-- the moves of pages are kept for all slots
pub record AreLogged (pages count : ℕ) (recent live : List ℕ) (slots : List Slot) : Type 0 where
  pub inside : AreInside pages recent
  pub each : All (IsLogged count recent live) slots

-- what is kept of a store
pub record IsKept (parts : Parts) (count : ℕ) (recent : List ℕ) : Type 0 where
  pub sound : IsSound parts
  pub logged : AreLogged parts.pages count recent parts.live parts.slots

-- the numbers from one on, in order
pub record IsRow (start end : ℕ) (row : List ℕ) : Type 0 where
  pub size : length row ≡ end - start
  pub each : (k : ℕ) → k < length row → slice_index row k ≡ start + k

-- slots that have room for tables, and in which nothing is saved
pub record AreBlank (count pages : ℕ) (slots : List Slot) : Type 0 where
  pub size : length slots ≡ count
  pub each : All (λ slot. (slot.saved ≡ false) × (length slot.table.items ≡ pages)) slots
