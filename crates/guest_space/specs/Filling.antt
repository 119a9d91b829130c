-- The bytes of segments in a window.
use Rattle.std.specs.Prelude.{◌≡◌, ℕ, ◌+◌, ◌-◌, ◌*◌, ◌^◌, ◌≤◌, List, [], ◌∷◌, length, replicate, None}
use Rattle.guest_space.specs.Terms.{All, PAGE, IsLawful, Pages, used_of, put_at, Segment}
use Rattle.guest_space.specs.Spans.{Span}
use Rattle.guest_space.specs.Space.{AreApart, LiesIn}

-- a window of bytes after the file's bytes of segments were put into it, one segment after the other
abbrev pub filled_bytes : ℕ → List Segment → List ℕ → List ℕ
filled_bytes base [] xs = xs
filled_bytes base (segment ∷ segments) xs = filled_bytes base segments (put_at (segment.vaddr - base) segment.filled xs)

-- the file's bytes of a segment lie in a window of so many pages
abbrev pub FilesIn : ℕ → ℕ → Segment → Type 0
FilesIn base pages segment = (base ≤ segment.vaddr) × (segment.vaddr + length segment.filled ≤ base + PAGE * pages)

-- the file's bytes of segments were put into the live space of a store, and nothing else changed
pub record Fills (old : Pages) (base : ℕ) (segments : List Segment) (new : Pages) : Type 0 where
  pub pages : new.pages ≡ old.pages
  pub frames : new.frames ≡ old.frames
  pub slots : new.slots ≡ old.slots
  pub bytes : new.live.bytes ≡ filled_bytes base segments old.live.bytes
  pub used : used_of new ≡ used_of old
  pub lawful : IsLawful new

-- a window below 2 ^ 32 whose spans lie in it apart, on a store in which nothing is saved
pub record IsFilled (start : ℕ) (spans : List Span) (store : Pages) : Type 0 where
  pub below : start + PAGE * store.pages ≤ 2 ^ 32
  pub within : All (LiesIn start store.pages) spans
  pub apart : AreApart spans
  pub empty : store.slots ≡ replicate (length store.slots) None
  pub lawful : IsLawful store
