-- A guest's memory on shared pages: a window of pages, and the spans of it that may be touched.
use Rattle.std.specs.Prelude.{◌≡◌, ℕ, ◌+◌, ◌-◌, ◌*◌, ◌^◌, ◌≤◌, Bool, false, nat_lt, min, max, Option, option_map, List, [], ◌∷◌, ◌++◌, map, take, drop}
use Rattle.guest_space.specs.Terms.{All, AllPairs, PAGE, IsLawful, Pages, Space, slot_at, Table, Image, STACK, Segment, heap_end, heap_start, stack_top, Area}
pub use Rattle.guest_space.specs.Spans.{Span}
use Rattle.guest_space.specs.Code.{HasCode}

-- a window from a base on, its spans, the pages on which it stands, and the table of its code
pub record GuestPages : Type 0 where
  pub base : ℕ
  pub spans : List Span
  pub store : Pages
  pub code : Table

-- the memory of a window that begins here, with these spans, on these pages, with this table
abbrev pub guest_pages : ℕ → List Span → Pages → Table → GuestPages
guest_pages base spans store code = record { base = base; spans = spans; store = store; code = code }

-- the area of a span, whose bytes stand among those of the window
abbrev pub area_of : ℕ → List ℕ → Span → Area
area_of base bytes span = record { start = span.start; flags = span.flags; bytes = take (span.end - span.start) (drop (span.start - base) bytes) }

-- the flat memory of these spans, where these are the bytes of the window
unfoldable pub flat_of : ℕ → List Span → List ℕ → List Area
flat_of base spans bytes = map (area_of base bytes) spans

-- the flat memory that a guest's program sees
abbrev pub flat : GuestPages → List Area
flat space = flat_of space.base space.spans space.store.live.bytes

-- the flat memory that is saved in a slot
abbrev pub saved_flat : GuestPages → ℕ → Option (List Area)
saved_flat space slot = option_map (λ (saved : Space). flat_of space.base space.spans saved.bytes) (slot_at space.store slot)

-- a span lies in a window of so many pages
abbrev pub LiesIn : ℕ → ℕ → Span → Type 0
LiesIn base pages span = (base ≤ span.start) × (span.start ≤ span.end) × (span.end ≤ base + PAGE * pages)

-- two spans share an address
abbrev pub meet : Span → Span → Bool
meet a b = nat_lt (max a.start b.start) (min a.end b.end)

-- no two spans share one
abbrev pub AreApart : List Span → Type 0
AreApart spans = AllPairs (λ (a b : Span). meet a b ≡ false) spans

-- what holds of every guest's memory: the window lies below 2 ^ 32, the spans lie in it apart, the pages are lawful, and the table is
-- of code that stands there and that nothing changes
pub record IsLawfulSpace (space : GuestPages) : Type 0 where
  pub below : space.base + PAGE * space.store.pages ≤ 2 ^ 32
  pub within : All (LiesIn space.base space.store.pages) space.spans
  pub apart : AreApart space.spans
  pub store : IsLawful space.store
  pub code : HasCode space.base space.spans space.store space.code

-- the span of a segment
abbrev pub segment_span : Segment → Span
segment_span segment = record { flags = segment.flags; start = segment.vaddr; end = segment.vaddr + segment.memsz }

-- a span that may be read and written
abbrev pub blank_span : ℕ → ℕ → Span
blank_span start end = record { flags = 6; start = start; end = end }

-- the spans of an image: its segments, its heap and its stack
abbrev pub spans_of : Image → List Span
spans_of image =
    map segment_span image.segments ++ blank_span (heap_start image) (heap_end image) ∷ blank_span (stack_top image - STACK) (stack_top image) ∷ []
