-- A space as a program begins.
use Rattle.std.proofs.lemmas.List.Quantifiers.{all_pairs_push}
use Rattle.std.proofs.Math.Bool.{and-false}
use Rattle.guest_image.proofs.Valid.{stack_top_below, heap_has_page, heap_ends, segments_above, segments_below, segments_apart, some_segment}
use Rattle.guest_space.proofs.Terms.{List, None, [], ap, ap₂, arith, cond, drop, false, get_or, length, map, refl, replicate, subst, suc, sym, take, zero, ℕ, ◌&&◌, ◌*◌, ◌++◌, ◌+◌, ◌-◌, ◌/◌, ◌<◌, ◌^◌, ◌∙◌, ◌∷◌, ◌≡◌, ◌≤◌, nat_tests, append_assoc, at_drop_more, drop-replicate, get_or-map, length-map, length-replicate, map-append, take-replicate, All-append, All-cons, All-head, All-map, All-nil, All-push, All-weaker, All, AllPairs, PAGE, IsLawful, IsMade, Pages, has, saved_numbers, used_of, Writes, copied_pages, is_shared, reaches, Table, Image, STACK, Segment, base, blank_area, heap_end, heap_start, memory_of, segment_area, stack_top, zeros, IsPlaced, share_byte, Area, AreApart, IsLawfulSpace, LiesIn, Span, area_of, blank_span, flat_of, guest_pages, meet, segment_span, spans_of, IsStart, HasCode, FilesIn, Fills, IsFilled, filled_bytes}
use Rattle.guest_space.proofs.FillLemmas.{IsThere, IsBlank, keeps, segments_flat, span_lies}

-- nothing is shared where nothing is saved
saved_none : (n : ℕ) → saved_numbers (replicate n None) ≡ []
saved_none zero = refl
saved_none (suc n) = saved_none n

copied_none : (store : Pages) (at count pages n : ℕ) → store.slots ≡ replicate n None → copied_pages store at count pages ≡ 0
copied_none store at count zero n empty = refl
copied_none store at count (suc page) n empty =
    let lone : is_shared store page ≡ false = ap (λ slots. has (get_or store.live.numbers page 0) (saved_numbers slots)) empty ∙ ap (has (get_or store.live.numbers page 0)) (saved_none n) in
    let none : copied_pages store at count page ≡ 0 = copied_none store at count page n empty in
    ap (λ b. copied_pages store at count page + cond (reaches at count page && b) 1 0) lone
    ∙ ap (λ b. copied_pages store at count page + cond b 1 0) (and-false (reaches at count page))
    ∙ ap (λ m. m + 0) none

-- the segments so far are filled
pub record Filling (old : Pages) (base i : ℕ) (segments : List Segment) (now : Pages) : Type 0 where
  pub pages : now.pages ≡ old.pages
  pub frames : now.frames ≡ old.frames
  pub slots : now.slots ≡ old.slots
  pub bytes : filled_bytes base (drop i segments) now.live.bytes ≡ filled_bytes base segments old.live.bytes
  pub used : used_of now ≡ used_of old
  pub lawful : IsLawful now

pub filling_more : (old mid new : Pages) (base i : ℕ) (segments : List Segment) (segment : Segment) → Filling old base i segments mid → i < length segments → segment ≡ get_or segments i segment → old.slots ≡ replicate (length old.slots) None → Writes mid new (segment.vaddr - base) segment.filled → IsLawful new → Filling old base (i + 1) segments new
filling_more old mid new base i segments segment so less is empty wrote lawful =
    let none : copied_pages mid (segment.vaddr - base) (length segment.filled) mid.pages ≡ 0 = copied_none mid (segment.vaddr - base) (length segment.filled) mid.pages (length old.slots) (so.slots ∙ empty) in
    record {
      pages = wrote.pages ∙ so.pages;
      frames = wrote.frames ∙ so.frames;
      slots = wrote.slots ∙ so.slots;
      bytes = ap (filled_bytes base (drop (i + 1) segments)) wrote.written
          ∙ ap (λ s. filled_bytes base (s ∷ drop (i + 1) segments) mid.live.bytes) is
          ∙ sym (at_drop_more (λ ss. filled_bytes base ss mid.live.bytes) segments i segment less)
          ∙ so.bytes;
      used = omega (arith, wrote.used, none, so.used);
      lawful = lawful;
    }

-- the window of an image has its pages
pub window_pages : (image : Image) → stack_top image ≡ base image + PAGE * (image.window / PAGE)
window_pages image = let whole = image.in_window.whole in omega arith

pub segment_end : (image : Image) (i : ℕ) (segment : Segment) → i < length image.segments → segment ≡ get_or image.segments i segment → segment.vaddr + segment.memsz < 2 ^ 32
segment_end image i segment less is =
    let below = subst (λ (s : Segment). s.vaddr + s.memsz ≤ heap_start image) (sym is) (segments_below image i segment less) in
    omega (arith, below, heap_has_page image, heap_ends image, stack_top_below image)

-- its segments lie there
segments_there : (image : Image) → All (IsThere (base image) (image.window / PAGE)) image.segments
segments_there image = λ k d less.
    let placed : IsPlaced (get_or image.segments k d) = image.placed k d less in
    record {
      above = segments_above image k d less;
      below = omega (arith, segments_below image k d less, heap_has_page image, heap_ends image, window_pages image);
      some = placed.some;
      given = placed.given;
    }

pub files_there : (image : Image) (pages : ℕ) → pages ≡ image.window / PAGE → All (FilesIn (base image) pages) image.segments
files_there image pages is = λ k d less.
    let one : IsThere (base image) (image.window / PAGE) (get_or image.segments k d) = segments_there image k d less in
    (one.above, omega (arith, one.below, one.given, is))

under : (b h : ℕ) (segments : List Segment) → 0 < length segments → All (λ (s : Segment). b ≤ s.vaddr) segments → All (λ (s : Segment). s.vaddr + s.memsz ≤ h) segments → b ≤ h
under b h [] some above below = absurd (omega arith)
under b h (segment ∷ segments) some above below =
    omega (arith, All-head (λ (s : Segment). b ≤ s.vaddr) segment segments above, All-head (λ (s : Segment). s.vaddr + s.memsz ≤ h) segment segments below)

heap_above : (image : Image) → base image ≤ heap_start image
heap_above image = under (base image) (heap_start image) image.segments (some_segment image) (segments_above image) (segments_below image)

-- its spans
abbrev pub heap_of : Image → Span
heap_of image = blank_span (heap_start image) (heap_end image)

abbrev pub stack_of : Image → Span
stack_of image = blank_span (stack_top image - STACK) (stack_top image)

in_order : (a b : Span) → a.end ≤ b.start → meet a b ≡ false
in_order a b before = grind (arith, nat_tests)

segment_spans_apart : (segments : List Segment) → AllPairs (λ (a b : Segment). share_byte a b ≡ false) segments → AreApart (map segment_span segments)
segment_spans_apart [] apart = λ i j d before less. absurd (omega arith)
segment_spans_apart (segment ∷ segments) apart = λ i j d before less.
    let xs : List Segment = segment ∷ segments in
    let size : length (map segment_span xs) ≡ length xs = length-map xs segment_span in
    ap₂ meet (get_or-map segment_span xs i segment d (omega arith)) (get_or-map segment_span xs j segment d (omega arith))
    ∙ apart i j segment before (omega arith)

-- each segment ends before the heap does, and before the stack
ends_before : (image : Image) (limit : ℕ) → heap_start image ≤ limit → All (λ (s : Span). s.end ≤ limit) (map segment_span image.segments)
ends_before image limit later =
    All-map (λ (s : Span). s.end ≤ limit) segment_span image.segments
    (All-weaker (λ (s : Segment). s.vaddr + s.memsz ≤ heap_start image) (λ (s : Segment). s.vaddr + s.memsz ≤ limit) (λ s h. omega arith) image.segments (segments_below image))

pub all_apart : (image : Image) → AreApart (spans_of image)
all_apart image =
    let spans : List Span = map segment_span image.segments in
    let heap : Span = heap_of image in
    let stack : Span = stack_of image in
    let page = heap_has_page image in
    let ends = heap_ends image in
    let first : AreApart (spans ++ heap ∷ []) =
    all_pairs_push (λ (a b : Span). meet a b ≡ false) spans heap (segment_spans_apart image.segments (segments_apart image))
    (λ k d less. in_order (get_or spans k d) heap (ends_before image (heap_start image) (omega arith) k d less)) in
    let before : All (λ (s : Span). s.end ≤ stack_top image - STACK) (spans ++ heap ∷ []) =
    All-push (λ (s : Span). s.end ≤ stack_top image - STACK) spans heap (ends_before image (stack_top image - STACK) (omega arith)) (omega arith) in
    subst AreApart (append_assoc spans (heap ∷ []) (stack ∷ []))
    (all_pairs_push (λ (a b : Span). meet a b ≡ false) (spans ++ heap ∷ []) stack first (λ k d less. in_order (get_or (spans ++ heap ∷ []) k d) stack (before k d less)))

heap_lies : (image : Image) → LiesIn (base image) (image.window / PAGE) (heap_of image)
heap_lies image = (heap_above image, omega (arith, heap_has_page image), omega (arith, heap_ends image, window_pages image))

stack_lies : (image : Image) → LiesIn (base image) (image.window / PAGE) (stack_of image)
stack_lies image = (
  omega (arith, heap_above image, heap_has_page image, heap_ends image),
  omega arith,
  omega (arith, window_pages image),
)

pub all_lie : (image : Image) → All (LiesIn (base image) (image.window / PAGE)) (spans_of image)
all_lie image =
    let P : Span → Type 0 = LiesIn (base image) (image.window / PAGE) in
    All-append P (map segment_span image.segments) (heap_of image ∷ stack_of image ∷ [])
    (All-map P segment_span image.segments (All-weaker (IsThere (base image) (image.window / PAGE)) (λ s. P (segment_span s)) (span_lies (base image) (image.window / PAGE)) image.segments (segments_there image)))
    (All-cons P (heap_of image) (stack_of image ∷ []) (heap_lies image) (All-cons P (stack_of image) [] (stack_lies image) (All-nil P)))

-- zeros are left where no segment is
blank_flat : (base pages start end : ℕ) (segments : List Segment) (xs : List ℕ) → All (IsThere base pages) segments → xs ≡ replicate (PAGE * pages) 0 → LiesIn base pages (blank_span start end) → start < end → All (λ (s : Segment). meet (segment_span s) (blank_span start end) ≡ false) segments → area_of base (filled_bytes base segments xs) (blank_span start end) ≡ blank_area start end
unfolding zeros
blank_flat base pages start end segments xs there is lies some apart =
    let size : length xs ≡ PAGE * pages = ap length is ∙ length-replicate (PAGE * pages) 0 in
    ap (λ (bytes : List ℕ). record { start = start; flags = 6; bytes = bytes })
    (keeps base pages segments xs (blank_span start end) there size lies some apart
    ∙ ap (λ ys. take (end - start) (drop (start - base) ys)) is
    ∙ ap (take (end - start)) (drop-replicate (start - base) (PAGE * pages) 0)
    ∙ take-replicate (end - start) (PAGE * pages - (start - base)) 0 (omega arith))

all_blank : (base pages : ℕ) (segments : List Segment) (xs : List ℕ) → All (IsThere base pages) segments → xs ≡ replicate (PAGE * pages) 0 → All (IsBlank base xs) segments
all_blank base pages segments xs there is = λ k d less.
    let s : Segment = get_or segments k d in
    let one : IsThere base pages s = there k d less in
    let above = one.above in
    let below = one.below in
    ap (λ ys. take s.memsz (drop (s.vaddr - base) ys)) is
    ∙ ap (take s.memsz) (drop-replicate (s.vaddr - base) (PAGE * pages) 0)
    ∙ take-replicate s.memsz (PAGE * pages - (s.vaddr - base)) 0 (omega arith)

-- the flat memory as a program begins
start_flat : (image : Image) (xs : List ℕ) → xs ≡ replicate (PAGE * (image.window / PAGE)) 0 → flat_of (base image) (spans_of image) (filled_bytes (base image) image.segments xs) ≡ memory_of image
unfolding flat_of
start_flat image xs is =
    let pages = image.window / PAGE in
    let area : Span → Area = area_of (base image) (filled_bytes (base image) image.segments xs) in
    let there = segments_there image in
    let size : length xs ≡ PAGE * pages = ap length is ∙ length-replicate (PAGE * pages) 0 in
    let page = heap_has_page image in
    let ends = heap_ends image in
    let heap : area (heap_of image) ≡ blank_area (heap_start image) (heap_end image) =
    blank_flat (base image) pages (heap_start image) (heap_end image) image.segments xs there is (heap_lies image) (omega arith)
    (λ k d less. in_order (segment_span (get_or image.segments k d)) (heap_of image) (segments_below image k d less)) in
    let stack : area (stack_of image) ≡ blank_area (stack_top image - STACK) (stack_top image) =
    blank_flat (base image) pages (stack_top image - STACK) (stack_top image) image.segments xs there is (stack_lies image) (omega arith)
    (λ k d less. in_order (segment_span (get_or image.segments k d)) (stack_of image) (omega (arith, segments_below image k d less))) in
    map-append area (map segment_span image.segments) (heap_of image ∷ stack_of image ∷ [])
    ∙ ap (λ areas. areas ++ area (heap_of image) ∷ area (stack_of image) ∷ []) (segments_flat (base image) pages image.segments xs there (segments_apart image) size (all_blank (base image) pages image.segments xs there is))
    ∙ ap (λ a. map segment_area image.segments ++ a ∷ area (stack_of image) ∷ []) heap
    ∙ ap (λ a. map segment_area image.segments ++ blank_area (heap_start image) (heap_end image) ∷ a ∷ []) stack

pub is_start : (image : Image) (pages slots frames start : ℕ) (spans : List Span) (made filled : Pages) (code : Table) → pages ≡ image.window / PAGE → start ≡ base image → IsMade pages slots frames made → Fills made start image.segments filled → spans ≡ spans_of image → IsStart image (image.window / PAGE) slots frames (guest_pages start spans filled code)
is_start image pages slots frames start spans made filled code count at made_so fill_so are = record {
  base_is = at;
  spans_are = are;
  pages_are = fill_so.pages ∙ made_so.pages_are ∙ count;
  frames_are = fill_so.frames ∙ made_so.frames_are;
  memory = ap (λ b. flat_of b spans filled.live.bytes) at
      ∙ ap (λ ss. flat_of (base image) ss filled.live.bytes) are
      ∙ ap (flat_of (base image) (spans_of image)) (fill_so.bytes ∙ ap (λ b. filled_bytes b image.segments made.live.bytes) at)
      ∙ start_flat image made.live.bytes (made_so.zeros ∙ ap (λ n. replicate (PAGE * n) 0) count);
  empty = fill_so.slots ∙ made_so.empty;
  used = fill_so.used ∙ made_so.used ∙ count;
}

-- the window of an image that is filled, and its spans
pub start_filled : (image : Image) (pages slots frames start : ℕ) (spans : List Span) (made filled : Pages) → pages ≡ image.window / PAGE → start ≡ base image → IsMade pages slots frames made → Fills made start image.segments filled → spans ≡ spans_of image → IsFilled start spans filled
start_filled image pages slots frames start spans made filled count at made_so fill_so are =
    let many : filled.pages ≡ image.window / PAGE = fill_so.pages ∙ made_so.pages_are ∙ count in
    let none : filled.slots ≡ replicate slots None = fill_so.slots ∙ made_so.empty in
    record {
      below = omega (arith, many, at, window_pages image, stack_top_below image);
      within = subst (λ b. All (LiesIn b filled.pages) spans) (sym at) (subst (λ n. All (LiesIn (base image) n) spans) (sym many) (subst (All (LiesIn (base image) (image.window / PAGE))) (sym are) (all_lie image)));
      apart = subst AreApart (sym are) (all_apart image);
      empty = none ∙ ap (λ n. replicate n None) (sym (ap length none ∙ length-replicate slots None));
      lawful = fill_so.lawful;
    }

pub start_lawful : (start : ℕ) (spans : List Span) (filled : Pages) (code : Table) → IsFilled start spans filled → HasCode start spans filled code → IsLawfulSpace (guest_pages start spans filled code)
start_lawful start spans filled code so has = record { below = so.below; within = so.within; apart = so.apart; store = so.lawful; code = has }

pub seen_end : (image : Image) (seen : List Segment) (i : ℕ) (segment : Segment) → seen ≡ image.segments → i < length seen → segment ≡ get_or seen i segment → segment.vaddr + segment.memsz < 2 ^ 32
seen_end image seen i segment e less is = segment_end image i segment (subst (λ xs. i < length xs) e less) (subst (λ xs. segment ≡ get_or xs i segment) e is)

pub files_seen : (image : Image) (seen : List Segment) (start pages : ℕ) → seen ≡ image.segments → start ≡ base image → pages ≡ image.window / PAGE → All (FilesIn start pages) seen
files_seen image seen start pages e at count =
    subst (All (FilesIn start pages)) (sym e) (subst (λ b. All (FilesIn b pages) image.segments) (sym at) (files_there image pages count))
