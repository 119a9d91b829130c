-- A guest's memory: what its spans and its pages say of the flat memory.
use Rattle.cow_pages.specs.Little as pages
use Rattle.guest_space.proofs.Terms.{Bool, IfSome, IsSome, List, MatchBool, None, Option, Some, [], ap, arith, drop, false, inl, inr, length, refl, slice_get, subst, suc, sym, take, true, zero, ℕ, ◌%◌, ◌*◌, ◌++◌, ◌+◌, ◌-◌, ◌/◌, ◌<◌, ◌^◌, ◌∙◌, ◌∷◌, ◌≡◌, ◌≤◌, cases_Bool, false≢true, length-drop, length-take-le, All, PAGE, writes_more, writes_nothing, IsLawful, Pages, Space, slot_at, Writes, little_bytes, little_number, Table, Area, bytes_at, permitted, put_byte, put_bytes, GuestPages, IsLawfulSpace, LiesIn, Span, flat, flat_of, guest_pages, Puts, AreHeld, HasCode}
use Rattle.guest_space.proofs.CodeLemmas.{restores_keep_code, writes_keep_code}
use Rattle.guest_space.proofs.FlatLemmas.{permitted-held, held-permitted, range_inside, bytes_at-flat, put_bytes-flat}

-- the window has PAGE bytes for each page
pub bytes_are : (space : GuestPages) → IsLawfulSpace space → length space.store.live.bytes ≡ PAGE * space.store.pages
bytes_are space so = (so.store.spaces space.store.live (inl refl)).bytes

pub is_permitted : (flag : ℕ) (space : GuestPages) (at size : ℕ) → IsLawfulSpace space → at + size ≤ 2 ^ 32 → AreHeld flag space.spans at size → permitted flag (flat space) at size ≡ true
is_permitted flag space at size so near held =
    permitted-held flag space.base space.store.pages space.spans space.store.live.bytes at size so.within (bytes_are space so) near held

pub is_held : (flag : ℕ) (space : GuestPages) (at size : ℕ) → IsLawfulSpace space → permitted flag (flat space) at size ≡ true → AreHeld flag space.spans at size
is_held flag space at size so h =
    held-permitted flag space.base space.store.pages space.spans space.store.live.bytes at size so.within (bytes_are space so) h

pub is_refused : (flag : ℕ) (space : GuestPages) (at size : ℕ) → IsLawfulSpace space → (AreHeld flag space.spans at size → ⊥) → permitted flag (flat space) at size ≡ false
is_refused flag space at size so miss =
    elim (cases_Bool (permitted flag (flat space) at size)) [
      | inl has ↦ absurd (miss (is_held flag space at size so has))
      | inr lacks ↦ lacks
    ]

-- what a test of the spans says of the flat memory
pub is_answer : (flag : ℕ) (space : GuestPages) (at size : ℕ) (b : Bool) → IsLawfulSpace space → at + size ≤ 2 ^ 32 → MatchBool b (AreHeld flag space.spans at size) (AreHeld flag space.spans at size → ⊥) → b ≡ permitted flag (flat space) at size
is_answer flag space at size true so near h = sym (is_permitted flag space at size so near h)
is_answer flag space at size false so near h = sym (is_refused flag space at size so h)

-- a range lies in the window
pub is_inside : (flag : ℕ) (space : GuestPages) (at size : ℕ) → IsLawfulSpace space → 0 < size → AreHeld flag space.spans at size → (space.base ≤ at) × (at + size ≤ space.base + PAGE * space.store.pages)
is_inside flag space at size so some held = range_inside flag space.base space.store.pages space.spans at size so.within some held

pub is_near : (flag : ℕ) (space : GuestPages) (at size : ℕ) → IsLawfulSpace space → 0 < size → AreHeld flag space.spans at size → at + size ≤ 2 ^ 32
is_near flag space at size so some held =
    let inside = is_inside flag space at size so some held in
    let below = so.below in
    omega arith

-- the two definitions of a number by its bytes are one
pub same_number : (bytes : List ℕ) → pages.little_number bytes ≡ little_number bytes
same_number [] = refl
same_number (byte ∷ bytes) = ap (λ n. byte + 256 * n) (same_number bytes)

pub same_bytes : (count n : ℕ) → pages.little_bytes count n ≡ little_bytes count n
same_bytes zero n = refl
same_bytes (suc count) n = ap (λ bytes. n % 256 ∷ bytes) (same_bytes count (n / 256))

-- the bytes of a range
pub range_is : (flag : ℕ) (space : GuestPages) (at size : ℕ) → IsLawfulSpace space → AreHeld flag space.spans at size → bytes_at flag (flat space) at size ≡ take size (drop (at - space.base) space.store.live.bytes)
range_is flag space at size so held =
    bytes_at-flat flag space.base space.store.pages space.spans space.store.live.bytes at size so.within (bytes_are space so) held

pub reads_held : (flag : ℕ) (space : GuestPages) (at size value : ℕ) → IsLawfulSpace space → 0 < size → AreHeld flag space.spans at size → value ≡ little_number (take size (drop (at - space.base) space.store.live.bytes)) → (permitted flag (flat space) at size ≡ true) × (value ≡ little_number (bytes_at flag (flat space) at size))
reads_held flag space at size value so some held is = (
  is_permitted flag space at size so (is_near flag space at size so some held) held,
  is ∙ ap little_number (sym (range_is flag space at size so held)),
)

-- a write into the window is one into the flat memory
pub puts_held : (old : GuestPages) (store : Pages) (at : ℕ) (bytes : List ℕ) → IsLawfulSpace old → Writes old.store store (at - old.base) bytes → IsLawfulSpace (guest_pages old.base old.spans store old.code) → AreHeld 2 old.spans at (length bytes) → Puts old at bytes (guest_pages old.base old.spans store old.code)
puts_held old store at bytes so wrote lawful held = record {
  base_stays = refl;
  spans_stay = refl;
  code_stays = refl;
  memory = ap (flat_of old.base old.spans) wrote.written
      ∙ sym (put_bytes-flat old.base old.store.pages old.spans at bytes old.store.live.bytes so.within so.apart (bytes_are old so) held);
  pages = wrote;
  lawful = lawful;
}

pub puts_none : (old : GuestPages) (at : ℕ) (bytes : List ℕ) → IsLawfulSpace old → length bytes ≡ 0 → Puts old at bytes old
puts_none old at [] so none = record { lawful = so; base_stays = refl; spans_stay = refl; code_stays = refl; memory = refl; pages = writes_nothing old.store (at - old.base) }
puts_none old at (byte ∷ bytes) so none = absurd (omega arith)

-- the parts with other pages, as many
pub parts_kept : (base : ℕ) (spans : List Span) (before store : Pages) (code : Table) → IsLawfulSpace (guest_pages base spans before code) → store.pages ≡ before.pages → IsLawful store → HasCode base spans store code → IsLawfulSpace (guest_pages base spans store code)
parts_kept base spans before store code so same lawful has = record {
  below = subst (λ n. base + PAGE * n ≤ 2 ^ 32) (sym same) so.below;
  within = subst (λ n. All (LiesIn base n) spans) (sym same) so.within;
  apart = so.apart;
  store = lawful;
  code = has;
}

pub parts_lawful : (base : ℕ) (spans : List Span) (before store : Pages) (code : Table) (at : ℕ) (bytes : List ℕ) → IsLawfulSpace (guest_pages base spans before code) → Writes before store (at - base) bytes → IsLawful store → AreHeld 2 spans at (length bytes) → IsLawfulSpace (guest_pages base spans store code)
parts_lawful base spans before store code at bytes so wrote lawful held =
    parts_kept base spans before store code so wrote.pages lawful
    (writes_keep_code base spans before store code at bytes so.within (bytes_are (guest_pages base spans before code) so) so.code held wrote)

restored_pages : (before store : Pages) (there : Option Space) → IsSome there → IfSome there (λ space. store ≡ record before { live = space }) → store.pages ≡ before.pages
restored_pages before store None some is = absurd (false≢true some)
restored_pages before store (Some space) some is = ap (λ (s : Pages). s.pages) is

pub parts_restored : (base : ℕ) (spans : List Span) (before store : Pages) (code : Table) (slot : ℕ) → IsLawfulSpace (guest_pages base spans before code) → IsSome (slot_at before slot) → IfSome (slot_at before slot) (λ space. store ≡ record before { live = space }) → IsLawful store → IsLawfulSpace (guest_pages base spans store code)
parts_restored base spans before store code slot so some is lawful =
    parts_kept base spans before store code so (restored_pages before store (slot_at before slot) some is) lawful (restores_keep_code base spans before store code slot so.code some is)

-- the same where the space is seen as its parts
pub parts_put : (base : ℕ) (spans : List Span) (before store : Pages) (code : Table) (old : GuestPages) (at : ℕ) (bytes : List ℕ) → IsLawfulSpace (guest_pages base spans before code) → guest_pages base spans before code ≡ old → Writes before store (at - base) bytes → IsLawful store → AreHeld 2 old.spans at (length bytes) → Puts old at bytes (guest_pages base spans store code)
parts_put base spans before store code old at bytes so is wrote lawful held =
    subst (λ (s : GuestPages). Puts s at bytes (guest_pages base spans store code)) is
    (puts_held (guest_pages base spans before code) store at bytes so wrote (parts_lawful base spans before store code at bytes so wrote lawful (subst (λ (s : GuestPages). AreHeld 2 s.spans at (length bytes)) (sym is) held))
    (subst (λ (s : GuestPages). AreHeld 2 s.spans at (length bytes)) (sym is) held))

pub half_bytes_are : (value : ℕ) → pages.little_bytes 2 (value % 2 ^ 16) ≡ little_bytes 2 value
half_bytes_are value =
    let low : value % 2 ^ 16 % 256 ≡ value % 256 = omega arith in
    let high : value % 2 ^ 16 / 256 % 256 ≡ value / 256 % 256 = omega arith in
    ap (λ n. n ∷ (value % 2 ^ 16 / 256 % 256) ∷ []) low ∙ ap (λ n. value % 256 ∷ n ∷ []) high

-- what is known of a space that is seen as its parts
pub parts_answer : (flag base : ℕ) (spans seen : List Span) (store : Pages) (code : Table) (space : GuestPages) (at size : ℕ) (b : Bool) → IsLawfulSpace (guest_pages base spans store code) → guest_pages base spans store code ≡ space → seen ≡ spans → at + size ≤ 2 ^ 32 → MatchBool b (AreHeld flag seen at size) (AreHeld flag seen at size → ⊥) → b ≡ permitted flag (flat space) at size
parts_answer flag base spans seen store code space at size b so is same near h =
    subst (λ (s : GuestPages). b ≡ permitted flag (flat s) at size) is
    (is_answer flag (guest_pages base spans store code) at size b so near (subst (λ xs. MatchBool b (AreHeld flag xs at size) (AreHeld flag xs at size → ⊥)) same h))

pub parts_held : (flag base : ℕ) (spans : List Span) (store : Pages) (code : Table) (space : GuestPages) (at size : ℕ) → IsLawfulSpace (guest_pages base spans store code) → guest_pages base spans store code ≡ space → permitted flag (flat space) at size ≡ true → AreHeld flag spans at size
parts_held flag base spans store code space at size so is h =
    is_held flag (guest_pages base spans store code) at size so (subst (λ (s : GuestPages). permitted flag (flat s) at size ≡ true) (sym is) h)

pub parts_back : (flag base : ℕ) (spans : List Span) (store : Pages) (code : Table) (space : GuestPages) (at size : ℕ) → guest_pages base spans store code ≡ space → AreHeld flag space.spans at size → AreHeld flag spans at size
parts_back flag base spans store code space at size is h = subst (λ (s : GuestPages). AreHeld flag s.spans at size) (sym is) h

pub parts_room : (flag base : ℕ) (spans : List Span) (store : Pages) (code : Table) (at size : ℕ) → IsLawfulSpace (guest_pages base spans store code) → 0 < size → AreHeld flag spans at size → (base ≤ at) × (at - base + size ≤ PAGE * store.pages)
parts_room flag base spans store code at size so some held =
    let inside = is_inside flag (guest_pages base spans store code) at size so some held in
    (inside.0, omega arith)

pub parts_reads : (flag base : ℕ) (spans : List Span) (store : Pages) (code : Table) (space : GuestPages) (at size value : ℕ) → IsLawfulSpace (guest_pages base spans store code) → guest_pages base spans store code ≡ space → 0 < size → AreHeld flag spans at size → value ≡ little_number (take size (drop (at - base) store.live.bytes)) → (permitted flag (flat space) at size ≡ true) × (value ≡ little_number (bytes_at flag (flat space) at size))
parts_reads flag base spans store code space at size value so is some held e =
    subst (λ (s : GuestPages). (permitted flag (flat s) at size ≡ true) × (value ≡ little_number (bytes_at flag (flat s) at size))) is
    (reads_held flag (guest_pages base spans store code) at size value so some held e)

pub parts_bytes : (flag base : ℕ) (spans : List Span) (store : Pages) (code : Table) (space : GuestPages) (at size : ℕ) → IsLawfulSpace (guest_pages base spans store code) → guest_pages base spans store code ≡ space → AreHeld flag spans at size → take size (drop (at - base) store.live.bytes) ≡ bytes_at flag (flat space) at size
parts_bytes flag base spans store code space at size so is held =
    sym (range_is flag (guest_pages base spans store code) at size so held) ∙ ap (λ (s : GuestPages). bytes_at flag (flat s) at size) is

pub length-little_bytes : (size value : ℕ) → length (little_bytes size value) ≡ size
length-little_bytes zero value = refl
length-little_bytes (suc size) value = ap suc (length-little_bytes size (value / 256))

pub parts_stored : (base : ℕ) (spans : List Span) (before store : Pages) (code : Table) (old : GuestPages) (at size value : ℕ) (bytes : List ℕ) → IsLawfulSpace (guest_pages base spans before code) → guest_pages base spans before code ≡ old → 0 < size → AreHeld 2 old.spans at size → bytes ≡ little_bytes size value → Writes before store (at - base) bytes → IsLawful store → (permitted 2 (flat old) at size ≡ true) × Puts old at (little_bytes size value) (guest_pages base spans store code)
parts_stored base spans before store code old at size value bytes so is some held same wrote lawful =
    let old_so : IsLawfulSpace old = subst IsLawfulSpace is so in (
      is_permitted 2 old at size old_so (is_near 2 old at size old_so some held) held,
      parts_put base spans before store code old at (little_bytes size value) so is (subst (λ xs. Writes before store (at - base) xs) same wrote) lawful (subst (λ n. AreHeld 2 old.spans at n) (sym (length-little_bytes size value)) held),
    )

-- what is written where it may be leaves a lawful space
pub parts_wrote : (base : ℕ) (spans : List Span) (before store : Pages) (code : Table) (space : GuestPages) (at : ℕ) (bytes : List ℕ) → IsLawfulSpace (guest_pages base spans before code) → guest_pages base spans before code ≡ space → Writes before store (at - base) bytes → IsLawful store → AreHeld 2 space.spans at (length bytes) → IsLawfulSpace (guest_pages base spans store code)
parts_wrote base spans before store code space at bytes so is wrote lawful held =
    parts_lawful base spans before store code at bytes so wrote lawful (parts_back 2 base spans before code space at (length bytes) is held)

-- a byte as a number
pub one_number : (xs : List ℕ) (place x : ℕ) → slice_get xs place ≡ Some x → x ≡ little_number (take 1 (drop place xs))
one_number [] place x h = cc
one_number (y ∷ xs) zero x h = let e : y ≡ x = grind arith in omega arith
one_number (y ∷ xs) (suc place) x h = one_number xs place x h

-- where a range lies
pub parts_place : (flag base : ℕ) (spans : List Span) (store : Pages) (code : Table) (space : GuestPages) (at size : ℕ) → IsLawfulSpace (guest_pages base spans store code) → guest_pages base spans store code ≡ space → 0 < size → AreHeld flag space.spans at size → (base ≤ at) × (at - base + size ≤ PAGE * store.pages)
parts_place flag base spans store code space at size so is some held =
    parts_room flag base spans store code at size so some (parts_back flag base spans store code space at size is held)

pub parts_run : (flag base : ℕ) (spans : List Span) (store : Pages) (code : Table) (space : GuestPages) (at size : ℕ) → IsLawfulSpace (guest_pages base spans store code) → guest_pages base spans store code ≡ space → 0 < size → permitted flag (flat space) at size ≡ true → (base ≤ at) × (at - base + size ≤ PAGE * store.pages)
parts_run flag base spans store code space at size so is some h =
    parts_room flag base spans store code at size so some (parts_held flag base spans store code space at size so is h)

-- bytes that were copied are those of the flat memory, as many as were asked for
pub parts_copied : (base : ℕ) (spans : List Span) (before store : Pages) (code : Table) (old : GuestPages) (from at size : ℕ) → IsLawfulSpace (guest_pages base spans before code) → guest_pages base spans before code ≡ old → 0 < size → permitted 4 (flat old) from size ≡ true → Writes before store (at - base) (take size (drop (from - base) before.live.bytes))
    → Writes before store (at - base) (bytes_at 4 (flat old) from size) × (length (bytes_at 4 (flat old) from size) ≡ size)
parts_copied base spans before store code old from at size so is some h wrote =
    let same : take size (drop (from - base) before.live.bytes) ≡ bytes_at 4 (flat old) from size = parts_bytes 4 base spans before code old from size so is (parts_held 4 base spans before code old from size so is h) in
    let room = (parts_run 4 base spans before code old from size so is some h).1 in
    let whole = bytes_are (guest_pages base spans before code) so in
    let many : length (take size (drop (from - base) before.live.bytes)) ≡ size = length-take-le size (drop (from - base) before.live.bytes) (omega (arith, room, whole, length-drop (from - base) before.live.bytes)) in
    (subst (Writes before store (at - base)) same wrote, ap length (sym same) ∙ many)

-- two lists of bytes, one right behind the other
put_bytes-append : (memory : List Area) (at : ℕ) (first second : List ℕ) → put_bytes memory at (first ++ second) ≡ put_bytes (put_bytes memory at first) (at + length first) second
put_bytes-append memory at [] second = let e : at ≡ at + 0 = omega arith in ap (λ n. put_bytes memory n second) e
put_bytes-append memory at (byte ∷ first) second =
    let e : at + 1 + length first ≡ at + suc (length first) = omega arith in
    put_bytes-append (put_byte memory at byte) (at + 1) first second
    ∙ ap (λ n. put_bytes (put_bytes (put_byte memory at byte) (at + 1) first) n second) e

-- bytes were put right behind others, which is a put of both
pub puts_more : (old mid new : GuestPages) (at : ℕ) (first second : List ℕ) → IsLawfulSpace old → old.base ≤ at → at - old.base + length first + length second ≤ PAGE * old.store.pages → Puts old at first mid → Puts mid (at + length first) second new → Puts old at (first ++ second) new
puts_more old mid new at first second so low room one two =
    let place : at + length first - mid.base ≡ at - old.base + length first = omega (arith, one.base_stays, low) in
    record {
      base_stays = two.base_stays ∙ one.base_stays;
      spans_stay = two.spans_stay ∙ one.spans_stay;
      code_stays = two.code_stays ∙ one.code_stays;
      memory = two.memory ∙ ap (λ m. put_bytes m (at + length first) second) one.memory ∙ sym (put_bytes-append (flat old) at first second);
      pages = writes_more old.store mid.store new.store (at - old.base) first second one.pages (subst (λ n. Writes mid.store new.store n second) place two.pages) so.store one.lawful.store room;
      lawful = two.lawful;
    }
