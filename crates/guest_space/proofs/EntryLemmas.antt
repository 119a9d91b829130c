-- What the entries of a guest's code say of its memory.
use Rattle.code_table.specs.declared.entry.Entry.{Entry}
use Rattle.code_table.specs.declared.entry.EntryOp.TheVariants.{Stop}
use Rattle.code_table.specs.Entries.{IsEntryOf, IsLinked, address}
use Rattle.guest_space.proofs.Terms.{List, Ok, Some, ap, arith, drop, length, slice_get, subst, sym, take, true, ℕ, ◌*◌, ◌+◌, ◌-◌, ◌<◌, ◌^◌, ◌∙◌, ◌≡◌, ◌≤◌, drop-drop, drop-take, take-take, get_or_from_slice_get, slice_get_within, All, little_number, word_in, GuestPages, IsLawfulSpace, flat, Reads, AreHeld, some_has, code_bytes, word_count}
use Rattle.guest_space.proofs.FlatLemmas.{range_inside}
use Rattle.guest_space.proofs.SpaceLemmas.{is_near, reads_held}

-- the word with this number of a guest's code
abbrev pub word_of : GuestPages → ℕ → ℕ
word_of space number = word_in (code_bytes space.base space.code space.store.live.bytes) number

-- a part of the front of a list
part_of_front : (place n first : ℕ) (xs : List ℕ) → place + 4 ≤ n → take 4 (drop place (take n (drop first xs))) ≡ take 4 (drop (first + place) xs)
part_of_front place n first xs within =
    let e : n ≡ place + (n - place) = omega arith in
    ap (λ m. take 4 (drop place (take m (drop first xs)))) e
    ∙ ap (take 4) (drop-take place (n - place) (drop first xs))
    ∙ take-take 4 (n - place) (drop place (drop first xs)) (omega arith)
    ∙ ap (take 4) (drop-drop place first xs)

-- the words of the code may be fetched
word_held : (space : GuestPages) (number : ℕ) → IsLawfulSpace space → number < word_count space.code → AreHeld 1 space.spans (address space.code.start number) 4
word_held space number so less = λ k below.
    let e : space.code.start + (4 * number + k) ≡ space.code.start + 4 * number + k = omega arith in
    subst (λ at. some_has 1 at space.spans ≡ true) e (so.code.fetched (4 * number + k) (omega arith))

-- what is fetched is the word
pub fetches_code : (space : GuestPages) (number : ℕ) → IsLawfulSpace space → number < word_count space.code → Reads 1 (flat space) (address space.code.start number) 4 (Ok (word_of space number))
fetches_code space number so less =
    let held = word_held space number so less in
    let near = range_inside 1 space.base space.store.pages space.spans space.code.start (4 * word_count space.code) so.within (omega arith) so.code.fetched in
    let first = near.0 in
    let e : (space.code.start - space.base) + 4 * number ≡ address space.code.start number - space.base = omega arith in
    reads_held 1 space (address space.code.start number) 4 (word_of space number) so (omega arith) held
    (ap little_number (part_of_front (4 * number) (4 * word_count space.code) (space.code.start - space.base) space.store.live.bytes (omega arith) ∙ ap (λ n. take 4 (drop n space.store.live.bytes)) e))

-- no word of it lies past 2 ^ 32
pub code_below : (space : GuestPages) (number : ℕ) → IsLawfulSpace space → number < word_count space.code → address space.code.start number + 4 ≤ 2 ^ 32
code_below space number so less = is_near 1 space (address space.code.start number) 4 so (omega arith) (word_held space number so less)

-- there is one entry more than words
count_is : (space : GuestPages) (so : IsLawfulSpace space) → so.code.table.count ≡ word_count space.code
count_is space so = let filled = so.code.table.filled in omega arith

pub code_count : (space : GuestPages) → IsLawfulSpace space → length space.code.entries ≡ word_count space.code + 1
code_count space so = let filled = so.code.table.filled in omega arith

-- each is of its word
pub entry_is : (space : GuestPages) (number : ℕ) (entry : Entry) → IsLawfulSpace space → number < word_count space.code → slice_get space.code.entries number ≡ Some entry → IsEntryOf space.code.start number (word_of space number) entry
entry_is space number entry so less is = so.code.table.each number entry (subst (λ n. number < n) (sym (count_is space so)) less) is

pub entry_stops : (space : GuestPages) (entry : Entry) → IsLawfulSpace space → slice_get space.code.entries (word_count space.code) ≡ Some entry → entry.op ≡ Stop
entry_stops space entry so is = so.code.table.last entry (ap (slice_get space.code.entries) (count_is space so) ∙ is)

at_get : (P : Entry → Type 0) (entries : List Entry) (number : ℕ) (entry : Entry) → All P entries → slice_get entries number ≡ Some entry → P entry
at_get P entries number entry all is =
    subst P (get_or_from_slice_get entries number entry entry is) (all number entry (slice_get_within entries number entry is))

pub entry_linked : (space : GuestPages) (number : ℕ) (entry : Entry) → IsLawfulSpace space → slice_get space.code.entries number ≡ Some entry → IsLinked (word_count space.code) entry
entry_linked space number entry so is =
    at_get (IsLinked (word_count space.code)) space.code.entries number entry (subst (λ n. All (IsLinked n) space.code.entries) (count_is space so) so.code.table.linked) is
