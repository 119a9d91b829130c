-- Flags that are kept as bits of words.
use Rattle.std.proofs.lemmas.List.{length-replicate, ext_get_or, get_or-set_same, get_or-set_other, get_or-replicate, get_or_past, get_or_read}
use Rattle.std.proofs.lemmas.List.FromFn.{length-map-range_with_len, get_or-map-range_with_len}
use Rattle.std.proofs.lemmas.Nat.Bits.{bit_at-zero, shr_and_one, bit_at_set_same, bit_at_set_other, bit_at_clear_same, bit_at_clear_other}
use Rattle.std.proofs.Common.{Bool, List, ap, arith, bit_and, bit_or, false, get_or, inl, inr, length, length-set, replicate, set, slice_get, sym, true, unwrap_or, w64, ℕ, ◌%◌, ◌*◌, ◌/◌, ◌<◌, ◌==◌, ◌^◌, ◌∙◌, ◌≡◌, ◌≢◌, ◌≤◌}
use Rattle.std.proofs.lemmas.Bool.{cases_eq}
use Rattle.std.proofs.lemmas.Option.{unwrap_or-slice_get}
use Rattle.std.specs.Int.{bit_at, bit_not}
use Rattle.call_gate.specs.Flags.{flag_at, flags_of}

pub flags_length : (words : List ℕ) → length (flags_of words) ≡ 64 * length words
unfolding flags_of
flags_length words = length-map-range_with_len (flag_at words) 0 (64 * length words)

pub flags_at : (words : List ℕ) (i : ℕ) → i < 64 * length words → get_or (flags_of words) i false ≡ flag_at words i
unfolding flags_of
flags_at words i less = get_or-map-range_with_len (flag_at words) 0 (64 * length words) i i false less (omega arith)

pub flags_past : (words : List ℕ) (i : ℕ) → 64 * length words ≤ i → get_or (flags_of words) i false ≡ false
flags_past words i past = get_or_past (flags_of words) i false (omega (arith, flags_length words, past))

-- words without a bit
pub flags_none : (n : ℕ) → flags_of (replicate n 0) ≡ replicate (64 * n) false
flags_none n =
    let many : length (replicate {A = ℕ} n 0) ≡ n = length-replicate n 0 in
    ext_get_or false _ _ (flags_length (replicate n 0) ∙ ap (λ k. 64 * k) many ∙ sym (length-replicate (64 * n) false))
    (λ i less.
    let size = flags_length (replicate n 0) in
    let inside : i < 64 * length (replicate n 0) = omega (arith, less, size) in
    let within : i / 64 < n = omega (arith, inside, many) in
    flags_at (replicate n 0) i inside
    ∙ ap (λ w. bit_at w (i % 64) == 1) (get_or-replicate n (i / 64) 0 0 within)
    ∙ ap (λ b. b == 1) (bit_at-zero (i % 64))
    ∙ sym (get_or-replicate (64 * n) i false false (omega (arith, inside, many))))

-- a word in which one bit is another
pub flags_set : (words : List ℕ) (i word : ℕ) (may : Bool) → i / 64 < length words → (bit_at word (i % 64) == 1) ≡ may
    → ((j : ℕ) → j < 64 → j ≢ i % 64 → bit_at word j ≡ bit_at (get_or words (i / 64) 0) j)
    → flags_of (set words (i / 64) word) ≡ set (flags_of words) i may
flags_set words i word may there same other =
    let many : length (set words (i / 64) word) ≡ length words = length-set words (i / 64) word in
    let size = flags_length (set words (i / 64) word) in
    let whole = flags_length words in
    ext_get_or false _ _ (size ∙ ap (λ k. 64 * k) many ∙ sym whole ∙ sym (length-set (flags_of words) i may))
    (λ k less.
    let inside : k < 64 * length (set words (i / 64) word) = omega (arith, less, size) in
    let before : k < 64 * length words = omega (arith, inside, many) in
    flags_at (set words (i / 64) word) k inside ∙ (elim (cases_eq k i) [
      | inl here ↦
          ap (λ j. flag_at (set words (i / 64) word) j) here
          ∙ ap (λ w. bit_at w (i % 64) == 1) (get_or-set_same words (i / 64) word 0 there)
          ∙ same
          ∙ sym (get_or-set_same (flags_of words) i may false (omega (arith, before, here, whole)))
          ∙ ap (λ j. get_or (set (flags_of words) i may) j false) (sym here)
      | inr apart ↦
          (elim (cases_eq (k / 64) (i / 64)) [
            | inl near ↦
                ap (λ j. bit_at (get_or (set words (i / 64) word) j 0) (k % 64) == 1) near
                ∙ ap (λ w. bit_at w (k % 64) == 1) (get_or-set_same words (i / 64) word 0 there)
                ∙ ap (λ b. b == 1) (other (k % 64) (omega arith) (λ e. apart (omega (arith, near, e))))
                ∙ ap (λ j. bit_at (get_or words j 0) (k % 64) == 1) (sym near)
            | inr far ↦ ap (λ w. bit_at w (k % 64) == 1) (get_or-set_other words (i / 64) (k / 64) word 0 far)
          ])
          ∙ sym (flags_at words k before)
          ∙ sym (get_or-set_other (flags_of words) i k may false apart)
    ]))

-- a flag past the end
pub flags_kept : (words : List ℕ) (i : ℕ) (may : Bool) → length words ≤ i / 64 → flags_of words ≡ set (flags_of words) i may
flags_kept words i may past =
    let whole = flags_length words in
    ext_get_or false _ _ (sym (length-set (flags_of words) i may))
    (λ k less. sym (get_or-set_other (flags_of words) i k may false (λ e. omega (arith, e, less, whole, past))))

-- what is read at a flag
pub read_flag : (words : List ℕ) (flags : List Bool) (i word : ℕ) → flags_of words ≡ flags → i / 64 < length words → word ≡ get_or words (i / 64) word
    → (bit_and (word / 2 ^ (i % 64)) 1 == 1) ≡ unwrap_or (slice_get flags i) false
read_flag words flags i word view there read =
    ap (λ b. b == 1) (shr_and_one word (i % 64))
    ∙ ap (λ w. bit_at w (i % 64) == 1) (get_or_read words (i / 64) word there read 0)
    ∙ sym (flags_at words i (omega (arith, there)))
    ∙ ap (λ fs. get_or fs i false) view
    ∙ sym (unwrap_or-slice_get flags i false)

pub read_past : (words : List ℕ) (flags : List Bool) (i : ℕ) → flags_of words ≡ flags → length words ≤ i / 64 → false ≡ unwrap_or (slice_get flags i) false
read_past words flags i view past =
    sym (flags_past words i (omega (arith, past))) ∙ ap (λ fs. get_or fs i false) view ∙ sym (unwrap_or-slice_get flags i false)

-- a bit that is set, and one that is cleared
pub with_bit : (words : List ℕ) (flags : List Bool) (i word : ℕ) → flags_of words ≡ flags → i / 64 < length words → word ≡ get_or words (i / 64) word
    → flags_of (set words (i / 64) (bit_or word (1 * 2 ^ (i % 64) % 2 ^ 64))) ≡ set flags i true
with_bit words flags i word view there read =
    let small : i % 64 < 64 = omega arith in
    flags_set words i _ true there (ap (λ b. b == 1) (bit_at_set_same w64 word (i % 64) small))
    (λ j less apart. bit_at_set_other w64 word (i % 64) small j apart ∙ ap (λ w. bit_at w j) (get_or_read words (i / 64) word there read 0))
    ∙ ap (λ fs. set fs i true) view

pub without_bit : (words : List ℕ) (flags : List Bool) (i word : ℕ) → flags_of words ≡ flags → i / 64 < length words → word ≡ get_or words (i / 64) word
    → flags_of (set words (i / 64) (bit_and word (bit_not w64 (1 * 2 ^ (i % 64) % 2 ^ 64)))) ≡ set flags i false
without_bit words flags i word view there read =
    let small : i % 64 < 64 = omega arith in
    flags_set words i _ false there (ap (λ b. b == 1) (bit_at_clear_same w64 word (i % 64) small))
    (λ j less apart. bit_at_clear_other w64 word (i % 64) small j less apart ∙ ap (λ w. bit_at w j) (get_or_read words (i / 64) word there read 0))
    ∙ ap (λ fs. set fs i false) view
