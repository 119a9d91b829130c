-- The numbers of fields, as `byteorder` reads them.
use Rattle.byteorder.specs.Endian.{little_from, little_number as number_of_first}
use Rattle.elf_file.proofs.Terms.{List, ap, arith, drop, drop-cons, length, length-drop, refl, slice_index, suc, take, zero, ℕ, ◌*◌, ◌+◌, ◌<◌, ◌∙◌, ◌≡◌, ◌≤◌, little_number, number_at}

little_from-drop : (i n : ℕ) (xs : List ℕ) → i + n ≤ length xs → little_from i n xs ≡ little_number (take n (drop i xs))
little_from-drop i zero xs h = refl
little_from-drop i (suc n) xs h =
    let here : i < length xs = omega arith in
    let rest : suc i + n ≤ length xs = omega arith in
    rw (drop-cons xs i 0) (ap (λ (m : ℕ). slice_index xs i + 256 * m) (little_from-drop (suc i) n xs rest))

-- the first bytes behind an offset
pub number_at-drop : (offset n : ℕ) (xs : List ℕ) → offset + n ≤ length xs → number_of_first n (drop offset xs) ≡ number_at offset n xs
unfolding number_at
number_at-drop offset n xs h =
    let enough : 0 + n ≤ length (drop offset xs) = omega (arith, length-drop offset xs) in
    little_from-drop 0 n (drop offset xs) enough

-- one byte
pub number_at-byte : (offset : ℕ) (xs : List ℕ) → offset + 1 ≤ length xs → number_at offset 1 xs ≡ slice_index xs offset
unfolding number_at
number_at-byte offset xs h =
    let here : offset < length xs = omega arith in
    let byte : slice_index xs offset + 256 * 0 ≡ slice_index xs offset = omega arith in
    ap (λ rest. little_number (take 1 rest)) (drop-cons xs offset 0 here) ∙ byte
