-- The segments of the first program headers.
use Rattle.elf_file.proofs.Terms.{Bool, List, [], ap, arith, cond, false, length, map, refl, suc, take, true, zero, ℕ, ◌<◌, ◌∙◌, ◌∷◌, ◌≡◌, take_all, All-cons, All-head, All-nil, All-tail, All, filter, HasBytes, overlap, ProgramHeader, is_loaded, place_of, first_places}

full_cond : (b : Bool) (header : ProgramHeader) (xs ys : List ProgramHeader) → (All HasBytes (map place_of xs) → All HasBytes (map place_of ys)) → All HasBytes (map place_of (cond b (header ∷ xs) xs)) → All HasBytes (map place_of (cond b (header ∷ ys) ys))
full_cond true header xs ys rest all =
    All-cons HasBytes (place_of header) (map place_of ys) (All-head HasBytes (place_of header) (map place_of xs) all)
    (rest (All-tail HasBytes (place_of header) (map place_of xs) all))
full_cond false header xs ys rest all = rest all

-- each of them has bytes, as all have
pub full_first : (count : ℕ) (headers : List ProgramHeader) → All HasBytes (map place_of (filter is_loaded headers)) → All HasBytes (first_places count headers)
full_first zero headers all = All-nil HasBytes
full_first (suc count) [] all = All-nil HasBytes
full_first (suc count) (header ∷ headers) all =
    full_cond (is_loaded header) header (filter is_loaded headers) (filter is_loaded (take count headers)) (full_first count headers) all

-- without program headers no two segments share a byte
pub overlap-none : (headers : List ProgramHeader) → overlap (first_places 0 headers) ≡ false
unfolding overlap
overlap-none headers = refl

pub overlap_some : (headers : List ProgramHeader) → overlap (map place_of (filter is_loaded headers)) ≡ true → 0 < length headers
unfolding overlap
overlap_some [] h = cc
overlap_some (header ∷ headers) h = omega arith

pub overlap-all : (headers : List ProgramHeader) → overlap (map place_of (filter is_loaded headers)) ≡ true → overlap (first_places (length headers) headers) ≡ true
overlap-all headers h = ap (λ hs. overlap (map place_of (filter is_loaded hs))) (take_all (length headers) headers (omega arith)) ∙ h
