-- The image of two sections is valid.
use Rattle.rv_asm.proofs.Terms.{List, None, [], arith, false, length, lit<, lit≤, nat_le, nat_lt, refl, true, ℕ, ◌&&◌, ◌*◌, ◌+◌, ◌-◌, ◌<◌, ◌^◌, ◌∷◌, ◌≡◌, ◌≤◌, and_from, le-leb, le-ltb, lt-leb, lt-ltb, or_from, nat_tests, All-cons, All-nil, All, PAGE, STACK_AND_GUARD, Segment, IsPlaced, IsWindow, bad_entry, executable, heap_floor, layout_refusal, no_load, overlap, too_large, window_start, MOST_BYTES, data_start, text_start, data_segments, segment, AreSmall}

-- the segments of two sections, of which text has so many bytes
abbrev pub segments_of : ℕ → List ℕ → List ℕ → List Segment
segments_of text_size code variables = segment text_start 5 code ∷ data_segments (data_start text_size) variables

not_refused : (entry window : ℕ) (segments : List Segment) → overlap segments ≡ false → no_load segments ≡ false → bad_entry entry segments ≡ false → too_large window segments ≡ false → layout_refusal entry window segments ≡ None
unfolding layout_refusal
not_refused entry window segments a b c d = rw (a, b, c, d) refl

apart : (text_size : ℕ) (code variables : List ℕ) → AreSmall text_size code variables → overlap (segments_of text_size code variables) ≡ false
unfolding overlap
apart text_size code [] small = refl
apart text_size code (byte ∷ bytes) small = or_from _ _ (or_from _ _ (le-ltb _ _ (let e = small.text_is in omega arith)) refl) refl

loaded : (text_size : ℕ) (code variables : List ℕ) → AreSmall text_size code variables → no_load (segments_of text_size code variables) ≡ false
unfolding no_load
loaded text_size code variables small = let e = small.text_is in let s = small.some in grind (arith, nat_tests)

begins : (text_size : ℕ) (code variables : List ℕ) (at : ℕ) → AreSmall text_size code variables → text_start ≤ at → at < text_start + 4 → executable (segments_of text_size code variables) at ≡ true
begins text_size code variables at small low high =
    let e = small.text_is in
    let s = small.some in
    let here : (nat_le text_start at && nat_lt at (text_start + length code)) ≡ true = and_from _ _ (le-leb _ _ low) (lt-ltb _ _ (omega arith)) in
    rw here refl

good_entry : (text_size : ℕ) (code variables : List ℕ) → AreSmall text_size code variables → bad_entry text_start (segments_of text_size code variables) ≡ false
unfolding bad_entry
good_entry text_size code variables small =
    rw (begins text_size code variables text_start small (lit≤ tt) (lit< tt), begins text_size code variables (text_start + 1) small (lit≤ tt) (lit< tt), begins text_size code variables (text_start + 2) small (lit≤ tt) (lit< tt), begins text_size code variables (text_start + 3) small (lit≤ tt) (lit< tt)) refl

starts : (text_size : ℕ) (code variables : List ℕ) → window_start (segments_of text_size code variables) ≡ text_start
starts text_size code [] = refl
starts text_size code (byte ∷ bytes) = omega arith

ends : (text_size : ℕ) (code variables : List ℕ) → AreSmall text_size code variables → heap_floor (segments_of text_size code variables) ≤ text_start + (MOST_BYTES + 3 * PAGE)
ends text_size code [] small = let e = small.text_is in let w = small.within in omega arith
ends text_size code (byte ∷ bytes) small = let e = small.text_is in let w = small.within in omega arith

fits : (text_size window : ℕ) (code variables : List ℕ) → AreSmall text_size code variables → IsWindow window → too_large window (segments_of text_size code variables) ≡ false
unfolding too_large
fits text_size window code variables small in_window =
    let segments : List Segment = segments_of text_size code variables in
    let start : window_start segments ≡ text_start = starts text_size code variables in
    let end : heap_floor segments ≤ text_start + (MOST_BYTES + 3 * PAGE) = ends text_size code variables small in
    let least = in_window.least in
    let most = in_window.most in
    or_from (nat_le (2 ^ 32) (window_start segments + window)) (nat_lt (window_start segments + window - STACK_AND_GUARD) (heap_floor segments + PAGE))
    (lt-leb (2 ^ 32) (window_start segments + window) (omega (arith, start, most)))
    (le-ltb (window_start segments + window - STACK_AND_GUARD) (heap_floor segments + PAGE) (omega (arith, start, end, least)))

pub accepted : (text_size window : ℕ) (code variables : List ℕ) → AreSmall text_size code variables → IsWindow window → layout_refusal text_start window (segments_of text_size code variables) ≡ None
accepted text_size window code variables small in_window =
    not_refused text_start window (segments_of text_size code variables) (apart text_size code variables small) (loaded text_size code variables small) (good_entry text_size code variables small) (fits text_size window code variables small in_window)

pub all_placed : (text_size : ℕ) (code variables : List ℕ) → AreSmall text_size code variables → All IsPlaced (segments_of text_size code variables)
all_placed text_size code [] small = let e = small.text_is in let s = small.some in let w = small.within in
    All-cons IsPlaced (segment text_start 5 code) [] (record { some = omega arith; given = omega arith; below = omega arith }) (All-nil IsPlaced)
all_placed text_size code (byte ∷ bytes) small = let e = small.text_is in let s = small.some in let w = small.within in
    All-cons IsPlaced (segment text_start 5 code) (segment (data_start text_size) 6 (byte ∷ bytes) ∷ []) (record { some = omega arith; given = omega arith; below = omega arith })
    (All-cons IsPlaced (segment (data_start text_size) 6 (byte ∷ bytes)) [] (record { some = omega arith; given = omega arith; below = omega arith }) (All-nil IsPlaced))

pub few : (text_size : ℕ) (code variables : List ℕ) → length (segments_of text_size code variables) < 2 ^ 16
few text_size code [] = lit< tt
few text_size code (byte ∷ bytes) = lit< tt
