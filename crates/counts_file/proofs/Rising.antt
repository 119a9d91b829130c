-- Lines whose connections rise, from a least one on and as a whole.
use Rattle.std.proofs.lemmas.List.Elements.{All-cons, All-head, All-nil, All-tail}
use Rattle.std.proofs.lemmas.List.Kept.{AllPairs-cons}
use Rattle.counts_file.proofs.Terms.{List, [], ap, arith, false, length, refl, subst, suc, true, zero, ℕ, ◌++◌, ◌+◌, ◌<◌, ◌∷◌, ◌≡◌, ◌≤◌, nat_tests, All, AllPairs, Contains, slice_index_or, ◌==◌, ◌≢◌, AreCounts, IsBelow, IsCount, count_of, AreFrom, next_from}

abbrev IsFrom : ℕ → ℕ × ℕ → Type 0
IsFrom least line = least ≤ line.0

from_weaker : (least more : ℕ) (counts : List (ℕ × ℕ)) → least ≤ more → All (IsFrom more) counts → All (IsFrom least) counts
from_weaker least more [] h are = All-nil (IsFrom least)
from_weaker least more (line ∷ lines) h are =
    let above : more ≤ line.0 = All-head (IsFrom more) line lines are in
    let below : least ≤ line.0 = omega arith in
    All-cons (IsFrom least) line lines below (from_weaker least more lines h (All-tail (IsFrom more) line lines are))

all_from : (least : ℕ) (counts : List (ℕ × ℕ)) → AreFrom least counts → All (IsFrom least) counts
all_from least [] are = All-nil (IsFrom least)
all_from least (line ∷ lines) are =
    let above : least ≤ line.0 = are.0 in
    let more : least ≤ line.0 + 1 = omega arith in
    All-cons (IsFrom least) line lines above (from_weaker least (line.0 + 1) lines more (all_from (line.0 + 1) lines are.1.1))

all_counts : (least : ℕ) (counts : List (ℕ × ℕ)) → AreFrom least counts → All IsCount counts
all_counts least [] are = All-nil IsCount
all_counts least (line ∷ lines) are = All-cons IsCount line lines are.1.0 (all_counts (line.0 + 1) lines are.1.1)

above_below : (line : ℕ × ℕ) (counts : List (ℕ × ℕ)) → All (IsFrom (line.0 + 1)) counts → All (IsBelow line) counts
above_below line [] are = All-nil (IsBelow line)
above_below line (later ∷ lines) are =
    let above : line.0 + 1 ≤ later.0 = All-head (IsFrom (line.0 + 1)) later lines are in
    let below : line.0 < later.0 = omega arith in
    All-cons (IsBelow line) later lines below (above_below line lines (All-tail (IsFrom (line.0 + 1)) later lines are))

below_above : (line : ℕ × ℕ) (counts : List (ℕ × ℕ)) → All (IsBelow line) counts → All (IsFrom (line.0 + 1)) counts
below_above line [] are = All-nil (IsFrom (line.0 + 1))
below_above line (later ∷ lines) are =
    let below : line.0 < later.0 = All-head (IsBelow line) later lines are in
    let above : line.0 + 1 ≤ later.0 = omega arith in
    All-cons (IsFrom (line.0 + 1)) later lines above (below_above line lines (All-tail (IsBelow line) later lines are))

all_rise : (least : ℕ) (counts : List (ℕ × ℕ)) → AreFrom least counts → AllPairs IsBelow counts
all_rise least [] are = λ i j d before within. absurd (omega (arith, within))
all_rise least (line ∷ lines) are =
    AllPairs-cons IsBelow line lines (above_below line lines (all_from (line.0 + 1) lines are.1.1)) (all_rise (line.0 + 1) lines are.1.1)

pub counts-from : (least : ℕ) (counts : List (ℕ × ℕ)) → AreFrom least counts → AreCounts counts
counts-from least counts are = record { in_range = all_counts least counts are; rising = all_rise least counts are }

-- ---- and back

rising_tail : (line : ℕ × ℕ) (lines : List (ℕ × ℕ)) → AllPairs IsBelow (line ∷ lines) → AllPairs IsBelow lines
rising_tail line lines rising = λ i j d before within. rising (suc i) (suc j) d (omega arith) (omega arith)

rising_head : (line : ℕ × ℕ) (lines : List (ℕ × ℕ)) → AllPairs IsBelow (line ∷ lines) → All (IsBelow line) lines
rising_head line lines rising = λ k d within. rising 0 (suc k) d (omega arith) (omega arith)

from_rising : (least : ℕ) (counts : List (ℕ × ℕ)) → All (IsFrom least) counts → All IsCount counts → AllPairs IsBelow counts → AreFrom least counts
from_rising least [] above are rising = tt
from_rising least (line ∷ lines) above are rising = (
  All-head (IsFrom least) line lines above,
  (
    All-head IsCount line lines are,
    from_rising (line.0 + 1) lines (below_above line lines (rising_head line lines rising)) (All-tail IsCount line lines are) (rising_tail line lines rising),
  ),
)

pub from-counts : (counts : List (ℕ × ℕ)) → AreCounts counts → AreFrom 0 counts
from-counts counts are = from_rising 0 counts (λ k d within. omega arith) are.in_range are.rising

-- ---- one more line

pub from-push : (least : ℕ) (counts : List (ℕ × ℕ)) (line : ℕ × ℕ) → AreFrom least counts → next_from least counts ≤ line.0 → IsCount line → AreFrom least (counts ++ line ∷ [])
from-push least [] line are above is = (above, (is, tt))
from-push least (first ∷ lines) line are above is = (are.0, (are.1.0, from-push (first.0 + 1) lines line are.1.1 above is))

pub next-push : (least : ℕ) (counts : List (ℕ × ℕ)) (line : ℕ × ℕ) → next_from least (counts ++ line ∷ []) ≡ line.0 + 1
next-push least [] line = refl
next-push least (first ∷ lines) line = next-push (first.0 + 1) lines line

-- ---- the count of a connection

abbrev IsOther : ℕ → ℕ × ℕ → Type 0
IsOther conn line = line.0 ≢ conn

other_test : (a b : ℕ) → a ≢ b → (a == b) ≡ false
other_test a b h = grind (arith, nat_tests)

same_test : (a b : ℕ) → a ≡ b → (a == b) ≡ true
same_test a b h = grind (arith, nat_tests)

pub count_of-none : (conn : ℕ) (counts : List (ℕ × ℕ)) → All (IsOther conn) counts → count_of counts conn ≡ 0
count_of-none conn [] none = refl
count_of-none conn (line ∷ lines) none = rw (other_test line.0 conn (All-head (IsOther conn) line lines none)) (count_of-none conn lines (All-tail (IsOther conn) line lines none))

-- a line at a place behind the first one is above it
count_at : (least : ℕ) (counts : List (ℕ × ℕ)) (k : ℕ) (d line : ℕ × ℕ) → AreFrom least counts → k < length counts → slice_index_or counts k d ≡ line → count_of counts line.0 ≡ line.1
count_at least [] k d line are within e = absurd (omega arith)
count_at least (first ∷ lines) zero d line are within e = rw (same_test first.0 line.0 (ap (λ (pair : ℕ × ℕ). pair.0) e)) (ap (λ (pair : ℕ × ℕ). pair.1) e)
count_at least (first ∷ lines) (suc k) d line are within e =
    let fewer : k < length lines = omega arith in
    let above : first.0 + 1 ≤ line.0 = subst (λ (pair : ℕ × ℕ). first.0 + 1 ≤ pair.0) e (all_from (first.0 + 1) lines are.1.1 k d fewer) in
    let differ : first.0 ≢ line.0 = λ same. omega arith in
    rw (other_test first.0 line.0 differ) (count_at (first.0 + 1) lines k d line are.1.1 fewer e)

pub count_of-line : (least : ℕ) (counts : List (ℕ × ℕ)) → AreFrom least counts → (line : ℕ × ℕ) → Contains counts line → count_of counts line.0 ≡ line.1
count_of-line least counts are line has = count_at least counts has.0 line line are has.1 has.2
