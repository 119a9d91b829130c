-- At which line a text is refused.
use Rattle.std.proofs.lemmas.List.Concat.{flat_map-append}
use Rattle.counts_file.proofs.Terms.{Err, List, None, Ok, Some, [], ap, append-nil, append_assoc, arith, false, length, length-append, refl, sym, true, ℕ, ◌++◌, ◌+◌, ◌<◌, ◌∙◌, ◌∷◌, ◌≡◌, ◌≤◌, decimal, ◌==◌, CONNECTIONS, first-behind, lines_is, lines_of-line, no_bytes, behind_line, first_line, lines_of, Refused, ReadsCounts, IsCount, IsReading, count_line, text_of, written_count, refused_from, refused_line, AreAllLines, AreFrom, IsBehind, next_from, count_in, count_told}
use Rattle.counts_file.proofs.Rising.{counts-from, from-counts, from-push, next-push}
use Rattle.counts_file.proofs.Written.{count_in-line, count_in-sound, count_told-line, is_line-count}

cut : (line : ℕ × ℕ) (lines : List (ℕ × ℕ)) (rest : List ℕ) → IsCount line → lines_of (text_of (line ∷ lines) ++ rest) ≡ written_count line ∷ lines_of (text_of lines ++ rest)
cut line lines rest is =
    ap lines_of (append_assoc (written_count line) (text_of lines) rest) ∙ lines_of-line (written_count line) (text_of lines ++ rest) (is_line-count line is)

-- ---- lines of counts

pub refused-lines : (number least : ℕ) (counts : List (ℕ × ℕ)) (rest : List ℕ) → AreFrom least counts → refused_from number least (lines_of (text_of counts ++ rest)) ≡ refused_from (number + length counts) (next_from least counts) (lines_of rest)
refused-lines number least [] rest are = let same : number ≡ number + 0 = omega arith in ap (λ n. refused_from n least (lines_of rest)) same
refused-lines number least (line ∷ lines) rest are =
    let behind : List ℕ = text_of lines ++ rest in
    let first : count_in least (written_count line) ≡ Some line = count_in-line least line are.0 are.1.0 in
    let told : (count_told (written_count line)).0 + 1 ≡ line.0 + 1 = ap (λ (pair : ℕ × ℕ). pair.0 + 1) (count_told-line line are.1.0) in
    let step : refused_from number least (written_count line ∷ lines_of behind) ≡ refused_from (number + 1) ((count_told (written_count line)).0 + 1) (lines_of behind) = rw first refl in
    let more : number + 1 + length lines ≡ number + length (line ∷ lines) = omega arith in
    ap (refused_from number least) (cut line lines rest are.1.0)
    ∙ step
    ∙ ap (λ n. refused_from (number + 1) n (lines_of behind)) told
    ∙ refused-lines (number + 1) (line.0 + 1) lines rest are.1.1
    ∙ ap (λ n. refused_from n (next_from (line.0 + 1) lines) (lines_of rest)) more

refused-next : (number least : ℕ) (rest : List ℕ) → count_in least (first_line rest) ≡ None → (length rest == 0) ≡ false → refused_from number least (lines_of rest) ≡ Some number
refused-next number least [] none some = absurd (cc)
refused-next number least (byte ∷ bytes) none some = ap (refused_from number least) (lines_is (byte ∷ bytes)) ∙ rw none refl

-- ---- a text that has a reading isn't refused

pub reading-unrefused : (text : List ℕ) (counts : List (ℕ × ℕ)) → IsReading text counts → refused_line text ≡ None
reading-unrefused text counts is =
    ap refused_line (sym is.1 ∙ sym (append-nil (text_of counts))) ∙ refused-lines 1 0 counts [] (from-counts counts is.0)

no_reading : (text : List ℕ) (line : ℕ) → refused_line text ≡ Some line → (counts : List (ℕ × ℕ)) → IsReading text counts → ⊥
no_reading text line h counts is =
    let none : refused_line text ≡ None = reading-unrefused text counts is in
    cc

-- ---- what the parts of the code say of the whole

pub refuses_next : (text : List ℕ) (counts : List (ℕ × ℕ)) (rest : List ℕ) → AreAllLines text counts rest → (length rest == 0) ≡ false → ReadsCounts text (Err (Refused (length counts + 1)))
refuses_next text counts rest all some =
    let number : 1 + length counts ≡ length counts + 1 = omega arith in
    let refused : refused_line text ≡ Some (length counts + 1)
    = ap refused_line (sym all.behind.whole) ∙ refused-lines 1 0 counts rest all.behind.are
    ∙ refused-next (1 + length counts) (next_from 0 counts) rest all.no_more some ∙ ap (λ (n : ℕ). Some n) number in
    (refused, no_reading text (length counts + 1) refused)

pub reads_counts : (text : List ℕ) (counts : List (ℕ × ℕ)) (rest : List ℕ) → AreAllLines text counts rest → (length rest == 0) ≡ true → ReadsCounts text (Ok counts)
reads_counts text counts rest all none =
    (counts-from 0 counts all.behind.are, sym (append-nil (text_of counts)) ∙ ap (λ bytes. text_of counts ++ bytes) (sym (no_bytes rest none)) ∙ all.behind.whole)

-- ---- a loop over the lines

text_push : (counts : List (ℕ × ℕ)) (line : ℕ × ℕ) → text_of (counts ++ line ∷ []) ≡ text_of counts ++ written_count line
text_push counts line = flat_map-append written_count counts (line ∷ []) ∙ ap (λ bytes. text_of counts ++ bytes) (append-nil (written_count line))

-- what the loop keeps
pub record IsSoFar (text : List ℕ) (counts : List (ℕ × ℕ)) (least : ℕ) (rest : List ℕ) : Type 0 where
  pub behind : IsBehind text counts rest
  pub least_is : least ≡ next_from 0 counts

pub takes_line : (text rest line behind : List ℕ) (counts : List (ℕ × ℕ)) (least : ℕ) (count : ℕ × ℕ) → IsSoFar text counts least rest → line ≡ first_line rest → behind ≡ behind_line rest → Some count ≡ count_in least line → IsSoFar text (counts ++ count ∷ []) (count.0 + 1) behind
takes_line text rest line behind counts least count is line_is behind_is is_count =
    let parts = count_in-sound least line count (sym is_count) in
    let above : next_from 0 counts ≤ count.0 = let low : least ≤ count.0 = parts.0 in let same : least ≡ next_from 0 counts = is.least_is in omega arith in
    let next : next_from 0 (counts ++ count ∷ []) ≡ count.0 + 1 = next-push 0 counts count in
    let few : length counts ≤ next_from 0 counts = is.behind.few in
    let longer : length (counts ++ count ∷ []) ≡ length counts + 1 = length-append counts (count ∷ []) in
    let small : count.0 < CONNECTIONS = parts.1.0 in
    record {
      behind = record {
        whole = ap (λ front. front ++ behind) (text_push counts count)
            ∙ append_assoc (text_of counts) (written_count count) behind
            ∙ ap (λ bytes. text_of counts ++ bytes) (ap (λ front. front ++ behind) (parts.2 ∙ line_is) ∙ ap (λ bytes. first_line rest ++ bytes) behind_is ∙ first-behind rest)
            ∙ is.behind.whole;
        are = from-push 0 counts count is.behind.are above parts.1;
        few = omega arith;
        small = omega arith;
      };
      least_is = sym next;
    }

line_some : (conn count : ℕ) → 0 < length (count_line conn count)
unfolding count_line
line_some conn count = omega (arith, length-append (decimal conn) (32 ∷ (decimal count ++ 10 ∷ [])))

-- a line isn't empty, so less is left behind it
pub takes_some : (rest line behind : List ℕ) (least : ℕ) (count : ℕ × ℕ) → line ≡ first_line rest → behind ≡ behind_line rest → Some count ≡ count_in least line → length behind < length rest
takes_some rest line behind least count line_is behind_is is_count =
    let parts = count_in-sound least line count (sym is_count) in
    let both : length line + length behind ≡ length rest
    = sym (length-append line behind) ∙ ap (λ bytes. length (bytes ++ behind)) line_is ∙ ap (λ bytes. length (first_line rest ++ bytes)) behind_is ∙ ap length (first-behind rest) in
    let some : 0 < length (written_count count) = line_some count.0 count.1 in
    let same : length (written_count count) ≡ length line = ap length parts.2 in
    omega arith

-- a connection that was read isn't the last number of its type
pub found_small : (line : List ℕ) (least : ℕ) (count : ℕ × ℕ) → Some count ≡ count_in least line → count.0 < CONNECTIONS
found_small line least count is_count = (count_in-sound least line count (sym is_count)).1.0
