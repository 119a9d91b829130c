-- A text has one reading at most, and one where no line is refused.
use Rattle.std.specs.List.{concat}
use Rattle.counts_file.proofs.Terms.{List, None, Option, Some, [], ap, cond, refl, subst, sym, ℕ, ◌++◌, ◌+◌, ◌∙◌, ◌∷◌, ◌≡◌, is_some, map, joined, lines_of-line, lines_of, IsReading, text_of, written_count, refused_from, refused_line, AreFrom, count_in, count_told}
use Rattle.counts_file.proofs.Rising.{counts-from, from-counts}
use Rattle.counts_file.proofs.Written.{count_in-sound, count_told-line, is_line-count}

-- each line tells its connection and its count
told-lines : (least : ℕ) (counts : List (ℕ × ℕ)) → AreFrom least counts → map count_told (lines_of (text_of counts)) ≡ counts
told-lines least [] are = refl
told-lines least (line ∷ lines) are =
    ap (map count_told) (lines_of-line (written_count line) (text_of lines) (is_line-count line are.1.0))
    ∙ ap (λ (first : ℕ × ℕ). first ∷ map count_told (lines_of (text_of lines))) (count_told-line line are.1.0)
    ∙ ap (λ rest. line ∷ rest) (told-lines (line.0 + 1) lines are.1.1)

pub one_reading : (text : List ℕ) (a b : List (ℕ × ℕ)) → IsReading text a → IsReading text b → a ≡ b
one_reading text a b is_a is_b =
    sym (told-lines 0 a (from-counts a is_a.0)) ∙ ap (λ bytes. map count_told (lines_of bytes)) (is_a.1 ∙ sym is_b.1) ∙ told-lines 0 b (from-counts b is_b.0)

-- ---- a text none of whose lines is refused

-- what unrefused lines say
record Says (least : ℕ) (text : List ℕ) : Type 0 where
  counts : List (ℕ × ℕ)
  are : AreFrom least counts
  text_is : text_of counts ≡ text

says_count : (number least : ℕ) (line : List ℕ) (lines : List (List ℕ)) (found : Option (ℕ × ℕ)) → count_in least line ≡ found →
    cond (is_some found) (refused_from (number + 1) ((count_told line).0 + 1) lines) (Some number) ≡ None →
    (refused_from (number + 1) ((count_told line).0 + 1) lines ≡ None → Says ((count_told line).0 + 1) (concat lines)) → Says least (line ++ concat lines)
says_count number least line lines None e h more = absurd (cc)
says_count number least line lines (Some count) e h more =
    let parts = count_in-sound least line count e in
    let told : (count_told line).0 + 1 ≡ count.0 + 1 = ap (λ (pair : ℕ × ℕ). pair.0 + 1) (ap count_told (sym parts.2) ∙ count_told-line count parts.1) in
    let rest = more h in
    record {
      counts = count ∷ rest.counts;
      are = (parts.0, (parts.1, subst (λ (n : ℕ). AreFrom n rest.counts) told rest.are));
      text_is = ap (λ front. front ++ text_of rest.counts) parts.2 ∙ ap (λ behind. line ++ behind) rest.text_is;
    }

says : (number least : ℕ) (lines : List (List ℕ)) → refused_from number least lines ≡ None → Says least (concat lines)
says number least [] h = record { counts = []; are = tt; text_is = refl }
says number least (line ∷ lines) h = says_count number least line lines (count_in least line) refl h (says (number + 1) ((count_told line).0 + 1) lines)

pub unrefused : (text : List ℕ) → refused_line text ≡ None → (counts : List (ℕ × ℕ)) × IsReading text counts
unrefused text h =
    let found = says 1 0 (lines_of text) h in
    (found.counts, (counts-from 0 found.counts found.are, found.text_is ∙ joined text))
