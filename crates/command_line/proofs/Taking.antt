-- Words taken apart, part by part.
use Rattle.command_line.proofs.Terms.{Global, Bor, List, [], ap, ap₂, arith, drop, false, length, refl, sym, take, true, ◌-◌, ◌<◌, ◌∙◌, ◌∷◌, ◌≡◌, ◌≤◌, take_rest, slice_index_or, String, string_bytes, Positional, Text, is_dashed, StartsWith, nothing, parts, parts_behind, parts_of, texts_of, with_option, with_positional}
use Rattle.command_line.specs.declared.parts.Part.TheVariants.{Option as OptionPart}

pub no_words : parts [] ≡ nothing
unfolding parts_behind
no_words = refl

-- nothing is left where no word is
pub ended : (ws : List (String Global)) → ws ≡ [] → parts_of ws ≡ nothing
ended ws none = ap parts_of none ∙ no_words

pub plain_word : (word : Text) (rest : List Text) → is_dashed word ≡ false → parts (word ∷ rest) ≡ with_positional word (parts rest)
unfolding parts_behind
plain_word word rest e = rw e refl

pub option_with : (word value : Text) (rest : List Text) → is_dashed word ≡ true → parts (word ∷ value ∷ rest) ≡ with_option word value (parts rest)
unfolding parts_behind
option_with word value rest e = rw e refl

pub option_without : (word : Text) → is_dashed word ≡ true → parts (word ∷ []) ≡ with_option word [] (parts [])
unfolding parts_behind
option_without word e = rw e refl

pub positional_first : (ws : List (String Global)) (w : String Global) (t : Bor Text) → 1 ≤ length ws → w ≡ slice_index_or ws 0 w → t.now ≡ string_bytes w → is_dashed t.now ≡ false
    → StartsWith ws (Positional t) (take (length ws - 1) (drop 1 ws))
positional_first [] w t some at text plain = absurd (omega arith)
positional_first (x ∷ xs) w t some at text plain =
    let left = take_rest (x ∷ xs) 1 in
    let first : string_bytes x ≡ t.now = ap (λ (s : String Global). string_bytes s) (sym at) ∙ sym text in
    record {
      parts = ap (λ word. parts (word ∷ texts_of xs)) first ∙ plain_word t.now (texts_of xs) plain ∙ ap (λ ys. with_positional t.now (parts_of ys)) (sym left);
      shorter = rw left (omega arith);
    }

pub option_alone : (ws : List (String Global)) (w : String Global) (t v : Bor Text) → 1 ≤ length ws → w ≡ slice_index_or ws 0 w → t.now ≡ string_bytes w → is_dashed t.now ≡ true → v.now ≡ []
    → length (take (length ws - 1) (drop 1 ws)) < 1 → StartsWith ws (OptionPart t v) (take (length ws - 1) (drop 1 ws))
option_alone [] w t v some at text dashed empty none = absurd (omega arith)
option_alone (x ∷ y ∷ xs) w t v some at text dashed empty none =
    let left = take_rest (x ∷ y ∷ xs) 1 in
    let far : length (y ∷ xs) < 1 = rw left at none in
    absurd (omega arith)
option_alone (x ∷ []) w t v some at text dashed empty none =
    let first : string_bytes x ≡ t.now = ap (λ (s : String Global). string_bytes s) (sym at) ∙ sym text in
    record {
      parts = ap (λ word. parts (word ∷ [])) first ∙ option_without t.now dashed ∙ ap (λ value. with_option t.now value (parts [])) (sym empty);
      shorter = omega arith;
    }

pub option_first : (ws rest : List (String Global)) (w x : String Global) (t v : Bor Text) → 1 ≤ length ws → w ≡ slice_index_or ws 0 w → t.now ≡ string_bytes w → is_dashed t.now ≡ true
    → rest ≡ take (length ws - 1) (drop 1 ws) → 1 ≤ length rest → x ≡ slice_index_or rest 0 x → v.now ≡ string_bytes x
    → StartsWith ws (OptionPart t v) (take (length rest - 1) (drop 1 rest))
option_first [] rest w x t v some at text dashed is more at_rest value = absurd (omega arith)
option_first (a ∷ xs) [] w x t v some at text dashed is more at_rest value = absurd (omega arith)
option_first (a ∷ xs) (b ∷ bs) w x t v some at text dashed is more at_rest value =
    let behind : xs ≡ b ∷ bs = sym (is ∙ take_rest (a ∷ xs) 1) in
    let left = take_rest (b ∷ bs) 1 in
    let first : string_bytes a ≡ t.now = ap (λ (s : String Global). string_bytes s) (sym at) ∙ sym text in
    let second : string_bytes b ≡ v.now = ap (λ (s : String Global). string_bytes s) (sym at_rest) ∙ sym value in
    record {
      parts = ap (λ ys. parts (string_bytes a ∷ texts_of ys)) behind ∙ ap₂ (λ p q. parts (p ∷ q ∷ texts_of bs)) first second
          ∙ option_with t.now v.now (texts_of bs) dashed ∙ ap (λ ys. with_option t.now v.now (parts_of ys)) (sym left);
      shorter = rw left (let more_words = ap length behind in omega arith);
    }
