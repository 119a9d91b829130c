-- What is found of a refused field: no refusal of the program headers is for a field of the ELF header.
use Rattle.elf_file.proofs.Terms.{List, None, Option, Some, ap, refl, true, ℕ, ◌∙◌, ◌≡◌, option_map, is_some, ProgramHeader, RefusedField, IsFirstWrong, Place, field_place, header_place}

-- a field is found where its program header is
pub same_some : (found : Option RefusedField) (place : ℕ → Place) (index : Option ℕ) → option_map field_place found ≡ option_map place index → is_some found ≡ is_some index
same_some (Some field) place (Some n) e = refl
same_some (Some field) place None e = cc
same_some None place (Some n) e = cc
same_some None place None e = refl

none_found : (found : Option RefusedField) → option_map field_place found ≡ None → is_some found ≡ true → ⊥
none_found (Some field) none some = cc
none_found None none some = cc

no_place : (bytes : List ℕ) (number other : ℕ) (found : Option RefusedField) → header_place bytes other ≡ None → option_map field_place found ≡ header_place bytes number → is_some found ≡ true → number ≡ other → ⊥
no_place bytes number other found none place some e = none_found found (place ∙ ap (header_place bytes) e ∙ none) some

pub header_field_found : (bytes : List ℕ) (headers : List ProgramHeader) (window number : ℕ) (found : Option RefusedField) → option_map field_place found ≡ header_place bytes number → is_some found ≡ true → IsFirstWrong bytes headers window number found
unfolding header_place
header_field_found bytes headers window number found place some = record {
  dynamic = λ e. absurd (no_place bytes number 9 found refl place some e);
  thread_local = λ e. absurd (no_place bytes number 10 found refl place some e);
  misplaced = λ e. absurd (no_place bytes number 11 found refl place some e);
  overlapping = λ e _. absurd (no_place bytes number 12 found refl place some e);
  large = λ e. absurd (no_place bytes number 15 found refl place some e);
}
