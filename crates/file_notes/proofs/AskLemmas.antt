-- The lines of answers of the allocator, one after the other.
use Rattle.std.proofs.lemmas.List.Concat.{flat_map-append}
use Rattle.file_notes.proofs.Terms.{List, [], ap, append-nil, subst, sym, take, true, ℕ, ◌++◌, ◌+◌, ◌∙◌, ◌∷◌, ◌≡◌, All-push, Choice, choice_line, choice_lines, is_ask, AreAsks}

module _ (list : List Choice) (i : ℕ) (choice : Choice) (more : take (i + 1) list ≡ take i list ++ choice ∷ []) where
  -- one more line
  pub more_lines : (bytes longer : List ℕ) → bytes ≡ choice_lines (take i list) → longer ≡ bytes ++ choice_line choice → longer ≡ choice_lines (take (i + 1) list)
  more_lines bytes longer are added =
      added ∙ ap (λ l. l ++ choice_line choice) are ∙ ap (λ l. choice_lines (take i list) ++ l) (sym (append-nil (choice_line choice)))
      ∙ sym (flat_map-append choice_line (take i list) (choice ∷ [])) ∙ ap choice_lines (sym more)

  -- whose numbers have 32 bits
  pub more_asks : AreAsks (take i list) → is_ask choice.ask ≡ true → AreAsks (take (i + 1) list)
  more_asks are is = subst AreAsks (sym more) (All-push (λ (c : Choice). is_ask c.ask ≡ true) (take i list) choice are is)
