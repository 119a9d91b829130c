use Rattle.routes.proofs.Terms.{List, ap, ℕ, ◌++◌, ◌∙◌, ◌≡◌, choice_lines, end_line}
use Rattle.routes.proofs.record_lines.rest_lines.Goals as goal

pub returns : goal.returns
returns c =
    let lines : List ℕ = choice_lines c.args.choices.now in
    let first : c.add_choices.new.bytes.items ≡ lines = c.in_ok-add_choices.ensures ∙ ap (λ (bytes : List ℕ). bytes ++ lines) c.new-bytes.ensures.items in
    let second : c.extend_from_slice.new.self.items ≡ lines ++ end_line c.args.steps c.args.taken =
    c.in_ok-extend_from_slice.ensures.items ∙ ap (λ (bytes : List ℕ). bytes ++ c.as_slice.result.now) first ∙ ap (λ (last : List ℕ). lines ++ last) (c.as_slice.ensures ∙ c.in_ok-end.ensures) in
    c.from_vec.ensures ∙ second
