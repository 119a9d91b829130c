use Rattle.routes.proofs.Terms.{List, ap, append_assoc, ℕ, ◌++◌, ◌∙◌, ◌≡◌, VERSION, choice_lines, end_line, head_line}
use Rattle.routes.proofs.ConvertLemmas.{lines_are}
use Rattle.routes.proofs.converting.text_of.Goals as goal

pub returns : goal.returns
returns c =
    let head : List ℕ = head_line VERSION c.args.recorded.now.window c.args.recorded.now.frame in
    let end : List ℕ = end_line c.args.recorded.now.steps c.args.recorded.now.taken in
    let lines : List ℕ = choice_lines c.args.choices.now in
    let first : c.extend_from_slice.new.self.items ≡ head =
    c.in_ok-extend_from_slice.ensures.items ∙ ap (λ (bytes : List ℕ). bytes ++ c.as_slice.result.now) c.new-bytes.ensures.items ∙ c.as_slice.ensures ∙ c.in_ok-head.ensures in
    let second : c.add_choices.new.bytes.items ≡ head ++ lines = c.in_ok-add_choices.ensures ∙ ap (λ (bytes : List ℕ). bytes ++ lines) first in
    let third : c.extend_from_slice-2.new.self.items ≡ (head ++ lines) ++ end =
    c.in_ok-extend_from_slice-2.ensures.items ∙ ap (λ (bytes : List ℕ). bytes ++ c.as_slice-2.result.now) second ∙ ap (λ (last : List ℕ). (head ++ lines) ++ last) (c.as_slice-2.ensures ∙ c.in_ok-end.ensures) in
    c.from_vec.ensures ∙ third ∙ append_assoc head lines end ∙ ap (λ (all : List ℕ). head ++ (all ++ end)) (lines_are c.args.choices.now)
