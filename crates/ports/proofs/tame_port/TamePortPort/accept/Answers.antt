use Rattle.ports.proofs.Terms.{Bool, List, [], ap, rules, true, ℕ, ◌++◌, ◌+◌, ◌∙◌, ◌∷◌, open_count, open_more}
use Rattle.ports.proofs.tame_port.TamePortPort.accept.Goals as goal

pub invariant_of-self-2 : goal.invariant_of-self-2
invariant_of-self-2 c = record {
  goes_on = search rules;
  counted = search rules;
  begun_each = search rules;
  few = search rules;
  open_counted = ap open_count (c.push_reserved-2.ensures.items ∙ ap (λ (l : List Bool). l ++ true ∷ []) c.reserve-2.ensures.items) ∙ open_more c.args.self.now.opened.items ∙ ap (λ (n : ℕ). n + 1) c.args.self.now.open_counted;
  open_few = search rules;
  room_to_close = search rules;
}
