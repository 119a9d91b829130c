use Rattle.command_line.proofs.Terms.{Bor, ◌∙◌, bytes_eq, Text}
use Rattle.command_line.proofs.Listed.{list_any-map}
use Rattle.command_line.proofs.options.takes_value.Goals as goal

pub returns-in-OneOf : goal.returns-in-OneOf
returns-in-OneOf c =
    rw c.in-OneOf.is (c.is_one_of.ensures ∙ list_any-map (λ text. bytes_eq text c.args.value.now) (λ (text : Bor Text). text.now) c.in-OneOf.texts.now)
