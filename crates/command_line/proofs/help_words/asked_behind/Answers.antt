use Rattle.command_line.proofs.Terms.{List, ap, drop, length, sym, take, ◌-◌, ◌∙◌, ◌∷◌, Text, help_of}
use Rattle.command_line.proofs.Asking.{first_word}
use Rattle.command_line.proofs.Helped.{pair}
use Rattle.command_line.proofs.help_words.asked_behind.Goals as goal

pub returns : goal.returns
returns c =
    let words = first_word _ c.second-item.result c.as_str.result.now c.in-len1-up.len_at_least c.second-item.is c.as_str.ensures.value in
    c.asked_by_two.ensures ∙ sym (ap (λ (ts : List Text). help_of (c.args.first.now ∷ ts)) words ∙ pair c.args.first.now c.as_str.result.now (take (length c.args.rest.now - 1) (drop 1 c.args.rest.now)) (sym c.is_empty.ensures ∙ c.if-not-is_empty.false))
