use Rattle.command_line.proofs.Terms.{ap, sym, ◌∙◌, help_of}
use Rattle.command_line.proofs.Asking.{first_word}
use Rattle.command_line.proofs.help_words.asked_help.Goals as goal

pub returns : goal.returns
returns c =
    let words = first_word _ c.first-item.result c.as_str.result.now c.in-len1-up.len_at_least c.first-item.is c.as_str.ensures.value in
    c.asked_behind.ensures ∙ ap help_of (sym words)
