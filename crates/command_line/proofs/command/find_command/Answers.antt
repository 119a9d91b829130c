use Rattle.command_line.proofs.Terms.{Some, sym, ◌∙◌, ◌≡◌, name_of}
use Rattle.command_line.proofs.Asking.{first_word, taken_of}
use Rattle.command_line.proofs.command.find_command.Goals as goal

pub returns : goal.returns
returns c =
    let words = first_word _ c.word-item.result c.as_str.result.now c.in-len1-up.len_at_least c.word-item.is c.as_str.ensures.value in
    let name : name_of c.as_str.result.now ≡ Some c.in-Some.name = sym c.name_of.ensures ∙ c.in-Some.is in
    let taken = sym c.are_words_of.ensures ∙ c.if-not-are_words_of.false in
    record { taken = taken; value = taken_of _ c.as_str.result.now _ c.in-Some.name words name taken }
