use Rattle.command_line.proofs.Terms.{rules, true, ◌≡◌, is_numeral}
use Rattle.command_line.proofs.Numbers.{refused}
use Rattle.command_line.proofs.texts.number.Goals as goal

pub returns-in-Err : goal.returns-in-Err
returns-in-Err c =
    let numeral : is_numeral c.args.text.now ≡ true = search rules in
    refused c.args.text.now c.in-Err.field-0 numeral c.in-Err.ensures.value.0
