use Rattle.command_line.proofs.Terms.{Some, ap, sym, ◌∙◌, texts_of, Asks, shown}
use Rattle.command_line.proofs.Ranges.{ranges_of}
use Rattle.command_line.proofs.command.read_command.Goals as goal

pub returns-in-Ok-clause-ranges : goal.returns-in-Ok-clause-ranges
returns-in-Ok-clause-ranges c =
    let asks : Asks (texts_of c.args.words.now) c.in-Some.asked = c.in-Some.ensures in
    ranges_of (texts_of c.args.words.now) (shown c.in-Ok.command) (asks.value ∙ ap Some (sym c.in-Ok.ensures))
