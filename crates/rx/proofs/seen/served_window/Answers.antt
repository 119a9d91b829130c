use Rattle.rx.proofs.Windows.{window_shifted}
use Rattle.rx.proofs.seen.served_window.Goals as goal

-- behind the port and the number of connections
pub returns : goal.returns
returns c =
    let window = c.requires.0.1.1.0 in
    window_shifted c.args.command.now.session.window window.0 window.1
