use Rattle.rx.proofs.Windows.{window_shifted}
use Rattle.rx.proofs.seen.window_bytes.Goals as goal

pub returns : goal.returns
returns c =
    let window = c.requires.0 in
    window_shifted c.args.run.now.window window.0 window.1
