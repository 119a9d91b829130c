use Rattle.std.specs.Prelude.{map, take}
use Rattle.rx_serve.proofs.Terms.{◌≡◌, line_of}
use Rattle.rx_serve.proofs.resuming_files.choices_of.Given as goal

abbrev pub invariant-lines : goal.invariant-lines
invariant-lines l = map line_of l.choices.items ≡ take l.line-index l.lines
