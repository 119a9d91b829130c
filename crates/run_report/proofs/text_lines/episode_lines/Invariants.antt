use Rattle.std.proofs.Common.{◌≡◌, ◌++◌, drop}
use Rattle.run_report.specs.TextLines.{episode_lines, try_lines}
use Rattle.run_report.proofs.text_lines.episode_lines.Given as goal

-- what is written, and the lines of the trials that are left, are the whole
abbrev pub invariant-tries : goal.invariant-tries
invariant-tries l = l.text.items ++ try_lines l.i (drop l.i l.tries) ≡ episode_lines l.number l.e
