use Rattle.std.proofs.Common.{◌∙◌, ap}
use Rattle.run_report.specs.Terms.{has_float}
use Rattle.run_report.proofs.Floats.{no_float}
use Rattle.run_report.proofs.json_lines.episode_line.Goals as goal

pub json_line-requires : goal.json_line-requires
json_line-requires c = ap has_float c.in_ok-value.ensures ∙ no_float c.args.number c.args.e.now
