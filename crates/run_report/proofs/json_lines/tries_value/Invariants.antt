use Rattle.std.proofs.Common.{◌≡◌, map, take}
use Rattle.run_report.specs.Terms.{view}
use Rattle.run_report.specs.JsonLines.{try_data}
use Rattle.run_report.proofs.json_lines.tries_value.Given as goal

abbrev pub invariant-tries : goal.invariant-tries
invariant-tries l = map view l.values.items ≡ map try_data (take l.t-index l.tries)
