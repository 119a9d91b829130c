use Rattle.clap.specs.Words.{Text}
use Rattle.command_line.proofs.Terms.{Bor, drop, fold, map, ◌≡◌, app_of, new_rule, with_rule}
use Rattle.command_line.proofs.matching.with_positionals.Given as goal

abbrev pub invariant-loop-name : goal.invariant-loop-name
invariant-loop-name l =
    fold with_rule (app_of l.command) (map new_rule (map (λ (t : Bor Text). t.now) (drop l.name-index l.names)))
    ≡ fold with_rule (app_of l.fn.command) (map new_rule (map (λ (t : Bor Text). t.now) l.names))
