use Rattle.diagnosis.proofs.Terms.{drop, ◌++◌, ◌≡◌, episodes_lines}
use Rattle.diagnosis.proofs.text.add_episodes.Given as goal

-- what is written, and what is said of the episodes that are left, are the whole
abbrev pub invariant-episodes : goal.invariant-episodes
invariant-episodes l = l.text.items ++ episodes_lines l.i (drop l.i l.episodes) (drop l.i l.tables) ≡ l.fn.text.items ++ episodes_lines 0 l.episodes l.tables
