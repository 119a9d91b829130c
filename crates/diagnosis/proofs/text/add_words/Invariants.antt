use Rattle.diagnosis.proofs.Terms.{drop, ◌++◌, ◌≡◌, env_words}
use Rattle.diagnosis.proofs.text.add_words.Given as goal

-- what is written, and the words of the environments that are left, are the whole
abbrev pub invariant-envs : goal.invariant-envs
invariant-envs l = l.text.items ++ env_words (drop l.env-index l.envs) ≡ l.fn.text.items ++ env_words l.envs
