-- The lines of an episode. Each ends with a line feed.
use Rattle.std.specs.Prelude.{ℕ, List, [], ◌∷◌, ◌++◌, codes}
use Rattle.std.specs.Fmt.{decimal}
use Rattle.session_notes.specs.declared.episode.Try.{Try}
use Rattle.session_notes.specs.declared.episode.Episode.{Episode}
use Rattle.session_notes.specs.Words.{cause_text, env_word, tried_text, eight_digits}

-- `failure E point K cause C at PC`, by the number E of the episode
unfoldable pub failure_text : ℕ → Episode → List ℕ
failure_text number e =
    codes "failure " ++ (decimal number ++ (codes " point " ++ (decimal e.point ++ (codes " cause " ++ (cause_text e.cause ++ (codes " at " ++ (eight_digits e.pc ++ 10 ∷ [])))))))

-- `try T checkpoint Q env V result R`, by the number T of the trial
unfoldable pub try_text : ℕ → Try → List ℕ
try_text number t =
    codes "try " ++ (decimal number ++ (codes " checkpoint " ++ (decimal t.checkpoint ++ (codes " env " ++ (env_word t.env ++ (codes " result " ++ (tried_text t.tried ++ 10 ∷ [])))))))
