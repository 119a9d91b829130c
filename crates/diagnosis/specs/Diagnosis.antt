-- The text of a diagnosis. Each of its lines ends with a line feed.
use Rattle.std.specs.Prelude.{ℕ, suc, Bool, List, [], ◌∷◌, ◌++◌, length, codes, ◌&&◌, ◌==◌, Option, None, Some, if◌then◌else◌}
use Rattle.std.specs.Fmt.{decimal}
use Rattle.session_notes.specs.declared.episode.Episode.{Episode}
use Rattle.session_notes.specs.Words.{env_word}
use Rattle.session_notes.specs.Lines.{failure_text}
use Rattle.diagnosis.specs.Terms.{Env, Try, survives, try_lines}

abbrev pub head_text : List ℕ
head_text = codes "rx diagnosis 1\n"

-- How many items were taken at the checkpoint of the first trial that survives, if one does. The trials of a table go from the newest
-- checkpoint to the oldest, so this is the newest one at which any survives.
abbrev pub cured_at : List Try → Option ℕ
cured_at [] = None
cured_at (t ∷ tries) = if survives t.tried then Some t.checkpoint else cured_at tries

-- whether a trial survives at this checkpoint
abbrev pub is_cure : ℕ → Try → Bool
is_cure checkpoint t = survives t.tried && (t.checkpoint == checkpoint)

-- the environments of those trials, in their order
abbrev pub envs_at : ℕ → List Try → List Env
envs_at checkpoint [] = []
envs_at checkpoint (t ∷ tries) = if is_cure checkpoint t then t.env ∷ envs_at checkpoint tries else envs_at checkpoint tries

abbrev pub envs_where : Option ℕ → List Try → List Env
envs_where None tries = []
envs_where (Some checkpoint) tries = envs_at checkpoint tries

-- the environments that survive at the newest checkpoint at which any survives
abbrev pub cures : List Try → List Env
cures tries = envs_where (cured_at tries) tries

-- the words of some environments, each after a space
abbrev pub env_words : List Env → List ℕ
env_words [] = []
env_words (env ∷ envs) = codes " " ++ (env_word env ++ env_words envs)

abbrev pub verdict_words : List Env → List ℕ
verdict_words [] = codes " none"
verdict_words (env ∷ envs) = env_words (env ∷ envs)

-- `verdict`, and the environments that cure, or that none does
unfoldable pub verdict_line : List Env → List ℕ
verdict_line envs = codes "verdict" ++ (verdict_words envs ++ 10 ∷ [])

-- what is said of the episode of a number, by the trials of its whole table: the line of the failure, those of the trials, numbered from 0, and the verdict
unfoldable pub episode_lines : ℕ → Episode → List Try → List ℕ
episode_lines number e tries = failure_text number e ++ (try_lines 0 tries ++ verdict_line (cures tries))

-- of some episodes, numbered from this number on, each with its table
abbrev pub episodes_lines : ℕ → List Episode → List (List Try) → List ℕ
episodes_lines number [] tables = []
episodes_lines number (e ∷ episodes) [] = []
episodes_lines number (e ∷ episodes) (tries ∷ tables) = episode_lines number e tries ++ episodes_lines (suc number) episodes tables

-- `end S episodes E`
unfoldable pub end_line : ℕ → ℕ → List ℕ
end_line status count = codes "end " ++ (decimal status ++ (codes " episodes " ++ (decimal count ++ 10 ∷ [])))

-- all behind the first line
abbrev pub rest_text : List Episode → List (List Try) → ℕ → List ℕ
rest_text episodes tables status = episodes_lines 0 episodes tables ++ end_line status (length episodes)

-- the whole text
abbrev pub diagnosis_text : List Episode → List (List Try) → ℕ → List ℕ
diagnosis_text episodes tables status = head_text ++ rest_text episodes tables status
