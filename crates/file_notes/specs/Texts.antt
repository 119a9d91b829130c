-- The text of a whole report, and what of it some episodes make.
use Rattle.std.specs.Prelude.{ℕ, suc, List, [], ◌∷◌, ◌++◌}
use Rattle.file_notes.specs.Terms.{Episode, Form, end_text, episode_text, head_text}

-- the texts of some episodes, numbered from this number on
abbrev pub episode_texts : Form → ℕ → List Episode → List ℕ
episode_texts form number [] = []
episode_texts form number (e ∷ episodes) = episode_text number e form ++ episode_texts form (suc number) episodes

-- the first line, and behind it the texts of some episodes, numbered from 0
abbrev pub told_text : Form → List Episode → List ℕ
told_text form episodes = head_text form ++ episode_texts form 0 episodes

-- the whole text
abbrev pub report_text : Form → List Episode → ℕ → ℕ → ℕ → List ℕ
report_text form episodes status taken steps = head_text form ++ (episode_texts form 0 episodes ++ end_text status taken steps form)
