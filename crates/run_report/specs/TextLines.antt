-- A report's lines as text. Each ends with a line feed.
use Rattle.std.specs.Prelude.{ℕ, suc, List, [], ◌∷◌, ◌++◌, codes}
use Rattle.run_report.specs.Terms.{decimal, Episode, Try, failure_text, try_text}

abbrev pub head_line : List ℕ
head_line = codes "rx report 1\n"

-- a line for each trial, by their numbers from this one on
abbrev pub try_lines : ℕ → List Try → List ℕ
try_lines number [] = []
try_lines number (t ∷ tries) = try_text number t ++ try_lines (suc number) tries

-- the line of the failure, and under it those of the trials, numbered from 0
unfoldable pub episode_lines : ℕ → Episode → List ℕ
episode_lines number e = failure_text number e ++ try_lines 0 e.tries

-- `end S taken T steps N`
unfoldable pub end_line : ℕ → ℕ → ℕ → List ℕ
end_line status taken steps = codes "end " ++ (decimal status ++ (codes " taken " ++ (decimal taken ++ (codes " steps " ++ (decimal steps ++ 10 ∷ [])))))
