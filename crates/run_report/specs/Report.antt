-- A report: its first line, what it says of each episode in their order, and its last line.
use Rattle.std.specs.Prelude.{ℕ, List}
use Rattle.run_report.specs.Terms.{Episode, Json, Text}
use Rattle.run_report.specs.declared.form.Form.{Form}
use Rattle.run_report.specs.TextLines.{head_line, episode_lines, end_line}
use Rattle.run_report.specs.JsonLines.{json_line, head_data, episode_data, end_data}

abbrev pub head_text : Form → List ℕ
head_text Text = head_line
head_text Json = json_line head_data

-- of the episode of this number, counted from 0
abbrev pub episode_text : ℕ → Episode → Form → List ℕ
episode_text number e Text = episode_lines number e
episode_text number e Json = json_line (episode_data number e)

-- the status, the items taken, and the instructions executed
abbrev pub end_text : ℕ → ℕ → ℕ → Form → List ℕ
end_text status taken steps Text = end_line status taken steps
end_text status taken steps Json = json_line (end_data status taken steps)
