-- What proofs remember of notes, beside what the code keeps. Callers are promised `before_of` alone.
use Rattle.std.specs.Prelude.{ℕ, ◌-◌, List, [], ◌∷◌, ◌++◌, length, Option, None, Some, option_map, unwrap_or, bytes_eq, if◌then◌else◌}
use Rattle.file_notes.specs.Terms.{FileCall, Contents, Choice, Episode, Form, choice_lines}
use Rattle.file_notes.specs.Left.{Left, Nothing, InRecord, InReport}
use Rattle.file_notes.specs.Names.{Names, bytes_in}
use Rattle.file_notes.specs.Texts.{episode_texts}

-- what the two files had: each its bytes, if it was there
pub record Had : Type 0 where
  pub record_bytes : Option (List ℕ)
  pub report_bytes : Option (List ℕ)

-- what the two files had before and which calls were made before, if that was told; the number of the first episode; what was noted since, and what a
-- call that failed left
pub record Past : Type 0 where
  pub first : ℕ
  pub had : Option Had
  pub calls : Option (List FileCall)
  pub choices : List Choice
  pub episodes : List Episode
  pub left : Left

-- nothing was noted yet, and the first episode will have this number
abbrev pub begun : Option Contents → Option (List FileCall) → Names → ℕ → Past
begun told calls names first = record {
  first = first;
  had = option_map (λ (files : Contents). record { record_bytes = files names.record_name; report_bytes = files names.report_name }) told;
  calls = calls;
  choices = [];
  episodes = [];
  left = Nothing;
}

-- more was noted
abbrev pub with_choices : Past → List Choice → Past
with_choices past more = record past { choices = past.choices ++ more }

abbrev pub with_episode : Past → Episode → Past
with_episode past e = record past { episodes = past.episodes ++ e ∷ [] }

-- how many bytes stand in a file behind those that it had, which are so many
abbrev pub behind : Option Contents → List ℕ → ℕ → ℕ
behind None name count = 0
behind (Some now) name count = length (bytes_in now name) - count

abbrev pub had_record : Option Had → List ℕ
had_record None = []
had_record (Some had) = unwrap_or had.record_bytes []

abbrev pub had_report : Option Had → List ℕ
had_report None = []
had_report (Some had) = unwrap_or had.report_bytes []

-- a call that was to note more has failed, and this is told now
abbrev pub without_choices : Names → Past → List Choice → Option Contents → Past
without_choices names past more now =
    record past { left = InRecord more (behind now names.record_name (length (had_record past.had ++ choice_lines past.choices))) }

abbrev pub without_episode : Names → Form → Past → Episode → Option Contents → Past
without_episode names form past e now =
    record past { left = InReport e (behind now names.report_name (length (had_report past.had ++ episode_texts form past.first past.episodes))) }

-- what the files had before: the two what they had, and each other one what it has now
abbrev pub had_in : Names → Had → Contents → Contents
had_in names had now name =
    if bytes_eq name names.record_name then had.record_bytes else
    if bytes_eq name names.report_name then had.report_bytes else
    now name

abbrev pub before_of : Names → Option Had → Option Contents → Option Contents
before_of names None now = None
before_of names (Some had) None = None
before_of names (Some had) (Some now) = Some (had_in names had now)
