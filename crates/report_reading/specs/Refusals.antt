-- At which line a text is refused. What was read of a report is a report itself, which each line makes longer.
use Rattle.std.specs.Prelude.{ℕ, ◌+◌, Bool, ◌&&◌, not, List, [], ◌∷◌, ◌++◌, length, Option, Some, None, is_some, option_map, Result, Ok, Err, bytes_eq, slice_index, nat_le, if◌then◌else◌, ◌==◌}
use Rattle.report_reading.specs.Terms.{option_and_then, Episode, Try, survives, is_empty, Form, Json, Text, head_text}
use Rattle.report_reading.specs.declared.reported.ReadReport.{ReadReport}
use Rattle.report_reading.specs.declared.reported.ReportEnd.{ReportEnd}
use Rattle.report_reading.specs.Telling.{failure_of, try_of, episode_of, end_of}
use Rattle.report_reading.specs.Cutting.{cut}
use Rattle.report_reading.specs.Reports.{last_survived, least_behind, none_survived}

-- a report of its first line alone
abbrev pub begun : Form → ReadReport
begun form = record { form = form; adopted = []; failed = None; end = None }

-- what a first line begins
abbrev pub head_of : List ℕ → Option ReadReport
head_of line =
    if bytes_eq (head_text Text) line then Some (begun Text) else
    if bytes_eq (head_text Json) line then Some (begun Json) else
    None

abbrev pub with_try : Episode → Try → Episode
with_try e t = record e { tries = e.tries ++ t ∷ [] }

-- an episode stands behind those that were adopted: it is adopted too, or none of its trials has survived so far
abbrev pub adopting : ReadReport → Episode → ReadReport
adopting value e = record value { adopted = value.adopted ++ e ∷ []; failed = None }

abbrev pub failing : ReadReport → Episode → ReadReport
failing value e = record value { failed = Some e }

abbrev pub ending : ReadReport → ReportEnd → ReadReport
ending value finish = record value { end = Some finish }

-- a failure behind these episodes, if its point is above theirs
abbrev pub failed_behind : ReadReport → Episode → Option ReadReport
failed_behind value e = if nat_le (least_behind 0 value.adopted) e.point then Some (failing value e) else None

-- one more trial of the last episode
abbrev pub tried_behind : ReadReport → Episode → Try → ReadReport
tried_behind value e t = if survives t.tried then adopting value (with_try e t) else failing value (with_try e t)

-- an episode with all its trials, if its point is above those before it: the last trial survived, or none
abbrev pub told_behind : ReadReport → Episode → Option ReadReport
told_behind value e =
    if not (nat_le (least_behind 0 value.adopted) e.point) then None else
    if last_survived e.tries then Some (adopting value e) else
    if none_survived e.tries then Some (failing value e) else
    None

-- as text: the line of a trial behind a failure of which none survived, else that of a failure. As JSON: the line of an episode behind ones
-- that were adopted
abbrev pub episode_line : Form → ReadReport → Option Episode → List ℕ → Option ReadReport
episode_line Text value None line = option_and_then (failed_behind value) (failure_of (length value.adopted) line)
episode_line Text value (Some e) line = option_map (tried_behind value e) (try_of (length e.tries) line)
episode_line Json value None line = option_and_then (told_behind value) (episode_of (length value.adopted) line)
episode_line Json value (Some e) line = None

-- a last line has an e in front, as JSON behind a brace and a quote
abbrev pub begins_end : Form → List ℕ → Bool
begins_end Text line = slice_index line 0 == 101
begins_end Json line = slice_index line 2 == 101

-- one line more. Behind the last one none is in its place
abbrev pub next_of : ReadReport → List ℕ → Option ReadReport
next_of value line =
    if is_some value.end then None else
    if begins_end value.form line then option_map (ending value) (end_of value.form line) else
    episode_line value.form value value.failed line

-- behind the end nothing stands, also no torn line
abbrev pub finished : ℕ → ReadReport → List ℕ → Result ReadReport ℕ
finished number value torn = if is_some value.end && not (is_empty torn) then Err (number + 1) else Ok value

-- what was read up to the line of this number, and some lines and a torn one behind it
abbrev pub read_from : ℕ → Option ReadReport → List (List ℕ) → List ℕ → Result ReadReport ℕ
read_from number None lines torn = Err number
read_from number (Some value) [] torn = finished number value torn
read_from number (Some value) (line ∷ lines) torn = read_from (number + 1) (next_of value line) lines torn

abbrev pub read_on : ℕ → Option ReadReport → List ℕ → Result ReadReport ℕ
read_on number state text = read_from number state (cut text).lines (cut text).torn

abbrev pub read_lines : List (List ℕ) → List ℕ → Result ReadReport ℕ
read_lines [] torn = Err 1
read_lines (line ∷ lines) torn = read_from 1 (head_of line) lines torn

-- a text's report, or the first line, from 1, that isn't in its place
abbrev pub outcome : List ℕ → Result ReadReport ℕ
outcome text = read_lines (cut text).lines (cut text).torn
