-- What a line is read as. A line tells a value by its places, whatever stands there; it is of its form exactly where writing the value
-- gives these very bytes.
use Rattle.std.specs.Prelude.{ℕ, ◌-◌, ◌^◌, min, List, [], ◌∷◌, length, drop, Option, Some, None, bytes_eq, slice_index, nat_le, nat_lt, if◌then◌else◌, ◌==◌}
use Rattle.alloc_env.specs.declared.env.Env.TheVariants as env
use Rattle.report_reading.specs.Terms.{Env, Delay, Isolate, Pad, Plain, Zero, Cause, AssertFailed, BadAccess, BadCall, BadFree, BadInstruction, BadJump, Hang, Episode, Tried, Asks, Behind, Contradicts, Failed, Try, failure_text, try_text, env_word, behind_digits, clipped, number_from, Form, Json, Text, end_text, episode_text, hex_at}
use Rattle.report_reading.specs.declared.reported.ReportEnd.{ReportEnd}

-- the value that a line tells, if the line is what is written of it
abbrev pub if_written : {Value : Type 0} → (Value → List ℕ) → Value → List ℕ → Option Value
if_written write told line = if bytes_eq (write told) line then Some told else None

-- the number of the digits in front, or the largest of 64, 32 or 8 bits where it is above that
abbrev pub long_told : List ℕ → ℕ
long_told bytes = clipped (number_from 0 bytes)

abbrev pub word_told : List ℕ → ℕ
word_told bytes = min (number_from 0 bytes) (2 ^ 32 - 1)

abbrev pub byte_told : List ℕ → ℕ
byte_told bytes = min (number_from 0 bytes) (2 ^ 8 - 1)

-- ---- words

-- a cause, by the first letter of its name, or by the fourth where that is B
abbrev pub cause_told : List ℕ → Cause
cause_told bytes =
    if slice_index bytes 0 == 65 then AssertFailed (word_told (drop 13 bytes)) else
    if slice_index bytes 0 == 72 then Hang else
    if slice_index bytes 3 == 65 then BadAccess else
    if slice_index bytes 3 == 74 then BadJump else
    if slice_index bytes 3 == 73 then BadInstruction else
    if slice_index bytes 3 == 70 then BadFree else
    BadCall

-- what stands behind a cause
abbrev pub behind_cause : Cause → List ℕ → List ℕ
behind_cause BadAccess bytes = drop 9 bytes
behind_cause BadJump bytes = drop 7 bytes
behind_cause BadInstruction bytes = drop 14 bytes
behind_cause (AssertFailed code) bytes = behind_digits (drop 13 bytes)
behind_cause Hang bytes = drop 4 bytes
behind_cause BadFree bytes = drop 7 bytes
behind_cause BadCall bytes = drop 7 bytes

-- what came of a trial, by the first two letters. One that ended itself reads as one that asks for the next item
abbrev pub tried_told : List ℕ → Tried
tried_told bytes =
    if slice_index bytes 0 == 115 then Asks else
    if slice_index bytes 0 == 67 then Contradicts else
    if slice_index bytes 1 == 101 then Behind else
    Failed (cause_told bytes)

-- an environment, by its first letter, or by its second where that is p
abbrev pub env_told : List ℕ → Env
env_told bytes =
    if slice_index bytes 0 == 122 then Zero else
    if slice_index bytes 0 == 105 then Isolate else
    if slice_index bytes 0 == 100 then Delay else
    if slice_index bytes 0 == 97 then env.All else
    if slice_index bytes 1 == 108 then Plain else
    Pad

-- ---- the line of a failure

-- what stands behind ` point `, behind ` cause ` and behind ` at `
abbrev pub point_part : List ℕ → List ℕ
point_part line = drop 7 (behind_digits (drop 8 line))

abbrev pub cause_part : List ℕ → List ℕ
cause_part line = drop 7 (behind_digits (point_part line))

abbrev pub pc_part : List ℕ → List ℕ
pc_part line = drop 4 (behind_cause (cause_told (cause_part line)) (cause_part line))

abbrev pub failure_told : List ℕ → Episode
failure_told line =
    record { point = long_told (point_part line); cause = cause_told (cause_part line); pc = min (hex_at 0 (pc_part line)) (2 ^ 32 - 1); tries = [] }

-- the failure of this number, with no trial yet
unfoldable pub failure_of : ℕ → List ℕ → Option Episode
failure_of number line = if_written (failure_text number) (failure_told line) line

-- ---- the line of a trial

-- what stands behind ` checkpoint `, behind ` env ` and behind ` result `
abbrev pub checkpoint_part : List ℕ → List ℕ
checkpoint_part line = drop 12 (behind_digits (drop 4 line))

abbrev pub env_part : List ℕ → List ℕ
env_part line = drop 5 (behind_digits (checkpoint_part line))

abbrev pub result_part : List ℕ → List ℕ
result_part line = drop 8 (drop (length (env_word (env_told (env_part line)))) (env_part line))

abbrev pub try_told : List ℕ → Try
try_told line = record { checkpoint = long_told (checkpoint_part line); env = env_told (env_part line); tried = tried_told (result_part line) }

-- the trial of this number, which has 64 bits
unfoldable pub try_of : ℕ → List ℕ → Option Try
try_of number line = if nat_lt number (2 ^ 64) then if_written (try_text number) (try_told line) line else None

-- ---- the line of an episode, as JSON

-- what stands behind `{"cause":"`, behind `,"pc":"` and behind `","point":`
abbrev pub cause_in : List ℕ → List ℕ
cause_in line = drop 10 line

abbrev pub pc_in : List ℕ → List ℕ
pc_in line = drop 7 (behind_digits (drop 12 (behind_cause (cause_told (cause_in line)) (cause_in line))))

abbrev pub point_in : List ℕ → List ℕ
point_in line = drop 18 (pc_in line)

-- what stands behind `"checkpoint":`, behind `,"env":"` and behind `","result":"`, of what stands behind a brace
abbrev pub checkpoint_in : List ℕ → List ℕ
checkpoint_in bytes = drop 13 bytes

abbrev pub env_in : List ℕ → List ℕ
env_in bytes = drop 8 (behind_digits (checkpoint_in bytes))

abbrev pub result_in : List ℕ → List ℕ
result_in bytes = drop 12 (drop (length (env_word (env_told (env_in bytes)))) (env_in bytes))

abbrev pub try_in : List ℕ → Try
try_in bytes = record { checkpoint = long_told (checkpoint_in bytes); env = env_told (env_in bytes); tried = tried_told (result_in bytes) }

-- a trial behind each brace
abbrev pub tries_in : List ℕ → List Try
tries_in [] = []
tries_in (byte ∷ bytes) = if byte == 123 then try_in bytes ∷ tries_in bytes else tries_in bytes

-- the trials stand behind `,"tries":[`
abbrev pub episode_told : List ℕ → Episode
episode_told line =
    record { point = long_told (point_in line); cause = cause_told (cause_in line); pc = min (hex_at 0 (pc_in line)) (2 ^ 32 - 1); tries = tries_in (drop 10 (behind_digits (point_in line))) }

abbrev pub written_episode : ℕ → Episode → List ℕ
written_episode number e = episode_text number e Json

-- the episode of this number, with all its trials
unfoldable pub episode_of : ℕ → List ℕ → Option Episode
episode_of number line = if nat_le (length (episode_told line).tries) (2 ^ 64) then if_written (written_episode number) (episode_told line) line else None

-- ---- the last line

abbrev pub end_with : ℕ → ℕ → ℕ → ReportEnd
end_with status taken steps = record { status = status; taken = taken; steps = steps }

-- the numbers stand behind `end `, ` taken ` and ` steps `, or behind `{"end":`, `,"steps":` and `,"taken":`
abbrev pub end_told : Form → List ℕ → ReportEnd
end_told Text line =
    let taken : List ℕ = drop 7 (behind_digits (drop 4 line)) in
    end_with (byte_told (drop 4 line)) (long_told taken) (long_told (drop 7 (behind_digits taken)))
end_told Json line =
    let steps : List ℕ = drop 9 (behind_digits (drop 7 line)) in
    end_with (byte_told (drop 7 line)) (long_told (drop 9 (behind_digits steps))) (long_told steps)

abbrev pub written_end : Form → ReportEnd → List ℕ
written_end form finish = end_text finish.status finish.taken finish.steps form

unfoldable pub end_of : Form → List ℕ → Option ReportEnd
end_of form line = if_written (written_end form) (end_told form line) line
