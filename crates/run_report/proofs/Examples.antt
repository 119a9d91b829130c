-- The definitions at values that were written by hand from the report's format.
use Rattle.std.proofs.Common.{◌≡◌, [], ◌∷◌, ◌++◌, codes, refl}
use Rattle.alloc_env.specs.declared.env.Env.TheVariants.{Pad, Zero, All}
use Rattle.run_history.specs.declared.answer.Cause.TheVariants.{BadAccess, AssertFailed, BadFree}
use Rattle.session_notes.specs.declared.episode.Tried.TheVariants.{Asks, Failed, Contradicts}
use Rattle.serde_json.proofs.OnLiterals.{serde_json_on_literals}
use Rattle.run_report.specs.Terms.{digits, Episode, Try, failure_text, try_text, eight_digits, Json, Text}
use Rattle.run_report.specs.TextLines.{episode_lines, end_line}
use Rattle.run_report.specs.JsonLines.{json_line}
use Rattle.run_report.specs.Report.{head_text, episode_text, end_text}

first_line : head_text Text ≡ codes "rx report 1\n"
first_line = refl

first_line_as_json : head_text Json ≡ codes "{\"report\":1}\n"
unfolding json_line serde_json_on_literals digits
first_line_as_json = refl

last_line : end_text 3 90 1000012 Text ≡ codes "end 3 taken 90 steps 1000012\n"
unfolding end_line digits
last_line = refl

last_line_as_json : end_text 3 90 1000012 Json ≡ codes "{\"end\":3,\"steps\":1000012,\"taken\":90}\n"
unfolding json_line serde_json_on_literals digits
last_line_as_json = refl

abbrev padded : Try
padded = record { checkpoint = 10; env = Pad; tried = Contradicts }

abbrev zeroed : Try
zeroed = record { checkpoint = 10; env = Zero; tried = Failed BadFree }

abbrev all : Try
all = record { checkpoint = 7; env = All; tried = Asks }

-- one trial, as JSON
abbrev short : Episode
short = record { point = 12; cause = AssertFailed 6; pc = 0x101fc; tries = all ∷ [] }

one_trial_as_json : episode_text 4 short Json
    ≡ codes "{\"cause\":\"AssertFailed 6\",\"failure\":4,\"pc\":\"000101fc\",\"point\":12,\"tries\":[{\"checkpoint\":7,\"env\":\"all\",\"result\":\"survived\"}]}\n"
unfolding json_line serde_json_on_literals digits eight_digits
one_trial_as_json = refl

-- the trials stand under the failure, numbered from 0
abbrev long : Episode
long = record { point = 12; cause = BadAccess; pc = 0xdeadbeef; tries = padded ∷ zeroed ∷ all ∷ [] }

three_trials : episode_text 0 long Text
    ≡ codes "failure 0 point 12 cause BadAccess at deadbeef\n"
    ++ codes "try 0 checkpoint 10 env pad result Contradicts\n"
    ++ codes "try 1 checkpoint 10 env zero result BadFree\n"
    ++ codes "try 2 checkpoint 7 env all result survived\n"
unfolding episode_lines failure_text try_text digits eight_digits
three_trials = refl

no_trial_as_json : episode_text 0 (record { point = 0; cause = BadAccess; pc = 0; tries = [] }) Json
    ≡ codes "{\"cause\":\"BadAccess\",\"failure\":0,\"pc\":\"00000000\",\"point\":0,\"tries\":[]}\n"
unfolding json_line serde_json_on_literals digits eight_digits
no_trial_as_json = refl
