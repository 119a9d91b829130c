-- The words and numbers of a report's lines.
use Rattle.std.specs.Prelude.{ℕ, zero, suc, ◌+◌, ◌/◌, ◌%◌, List, [], ◌∷◌, ◌++◌, codes, nat_lt, if◌then◌else◌}
use Rattle.std.specs.Fmt.{decimal}
use Rattle.alloc_env.specs.declared.env.Env.{Env}
use Rattle.alloc_env.specs.declared.env.Env.TheVariants.{Plain, Pad, Zero, Isolate, Delay, All}
use Rattle.run_history.specs.declared.answer.Cause.{Cause}
use Rattle.run_history.specs.declared.answer.Cause.TheVariants.{BadAccess, BadJump, BadInstruction, AssertFailed, Hang, BadFree, BadCall}
use Rattle.session_notes.specs.declared.episode.Tried.{Tried}
use Rattle.session_notes.specs.declared.episode.Tried.TheVariants.{Asks, Exits, Failed, Contradicts, Behind}

-- the lower-case hexadecimal digit of a number below 16
abbrev pub hex_digit : ℕ → ℕ
hex_digit n = if nat_lt n 10 then 48 + n else 87 + n

-- so many hexadecimal digits of a number, the highest first
abbrev pub hex_digits : ℕ → ℕ → List ℕ
hex_digits zero n = []
hex_digits (suc count) n = hex_digits count (n / 16) ++ hex_digit (n % 16) ∷ []

unfoldable pub eight_digits : ℕ → List ℕ
eight_digits n = hex_digits 8 n

-- a cause: its name, and for an assertion its code
abbrev pub cause_text : Cause → List ℕ
cause_text BadAccess = codes "BadAccess"
cause_text BadJump = codes "BadJump"
cause_text BadInstruction = codes "BadInstruction"
cause_text (AssertFailed code) = codes "AssertFailed " ++ decimal code
cause_text Hang = codes "Hang"
cause_text BadFree = codes "BadFree"
cause_text BadCall = codes "BadCall"

abbrev pub env_word : Env → List ℕ
env_word Plain = codes "plain"
env_word Pad = codes "pad"
env_word Zero = codes "zero"
env_word Isolate = codes "isolate"
env_word Delay = codes "delay"
env_word All = codes "all"

-- what came of a trial: that it survived, the cause of its failure, or why its sends don't fit
abbrev pub tried_text : Tried → List ℕ
tried_text Asks = codes "survived"
tried_text (Exits code) = codes "survived"
tried_text (Failed cause) = cause_text cause
tried_text Contradicts = codes "Contradicts"
tried_text Behind = codes "Behind"
