-- Words that are written are read as what they were written of.
use Rattle.alloc_env.specs.declared.env.Env.TheVariants as env
use Rattle.schedule_file.specs.Lines as other
use Rattle.schedule_file.proofs.Digits.{hex-front}
use Rattle.report_reading.proofs.Terms.{Bool, List, ap, arith, cond, drop, false, length, min, refl, suc, true, zero, ℕ, ◌%◌, ◌++◌, ◌-◌, ◌/◌, ◌<◌, ◌^◌, ◌∙◌, ◌∷◌, ◌≡◌, nat_tests, is_ascii_digit, decimal, slice_index, ◌==◌, Env, Delay, Isolate, Pad, Plain, Zero, Cause, AssertFailed, BadAccess, BadCall, BadFree, BadInstruction, BadJump, Hang, Tried, Asks, Behind, Contradicts, Exits, Failed, cause_text, eight_digits, env_word, hex_digit, hex_digits, tried_text, behind-decimal, number-decimal, clipped, hex_at, IsCause, IsTried, behind_cause, byte_told, cause_told, env_told, long_told, tried_told, word_told}

-- ---- numbers

small : (n : ℕ) → n < 2 ^ 32 → min n (2 ^ 32 - 1) ≡ n
small n h = omega arith

pub long_told-decimal : (n mark : ℕ) (rest : List ℕ) → n < 2 ^ 64 → is_ascii_digit mark ≡ false → long_told (decimal n ++ mark ∷ rest) ≡ n
long_told-decimal n mark rest h other = let whole : clipped n ≡ n = omega arith in ap clipped (number-decimal n mark rest h other) ∙ whole

pub word_told-decimal : (n mark : ℕ) (rest : List ℕ) → n < 2 ^ 32 → is_ascii_digit mark ≡ false → word_told (decimal n ++ mark ∷ rest) ≡ n
word_told-decimal n mark rest h other = ap (λ m. min m (2 ^ 32 - 1)) (number-decimal n mark rest (omega (arith, h)) other) ∙ small n h

pub byte_told-decimal : (n mark : ℕ) (rest : List ℕ) → n < 2 ^ 8 → is_ascii_digit mark ≡ false → byte_told (decimal n ++ mark ∷ rest) ≡ n
byte_told-decimal n mark rest h other = let whole : min n (2 ^ 8 - 1) ≡ n = omega arith in ap (λ m. min m (2 ^ 8 - 1)) (number-decimal n mark rest (omega (arith, h)) other) ∙ whole

-- ---- eight digits

same_digit : (n : ℕ) → hex_digit n ≡ other.hex_digit n
same_digit n = grind (arith, nat_tests)

same_digits : (count n : ℕ) → hex_digits count n ≡ other.hex_digits count n
same_digits zero n = refl
same_digits (suc count) n = rw (same_digits count (n / 16), same_digit (n % 16)) refl

pub hex_at-eight : (n : ℕ) (rest : List ℕ) → n < 2 ^ 32 → hex_at 0 (eight_digits n ++ rest) ≡ n
unfolding eight_digits
hex_at-eight n rest h = ap (λ digits. hex_at 0 (digits ++ rest)) (same_digits 8 n) ∙ hex-front n rest h

pub pc-eight : (n : ℕ) (rest : List ℕ) → n < 2 ^ 32 → min (hex_at 0 (eight_digits n ++ rest)) (2 ^ 32 - 1) ≡ n
pc-eight n rest h = ap (λ m. min m (2 ^ 32 - 1)) (hex_at-eight n rest h) ∙ small n h

-- ---- words

pub cause_told-text : (cause : Cause) (mark : ℕ) (rest : List ℕ) → IsCause cause → is_ascii_digit mark ≡ false → cause_told (cause_text cause ++ mark ∷ rest) ≡ cause
cause_told-text BadAccess mark rest h other = refl
cause_told-text BadJump mark rest h other = refl
cause_told-text BadInstruction mark rest h other = refl
cause_told-text (AssertFailed code) mark rest h other = ap (λ (n : ℕ). AssertFailed n) (word_told-decimal code mark rest h other)
cause_told-text Hang mark rest h other = refl
cause_told-text BadFree mark rest h other = refl
cause_told-text BadCall mark rest h other = refl

pub behind_cause-text : (cause : Cause) (mark : ℕ) (rest : List ℕ) → IsCause cause → is_ascii_digit mark ≡ false → behind_cause cause (cause_text cause ++ mark ∷ rest) ≡ mark ∷ rest
behind_cause-text BadAccess mark rest h other = refl
behind_cause-text BadJump mark rest h other = refl
behind_cause-text BadInstruction mark rest h other = refl
behind_cause-text (AssertFailed code) mark rest h other = behind-decimal code mark rest (omega (arith, h)) other
behind_cause-text Hang mark rest h other = refl
behind_cause-text BadFree mark rest h other = refl
behind_cause-text BadCall mark rest h other = refl

pub tried_told-text : (tried : Tried) (mark : ℕ) (rest : List ℕ) → IsTried tried → is_ascii_digit mark ≡ false → tried_told (tried_text tried ++ mark ∷ rest) ≡ tried
tried_told-text Asks mark rest h other = refl
tried_told-text (Exits code) mark rest h other = absurd h
tried_told-text (Failed BadAccess) mark rest h other = refl
tried_told-text (Failed BadJump) mark rest h other = refl
tried_told-text (Failed BadInstruction) mark rest h other = refl
tried_told-text (Failed (AssertFailed code)) mark rest h other = ap (λ (cause : Cause). Failed cause) (cause_told-text (AssertFailed code) mark rest h other)
tried_told-text (Failed Hang) mark rest h other = refl
tried_told-text (Failed BadFree) mark rest h other = refl
tried_told-text (Failed BadCall) mark rest h other = refl
tried_told-text Contradicts mark rest h other = refl
tried_told-text Behind mark rest h other = refl

pub env_told-word : (e : Env) (rest : List ℕ) → env_told (env_word e ++ rest) ≡ e
env_told-word Plain rest = refl
env_told-word Pad rest = refl
env_told-word Zero rest = refl
env_told-word Isolate rest = refl
env_told-word Delay rest = refl
env_told-word env.All rest = refl

pub behind_env-word : (e : Env) (rest : List ℕ) → drop (length (env_word e)) (env_word e ++ rest) ≡ rest
behind_env-word Plain rest = refl
behind_env-word Pad rest = refl
behind_env-word Zero rest = refl
behind_env-word Isolate rest = refl
behind_env-word Delay rest = refl
behind_env-word env.All rest = refl

-- what is told is in its range

cause_by : (b c d e f g : Bool) (n : ℕ) → n < 2 ^ 32 → IsCause (cond b (AssertFailed n) (cond c Hang (cond d BadAccess (cond e BadJump (cond f BadInstruction (cond g BadFree BadCall))))))
cause_by true c d e f g n h = h
cause_by false true d e f g n h = tt
cause_by false false true e f g n h = tt
cause_by false false false true f g n h = tt
cause_by false false false false true g n h = tt
cause_by false false false false false true n h = tt
cause_by false false false false false false n h = tt

pub cause_told-ranges : (bytes : List ℕ) → IsCause (cause_told bytes)
cause_told-ranges bytes =
    cause_by (slice_index bytes 0 == 65) (slice_index bytes 0 == 72) (slice_index bytes 3 == 65) (slice_index bytes 3 == 74) (slice_index bytes 3 == 73) (slice_index bytes 3 == 70)
    (word_told (drop 13 bytes)) (omega arith)

tried_by : (b c d : Bool) (cause : Cause) → IsCause cause → IsTried (cond b Asks (cond c Contradicts (cond d Behind (Failed cause))))
tried_by true c d cause h = tt
tried_by false true d cause h = tt
tried_by false false true cause h = tt
tried_by false false false cause h = h

pub tried_told-ranges : (bytes : List ℕ) → IsTried (tried_told bytes)
tried_told-ranges bytes = tried_by (slice_index bytes 0 == 115) (slice_index bytes 0 == 67) (slice_index bytes 1 == 101) (cause_told bytes) (cause_told-ranges bytes)
