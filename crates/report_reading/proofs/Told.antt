-- A line is read as the value that it was written of, and as no other.
use Rattle.std.proofs.lemmas.Option.{same_Some}
use Rattle.report_reading.proofs.Terms.{Bool, List, None, Option, Some, [], ap, arith, cond, drop, false, length, min, refl, subst, sym, true, ℕ, ◌++◌, ◌-◌, ◌<◌, ◌^◌, ◌∙◌, ◌∷◌, ◌≡◌, ◌≤◌, nat_tests, drop-drop, All-cons, All-head, All-nil, All-tail, bytes_eq-Decides, decimal, All, bytes_eq, codes, nat_le, nat_lt, ◌==◌, comma_if, Env, Cause, Episode, Tried, Try, failure_text, try_text, cause_text, eight_digits, env_word, tried_text, behind-decimal, behind_digits, Form, Json, Text, end_line, hex_at, ReportEnd, IsCause, IsEnd, IsEpisode, IsTry, behind_cause, byte_told, cause_in, cause_part, cause_told, checkpoint_in, checkpoint_part, end_of, end_told, end_with, env_in, env_part, env_told, episode_of, episode_told, failure_of, failure_told, if_written, long_told, pc_in, pc_part, point_in, point_part, result_in, result_part, tried_told, tries_in, try_in, try_of, try_told, written_end, written_episode}
use Rattle.report_reading.proofs.Compact.{behind_brace, plain_items, behind_point, behind_pc, behind_number, plain_episode, episode-plain, plain_end, end-plain}
use Rattle.report_reading.proofs.Plain.{tries_in-plain, plain_decimal, plain_env, plain_tried}
use Rattle.report_reading.proofs.Worded.{long_told-decimal, byte_told-decimal, pc-eight, cause_told-text, behind_cause-text, tried_told-text, env_told-word, behind_env-word, cause_told-ranges, tried_told-ranges}

-- ---- any form

by_test : {Value : Type 0} (same : Bool) (told value : Value) → cond same (Some told) None ≡ Some value → (same ≡ true) × (told ≡ value)
by_test true told value h = (refl, same_Some _ _ h)
by_test false told value h = absurd (cc)

pub written_sound : {Value : Type 0} (write : Value → List ℕ) (told : Value) (line : List ℕ) (value : Value) → if_written write told line ≡ Some value → (told ≡ value) × (write value ≡ line)
written_sound write told line value h =
    let parts = by_test (bytes_eq (write told) line) told value h in
    (parts.1, rw (sym parts.1) ((bytes_eq-Decides (write told) line).0 parts.0))

pub written_complete : {Value : Type 0} (write : Value → List ℕ) (told value : Value) (line : List ℕ) → told ≡ value → write value ≡ line → if_written write told line ≡ Some value
written_complete write told value line same is = rw same (rw ((bytes_eq-Decides (write value) line).1 is) refl)

-- ---- the line of a failure

-- an episode without its trials
abbrev pub bare : Episode → Episode
bare e = record e { tries = [] }

bare_same : (e : Episode) (point : ℕ) (cause : Cause) (pc : ℕ) → point ≡ e.point → cause ≡ e.cause → pc ≡ e.pc → record { point = point; cause = cause; pc = pc; tries = [] } ≡ bare e
bare_same e point cause pc h k l = rw (h, k, l) refl

abbrev at_part : Episode → List ℕ
at_part e = 97 ∷ 116 ∷ 32 ∷ (eight_digits e.pc ++ 10 ∷ [])

abbrev named_part : Episode → List ℕ
named_part e = cause_text e.cause ++ 32 ∷ at_part e

point_part-text : (number : ℕ) (e : Episode) → number < 2 ^ 64 → point_part (failure_text number e) ≡ decimal e.point ++ (codes " cause " ++ named_part e)
unfolding failure_text
point_part-text number e few = ap (λ bytes. drop 7 bytes) (behind-decimal number 32 (codes "point " ++ (decimal e.point ++ (codes " cause " ++ named_part e))) few refl)

cause_part-text : (number : ℕ) (e : Episode) → number < 2 ^ 64 → e.point < 2 ^ 64 → cause_part (failure_text number e) ≡ named_part e
cause_part-text number e few small =
    ap (λ bytes. drop 7 (behind_digits bytes)) (point_part-text number e few) ∙ ap (λ bytes. drop 7 bytes) (behind-decimal e.point 32 (codes "cause " ++ named_part e) small refl)

cause-text : (number : ℕ) (e : Episode) → number < 2 ^ 64 → e.point < 2 ^ 64 → IsCause e.cause → cause_told (cause_part (failure_text number e)) ≡ e.cause
cause-text number e few small is = ap cause_told (cause_part-text number e few small) ∙ cause_told-text e.cause 32 (at_part e) is refl

pc_part-text : (number : ℕ) (e : Episode) → number < 2 ^ 64 → e.point < 2 ^ 64 → IsCause e.cause → pc_part (failure_text number e) ≡ eight_digits e.pc ++ 10 ∷ []
pc_part-text number e few small is =
    ap (λ cause. drop 4 (behind_cause cause (cause_part (failure_text number e)))) (cause-text number e few small is)
    ∙ ap (λ bytes. drop 4 (behind_cause e.cause bytes)) (cause_part-text number e few small)
    ∙ ap (λ bytes. drop 4 bytes) (behind_cause-text e.cause 32 (at_part e) is refl)

failure_told-text : (number : ℕ) (e : Episode) → number < 2 ^ 64 → IsEpisode e → failure_told (failure_text number e) ≡ bare e
failure_told-text number e few is =
    let line : List ℕ = failure_text number e in
    bare_same e (long_told (point_part line)) (cause_told (cause_part line)) (min (hex_at 0 (pc_part line)) (2 ^ 32 - 1))
    (ap long_told (point_part-text number e few) ∙ long_told-decimal e.point 32 (codes "cause " ++ named_part e) is.point refl)
    (cause-text number e few is.point is.cause)
    (ap (λ bytes. min (hex_at 0 bytes) (2 ^ 32 - 1)) (pc_part-text number e few is.point is.cause) ∙ pc-eight e.pc (10 ∷ []) is.pc)

bare_text : (number : ℕ) (e : Episode) → failure_text number (bare e) ≡ failure_text number e
unfolding failure_text
bare_text number e = refl

pub failure_of-text : (number : ℕ) (e : Episode) → number < 2 ^ 64 → IsEpisode e → failure_of number (failure_text number e) ≡ Some (bare e)
unfolding failure_of
failure_of-text number e few is =
    written_complete (failure_text number) (failure_told (failure_text number e)) (bare e) (failure_text number e) (failure_told-text number e few is) (bare_text number e)

-- what a line is read as
pub record ToldFailure (number : ℕ) (line : List ℕ) (e : Episode) : Type 0 where
  pub is : IsEpisode e
  pub none : e.tries ≡ []
  pub text : failure_text number e ≡ line

failure_told-is : (line : List ℕ) → IsEpisode (failure_told line)
failure_told-is line = record { point = omega arith; cause = cause_told-ranges (cause_part line); pc = omega arith; tries = All-nil IsTry; few = omega arith }

pub failure_of-sound : (number : ℕ) (line : List ℕ) (e : Episode) → failure_of number line ≡ Some e → ToldFailure number line e
unfolding failure_of
failure_of-sound number line e h =
    let parts = written_sound (failure_text number) (failure_told line) line e h in
    record { is = subst IsEpisode parts.0 (failure_told-is line); none = ap (λ (e : Episode). e.tries) (sym parts.0); text = parts.1 }

-- ---- the line of a trial

try_same : (t : Try) (checkpoint : ℕ) (e : Env) (tried : Tried) → checkpoint ≡ t.checkpoint → e ≡ t.env → tried ≡ t.tried → record { checkpoint = checkpoint; env = e; tried = tried } ≡ t
try_same t checkpoint e tried h k l = rw (h, k, l) refl

abbrev told_part : Try → List ℕ
told_part t = codes " result " ++ (tried_text t.tried ++ 10 ∷ [])

checkpoint_part-text : (number : ℕ) (t : Try) → number < 2 ^ 64 → checkpoint_part (try_text number t) ≡ decimal t.checkpoint ++ (codes " env " ++ (env_word t.env ++ told_part t))
unfolding try_text
checkpoint_part-text number t few =
    ap (λ bytes. drop 12 bytes) (behind-decimal number 32 (codes "checkpoint " ++ (decimal t.checkpoint ++ (codes " env " ++ (env_word t.env ++ told_part t)))) few refl)

env_part-text : (number : ℕ) (t : Try) → number < 2 ^ 64 → t.checkpoint < 2 ^ 64 → env_part (try_text number t) ≡ env_word t.env ++ told_part t
env_part-text number t few small =
    ap (λ bytes. drop 5 (behind_digits bytes)) (checkpoint_part-text number t few) ∙ ap (λ bytes. drop 5 bytes) (behind-decimal t.checkpoint 32 (codes "env " ++ (env_word t.env ++ told_part t)) small refl)

env-text : (number : ℕ) (t : Try) → number < 2 ^ 64 → t.checkpoint < 2 ^ 64 → env_told (env_part (try_text number t)) ≡ t.env
env-text number t few small = ap env_told (env_part-text number t few small) ∙ env_told-word t.env (told_part t)

result_part-text : (number : ℕ) (t : Try) → number < 2 ^ 64 → t.checkpoint < 2 ^ 64 → result_part (try_text number t) ≡ tried_text t.tried ++ 10 ∷ []
result_part-text number t few small =
    ap (λ e. drop 8 (drop (length (env_word e)) (env_part (try_text number t)))) (env-text number t few small)
    ∙ ap (λ bytes. drop 8 (drop (length (env_word t.env)) bytes)) (env_part-text number t few small)
    ∙ ap (λ bytes. drop 8 bytes) (behind_env-word t.env (told_part t))

try_told-text : (number : ℕ) (t : Try) → number < 2 ^ 64 → IsTry t → try_told (try_text number t) ≡ t
try_told-text number t few is =
    let line : List ℕ = try_text number t in
    try_same t (long_told (checkpoint_part line)) (env_told (env_part line)) (tried_told (result_part line))
    (ap long_told (checkpoint_part-text number t few) ∙ long_told-decimal t.checkpoint 32 (codes "env " ++ (env_word t.env ++ told_part t)) is.checkpoint refl)
    (env-text number t few is.checkpoint)
    (ap tried_told (result_part-text number t few is.checkpoint) ∙ tried_told-text t.tried 10 [] is.tried refl)

few_test : (number : ℕ) → number < 2 ^ 64 → nat_lt number (2 ^ 64) ≡ true
few_test number h = grind (arith, nat_tests)

pub try_of-text : (number : ℕ) (t : Try) → number < 2 ^ 64 → IsTry t → try_of number (try_text number t) ≡ Some t
unfolding try_of
try_of-text number t few is =
    rw (few_test number few) (written_complete (try_text number) (try_told (try_text number t)) t (try_text number t) (try_told-text number t few is) refl)

pub record ToldTry (number : ℕ) (line : List ℕ) (t : Try) : Type 0 where
  pub is : IsTry t
  pub few : number < 2 ^ 64
  pub text : try_text number t ≡ line

try_told-is : (line : List ℕ) → IsTry (try_told line)
try_told-is line = record { checkpoint = omega arith; tried = tried_told-ranges (result_part line) }

few_fact : (number : ℕ) → nat_lt number (2 ^ 64) ≡ true → number < 2 ^ 64
few_fact number h = grind (arith, nat_tests)

by_few : (test : Bool) (told : Option Try) (t : Try) → cond test told None ≡ Some t → (test ≡ true) × (told ≡ Some t)
by_few true told t h = (refl, h)
by_few false told t h = absurd (cc)

pub try_of-sound : (number : ℕ) (line : List ℕ) (t : Try) → try_of number line ≡ Some t → ToldTry number line t
unfolding try_of
try_of-sound number line t h =
    let both = by_few (nat_lt number (2 ^ 64)) (if_written (try_text number) (try_told line) line) t h in
    let parts = written_sound (try_text number) (try_told line) line t both.1 in
    record { is = subst IsTry parts.0 (try_told-is line); few = few_fact number both.0; text = parts.1 }

-- ---- the line of an episode, as JSON

try_in-text : (t : Try) (rest : List ℕ) → IsTry t → try_in (behind_brace t rest) ≡ t
try_in-text t rest is =
    let bytes : List ℕ = behind_brace t rest in
    let ended : List ℕ = 125 ∷ rest in
    let named : List ℕ = codes "\",\"result\":\"" ++ (tried_text t.tried ++ 34 ∷ ended) in
    let behind : List ℕ = codes "\"env\":\"" ++ (env_word t.env ++ named) in
    let env_is : env_in bytes ≡ env_word t.env ++ named = ap (λ bytes. drop 8 bytes) (behind-decimal t.checkpoint 44 behind is.checkpoint refl) in
    let word_is : env_told (env_in bytes) ≡ t.env = ap env_told env_is ∙ env_told-word t.env named in
    let result_is : result_in bytes ≡ tried_text t.tried ++ 34 ∷ ended
    = ap (λ e. drop 12 (drop (length (env_word e)) (env_in bytes))) word_is
    ∙ ap (λ bytes. drop 12 (drop (length (env_word t.env)) bytes)) env_is
    ∙ ap (λ bytes. drop 12 bytes) (behind_env-word t.env named) in
    try_same t (long_told (checkpoint_in bytes)) (env_told (env_in bytes)) (tried_told (result_in bytes))
    (long_told-decimal t.checkpoint 44 behind is.checkpoint refl) word_is (ap tried_told result_is ∙ tried_told-text t.tried 34 ended is.tried refl)

tries_in-brace : (t : Try) (rest : List ℕ) → IsTry t → tries_in (behind_brace t rest) ≡ tries_in rest
tries_in-brace t rest is =
    let named : List ℕ = codes "\",\"result\":\"" ++ (tried_text t.tried ++ (codes "\"}" ++ rest)) in
    tries_in-plain (decimal t.checkpoint) (codes ",\"env\":\"" ++ (env_word t.env ++ named)) (plain_decimal t.checkpoint is.checkpoint)
    ∙ tries_in-plain (env_word t.env) named (plain_env t.env)
    ∙ tries_in-plain (tried_text t.tried) (codes "\"}" ++ rest) (plain_tried t.tried is.tried)

tries_in-comma : (later : Bool) (text : List ℕ) → tries_in (comma_if later ++ text) ≡ tries_in text
tries_in-comma true text = refl
tries_in-comma false text = refl

two_same : (t told : Try) (tries more : List Try) → told ≡ t → more ≡ tries → told ∷ more ≡ t ∷ tries
two_same t told tries more h k = rw (h, k) refl

tries_in-items : (later : Bool) (tries : List Try) (rest : List ℕ) → All IsTry tries → tries_in rest ≡ [] → tries_in (plain_items later tries rest) ≡ tries
tries_in-items later [] rest are h = h
tries_in-items later (t ∷ tries) rest are h =
    let more : List ℕ = plain_items true tries rest in
    let is : IsTry t = All-head IsTry t tries are in
    tries_in-comma later (123 ∷ behind_brace t more)
    ∙ two_same t (try_in (behind_brace t more)) tries (tries_in (behind_brace t more)) (try_in-text t more is)
    (tries_in-brace t more is ∙ tries_in-items true tries rest (All-tail IsTry t tries are) h)

whole_same : (e : Episode) (point : ℕ) (cause : Cause) (pc : ℕ) (tries : List Try) → point ≡ e.point → cause ≡ e.cause → pc ≡ e.pc → tries ≡ e.tries → record { point = point; cause = cause; pc = pc; tries = tries } ≡ e
whole_same e point cause pc tries h k l m = rw (h, k, l, m) refl

behind_eight : (n : ℕ) (rest : List ℕ) → drop 8 (eight_digits n ++ rest) ≡ rest
unfolding eight_digits
behind_eight n rest = refl

abbrev point_part_in : Episode → List ℕ
point_part_in e = decimal e.point ++ behind_point e

pc_in-plain : (number : ℕ) (e : Episode) → number < 2 ^ 64 → IsEpisode e → pc_in (plain_episode number e) ≡ eight_digits e.pc ++ behind_pc e
pc_in-plain number e few is =
    let line : List ℕ = plain_episode number e in
    let named : List ℕ = codes ",\"failure\":" ++ (decimal number ++ behind_number e) in
    ap (λ cause. drop 7 (behind_digits (drop 12 (behind_cause cause (cause_in line))))) (cause_told-text e.cause 34 named is.cause refl)
    ∙ ap (λ bytes. drop 7 (behind_digits (drop 12 bytes))) (behind_cause-text e.cause 34 named is.cause refl)
    ∙ ap (λ bytes. drop 7 bytes) (behind-decimal number 44 (codes "\"pc\":\"" ++ (eight_digits e.pc ++ behind_pc e)) few refl)

eighteen : (bytes : List ℕ) → drop 18 bytes ≡ drop 10 (drop 8 bytes)
eighteen bytes = sym (drop-drop 10 8 bytes)

point_in-plain : (number : ℕ) (e : Episode) → number < 2 ^ 64 → IsEpisode e → point_in (plain_episode number e) ≡ point_part_in e
point_in-plain number e few is =
    ap (λ bytes. drop 18 bytes) (pc_in-plain number e few is) ∙ eighteen (eight_digits e.pc ++ behind_pc e) ∙ ap (λ bytes. drop 10 bytes) (behind_eight e.pc (behind_pc e))

episode_told-plain : (number : ℕ) (e : Episode) → number < 2 ^ 64 → IsEpisode e → episode_told (plain_episode number e) ≡ e
episode_told-plain number e few is =
    let line : List ℕ = plain_episode number e in
    let named : List ℕ = codes ",\"failure\":" ++ (decimal number ++ behind_number e) in
    let items : List ℕ = codes "\"tries\":[" ++ plain_items false e.tries (codes "}\n") in
    whole_same e (long_told (point_in line)) (cause_told (cause_in line)) (min (hex_at 0 (pc_in line)) (2 ^ 32 - 1)) (tries_in (drop 10 (behind_digits (point_in line))))
    (ap long_told (point_in-plain number e few is) ∙ long_told-decimal e.point 44 items is.point refl)
    (cause_told-text e.cause 34 named is.cause refl)
    (ap (λ bytes. min (hex_at 0 bytes) (2 ^ 32 - 1)) (pc_in-plain number e few is) ∙ pc-eight e.pc (behind_pc e) is.pc)
    (ap (λ bytes. tries_in (drop 10 (behind_digits bytes))) (point_in-plain number e few is)
    ∙ ap (λ bytes. tries_in (drop 10 bytes)) (behind-decimal e.point 44 items is.point refl)
    ∙ tries_in-items false e.tries (codes "}\n") is.tries refl)

episode_told-text : (number : ℕ) (e : Episode) → number < 2 ^ 64 → IsEpisode e → episode_told (written_episode number e) ≡ e
episode_told-text number e few is = ap episode_told (episode-plain number e is) ∙ episode_told-plain number e few is

most_test : (count : ℕ) → count ≤ 2 ^ 64 → nat_le count (2 ^ 64) ≡ true
most_test count h = grind (arith, nat_tests)

most_fact : (count : ℕ) → nat_le count (2 ^ 64) ≡ true → count ≤ 2 ^ 64
most_fact count h = grind (arith, nat_tests)

pub episode_of-text : (number : ℕ) (e : Episode) → number < 2 ^ 64 → IsEpisode e → episode_of number (written_episode number e) ≡ Some e
unfolding episode_of
episode_of-text number e few is =
    let told : episode_told (written_episode number e) ≡ e = episode_told-text number e few is in
    let most : nat_le (length (episode_told (written_episode number e)).tries) (2 ^ 64) ≡ true
    = ap (λ (e : Episode). nat_le (length e.tries) (2 ^ 64)) told ∙ most_test (length e.tries) is.few in
    rw most (written_complete (written_episode number) (episode_told (written_episode number e)) e (written_episode number e) told refl)

pub record ToldEpisode (number : ℕ) (line : List ℕ) (e : Episode) : Type 0 where
  pub is : IsEpisode e
  pub text : written_episode number e ≡ line

try_in-is : (bytes : List ℕ) → IsTry (try_in bytes)
try_in-is bytes = record { checkpoint = omega arith; tried = tried_told-ranges (result_in bytes) }

tries_in-step : (b : Bool) (bytes : List ℕ) → All IsTry (tries_in bytes) → All IsTry (cond b (try_in bytes ∷ tries_in bytes) (tries_in bytes))
tries_in-step true bytes are = All-cons IsTry (try_in bytes) (tries_in bytes) (try_in-is bytes) are
tries_in-step false bytes are = are

tries_in-are : (bytes : List ℕ) → All IsTry (tries_in bytes)
tries_in-are [] = All-nil IsTry
tries_in-are (byte ∷ bytes) = tries_in-step (byte == 123) bytes (tries_in-are bytes)

episode_told-is : (line : List ℕ) → length (episode_told line).tries ≤ 2 ^ 64 → IsEpisode (episode_told line)
episode_told-is line few = record {
  point = omega arith;
  cause = cause_told-ranges (cause_in line);
  pc = omega arith;
  tries = tries_in-are (drop 10 (behind_digits (point_in line)));
  few = few;
}

by_most : (test : Bool) (told : Option Episode) (e : Episode) → cond test told None ≡ Some e → (test ≡ true) × (told ≡ Some e)
by_most true told e h = (refl, h)
by_most false told e h = absurd (cc)

pub episode_of-sound : (number : ℕ) (line : List ℕ) (e : Episode) → episode_of number line ≡ Some e → ToldEpisode number line e
unfolding episode_of
episode_of-sound number line e h =
    let both = by_most (nat_le (length (episode_told line).tries) (2 ^ 64)) (if_written (written_episode number) (episode_told line) line) e h in
    let parts = written_sound (written_episode number) (episode_told line) line e both.1 in
    record { is = subst IsEpisode parts.0 (episode_told-is line (most_fact (length (episode_told line).tries) both.0)); text = parts.1 }

-- ---- the last line

end_same : (finish : ReportEnd) (status taken steps : ℕ) → status ≡ finish.status → taken ≡ finish.taken → steps ≡ finish.steps → end_with status taken steps ≡ finish
end_same finish status taken steps h k l = rw (h, k, l) refl

end_as_text : (finish : ReportEnd) → IsEnd finish → end_told Text (written_end Text finish) ≡ finish
unfolding end_line
end_as_text finish is =
    let last : List ℕ = decimal finish.steps ++ 10 ∷ [] in
    let middle : List ℕ = decimal finish.taken ++ (codes " steps " ++ last) in
    let line : List ℕ = written_end Text finish in
    let small : finish.status < 2 ^ 64 = omega (arith, is.status) in
    let taken : drop 7 (behind_digits (drop 4 line)) ≡ middle = ap (λ bytes. drop 7 bytes) (behind-decimal finish.status 32 (codes "taken " ++ middle) small refl) in
    end_same finish (byte_told (drop 4 line)) (long_told (drop 7 (behind_digits (drop 4 line)))) (long_told (drop 7 (behind_digits (drop 7 (behind_digits (drop 4 line))))))
    (byte_told-decimal finish.status 32 (codes "taken " ++ middle) is.status refl)
    (ap long_told taken ∙ long_told-decimal finish.taken 32 (codes "steps " ++ last) is.taken refl)
    (ap (λ bytes. long_told (drop 7 (behind_digits bytes))) taken
    ∙ ap (λ bytes. long_told (drop 7 bytes)) (behind-decimal finish.taken 32 (codes "steps " ++ last) is.taken refl)
    ∙ long_told-decimal finish.steps 10 [] is.steps refl)

end_as_plain : (finish : ReportEnd) → IsEnd finish → end_told Json (plain_end finish) ≡ finish
end_as_plain finish is =
    let last : List ℕ = decimal finish.taken ++ codes "}\n" in
    let middle : List ℕ = decimal finish.steps ++ (codes ",\"taken\":" ++ last) in
    let line : List ℕ = plain_end finish in
    let small : finish.status < 2 ^ 64 = omega (arith, is.status) in
    let steps : drop 9 (behind_digits (drop 7 line)) ≡ middle = ap (λ bytes. drop 9 bytes) (behind-decimal finish.status 44 (codes "\"steps\":" ++ middle) small refl) in
    end_same finish (byte_told (drop 7 line)) (long_told (drop 9 (behind_digits (drop 9 (behind_digits (drop 7 line)))))) (long_told (drop 9 (behind_digits (drop 7 line))))
    (byte_told-decimal finish.status 44 (codes "\"steps\":" ++ middle) is.status refl)
    (ap (λ bytes. long_told (drop 9 (behind_digits bytes))) steps
    ∙ ap (λ bytes. long_told (drop 9 bytes)) (behind-decimal finish.steps 44 (codes "\"taken\":" ++ last) is.steps refl)
    ∙ long_told-decimal finish.taken 125 (10 ∷ []) is.taken refl)
    (ap long_told steps ∙ long_told-decimal finish.steps 44 (codes "\"taken\":" ++ last) is.steps refl)

end_told-text : (form : Form) (finish : ReportEnd) → IsEnd finish → end_told form (written_end form finish) ≡ finish
end_told-text Text finish is = end_as_text finish is
end_told-text Json finish is = ap (λ line. end_told Json line) (end-plain finish) ∙ end_as_plain finish is

pub end_of-text : (form : Form) (finish : ReportEnd) → IsEnd finish → end_of form (written_end form finish) ≡ Some finish
unfolding end_of
end_of-text form finish is = written_complete (written_end form) (end_told form (written_end form finish)) finish (written_end form finish) (end_told-text form finish is) refl

pub record ToldEnd (form : Form) (line : List ℕ) (finish : ReportEnd) : Type 0 where
  pub is : IsEnd finish
  pub text : written_end form finish ≡ line

end_told-is : (form : Form) (line : List ℕ) → IsEnd (end_told form line)
end_told-is Text line = record { status = omega arith; taken = omega arith; steps = omega arith }
end_told-is Json line = record { status = omega arith; taken = omega arith; steps = omega arith }

pub end_of-sound : (form : Form) (line : List ℕ) (finish : ReportEnd) → end_of form line ≡ Some finish → ToldEnd form line finish
unfolding end_of
end_of-sound form line finish h =
    let parts = written_sound (written_end form) (end_told form line) line finish h in
    record { is = subst IsEnd parts.0 (end_told-is form line); text = parts.1 }
