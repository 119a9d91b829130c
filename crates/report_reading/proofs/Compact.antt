-- The lines of a report as JSON, byte by byte.
use Rattle.serde_json.proofs.OnLiterals.{serde_json_on_literals}
use Rattle.serde_json.specs.View.{items_of}
use Rattle.report_reading.proofs.Terms.{Bool, List, [], ap, append_assoc, arith, false, refl, true, ℕ, ◌++◌, ◌<◌, ◌^◌, ◌∙◌, ◌∷◌, ◌≡◌, All-head, All-tail, decimal, digits, All, bytes_eq, codes, map, slice_index, ◌==◌, escape, comma_if, compact_text, items_text, Episode, Try, cause_text, eight_digits, env_word, tried_text, is_line, Json, Text, json_line, try_data, head_text, ReportEnd, IsEnd, IsEpisode, IsTry, written_end, written_episode}
use Rattle.report_reading.proofs.Plain.{escape-plain, is_line-plain, plain_cause, plain_decimal, plain_eight, plain_env, plain_tried}

-- ---- a trial

-- what stands behind its brace, with these bytes behind it
abbrev pub behind_brace : Try → List ℕ → List ℕ
behind_brace t rest =
    codes "\"checkpoint\":" ++ (decimal t.checkpoint ++ (codes ",\"env\":\"" ++ (env_word t.env ++ (codes "\",\"result\":\"" ++ (tried_text t.tried ++ (codes "\"}" ++ rest))))))

abbrev pub plain_items : Bool → List Try → List ℕ → List ℕ
plain_items later [] rest = 93 ∷ rest
plain_items later (t ∷ tries) rest = comma_if later ++ 123 ∷ behind_brace t (plain_items true tries rest)

try_shape : (q w r rest : List ℕ) → (codes "{\"checkpoint\":" ++ (q ++ (codes ",\"env\":\"" ++ ((w ++ 34 ∷ []) ++ (codes ",\"result\":\"" ++ ((r ++ 34 ∷ []) ++ 125 ∷ [])))))) ++ rest
    ≡ codes "{\"checkpoint\":" ++ (q ++ (codes ",\"env\":\"" ++ (w ++ (codes "\",\"result\":\"" ++ (r ++ (codes "\"}" ++ rest))))))
try_shape q w r rest = simp append_assoc

try_words : (t : Try) (rest w r : List ℕ) → w ≡ env_word t.env → r ≡ tried_text t.tried →
    codes "{\"checkpoint\":" ++ (decimal t.checkpoint ++ (codes ",\"env\":\"" ++ (w ++ (codes "\",\"result\":\"" ++ (r ++ (codes "\"}" ++ rest)))))) ≡ 123 ∷ behind_brace t rest
try_words t rest w r h k = rw (h, k) refl

compact-try : (t : Try) (rest : List ℕ) → IsTry t → compact_text (try_data t) ++ rest ≡ 123 ∷ behind_brace t rest
unfolding serde_json_on_literals
compact-try t rest is =
    try_shape (decimal t.checkpoint) (escape (env_word t.env)) (escape (tried_text t.tried)) rest
    ∙ try_words t rest (escape (env_word t.env)) (escape (tried_text t.tried)) (escape-plain (env_word t.env) (plain_env t.env)) (escape-plain (tried_text t.tried) (plain_tried t.tried is.tried))

items-plain : (later : Bool) (tries : List Try) (rest : List ℕ) → All IsTry tries → items_text later (items_of (map try_data tries)) ++ rest ≡ plain_items later tries rest
items-plain later [] rest are = refl
items-plain later (t ∷ tries) rest are =
    let more : List ℕ = items_text true (items_of (map try_data tries)) in
    append_assoc (comma_if later) (compact_text (try_data t) ++ more) rest
    ∙ ap (λ (text : List ℕ). comma_if later ++ text)
    (append_assoc (compact_text (try_data t)) more rest
    ∙ ap (λ (text : List ℕ). compact_text (try_data t) ++ text) (items-plain true tries rest (All-tail IsTry t tries are))
    ∙ compact-try t (plain_items true tries rest) (All-head IsTry t tries are))

-- ---- an episode

abbrev pub behind_point : Episode → List ℕ
behind_point e = codes ",\"tries\":[" ++ plain_items false e.tries (codes "}\n")

abbrev pub behind_pc : Episode → List ℕ
behind_pc e = codes "\",\"point\":" ++ (decimal e.point ++ behind_point e)

abbrev pub behind_number : Episode → List ℕ
behind_number e = codes ",\"pc\":\"" ++ (eight_digits e.pc ++ behind_pc e)

abbrev pub behind_named : ℕ → Episode → List ℕ
behind_named number e = codes "\",\"failure\":" ++ (decimal number ++ behind_number e)

abbrev pub plain_episode : ℕ → Episode → List ℕ
plain_episode number e = codes "{\"cause\":\"" ++ (cause_text e.cause ++ behind_named number e)

episode_shape : (c n p k items : List ℕ) →
    (codes "{\"cause\":\"" ++ ((c ++ 34 ∷ []) ++ (codes ",\"failure\":" ++ (n ++ (codes ",\"pc\":\"" ++ ((p ++ 34 ∷ []) ++ (codes ",\"point\":" ++ (k ++ (codes ",\"tries\":[" ++ (items ++ 125 ∷ [])))))))))) ++ 10 ∷ []
    ≡ codes "{\"cause\":\"" ++ (c ++ (codes "\",\"failure\":" ++ (n ++ (codes ",\"pc\":\"" ++ (p ++ (codes "\",\"point\":" ++ (k ++ (codes ",\"tries\":[" ++ (items ++ codes "}\n")))))))))
episode_shape c n p k items = simp append_assoc

episode_words : (number : ℕ) (e : Episode) (c p items : List ℕ) → c ≡ cause_text e.cause → p ≡ eight_digits e.pc → items ≡ plain_items false e.tries (codes "}\n") →
    codes "{\"cause\":\"" ++ (c ++ (codes "\",\"failure\":" ++ (decimal number ++ (codes ",\"pc\":\"" ++ (p ++ (codes "\",\"point\":" ++ (decimal e.point ++ (codes ",\"tries\":[" ++ items))))))))
    ≡ plain_episode number e
episode_words number e c p items h k l = rw (h, k, l) refl

pub episode-plain : (number : ℕ) (e : Episode) → IsEpisode e → written_episode number e ≡ plain_episode number e
unfolding json_line serde_json_on_literals
episode-plain number e is =
    let items : List ℕ = items_text false (items_of (map try_data e.tries)) in
    episode_shape (escape (cause_text e.cause)) (decimal number) (escape (eight_digits e.pc)) (decimal e.point) items
    ∙ episode_words number e (escape (cause_text e.cause)) (escape (eight_digits e.pc)) (items ++ codes "}\n")
    (escape-plain (cause_text e.cause) (plain_cause e.cause is.cause)) (escape-plain (eight_digits e.pc) (plain_eight e.pc)) (items-plain false e.tries (codes "}\n") is.tries)

-- ---- the end

abbrev pub plain_end : ReportEnd → List ℕ
plain_end finish =
    codes "{\"end\":" ++ (decimal finish.status ++ (codes ",\"steps\":" ++ (decimal finish.steps ++ (codes ",\"taken\":" ++ (decimal finish.taken ++ codes "}\n")))))

end_shape : (s n t : List ℕ) → (codes "{\"end\":" ++ (s ++ (codes ",\"steps\":" ++ (n ++ (codes ",\"taken\":" ++ (t ++ 125 ∷ [])))))) ++ 10 ∷ []
    ≡ codes "{\"end\":" ++ (s ++ (codes ",\"steps\":" ++ (n ++ (codes ",\"taken\":" ++ (t ++ codes "}\n")))))
end_shape s n t = simp append_assoc

pub end-plain : (finish : ReportEnd) → written_end Json finish ≡ plain_end finish
unfolding json_line serde_json_on_literals
end-plain finish = end_shape (decimal finish.status) (decimal finish.steps) (decimal finish.taken)

-- ---- they are lines

is_line-comma : (later : Bool) (text : List ℕ) → is_line text ≡ true → is_line (comma_if later ++ text) ≡ true
is_line-comma true text h = h
is_line-comma false text h = h

is_line-items : (later : Bool) (tries : List Try) (rest : List ℕ) → All IsTry tries → is_line rest ≡ true → is_line (plain_items later tries rest) ≡ true
is_line-items later [] rest are h = h
is_line-items later (t ∷ tries) rest are h =
    let more : List ℕ = plain_items true tries rest in
    let is : IsTry t = All-head IsTry t tries are in
    let behind : is_line more ≡ true = is_line-items true tries rest (All-tail IsTry t tries are) h in
    is_line-comma later (123 ∷ behind_brace t more)
    (is_line-plain (decimal t.checkpoint) (codes ",\"env\":\"" ++ (env_word t.env ++ (codes "\",\"result\":\"" ++ (tried_text t.tried ++ (codes "\"}" ++ more))))) (plain_decimal t.checkpoint is.checkpoint)
    (is_line-plain (env_word t.env) (codes "\",\"result\":\"" ++ (tried_text t.tried ++ (codes "\"}" ++ more))) (plain_env t.env)
    (is_line-plain (tried_text t.tried) (codes "\"}" ++ more) (plain_tried t.tried is.tried) behind)))

pub is_line-episode : (number : ℕ) (e : Episode) → number < 2 ^ 64 → IsEpisode e → is_line (written_episode number e) ≡ true
is_line-episode number e few is =
    rw (episode-plain number e is)
    (is_line-plain (cause_text e.cause) (behind_named number e) (plain_cause e.cause is.cause)
    (is_line-plain (decimal number) (behind_number e) (plain_decimal number few)
    (is_line-plain (eight_digits e.pc) (behind_pc e) (plain_eight e.pc)
    (is_line-plain (decimal e.point) (behind_point e) (plain_decimal e.point is.point)
    (is_line-items false e.tries (codes "}\n") is.tries refl)))))

pub is_line-end_in : (finish : ReportEnd) → IsEnd finish → is_line (written_end Json finish) ≡ true
is_line-end_in finish is =
    rw (end-plain finish)
    (is_line-plain (decimal finish.status) (codes ",\"steps\":" ++ (decimal finish.steps ++ (codes ",\"taken\":" ++ (decimal finish.taken ++ codes "}\n")))) (plain_decimal finish.status (omega (arith, is.status)))
    (is_line-plain (decimal finish.steps) (codes ",\"taken\":" ++ (decimal finish.taken ++ codes "}\n")) (plain_decimal finish.steps is.steps)
    (is_line-plain (decimal finish.taken) (codes "}\n") (plain_decimal finish.taken is.taken) refl)))

pub is_line-head_in : is_line (head_text Json) ≡ true
unfolding json_line serde_json_on_literals digits
is_line-head_in = refl

pub heads_differ : bytes_eq (head_text Text) (head_text Json) ≡ false
unfolding json_line serde_json_on_literals digits
heads_differ = refl

pub episode_third : (number : ℕ) (e : Episode) → IsEpisode e → (slice_index (written_episode number e) 2 == 101) ≡ false
episode_third number e is = rw (episode-plain number e is) refl

pub end_third : (finish : ReportEnd) → (slice_index (written_end Json finish) 2 == 101) ≡ true
end_third finish = rw (end-plain finish) refl
