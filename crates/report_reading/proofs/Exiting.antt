-- A trial that ended itself stands in a report as one that asks for the next item.
use Rattle.serde_json.specs.Data.{Items, array, item, member, no_members, object}
use Rattle.report_reading.proofs.Terms.{List, None, Option, Some, [], ap, length, option_map, refl, suc, ℕ, ◌++◌, ◌∙◌, ◌∷◌, ◌≡◌, option_to_list, codes, map, Episode, Tried, Asks, Behind, Contradicts, Exits, Failed, Try, failure_text, try_text, cause_text, eight_digits, env_word, tried_text, Form, Json, Text, json_line, tries_data, try_data, with_number, with_text, episode_text, head_text, episode_lines, try_lines, ReadReport, as_told, told_episode, told_report, told_try, IsReading, IsReport, IsTornBehind, episode_texts, last_text, text_of}

same_word : (tried : Tried) → tried_text (as_told tried) ≡ tried_text tried
same_word Asks = refl
same_word (Exits code) = refl
same_word (Failed cause) = refl
same_word Contradicts = refl
same_word Behind = refl

same_try : (number : ℕ) (t : Try) → try_text number (told_try t) ≡ try_text number t
unfolding try_text
same_try number t = rw (same_word t.tried) refl

same_tries : (number : ℕ) (tries : List Try) → try_lines number (map told_try tries) ≡ try_lines number tries
same_tries number [] = refl
same_tries number (t ∷ tries) = ap (λ (line : List ℕ). line ++ try_lines (suc number) (map told_try tries)) (same_try number t) ∙ ap (λ (lines : List ℕ). try_text number t ++ lines) (same_tries (suc number) tries)

same_data : (tries : List Try) → tries_data (map told_try tries) ≡ tries_data tries
same_data [] = refl
same_data (t ∷ tries) =
    ap (λ (word : List ℕ). item (object (with_number (codes "checkpoint") t.checkpoint (with_text (codes "env") (env_word t.env) (with_text (codes "result") word no_members)))) (tries_data (map told_try tries))) (same_word t.tried)
    ∙ ap (λ (items : Items). item (try_data t) items) (same_data tries)

same_lines : (number : ℕ) (e : Episode) → episode_lines number (told_episode e) ≡ episode_lines number e
unfolding episode_lines failure_text
same_lines number e = ap (λ (lines : List ℕ). failure_text number e ++ lines) (same_tries 0 e.tries)

same_episode : (form : Form) (number : ℕ) (e : Episode) → episode_text number (told_episode e) form ≡ episode_text number e form
same_episode Text number e = same_lines number e
same_episode Json number e =
    ap
    (λ (items : Items). json_line
    (object
    (with_text (codes "cause") (cause_text e.cause)
    (with_number (codes "failure") number
    (with_text (codes "pc") (eight_digits e.pc)
    (with_number (codes "point") e.point
    (member (codes "tries") (array items) no_members)))))))
    (same_data e.tries)

same_episodes : (form : Form) (number : ℕ) (episodes : List Episode) → episode_texts form number (map told_episode episodes) ≡ episode_texts form number episodes
same_episodes form number [] = refl
same_episodes form number (e ∷ episodes) =
    ap (λ (text : List ℕ). text ++ episode_texts form (suc number) (map told_episode episodes)) (same_episode form number e)
    ∙ ap (λ (text : List ℕ). episode_text number e form ++ text) (same_episodes form (suc number) episodes)

same_failed : (form : Form) (number : ℕ) (failed : Option Episode) → episode_texts form number (option_to_list (option_map told_episode failed)) ≡ episode_texts form number (option_to_list failed)
same_failed form number None = refl
same_failed form number (Some e) = same_episodes form number (e ∷ [])

same_length : (episodes : List Episode) → length (map told_episode episodes) ≡ length episodes
same_length [] = refl
same_length (e ∷ episodes) = ap (λ (n : ℕ). suc n) (same_length episodes)

same_text : (value : ReadReport) → text_of (told_report value) ≡ text_of value
same_text value =
    let head : List ℕ = head_text value.form in
    let last : List ℕ = last_text value.form value.end in
    let told : List Episode = map told_episode value.adopted in
    let failed : List Episode = option_to_list (option_map told_episode value.failed) in
    ap (λ (front : List ℕ). head ++ (front ++ (episode_texts value.form (length told) failed ++ last))) (same_episodes value.form 0 value.adopted)
    ∙ ap (λ (n : ℕ). head ++ (episode_texts value.form 0 value.adopted ++ (episode_texts value.form n failed ++ last))) (same_length value.adopted)
    ∙ ap (λ (text : List ℕ). head ++ (episode_texts value.form 0 value.adopted ++ (text ++ last))) (same_failed value.form (length value.adopted) value.failed)

pub written_read : (value : ReadReport) (torn : List ℕ) → IsReport (told_report value) → IsTornBehind value.end torn → IsReading (text_of value ++ torn) (told_report value)
written_read value torn is behind = record { is = is; torn = torn; behind = behind; whole = ap (λ (text : List ℕ). text ++ torn) (same_text value) }
