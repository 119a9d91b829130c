-- The text of a report is read as it.
use Rattle.report_reading.proofs.Terms.{Bool, List, None, Ok, Option, Some, [], ap, append_assoc, arith, cond, false, length, length-append, refl, subst, suc, sym, true, ℕ, ◌++◌, ◌+◌, ◌<◌, ◌^◌, ◌∙◌, ◌∷◌, ◌≡◌, ◌≤◌, nat_tests, append-nil, All-head, All-tail, bytes_eq-Decides, decimal, option_to_list, All, IfSome, bytes_eq, codes, nat_le, slice_index, ◌==◌, Episode, Try, failure_text, try_text, survives, cause_text, eight_digits, env_word, tried_text, is_line-decimal, is_line, Form, Json, Text, episode_text, head_text, end_line, episode_lines, try_lines, ReadReport, ReportEnd, Cut, begins_end, begun, head_of, next_of, outcome, read_from, read_lines, read_on, tried_behind, HasFailed, IsEnd, IsEpisode, IsReading, IsReport, IsTornBehind, IsTry, RiseFrom, WasAdopted, ends, episode_texts, last_survived, last_text, least_behind, none_survived, text_of, written_end, written_episode}
use Rattle.report_reading.proofs.Cuttings.{cut-line, cut-torn}
use Rattle.report_reading.proofs.Told.{bare, failure_of-text, try_of-text, episode_of-text, end_of-text}
use Rattle.report_reading.proofs.Plain.{is_line-plain, plain_cause, plain_eight, plain_env, plain_tried}
use Rattle.report_reading.proofs.Compact.{end_third, episode_third, heads_differ, is_line-end_in, is_line-episode, is_line-head_in}

-- ---- each line ends with a line feed, and holds no other one

is_line-failure : (number : ℕ) (e : Episode) → number < 2 ^ 64 → IsEpisode e → is_line (failure_text number e) ≡ true
unfolding failure_text
is_line-failure number e few is =
    let at_part : List ℕ = codes " at " ++ (eight_digits e.pc ++ 10 ∷ []) in
    let named : List ℕ = codes " cause " ++ (cause_text e.cause ++ at_part) in
    is_line-decimal number (codes " point " ++ (decimal e.point ++ named)) few
    (is_line-decimal e.point named is.point (is_line-plain (cause_text e.cause) at_part (plain_cause e.cause is.cause) (is_line-plain (eight_digits e.pc) (10 ∷ []) (plain_eight e.pc) refl)))

is_line-try : (number : ℕ) (t : Try) → number < 2 ^ 64 → IsTry t → is_line (try_text number t) ≡ true
unfolding try_text
is_line-try number t few is =
    let told : List ℕ = codes " result " ++ (tried_text t.tried ++ 10 ∷ []) in
    let named : List ℕ = codes " env " ++ (env_word t.env ++ told) in
    is_line-decimal number (codes " checkpoint " ++ (decimal t.checkpoint ++ named)) few
    (is_line-decimal t.checkpoint named is.checkpoint (is_line-plain (env_word t.env) told (plain_env t.env) (is_line-plain (tried_text t.tried) (10 ∷ []) (plain_tried t.tried is.tried) refl)))

is_line-last : (finish : ReportEnd) → IsEnd finish → is_line (written_end Text finish) ≡ true
unfolding end_line
is_line-last finish is =
    let last : List ℕ = codes " steps " ++ (decimal finish.steps ++ 10 ∷ []) in
    is_line-decimal finish.status (codes " taken " ++ (decimal finish.taken ++ last)) (omega (arith, is.status))
    (is_line-decimal finish.taken last is.taken (is_line-decimal finish.steps (10 ∷ []) is.steps refl))

is_line-end : (form : Form) (finish : ReportEnd) → IsEnd finish → is_line (written_end form finish) ≡ true
is_line-end Text finish is = is_line-last finish is
is_line-end Json finish is = is_line-end_in finish is

-- ---- how a reading goes on

-- some bytes make one report another, whatever stands behind them
abbrev pub Goes : ReadReport → List ℕ → ReadReport → Type 0
Goes value text next = (number : ℕ) (rest : List ℕ) → (m : ℕ) × (read_on number (Some value) (text ++ rest) ≡ read_on m (Some next) rest)

goes_nothing : (value : ReadReport) → Goes value [] value
goes_nothing value = λ number rest. (number, refl)

goes_then : (a b c : ReadReport) (x y : List ℕ) → Goes a x b → Goes b y c → Goes a (x ++ y) c
goes_then a b c x y f g = λ number rest.
    let first = f number (y ++ rest) in
    let second = g first.0 rest in
    (second.0, ap (λ (text : List ℕ). read_on number (Some a) text) (append_assoc x y rest) ∙ first.1 ∙ second.1)

goes_line : (value next : ReadReport) (line : List ℕ) → is_line line ≡ true → next_of value line ≡ Some next → Goes value line next
goes_line value next line is h = λ number rest. (
  number + 1,
  ap (λ (c : Cut). read_from number (Some value) c.lines c.torn) (cut-line line rest is) ∙ ap (λ (state : Option ReadReport). read_on (number + 1) state rest) h,
)

abbrev pub state : Form → List Episode → Option Episode → Option ReportEnd → ReadReport
state form adopted failed finish = record { form = form; adopted = adopted; failed = failed; end = finish }

abbrev text_state : List Episode → Option Episode → Option ReportEnd → ReadReport
text_state adopted failed finish = state Text adopted failed finish

-- ---- by the letters in front

failure_letter : (number : ℕ) (e : Episode) → (slice_index (failure_text number e) 0 == 101) ≡ false
unfolding failure_text
failure_letter number e = refl

try_letter : (number : ℕ) (t : Try) → (slice_index (try_text number t) 0 == 101) ≡ false
unfolding try_text
try_letter number t = refl

first_letter : (finish : ReportEnd) → (slice_index (written_end Text finish) 0 == 101) ≡ true
unfolding end_line
first_letter finish = refl

end_letter : (form : Form) (finish : ReportEnd) → begins_end form (written_end form finish) ≡ true
end_letter Text finish = first_letter finish
end_letter Json finish = end_third finish

above_test : (least point : ℕ) → least ≤ point → nat_le least point ≡ true
above_test least point h = grind (arith, nat_tests)

next-failure : (before : List Episode) (e : Episode) → length before < 2 ^ 64 → IsEpisode e → least_behind 0 before ≤ e.point → next_of (text_state before None None) (failure_text (length before) e) ≡ Some (text_state before (Some (bare e)) None)
next-failure before e few is h =
    rw (failure_letter (length before) e, failure_of-text (length before) e few is, above_test (least_behind 0 before) e.point h) refl

next-try : (before : List Episode) (e : Episode) (t : Try) → length e.tries < 2 ^ 64 → IsTry t → next_of (text_state before (Some e) None) (try_text (length e.tries) t) ≡ Some (tried_behind (text_state before (Some e) None) e t)
next-try before e t few is = rw (try_letter (length e.tries) t, try_of-text (length e.tries) t few is) refl

next-end : (form : Form) (adopted : List Episode) (failed : Option Episode) (finish : ReportEnd) → IsEnd finish → next_of (state form adopted failed None) (written_end form finish) ≡ Some (state form adopted failed (Some finish))
next-end form adopted failed finish is = rw (end_letter form finish, end_of-text form finish is) refl

next-adopted : (before : List Episode) (e : Episode) → length before < 2 ^ 64 → IsEpisode e → least_behind 0 before ≤ e.point → last_survived e.tries ≡ true → next_of (state Json before None None) (written_episode (length before) e) ≡ Some (state Json (before ++ e ∷ []) None None)
next-adopted before e few is h last =
    rw (episode_third (length before) e is, episode_of-text (length before) e few is, above_test (least_behind 0 before) e.point h, last) refl

next-failed : (before : List Episode) (e : Episode) → length before < 2 ^ 64 → IsEpisode e → least_behind 0 before ≤ e.point → last_survived e.tries ≡ false → none_survived e.tries ≡ true → next_of (state Json before None None) (written_episode (length before) e) ≡ Some (state Json before (Some e) None)
next-failed before e few is h last none =
    rw (episode_third (length before) e is, episode_of-text (length before) e few is, above_test (least_behind 0 before) e.point h, last, none) refl

none_step : (b : Bool) (tries : List Try) → cond b false (none_survived tries) ≡ true → (none_survived tries ≡ true → last_survived tries ≡ false) → cond b (ends tries) (last_survived tries) ≡ false
none_step true tries h k = absurd (cc)
none_step false tries h k = k h

none_last : (tries : List Try) → none_survived tries ≡ true → last_survived tries ≡ false
none_last [] h = refl
none_last (t ∷ tries) h = none_step (survives t.tried) tries h (none_last tries)

-- ---- the trials of an episode

abbrev with_tries : Episode → List Try → Episode
with_tries e tries = record e { tries = tries }

goes_try : (before : List Episode) (e : Episode) (done : List Try) (t : Try) (number : ℕ) → number ≡ length done → number < 2 ^ 64 → IsTry t →
    Goes (text_state before (Some (with_tries e done)) None) (try_text number t) (tried_behind (text_state before (Some (with_tries e done)) None) (with_tries e done) t)
goes_try before e done t number same few is =
    goes_line (text_state before (Some (with_tries e done)) None) (tried_behind (text_state before (Some (with_tries e done)) None) (with_tries e done) t) (try_text number t)
    (is_line-try number t few is)
    (ap (λ (n : ℕ). next_of (text_state before (Some (with_tries e done)) None) (try_text n t)) same ∙ next-try before (with_tries e done) t (omega arith) is)

abbrev failed_with : List Episode → Episode → List Try → ReadReport
failed_with before e tries = text_state before (Some (with_tries e tries)) None

abbrev adopted_with : List Episode → Episode → List Try → ReadReport
adopted_with before e tries = text_state (before ++ with_tries e tries ∷ []) None None

tried_by : (value : ReadReport) (e : Episode) (t : Try) (b : Bool) → survives t.tried ≡ b → tried_behind value e t ≡ cond b (record value { adopted = value.adopted ++ record e { tries = e.tries ++ t ∷ [] } ∷ []; failed = None }) (record value { failed = Some (record e { tries = e.tries ++ t ∷ [] }) })
tried_by value e t b h = rw h refl

goes_by : (before : List Episode) (e : Episode) (done : List Try) (t : Try) (number : ℕ) (b : Bool) → survives t.tried ≡ b → number ≡ length done → number < 2 ^ 64 → IsTry t →
    Goes (failed_with before e done) (try_text number t) (cond b (adopted_with before e (done ++ t ∷ [])) (failed_with before e (done ++ t ∷ [])))
goes_by before e done t number b h same few is =
    subst (λ (next : ReadReport). Goes (failed_with before e done) (try_text number t) next) (tried_by (failed_with before e done) (with_tries e done) t b h) (goes_try before e done t number same few is)

adopted_step : (before : List Episode) (e : Episode) (done : List Try) (t : Try) (tries whole : List Try) (number : ℕ) (b : Bool) → survives t.tried ≡ b → number ≡ length done → done ++ (t ∷ tries) ≡ whole → IsTry t → number < 2 ^ 64 → cond b (ends tries) (last_survived tries) ≡ true →
    (last_survived tries ≡ true → Goes (failed_with before e (done ++ t ∷ [])) (try_lines (suc number) tries) (adopted_with before e whole)) →
    Goes (failed_with before e done) (try_text number t ++ try_lines (suc number) tries) (adopted_with before e whole)
adopted_step before e done t [] whole number true h same all is few last more =
    subst (λ (tries : List Try). Goes (failed_with before e done) (try_text number t ++ []) (adopted_with before e tries)) all
    (goes_then (failed_with before e done) (adopted_with before e (done ++ t ∷ [])) (adopted_with before e (done ++ t ∷ [])) (try_text number t) []
    (goes_by before e done t number true h same few is) (goes_nothing (adopted_with before e (done ++ t ∷ []))))
adopted_step before e done t (next ∷ tries) whole number true h same all is few last more = absurd (cc)
adopted_step before e done t tries whole number false h same all is few last more =
    goes_then (failed_with before e done) (failed_with before e (done ++ t ∷ [])) (adopted_with before e whole) (try_text number t) (try_lines (suc number) tries)
    (goes_by before e done t number false h same few is) (more last)

one_more : (done : List Try) (t : Try) (number : ℕ) → number ≡ length done → suc number ≡ length (done ++ t ∷ [])
one_more done t number h = omega (arith, h, length-append done (t ∷ []))

goes_adopted : (before : List Episode) (e : Episode) (done tries whole : List Try) (number : ℕ) → number ≡ length done → done ++ tries ≡ whole → All IsTry tries → number + length tries ≤ 2 ^ 64 → last_survived tries ≡ true →
    Goes (failed_with before e done) (try_lines number tries) (adopted_with before e whole)
goes_adopted before e done [] whole number same all are few last = absurd (cc)
goes_adopted before e done (t ∷ tries) whole number same all are few last =
    let here : number < 2 ^ 64 = omega arith in
    let less : suc number + length tries ≤ 2 ^ 64 = omega arith in
    adopted_step before e done t tries whole number (survives t.tried) refl same all (All-head IsTry t tries are) here last
    (goes_adopted before e (done ++ t ∷ []) tries whole (suc number) (one_more done t number same) (append_assoc done (t ∷ []) tries ∙ all) (All-tail IsTry t tries are) less)

failed_step : (before : List Episode) (e : Episode) (done : List Try) (t : Try) (tries whole : List Try) (number : ℕ) (b : Bool) → survives t.tried ≡ b → number ≡ length done → IsTry t → number < 2 ^ 64 → cond b false (none_survived tries) ≡ true →
    (none_survived tries ≡ true → Goes (failed_with before e (done ++ t ∷ [])) (try_lines (suc number) tries) (failed_with before e whole)) →
    Goes (failed_with before e done) (try_text number t ++ try_lines (suc number) tries) (failed_with before e whole)
failed_step before e done t tries whole number true h same is few none more = absurd (cc)
failed_step before e done t tries whole number false h same is few none more =
    goes_then (failed_with before e done) (failed_with before e (done ++ t ∷ [])) (failed_with before e whole) (try_text number t) (try_lines (suc number) tries)
    (goes_by before e done t number false h same few is) (more none)

goes_failed : (before : List Episode) (e : Episode) (done tries whole : List Try) (number : ℕ) → number ≡ length done → done ++ tries ≡ whole → All IsTry tries → number + length tries ≤ 2 ^ 64 → none_survived tries ≡ true →
    Goes (failed_with before e done) (try_lines number tries) (failed_with before e whole)
goes_failed before e done [] whole number same all are few none =
    subst (λ (tries : List Try). Goes (failed_with before e done) [] (failed_with before e tries)) (sym (append-nil done) ∙ all) (goes_nothing (failed_with before e done))
goes_failed before e done (t ∷ tries) whole number same all are few none =
    let here : number < 2 ^ 64 = omega arith in
    let less : suc number + length tries ≤ 2 ^ 64 = omega arith in
    failed_step before e done t tries whole number (survives t.tried) refl same (All-head IsTry t tries are) here none
    (goes_failed before e (done ++ t ∷ []) tries whole (suc number) (one_more done t number same) (append_assoc done (t ∷ []) tries ∙ all) (All-tail IsTry t tries are) less)

-- ---- episodes

goes_failure : (before : List Episode) (e : Episode) (number : ℕ) → number ≡ length before → number < 2 ^ 64 → IsEpisode e → least_behind 0 before ≤ e.point → Goes (text_state before None None) (failure_text number e) (failed_with before e [])
goes_failure before e number same few is h =
    goes_line (text_state before None None) (failed_with before e []) (failure_text number e) (is_line-failure number e few is)
    (ap (λ (n : ℕ). next_of (text_state before None None) (failure_text n e)) same ∙ next-failure before e (omega arith) is h)

goes_lines : (before : List Episode) (e : Episode) (number : ℕ) → number ≡ length before → number < 2 ^ 64 → IsEpisode e → least_behind 0 before ≤ e.point → WasAdopted e →
    Goes (text_state before None None) (episode_lines number e) (text_state (before ++ e ∷ []) None None)
unfolding episode_lines
goes_lines before e number same few is h was =
    goes_then (text_state before None None) (failed_with before e []) (text_state (before ++ e ∷ []) None None) (failure_text number e) (try_lines 0 e.tries)
    (goes_failure before e number same few is h)
    (goes_adopted before e [] e.tries e.tries 0 refl refl is.tries (omega (arith, is.few)) was)

goes_last_lines : (before : List Episode) (e : Episode) → length before < 2 ^ 64 → HasFailed before e → Goes (text_state before None None) (episode_lines (length before) e) (text_state before (Some e) None)
unfolding episode_lines
goes_last_lines before e few is =
    goes_then (text_state before None None) (failed_with before e []) (text_state before (Some e) None) (failure_text (length before) e) (try_lines 0 e.tries)
    (goes_failure before e (length before) refl few is.ranges is.rises)
    (goes_failed before e [] e.tries e.tries 0 refl refl is.ranges.tries (omega (arith, is.ranges.few)) is.none)

goes_episode : (form : Form) (before : List Episode) (e : Episode) (number : ℕ) → number ≡ length before → number < 2 ^ 64 → IsEpisode e → least_behind 0 before ≤ e.point → WasAdopted e →
    Goes (state form before None None) (episode_text number e form) (state form (before ++ e ∷ []) None None)
goes_episode Text before e number same few is h was = goes_lines before e number same few is h was
goes_episode Json before e number same few is h was =
    goes_line (state Json before None None) (state Json (before ++ e ∷ []) None None) (written_episode number e) (is_line-episode number e few is)
    (ap (λ (n : ℕ). next_of (state Json before None None) (written_episode n e)) same ∙ next-adopted before e (omega arith) is h was)

goes_last : (form : Form) (before : List Episode) (e : Episode) → length before < 2 ^ 64 → HasFailed before e → Goes (state form before None None) (episode_text (length before) e form) (state form before (Some e) None)
goes_last Text before e few is = goes_last_lines before e few is
goes_last Json before e few is =
    goes_line (state Json before None None) (state Json before (Some e) None) (written_episode (length before) e) (is_line-episode (length before) e few is.ranges)
    (next-failed before e few is.ranges is.rises (none_last e.tries is.none) is.none)

pub least_push : (least : ℕ) (before : List Episode) (e : Episode) → least_behind least (before ++ e ∷ []) ≡ suc e.point
least_push least [] e = refl
least_push least (first ∷ before) e = least_push (suc first.point) before e

one_episode_more : (before : List Episode) (e : Episode) (number : ℕ) → number ≡ length before → suc number ≡ length (before ++ e ∷ [])
one_episode_more before e number h = omega (arith, h, length-append before (e ∷ []))

goes_all : (form : Form) (before es whole : List Episode) (number : ℕ) → number ≡ length before → before ++ es ≡ whole → number ≤ least_behind 0 before → All IsEpisode es → RiseFrom (least_behind 0 before) es → All WasAdopted es →
    Goes (state form before None None) (episode_texts form number es) (state form whole None None)
goes_all form before [] whole number same all most are rise were =
    subst (λ (list : List Episode). Goes (state form before None None) [] (state form list None None)) (sym (append-nil before) ∙ all) (goes_nothing (state form before None None))
goes_all form before (e ∷ es) whole number same all most are rise were =
    let is : IsEpisode e = All-head IsEpisode e es are in
    let small : e.point < 2 ^ 64 = is.point in
    let above : least_behind 0 before ≤ e.point = rise.0 in
    let few : number < 2 ^ 64 = omega arith in
    let least : least_behind 0 (before ++ e ∷ []) ≡ suc e.point = least_push 0 before e in
    let next : suc number ≤ least_behind 0 (before ++ e ∷ []) = omega arith in
    goes_then (state form before None None) (state form (before ++ e ∷ []) None None) (state form whole None None) (episode_text number e form) (episode_texts form (suc number) es)
    (goes_episode form before e number same few is above (All-head WasAdopted e es were))
    (goes_all form (before ++ e ∷ []) es whole (suc number) (one_episode_more before e number same) (append_assoc before (e ∷ []) es ∙ all) next (All-tail IsEpisode e es are)
    (subst (λ (n : ℕ). RiseFrom n es) (sym least) rise.1) (All-tail WasAdopted e es were))

-- so many episodes have no more than so high points
few_rise : (least : ℕ) (es : List Episode) (point : ℕ) → RiseFrom least es → least_behind least es ≤ point → length es + least ≤ point
few_rise least [] point rise h = omega arith
few_rise least (e ∷ es) point rise h = let more : length es + suc e.point ≤ point = few_rise (suc e.point) es point rise.1 h in let first : least ≤ e.point = rise.0 in omega arith

goes_rest : (form : Form) (adopted : List Episode) (failed : Option Episode) → RiseFrom 0 adopted → IfSome failed (HasFailed adopted) → Goes (state form adopted None None) (episode_texts form (length adopted) (option_to_list failed)) (state form adopted failed None)
goes_rest form adopted None rise is = goes_nothing (state form adopted None None)
goes_rest form adopted (Some e) rise is =
    let all : length adopted + 0 ≤ e.point = few_rise 0 adopted e.point rise is.rises in
    let small : e.point < 2 ^ 64 = is.ranges.point in
    goes_then (state form adopted None None) (state form adopted (Some e) None) (state form adopted (Some e) None) (episode_text (length adopted) e form) []
    (goes_last form adopted e (omega arith) is) (goes_nothing (state form adopted (Some e) None))

goes_end : (form : Form) (adopted : List Episode) (failed : Option Episode) (finish : Option ReportEnd) → IfSome finish IsEnd → Goes (state form adopted failed None) (last_text form finish) (state form adopted failed finish)
goes_end form adopted failed None is = goes_nothing (state form adopted failed None)
goes_end form adopted failed (Some finish) is = goes_line (state form adopted failed None) (state form adopted failed (Some finish)) (written_end form finish) (is_line-end form finish is) (next-end form adopted failed finish is)

-- ---- the whole text

abbrev behind_head : Form → List Episode → Option Episode → Option ReportEnd → List ℕ
behind_head form adopted failed finish = episode_texts form 0 adopted ++ (episode_texts form (length adopted) (option_to_list failed) ++ last_text form finish)

goes_text : (form : Form) (adopted : List Episode) (failed : Option Episode) (finish : Option ReportEnd) → IsReport (state form adopted failed finish) → Goes (begun form) (behind_head form adopted failed finish) (state form adopted failed finish)
goes_text form adopted failed finish is =
    goes_then (begun form) (state form adopted None None) (state form adopted failed finish) (episode_texts form 0 adopted) (episode_texts form (length adopted) (option_to_list failed) ++ last_text form finish)
    (goes_all form [] adopted adopted 0 refl refl (omega arith) is.ranges is.rise is.adopted)
    (goes_then (state form adopted None None) (state form adopted failed None) (state form adopted failed finish) (episode_texts form (length adopted) (option_to_list failed)) (last_text form finish)
    (goes_rest form adopted failed is.rise is.failed) (goes_end form adopted failed finish is.finish))

ends_with : (form : Form) (adopted : List Episode) (failed : Option Episode) (finish : Option ReportEnd) (torn : List ℕ) (number : ℕ) → IsTornBehind finish torn → read_on number (Some (state form adopted failed finish)) torn ≡ Ok (state form adopted failed finish)
ends_with form adopted failed None torn number h = ap (λ (c : Cut). read_from number (Some (state form adopted failed None)) c.lines c.torn) (cut-torn torn h)
ends_with form adopted failed (Some finish) torn number h = rw h refl

by_second : (a b : Bool) → a ≡ false → b ≡ true → cond a (Some (begun Text)) (cond b (Some (begun Json)) None) ≡ Some (begun Json)
by_second a b h k = rw (h, k) refl

begins : (form : Form) → head_of (head_text form) ≡ Some (begun form)
begins Text = refl
begins Json = by_second (bytes_eq (head_text Text) (head_text Json)) (bytes_eq (head_text Json) (head_text Json)) heads_differ ((bytes_eq-Decides (head_text Json) (head_text Json)).1 refl)

head_is_line : (form : Form) → is_line (head_text form) ≡ true
head_is_line Text = refl
head_is_line Json = is_line-head_in

text_read : (form : Form) (adopted : List Episode) (failed : Option Episode) (finish : Option ReportEnd) (torn : List ℕ) → IsReport (state form adopted failed finish) → IsTornBehind finish torn →
    outcome (text_of (state form adopted failed finish) ++ torn) ≡ Ok (state form adopted failed finish)
text_read form adopted failed finish torn is behind =
    let rest : List ℕ = behind_head form adopted failed finish ++ torn in
    let on = goes_text form adopted failed finish is 1 torn in
    ap (λ (text : List ℕ). outcome text) (append_assoc (head_text form) (behind_head form adopted failed finish) torn)
    ∙ ap (λ (c : Cut). read_lines c.lines c.torn) (cut-line (head_text form) rest (head_is_line form))
    ∙ ap (λ (state : Option ReadReport). read_on 1 state rest) (begins form)
    ∙ on.1
    ∙ ends_with form adopted failed finish torn on.0 behind

pub reading_read : (text : List ℕ) (value : ReadReport) → IsReading text value → outcome text ≡ Ok value
reading_read text value h = ap (λ (bytes : List ℕ). outcome bytes) (sym h.whole) ∙ text_read value.form value.adopted value.failed value.end h.torn h.is h.behind
