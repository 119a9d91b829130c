-- What was read line by line is a reading.
use Rattle.report_reading.proofs.Terms.{Bool, Err, List, None, Ok, Option, Some, [], ap, append_assoc, arith, cond, false, length, length-append, option_map, refl, subst, suc, sym, true, ℕ, ◌&&◌, ◌++◌, ◌+◌, ◌<◌, ◌^◌, ◌∙◌, ◌∷◌, ◌≡◌, ◌≤◌, nat_tests, append-nil, All-nil, All-push, bytes_eq-Decides, concat, option_and_then, option_to_list, bytes_eq, is_some, nat_le, not, Episode, Try, failure_text, try_text, survives, is_empty, Form, Json, Text, episode_text, head_text, episode_lines, try_lines, ReadReport, ReportEnd, cut, is_torn, adopting, begins_end, begun, ending, episode_line, failed_behind, failing, finished, next_of, outcome, read_from, read_lines, told_behind, tried_behind, with_try, IsEpisode, IsReading, IsReport, IsTornBehind, IsTry, RiseFrom, WasAdopted, ends, episode_texts, last_survived, last_text, least_behind, none_survived, text_of, end_of, episode_of, failure_of, try_of}
use Rattle.report_reading.proofs.Cuttings.{cut-joined, torn-cut}
use Rattle.report_reading.proofs.Told.{ToldEpisode, ToldFailure, ToldTry, episode_of-sound, failure_of-sound, try_of-sound, end_of-sound}
use Rattle.report_reading.proofs.Completing.{state}

-- a line more: what was read is a report whose text is longer by this line
record IsLonger (value : ReadReport) (line : List ℕ) (next : ReadReport) : Type 0 where
  is : IsReport next
  text : text_of next ≡ text_of value ++ line

abbrev text_state : List Episode → Option Episode → Option ReportEnd → ReadReport
text_state adopted failed finish = state Text adopted failed finish

-- ---- one more at the end of a list

rise_push : (least : ℕ) (episodes : List Episode) (e : Episode) → RiseFrom least episodes → least_behind least episodes ≤ e.point → RiseFrom least (episodes ++ e ∷ [])
rise_push least [] e rise h = (h, tt)
rise_push least (first ∷ episodes) e rise h = (rise.0, rise_push (suc first.point) episodes e rise.1 h)

none_step : (b : Bool) (tries : List Try) (t : Try) → cond b false (none_survived tries) ≡ true → (none_survived tries ≡ true → none_survived (tries ++ t ∷ []) ≡ true) → cond b false (none_survived (tries ++ t ∷ [])) ≡ true
none_step true tries t h k = absurd (cc)
none_step false tries t h k = k h

none_push : (tries : List Try) (t : Try) → none_survived tries ≡ true → survives t.tried ≡ false → none_survived (tries ++ t ∷ []) ≡ true
none_push [] t h not = rw not refl
none_push (first ∷ tries) t h not = none_step (survives first.tried) tries t h (λ none. none_push tries t none not)

last_step : (b : Bool) (tries : List Try) (t : Try) → cond b false (none_survived tries) ≡ true → (none_survived tries ≡ true → last_survived (tries ++ t ∷ []) ≡ true) → cond b (ends (tries ++ t ∷ [])) (last_survived (tries ++ t ∷ [])) ≡ true
last_step true tries t h k = absurd (cc)
last_step false tries t h k = k h

last_push : (tries : List Try) (t : Try) → none_survived tries ≡ true → survives t.tried ≡ true → last_survived (tries ++ t ∷ []) ≡ true
last_push [] t h it = rw it refl
last_push (first ∷ tries) t h it = last_step (survives first.tried) tries t h (λ none. last_push tries t none it)

tries_push : (number : ℕ) (tries : List Try) (t : Try) (at_end : ℕ) → at_end ≡ number + length tries → try_lines number (tries ++ t ∷ []) ≡ try_lines number tries ++ try_text at_end t
tries_push number [] t at_end h = let same : number ≡ at_end = omega arith in append-nil (try_text number t) ∙ ap (λ (n : ℕ). try_text n t) same
tries_push number (first ∷ tries) t at_end h =
    let same : at_end ≡ suc number + length tries = omega arith in
    ap (λ (lines : List ℕ). try_text number first ++ lines) (tries_push (suc number) tries t at_end same)
    ∙ sym (append_assoc (try_text number first) (try_lines (suc number) tries) (try_text at_end t))

episodes_push : (form : Form) (number : ℕ) (episodes : List Episode) (e : Episode) (at_end : ℕ) → at_end ≡ number + length episodes → episode_texts form number (episodes ++ e ∷ []) ≡ episode_texts form number episodes ++ episode_text at_end e form
episodes_push form number [] e at_end h = let same : number ≡ at_end = omega arith in append-nil (episode_text number e form) ∙ ap (λ (n : ℕ). episode_text n e form) same
episodes_push form number (first ∷ episodes) e at_end h =
    let same : at_end ≡ suc number + length episodes = omega arith in
    ap (λ (text : List ℕ). episode_text number first form ++ text) (episodes_push form (suc number) episodes e at_end same)
    ∙ sym (append_assoc (episode_text number first form) (episode_texts form (suc number) episodes) (episode_text at_end e form))

-- ---- texts that grow, over any bytes

text_failure : (head front part line : List ℕ) → part ≡ line → head ++ (front ++ ((part ++ []) ++ [])) ≡ (head ++ (front ++ [])) ++ line
text_failure head front part line h = rw h (simp (append_assoc, append-nil))

text_try : (head front part more line : List ℕ) → more ≡ part ++ line → head ++ (front ++ ((more ++ []) ++ [])) ≡ (head ++ (front ++ ((part ++ []) ++ []))) ++ line
text_try head front part more line h = rw h (simp (append_assoc, append-nil))

text_adopted : (head front part more line whole : List ℕ) → more ≡ part ++ line → whole ≡ front ++ more → head ++ (whole ++ []) ≡ (head ++ (front ++ ((part ++ []) ++ []))) ++ line
text_adopted head front part more line whole h k = rw k (rw h (simp (append_assoc, append-nil)))

text_end : (head front part line last : List ℕ) → last ≡ line → head ++ (front ++ (part ++ last)) ≡ (head ++ (front ++ (part ++ []))) ++ line
text_end head front part line last h = rw h (simp (append_assoc, append-nil))

-- ---- a failure

above_fact : (least point : ℕ) → nat_le least point ≡ true → least ≤ point
above_fact least point h = grind (arith, nat_tests)

no_tries : (number : ℕ) (e : Episode) → e.tries ≡ [] → episode_lines number e ≡ failure_text number e
unfolding episode_lines
no_tries number e h = ap (λ (tries : List Try). failure_text number e ++ try_lines 0 tries) h ∙ append-nil (failure_text number e)

none_none : (e : Episode) → e.tries ≡ [] → none_survived e.tries ≡ true
none_none e h = rw h refl

longer_failure : (adopted : List Episode) (line : List ℕ) (e : Episode) → IsReport (text_state adopted None None) → ToldFailure (length adopted) line e → least_behind 0 adopted ≤ e.point → IsLonger (text_state adopted None None) line (text_state adopted (Some e) None)
longer_failure adopted line e is told h = record {
  is = record {
    ranges = is.ranges;
    rise = is.rise;
    adopted = is.adopted;
    failed = record { ranges = told.is; rises = h; none = none_none e told.none };
    finish = tt;
  };
  text = text_failure (head_text Text) (episode_texts Text 0 adopted) (episode_lines (length adopted) e) line (no_tries (length adopted) e told.none ∙ told.text);
}

failure_by : (adopted : List Episode) (line : List ℕ) (e : Episode) (next : ReadReport) (b : Bool) → nat_le (least_behind 0 adopted) e.point ≡ b → cond b (Some (text_state adopted (Some e) None)) None ≡ Some next → IsReport (text_state adopted None None) → ToldFailure (length adopted) line e →
    IsLonger (text_state adopted None None) line next
failure_by adopted line e next true above h is told =
    let same : text_state adopted (Some e) None ≡ next = cc in
    subst (λ (next : ReadReport). IsLonger (text_state adopted None None) line next) same (longer_failure adopted line e is told (above_fact (least_behind 0 adopted) e.point above))
failure_by adopted line e next false above h is told = absurd (cc)

failure_line : (adopted : List Episode) (line : List ℕ) (next : ReadReport) (e : Option Episode) → failure_of (length adopted) line ≡ e → option_and_then (failed_behind (text_state adopted None None)) e ≡ Some next → IsReport (text_state adopted None None) →
    IsLonger (text_state adopted None None) line next
failure_line adopted line next None told h is = absurd (cc)
failure_line adopted line next (Some e) told h is =
    failure_by adopted line e next (nat_le (least_behind 0 adopted) e.point) refl h is (failure_of-sound (length adopted) line e told)

-- ---- a trial

episode_push : (number : ℕ) (e : Episode) (t : Try) → episode_lines number (with_try e t) ≡ episode_lines number e ++ try_text (length e.tries) t
unfolding episode_lines failure_text
episode_push number e t =
    ap (λ (lines : List ℕ). failure_text number e ++ lines) (tries_push 0 e.tries t (length e.tries) (omega arith))
    ∙ sym (append_assoc (failure_text number e) (try_lines 0 e.tries) (try_text (length e.tries) t))

with_try-is : (e : Episode) (t : Try) → IsEpisode e → IsTry t → length e.tries < 2 ^ 64 → IsEpisode (with_try e t)
with_try-is e t is it few = record {
  point = is.point;
  cause = is.cause;
  pc = is.pc;
  tries = All-push IsTry e.tries t is.tries it;
  few = omega (arith, length-append e.tries (t ∷ []));
}

try_by : (adopted : List Episode) (line : List ℕ) (e : Episode) (t : Try) (b : Bool) → survives t.tried ≡ b → IsReport (text_state adopted (Some e) None) → ToldTry (length e.tries) line t →
    IsLonger (text_state adopted (Some e) None) line (cond b (adopting (text_state adopted (Some e) None) (with_try e t)) (failing (text_state adopted (Some e) None) (with_try e t)))
try_by adopted line e t true it is told =
    let more : episode_lines (length adopted) (with_try e t) ≡ episode_lines (length adopted) e ++ line = episode_push (length adopted) e t ∙ ap (λ (text : List ℕ). episode_lines (length adopted) e ++ text) told.text in
    record {
      is = record {
        ranges = All-push IsEpisode adopted (with_try e t) is.ranges (with_try-is e t is.failed.ranges told.is told.few);
        rise = rise_push 0 adopted (with_try e t) is.rise is.failed.rises;
        adopted = All-push WasAdopted adopted (with_try e t) is.adopted (last_push e.tries t is.failed.none it);
        failed = tt;
        finish = tt;
      };
      text = text_adopted (head_text Text) (episode_texts Text 0 adopted) (episode_lines (length adopted) e) (episode_lines (length adopted) (with_try e t)) line (episode_texts Text 0 (adopted ++ with_try e t ∷ []))
          more (episodes_push Text 0 adopted (with_try e t) (length adopted) (omega arith));
    }
try_by adopted line e t false it is told =
    let more : episode_lines (length adopted) (with_try e t) ≡ episode_lines (length adopted) e ++ line = episode_push (length adopted) e t ∙ ap (λ (text : List ℕ). episode_lines (length adopted) e ++ text) told.text in
    record {
      is = record {
        ranges = is.ranges;
        rise = is.rise;
        adopted = is.adopted;
        failed = record { ranges = with_try-is e t is.failed.ranges told.is told.few; rises = is.failed.rises; none = none_push e.tries t is.failed.none it };
        finish = tt;
      };
      text = text_try (head_text Text) (episode_texts Text 0 adopted) (episode_lines (length adopted) e) (episode_lines (length adopted) (with_try e t)) line more;
    }

try_line : (adopted : List Episode) (line : List ℕ) (next : ReadReport) (e : Episode) (t : Option Try) → try_of (length e.tries) line ≡ t → option_map (tried_behind (text_state adopted (Some e) None) e) t ≡ Some next → IsReport (text_state adopted (Some e) None) →
    IsLonger (text_state adopted (Some e) None) line next
try_line adopted line next e None told h is = absurd (cc)
try_line adopted line next e (Some t) told h is =
    let same : tried_behind (text_state adopted (Some e) None) e t ≡ next = cc in
    subst (λ (next : ReadReport). IsLonger (text_state adopted (Some e) None) line next) same (try_by adopted line e t (survives t.tried) refl is (try_of-sound (length e.tries) line t told))

-- ---- the line of an episode, as JSON

abbrev json_state : List Episode → Option Episode → Option ReportEnd → ReadReport
json_state adopted failed finish = state Json adopted failed finish

text_more : (head front line part : List ℕ) → part ≡ line → head ++ ((front ++ part) ++ []) ≡ (head ++ (front ++ [])) ++ line
text_more head front line part h = rw h (simp (append_assoc, append-nil))

text_whole : (head front line part whole : List ℕ) → whole ≡ front ++ part → part ≡ line → head ++ (whole ++ []) ≡ (head ++ (front ++ [])) ++ line
text_whole head front line part whole k h = rw k (text_more head front line part h)

longer_adopted : (adopted : List Episode) (line : List ℕ) (e : Episode) → IsReport (json_state adopted None None) → ToldEpisode (length adopted) line e → least_behind 0 adopted ≤ e.point → last_survived e.tries ≡ true → IsLonger (json_state adopted None None) line (json_state (adopted ++ e ∷ []) None None)
longer_adopted adopted line e is told h last = record {
  is = record {
    ranges = All-push IsEpisode adopted e is.ranges told.is;
    rise = rise_push 0 adopted e is.rise h;
    adopted = All-push WasAdopted adopted e is.adopted last;
    failed = tt;
    finish = tt;
  };
  text = text_whole (head_text Json) (episode_texts Json 0 adopted) line (episode_text (length adopted) e Json) (episode_texts Json 0 (adopted ++ e ∷ [])) (episodes_push Json 0 adopted e (length adopted) (omega arith)) told.text;
}

longer_failed : (adopted : List Episode) (line : List ℕ) (e : Episode) → IsReport (json_state adopted None None) → ToldEpisode (length adopted) line e → least_behind 0 adopted ≤ e.point → none_survived e.tries ≡ true → IsLonger (json_state adopted None None) line (json_state adopted (Some e) None)
longer_failed adopted line e is told h none = record {
  is = record {
    ranges = is.ranges;
    rise = is.rise;
    adopted = is.adopted;
    failed = record { ranges = told.is; rises = h; none = none };
    finish = tt;
  };
  text = text_failure (head_text Json) (episode_texts Json 0 adopted) (episode_text (length adopted) e Json) line told.text;
}

json_by : (adopted : List Episode) (line : List ℕ) (e : Episode) (next : ReadReport) (above last none : Bool) → nat_le (least_behind 0 adopted) e.point ≡ above → last_survived e.tries ≡ last → none_survived e.tries ≡ none →
    cond (not above) None (cond last (Some (json_state (adopted ++ e ∷ []) None None)) (cond none (Some (json_state adopted (Some e) None)) None)) ≡ Some next → IsReport (json_state adopted None None) → ToldEpisode (length adopted) line e → IsLonger (json_state adopted None None) line next
json_by adopted line e next false last none is_above is_last is_none h is told = absurd (cc)
json_by adopted line e next true true none is_above is_last is_none h is told =
    let same : json_state (adopted ++ e ∷ []) None None ≡ next = cc in
    subst (λ (next : ReadReport). IsLonger (json_state adopted None None) line next) same (longer_adopted adopted line e is told (above_fact (least_behind 0 adopted) e.point is_above) is_last)
json_by adopted line e next true false true is_above is_last is_none h is told =
    let same : json_state adopted (Some e) None ≡ next = cc in
    subst (λ (next : ReadReport). IsLonger (json_state adopted None None) line next) same (longer_failed adopted line e is told (above_fact (least_behind 0 adopted) e.point is_above) is_none)
json_by adopted line e next true false false is_above is_last is_none h is told = absurd (cc)

json_line : (adopted : List Episode) (line : List ℕ) (next : ReadReport) (e : Option Episode) → episode_of (length adopted) line ≡ e → option_and_then (told_behind (json_state adopted None None)) e ≡ Some next → IsReport (json_state adopted None None) → IsLonger (json_state adopted None None) line next
json_line adopted line next None told h is = absurd (cc)
json_line adopted line next (Some e) told h is =
    json_by adopted line e next (nat_le (least_behind 0 adopted) e.point) (last_survived e.tries) (none_survived e.tries) refl refl refl h is (episode_of-sound (length adopted) line e told)

-- ---- the end

end_line : (form : Form) (adopted : List Episode) (failed : Option Episode) (line : List ℕ) (next : ReadReport) (finish : Option ReportEnd) → end_of form line ≡ finish → option_map (ending (state form adopted failed None)) finish ≡ Some next → IsReport (state form adopted failed None) →
    IsLonger (state form adopted failed None) line next
end_line form adopted failed line next None told h is = absurd (cc)
end_line form adopted failed line next (Some finish) told h is =
    let same : ending (state form adopted failed None) finish ≡ next = cc in
    let ended = end_of-sound form line finish told in
    subst (λ (next : ReadReport). IsLonger (state form adopted failed None) line next) same
    (record {
      is = record { ranges = is.ranges; rise = is.rise; adopted = is.adopted; failed = is.failed; finish = ended.is };
      text = text_end (head_text form) (episode_texts form 0 adopted) (episode_texts form (length adopted) (option_to_list failed)) line (last_text form (Some finish)) ended.text;
    })

-- ---- any line

episode_by : (form : Form) (adopted : List Episode) (failed : Option Episode) (line : List ℕ) (next : ReadReport) → episode_line form (state form adopted failed None) failed line ≡ Some next → IsReport (state form adopted failed None) → IsLonger (state form adopted failed None) line next
episode_by Text adopted None line next h is = failure_line adopted line next (failure_of (length adopted) line) refl h is
episode_by Text adopted (Some e) line next h is = try_line adopted line next e (try_of (length e.tries) line) refl h is
episode_by Json adopted None line next h is = json_line adopted line next (episode_of (length adopted) line) refl h is
episode_by Json adopted (Some e) line next h is = absurd (cc)

line_by : (form : Form) (adopted : List Episode) (failed : Option Episode) (line : List ℕ) (next : ReadReport) (b : Bool) → cond b (option_map (ending (state form adopted failed None)) (end_of form line)) (episode_line form (state form adopted failed None) failed line) ≡ Some next → IsReport (state form adopted failed None) →
    IsLonger (state form adopted failed None) line next
line_by form adopted failed line next true h is = end_line form adopted failed line next (end_of form line) refl h is
line_by form adopted failed line next false h is = episode_by form adopted failed line next h is

next_by : (form : Form) (adopted : List Episode) (failed : Option Episode) (finish : Option ReportEnd) (line : List ℕ) (next : ReadReport) → next_of (state form adopted failed finish) line ≡ Some next → IsReport (state form adopted failed finish) → IsLonger (state form adopted failed finish) line next
next_by form adopted failed (Some finish) line next h is = absurd (cc)
next_by form adopted failed None line next h is = line_by form adopted failed line next (begins_end form line) h is

next_longer : (value : ReadReport) (line : List ℕ) (next : ReadReport) → next_of value line ≡ Some next → IsReport value → IsLonger value line next
next_longer value line next h is = next_by value.form value.adopted value.failed value.end line next h is

-- ---- all lines

torn_by : (finish : Option ReportEnd) (torn : List ℕ) → (is_some finish && not (is_empty torn)) ≡ false → is_torn torn ≡ true → IsTornBehind finish torn
torn_by None torn h is = is
torn_by (Some finish) [] h is = refl
torn_by (Some finish) (byte ∷ torn) h is = absurd (cc)

finished_by : (b : Bool) (number : ℕ) (value read : ReadReport) → cond b (Err (number + 1)) (Ok value) ≡ Ok read → (b ≡ false) × (value ≡ read)
finished_by true number value read h = absurd (cc)
finished_by false number value read h = (refl, cc)

end_is : (number : ℕ) (value read : ReadReport) (torn : List ℕ) → finished number value torn ≡ Ok read → IsReport value → is_torn torn ≡ true → IsReading (text_of value ++ torn) read
end_is number value read torn h is torn_is =
    let parts = finished_by (is_some value.end && not (is_empty torn)) number value read h in
    subst (λ (read : ReadReport). IsReading (text_of value ++ torn) read) parts.1 (record { is = is; torn = torn; behind = torn_by value.end torn parts.0 torn_is; whole = refl })

read_step : (number : ℕ) (value read : ReadReport) (line rest : List ℕ) (lines : List (List ℕ)) (torn : List ℕ) (next : Option ReadReport) → next_of value line ≡ next → read_from (number + 1) next lines torn ≡ Ok read → IsReport value →
    ((next : ReadReport) → read_from (number + 1) (Some next) lines torn ≡ Ok read → IsReport next → IsReading (text_of next ++ rest) read) → IsReading (text_of value ++ (line ++ rest)) read
read_step number value read line rest lines torn None e h is more = absurd (cc)
read_step number value read line rest lines torn (Some next) e h is more =
    let longer = next_longer value line next e is in
    subst (λ (text : List ℕ). IsReading text read) (ap (λ (text : List ℕ). text ++ rest) longer.text ∙ append_assoc (text_of value) line rest) (more next h longer.is)

read_is : (number : ℕ) (value read : ReadReport) (lines : List (List ℕ)) (torn : List ℕ) → read_from number (Some value) lines torn ≡ Ok read → IsReport value → is_torn torn ≡ true → IsReading (text_of value ++ (concat lines ++ torn)) read
read_is number value read [] torn h is torn_is = end_is number value read torn h is torn_is
read_is number value read (line ∷ lines) torn h is torn_is =
    subst (λ (text : List ℕ). IsReading (text_of value ++ text) read) (sym (append_assoc line (concat lines) torn))
    (read_step number value read line (concat lines ++ torn) lines torn (next_of value line) refl h is (λ next h is. read_is (number + 1) next read lines torn h is torn_is))

begun-is : (form : Form) → IsReport (begun form)
begun-is form = record { ranges = All-nil IsEpisode; rise = tt; adopted = All-nil WasAdopted; failed = tt; finish = tt }

begun-text : (form : Form) → text_of (begun form) ≡ head_text form
begun-text form = append-nil (head_text form)

head_is : (form : Form) (line rest : List ℕ) (lines : List (List ℕ)) (torn : List ℕ) (read : ReadReport) → bytes_eq (head_text form) line ≡ true → read_from 1 (Some (begun form)) lines torn ≡ Ok read → concat lines ++ torn ≡ rest → is_torn torn ≡ true → IsReading (line ++ rest) read
head_is form line rest lines torn read same h whole torn_is =
    let front : text_of (begun form) ≡ line = begun-text form ∙ (bytes_eq-Decides (head_text form) line).0 same in
    subst (λ (text : List ℕ). IsReading text read) (ap (λ (front : List ℕ). front ++ (concat lines ++ torn)) front ∙ ap (λ (rest : List ℕ). line ++ rest) whole) (read_is 1 (begun form) read lines torn h (begun-is form) torn_is)

head_by : (a b : Bool) (line : List ℕ) (rest : List ℕ) (lines : List (List ℕ)) (torn : List ℕ) (read : ReadReport) → bytes_eq (head_text Text) line ≡ a → bytes_eq (head_text Json) line ≡ b →
    read_from 1 (cond a (Some (begun Text)) (cond b (Some (begun Json)) None)) lines torn ≡ Ok read → concat lines ++ torn ≡ rest → is_torn torn ≡ true → IsReading (line ++ rest) read
head_by true b line rest lines torn read is_text is_json h whole torn_is = head_is Text line rest lines torn read is_text h whole torn_is
head_by false true line rest lines torn read is_text is_json h whole torn_is = head_is Json line rest lines torn read is_json h whole torn_is
head_by false false line rest lines torn read is_text is_json h whole torn_is = absurd (cc)

lines_read : (lines : List (List ℕ)) (torn : List ℕ) (read : ReadReport) → read_lines lines torn ≡ Ok read → is_torn torn ≡ true → IsReading (concat lines ++ torn) read
lines_read [] torn read h torn_is = absurd (cc)
lines_read (line ∷ lines) torn read h torn_is =
    subst (λ (text : List ℕ). IsReading text read) (sym (append_assoc line (concat lines) torn))
    (head_by (bytes_eq (head_text Text) line) (bytes_eq (head_text Json) line) line (concat lines ++ torn) lines torn read refl refl h refl torn_is)

pub read_reading : (text : List ℕ) (value : ReadReport) → outcome text ≡ Ok value → IsReading text value
read_reading text value h = subst (λ (bytes : List ℕ). IsReading bytes value) (cut-joined text) (lines_read (cut text).lines (cut text).torn value h (torn-cut text))
