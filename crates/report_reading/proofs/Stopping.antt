-- A report that was cut is read, and says what the whole one begins with.
use Rattle.report_reading.proofs.Terms.{Bool, Err, List, None, Ok, Option, Some, [], ap, append_assoc, cond, false, length, option_map, refl, subst, sym, true, ℕ, ◌&&◌, ◌++◌, ◌+◌, ◌∙◌, ◌∷◌, ◌≡◌, append-nil, concat, option_and_then, is_some, nat_le, not, ◌==◌, Episode, Try, survives, is_empty, Form, Json, Text, ReadReport, ReportEnd, Cut, cut, cut_into, is_torn, onto, BeginsAs, adopting, begins_end, ending, episode_line, failed_behind, failing, finished, head_of, next_of, outcome, read_from, read_lines, told_behind, tried_behind, with_try, IsReading, last_survived, least_behind, none_survived, end_of, episode_of, failure_of, try_of}
use Rattle.report_reading.proofs.Completing.{reading_read}
use Rattle.report_reading.proofs.Cuttings.{cut-joined, torn-cut}
use Rattle.report_reading.proofs.Sounding.{read_reading}

-- ---- the lines of a text that goes on

-- the lines of a cut, and those of its torn line with more behind it
abbrev gone_on : Cut → List ℕ → Cut
gone_on c more = cut_into (c.lines ++ (cut (c.torn ++ more)).lines) (cut (c.torn ++ more)).torn

on_onto : (byte : ℕ) (lines : List (List ℕ)) (torn more : List ℕ) → (byte == 10) ≡ false → onto byte (lines ++ (cut (torn ++ more)).lines) (cut (torn ++ more)).torn ≡ gone_on (onto byte lines torn) more
on_onto byte [] torn more e = rw e refl
on_onto byte (line ∷ lines) torn more e = refl

on_step : (test : Bool) (byte : ℕ) (c all : Cut) (more : List ℕ) → (byte == 10) ≡ test → all ≡ gone_on c more →
    cond test (cut_into ((byte ∷ []) ∷ all.lines) all.torn) (onto byte all.lines all.torn) ≡ gone_on (cond test (cut_into ((byte ∷ []) ∷ c.lines) c.torn) (onto byte c.lines c.torn)) more
on_step true byte c all more e h = ap (λ (all : Cut). cut_into ((byte ∷ []) ∷ all.lines) all.torn) h
on_step false byte c all more e h = ap (λ (all : Cut). onto byte all.lines all.torn) h ∙ on_onto byte c.lines c.torn more e

cut-on : (text more : List ℕ) → cut (text ++ more) ≡ gone_on (cut text) more
cut-on [] more = refl
cut-on (byte ∷ bytes) more = on_step (byte == 10) byte (cut bytes) (cut (bytes ++ more)) more refl (cut-on bytes more)

-- ---- what a line adds

same_begins : (value : ReadReport) → BeginsAs value value
same_begins value = record { form = refl; rest = []; adopted = append-nil value.adopted }

adopting_begins : (value : ReadReport) (e : Episode) → BeginsAs value (adopting value e)
adopting_begins value e = record { form = refl; rest = e ∷ []; adopted = refl }

failing_begins : (value : ReadReport) (e : Episode) → BeginsAs value (failing value e)
failing_begins value e = record { form = refl; rest = []; adopted = append-nil value.adopted }

ending_begins : (value : ReadReport) (finish : ReportEnd) → BeginsAs value (ending value finish)
ending_begins value finish = record { form = refl; rest = []; adopted = append-nil value.adopted }

begins_then : (a b c : ReadReport) → BeginsAs a b → BeginsAs b c → BeginsAs a c
begins_then a b c f g = record {
  form = f.form ∙ g.form;
  rest = f.rest ++ g.rest;
  adopted = sym (append_assoc a.adopted f.rest g.rest) ∙ ap (λ (list : List Episode). list ++ g.rest) f.adopted ∙ g.adopted;
}

by_value : (value next found : ReadReport) → Some found ≡ Some next → BeginsAs value found → BeginsAs value next
by_value value next found h begins = let same : found ≡ next = cc in subst (λ (next : ReadReport). BeginsAs value next) same begins

failure_begins : (value next : ReadReport) (e : Episode) (b : Bool) → cond b (Some (failing value e)) None ≡ Some next → BeginsAs value next
failure_begins value next e true h = by_value value next (failing value e) h (failing_begins value e)
failure_begins value next e false h = absurd (cc)

tried_begins : (value next : ReadReport) (e : Episode) (b : Bool) → Some (cond b (adopting value e) (failing value e)) ≡ Some next → BeginsAs value next
tried_begins value next e true h = by_value value next (adopting value e) h (adopting_begins value e)
tried_begins value next e false h = by_value value next (failing value e) h (failing_begins value e)

told_begins : (value next : ReadReport) (e : Episode) (above last none : Bool) → cond (not above) None (cond last (Some (adopting value e)) (cond none (Some (failing value e)) None)) ≡ Some next → BeginsAs value next
told_begins value next e false last none h = absurd (cc)
told_begins value next e true true none h = by_value value next (adopting value e) h (adopting_begins value e)
told_begins value next e true false true h = by_value value next (failing value e) h (failing_begins value e)
told_begins value next e true false false h = absurd (cc)

failed_option : (value next : ReadReport) (e : Option Episode) → option_and_then (failed_behind value) e ≡ Some next → BeginsAs value next
failed_option value next None h = absurd (cc)
failed_option value next (Some e) h = failure_begins value next e (nat_le (least_behind 0 value.adopted) e.point) h

tried_option : (value next : ReadReport) (e : Episode) (t : Option Try) → option_map (tried_behind value e) t ≡ Some next → BeginsAs value next
tried_option value next e None h = absurd (cc)
tried_option value next e (Some t) h = tried_begins value next (with_try e t) (survives t.tried) h

told_option : (value next : ReadReport) (e : Option Episode) → option_and_then (told_behind value) e ≡ Some next → BeginsAs value next
told_option value next None h = absurd (cc)
told_option value next (Some e) h = told_begins value next e (nat_le (least_behind 0 value.adopted) e.point) (last_survived e.tries) (none_survived e.tries) h

end_option : (value next : ReadReport) (finish : Option ReportEnd) → option_map (ending value) finish ≡ Some next → BeginsAs value next
end_option value next None h = absurd (cc)
end_option value next (Some finish) h = by_value value next (ending value finish) h (ending_begins value finish)

episode_begins : (form : Form) (value next : ReadReport) (failed : Option Episode) (line : List ℕ) → episode_line form value failed line ≡ Some next → BeginsAs value next
episode_begins Text value next None line h = failed_option value next (failure_of (length value.adopted) line) h
episode_begins Text value next (Some e) line h = tried_option value next e (try_of (length e.tries) line) h
episode_begins Json value next None line h = told_option value next (episode_of (length value.adopted) line) h
episode_begins Json value next (Some e) line h = absurd (cc)

line_begins : (value next : ReadReport) (line : List ℕ) (ended last : Bool) → cond ended None (cond last (option_map (ending value) (end_of value.form line)) (episode_line value.form value value.failed line)) ≡ Some next → BeginsAs value next
line_begins value next line true last h = absurd (cc)
line_begins value next line false true h = end_option value next (end_of value.form line) h
line_begins value next line false false h = episode_begins value.form value next value.failed line h

next_begins : (value next : ReadReport) (line : List ℕ) → next_of value line ≡ Some next → BeginsAs value next
next_begins value next line h = line_begins value next line (is_some value.end) (begins_end value.form line) h

-- ---- some lines, and more behind them

finished_by : (b : Bool) (number : ℕ) (value read : ReadReport) → cond b (Err (number + 1)) (Ok value) ≡ Ok read → (b ≡ false) × (value ≡ read)
finished_by true number value read h = absurd (cc)
finished_by false number value read h = (refl, cc)

lines_step : (number : ℕ) (value read : ReadReport) (line : List ℕ) (lines : List (List ℕ)) (torn : List ℕ) (next : Option ReadReport) → next_of value line ≡ next → read_from (number + 1) next lines torn ≡ Ok read →
    ((next : ReadReport) → read_from (number + 1) (Some next) lines torn ≡ Ok read → BeginsAs next read) → BeginsAs value read
lines_step number value read line lines torn None e h more = absurd (cc)
lines_step number value read line lines torn (Some next) e h more = begins_then value next read (next_begins value next line e) (more next h)

lines_begin : (number : ℕ) (value read : ReadReport) (lines : List (List ℕ)) (torn : List ℕ) → read_from number (Some value) lines torn ≡ Ok read → BeginsAs value read
lines_begin number value read [] torn h =
    let parts = finished_by (is_some value.end && not (is_empty torn)) number value read h in
    subst (λ (read : ReadReport). BeginsAs value read) parts.1 (same_begins value)
lines_begin number value read (line ∷ lines) torn h =
    lines_step number value read line lines torn (next_of value line) refl h (λ next h. lines_begin (number + 1) next read lines torn h)

-- where reading some lines comes to
record Reaches (number : ℕ) (state : Option ReadReport) (lines : List (List ℕ)) : Type 0 where
  count : ℕ
  value : ReadReport
  alone : (torn : List ℕ) → read_from number state lines torn ≡ finished count value torn
  before : (more : List (List ℕ)) (torn : List ℕ) → read_from number state (lines ++ more) torn ≡ read_from count (Some value) more torn

reaches : (number : ℕ) (state : Option ReadReport) (lines more : List (List ℕ)) (torn : List ℕ) (read : ReadReport) → read_from number state (lines ++ more) torn ≡ Ok read → Reaches number state lines
reaches number None lines more torn read h = absurd (cc)
reaches number (Some value) [] more torn read h = record { count = number; value = value; alone = λ torn. refl; before = λ more torn. refl }
reaches number (Some value) (line ∷ lines) more torn read h =
    let on = reaches (number + 1) (next_of value line) lines more torn read h in
    record { count = on.count; value = on.value; alone = λ torn. on.alone torn; before = λ more torn. on.before more torn }

-- behind the end nothing is read
ended_next : (value : ReadReport) (line : List ℕ) (b : Bool) → is_some value.end ≡ b → b ≡ true → next_of value line ≡ None
ended_next value line true e h = rw e refl
ended_next value line false e h = absurd (cc)

no_more : (torn : List ℕ) (b : Bool) → (b && not (is_empty torn)) ≡ false → b ≡ true → torn ≡ []
no_more [] b h e = refl
no_more (byte ∷ torn) true h e = absurd (cc)
no_more (byte ∷ torn) false h e = absurd (cc)

nothing_more : (number : ℕ) (value read : ReadReport) (lines : List (List ℕ)) (torn : List ℕ) → read_from number (Some value) lines torn ≡ Ok read → is_some value.end ≡ true → concat lines ++ torn ≡ []
nothing_more number value read [] torn h ended =
    let parts = finished_by (is_some value.end && not (is_empty torn)) number value read h in
    no_more torn (is_some value.end) parts.0 ended
nothing_more number value read (line ∷ lines) torn h ended =
    let none : next_of value line ≡ None = ended_next value line (is_some value.end) refl ended in
    let refused : Err (number + 1) ≡ Ok read = sym (ap (λ (state : Option ReadReport). read_from (number + 1) state lines torn) none) ∙ h in
    absurd (cc)

no_torn : (torn more : List ℕ) → torn ++ more ≡ [] → torn ≡ []
no_torn [] more h = refl
no_torn (byte ∷ torn) more h = absurd (cc)

finishes_by : (number : ℕ) (value : ReadReport) (torn : List ℕ) (b : Bool) → is_some value.end ≡ b → (b ≡ true → torn ≡ []) → finished number value torn ≡ Ok value
finishes_by number value torn false e h = rw e refl
finishes_by number value torn true e h = rw (h refl, e) refl

-- ---- the whole

cut_lines : (line : List ℕ) (lines : List (List ℕ)) (torn more : List ℕ) (whole : ReadReport) → read_lines ((line ∷ lines) ++ (cut (torn ++ more)).lines) (cut (torn ++ more)).torn ≡ Ok whole →
    (value : ReadReport) × (read_lines (line ∷ lines) torn ≡ Ok value) × BeginsAs value whole
cut_lines line lines torn more whole h =
    let rest : List (List ℕ) = (cut (torn ++ more)).lines in
    let last : List ℕ = (cut (torn ++ more)).torn in
    let on = reaches 1 (head_of line) lines rest last whole h in
    let behind : read_from on.count (Some on.value) rest last ≡ Ok whole = sym (on.before rest last) ∙ h in (
      on.value,
      on.alone torn ∙ finishes_by on.count on.value torn (is_some on.value.end) refl (λ ended. no_torn torn more (sym (cut-joined (torn ++ more)) ∙ nothing_more on.count on.value whole rest last behind ended)),
      lines_begin on.count on.value whole rest last behind,
    )

cut_by : (text more : List ℕ) (lines : List (List ℕ)) (torn : List ℕ) (whole : ReadReport) → is_torn text ≡ false → is_torn torn ≡ true → concat lines ++ torn ≡ text → read_lines (lines ++ (cut (torn ++ more)).lines) (cut (torn ++ more)).torn ≡ Ok whole →
    (value : ReadReport) × (read_lines lines torn ≡ Ok value) × BeginsAs value whole
cut_by text more [] torn whole some is same h = let no : is_torn text ≡ true = ap (λ (text : List ℕ). is_torn text) (sym same) ∙ is in absurd (cc)
cut_by text more (line ∷ lines) torn whole some is same h = cut_lines line lines torn more whole h

pub cut_read : (text more : List ℕ) (whole : ReadReport) → IsReading (text ++ more) whole → is_torn text ≡ false → (value : ReadReport) × IsReading text value × BeginsAs value whole
cut_read text more whole is some =
    let read : outcome (text ++ more) ≡ Ok whole = reading_read (text ++ more) whole is in
    let found = cut_by text more (cut text).lines (cut text).torn whole some (torn-cut text) (cut-joined text) (sym (ap (λ (c : Cut). read_lines c.lines c.torn) (cut-on text more)) ∙ read) in
    (found.0, read_reading text found.0 found.1, found.2)
