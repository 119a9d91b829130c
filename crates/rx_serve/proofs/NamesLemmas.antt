-- The record and the report of words that are taken have different names.
use Rattle.std.proofs.lemmas.Slice.Eq.{bytes_eq-Decides}
use Rattle.std.specs.Str.{bytes_eq}
use Rattle.std.proofs.Common.{◌≢◌}
use Rattle.command_line.specs.Texts.{Text}
use Rattle.command_line.specs.Options.{takes_of, value_of}
use Rattle.command_line.proofs.Asking.{asked, asked_run, asked_serve, asked_diagnose}
use Rattle.rx_serve.proofs.Terms.{List, Some, false, not, refl, subst, sym, true, true≢false, ◌&&◌, ◌∙◌, ◌≡◌, and_parts, ◌≢◌, IsThird, AreTwo, DiagnoseValue, ResumeValue, RunValue, ServeValue, are_four, are_new, command_of, diagnose, diagnose_form, diagnose_value, fits, has_fourth, have_names, have_six, is_diagnose, is_fifth, is_resume, is_run, is_serve, positional, resume, resume_form, resume_value, run, run_form, run_value, serve, serve_form, serve_value, Parts, conns_row, diagnosis_row, port_row, record_row, report_row, names_of, new_names}

not_alike : (a b : Text) → not (bytes_eq a b) ≡ true → a ≢ b
not_alike a b differs same = elim (bytes_eq a b) as (λ t. bytes_eq a b ≡ t → not t ≡ true → ⊥) [
  | true ↦ λ e h. absurd (true≢false (sym h))
  | false ↦ λ e h. absurd (true≢false (sym ((bytes_eq-Decides a b).1 same) ∙ e))
] refl differs

of_names : (p : Parts) → have_names p ≡ true → AreTwo (record { record_name = value_of record_row p.options; report_name = value_of report_row p.options })
of_names p are =
    let program : Text = positional 0 p in
    let recording : Text = value_of record_row p.options in
    let report : Text = value_of report_row p.options in
    let others = (and_parts (not (bytes_eq program recording)) (not (bytes_eq program report) && not (bytes_eq recording report)) are).1 in
    not_alike recording report (and_parts (not (bytes_eq program report)) (not (bytes_eq recording report)) others).1

of_value : (p : Parts) → is_run p ≡ true → AreTwo (names_of (run_value p))
unfolding is_run run_value
of_value p is = of_names p (and_parts (fits run_form p) (have_names p) is).1

pub names_differ : (words : List Text) (value : RunValue) → command_of words ≡ Some (run value) → AreTwo (names_of value)
names_differ words value asked =
    let found = asked_run words value asked in
    subst (λ v. AreTwo (names_of v)) found.value_is (of_value found.parts_are found.is)

-- so they have behind `serve`
of_session : (p : Parts) → is_serve p ≡ true → AreTwo (names_of (serve_value p).session)
unfolding is_serve serve_value
of_session p is =
    let behind = (and_parts (fits serve_form p) (takes_of port_row.takes (positional 1 p) && (takes_of conns_row.takes (positional 2 p) && have_names p)) is).1 in
    let others = (and_parts (takes_of port_row.takes (positional 1 p)) (takes_of conns_row.takes (positional 2 p) && have_names p) behind).1 in
    of_names p (and_parts (takes_of conns_row.takes (positional 2 p)) (have_names p) others).1

pub port_names_differ : (words : List Text) (value : ServeValue) → command_of words ≡ Some (serve value) → AreTwo (names_of value.session)
port_names_differ words value asked =
    let found = asked_serve words value asked in
    subst (λ (v : ServeValue). AreTwo (names_of v.session)) found.value_is (of_session found.parts_are found.is)

-- and behind `diagnose`, where the diagnosis has a third one
record AreThree (value : DiagnoseValue) : Type 0 where
  two : AreTwo (names_of value.session)
  third : IsThird (names_of value.session) value.diagnosis

of_diagnosed : (p : Parts) → is_diagnose p ≡ true → AreThree (diagnose_value p)
unfolding is_diagnose diagnose_value
of_diagnosed p is =
    let program : Text = positional 0 p in
    let recording : Text = value_of record_row p.options in
    let report : Text = value_of report_row p.options in
    let diagnosis : Text = value_of diagnosis_row p.options in
    let behind = and_parts (have_names p) (has_fourth p) (and_parts (fits diagnose_form p) (have_names p && has_fourth p) is).1 in
    let others = and_parts (not (bytes_eq recording diagnosis)) (not (bytes_eq report diagnosis)) (and_parts (not (bytes_eq program diagnosis)) (not (bytes_eq recording diagnosis) && not (bytes_eq report diagnosis)) behind.1).1 in
    record { two = of_names p behind.0; third = record { no_record = not_alike recording diagnosis others.0; no_report = not_alike report diagnosis others.1 } }

three_names : (words : List Text) (value : DiagnoseValue) → command_of words ≡ Some (diagnose value) → AreThree value
three_names words value asked =
    let found = asked_diagnose words value asked in
    subst AreThree found.value_is (of_diagnosed found.parts_are found.is)

pub diagnose_names_differ : (words : List Text) (value : DiagnoseValue) → command_of words ≡ Some (diagnose value) → AreTwo (names_of value.session)
diagnose_names_differ words value asked = (three_names words value asked).two

pub diagnosis_differs : (words : List Text) (value : DiagnoseValue) → command_of words ≡ Some (diagnose value) → IsThird (names_of value.session) value.diagnosis
diagnosis_differs words value asked = (three_names words value asked).third

-- so have the two that `resume` writes
of_resumed : (p : Parts) → is_resume p ≡ true → AreTwo (new_names (resume_value p))
unfolding is_resume resume_value
of_resumed p is =
    let program : Text = positional 0 p in
    let recorded : Text = positional 1 p in
    let reported : Text = positional 2 p in
    let counts : Text = positional 3 p in
    let recording : Text = value_of record_row p.options in
    let report : Text = value_of report_row p.options in
    let six = (and_parts (fits resume_form p) (have_six p) is).1 in
    let fresh = (and_parts (are_four program recorded reported counts) (are_new program recorded reported counts recording report) six).1 in
    let others = (and_parts (is_fifth program recorded reported counts recording) (is_fifth program recorded reported counts report && not (bytes_eq recording report)) fresh).1 in
    not_alike recording report (and_parts (is_fifth program recorded reported counts report) (not (bytes_eq recording report)) others).1

pub new_names_differ : (words : List Text) (value : ResumeValue) → command_of words ≡ Some (resume value) → AreTwo (new_names value)
new_names_differ words value asked_is =
    let found = asked words (resume value) asked_is in
    subst (λ (v : ResumeValue). AreTwo (new_names v)) found.value_is (of_resumed found.parts_are found.is)
