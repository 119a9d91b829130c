-- The numbers of words that are taken are in the ranges of their rows. No row of the table is named here.
use Rattle.command_line.proofs.Terms.{Bool, List, None, Option, Some, [], ap, arith, cond, false, leb-true, length, map, nat_le, not, refl, subst, sym, true, true≢false, unwrap_or, ℕ, ◌&&◌, ◌||◌, ◌∙◌, ◌∷◌, ◌≡◌, ◌≤◌, and_parts, not-true, filter, find, list_all, option_map, option_map_or, bytes_eq, Framing, Name, Number, OneOf, Text, is_name, number_of, Parts, are_positionals, Row, Takes, conns_row, count_row, port_row, seed_row, Options, are_options, default_of, has_option, is_between, is_for, is_taken, number_at, takes_of, value_of, CommandValue, DiagnoseValue, DrillValue, ResumeValue, ServeValue, StandbyValue, diagnose, diagnose_form, diagnose_value, drill, drill_form, drill_value, fits, is_diagnose, is_drill, is_resume, is_run, is_serve, is_standby, positional, resume, resume_form, resume_value, run, run_form, run_in, run_value, serve, serve_form, serve_value, standby, standby_form, standby_value, EachRow, AreInRange, EachInRange, HasRanges, IsInRange, NumbersOf, RangesOf, takes_numbers}
use Rattle.command_line.proofs.Asking.{IsAsked, asked}
use Rattle.command_line.proofs.Pieces.{is_row}
use Rattle.command_line.proofs.Rows.{apart, each_both}
use Rattle.command_line.proofs.Cutting.{each_of_none, equal_text, row_found, swapped_text}

-- each row of this row's name takes what this row takes
abbrev pub Alone : Row → List Row → Type 0
Alone row rows = EachRow (λ r. bytes_eq r.name row.name ≡ true → r.takes ≡ row.takes) rows

-- a value that is given for a row is taken by it
given_taken : (row : Row) (rows : List Row) (os : Options) → Alone row rows → are_options rows os ≡ true → takes_of row.takes (default_of row) ≡ true
    → takes_of row.takes (value_of row os) ≡ true
given_taken row rows [] alone taken default = default
given_taken row rows (o ∷ os) alone taken default =
    let named = and_parts (is_name o.1) _ taken in
    let mine = and_parts (is_taken rows o.0 o.1) _ named.1 in
    let rest = and_parts (not (has_option o.0 os)) _ mine.1 in
    let found = row_found (λ r. bytes_eq r.name row.name ≡ true → r.takes ≡ row.takes) (λ r. is_for r o.0 && takes_of r.takes o.1) rows alone mine.0 in
    let fit = and_parts (is_for found.0 o.0) _ found.1 in
    let word : o.0 ≡ 45 ∷ 45 ∷ found.0.name = equal_text o.0 _ fit.0 in
    elim (is_for row o.0) as (λ b. is_for row o.0 ≡ b
    → takes_of row.takes (unwrap_or (option_map (λ (x : Text × Text). x.1) (cond b (Some o) (find (λ (x : Text × Text). is_for row x.0) os))) (default_of row)) ≡ true) [
      | true ↦ λ e. ap (λ t. takes_of t o.1) (sym (found.2 (sym (ap (is_for row) word) ∙ e))) ∙ fit.1
      | false ↦ λ e. given_taken row rows os alone rest.1 default
    ] refl

-- what a row takes is a number of its range
number_taken : (least most : ℕ) (o : Option ℕ) → option_map_or (is_between least most) o false ≡ true → (least ≤ unwrap_or o 0) × (unwrap_or o 0 ≤ most)
number_taken least most None taken = absurd (true≢false (sym taken))
number_taken least most (Some n) taken =
    let ends = and_parts (nat_le least n) (nat_le n most) taken in
    (leb-true least n ends.0, leb-true n most ends.1)

-- the number that a row takes is of its range
number_ranges : (takes : Takes) (value : Text) → takes_numbers takes ≡ true → takes_of takes value ≡ true → IsInRange takes (unwrap_or (number_of value) 0)
number_ranges Name value numeric taken = absurd (true≢false (sym numeric))
number_ranges (OneOf texts) value numeric taken = absurd (true≢false (sym numeric))
number_ranges (Number least most) value numeric taken = number_taken least most (number_of value) taken

-- ---- what holds of every table by tests of it, which compute

-- a row that takes numbers takes its default
abbrev fits_default : Row → Bool
fits_default row = not (takes_numbers row.takes) || takes_of row.takes (default_of row)

each_plain : (P Q : Row → Type 0) → ((row : Row) → P row → Q row) → (rows : List Row) → EachRow P rows → EachRow Q rows
each_plain P Q f rows p = each_both P P Q (λ row p q. f row p) rows p p

each_alone : (rows : List Row) → apart rows ≡ true → EachRow (λ row. Alone row rows) rows
each_alone [] e = tt
each_alone (row ∷ rows) e =
    let tests = and_parts (not (is_row row.name rows)) _ e in
    let others = each_of_none row.name rows (not-true _ tests.0) in (
      (λ same. refl, each_plain (λ r. bytes_eq r.name row.name ≡ false) (λ r. bytes_eq r.name row.name ≡ true → r.takes ≡ row.takes) (λ r miss same. absurd (true≢false (sym same ∙ miss))) rows others),
      each_both (λ r. bytes_eq r.name row.name ≡ false) (λ r. Alone r rows) (λ r. Alone r (row ∷ rows))
          (λ r miss alone. (λ same. absurd (true≢false (sym same ∙ swapped_text row.name r.name ∙ miss)), alone)) rows others (each_alone rows tests.1),
    )

known : (a b : Bool) → a ≡ true → (not a || b) ≡ true → b ≡ true
known true b e more = more
known false b e more = absurd (true≢false (sym e))

-- a row with its number
abbrev numbered : Options → Row → Row × ℕ
numbered os row = (row, number_at row os)

abbrev is_numeric : Row → Bool
is_numeric row = takes_numbers row.takes

-- each row that takes numbers has one of its range
each_in_range : (all : List Row) (os : Options) → are_options all os ≡ true → (rows : List Row) → EachRow (λ row. Alone row all) rows → list_all fits_default rows ≡ true
    → EachInRange (map (numbered os) (filter is_numeric rows))
each_in_range all os taken [] alone fit = tt
each_in_range all os taken (row ∷ rows) alone fit =
    let fits = and_parts (fits_default row) _ fit in
    let rest = each_in_range all os taken rows alone.1 fits.1 in
    elim (is_numeric row) as (λ b. is_numeric row ≡ b → EachInRange (map (numbered os) (cond b (row ∷ filter is_numeric rows) (filter is_numeric rows)))) [
      | true ↦ λ e. (number_ranges row.takes (value_of row os) e (given_taken row all os alone.0 taken (known _ _ e fits.0)), rest)
      | false ↦ λ e. rest
    ] refl

-- ---- the numbers of a command

pub in_ranges : (p : Parts) → is_run p ≡ true → AreInRange (run_value p)
unfolding is_run run_value run_form
in_ranges p e =
    let names = and_parts (are_positionals (length run_form.positionals) p.positionals) _ (and_parts (fits run_form p) _ e).0 in
    let taken = (and_parts (are_options run_form.options p.options) _ names.1).0 in
    each_in_range run_form.options p.options taken run_form.options (each_alone run_form.options refl) refl

standby_in_ranges : (p : Parts) → is_standby p ≡ true → HasRanges (standby (standby_value p))
unfolding is_standby standby_value standby_form
standby_in_ranges p e =
    let names = and_parts (are_positionals (length standby_form.positionals) p.positionals) _ (and_parts (fits standby_form p) _ e).0 in
    let taken = (and_parts (are_options standby_form.options p.options) _ names.1).0 in
    each_in_range standby_form.options p.options taken standby_form.options (each_alone standby_form.options refl) refl

pub resume_in_ranges : (p : Parts) → is_resume p ≡ true → HasRanges (resume (resume_value p))
unfolding is_resume resume_value resume_form
resume_in_ranges p e =
    let names = and_parts (are_positionals (length resume_form.positionals) p.positionals) _ (and_parts (fits resume_form p) _ e).0 in
    let taken = (and_parts (are_options resume_form.options p.options) _ names.1).0 in
    each_in_range resume_form.options p.options taken resume_form.options (each_alone resume_form.options refl) refl

pub serve_in_ranges : (p : Parts) → is_serve p ≡ true → HasRanges (serve (serve_value p))
unfolding is_serve serve_value serve_form port_row conns_row
serve_in_ranges p e =
    let parts = and_parts (fits serve_form p) _ e in
    let names = and_parts (are_positionals (length serve_form.positionals) p.positionals) _ parts.0 in
    let taken = (and_parts (are_options serve_form.options p.options) _ names.1).0 in
    let port = and_parts (takes_of port_row.takes (positional 1 p)) _ parts.1 in
    let conns = and_parts (takes_of conns_row.takes (positional 2 p)) _ port.1 in (
      (
        number_ranges port_row.takes (positional 1 p) refl port.0,
        (
          number_ranges conns_row.takes (positional 2 p) refl conns.0,
          each_in_range serve_form.options p.options taken serve_form.options (each_alone serve_form.options refl) refl,
        ),
      ),
      refl,
    )

pub diagnose_in_ranges : (p : Parts) → is_diagnose p ≡ true → HasRanges (diagnose (diagnose_value p))
unfolding is_diagnose diagnose_value diagnose_form
diagnose_in_ranges p e =
    let names = and_parts (are_positionals (length diagnose_form.positionals) p.positionals) _ (and_parts (fits diagnose_form p) _ e).0 in
    let taken = (and_parts (are_options diagnose_form.options p.options) _ names.1).0 in
    each_in_range diagnose_form.options p.options taken diagnose_form.options (each_alone diagnose_form.options refl) refl

pub drill_in_ranges : (p : Parts) → is_drill p ≡ true → HasRanges (drill (drill_value p))
unfolding is_drill drill_value seed_row count_row
drill_in_ranges p e =
    let taken = and_parts (takes_of seed_row.takes (positional 0 p)) _ (and_parts (fits drill_form p) _ e).1 in
    (number_ranges seed_row.takes (positional 0 p) refl taken.0, (number_ranges count_row.takes (positional 1 p) refl taken.1, tt))

of_asked : (command : CommandValue) → IsAsked command → HasRanges command
of_asked (run value) found = subst (λ v. AreInRange v) found.value_is (in_ranges found.parts_are found.is)
of_asked (standby value) found = subst (λ (v : StandbyValue). HasRanges (standby v)) found.value_is (standby_in_ranges found.parts_are found.is)
of_asked (resume value) found = subst (λ (v : ResumeValue). HasRanges (resume v)) found.value_is (resume_in_ranges found.parts_are found.is)
of_asked (serve value) found = subst (λ (v : ServeValue). HasRanges (serve v)) found.value_is (serve_in_ranges found.parts_are found.is)
of_asked (diagnose value) found = subst (λ (v : DiagnoseValue). HasRanges (diagnose v)) found.value_is (diagnose_in_ranges found.parts_are found.is)
of_asked (drill value) found = subst (λ (v : DrillValue). HasRanges (drill v)) found.value_is (drill_in_ranges found.parts_are found.is)
of_asked _ found = tt

pub ranges_of : RangesOf
ranges_of words command is = of_asked command (asked words command is)

-- the session of `serve` is in the ranges of `run`
pub session_in_range : (value : ServeValue) → HasRanges (serve value) → AreInRange value.session
session_in_range value ((port, (conns, (window, (ring, (every, (frames, (budget, (keep, others)))))))), none) =
    let least : 0 ≤ value.session.hold = omega arith in
    let most : value.session.hold ≤ 1000 = omega arith in
    (window, ((least, most), (ring, (every, (frames, (budget, (keep, tt)))))))

-- the session of `resume` is in the ranges of `run` in a window of its range
pub resumed_in_range : (value : ResumeValue) (window : ℕ) (framing : Framing) → HasRanges (resume value) → 1 ≤ window → window ≤ 64 → AreInRange (run_in value window framing)
resumed_in_range value window framing ranges least most = ((least, most), ranges)

pub numbers_of : NumbersOf
unfolding run_form serve_form diagnose_form drill_form standby_form resume_form
numbers_of = (λ value. refl, λ value. refl, λ value. refl, λ value. refl, λ value. refl, λ value. refl)
