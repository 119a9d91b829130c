-- clap's command of each of our commands, computed.
use Rattle.clap.specs.Simple.{matches_of}
use Rattle.clap.specs.Takes.{takes}
use Rattle.clap.specs.Walk.{Text}
use Rattle.command_line.proofs.Terms.{List, None, Some, [], arith, codes, refl, true, ◌∷◌, ◌≡◌, ArgMatches, found_of, built, rows_of, parts, asm_form, convert_form, diagnose_form, drill_form, fits, replay_form, resume_form, run_form, serve_form, standby_form, HasRead, app_of_form}
use Rattle.command_line.proofs.Pieces.{plain_rule}
use Rattle.command_line.proofs.Rows.{each_optional}
use Rattle.command_line.proofs.Clapping.{IsReadable, clap_takes, has_read}

-- ---- `asm`

pub asm_readable : IsReadable asm_form (app_of_form asm_form) (built (app_of_form asm_form))
unfolding asm_form
asm_readable = record {
  built_is = refl;
  simple = refl;
  no_subs = refl;
  all_words = refl;
  places = (record { by_index = refl; by_id = refl }, refl, refl, (record { by_index = refl; by_id = refl }, refl, refl, tt));
  options = tt;
  names = ((refl, refl, omega arith), (((refl, refl), refl, omega arith), tt));
  defaults = refl;
  valid = λ rows. refl;
}

pub asm_taken : (words : List Text) → fits asm_form (parts words) ≡ true → takes (app_of_form asm_form) words ≡ true
asm_taken words taken = clap_takes asm_form _ _ words asm_readable taken

pub asm_read : (words : List Text) (m : ArgMatches) → fits asm_form (parts words) ≡ true → rows_of (found_of m) ≡ matches_of (app_of_form asm_form) words
    → HasRead asm_form (parts words) m
asm_read words m taken rows = has_read asm_form _ _ words asm_readable taken m rows

-- ---- `replay`

pub replay_readable : IsReadable replay_form (app_of_form replay_form) (built (app_of_form replay_form))
unfolding replay_form
replay_readable = record {
  built_is = refl;
  simple = refl;
  no_subs = refl;
  all_words = refl;
  places = (record { by_index = refl; by_id = refl }, refl, refl, (record { by_index = refl; by_id = refl }, refl, refl, tt));
  options = tt;
  names = ((refl, refl, omega arith), (((refl, refl), refl, omega arith), tt));
  defaults = refl;
  valid = λ rows. refl;
}

pub replay_taken : (words : List Text) → fits replay_form (parts words) ≡ true → takes (app_of_form replay_form) words ≡ true
replay_taken words taken = clap_takes replay_form _ _ words replay_readable taken

pub replay_read : (words : List Text) (m : ArgMatches) → fits replay_form (parts words) ≡ true → rows_of (found_of m) ≡ matches_of (app_of_form replay_form) words
    → HasRead replay_form (parts words) m
replay_read words m taken rows = has_read replay_form _ _ words replay_readable taken m rows

-- ---- `convert`

pub convert_readable : IsReadable convert_form (app_of_form convert_form) (built (app_of_form convert_form))
unfolding convert_form
convert_readable = record {
  built_is = refl;
  simple = refl;
  no_subs = refl;
  all_words = refl;
  places = (record { by_index = refl; by_id = refl }, refl, refl, (record { by_index = refl; by_id = refl }, refl, refl, (record { by_index = refl; by_id = refl }, refl, refl, tt)));
  options = tt;
  names = ((refl, refl, omega arith), (((refl, refl), refl, omega arith), (((refl, (refl, refl)), refl, omega arith), tt)));
  defaults = refl;
  valid = λ rows. refl;
}

pub convert_taken : (words : List Text) → fits convert_form (parts words) ≡ true → takes (app_of_form convert_form) words ≡ true
convert_taken words taken = clap_takes convert_form _ _ words convert_readable taken

pub convert_read : (words : List Text) (m : ArgMatches) → fits convert_form (parts words) ≡ true → rows_of (found_of m) ≡ matches_of (app_of_form convert_form) words
    → HasRead convert_form (parts words) m
convert_read words m taken rows = has_read convert_form _ _ words convert_readable taken m rows

-- ---- `standby`

pub standby_readable : IsReadable standby_form (app_of_form standby_form) (built (app_of_form standby_form))
unfolding standby_form
standby_readable = record {
  built_is = refl;
  simple = refl;
  no_subs = refl;
  all_words = refl;
  places = (record { by_index = refl; by_id = refl }, refl, refl, (record { by_index = refl; by_id = refl }, refl, refl, (record { by_index = refl; by_id = refl }, refl, refl, tt)));
  options = each_optional (plain_rule (codes "PROGRAM") None (Some 1) [] ∷ plain_rule (codes "RECORD") None (Some 2) [] ∷ plain_rule (codes "COUNTS") None (Some 3) [] ∷ [])
      standby_form.positionals standby_form.options refl refl;
  names = ((refl, refl, omega arith), (((refl, refl), refl, omega arith), (((refl, (refl, refl)), refl, omega arith), tt)));
  defaults = refl;
  valid = λ rows. refl;
}

pub standby_taken : (words : List Text) → fits standby_form (parts words) ≡ true → takes (app_of_form standby_form) words ≡ true
standby_taken words taken = clap_takes standby_form _ _ words standby_readable taken

pub standby_read : (words : List Text) (m : ArgMatches) → fits standby_form (parts words) ≡ true → rows_of (found_of m) ≡ matches_of (app_of_form standby_form) words
    → HasRead standby_form (parts words) m
standby_read words m taken rows = has_read standby_form _ _ words standby_readable taken m rows

-- ---- `resume`

pub resume_readable : IsReadable resume_form (app_of_form resume_form) (built (app_of_form resume_form))
unfolding resume_form
resume_readable = record {
  built_is = refl;
  simple = refl;
  no_subs = refl;
  all_words = refl;
  places = (record { by_index = refl; by_id = refl }, refl, refl, (record { by_index = refl; by_id = refl }, refl, refl, (record { by_index = refl; by_id = refl }, refl, refl, (record { by_index = refl; by_id = refl }, refl, refl, tt))));
  options = each_optional (plain_rule (codes "PROGRAM") None (Some 1) [] ∷ plain_rule (codes "RECORD") None (Some 2) [] ∷ plain_rule (codes "REPORT") None (Some 3) [] ∷ plain_rule (codes "COUNTS") None (Some 4) [] ∷ [])
      resume_form.positionals resume_form.options refl refl;
  names = ((refl, refl, omega arith), (((refl, refl), refl, omega arith), (((refl, (refl, refl)), refl, omega arith), (((refl, (refl, (refl, refl))), refl, omega arith), tt))));
  defaults = refl;
  valid = λ rows. refl;
}

pub resume_taken : (words : List Text) → fits resume_form (parts words) ≡ true → takes (app_of_form resume_form) words ≡ true
resume_taken words taken = clap_takes resume_form _ _ words resume_readable taken

pub resume_read : (words : List Text) (m : ArgMatches) → fits resume_form (parts words) ≡ true → rows_of (found_of m) ≡ matches_of (app_of_form resume_form) words
    → HasRead resume_form (parts words) m
resume_read words m taken rows = has_read resume_form _ _ words resume_readable taken m rows

-- ---- `run`

pub run_readable : IsReadable run_form (app_of_form run_form) (built (app_of_form run_form))
unfolding run_form
run_readable = record {
  built_is = refl;
  simple = refl;
  no_subs = refl;
  all_words = refl;
  places = (record { by_index = refl; by_id = refl }, refl, refl, tt);
  options = each_optional (plain_rule (codes "PROGRAM") None (Some 1) [] ∷ [])
      run_form.positionals run_form.options refl refl;
  names = ((refl, refl, omega arith), tt);
  defaults = refl;
  valid = λ rows. refl;
}

pub run_taken : (words : List Text) → fits run_form (parts words) ≡ true → takes (app_of_form run_form) words ≡ true
run_taken words taken = clap_takes run_form _ _ words run_readable taken

pub run_read : (words : List Text) (m : ArgMatches) → fits run_form (parts words) ≡ true → rows_of (found_of m) ≡ matches_of (app_of_form run_form) words
    → HasRead run_form (parts words) m
run_read words m taken rows = has_read run_form _ _ words run_readable taken m rows

-- ---- `serve`

pub serve_readable : IsReadable serve_form (app_of_form serve_form) (built (app_of_form serve_form))
unfolding serve_form
serve_readable = record {
  built_is = refl;
  simple = refl;
  no_subs = refl;
  all_words = refl;
  places = (record { by_index = refl; by_id = refl }, refl, refl, (record { by_index = refl; by_id = refl }, refl, refl, (record { by_index = refl; by_id = refl }, refl, refl, tt)));
  options = each_optional (plain_rule (codes "PROGRAM") None (Some 1) [] ∷ plain_rule (codes "PORT") None (Some 2) [] ∷ plain_rule (codes "CONNS") None (Some 3) [] ∷ [])
      serve_form.positionals serve_form.options refl refl;
  names = ((refl, refl, omega arith), (((refl, refl), refl, omega arith), (((refl, (refl, refl)), refl, omega arith), tt)));
  defaults = refl;
  valid = λ rows. refl;
}

pub serve_taken : (words : List Text) → fits serve_form (parts words) ≡ true → takes (app_of_form serve_form) words ≡ true
serve_taken words taken = clap_takes serve_form _ _ words serve_readable taken

pub serve_read : (words : List Text) (m : ArgMatches) → fits serve_form (parts words) ≡ true → rows_of (found_of m) ≡ matches_of (app_of_form serve_form) words
    → HasRead serve_form (parts words) m
serve_read words m taken rows = has_read serve_form _ _ words serve_readable taken m rows

-- ---- `diagnose`

pub diagnose_readable : IsReadable diagnose_form (app_of_form diagnose_form) (built (app_of_form diagnose_form))
unfolding diagnose_form
diagnose_readable = record {
  built_is = refl;
  simple = refl;
  no_subs = refl;
  all_words = refl;
  places = (record { by_index = refl; by_id = refl }, refl, refl, tt);
  options = each_optional (plain_rule (codes "PROGRAM") None (Some 1) [] ∷ [])
      diagnose_form.positionals diagnose_form.options refl refl;
  names = ((refl, refl, omega arith), tt);
  defaults = refl;
  valid = λ rows. refl;
}

pub diagnose_taken : (words : List Text) → fits diagnose_form (parts words) ≡ true → takes (app_of_form diagnose_form) words ≡ true
diagnose_taken words taken = clap_takes diagnose_form _ _ words diagnose_readable taken

pub diagnose_read : (words : List Text) (m : ArgMatches) → fits diagnose_form (parts words) ≡ true → rows_of (found_of m) ≡ matches_of (app_of_form diagnose_form) words
    → HasRead diagnose_form (parts words) m
diagnose_read words m taken rows = has_read diagnose_form _ _ words diagnose_readable taken m rows

-- ---- `drill`

pub drill_readable : IsReadable drill_form (app_of_form drill_form) (built (app_of_form drill_form))
unfolding drill_form
drill_readable = record {
  built_is = refl;
  simple = refl;
  no_subs = refl;
  all_words = refl;
  places = (record { by_index = refl; by_id = refl }, refl, refl, (record { by_index = refl; by_id = refl }, refl, refl, tt));
  options = tt;
  names = ((refl, refl, omega arith), (((refl, refl), refl, omega arith), tt));
  defaults = refl;
  valid = λ rows. refl;
}

pub drill_taken : (words : List Text) → fits drill_form (parts words) ≡ true → takes (app_of_form drill_form) words ≡ true
drill_taken words taken = clap_takes drill_form _ _ words drill_readable taken

pub drill_read : (words : List Text) (m : ArgMatches) → fits drill_form (parts words) ≡ true → rows_of (found_of m) ≡ matches_of (app_of_form drill_form) words
    → HasRead drill_form (parts words) m
drill_read words m taken rows = has_read drill_form _ _ words drill_readable taken m rows
