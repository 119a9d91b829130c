-- Which command the first word asks for.
use Rattle.command_line.proofs.Terms.{Global, Bool, List, None, Option, Some, [], ap, arith, cond, drop, false, length, map, refl, subst, sym, take, true, ◌-◌, ◌∙◌, ◌∷◌, ◌≡◌, ◌≤◌, take_rest, same_Some, find, slice_index_or, option_map, String, string_bytes, bytes_eq, CommandName, Text, Parts, parts, texts_of, CommandForm, CommandValue, DiagnoseValue, DrillValue, ResumeValue, RunValue, ServeValue, StandbyValue, asm_form, behind_name, command_of, convert_form, diagnose, diagnose_form, diagnose_value, drill, drill_form, drill_value, form_named, frame_form, is_diagnose, is_drill, is_of, is_resume, is_run, is_serve, is_standby, name_of, replay_form, resume, resume_form, resume_value, run, run_form, run_value, serve, serve_form, serve_value, standby, standby_form, standby_value, unframe_form, value_by}
use Rattle.command_line.specs.declared.options.CommandName.TheVariants as named

pub first_word : (ws : List (String Global)) (w : String Global) (t : Text) → 1 ≤ length ws → w ≡ slice_index_or ws 0 w → t ≡ string_bytes w
    → texts_of ws ≡ t ∷ texts_of (take (length ws - 1) (drop 1 ws))
first_word [] w t some at text = absurd (omega arith)
first_word (x ∷ xs) w t some at text =
    ap (λ s. s ∷ texts_of xs) (ap (λ (s : String Global). string_bytes s) (sym at) ∙ sym text) ∙ ap (λ ys. t ∷ texts_of ys) (sym (take_rest (x ∷ xs) 1))

-- the form of each command has its own name's command
own : (name : CommandName) → (form_named name).which ≡ name
unfolding run_form asm_form replay_form convert_form standby_form resume_form serve_form diagnose_form drill_form frame_form unframe_form
own named.Run = refl
own named.Asm = refl
own named.Replay = refl
own named.Convert = refl
own named.Standby = refl
own named.Resume = refl
own named.Serve = refl
own named.Diagnose = refl
own named.Drill = refl
own named.Frame = refl
own named.Unframe = refl

step : (test : Bool) (name : CommandName) (found : Option CommandForm) (later : Option CommandName) → option_map (λ (form : CommandForm). form.which) found ≡ later
    → option_map (λ (form : CommandForm). form.which) (cond test (Some (form_named name)) found) ≡ cond test (Some name) later
step true name found later more = ap Some (own name)
step false name found later more = more

-- the look-up among forms, each of which has its own name's command, is the look-up among the names
pub among_forms : (word : Text) (names : List CommandName)
    → option_map (λ (form : CommandForm). form.which) (find (λ (form : CommandForm). bytes_eq form.name word) (map form_named names))
    ≡ find (λ name. bytes_eq (form_named name).name word) names
among_forms word [] = refl
among_forms word (name ∷ names) = step (bytes_eq (form_named name).name word) name (find (λ (form : CommandForm). bytes_eq form.name word) (map form_named names)) _ (among_forms word names)

pub taken_of : (ws : List Text) (t : Text) (rest : List Text) (name : CommandName) → ws ≡ t ∷ rest → name_of t ≡ Some name → is_of name (parts rest) ≡ true
    → command_of ws ≡ Some (value_by name (parts rest))
taken_of ws t rest name words named taken =
    ap command_of words ∙ ap (λ n. behind_name n (parts rest)) named ∙ ap (λ b. cond b (Some (value_by name (parts rest))) None) taken

-- ---- words of commands with numbers

-- words that are a `run`: their parts are those of one, and the value is theirs
pub record IsRun (value : RunValue) : Type 0 where
  pub parts_are : Parts
  pub is : is_run parts_are ≡ true
  pub value_is : run_value parts_are ≡ value

-- the same of `standby`
pub record IsStandby (value : StandbyValue) : Type 0 where
  pub parts_are : Parts
  pub is : is_standby parts_are ≡ true
  pub value_is : standby_value parts_are ≡ value

-- of `resume`
pub record IsResume (value : ResumeValue) : Type 0 where
  pub parts_are : Parts
  pub is : is_resume parts_are ≡ true
  pub value_is : resume_value parts_are ≡ value

-- of `serve`
pub record IsServe (value : ServeValue) : Type 0 where
  pub parts_are : Parts
  pub is : is_serve parts_are ≡ true
  pub value_is : serve_value parts_are ≡ value

-- and of `diagnose`
pub record IsDiagnose (value : DiagnoseValue) : Type 0 where
  pub parts_are : Parts
  pub is : is_diagnose parts_are ≡ true
  pub value_is : diagnose_value parts_are ≡ value

-- and of `drill`
pub record IsDrill (value : DrillValue) : Type 0 where
  pub parts_are : Parts
  pub is : is_drill parts_are ≡ true
  pub value_is : drill_value parts_are ≡ value

abbrev pub IsAsked : CommandValue → Type 0
IsAsked (run value) = IsRun value
IsAsked (standby value) = IsStandby value
IsAsked (resume value) = IsResume value
IsAsked (serve value) = IsServe value
IsAsked (diagnose value) = IsDiagnose value
IsAsked (drill value) = IsDrill value
IsAsked _ = Unit {0}

-- of each command, what its words are
of_name : (name : CommandName) (p : Parts) → is_of name p ≡ true → IsAsked (value_by name p)
of_name named.Run p e = record { parts_are = p; is = e; value_is = refl }
of_name named.Asm p e = tt
of_name named.Replay p e = tt
of_name named.Convert p e = tt
of_name named.Standby p e = record { parts_are = p; is = e; value_is = refl }
of_name named.Resume p e = record { parts_are = p; is = e; value_is = refl }
of_name named.Serve p e = record { parts_are = p; is = e; value_is = refl }
of_name named.Diagnose p e = record { parts_are = p; is = e; value_is = refl }
of_name named.Drill p e = record { parts_are = p; is = e; value_is = refl }
of_name named.Frame p e = tt
of_name named.Unframe p e = tt

-- where a test holds, this is the value
tested : (test : Bool) (made value : CommandValue) → (test ≡ true → IsAsked made) → cond test (Some made) None ≡ Some value → IsAsked value
tested true made value holds is = subst IsAsked (same_Some made value is) (holds refl)
tested false made value holds is = absurd (let no_such : None ≡ Some value = is in cc)

by_name : (name : Option CommandName) (p : Parts) (value : CommandValue) → behind_name name p ≡ Some value → IsAsked value
by_name None p value is = absurd (let no_such : None ≡ Some value = is in cc)
by_name (Some name) p value is = tested (is_of name p) (value_by name p) value (of_name name p) is

pub asked : (words : List Text) (value : CommandValue) → command_of words ≡ Some value → IsAsked value
asked [] value is = absurd (let no_such : None ≡ Some value = is in cc)
asked (word ∷ rest) value is = by_name (name_of word) (parts rest) value is

pub asked_run : (words : List Text) (value : RunValue) → command_of words ≡ Some (run value) → IsRun value
asked_run words value is = asked words (run value) is

pub asked_serve : (words : List Text) (value : ServeValue) → command_of words ≡ Some (serve value) → IsServe value
asked_serve words value is = asked words (serve value) is

pub asked_diagnose : (words : List Text) (value : DiagnoseValue) → command_of words ≡ Some (diagnose value) → IsDiagnose value
asked_diagnose words value is = asked words (diagnose value) is
