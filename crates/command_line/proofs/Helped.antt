-- What words ask of the program itself, and that they are those of no command.
use Rattle.command_line.proofs.Terms.{Global, List, None, Option, Some, [], ap, arith, cond, eqb-true, false, length, refl, sym, true, true≢false, ◌==◌, ◌∙◌, ◌∷◌, ◌≡◌, and_parts, and_right, String, bytes_eq, Help, CommandName, Text, Parts, are_positionals, parts, parts_behind, texts_of, CommandForm, asm_form, behind_name, command_of, convert_form, diagnose_form, drill_form, fits, form_named, frame_form, is_asm, is_convert, is_diagnose, is_drill, is_frame, is_of, is_replay, is_resume, is_run, is_serve, is_standby, is_unframe, name_of, replay_form, resume_form, run_form, serve_form, standby_form, unframe_form, value_by, HelpIsNoCommand, help_by, help_by_two, help_named, help_of}
use Rattle.command_line.specs.declared.help_words.Help.TheVariants as help
use Rattle.command_line.specs.declared.help_words.TheConstants as word
use Rattle.command_line.specs.declared.options.CommandName.TheVariants as named
use Rattle.command_line.proofs.Cutting.{equal_text}

-- two words and none behind them
pub pair : (first second : Text) (more : List (String Global)) → (length more == 0) ≡ true → help_of (first ∷ second ∷ texts_of more) ≡ help_by_two first second
pair first second [] none = refl
pair first second (x ∷ xs) none = absurd (let some = eqb-true (length (x ∷ xs)) 0 none in omega arith)

-- ---- no command has the name of such a word

no_help : name_of word.HELP.now ≡ None
unfolding name_of run_form asm_form replay_form convert_form standby_form resume_form serve_form diagnose_form drill_form frame_form unframe_form
no_help = refl

no_long : name_of word.LONG_HELP.now ≡ None
unfolding name_of run_form asm_form replay_form convert_form standby_form resume_form serve_form diagnose_form drill_form frame_form unframe_form
no_long = refl

no_short : name_of word.SHORT_HELP.now ≡ None
unfolding name_of run_form asm_form replay_form convert_form standby_form resume_form serve_form diagnose_form drill_form frame_form unframe_form
no_short = refl

no_version : name_of word.VERSION.now ≡ None
unfolding name_of run_form asm_form replay_form convert_form standby_form resume_form serve_form diagnose_form drill_form frame_form unframe_form
no_version = refl

-- a word that is tested first has no command, and one behind it hasn't
tested : (text known : Text) (this : Help) (other : Option Help) (asked : Help) → name_of known ≡ None → (other ≡ Some asked → name_of text ≡ None)
    → cond (bytes_eq text known) (Some this) other ≡ Some asked → name_of text ≡ None
tested text known this other asked none more is =
    elim (bytes_eq text known) as (λ b. bytes_eq text known ≡ b → cond b (Some this) other ≡ Some asked → name_of text ≡ None) [
      | true ↦ λ e found. ap name_of (equal_text text known e) ∙ none
      | false ↦ λ e found. more found
    ] refl is

nothing : (text : Text) (asked : Help) → None ≡ Some asked → name_of text ≡ None
nothing text asked is = absurd (let no_such : None ≡ Some asked = is in cc)

by_one : (text : Text) (asked : Help) → help_by text ≡ Some asked → name_of text ≡ None
by_one text asked =
    tested text word.HELP.now help.All _ asked no_help
    (tested text word.LONG_HELP.now help.All _ asked no_long
    (tested text word.SHORT_HELP.now help.All _ asked no_short (tested text word.VERSION.now help.Version None asked no_version (nothing text asked))))

-- ---- `--help` behind a command's name is none of its words

abbrev help_parts : Parts
help_parts = parts (word.LONG_HELP.now ∷ [])

unfit : (form : CommandForm) → fits form help_parts ≡ false
unfolding parts_behind
unfit form = and_right (are_positionals (length form.positionals) []) false refl

-- the words of each command have its form
fits_of : (name : CommandName) (p : Parts) → is_of name p ≡ true → fits (form_named name) p ≡ true
unfolding is_run is_asm is_replay is_convert is_standby is_resume is_serve is_diagnose is_drill is_frame is_unframe
fits_of named.Run p e = (and_parts _ _ e).0
fits_of named.Asm p e = (and_parts _ _ e).0
fits_of named.Replay p e = e
fits_of named.Convert p e = (and_parts _ _ e).0
fits_of named.Standby p e = (and_parts _ _ e).0
fits_of named.Resume p e = (and_parts _ _ e).0
fits_of named.Serve p e = (and_parts _ _ e).0
fits_of named.Diagnose p e = (and_parts _ _ e).0
fits_of named.Drill p e = (and_parts _ _ e).0
fits_of named.Frame p e = e
fits_of named.Unframe p e = e

no_words : (name : CommandName) → is_of name help_parts ≡ false
no_words name =
    elim (is_of name help_parts) as (λ b. is_of name help_parts ≡ b → b ≡ false) [
      | true ↦ λ e. absurd (true≢false (sym (fits_of name help_parts e) ∙ unfit (form_named name)))
      | false ↦ λ e. refl
    ] refl

behind : (name : Option CommandName) → behind_name name help_parts ≡ None
behind None = refl
behind (Some name) = ap (λ b. cond b (Some (value_by name help_parts)) None) (no_words name)

by_two : (first second : Text) (asked : Help) → help_by_two first second ≡ Some asked → command_of (first ∷ second ∷ []) ≡ None
by_two first second asked is =
    elim (bytes_eq first word.HELP.now) as (λ b. bytes_eq first word.HELP.now ≡ b
    → cond b (help_named second) (cond (bytes_eq second word.LONG_HELP.now) (help_named first) None) ≡ Some asked → command_of (first ∷ second ∷ []) ≡ None) [
      | true ↦ λ e found. ap (λ name. behind_name name (parts (second ∷ []))) (ap name_of (equal_text first word.HELP.now e) ∙ no_help)
      | false ↦ λ e found. elim (bytes_eq second word.LONG_HELP.now) as (λ b. bytes_eq second word.LONG_HELP.now ≡ b
          → cond b (help_named first) None ≡ Some asked → command_of (first ∷ second ∷ []) ≡ None) [
            | true ↦ λ same more. ap (λ text. behind_name (name_of first) (parts (text ∷ []))) (equal_text second word.LONG_HELP.now same) ∙ behind (name_of first)
            | false ↦ λ same more. absurd (let no_such : None ≡ Some asked = more in cc)
          ] refl found
    ] refl is

pub help_is_no_command : HelpIsNoCommand
help_is_no_command [] asked is = refl
help_is_no_command (text ∷ []) asked is = ap (λ name. behind_name name (parts [])) (by_one text asked is)
help_is_no_command (first ∷ second ∷ []) asked is = by_two first second asked is
help_is_no_command (first ∷ second ∷ third ∷ rest) asked is = absurd (let no_such : None ≡ Some asked = is in cc)
