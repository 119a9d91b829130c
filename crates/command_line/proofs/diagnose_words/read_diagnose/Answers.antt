use Rattle.command_line.proofs.Terms.{ap, ◌∙◌, ◌≡◌, IfErr-weaker, IfOk-weaker, App, app_of, is_simple, matches_of, takes, texts_of, diagnose_form, app_of_form}
use Rattle.command_line.proofs.Readable.{diagnose_read, diagnose_readable, diagnose_taken}
use Rattle.command_line.proofs.diagnose_words.read_diagnose.Goals as goal

pub returns-clause-read : goal.returns-clause-read
unfolding diagnose_form
returns-clause-read c =
    let words = texts_of c.args.words.now in
    let app_is : app_of c.in_ok-command.command ≡ app_of_form diagnose_form = c.in_ok-command.ensures in
    IfOk-weaker c.try_get_matches_from.result _ _
    (λ m h. diagnose_read words m c.requires ((h (ap is_simple app_is ∙ diagnose_readable.simple)).0 ∙ ap (λ (a : App). matches_of a words) app_is))
    c.try_get_matches_from.ensures.matches

pub returns-clause-faultless : goal.returns-clause-faultless
unfolding diagnose_form
returns-clause-faultless c =
    let words = texts_of c.args.words.now in
    let app_is : app_of c.in_ok-command.command ≡ app_of_form diagnose_form = c.in_ok-command.ensures in
    IfErr-weaker c.try_get_matches_from.result _ _ (λ e h. h (ap (λ (a : App). takes a words) app_is ∙ diagnose_taken words c.requires))
    c.try_get_matches_from.ensures.passes
