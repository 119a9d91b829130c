use Rattle.command_line.proofs.Terms.{ap, ◌∙◌, ◌≡◌, IfErr-weaker, IfOk-weaker, App, app_of, is_simple, matches_of, takes, texts_of, resume_form, app_of_form}
use Rattle.command_line.proofs.Readable.{resume_read, resume_readable, resume_taken}
use Rattle.command_line.proofs.resume_words.read_resume.Goals as goal

pub returns-clause-read : goal.returns-clause-read
unfolding resume_form
returns-clause-read c =
    let words = texts_of c.args.words.now in
    let app_is : app_of c.in_ok-command.command ≡ app_of_form resume_form = c.in_ok-command.ensures in
    IfOk-weaker c.try_get_matches_from.result _ _
    (λ m h. resume_read words m c.requires ((h (ap is_simple app_is ∙ resume_readable.simple)).0 ∙ ap (λ (a : App). matches_of a words) app_is))
    c.try_get_matches_from.ensures.matches

pub returns-clause-faultless : goal.returns-clause-faultless
unfolding resume_form
returns-clause-faultless c =
    let words = texts_of c.args.words.now in
    let app_is : app_of c.in_ok-command.command ≡ app_of_form resume_form = c.in_ok-command.ensures in
    IfErr-weaker c.try_get_matches_from.result _ _ (λ e h. h (ap (λ (a : App). takes a words) app_is ∙ resume_taken words c.requires))
    c.try_get_matches_from.ensures.passes
