use Rattle.rx_serve.proofs.Lemmas.{options_in_range, window_few}
use Rattle.rx_serve.proofs.Terms.{ap, inl, inr, refl, subst, sym, ◌∙◌, front_all, Options, IsBegun, run_shown, options_of, before_taken}
use Rattle.rx_serve.proofs.resuming.begin_behind.Goals as goal

pub options_of-options-requires : goal.options_of-options-requires
options_of-options-requires g c = window_few (run_shown c.args.run.now) c.requires.in_range

pub begin-requires-clause-in_range : goal.begin-requires-clause-in_range
begin-requires-clause-in_range g c = options_in_range (run_shown c.args.run.now) c.requires.in_range c.options_of-options.result c.options_of-options.ensures

pub begin-requires-clause-window : goal.begin-requires-clause-window
begin-requires-clause-window g c = ap (λ (o : Options). o.window) c.options_of-options.ensures ∙ sym c.requires.window

pub returns-in-Err-clause-begins : goal.returns-in-Err-clause-begins
returns-in-Err-clause-begins g c = inl (c.in-Err.fault, (c.note_answer.ensures, c.in-Err.ensures.starts))

pub returns-in-Ok-clause-begins : goal.returns-in-Ok-clause-begins
returns-in-Ok-clause-begins g c = (c.in_default.ensures.starts, subst (λ (o : Options). IsBegun c.args.image.now o c.args.rule c.in-Ok.session) c.options_of-options.ensures c.in-Ok.ensures)

pub returns-in-Err-begin-clause-begins : goal.returns-in-Err-begin-clause-begins
returns-in-Err-begin-clause-begins g c = inr (refl, c.in_default.ensures.starts)

pub returns-in-Err-begin-clause-calls : goal.returns-in-Err-begin-clause-calls
returns-in-Err-begin-clause-calls g c = front_all _ _ (before_taken (run_shown c.args.run.now)) c.in_default.ensures.calls
