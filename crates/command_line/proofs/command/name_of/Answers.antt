use Rattle.command_line.proofs.Terms.{◌∙◌, asm_form, convert_form, diagnose_form, drill_form, every_name, frame_form, name_of, replay_form, resume_form, run_form, serve_form, standby_form, unframe_form}
use Rattle.command_line.proofs.Asking.{among_forms}
use Rattle.command_line.proofs.command.name_of.Goals as goal

pub returns : goal.returns
unfolding name_of run_form asm_form replay_form convert_form standby_form resume_form serve_form diagnose_form drill_form frame_form unframe_form
returns c = c.name_among.ensures ∙ among_forms c.args.word.now every_name
