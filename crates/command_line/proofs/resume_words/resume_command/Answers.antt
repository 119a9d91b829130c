use Rattle.command_line.proofs.Terms.{and_parts, is_resume}
use Rattle.command_line.proofs.Ranges.{resume_in_ranges}
use Rattle.command_line.proofs.resume_words.resume_command.Goals as goal

pub read_resume-requires : goal.read_resume-requires
unfolding is_resume
read_resume-requires c = (and_parts _ _ c.requires).0

pub returns-in-Ok : goal.returns-in-Ok
returns-in-Ok c = c.resume_from.ensures _ c.in-Ok.ensures.read (resume_in_ranges _ c.requires)
