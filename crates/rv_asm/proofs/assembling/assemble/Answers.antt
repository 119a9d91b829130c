use Rattle.rv_asm.proofs.Assembly.{sound_layout, refused_by_lines, refused_by_labels, small_sections, assembled}
use Rattle.rv_asm.proofs.assembling.assemble.Goals as goal

pub write_sections-requires : goal.write_sections-requires
write_sections-requires c = sound_layout c.args.text.now c.in-Ok.layout c.in-Ok.ensures.0 c.in-Ok.ensures.1

pub returns-in-Err-clause-refused : goal.returns-in-Err-clause-refused
returns-in-Err-clause-refused c = refused_by_lines c.args.text.now c.args.window c.in-Err.stop c.refusal.result c.in-Err.ensures c.refusal.ensures

pub returns-in-Err-write_sections-clause-refused : goal.returns-in-Err-write_sections-clause-refused
returns-in-Err-write_sections-clause-refused c =
    refused_by_labels c.args.text.now c.args.window c.in-Ok.layout c.in-Err-write_sections.stop c.refusal-in-Err-write_sections.result c.in-Ok.ensures.0 c.in-Ok.ensures.1 c.in-Err-write_sections.ensures c.refusal-in-Err-write_sections.ensures

pub image_of-requires-clause-small : goal.image_of-requires-clause-small
image_of-requires-clause-small c = small_sections c.args.text.now c.in-Ok.layout c.in-Ok-write_sections.sections c.in-Ok.ensures.0 c.in-Ok.ensures.1 c.in-Ok-write_sections.ensures

pub returns-clause-image : goal.returns-clause-image
returns-clause-image c = assembled c.args.text.now c.args.window c.in-Ok.layout c.in-Ok-write_sections.sections c.in_ok-image.image c.in-Ok.ensures.0 c.in-Ok.ensures.1 c.in-Ok-write_sections.ensures c.in_ok-image.ensures
