use Rattle.rx_serve.proofs.Lemmas.{asm_refused, asm_written}
use Rattle.rx_serve.proofs.Terms.{subst, ◌∙◌, Writes}
use Rattle.rx_serve.proofs.AssemblyLemmas.{assembles, writes_cause}
use Rattle.rx_serve.proofs.assembly.assemble_file.Goals as goal

pub returns-in-Ok-write_image-clause-assembles : goal.returns-in-Ok-write_image-clause-assembles
returns-in-Ok-write_image-clause-assembles g c =
    assembles _ _ _ _ _ c.in-Ok.image 0 0 c.write_file.result c.in-Ok.ensures.loads c.in-Ok.ensures.same
    (subst (λ bytes. Writes (g.F.Files.told c.load_text.new.files) (g.F.Files.told c.write_file.new.files) c.args.out.now bytes c.write_file.result)
    (c.as_slice.ensures.value ∙ c.in-Ok-write_image.ensures.bytes) c.write_file.ensures.writes)

pub returns-in-Ok-write_image-clause-cause : goal.returns-in-Ok-write_image-clause-cause
returns-in-Ok-write_image-clause-cause g c =
    writes_cause _ _ _ _ c.args.out.now c.in-Ok.image 0 0 c.write_file.result c.in-Ok.ensures.loads
    (subst (λ bytes. Writes (g.F.Files.told c.load_text.new.files) (g.F.Files.told c.write_file.new.files) c.args.out.now bytes c.write_file.result)
    (c.as_slice.ensures.value ∙ c.in-Ok-write_image.ensures.bytes) c.write_file.ensures.writes)

pub returns-in-Err-clause-calls : goal.returns-in-Err-clause-calls
returns-in-Err-clause-calls g c = asm_refused _ c.args.source.now c.args.out.now _ _ _ _ c.in-Err.answer c.in-Err.ensures.loads c.in-Err.ensures.calls

pub returns-in-Ok-write_image-clause-calls : goal.returns-in-Ok-write_image-clause-calls
returns-in-Ok-write_image-clause-calls g c =
    asm_written _ _ _ c.args.source.now c.args.out.now _ _ _ c.write_file.result c.write_file.ensures.writes c.in-Ok.ensures.calls c.write_file.ensures.calls
