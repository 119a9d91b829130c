use Rattle.elf_file.proofs.Terms.{None, length, rules, ◌≡◌, table_refusal}
use Rattle.elf_file.proofs.Refusing.{segments_unrefused, all_full}
use Rattle.elf_file.proofs.refused_field.field_of_segments.Goals as goal

pub field_of_overlap-requires-clause-full : goal.field_of_overlap-requires-clause-full
field_of_overlap-requires-clause-full c =
    let unrefused : table_refusal (length c.args.bytes.now) c.args.headers.now ≡ None = search rules in
    all_full c.args.bytes.now c.args.headers.now (segments_unrefused _ _ unrefused)
