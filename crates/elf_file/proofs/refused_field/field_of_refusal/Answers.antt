use Rattle.elf_file.proofs.Terms.{None, ap, arith, length, rules, subst, sym, true, ◌∙◌, ◌≡◌, is_some, program_headers, header_refusal, HasTable}
use Rattle.elf_file.proofs.Headers.{has_table}
use Rattle.elf_file.proofs.Refusing.{header_lies}
use Rattle.elf_file.proofs.Found.{header_field_found}
use Rattle.elf_file.proofs.refused_field.field_of_refusal.Goals as goal

pub field_of_segments-requires-clause-table : goal.field_of_segments-requires-clause-table
field_of_segments-requires-clause-table c =
    let unrefused : header_refusal c.args.bytes.now ≡ None = search rules in
    subst (HasTable c.args.bytes.now) (sym (ap length (c.deref.ensures.value ∙ c.in_ok-headers.ensures.value))) (has_table c.args.bytes.now unrefused)

pub returns-then-bytes-lt-HEADER-clause-first : goal.returns-then-bytes-lt-HEADER-clause-first
returns-then-bytes-lt-HEADER-clause-first c h = absurd (omega (arith, header_lies c.args.bytes.now h))

pub returns-then-is_some-clause-first : goal.returns-then-is_some-clause-first
returns-then-is_some-clause-first c h =
    let some : is_some c.field_of_header-field.result ≡ true = search rules in
    header_field_found c.args.bytes.now (program_headers c.args.bytes.now) c.args.window c.args.number c.field_of_header-field.result c.field_of_header-field.ensures.place some
