use Rattle.elf_file.proofs.Terms.{ap, arith, length}
use Rattle.elf_file.proofs.Headers.{length-headers_from}
use Rattle.elf_file.proofs.program_header.read_headers.Goals as goal

pub returns-clause-few : goal.returns-clause-few
returns-clause-few c =
    omega (arith, ap length c.headers.invariant, length-headers_from c.args.offset c.headers.i c.args.bytes.now)
