use Rattle.std.proofs.Common.{replicate}
use Rattle.rv_asm.proofs.Terms.{◌++◌, ◌≡◌}
use Rattle.rv_asm.proofs.writing.push_zeros.Given as goal

abbrev pub invariant-zeros : goal.invariant-zeros
invariant-zeros l = l.out.items ≡ l.initial.out.items ++ replicate l.counter 0
