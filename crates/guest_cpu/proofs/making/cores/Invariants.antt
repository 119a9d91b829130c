use Rattle.guest_cpu.proofs.Terms.{All, length, ◌≡◌, IsStartCore}
use Rattle.guest_cpu.proofs.making.cores.Given as goal

abbrev pub invariant-loop : goal.invariant-loop
invariant-loop l = record {
  many : length l.cores.items ≡ l.counter;
  each : All (IsStartCore l.fn.image) l.cores.items;
}
