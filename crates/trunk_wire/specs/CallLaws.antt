-- What several calls on the trunk take and write, one after another.
use Rattle.std.proofs.Common.{◌≡◌, ℕ, ◌+◌, List, [], ◌++◌, length, Option, arith, sym, ap, ◌∙◌, length-append}
use Rattle.rx_base.proofs.Composing.{took_nothing, took_more, gave_nothing, gave_more}
use Rattle.trunk_wire.specs.Terms.{Stream}
use Rattle.trunk_wire.specs.Calls.{Reads, Writes, count_after}

-- a count goes on by none, and by a sum
pub count_nothing : (count : ℕ) → count ≡ count_after count 0
count_nothing count = omega arith

count_more : (before mid now m n : ℕ) → mid ≡ count_after before m → now ≡ count_after mid n → now ≡ count_after before (m + n)
count_more before mid now m n first second = omega arith

-- no byte was taken
pub reads_nothing : (source : Option Stream) (count : ℕ) → Reads source source count count []
reads_nothing source count = record { took = took_nothing source; count = count_nothing count }

-- two reads, one behind the other, took the bytes of both
pub reads_more : (old mid new : Option Stream) (before between now : ℕ) (bytes more : List ℕ) → Reads old mid before between bytes → Reads mid new between now more → Reads old new before now (bytes ++ more)
reads_more old mid new before between now bytes more first second = record {
  took = took_more old mid new bytes more first.took second.took;
  count = count_more before between now (length bytes) (length more) first.count second.count ∙ ap (count_after before) (sym (length-append bytes more));
}

-- no byte was written
pub writes_nothing : (sink : Option (List ℕ)) (count : ℕ) → Writes sink sink count count []
writes_nothing sink count = record { wrote = gave_nothing sink; count = count_nothing count }

-- two writes, one behind the other, wrote the bytes of both
pub writes_more : (old mid new : Option (List ℕ)) (before between now : ℕ) (bytes more : List ℕ) → Writes old mid before between bytes → Writes mid new between now more → Writes old new before now (bytes ++ more)
writes_more old mid new before between now bytes more first second = record {
  wrote = gave_more old mid new bytes more first.wrote second.wrote;
  count = count_more before between now (length bytes) (length more) first.count second.count ∙ ap (count_after before) (sym (length-append bytes more));
}
