-- What a line is read as. A line tells two numbers by its places, whatever stands there; it is of its form exactly where they are in
-- their ranges and it is what is written of them.
use Rattle.std.specs.Prelude.{ℕ, ◌^◌, Bool, ◌&&◌, List, Option, nat_le, nat_lt}
use Rattle.text_lines.specs.Numbers.{first_number, second_number}
use Rattle.text_lines.specs.Written.{if_written}
use Rattle.rx_base.specs.declared.item.TheConstants.{CONNECTIONS}
use Rattle.counts_file.specs.Lines.{written_count}

abbrev pub count_told : List ℕ → ℕ × ℕ
count_told line = (first_number line, second_number line)

-- a connection from this one on, and its count
abbrev pub is_count : ℕ → ℕ × ℕ → Bool
is_count least line = (nat_le least line.0 && nat_lt line.0 CONNECTIONS) && nat_lt line.1 (2 ^ 63)

unfoldable pub count_in : ℕ → List ℕ → Option (ℕ × ℕ)
count_in least line = if_written (is_count least) written_count (count_told line) line
