-- Of reserved sizes.
use Rattle.block_book.proofs.Terms.{arith, ℕ, ◌%◌, ◌+◌, ◌≡◌, ◌≤◌, reserved_size, touched}

pub reserved-multiple : (size : ℕ) → reserved_size size % 16 ≡ 0
unfolding reserved_size
reserved-multiple size = omega arith

pub reserved-least : (size : ℕ) → 16 ≤ reserved_size size
unfolding reserved_size
reserved-least size = omega arith

pub reserved-touched : (size : ℕ) → touched size ≤ reserved_size size
unfolding reserved_size
reserved-touched size = omega arith

-- where the bytes that may be touched end at a multiple of 16 or below, the reserved ones do
pub reserved-within : (at size end : ℕ) → at % 16 ≡ 0 → end % 16 ≡ 0 → at + touched size ≤ end → at + reserved_size size ≤ end
unfolding reserved_size
reserved-within at size end a e h = omega arith
