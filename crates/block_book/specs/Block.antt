-- A block of a heap, and the bytes that it keeps for itself.
use Rattle.std.specs.Prelude.{◌≡◌, ℕ, ◌+◌, ◌-◌, ◌*◌, ◌/◌, ◌%◌, ◌≤◌, Bool, ◌||◌, ◌&&◌, false, max, nat_le}
use Rattle.block_book.specs.declared.block.Block.{Block}
use Rattle.block_book.specs.declared.site.Site.{Site}

-- the bytes that a block of a size reserves: the size rounded up to a multiple of 16, and 16 where it is 0
unfoldable pub reserved_size : ℕ → ℕ
reserved_size size = max ((size + 15) / 16 * 16) 16

-- the bytes of a block that its owner may touch: a block of size 0 counts as one byte
abbrev pub touched : ℕ → ℕ
touched size = max size 1

-- a block's extent, its padding included, begins here
abbrev pub extent_start : Block → ℕ
extent_start block = block.at - block.side

-- and ends before here
abbrev pub extent_end : Block → ℕ
extent_end block = block.at + reserved_size block.size + block.side

-- how many bytes a block's extent has from the block's address on
abbrev pub reach : Block → ℕ
reach block = reserved_size block.size + block.side

-- so many bytes from an address on share none with those from one address up to another
abbrev pub is_apart : ℕ → ℕ → ℕ → ℕ → Bool
is_apart at count from to = nat_le (at + count) from || nat_le to at

-- so many bytes from an address on are among those from one address up to another
abbrev pub lies_in : ℕ → ℕ → ℕ → ℕ → Bool
lies_in at count from to = nat_le from at && nat_le (at + count) to

-- a block's address and its padding are multiples of 16; the padding is at most 256 bytes, and begins at 0 or above
pub record IsAligned (block : Block) : Type 0 where
  pub at_multiple : block.at % 16 ≡ 0
  pub side_multiple : block.side % 16 ≡ 0
  pub side_small : block.side ≤ 256
  pub side_within : block.side ≤ block.at

-- a live block, which was asked for at a site
abbrev pub live_block : ℕ → ℕ → ℕ → Site → Block
live_block at size side made = record { at = at; size = size; side = side; delayed = false; made = made }
