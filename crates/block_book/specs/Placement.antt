-- Where a block is placed: the lowest address of all at which it fits.
use Rattle.std.specs.Prelude.{ℕ, ◌+◌, ◌*◌, ◌%◌, Bool, ◌&&◌, Option, None, length, find, nat_lt, nat_le, ◌==◌, if◌then◌else◌}
use Rattle.std.specs.List.{list_all, range_with_len}
use Rattle.std.specs.Option.{option_map}
use Rattle.block_book.specs.Block.{reserved_size, extent_start, extent_end, is_apart, lies_in}
use Rattle.block_book.specs.Heap.{Heap, most_blocks}

-- an address is a multiple of 16 and at least `from`, and so many bytes from it on lie in the heap and meet no block's extent
unfoldable pub fits : Heap → ℕ → ℕ → ℕ → Bool
fits heap count from at =
    (at % 16 == 0) && nat_le from at && lies_in at count heap.start heap.end
    && list_all (λ block. is_apart at count (extent_start block) (extent_end block)) heap.blocks

-- the least of all addresses that fits
unfoldable pub fit : Heap → ℕ → ℕ → Option ℕ
fit heap count from = find (fits heap count from) (range_with_len 0 (heap.end + 1))

-- The address of a new block of a size, with so many bytes of padding on each side and an extent that begins at `from` or above.
-- There is none where it fits nowhere, or where no more blocks may stand.
unfoldable pub placement : Heap → ℕ → ℕ → ℕ → Option ℕ
placement heap size side from =
    if nat_lt (length heap.blocks) most_blocks
    then option_map (λ extent. extent + side) (fit heap (reserved_size size + 2 * side) from)
    else None
