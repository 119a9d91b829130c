-- What the allocator may answer: ISO/IEC 9899:2018, 7.22.3. Either a null pointer, or a pointer that is aligned for every type, to a
-- block that is disjoint from every other live one. calloc's block is zeroed; realloc's stands in place of an old one, whose bytes it gets.
-- What else comes with these C leaves open: bytes of no live block.
use Rattle.std.specs.Prelude.{ℕ, ◌+◌, ◌*◌, ◌%◌, ◌^◌, Bool, true, false, not, ◌&&◌, ◌||◌, List, [], ◌∷◌, map, filter, min, Option, None, Some, is_some, option_map, unwrap_or, find, nat_lt, ◌==◌, if◌then◌else◌}
use Rattle.std.specs.List.{list_all}
use Rattle.block_book.specs.declared.block.Block.{Block}
use Rattle.block_book.specs.declared.choice.Ask.{Ask}
use Rattle.block_book.specs.declared.choice.Ask.TheVariants.{Malloc, Calloc, Realloc}
use Rattle.block_book.specs.declared.choice.Choice.{Choice}
use Rattle.block_book.specs.Block.{touched, is_apart, lies_in}

-- the bytes that are asked for
abbrev pub bytes_asked : Ask → ℕ
bytes_asked (Malloc size) = size
bytes_asked (Calloc count size) = count * size
bytes_asked (Realloc old size) = size

-- a calloc
abbrev pub is_calloc : Ask → Bool
is_calloc (Calloc count size) = true
is_calloc _ = false

-- the address of the block in place of which another one is asked for: realloc's old one, unless that is null
abbrev pub replaced : Ask → Option ℕ
replaced (Realloc old size) = if old == 0 then None else Some old
replaced _ = None

-- two asks are the same, with the same numbers
abbrev pub same_ask : Ask → Ask → Bool
same_ask (Malloc size) (Malloc wanted) = size == wanted
same_ask (Calloc count size) (Calloc times wanted) = (count == times) && (size == wanted)
same_ask (Realloc old size) (Realloc at wanted) = (old == at) && (size == wanted)
same_ask _ _ = false

-- the live blocks, each its address and its size
abbrev pub live_blocks : List Block → List (ℕ × ℕ)
live_blocks blocks = map (λ block. (block.at, block.size)) (filter (λ block. not block.delayed) blocks)

-- the size of the live block at an address, if there is one
abbrev pub size_at : ℕ → List (ℕ × ℕ) → Option ℕ
size_at at live = option_map (λ block. block.1) (find (λ block. block.0 == at) live)

-- how many bytes a new block of a size gets from the one that it replaces: as many as both have
abbrev pub kept_count : List (ℕ × ℕ) → ℕ → Option ℕ → ℕ
kept_count live size None = 0
kept_count live size (Some old) = min (unwrap_or (size_at old live) 0) size

-- how many bytes come to a new block from the place of the one that it replaces: those that it gets, and those that are carried behind them
abbrev pub moved_count : List (ℕ × ℕ) → Choice → Option ℕ → ℕ
moved_count live choice None = 0
moved_count live choice (Some old) = kept_count live (bytes_asked choice.ask) (Some old) + choice.carried

-- an address is a multiple of 16, and the bytes of a block of a size there lie in the heap and meet those of no live block
unfoldable pub is_clear : ℕ → ℕ → List (ℕ × ℕ) → ℕ → ℕ → Bool
is_clear start end live at size =
    (at % 16 == 0) && lies_in at (touched size) start end
    && list_all (λ block. is_apart at (touched size) block.0 (block.0 + touched block.1)) live

-- Bytes may be carried in place of an old block alone. All that come from its place lie in the heap there, and where they go. There they
-- meet those of no live block, and none of those that they come from.
unfoldable pub may_carry : ℕ → ℕ → List (ℕ × ℕ) → Choice → Option ℕ → Bool
may_carry start end live choice None = false
may_carry start end live choice (Some old) =
    let count = moved_count live choice (Some old) in
    lies_in old count start end && is_clear start end live choice.at count && is_apart old count choice.at (choice.at + count)

-- an answer that isn't null is a block of at most 4,294,967,295 bytes that is clear of all live ones, and zeroed where calloc asked; and no bytes
-- are carried, or they may be
unfoldable pub is_block : ℕ → ℕ → List (ℕ × ℕ) → Choice → Bool
is_block start end live choice =
    nat_lt (bytes_asked choice.ask) (2 ^ 32) && is_clear start end live choice.at (bytes_asked choice.ask) && (choice.zeroed || not (is_calloc choice.ask))
    && ((choice.carried == 0) || may_carry start end live choice (replaced choice.ask))

-- C allows this answer to an ask: it is an answer to that ask, and null that isn't zeroed and carries nothing, or a block
unfoldable pub is_allowed : ℕ → ℕ → List (ℕ × ℕ) → Ask → Choice → Bool
is_allowed start end live ask choice = same_ask choice.ask ask && (((choice.at == 0) && not choice.zeroed && (choice.carried == 0)) || is_block start end live choice)

-- a live block stands where an ask wants another one in its place
abbrev pub has_replaced : List (ℕ × ℕ) → Option ℕ → Bool
has_replaced live None = true
has_replaced live (Some old) = is_some (size_at old live)

-- C defines an ask: what it replaces, if anything, is a live block
abbrev pub is_defined : List (ℕ × ℕ) → Ask → Bool
is_defined live ask = has_replaced live (replaced ask)

-- the live blocks with one more, in its place by address
abbrev pub insert_live : ℕ × ℕ → List (ℕ × ℕ) → List (ℕ × ℕ)
insert_live new [] = new ∷ []
insert_live new (block ∷ blocks) = if nat_lt new.0 block.0 then new ∷ (block ∷ blocks) else block ∷ insert_live new blocks

-- the live blocks without the one at an address
abbrev pub without_live : ℕ → List (ℕ × ℕ) → List (ℕ × ℕ)
without_live at live = filter (λ block. not (block.0 == at)) live

-- the live blocks without the one that is replaced
abbrev pub without_replaced : Option ℕ → List (ℕ × ℕ) → List (ℕ × ℕ)
without_replaced None live = live
without_replaced (Some old) live = without_live old live

-- The live blocks after an answer: the new one is live, and the one that it replaces isn't any more. Where it is null nothing changes.
abbrev pub live_with : Choice → List (ℕ × ℕ) → List (ℕ × ℕ)
live_with choice live =
    if choice.at == 0 then live else without_replaced (replaced choice.ask) (insert_live (choice.at, bytes_asked choice.ask) live)
