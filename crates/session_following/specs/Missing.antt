-- How many bytes clients lack: those that they have, and that weren't sent yet.
use Rattle.std.specs.Prelude.{◌≡◌, ℕ, ◌-◌, ◌<◌, ◌≤◌, ◌^◌, List, length, Option, Some, None, slice_index}
use Rattle.session_following.specs.Terms.{Send, sent_to, count_of}

-- the number at each connection is how many bytes its client has beyond those that were sent to it; so a connection without a number lacks none
abbrev pub IsMissing : List (ℕ × ℕ) → List Send → List ℕ → Type 0
IsMissing counts sends missing = (conn : ℕ) → slice_index missing conn ≡ count_of counts conn - length (sent_to conn sends)

-- below a place no number is more than 0
abbrev pub HasNoneBelow : List ℕ → ℕ → Type 0
HasNoneBelow missing place = (conn : ℕ) → conn < place → slice_index missing conn ≡ 0

-- the least connection that lacks bytes, if one does
abbrev pub IsLeast : List ℕ → Option ℕ → Type 0
IsLeast missing None = (conn : ℕ) → slice_index missing conn ≡ 0
IsLeast missing (Some least) = (0 < slice_index missing least) × HasNoneBelow missing least

-- Below: what the parts of the code answer. Nothing of it is promised to callers of the crate.

-- the number at each connection is its count
abbrev pub HasCounts : List ℕ → List (ℕ × ℕ) → Type 0
HasCounts numbers counts = (conn : ℕ) → slice_index numbers conn ≡ count_of counts conn

-- A place among the numbers is the first from another one on where a number isn't 0, or the end.
pub record IsFirst (numbers : List ℕ) (from place : ℕ) : Type 0 where
  pub inside : place ≤ length numbers
  pub none : (conn : ℕ) → from ≤ conn → conn < place → slice_index numbers conn ≡ 0
  pub some : place < length numbers → 0 < slice_index numbers place

-- each number is of a connection, and none is more than 0 below the place where the search goes on
pub record KeepsCursor (numbers : List ℕ) (cursor : ℕ) : Type 0 where
  pub few : length numbers ≤ 2 ^ 32
  pub inside : cursor ≤ length numbers
  pub none : HasNoneBelow numbers cursor
