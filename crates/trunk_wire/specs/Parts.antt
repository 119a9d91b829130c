-- Bytes that are read one after another: each is put to the part of a frame that was read, until that part is a whole frame.
use Rattle.std.specs.Prelude.{ℕ, ◌-◌, List, [], ◌∷◌, ◌++◌, length, drop, Option, None, Some}

-- what was read whole so far, the state behind it, and the part of a frame behind that
pub record Progress (S X : Type 0) : Type 0 where
  pub whole : List X
  pub state : S
  pub part : List ℕ

-- how parts are read: what a part is as a whole frame, if it is one, and the state after it
pub record Reader (S X : Type 0) : Type 0 where
  pub whole_of : S → List ℕ → Option X
  pub after : X → S → S

-- the part goes on, or it is a whole frame and the next one begins
abbrev pub put_part : {S X : Type 0} → Reader S X → Progress S X → List ℕ → Option X → Progress S X
put_part reader progress part None = record progress { part = part }
put_part reader progress part (Some one) = record { whole = progress.whole ++ one ∷ []; state = reader.after one progress.state; part = [] }

-- one more byte was read
abbrev pub put_byte : {S X : Type 0} → Reader S X → Progress S X → ℕ → Progress S X
put_byte reader progress byte = put_part reader progress (progress.part ++ byte ∷ []) (reader.whole_of progress.state (progress.part ++ byte ∷ []))

-- more bytes were read, one behind the other
abbrev pub put_bytes : {S X : Type 0} → Reader S X → Progress S X → List ℕ → Progress S X
put_bytes reader progress [] = progress
put_bytes reader progress (byte ∷ bytes) = put_bytes reader (put_byte reader progress byte) bytes

-- the last so many bytes
abbrev pub last_bytes : ℕ → List ℕ → List ℕ
last_bytes count bytes = drop (length bytes - count) bytes
