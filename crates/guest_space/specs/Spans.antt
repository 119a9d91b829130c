-- What may be touched of a window.
use Rattle.std.specs.Prelude.{ℕ}

-- Addresses from one up to another, which isn't part of it, and what may be done with their bytes: the flags of a
-- program header (System V ABI, "Segment Permissions").
pub record Span : Type 0 where
  pub flags : ℕ
  pub start : ℕ
  pub end : ℕ
