-- What stands before a message.
use Rattle.std.specs.Prelude.{ℕ}
use Rattle.msg_frame.specs.declared.framing.Framing.{Framing}
use Rattle.msg_frame.specs.declared.framing.Framing.TheVariants.{Line, Length, Whole}
use Rattle.msg_frame.specs.declared.framing.TheConstants.{NUMBER_BYTES}

-- how many bytes stand before a message and are no part of it
abbrev pub skipped : Framing → ℕ
skipped Line = 0
skipped Length = NUMBER_BYTES
skipped Whole = 0
