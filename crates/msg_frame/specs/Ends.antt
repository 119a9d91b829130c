-- Where the first message ends that some bytes make whole.
use Rattle.std.specs.Prelude.{◌≡◌, ℕ, ◌+◌, ◌<◌, ◌≤◌, List, [], ◌∷◌, ◌++◌, take, drop, length, None}
use Rattle.msg_frame.specs.declared.framing.Framing.{Framing}
use Rattle.msg_frame.specs.declared.ends.End.{End}
use Rattle.msg_frame.specs.declared.ends.End.TheVariants.{Refused, Missing, Within}
use Rattle.msg_frame.specs.Messages.{no_message, behind, cut}
use Rattle.msg_frame.specs.Skipped.{skipped}

-- what the bytes behind a rest are, by the end of the first message
abbrev pub Ends : Framing → List ℕ → List ℕ → End → Type 0
Ends framing rest bytes Refused = cut framing rest bytes ≡ None
Ends framing rest bytes Missing = cut framing rest bytes ≡ no_message (rest ++ bytes)
Ends framing rest bytes (Within n) =
    (0 < n) × (n ≤ length bytes) × (skipped framing ≤ length rest + n)
    × (cut framing rest bytes ≡ behind (drop (skipped framing) (rest ++ take n bytes) ∷ []) (cut framing [] (drop n bytes)))
