-- What holds of the definitions alone: a line that is written is read as what it says, and what one call makes of some bytes, the other makes them again.
use Rattle.std.specs.Prelude.{◌≡◌, ℕ, List, [], ◌∷◌, ◌++◌, length, flat_map, Some, All, Ok}
use Rattle.trunk_text.specs.Terms.{IsDrained, Stream, FitsTwoBytes, Flaw, Line, Closes, Nothing, Opens, Piece, Settles}
use Rattle.trunk_text.specs.declared.turning.Ended.{Ended}
use Rattle.trunk_text.specs.declared.turning.Ended.TheVariants.{Finished, Refused}
use Rattle.trunk_text.specs.Lines.{line_of, text_of}
use Rattle.trunk_text.specs.Frames.{IsFrameOf, frame_of}
use Rattle.trunk_text.specs.Turns.{Way, Goes, Moved}
use Rattle.trunk_text.specs.Framing.{IsLine, framing}
use Rattle.trunk_text.specs.Unframing.{unframing}

-- the numbers of a line fit two bytes: its connection, and how many bytes its piece has
abbrev pub IsSound : Line → Type 0
IsSound (Opens conn) = FitsTwoBytes conn
IsSound (Piece conn bytes) = FitsTwoBytes conn × FitsTwoBytes (length bytes)
IsSound (Closes conn) = FitsTwoBytes conn
IsSound Settles = Unit {0}
IsSound Nothing = Unit {0}

-- a line that is written has no line feed within, isn't too long, and is read as what it says
abbrev pub LinesReadBack : Type 0
LinesReadBack = (says : Line) → IsSound says → IsLine (text_of says) × (line_of (text_of says) ≡ Ok says)

-- a call takes bytes of an input, so that these are left, and all that it writes is this output
abbrev pub Runs : Way → List ℕ → List ℕ → List ℕ → Ended → Type 0
Runs way input left output ended = Goes way (λ from to. (input ≡ from ++ left) × (to ≡ output)) (left ≡ []) ended

-- What the clauses of `frame_lines` and `unframe` say of a source and a sink that tell their bytes: each call is such a run, of the bytes that were left
-- before and after it, and of those that were put behind the old ones
abbrev pub CallsRun : Type 0
CallsRun =
    (before after : Stream) (old new output : List ℕ) (ended : Ended) → new ≡ old ++ output →
    (Goes framing (Moved (Some before) (Some after) (Some old) (Some new)) (IsDrained (Some after)) ended → Runs framing before.left after.left output ended)
    × (Goes unframing (Moved (Some before) (Some after) (Some old) (Some new)) (IsDrained (Some after)) ended → Runs unframing before.left after.left output ended)

-- a frame becomes the frame of what it says: itself, but a settle is one of connection 0
abbrev pub Reframes : List ℕ → List ℕ → Type 0
Reframes from to = (says : Line) × IsFrameOf says from × (to ≡ frame_of says)

abbrev pub reframing : Way
reframing = record unframing { Turns = Reframes }

-- framing what was unframed gives the same frames
abbrev pub FramesComeBack : Type 0
FramesComeBack =
    (bytes lines again left behind : List ℕ) → Runs unframing bytes left lines Finished → Runs framing lines behind again Finished → Runs reframing bytes left again Finished

-- bytes are the frames of lines, so that each settle is one of connection 0
abbrev pub ArePlain : List ℕ → Type 0
ArePlain bytes = (lines : List Line) × All IsSound lines × (bytes ≡ flat_map frame_of lines)

-- such bytes come back as they were
abbrev pub PlainComeBack : Type 0
PlainComeBack =
    (bytes lines again left behind : List ℕ) → ArePlain bytes → Runs unframing bytes left lines Finished → Runs framing lines behind again Finished → again ≡ bytes

-- and no line of what was unframed is refused
abbrev pub LinesAreTaken : Type 0
LinesAreTaken =
    (bytes lines again left behind : List ℕ) (flaw : Flaw) (offset : ℕ) → Runs unframing bytes left lines Finished → Runs framing lines behind again (Refused flaw offset) → ⊥

-- How a line is spelled that says something, with its line feed; one that says nothing is left out. An arrow is `<`. Of a piece's bytes only the backslash and
-- the control bytes are escaped: by `n`, `r`, `t`, a backslash, or `x` and two digits in lower case. Its last line feed is left out; where there is none, a
-- single backslash stands at the end
abbrev pub spelling : Line → List ℕ
spelling Nothing = []
spelling says = text_of says ++ 10 ∷ []

-- a line becomes the spelling of what it says
abbrev pub Respells : List ℕ → List ℕ → Type 0
Respells line to = (says : Line) × IsLine line × (line_of line ≡ Ok says) × (to ≡ spelling says)

abbrev pub RespellsFed : List ℕ → List ℕ → Type 0
RespellsFed from to = (line : List ℕ) × (from ≡ line ++ 10 ∷ []) × Respells line to

abbrev pub respelling : Way
respelling = record framing { Turns = RespellsFed; Last = Respells }

-- unframing what was framed gives the same lines, each as it is spelled
abbrev pub LinesComeBack : Type 0
LinesComeBack =
    (lines bytes again left behind : List ℕ) → Runs framing lines left bytes Finished → Runs unframing bytes behind again Finished → Runs respelling lines left again Finished

-- and no frame of what was framed is refused
abbrev pub FramesAreTaken : Type 0
FramesAreTaken =
    (lines bytes again left behind : List ℕ) (flaw : Flaw) (offset : ℕ) → Runs framing lines left bytes Finished → Runs unframing bytes behind again (Refused flaw offset) → ⊥
