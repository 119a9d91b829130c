-- What holds of every stream.
use Rattle.std.specs.Prelude.{◌≡◌, ◌≢◌, ℕ, ◌+◌, ◌≤◌, List, ◌++◌, length, Some, All}
use Rattle.std.specs.List.{concat}
use Rattle.msg_frame.specs.declared.framing.Framing.{Framing}
use Rattle.msg_frame.specs.declared.framing.Framing.TheVariants.{Whole}
use Rattle.msg_frame.specs.declared.framing.TheConstants.{MAX_MESSAGE, NUMBER_BYTES}
use Rattle.msg_frame.specs.Messages.{Parts, then_cut, cut, cut_all, messages}

-- by lines and by length, two pieces are cut as one: refused is the one exactly where the other is
abbrev pub PiecesJoin : Type 0
PiecesJoin =
    (framing : Framing) (rest xs ys : List ℕ) → framing ≢ Whole →
    cut framing rest (xs ++ ys) ≡ then_cut (cut framing rest xs) (λ more. cut framing more ys)

-- by lines and by length, the messages of pieces, their rest and their refusal depend on the joined bytes alone
abbrev pub BytesDecide : Type 0
BytesDecide =
    (framing : Framing) (rest : List ℕ) (pieces : List (List ℕ)) → framing ≢ Whole →
    cut_all framing rest pieces ≡ cut framing rest (concat pieces)

-- so two cuts of the same bytes into pieces have the same messages
abbrev pub CutsAgree : Type 0
CutsAgree =
    (framing : Framing) (pieces others : List (List ℕ)) → framing ≢ Whole → concat pieces ≡ concat others →
    messages framing pieces ≡ messages framing others

-- no message of a stream, and no rest, is longer than this
abbrev pub MessagesAreShort : Type 0
MessagesAreShort =
    (framing : Framing) (pieces : List (List ℕ)) (parts : Parts) → messages framing pieces ≡ Some parts →
    All (λ message. length message ≤ MAX_MESSAGE) parts.messages × (length parts.rest ≤ MAX_MESSAGE + NUMBER_BYTES)
