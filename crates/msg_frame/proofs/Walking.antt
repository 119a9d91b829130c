-- A walk over a piece, message by message.
use Rattle.msg_frame.proofs.Terms.{List, Option, Some, [], ap, arith, drop, length, refl, sym, take, ℕ, ◌++◌, ◌∙◌, ◌∷◌, ◌≡◌, drop_all, take_all, All, Within, Framing, Length, Line, Whole, Parts, behind, cut, cut_bytes, cut_whole, no_message, one_message, IsRest, skipped, left_of}
use Rattle.msg_frame.specs.Ends.{Ends}
use Rattle.msg_frame.proofs.Cutting.{behind-behind}
use Rattle.msg_frame.proofs.Short.{IsShort, cut_keeps, at_parts}

-- one more message
pub walk_on : (framing : Framing) (whole : Option Parts) (rest bytes back : List ℕ) (n : ℕ) (found : List (List ℕ)) → Ends framing rest bytes (Within n) → back ≡ drop n bytes → whole ≡ behind found (cut framing rest bytes) →
    whole ≡ behind (found ++ drop (skipped framing) (rest ++ take n bytes) ∷ []) (cut framing [] back)
walk_on framing whole rest bytes back n found ends is so_far =
    so_far ∙ ap (behind found) ends.3
    ∙ behind-behind found (drop (skipped framing) (rest ++ take n bytes) ∷ []) (cut framing [] (drop n bytes))
    ∙ ap (λ after. behind (found ++ drop (skipped framing) (rest ++ take n bytes) ∷ []) (cut framing [] after)) (sym is)

-- behind a message the old rest is gone
pub left_of-push : (messages : List (List ℕ)) (message rest left : List ℕ) → left_of (messages ++ message ∷ []) rest left ≡ left
left_of-push [] message rest left = refl
left_of-push (first ∷ messages) message rest left = refl

-- what a piece leaves is a rest, and its messages are short
pub takes_keep : (framing : Framing) (rest piece left : List ℕ) (messages : List (List ℕ)) → IsRest framing rest → cut framing rest piece ≡ Some (record { messages = messages; rest = left }) → All IsShort messages × IsRest framing left
takes_keep framing rest piece left messages h is = at_parts framing (cut framing rest piece) (record { messages = messages; rest = left }) is (cut_keeps framing rest piece h)

-- nothing makes no message whole
cut_nothing : (framing : Framing) → cut framing [] [] ≡ no_message []
unfolding cut cut_bytes cut_whole
cut_nothing Line = refl
cut_nothing Length = refl
cut_nothing Whole = refl

-- bytes that are one message, where the first message ends at their end
pub one_of : (framing : Framing) (bytes : List ℕ) (n : ℕ) → Ends framing [] bytes (Within n) → skipped framing ≡ 0 → n ≡ length bytes → cut framing [] bytes ≡ one_message bytes
one_of framing bytes n ends none all =
    ends.3
    ∙ ap (λ k. behind (drop k (take n bytes) ∷ []) (cut framing [] (drop n bytes))) none
    ∙ ap (λ message. behind (message ∷ []) (cut framing [] (drop n bytes))) (take_all n bytes (omega arith))
    ∙ ap (λ rest. behind (bytes ∷ []) (cut framing [] rest)) (drop_all n bytes (omega arith))
    ∙ ap (behind (bytes ∷ [])) (cut_nothing framing)
