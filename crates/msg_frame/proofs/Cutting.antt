-- Messages of bytes that come in parts.
use Rattle.msg_frame.proofs.Terms.{List, None, Option, Some, [], ap, append_assoc, refl, sym, ℕ, ◌++◌, ◌∙◌, ◌∷◌, ◌≡◌, ◌≢◌, concat, Framing, Length, Line, Whole, Parts, behind, cut, cut_all, cut_bytes, length_byte, line_byte, then_cut, BytesDecide, CutsAgree, PiecesJoin}

pub behind-nothing : (parts : Option Parts) → behind [] parts ≡ parts
behind-nothing None = refl
behind-nothing (Some parts) = refl

pub behind-behind : (xs ys : List (List ℕ)) (parts : Option Parts) → behind xs (behind ys parts) ≡ behind (xs ++ ys) parts
behind-behind xs ys None = refl
behind-behind xs ys (Some parts) = rw append_assoc refl

behind-then_cut : (xs : List (List ℕ)) (parts : Option Parts) (f : List ℕ → Option Parts) → then_cut (behind xs parts) f ≡ behind xs (then_cut parts f)
behind-then_cut xs None f = refl
behind-then_cut xs (Some parts) f = sym (behind-behind xs parts.messages (f parts.rest))

then_cut_same : (parts : Option Parts) (f g : List ℕ → Option Parts) → ((rest : List ℕ) → f rest ≡ g rest) → then_cut parts f ≡ then_cut parts g
then_cut_same None f g same = refl
then_cut_same (Some parts) f g same = ap (behind parts.messages) (same parts.rest)

then_cut-then_cut : (parts : Option Parts) (f g : List ℕ → Option Parts) → then_cut (then_cut parts f) g ≡ then_cut parts (λ rest. then_cut (f rest) g)
then_cut-then_cut None f g = refl
then_cut-then_cut (Some parts) f g = behind-then_cut parts.messages (f parts.rest) g

-- bytes that come in two parts
pub cut_bytes-append : (add : List ℕ → ℕ → Option Parts) (rest xs ys : List ℕ) → cut_bytes add rest (xs ++ ys) ≡ then_cut (cut_bytes add rest xs) (λ more. cut_bytes add more ys)
unfolding cut_bytes
cut_bytes-append add rest [] ys = sym (behind-nothing (cut_bytes add rest ys))
cut_bytes-append add rest (x ∷ xs) ys =
    then_cut_same (add rest x) (λ more. cut_bytes add more (xs ++ ys)) (λ more. then_cut (cut_bytes add more xs) (λ last. cut_bytes add last ys)) (λ more. cut_bytes-append add more xs ys)
    ∙ sym (then_cut-then_cut (add rest x) (λ more. cut_bytes add more xs) (λ last. cut_bytes add last ys))

pub pieces_join : PiecesJoin
unfolding cut
pieces_join Line rest xs ys h = cut_bytes-append line_byte rest xs ys
pieces_join Length rest xs ys h = cut_bytes-append length_byte rest xs ys
pieces_join Whole rest xs ys h = absurd (h refl)

bytes_decide_none : (framing : Framing) (rest : List ℕ) → framing ≢ Whole → cut_all framing rest [] ≡ cut framing rest []
unfolding cut cut_bytes
bytes_decide_none Line rest h = refl
bytes_decide_none Length rest h = refl
bytes_decide_none Whole rest h = absurd (h refl)

pub bytes_decide : BytesDecide
bytes_decide framing rest [] h = bytes_decide_none framing rest h
bytes_decide framing rest (piece ∷ pieces) h =
    then_cut_same (cut framing rest piece) (λ more. cut_all framing more pieces) (λ more. cut framing more (concat pieces)) (λ more. bytes_decide framing more pieces h)
    ∙ sym (pieces_join framing rest piece (concat pieces) h)

pub cuts_agree : CutsAgree
cuts_agree framing pieces others h same = bytes_decide framing [] pieces h ∙ ap (cut framing []) same ∙ sym (bytes_decide framing [] others h)
