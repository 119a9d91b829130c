-- Frames at the front of the same bytes: the events of the one list are the first ones of the other.
use Rattle.links.specs.declared.journal.LinkEvent.TheVariants as event
use Rattle.routes.proofs.Terms.{List, [], ap, append_assoc, arith, drop, inl, inr, length, length-append, refl, subst, sym, ℕ, ◌++◌, ◌+◌, ◌∙◌, ◌∷◌, ◌≡◌, ◌⊎◌, drop-append_seam, Prefix, LinkEvent, IsInOrder, Phases, phases_after, frame-accepted, front-accepted, AreFramesOf, IsFrameOf, AreInOrder, phases_behind, Whole, front}

-- a frame is as long as its event says
abbrev payload_size : LinkEvent → ℕ
payload_size (event.Piece conn payload) = length payload
payload_size other = 0

frame_length : (event : LinkEvent) (bytes : List ℕ) → IsFrameOf event bytes → length bytes ≡ 5 + payload_size event
frame_length (event.Opens conn) bytes is = ap length is.is
frame_length (event.Piece conn payload) bytes is = omega (arith, ap length is.is)
frame_length (event.Closes conn) bytes is = ap length is.is
frame_length event.Settles bytes is = ap length is.1.is
frame_length event.Ends bytes is = absurd is

-- at the front of the same bytes stands one frame, and the same bytes are behind it
one_frame : (phases : Phases) (first other : LinkEvent) (one two behind after : List ℕ) → IsInOrder phases first → IsInOrder phases other → IsFrameOf first one → IsFrameOf other two → one ++ behind ≡ two ++ after
    → (first ≡ other) × (behind ≡ after)
one_frame phases first other one two behind after order other_order is other_is same =
    let here : Whole first ≡ Whole other =
    sym (front-accepted phases first one behind (frame-accepted phases first one is order)) ∙ ap (front phases) same ∙ front-accepted phases other two after (frame-accepted phases other two other_is other_order) in
    let event_is : first ≡ other = cc in
    let long : length one ≡ length two = frame_length first one is ∙ ap (λ e. 5 + payload_size e) event_is ∙ sym (frame_length other two other_is) in
    (event_is, sym (drop-append_seam one behind) ∙ ap (drop (length one)) same ∙ ap (λ n. drop n (two ++ after)) long ∙ drop-append_seam two after)

longer : (first other : LinkEvent) (list others : List LinkEvent) → first ≡ other → Prefix list others → Prefix (first ∷ list) (other ∷ others)
longer first other list others same front = (front.0, ap (λ l. first ∷ l) front.1 ∙ ap (λ e. e ∷ others) same)

pub two_readings : (phases : Phases) (list others : List LinkEvent) (bytes more front_bytes rest : List ℕ) → AreInOrder phases list → AreInOrder phases others → AreFramesOf list bytes → AreFramesOf others front_bytes
    → bytes ++ more ≡ front_bytes ++ rest → Prefix list others ⊎ Prefix others list
two_readings phases [] others bytes more front_bytes rest order other_order are others_are same = inl (others, refl)
two_readings phases (first ∷ list) [] bytes more front_bytes rest order other_order are others_are same = inr (first ∷ list, refl)
two_readings phases (first ∷ list) (other ∷ others) bytes more front_bytes rest order other_order (one, behind, whole, is, are) (two, after, other_whole, other_is, others_are) same =
    let stream : one ++ (behind ++ more) ≡ two ++ (after ++ rest) =
    sym (ap (λ l. l ++ more) whole ∙ append_assoc one behind more) ∙ same ∙ ap (λ l. l ++ rest) other_whole ∙ append_assoc two after rest in
    let both = one_frame phases first other one two (behind ++ more) (after ++ rest) order.0 other_order.0 is other_is stream in
    elim (two_readings (phases_after first phases) list others behind more after rest order.1 (subst (λ e. AreInOrder (phases_after e phases) others) (sym both.0) other_order.1) are others_are both.1) [
      | inl found ↦ inl (longer first other list others both.0 found)
      | inr found ↦ inr (longer other first others list (sym both.0) found)
    ]

-- where the other frames are all of the bytes, no event is missing among theirs
pub whole_reading : (phases : Phases) (list others : List LinkEvent) (bytes more all : List ℕ) → AreInOrder phases list → AreInOrder phases others → AreFramesOf list bytes → AreFramesOf others all
    → bytes ++ more ≡ all → Prefix list others
whole_reading phases [] others bytes more all order other_order are others_are same = (others, refl)
whole_reading phases (first ∷ list) [] bytes more all order other_order (one, behind, whole, is, are) none same =
    absurd (omega (arith, ap length (same ∙ none), ap length whole, length-append bytes more, length-append one behind, frame_length first one is))
whole_reading phases (first ∷ list) (other ∷ others) bytes more all order other_order (one, behind, whole, is, are) (two, after, other_whole, other_is, others_are) same =
    let both = one_frame phases first other one two (behind ++ more) after order.0 other_order.0 is other_is (sym (ap (λ l. l ++ more) whole ∙ append_assoc one behind more) ∙ same ∙ other_whole) in
    let later : AreInOrder (phases_after first phases) others = subst (λ e. AreInOrder (phases_after e phases) others) (sym both.0) other_order.1 in
    longer first other list others both.0 (whole_reading (phases_after first phases) list others behind more after order.1 later are others_are both.1)

-- behind the frames of the first of some events the frame of the next one stands
pub next_frame : (phases : Phases) (list others rest : List LinkEvent) (next : LinkEvent) (bytes more front_bytes left : List ℕ) → AreInOrder phases list → AreInOrder phases others → AreFramesOf list bytes
    → AreFramesOf others front_bytes → list ≡ others ++ next ∷ rest → bytes ++ more ≡ front_bytes ++ left → front (phases_behind others phases) left ≡ Whole next
next_frame phases [] [] rest next bytes more front_bytes left order other_order are others_are longer_is same = absurd (cc)
next_frame phases [] (other ∷ others) rest next bytes more front_bytes left order other_order are others_are longer_is same = absurd (cc)
next_frame phases (first ∷ list) [] rest next bytes more front_bytes left order other_order (one, behind, whole, is, are) none longer_is same =
    let event_is : first ≡ next = cc in
    let stream : left ≡ one ++ (behind ++ more) = ap (λ l. l ++ left) (sym none) ∙ sym same ∙ ap (λ l. l ++ more) whole ∙ append_assoc one behind more in
    ap (front phases) stream ∙ front-accepted phases first one (behind ++ more) (frame-accepted phases first one is order.0) ∙ ap Whole event_is
next_frame phases (first ∷ list) (other ∷ others) rest next bytes more front_bytes left order other_order (one, behind, whole, is, are) (two, after, other_whole, other_is, others_are) longer_is same =
    let stream : one ++ (behind ++ more) ≡ two ++ (after ++ left) =
    sym (ap (λ l. l ++ more) whole ∙ append_assoc one behind more) ∙ same ∙ ap (λ l. l ++ left) other_whole ∙ append_assoc two after left in
    let both = one_frame phases first other one two (behind ++ more) (after ++ left) order.0 other_order.0 is other_is stream in
    next_frame (phases_after other phases) list others rest next behind more after left (subst (λ e. AreInOrder (phases_after e phases) list) both.0 order.1) other_order.1 are others_are (ap (drop 1) longer_is) both.1

-- frames of the same events are the same bytes, so nothing stands behind the one where the other is all
pub none_behind : (phases : Phases) (list : List LinkEvent) (bytes more all : List ℕ) → AreInOrder phases list → AreFramesOf list bytes → AreFramesOf list all → bytes ++ more ≡ all → more ≡ []
none_behind phases [] bytes more all order are all_are same = ap (λ l. l ++ more) (sym are) ∙ same ∙ all_are
none_behind phases (first ∷ list) bytes more all order (one, behind, whole, is, are) (two, after, other_whole, other_is, others_are) same =
    let both = one_frame phases first first one two (behind ++ more) after order.0 order.0 is other_is (sym (ap (λ l. l ++ more) whole ∙ append_assoc one behind more) ∙ same ∙ other_whole) in
    none_behind (phases_after first phases) list behind more after order.1 are others_are both.1
