-- An image is what it says: two with the same entry, window and segments are one.
use Rattle.std.proofs.Math.Path.{PathP, to_path_p}
use Rattle.std.proofs.Props.{props}
use Rattle.guest_image.proofs.Terms.{List, None, length, ℕ, ◌<◌, ◌^◌, ◌≡◌, All, Image, Segment, IsPlaced, IsWindow, layout_refusal}

window_prop : (window : ℕ) → IsProp (IsWindow window)
window_prop window = hlevel props

placed_prop : (segments : List Segment) → IsProp (All IsPlaced segments)
placed_prop segments = hlevel props

few_prop : (segments : List Segment) → IsProp (length segments < 2 ^ 16)
few_prop segments = hlevel props

accepted_prop : (entry window : ℕ) (segments : List Segment) → IsProp (layout_refusal entry window segments ≡ None)
accepted_prop entry window segments = hlevel props

-- a fact that holds of one value in one way at most, along equal values
along : {A : Type 0} (P : A → Type 0) → ((x : A) → IsProp (P x)) → (x y : A) (e : x ≡ y) (p : P x) (q : P y) → PathP (λ i. P (e i)) p q
along P prop x y e p q = to_path_p (λ i. P (e i)) {a = p} {b = q} (prop y _ q)

pub same_image : (a b : Image) → a.entry ≡ b.entry → a.window ≡ b.window → a.segments ≡ b.segments → a ≡ b
same_image a b entry window segments =
    let accepted : PathP (λ i. layout_refusal (entry i) (window i) (segments i) ≡ None) a.accepted b.accepted =
    to_path_p (λ i. layout_refusal (entry i) (window i) (segments i) ≡ None) {a = a.accepted} {b = b.accepted} (accepted_prop b.entry b.window b.segments _ b.accepted) in
    λ i. record {
      entry = entry i;
      window = window i;
      segments = segments i;
      in_window = along IsWindow window_prop a.window b.window window a.in_window b.in_window i;
      placed = along (λ s. All IsPlaced s) placed_prop a.segments b.segments segments a.placed b.placed i;
      few = along (λ s. length s < 2 ^ 16) few_prop a.segments b.segments segments a.few b.few i;
      accepted = accepted i;
    }
